use Rattle.std.proofs.Common.{◌∙◌, ◌≡◌, ap, codes, subst, List, [], ◌∷◌}
use Rattle.std.proofs.lemmas.Result.{IfOk-weaker}
use Rattle.clap.specs.Simple.{app_of_fields}
use Rattle.clap.specs.declared.builder.arg.Arg.{Arg}
use Rattle.clap.specs.Words.{AddsArg, AddsInTurn, App, app_of, new_app}
use Rattle.command.specs.Line.{recover_line}
use Rattle.command.proofs.Options.{HaveRules, options_added}
use Rattle.command.proofs.job.recover_command.Goals as goal

pub returns : goal.returns
unfolding recover_line
returns c =
    let about_is : app_of c.about.result ≡ new_app (codes "recover") = ap app_of_fields c.about.ensures ∙ c.new.ensures.app in
    let usage_is : app_of c.override_usage.result ≡ new_app (codes "recover") = ap app_of_fields c.override_usage.ensures ∙ about_is in
    let none : app_of c.after_help.result ≡ new_app (codes "recover") = ap app_of_fields c.after_help.ensures ∙ usage_is in
    let options : List Arg = c.file_option.result ∷ c.file_option-2.result ∷ c.free_file_option.result ∷ c.free_file_option-2.result ∷ c.flag_option.result ∷ c.flag_option-2.result
    ∷ c.number_option.result ∷ c.number_option-2.result ∷ c.flag_option-3.result ∷ [] in
    let have : HaveRules options recover_line.rules = (
      c.file_option.ensures.local,
      c.file_option.ensures.rule,
      (
        c.file_option-2.ensures.local,
        c.file_option-2.ensures.rule,
        (
          c.free_file_option.ensures.local,
          c.free_file_option.ensures.rule,
          (
            c.free_file_option-2.ensures.local,
            c.free_file_option-2.ensures.rule,
            (
              c.flag_option.ensures.local,
              c.flag_option.ensures.rule,
              (
                c.flag_option-2.ensures.local,
                c.flag_option-2.ensures.rule,
                (
                  c.number_option.ensures.local,
                  c.number_option.ensures.rule,
                  (
                    c.number_option-2.ensures.local,
                    c.number_option-2.ensures.rule,
                    (
                      c.flag_option-3.ensures.local,
                      c.flag_option-3.ensures.rule,
                      tt,
                    ),
                  ),
                ),
              ),
            ),
          ),
        ),
      ),
    ) in
    IfOk-weaker c.args-2.result _ _ (λ command adds. ap (λ (a : App). a.top) (options_added _ command options _ recover_line.rules
    (subst (λ (os : List Arg). AddsInTurn AddsArg c.after_help.result os command) c.in_ok-options.ensures.items adds) have none)) c.args-2.ensures
