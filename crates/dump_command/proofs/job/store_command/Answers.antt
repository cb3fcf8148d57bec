use Rattle.std.proofs.Common.{◌∙◌, ◌≡◌, ap, codes}
use Rattle.std.proofs.lemmas.Result.{IfOk-weaker}
use Rattle.clap.specs.Simple.{app_of_fields}
use Rattle.clap.specs.Words.{App, app_of, new_app}
use Rattle.words.proofs.Parses.{option_added}
use Rattle.dump_command.specs.Line.{store_line}
use Rattle.dump_command.proofs.job.store_command.Goals as goal

pub returns : goal.returns
unfolding store_line
returns c =
    let none : app_of c.about.result ≡ new_app (codes "store") = ap app_of_fields c.about.ensures ∙ c.new.ensures.app in
    let one = option_added _ _ _ _ _ c.in_ok-arg.ensures c.path.ensures.local none c.path.ensures.rule in
    let two = option_added _ _ _ _ _ c.in_ok-arg-2.ensures c.number_option.ensures.local one c.number_option.ensures.rule in
    IfOk-weaker c.arg-3.result _ _ (λ command adds. ap (λ (a : App). a.top)
    (option_added _ command _ _ _ adds c.flag_option.ensures.local two c.flag_option.ensures.rule)) c.arg-3.ensures
