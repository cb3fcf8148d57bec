use Rattle.std.proofs.Common.{◌∙◌, ◌≡◌, ap, codes}
use Rattle.std.proofs.lemmas.Result.{IfOk-weaker}
use Rattle.clap.specs.Simple.{app_of_fields}
use Rattle.clap.specs.Words.{App, app_of, new_app}
use Rattle.words.proofs.Parses.{option_added}
use Rattle.dump_command.specs.Line.{log_line}
use Rattle.dump_command.proofs.job.log_command.Goals as goal

pub returns : goal.returns
unfolding log_line
returns c =
    let none : app_of c.about.result ≡ new_app (codes "log") = ap app_of_fields c.about.ensures ∙ c.new.ensures.app in
    let one = option_added _ _ _ _ _ c.in_ok-arg.ensures c.path.ensures.local none c.path.ensures.rule in
    let two = option_added _ _ _ _ _ c.in_ok-arg-2.ensures c.lsn_option.ensures.local one c.lsn_option.ensures.rule in
    let three = option_added _ _ _ _ _ c.in_ok-arg-3.ensures c.lsn_option-2.ensures.local two c.lsn_option-2.ensures.rule in
    let four = option_added _ _ _ _ _ c.in_ok-arg-4.ensures c.number_option.ensures.local three c.number_option.ensures.rule in
    let five = option_added _ _ _ _ _ c.in_ok-arg-5.ensures c.number_option-2.ensures.local four c.number_option-2.ensures.rule in
    IfOk-weaker c.arg-6.result _ _ (λ command adds. ap (λ (a : App). a.top)
    (option_added _ command _ _ _ adds c.flag_option.ensures.local five c.flag_option.ensures.rule)) c.arg-6.ensures
