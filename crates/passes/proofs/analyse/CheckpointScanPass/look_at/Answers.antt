use Rattle.std.proofs.Common.{◌≡◌, sym, subst, ◌∙◌, ap}
use Rattle.std.specs.Prelude.{option_map}
use Rattle.std.proofs.lemmas.Option.{same_Some}
use Rattle.std.proofs.lemmas.Result.{on_ok_weaker}
use Rattle.log_laws.specs.Records.{history, ◌▸◌}
use Rattle.log_laws.proofs.Histories.{history_push}
use Rattle.wal.specs.Content.{shown}
use Rattle.analysis.specs.Passing.{HasSeen}
use Rattle.passes.proofs.analyse.CheckpointScanPass.look_at.Goals as goal

pub returns-clause-passed : goal.returns-clause-passed
returns-clause-passed c = on_ok_weaker c.take.result
    (λ seen r next whole before own at m found.
    let same : shown c.in-Some.record ≡ r = same_Some _ r (ap (option_map shown) (sym c.in-Some.is) ∙ c.body_view.ensures ∙ ap (option_map (λ x. x.0)) next.spelled) in
    subst (λ h. HasSeen m h c.take.new.self) (ap (λ x. history before ▸ x) same ∙ sym (history_push before r)) (seen m (history before) at found))
    c.take.ensures.seen
