use Rattle.std.proofs.Common.{sym, ◌∙◌, subst}
use Rattle.log_laws.specs.Records.{history}
use Rattle.analysis.specs.Passing.{HasSeen}
use Rattle.analysis.proofs.Seen.{stays_found}
use Rattle.passes.proofs.ReadForward.{with_piece}
use Rattle.passes.proofs.analyse.CheckpointScanPass.is_done.Goals as goal

pub returns : goal.returns
returns c = λ done whole before rest m seen.
    subst (λ h. HasSeen m h c.args.self.now) (with_piece before (record { begins = before.begins; records = rest }))
    (stays_found m (history before) rest c.args.self.now (sym c.is_found.ensures ∙ done) seen)
