use Rattle.std.proofs.Common.{refl, ap, option_map}
use Rattle.analysis.proofs.Seen.{both, empty_base, none_met}
use Rattle.analysis.proofs.checkpoint_scan.CheckpointScan.new.Goals.{then-master-eq0, else-master-eq0}
use Rattle.analysis.proofs.checkpoint_scan.CheckpointScan.new.Goals as goal

pub returns : goal.returns
returns c = λ log none.
    elim c.if-master-eq0.branch [
      | then-master-eq0 w ↦ empty_base c.args.master log _ (w.new.result, w.new-then-master-eq0.result) refl (ap (option_map both) w.found-is) w.if-master-eq0.true w.new.ensures.empty w.new-then-master-eq0.ensures.empty
      | else-master-eq0 w ↦ none_met c.args.master log _ refl (ap (option_map both) w.found-is) refl w.if-master-eq0.false none
    ]
