use Rattle.std.proofs.Common.{Some, ap, sym, ◌∙◌}
use Rattle.wal.specs.declared.view.RecordView.{RecordView}
use Rattle.wal.specs.Content.{shown}
use Rattle.log_laws.specs.Records.{history}
use Rattle.log_laws.specs.Checkpoint.{is_begin}
use Rattle.log_laws.proofs.Checkpoints.{begin_above}
use Rattle.wal.proofs.log.Log.checkpoint.Goals as goal

pub checkpoint_end-requires : goal.checkpoint_end-requires
checkpoint_end-requires c = begin_above c.args.master (history c.args.self.now)
    (ap is_begin (sym c.in-Some-CheckpointBegin.ensures.found) ∙ ap (λ (view : RecordView). is_begin (Some (shown view))) c.in-Some-CheckpointBegin.field-0-is)
