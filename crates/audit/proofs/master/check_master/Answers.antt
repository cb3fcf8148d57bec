use Rattle.std.proofs.Common.{◌∙◌, arith, sym, ap}
use Rattle.std.specs.Prelude.{option_map}
use Rattle.log_laws.specs.Records.{history}
use Rattle.log_laws.proofs.Checkpoints.{checkpoint_within, checkpoint_above}
use Rattle.audit.proofs.master.check_master.Goals as goal

pub check_dirty-requires-clause-to : goal.check_dirty-requires-clause-to
check_dirty-requires-clause-to c =
    omega (arith, checkpoint_within c.args.master (history c.args.log.now) (c.in-Some.field-0-0, c.in-Some.dirty) (sym c.requires.tables ∙ ap (option_map (λ x. (x.0, x.1))) c.in-Some.is))

pub check_dirty-requires-clause-from : goal.check_dirty-requires-clause-from
check_dirty-requires-clause-from c =
    omega (arith, checkpoint_above c.args.master (history c.args.log.now) (c.in-Some.field-0-0, c.in-Some.dirty) (sym c.requires.tables ∙ ap (option_map (λ x. (x.0, x.1))) c.in-Some.is))
