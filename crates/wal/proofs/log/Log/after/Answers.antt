use Rattle.std.proofs.Common.{◌≡◌, Some, None, sym, ◌∙◌}
use Rattle.log_laws.specs.Records.{LogRecord, history}
use Rattle.wal.specs.Content.{shown}
use Rattle.log_laws.proofs.Histories.{behind, first_more}
use Rattle.wal.proofs.log.Log.after.Goals as goal

none_is_none : (x : LogRecord) → None ≡ Some x → ⊥
none_is_none x e = cc

pub unreachable-requires : goal.unreachable-requires
unreachable-requires c =
    let found = behind (history c.args.self.now) c.args.lsn c.requires.from c.requires.to in
    none_is_none found.entry (c.in-None.ensures.found ∙ found.there)

pub returns-clause-next : goal.returns-clause-next
returns-clause-next c = first_more (history c.args.self.now) c.args.lsn (shown c.in-Some.view) (sym c.in-Some.ensures.found)
