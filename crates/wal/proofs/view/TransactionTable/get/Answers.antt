use Rattle.std.proofs.Common.{sym, arith}
use Rattle.wal.specs.Reading.{entry_at, no_entry}
use Rattle.wal.proofs.Tables.{entry_past}
use Rattle.wal.proofs.view.TransactionTable.get.Goals as goal

pub returns-then-place-self : goal.returns-then-place-self
returns-then-place-self c = rw (← c.self.view_is) (sym (entry_past entry_at no_entry 21 c.self.inside.count c.self.inside.bytes.now c.args.place (omega arith)))

pub returns : goal.returns
returns c = rw (← c.self.view_is) c.entry_in.ensures
