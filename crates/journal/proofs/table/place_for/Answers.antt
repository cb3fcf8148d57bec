use Rattle.std.proofs.Common.{inr, sym}
use Rattle.journal.specs.declared.entries.TransactionEntry.{TransactionEntry}
use Rattle.std.proofs.Common.{get_or}
use Rattle.journal.proofs.Tables.{kept_none, kept_at, standing}
use Rattle.journal.proofs.table.place_for.Goals as goal

pub returns-in_default-clause-err : goal.returns-in_default-clause-err
returns-in_default-clause-err c = λ ps t. inr (kept_none c.args.entries.now ps c.args.tx (c.find.ensures.none t c.in_default.is))

pub returns-then-not-allows-clause-err : goal.returns-then-not-allows-clause-err
returns-then-not-allows-clause-err c = λ ps t.
    let blank : TransactionEntry = record { last = 0; undo_next = 0; below = 0; tx = 0; state = 0 } in (
      standing (get_or c.args.entries.now c.in-Some.place blank) ps,
      kept_at c.args.entries.now ps c.in-Some.place blank c.args.tx t.rising c.in-Some.ensures.within (c.in-Some.ensures.found blank),
      sym c.state_named-state.ensures,
      sym c.if-not-allows.ensures,
    )
