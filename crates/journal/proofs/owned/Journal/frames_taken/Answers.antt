use Rattle.std.proofs.Common.{sym, subst, arith}
use Rattle.journal.specs.declared.owned.Journal.TheInside.{Inside}
use Rattle.journal.specs.JournalState.{Keeps}
use Rattle.journal.specs.Owned.{seen}
use Rattle.journal.proofs.Runs.{before_within}
use Rattle.journal.proofs.Kept.{journal_of, keeps, frames_none}
use Rattle.journal.proofs.owned.Journal.frames_taken.Goals as goal

pub returns-clause-kept : goal.returns-clause-kept
returns-clause-kept c = λ base run k.
    let a : Inside = c.self.inside in
    let k' : Keeps base run (seen a) = subst (Keeps base run) (sym c.self.view_is) k in
    let last = k'.agrees.last_is in
    keeps base run a.head a.transactions.items a.pages.items a.pending.items _ a.head.last a.reserved (journal_of base run a c.self.invariant k')
    (let b = before_within run in omega (arith, b, last)) (omega arith) (frames_none run a.head.last last) k'.enough
