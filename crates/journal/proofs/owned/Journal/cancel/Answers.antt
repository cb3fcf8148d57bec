use Rattle.std.proofs.lemmas.List.{with_items_is, places}
use Rattle.std.proofs.Common.{rules, List, take, sym, subst, arith}
use Rattle.journal.specs.declared.entries.TransactionEntry.{TransactionEntry}
use Rattle.journal.specs.declared.owned.Journal.TheInside.{Inside}
use Rattle.journal.specs.Arrays.{OwesLess}
use Rattle.journal.specs.State.{IsJournal}
use Rattle.journal.specs.JournalState.{Keeps}
use Rattle.journal.specs.Owned.{seen}
use Rattle.journal.proofs.Kept.{journal_of, keeps, less_enough}
use Rattle.journal.proofs.owned.Journal.cancel.Goals as goal

pub returns-clause-ok : goal.returns-clause-ok
returns-clause-ok c = λ base run k.
    let a : Inside = c.self.inside in
    let k' : Keeps base run (seen a) = subst (Keeps base run) (sym c.self.view_is) k in
    let same = c.deref_mut.ensures.value in
    let h = subst (λ (z : List TransactionEntry). IsJournal base run a.head z a.pages.items a.pending.items) (sym same) (journal_of base run a c.self.invariant k') in
    let of = c.in_ok-cancel.ensures in
    let less = subst (λ (z : List TransactionEntry). OwesLess (take a.head.transactions z) (take a.head.pending a.pending.items) (take c.cancel.new.head.transactions c.cancel.new.transactions) (take c.cancel.new.head.pending a.pending.items)) same (of.owes base run a.pages.items a.pending.items h) in
    let ts_is = with_items_is a.transactions c.cancel.new.transactions (search (rules, places)) in
    subst (λ (z : List TransactionEntry). Keeps base run (record { head = c.cancel.new.head; transactions = take c.cancel.new.head.transactions z; pages = a.pages.items; pending = take c.cancel.new.head.pending a.pending.items; frames = take a.length a.buffer.items; taken = a.taken; room = a.reserved })) (sym ts_is)
    (keeps base run c.cancel.new.head c.cancel.new.transactions a.pages.items a.pending.items _ a.taken a.reserved (of.ok base run a.pages.items a.pending.items h)
    k'.opened (omega (arith, of.last, k'.within)) k'.frames_are (less_enough _ _ _ _ a.reserved less k'.enough))
