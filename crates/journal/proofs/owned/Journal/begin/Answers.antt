use Rattle.std.proofs.lemmas.List.{with_items_is, places}
use Rattle.std.proofs.lemmas.Result.{err_from_is_err_and}
use Rattle.std.proofs.Common.{rules, ◌∙◌, List, length, take, ap, sym, subst, arith}
use Rattle.journal.specs.declared.entries.TransactionEntry.{TransactionEntry}
use Rattle.journal.specs.declared.owned.Journal.TheInside.{Inside}
use Rattle.journal.specs.Refusals.{OwnBeginRefused}
use Rattle.journal.specs.State.{IsJournal}
use Rattle.journal.specs.JournalState.{JournalState, Keeps}
use Rattle.journal.specs.Owned.{seen}
use Rattle.journal.proofs.Kept.{journal_of, keeps, enough_room}
use Rattle.journal.proofs.OwnRefused.{own_begin}
use Rattle.journal.proofs.owned.Journal.begin.Goals as goal

pub returns-clause-ok : goal.returns-clause-ok
returns-clause-ok c = λ base run k.
    let a : Inside = c.self.inside in
    let k' : Keeps base run (seen a) = subst (Keeps base run) (sym c.self.view_is) k in
    let h = subst (λ (z : List TransactionEntry). IsJournal base run a.head z a.pages.items a.pending.items) (sym c.deref_mut.ensures.value) (journal_of base run a c.self.invariant k') in
    let of = c.in_ok-tx.ensures in
    let done = of.ok base run a.pages.items a.pending.items h in
    let ts_is = with_items_is a.transactions c.begin.new.transactions (search (rules, places)) in
    subst (λ (z : List TransactionEntry). Keeps base run (record { head = c.begin.new.head; transactions = take c.begin.new.head.transactions z; pages = a.pages.items; pending = take c.begin.new.head.pending a.pending.items; frames = take a.length c.make_room.new.buffer.items; taken = a.taken; room = c.in_ok-rollback.rollback })) (sym ts_is)
    (keeps base run c.begin.new.head c.begin.new.transactions a.pages.items a.pending.items _ a.taken c.in_ok-rollback.rollback done
    k'.opened (omega (arith, of.last, k'.within)) (c.in_ok-rollback.ensures.kept ∙ k'.frames_are)
    (enough_room _ _ _ _ _ c.len.result c.in_ok-rollback.rollback done.arrays.used done.arrays.few done.arrays.room done.arrays.pending_room (sym a.pending.ok.0 ∙ sym c.len.ensures) c.in_ok-rollback.ensures.rollback))

pub returns-in_err-tx-clause-refused : goal.returns-in_err-tx-clause-refused
returns-in_err-tx-clause-refused c =
    let exit = err_from_is_err_and c.from_residual-in_err-tx.result c.from_residual-in_err-tx.ensures.1 in
    let a : Inside = c.self.inside in
    rw (exit.1, exit.2) (λ base run k.
    let k' : Keeps base run (seen a) = subst (Keeps base run) (sym c.self.view_is) k in
    let h = subst (λ (z : List TransactionEntry). IsJournal base run a.head z a.pages.items a.pending.items) (sym c.deref_mut.ensures.value) (journal_of base run a c.self.invariant k') in
    subst (λ hd. OwnBeginRefused hd c.in_err-tx.field-0.0) (ap (λ (v : JournalState). v.head) c.self.view_is)
    (own_begin a.head (length c.deref_mut.result.now) c.in_err-tx.field-0.0 (ap length c.deref_mut.ensures.value ∙ c.self.invariant.table) (c.in_err-tx.ensures.refused base run a.pages.items a.pending.items h)))
