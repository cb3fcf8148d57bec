use Rattle.std.proofs.lemmas.List.{with_items_is, places}
use Rattle.std.proofs.Common.{rules, ◌++◌, ◌∙◌, refl, ◌-◌, ℕ, List, length, take, ap, sym, subst, arith}
use borrow.Rule.Slice.PartMut.{post_of}
use Rattle.log_laws.specs.Records.{Prepare}
use Rattle.journal.specs.declared.entries.TransactionEntry.{TransactionEntry}
use Rattle.journal.specs.declared.entries.PendingEntry.{PendingEntry}
use Rattle.journal.specs.declared.owned.Journal.TheInside.{Inside}
use Rattle.journal.specs.State.{IsJournal, plain_by}
use Rattle.journal.specs.JournalState.{Keeps}
use Rattle.journal.specs.Owned.{seen}
use Rattle.journal.proofs.Kept.{journal_of, keeps_more, enough_room}
use Rattle.journal.proofs.owned.Journal.prepare.Goals as goal

pub returns-clause-ok : goal.returns-clause-ok
returns-clause-ok c = λ base run k.
    let a : Inside = c.self.inside in
    let k' : Keeps base run (seen a) = subst (Keeps base run) (sym c.self.view_is) k in
    let ps : List PendingEntry = c.deref.result.now in
    let h = subst (λ (z : List TransactionEntry). IsJournal base run a.head z a.pages.items ps) (sym c.deref_mut.ensures.value) (subst (λ z. IsJournal base run a.head a.transactions.items a.pages.items z) (sym c.deref.ensures.value) (journal_of base run a c.self.invariant k')) in
    let of = c.in_ok-size.ensures in
    let done = of.ok.journal base run a.pages.items h in
    let ts_is = with_items_is a.transactions c.take_turn.new.transactions (search (rules, places)) in
    let buffer : List ℕ = c.deref_mut-2.result.now in
    let rest : List ℕ = post_of a.length (length buffer - a.length) buffer in
    let now_is = with_items_is c.make_room.new.buffer (take a.length buffer ++ (c.take_turn.new.out ++ rest)) (search (rules, places)) in
    keeps_more base run a c.self.invariant k' c.take_turn.new.head c.take_turn.new.transactions _ a.pages.items _ ps _ buffer _ c.take_turn.new.out rest _ c.in_ok-size.size c.in_ok-rollback.rollback
    ts_is refl (sym c.deref.ensures.value) now_is (ap (take a.length) c.deref_mut-2.ensures.value ∙ c.in_ok-rollback.ensures.kept) (let e = ap length c.deref_mut-2.ensures.value in omega (arith, e, c.in_ok-rollback.ensures.enough))
    (Prepare (plain_by run c.args.tx)) done (of.ok.written base run a.pages.items h) of.ok.lsn
    (enough_room _ _ _ _ _ c.len.result c.in_ok-rollback.rollback done.arrays.used done.arrays.few done.arrays.room done.arrays.pending_room (ap length c.deref.ensures.value ∙ sym a.pending.ok.0 ∙ sym c.len.ensures) c.in_ok-rollback.ensures.rollback)
