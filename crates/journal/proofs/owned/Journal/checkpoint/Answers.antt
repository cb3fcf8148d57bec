use Rattle.std.proofs.lemmas.List.{with_items_is, places}
use Rattle.std.proofs.Common.{rules, ◌++◌, ◌∙◌, refl, ◌-◌, ℕ, List, length, take, ap, sym, subst, arith}
use borrow.Rule.Slice.PartMut.{mid_of, post_of}
use Rattle.journal.specs.declared.entries.TransactionEntry.{TransactionEntry}
use Rattle.journal.specs.declared.entries.PageEntry.{PageEntry}
use Rattle.journal.specs.declared.owned.Journal.TheInside.{Inside}
use Rattle.journal.specs.State.{IsJournal}
use Rattle.journal.proofs.Kept.{journal_of, keeps_checkpoint, enough_room, takes_from}
use Rattle.journal.proofs.owned.Journal.checkpoint.Goals as goal

pub returns-clause-ok : goal.returns-clause-ok
returns-clause-ok c =
    takes_from _ _ _ c.self.view_is (λ base run k.
    let a : Inside = c.self.inside in
    let ts : List TransactionEntry = c.deref.result.now in
    let pages : List PageEntry = c.deref-2.result.now in
    let h = subst (λ z. IsJournal base run a.head z pages a.pending.items) (sym c.deref.ensures.value)
    (subst (λ z. IsJournal base run a.head a.transactions.items z a.pending.items) (sym c.deref-2.ensures.value) (journal_of base run a c.self.invariant k)) in
    let of = c.in_ok-size.ensures in
    let done = of.ok base run a.pending.items h in
    let buffer : List ℕ = c.deref_mut.result.now in
    let rest : List ℕ = post_of a.length (length buffer - a.length) buffer in
    let now_is = with_items_is c.make_room.new.buffer (take a.length buffer ++ (c.checkpoint.new.frames ++ rest)) (search (rules, places)) in (
      done.0,
      done.1,
      done.2,
      keeps_checkpoint base run a c.self.invariant k c.checkpoint.new.head ts _ pages _ a.pending.items _ buffer (mid_of a.length (length buffer - a.length) buffer) c.checkpoint.new.frames rest _ c.in_ok-size.size c.in_ok-rollback.rollback
          (sym c.deref.ensures.value) (sym c.deref-2.ensures.value) refl now_is (ap (take a.length) c.deref_mut.ensures.value ∙ c.in_ok-rollback.ensures.kept) (let e = ap length c.deref_mut.ensures.value in omega (arith, e, c.in_ok-rollback.ensures.enough))
          done.0 done.1 done.3 done.4 done.5 of.lsn
          (enough_room _ _ _ _ _ c.len.result c.in_ok-rollback.rollback done.3.arrays.used done.3.arrays.few done.3.arrays.room done.3.arrays.pending_room (sym a.pending.ok.0 ∙ sym c.len.ensures) c.in_ok-rollback.ensures.rollback),
    ))
