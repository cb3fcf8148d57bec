use Rattle.std.proofs.lemmas.List.{with_items_is, places}
use Rattle.std.proofs.Common.{rules, ◌++◌, ◌-◌, ℕ, List, length, take, ap, sym, subst, arith, ◌∙◌, ◌≡◌, ◌+◌, ◌≤◌, ◌<◌}
use borrow.Rule.Slice.PartMut.{post_of}
use Rattle.journal.specs.declared.entries.TransactionEntry.{TransactionEntry}
use Rattle.journal.specs.declared.entries.PendingEntry.{PendingEntry}
use Rattle.journal.specs.declared.owned.Journal.TheInside.{Inside}
use Rattle.journal.specs.Arrays.{OwesLess}
use Rattle.journal.specs.State.{IsJournal}
use Rattle.journal.specs.JournalState.{Keeps}
use Rattle.journal.specs.Owned.{seen}
use Rattle.journal.proofs.Kept.{journal_of, keeps_more, enough_left}
use Rattle.journal.proofs.owned.Journal.undo_last.Goals as goal

pub returns-clause-ok : goal.returns-clause-ok
returns-clause-ok c = λ base run k.
    let a : Inside = c.self.inside in
    let k' : Keeps base run (seen a) = subst (Keeps base run) (sym c.self.view_is) k in
    let ts : List TransactionEntry = c.deref_mut.result.now in
    let ps : List PendingEntry = c.deref_mut-3.result.now in
    let same = c.deref_mut.ensures.value in
    let same_pages = c.deref_mut-2.ensures.value in
    let same_ps = c.deref_mut-3.ensures.value in
    let h = subst (λ z. IsJournal base run a.head z c.deref_mut-2.result.now ps) (sym same)
    (subst (λ z. IsJournal base run a.head a.transactions.items z ps) (sym same_pages)
    (subst (λ z. IsJournal base run a.head a.transactions.items a.pages.items z) (sym same_ps) (journal_of base run a c.self.invariant k'))) in
    let of = c.in_ok-size.ensures in
    let done = of.ok.journal base run h in
    let less = subst (λ (z : List PendingEntry). OwesLess (take a.head.transactions a.transactions.items) (take a.head.pending z) (take c.undo.new.head.transactions c.undo.new.transactions) (take c.undo.new.head.pending c.undo.new.pending)) same_ps
    (subst (λ (z : List TransactionEntry). OwesLess (take a.head.transactions z) (take a.head.pending ps) (take c.undo.new.head.transactions c.undo.new.transactions) (take c.undo.new.head.pending c.undo.new.pending)) same (of.ok.owes base run h)) in
    let ts_is = with_items_is a.transactions c.undo.new.transactions (search (rules, places)) in
    let pages_is = with_items_is a.pages c.undo.new.pages (search (rules, places)) in
    let ps_is = with_items_is a.pending c.undo.new.pending (search (rules, places)) in
    let rest : List ℕ = post_of a.length (length c.deref_mut-4.result.now - a.length) c.deref_mut-4.result.now in
    let now_is = with_items_is a.buffer (take a.length c.deref_mut-4.result.now ++ (c.undo.new.out ++ rest)) (search (rules, places)) in (
      done.0,
      done.1,
      keeps_more base run a c.self.invariant k' c.undo.new.head c.undo.new.transactions _ c.undo.new.pages _ c.undo.new.pending _ c.deref_mut-4.result.now _ c.undo.new.out rest _ c.in_ok-size.size c.saturating_sub-self-inside.result
          ts_is pages_is ps_is now_is (ap (take a.length) c.deref_mut-4.ensures.value) (let e = ap length c.deref_mut-4.ensures.value in omega (arith, e, c.self.invariant.buffer))
          done.0 done.2 done.3 of.ok.lsn
          (enough_left _ _ _ _ c.in_ok-size.size a.reserved c.saturating_sub-self-inside.result less k'.enough of.ok.short c.saturating_sub-self-inside.ensures),
    )

pub invariant_of-self : goal.invariant_of-self
invariant_of-self c =
    let a : Inside = c.self.inside in
    let i = c.self.invariant in
    let of = c.undo.ensures in
    let count : length c.undo.new.transactions ≡ a.transactions.len = search (rules, places) in
    let held : length c.undo.new.pending ≡ a.pending.len = search (rules, places) in
    let held_is = ap length (with_items_is a.pending c.undo.new.pending held) ∙ held ∙ a.pending.ok.0 in
    let text : List ℕ = take a.length c.deref_mut-4.result.now ++ (c.undo.new.out ++ post_of a.length (length c.deref_mut-4.result.now - a.length) c.deref_mut-4.result.now) in
    let size : length text ≡ a.buffer.len = search (rules, places) in
    record {
      table = ap length (with_items_is a.transactions c.undo.new.transactions count) ∙ count ∙ a.transactions.ok.0 ∙ i.table;
      transactions = omega (arith, of.count, i.transactions);
      some = subst (λ k. 0 < k) (sym held_is) i.some;
      pending = omega (arith, of.updates, i.pending, held_is);
      buffer = subst (λ k. a.length + a.reserved ≤ k) (sym (ap length (with_items_is a.buffer text size) ∙ size ∙ a.buffer.ok.0)) i.buffer;
    }
