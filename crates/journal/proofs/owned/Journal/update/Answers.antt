use Rattle.std.proofs.lemmas.List.{with_items_is, places}
use Rattle.std.proofs.lemmas.Result.{err_from_is_err_and}
use Rattle.std.proofs.Common.{rules, ◌++◌, ◌∙◌, ◌⊎◌, ◌<◌, ◌≡◌, ◌≤◌, ◌+◌, ◌-◌, ℕ, List, length, take, ap, sym, subst, arith}
use borrow.Rule.Slice.PartMut.{mid_of, post_of}
use Rattle.log_laws.specs.Records.{LogRecord}
use Rattle.log_laws.specs.Meaning.{BasePages}
use Rattle.page.specs.Image.{Image as Content}
use Rattle.journal.specs.declared.entries.Head.{Head}
use Rattle.journal.specs.declared.entries.TransactionEntry.{TransactionEntry}
use Rattle.journal.specs.declared.entries.PendingEntry.{PendingEntry}
use Rattle.journal.specs.declared.entries.PageEntry.{PageEntry}
use Rattle.journal.specs.declared.owned.Journal.TheInside.{Inside}
use Rattle.journal.specs.Runs.{Run, appended}
use Rattle.journal.specs.Arrays.{IsTable, AllLive}
use Rattle.journal.specs.Refusals.{OwnUpdateRefused}
use Rattle.journal.specs.Writing.{IsWritten}
use Rattle.journal.specs.State.{IsJournal, update_by}
use Rattle.journal.specs.JournalState.{JournalState, Keeps}
use Rattle.journal.specs.Owned.{seen}
use Rattle.journal.proofs.Kept.{journal_of, keeps_more, enough_room, grown}
use Rattle.journal.proofs.OwnRefused.{own_update, never_full}
use Rattle.journal.proofs.owned.Journal.update.Goals as goal

-- the journal with the longer array of pending updates
longer : (base : BasePages) (run : Run) (a : Inside) (ts : List TransactionEntry) (pages : List PageEntry) (grown_to ps : List PendingEntry) → ts ≡ a.transactions.items → pages ≡ a.pages.items → ps ≡ grown_to
    → take a.head.pending grown_to ≡ take a.head.pending a.pending.items → length a.pending.items ≤ length grown_to → IsJournal base run a.head a.transactions.items a.pages.items a.pending.items → IsJournal base run a.head ts pages ps
longer base run a ts pages grown_to ps same_ts same_pages same_ps front room h =
    subst (λ z. IsJournal base run a.head z pages ps) (sym same_ts)
    (subst (λ z. IsJournal base run a.head a.transactions.items z ps) (sym same_pages)
    (subst (λ z. IsJournal base run a.head a.transactions.items a.pages.items z) (sym same_ps)
    (grown base run a.head a.transactions.items a.pages.items a.pending.items grown_to front room h)))

pub returns-clause-ok : goal.returns-clause-ok
returns-clause-ok c = λ base run k.
    let a : Inside = c.self.inside in
    let k' : Keeps base run (seen a) = subst (Keeps base run) (sym c.self.view_is) k in
    let made = c.make_pending_room.ensures in
    let h = longer base run a _ _ c.make_pending_room.new.pending.items _ c.deref_mut.ensures.value c.deref_mut-2.ensures.value c.deref_mut-3.ensures.value
    (made.kept a.head.pending c.self.invariant.pending) made.larger (journal_of base run a c.self.invariant k') in
    let of = c.in_ok-size.ensures in
    let image : Content = c.args.after in
    let record_of : Content → LogRecord = λ m. update_by base run c.args.tx c.args.page c.args.slot m in
    let done = subst (λ m. IsJournal base (appended run (record_of m)) c.update.new.head c.update.new.transactions c.update.new.pages c.update.new.pending) c.of.ensures.image (of.ok.journal base run h) in
    let buffer : List ℕ = c.deref_mut-4.result.now in
    let written = subst (λ m. IsWritten (record_of m) (a.head.last + 1) (mid_of a.length (length buffer - a.length) buffer) c.update.new.out c.in_ok-size.size) c.of.ensures.image (of.ok.written base run h) in
    let ts_is = with_items_is a.transactions c.update.new.transactions (search (rules, places)) in
    let pages_is = with_items_is a.pages c.update.new.pages (search (rules, places)) in
    let ps_is = with_items_is c.make_pending_room.new.pending c.update.new.pending (search (rules, places)) in
    let rest : List ℕ = post_of a.length (length buffer - a.length) buffer in
    let now_is = with_items_is c.make_room.new.buffer (take a.length buffer ++ (c.update.new.out ++ rest)) (search (rules, places)) in
    let count : length c.update.new.pending ≡ c.len-2.result = search (rules, places) in
    keeps_more base run a c.self.invariant k' c.update.new.head c.update.new.transactions _ c.update.new.pages _ c.update.new.pending _ buffer _ c.update.new.out rest _ c.in_ok-size.size c.in_ok-rollback.rollback
    ts_is pages_is ps_is now_is (ap (take a.length) c.deref_mut-4.ensures.value ∙ c.in_ok-rollback.ensures.kept) (let e = ap length c.deref_mut-4.ensures.value in omega (arith, e, c.in_ok-rollback.ensures.enough))
    (record_of image) done written of.ok.lsn
    (enough_room _ _ _ _ _ c.len-2.result c.in_ok-rollback.rollback done.arrays.used done.arrays.few done.arrays.room done.arrays.pending_room count c.in_ok-rollback.ensures.rollback)

pub returns-in_err-size-clause-refused : goal.returns-in_err-size-clause-refused
returns-in_err-size-clause-refused c =
    let exit = err_from_is_err_and c.from_residual-in_err-size.result c.from_residual-in_err-size.ensures.1 in
    let a : Inside = c.self.inside in
    let made = c.make_pending_room.ensures in
    let of = c.in_err-size.ensures in
    rw (exit.1, exit.2) (λ base run k.
    let k' : Keeps base run (seen a) = subst (Keeps base run) (sym c.self.view_is) k in
    let h = longer base run a _ _ c.make_pending_room.new.pending.items _ c.deref_mut.ensures.value c.deref_mut-2.ensures.value c.deref_mut-3.ensures.value
    (made.kept a.head.pending c.self.invariant.pending) made.larger (journal_of base run a c.self.invariant k') in
    let es : List TransactionEntry = take a.head.transactions a.transactions.items in
    let full = subst (λ (z : List TransactionEntry). IsTable (take a.head.transactions z) → (a.head.pending < length c.make_pending_room.new.pending.items) ⊎ (AllLive (take a.head.transactions z) a.pending.items → ⊥))
    c.deref.ensures.value (c.in_ok-make_pending_room.ensures.ok c.self.invariant.some) k'.used.table in
    let never : a.head.pending ≡ length c.deref_mut-3.result.now → AllLive (take a.head.transactions c.deref_mut.result.now) c.deref_mut-3.result.now → ⊥ =
    λ e live. never_full a.head.pending es a.pending.items c.make_pending_room.new.pending.items c.self.invariant.pending (made.kept (length a.pending.items) (omega arith)) full (e ∙ ap length c.deref_mut-3.ensures.value)
    (subst (AllLive es) c.deref_mut-3.ensures.value (subst (λ (z : List TransactionEntry). AllLive (take a.head.transactions z) c.deref_mut-3.result.now) c.deref_mut.ensures.value live)) in
    subst (λ hd. OwnUpdateRefused run c.args.tx c.args.page c.args.slot hd c.in_err-size.field-0.0) (ap (λ (v : JournalState). v.head) c.self.view_is)
    (own_update run c.args.tx c.args.page c.args.slot c.of.result _ _ a.head c.deref_mut.result.now c.deref_mut-3.result.now c.in_err-size.field-0.0 c.of.ensures.valid never (of.enough (search (rules, places))) (of.refused base run h)))

pub invariant_of-self : goal.invariant_of-self
invariant_of-self c =
    let i = c.self.invariant in
    let larger = c.make_pending_room.ensures.larger in
    record { table = i.table; transactions = i.transactions; some = omega (arith, i.some, larger); pending = omega (arith, i.pending, larger); buffer = i.buffer }

pub invariant_of-self-in_err-rollback : goal.invariant_of-self-in_err-rollback
invariant_of-self-in_err-rollback c =
    let i = c.self.invariant in
    let larger = c.make_pending_room.ensures.larger in
    record {
      table = i.table;
      transactions = i.transactions;
      some = omega (arith, i.some, larger);
      pending = omega (arith, i.pending, larger);
      buffer = omega (arith, i.buffer, c.make_room.ensures.larger);
    }

pub invariant_of-self-in_err-size : goal.invariant_of-self-in_err-size
invariant_of-self-in_err-size c =
    let a : Inside = c.self.inside in
    let i = c.self.invariant in
    let of = c.update.ensures in
    let larger = c.make_pending_room.ensures.larger in
    let wider = c.make_room.ensures.larger in
    let same = ap (λ (h : Head). h.pending) c.in_err-size.ensures.same.head in
    let pending = c.make_pending_room.new.pending in
    let buffer = c.make_room.new.buffer in
    let count : length c.update.new.transactions ≡ a.transactions.len = search (rules, places) in
    let held : length c.update.new.pending ≡ pending.len = search (rules, places) in
    let held_is = ap length (with_items_is pending c.update.new.pending held) ∙ held ∙ pending.ok.0 in
    let text : List ℕ = take a.length c.deref_mut-4.result.now ++ (c.update.new.out ++ post_of a.length (length c.deref_mut-4.result.now - a.length) c.deref_mut-4.result.now) in
    let size : length text ≡ buffer.len = search (rules, places) in
    let size_is = ap length (with_items_is buffer text size) ∙ size ∙ buffer.ok.0 in
    record {
      table = ap length (with_items_is a.transactions c.update.new.transactions count) ∙ count ∙ a.transactions.ok.0 ∙ i.table;
      transactions = omega (arith, of.count, i.transactions);
      some = omega (arith, i.some, larger, held_is);
      pending = omega (arith, same, i.pending, larger, held_is);
      buffer = omega (arith, i.buffer, wider, size_is);
    }
