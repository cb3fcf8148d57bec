use Rattle.std.proofs.lemmas.List.{with_items_is, places}
use Rattle.std.proofs.Common.{rules, ◌++◌, refl, ◌-◌, ℕ, List, length, take, ap, sym, subst, arith, ◌∙◌, ◌≡◌, ◌+◌, ◌≤◌}
use borrow.Rule.Slice.PartMut.{post_of}
use Rattle.journal.specs.declared.entries.TransactionEntry.{TransactionEntry}
use Rattle.journal.specs.declared.entries.PendingEntry.{PendingEntry}
use Rattle.journal.specs.declared.owned.Journal.TheInside.{Inside}
use Rattle.journal.specs.Arrays.{OwesLess}
use Rattle.journal.specs.State.{IsJournal, plain_by}
use Rattle.journal.specs.TurnsTaken.{turn_record, OwnTurnRefused}
use Rattle.journal.specs.JournalState.{JournalState, Keeps}
use Rattle.journal.specs.Owned.{seen}
use Rattle.journal.proofs.Kept.{journal_of, keeps_more, enough_left}
use Rattle.journal.proofs.Turned.{own_turn}
use Rattle.std.proofs.lemmas.Result.{err_from_is_err_and}
use Rattle.journal.proofs.owned.Journal.take_turn.Goals as goal

pub returns-clause-ok : goal.returns-clause-ok
returns-clause-ok c = λ base run k.
    let a : Inside = c.self.inside in
    let k' : Keeps base run (seen a) = subst (Keeps base run) (sym c.self.view_is) k in
    let ps : List PendingEntry = c.deref.result.now in
    let same = c.deref_mut.ensures.value in
    let same_ps = c.deref.ensures.value in
    let h = subst (λ (z : List TransactionEntry). IsJournal base run a.head z a.pages.items ps) (sym same) (subst (λ z. IsJournal base run a.head a.transactions.items a.pages.items z) (sym same_ps) (journal_of base run a c.self.invariant k')) in
    let of = c.in_ok-size.ensures in
    let less = subst (λ (z : List PendingEntry). OwesLess (take a.head.transactions a.transactions.items) (take a.head.pending z) (take c.take_turn.new.head.transactions c.take_turn.new.transactions) (take c.take_turn.new.head.pending ps)) same_ps
    (subst (λ (z : List TransactionEntry). OwesLess (take a.head.transactions z) (take a.head.pending ps) (take c.take_turn.new.head.transactions c.take_turn.new.transactions) (take c.take_turn.new.head.pending ps)) same (of.ok.owes c.requires base run a.pages.items h)) in
    let ts_is = with_items_is a.transactions c.take_turn.new.transactions (search (rules, places)) in
    let rest : List ℕ = post_of a.length (length c.deref_mut-2.result.now - a.length) c.deref_mut-2.result.now in
    let now_is = with_items_is a.buffer (take a.length c.deref_mut-2.result.now ++ (c.take_turn.new.out ++ rest)) (search (rules, places)) in
    keeps_more base run a c.self.invariant k' c.take_turn.new.head c.take_turn.new.transactions _ a.pages.items _ ps _ c.deref_mut-2.result.now _ c.take_turn.new.out rest _ c.in_ok-size.size c.saturating_sub-self-inside.result
    ts_is refl (sym same_ps) now_is (ap (take a.length) c.deref_mut-2.ensures.value) (let e = ap length c.deref_mut-2.ensures.value in omega (arith, e, c.self.invariant.buffer))
    (turn_record c.args.turn (plain_by run c.args.tx)) (of.ok.journal base run a.pages.items h) (of.ok.written base run a.pages.items h) of.ok.lsn
    (enough_left _ _ _ _ c.in_ok-size.size a.reserved c.saturating_sub-self-inside.result less k'.enough (omega (arith, of.ok.short)) c.saturating_sub-self-inside.ensures)

pub invariant_of-self : goal.invariant_of-self
invariant_of-self c =
    let a : Inside = c.self.inside in
    let i = c.self.invariant in
    let of = c.take_turn.ensures in
    let count : length c.take_turn.new.transactions ≡ a.transactions.len = search (rules, places) in
    let text : List ℕ = take a.length c.deref_mut-2.result.now ++ (c.take_turn.new.out ++ post_of a.length (length c.deref_mut-2.result.now - a.length) c.deref_mut-2.result.now) in
    let size : length text ≡ a.buffer.len = search (rules, places) in
    record {
      table = ap length (with_items_is a.transactions c.take_turn.new.transactions count) ∙ count ∙ a.transactions.ok.0 ∙ i.table;
      transactions = omega (arith, of.count, i.transactions);
      some = i.some;
      pending = omega (arith, of.updates, i.pending);
      buffer = subst (λ k. a.length + a.reserved ≤ k) (sym (ap length (with_items_is a.buffer text size) ∙ size ∙ a.buffer.ok.0)) i.buffer;
    }

pub returns-in_err-size-clause-refused : goal.returns-in_err-size-clause-refused
returns-in_err-size-clause-refused c =
    let exit = err_from_is_err_and c.from_residual.result c.from_residual.ensures.1 in
    let a : Inside = c.self.inside in
    let of = c.in_err-size.ensures in
    rw (exit.1, exit.2) (λ base run k.
    let k' : Keeps base run (seen a) = subst (Keeps base run) (sym c.self.view_is) k in
    let ps : List PendingEntry = c.deref.result.now in
    let h = subst (λ (z : List TransactionEntry). IsJournal base run a.head z a.pages.items ps) (sym c.deref_mut.ensures.value) (subst (λ z. IsJournal base run a.head a.transactions.items a.pages.items z) (sym c.deref.ensures.value) (journal_of base run a c.self.invariant k')) in
    subst (λ hd. OwnTurnRefused c.args.turn run c.args.tx hd c.in_err-size.field-0.0) (ap (λ (v : JournalState). v.head) c.self.view_is)
    (own_turn c.args.turn run c.args.tx a.head _ c.in_err-size.field-0.0 (of.enough (search (rules, places))) (of.refused base run a.pages.items h)))
