use Rattle.std.proofs.Common.{◌≡◌, true, None, List, map, take, get_or, refl, sym, ap, subst, ◌∙◌, arith}
use Rattle.std.specs.Prelude.{is_some}
use Rattle.std.proofs.lemmas.List.{length-map}
use Rattle.journal.specs.declared.entries.TransactionEntry.{TransactionEntry}
use Rattle.journal.specs.declared.entries.PendingEntry.{PendingEntry}
use Rattle.journal.specs.PageStates.{PageState}
use Rattle.journal.specs.Arrays.{kept_of, page_state_of, unless_0, IsTable}
use Rattle.journal.specs.Transactions.{IsFreeFor}
use Rattle.journal.proofs.Held.{unless_some}
use Rattle.journal.proofs.Holders.{no_state, a_holder, no_holder}
use Rattle.journal.proofs.operations.holder.Goals as goal

pub returns-then-is_other-clause-held : goal.returns-then-is_other-clause-held
returns-then-is_other-clause-held c = λ base run ps h.
    let ts : List TransactionEntry = c.args.transactions.now in
    let n = c.args.head.now.transactions in
    let xs : List PendingEntry = take c.args.head.now.pending ps in
    let states : List PageState = map page_state_of c.args.pages.now in
    let writer = c.in_ok-writer.writer in
    let cell = c.in_ok-writer.ensures in
    let there = cell.page in
    let e : take c.in_ok-count.count ts ≡ take n ts = ap (λ k. take k ts) c.in_ok-count.ensures.ok in
    let is = c.if-is_other.ensures.held refl xs (subst IsTable (sym e) h.arrays.used.table) in
    a_holder base run c.args.head.now.last c.args.head.now.next (kept_of (take n ts) xs) states h.holds c.args.page c.args.slot (omega (arith, there, length-map c.args.pages.now page_state_of)) cell.slot writer
    (subst (λ (zs : List TransactionEntry). is_some (kept_of zs xs writer) ≡ true) e is.2)
    (sym (cell.writer no_state) ∙ unless_some writer is.0)

pub returns-else-is_other-clause-held : goal.returns-else-is_other-clause-held
returns-else-is_other-clause-held c = λ base run ps h.
    let ts : List TransactionEntry = c.args.transactions.now in
    let n = c.args.head.now.transactions in
    let xs : List PendingEntry = take c.args.head.now.pending ps in
    let states : List PageState = map page_state_of c.args.pages.now in
    let cell = c.in_ok-writer.ensures in
    let there = cell.page in
    let e : take c.in_ok-count.count ts ≡ take n ts = ap (λ k. take k ts) c.in_ok-count.ensures.ok in
    let free : IsFreeFor (kept_of (take c.in_ok-count.count ts) xs) (unless_0 c.in_ok-writer.writer) 0 = c.if-is_other.ensures.free refl xs (subst IsTable (sym e) h.arrays.used.table) in
    no_holder base run c.args.head.now.last c.args.head.now.next (kept_of (take n ts) xs) states h.holds c.args.page c.args.slot (omega (arith, there, length-map c.args.pages.now page_state_of)) cell.slot
    (subst (λ (zs : List TransactionEntry). IsFreeFor (kept_of zs xs) (get_or (get_or states c.args.page no_state).writers c.args.slot None) 0) e
    (subst (λ o. IsFreeFor (kept_of (take c.in_ok-count.count ts) xs) o 0) (cell.writer no_state) free))
