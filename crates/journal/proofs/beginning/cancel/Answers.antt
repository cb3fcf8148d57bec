use Rattle.std.proofs.Common.{◌≡◌, ◌≢◌, ◌<◌, ◌-◌, List, length, get_or, take, refl, sym, ap, subst, ◌∙◌, arith}
use Rattle.std.specs.Prelude.{All}
use Rattle.std.specs.List.{remove}
use Rattle.std.proofs.lemmas.List.{get_or-take, length-take}
use Rattle.journal.specs.declared.entries.TransactionEntry.{TransactionEntry}
use Rattle.journal.specs.Arrays.{IsTable}
use Rattle.journal.proofs.Tables.{kept_none}
use Rattle.journal.proofs.Journals.{no_entry}
use Rattle.journal.proofs.Owed.{left_less}
use Rattle.journal.proofs.Canceled.{has_records, no_records, canceled, left_out, others_kept}
use Rattle.journal.proofs.beginning.cancel.Goals as goal
use Rattle.journal.proofs.beginning.cancel.Goals.{In-Some}

-- the entries in use
kept_entries : (c : In-Some) → take c.in_ok-count.count c.args.transactions.now ≡ take c.args.head.now.transactions c.args.transactions.now
kept_entries c = ap (λ n. take n c.args.transactions.now) c.in_ok-count.ensures.ok

within : (c : In-Some) → c.in-Some.place < length (take c.args.head.now.transactions c.args.transactions.now)
within c = subst (λ (xs : List TransactionEntry). c.in-Some.place < length xs) (kept_entries c) c.in-Some.ensures.within

found : (c : In-Some) → (get_or (take c.args.head.now.transactions c.args.transactions.now) c.in-Some.place no_entry).tx ≡ c.args.tx
found c = subst (λ (xs : List TransactionEntry). (get_or xs c.in-Some.place no_entry).tx ≡ c.args.tx) (kept_entries c) (c.in-Some.ensures.found no_entry)

same : (c : In-Some) → (get_or (take c.args.head.now.transactions c.args.transactions.now) c.in-Some.place no_entry).last ≡ (get_or c.args.transactions.now c.in-Some.place no_entry).last
same c =
    let ts : List TransactionEntry = c.args.transactions.now in
    let under : c.in-Some.place < c.args.head.now.transactions = omega (arith, within c, length-take c.args.head.now.transactions ts) in
    ap (λ (e : TransactionEntry). e.last) (get_or-take c.args.head.now.transactions ts c.in-Some.place no_entry under)

pub returns-in_default-clause-refused : goal.returns-in_default-clause-refused
returns-in_default-clause-refused c = λ base run pages pending h.
    let ts : List TransactionEntry = c.args.transactions.now in
    let e : take c.in_ok-count.count ts ≡ take c.args.head.now.transactions ts = ap (λ n. take n ts) c.in_ok-count.ensures.ok in
    let table : IsTable (take c.in_ok-count.count ts) = subst IsTable (sym e) h.arrays.used.table in
    let none : All (λ (x : TransactionEntry). x.tx ≢ c.args.tx) (take c.in_ok-count.count ts) = c.in_default.ensures.none table refl in
    kept_none (take c.args.head.now.transactions ts) (take c.args.head.now.pending pending) c.args.tx (subst (All (λ (x : TransactionEntry). x.tx ≢ c.args.tx)) e none)

pub returns-then-transactions-place-ne0-clause-refused : goal.returns-then-transactions-place-ne0-clause-refused
returns-then-transactions-place-ne0-clause-refused c = λ base run pages pending h.
    let p = (goal.at.returns-then-transactions-place-ne0-clause-refused c).In-Some in
    has_records base run c.args.head.now c.args.transactions.now pages pending h c.args.tx c.in-Some.place (within p) (found p) (λ z. c.if-transactions-place-ne0.true (sym (same p) ∙ z))

pub returns-clause-ok : goal.returns-clause-ok
returns-clause-ok c = λ base run pages pending h.
    let p = (goal.at.returns-clause-ok c).In-Some in
    canceled base run c.args.head.now c.args.transactions.now pages pending h c.args.tx c.in-Some.place (within p) (found p) c.finish.new.transactions (c.in_ok-count.count - 1) (ap (λ n. n - 1) c.in_ok-count.ensures.ok)
    (c.finish.ensures ∙ ap (λ (xs : List TransactionEntry). remove xs c.in-Some.place) (kept_entries p)) (same p ∙ c.if-transactions-place-ne0.false) c.finish.auto.transactions

pub returns-clause-gone : goal.returns-clause-gone
returns-clause-gone c = λ base run pages pending h.
    let p = (goal.at.returns-clause-gone c).In-Some in
    left_out base run c.args.head.now c.args.transactions.now pages pending h c.args.tx c.in-Some.place (within p) (found p) c.finish.new.transactions (c.in_ok-count.count - 1) (ap (λ n. n - 1) c.in_ok-count.ensures.ok)
    (c.finish.ensures ∙ ap (λ (xs : List TransactionEntry). remove xs c.in-Some.place) (kept_entries p))

pub returns-clause-others : goal.returns-clause-others
returns-clause-others c = λ base run pages pending h.
    let p = (goal.at.returns-clause-others c).In-Some in
    others_kept base run c.args.head.now c.args.transactions.now pages pending h c.args.tx c.in-Some.place (within p) (found p) c.finish.new.transactions (c.in_ok-count.count - 1) (ap (λ n. n - 1) c.in_ok-count.ensures.ok)
    (c.finish.ensures ∙ ap (λ (xs : List TransactionEntry). remove xs c.in-Some.place) (kept_entries p))

pub returns-clause-unlogged : goal.returns-clause-unlogged
returns-clause-unlogged c = λ base run pages pending h.
    let p = (goal.at.returns-clause-unlogged c).In-Some in
    no_records base run c.args.head.now c.args.transactions.now pages pending h c.args.tx c.in-Some.place (within p) (found p) (same p ∙ c.if-transactions-place-ne0.false)

pub returns-clause-owes : goal.returns-clause-owes
returns-clause-owes c = λ base run pages pending h.
    let p = (goal.at.returns-clause-owes c).In-Some in
    let at = c.finish.ensures ∙ ap (λ (xs : List TransactionEntry). remove xs c.in-Some.place) (kept_entries p) in
    left_less (take c.args.head.now.transactions c.args.transactions.now) _ (take c.args.head.now.pending pending) c.in-Some.place (within p) at
