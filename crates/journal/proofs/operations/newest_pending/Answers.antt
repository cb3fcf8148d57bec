use Rattle.std.proofs.Common.{◌≡◌, ◌<◌, ◌∙◌, ℕ, true, List, length, get_or, take, map, ap, sym, subst, arith}
use Rattle.std.proofs.lemmas.List.{get_or-take, length-take}
use Rattle.std.proofs.lemmas.Result.{err_from_is_err_and}
use Rattle.journal.specs.declared.entries.TransactionEntry.{TransactionEntry}
use Rattle.journal.specs.declared.table.Need.TheVariants.{NotPrepared}
use Rattle.journal.specs.Refusals.{allows, EntryRefused}
use Rattle.journal.specs.Arrays.{bound_of, state_of, kept_of, page_state_of, IsTable}
use Rattle.journal.proofs.Refused.{step_refused}
use Rattle.journal.proofs.Journals.{no_entry, no_update, can_undo, pending_few, newest_is, none_newest, no_pending}
use Rattle.journal.proofs.operations.newest_pending.Goals as goal

pub returns-in-Some-clause-newest : goal.returns-in-Some-clause-newest
returns-in-Some-clause-newest c = λ base run pages h.
    let ts : List TransactionEntry = c.args.transactions.now in
    let place : ℕ = c.in_ok-place.place in
    let e : take c.in_ok-count.count ts ≡ take c.args.head.now.transactions ts = ap (λ n. take n ts) c.in_ok-count.ensures.ok in
    let within : place < length (take c.args.head.now.transactions ts) = subst (λ (xs : List TransactionEntry). place < length xs) e c.in_ok-place.ensures.within in
    let found : (get_or (take c.args.head.now.transactions ts) place no_entry).tx ≡ c.args.tx = subst (λ (xs : List TransactionEntry). (get_or xs place no_entry).tx ≡ c.args.tx) e (c.in_ok-place.ensures.found no_entry) in
    let under : place < c.args.head.now.transactions = omega (arith, within, length-take c.args.head.now.transactions ts) in
    let below : c.bound-below.result ≡ bound_of (get_or (take c.args.head.now.transactions ts) place no_entry) c.args.head.now.pending =
    c.bound-below.ensures ∙ ap (λ (x : TransactionEntry). bound_of x c.args.head.now.pending) (sym (get_or-take c.args.head.now.transactions ts place no_entry under)) in
    sym (newest_is base run c.args.head.now ts pages c.args.pending.now h c.args.tx place within found c.bound-below.result below c.in-Some.top c.in-Some.ensures.within (c.in-Some.ensures.found no_update) c.in-Some.ensures.above)

pub returns-in-None-clause-newest : goal.returns-in-None-clause-newest
returns-in-None-clause-newest c = λ base run pages h.
    let ts : List TransactionEntry = c.args.transactions.now in
    let place : ℕ = c.in_ok-place.place in
    let e : take c.in_ok-count.count ts ≡ take c.args.head.now.transactions ts = ap (λ n. take n ts) c.in_ok-count.ensures.ok in
    let within : place < length (take c.args.head.now.transactions ts) = subst (λ (xs : List TransactionEntry). place < length xs) e c.in_ok-place.ensures.within in
    let found : (get_or (take c.args.head.now.transactions ts) place no_entry).tx ≡ c.args.tx = subst (λ (xs : List TransactionEntry). (get_or xs place no_entry).tx ≡ c.args.tx) e (c.in_ok-place.ensures.found no_entry) in
    let under : place < c.args.head.now.transactions = omega (arith, within, length-take c.args.head.now.transactions ts) in
    let below : c.bound-below.result ≡ bound_of (get_or (take c.args.head.now.transactions ts) place no_entry) c.args.head.now.pending =
    c.bound-below.ensures ∙ ap (λ (x : TransactionEntry). bound_of x c.args.head.now.pending) (sym (get_or-take c.args.head.now.transactions ts place no_entry under)) in
    sym (none_newest base run c.args.head.now ts pages c.args.pending.now h c.args.tx place within found
    (no_pending base run c.args.head.now ts pages c.args.pending.now h c.args.tx place within found c.bound-below.result below (c.newest.ensures.none c.in-None.is)))

pub returns-in-Some-clause-free : goal.returns-in-Some-clause-free
returns-in-Some-clause-free c = λ base run pages h.
    let ts : List TransactionEntry = c.args.transactions.now in
    let place : ℕ = c.in_ok-place.place in
    let e : take c.in_ok-count.count ts ≡ take c.args.head.now.transactions ts = ap (λ n. take n ts) c.in_ok-count.ensures.ok in
    let within : place < length (take c.args.head.now.transactions ts) = subst (λ (xs : List TransactionEntry). place < length xs) e c.in_ok-place.ensures.within in
    let found : (get_or (take c.args.head.now.transactions ts) place no_entry).tx ≡ c.args.tx = subst (λ (xs : List TransactionEntry). (get_or xs place no_entry).tx ≡ c.args.tx) e (c.in_ok-place.ensures.found no_entry) in
    let allowed = subst (λ (xs : List TransactionEntry). allows NotPrepared (state_of (get_or xs place no_entry).state) ≡ true) e (c.in_ok-place.ensures.allowed no_entry) in
    can_undo base run c.args.head.now ts pages c.args.pending.now h c.args.tx place within found allowed

pub returns-in-None-clause-free : goal.returns-in-None-clause-free
returns-in-None-clause-free c = λ base run pages h.
    let ts : List TransactionEntry = c.args.transactions.now in
    let place : ℕ = c.in_ok-place.place in
    let e : take c.in_ok-count.count ts ≡ take c.args.head.now.transactions ts = ap (λ n. take n ts) c.in_ok-count.ensures.ok in
    let within : place < length (take c.args.head.now.transactions ts) = subst (λ (xs : List TransactionEntry). place < length xs) e c.in_ok-place.ensures.within in
    let found : (get_or (take c.args.head.now.transactions ts) place no_entry).tx ≡ c.args.tx = subst (λ (xs : List TransactionEntry). (get_or xs place no_entry).tx ≡ c.args.tx) e (c.in_ok-place.ensures.found no_entry) in
    let allowed = subst (λ (xs : List TransactionEntry). allows NotPrepared (state_of (get_or xs place no_entry).state) ≡ true) e (c.in_ok-place.ensures.allowed no_entry) in
    can_undo base run c.args.head.now ts pages c.args.pending.now h c.args.tx place within found allowed

pub returns-in-Some-clause-few : goal.returns-in-Some-clause-few
returns-in-Some-clause-few c = λ base run pages h.
    let ts : List TransactionEntry = c.args.transactions.now in
    let place : ℕ = c.in_ok-place.place in
    let e : take c.in_ok-count.count ts ≡ take c.args.head.now.transactions ts = ap (λ n. take n ts) c.in_ok-count.ensures.ok in
    let within : place < length (take c.args.head.now.transactions ts) = subst (λ (xs : List TransactionEntry). place < length xs) e c.in_ok-place.ensures.within in
    let found : (get_or (take c.args.head.now.transactions ts) place no_entry).tx ≡ c.args.tx = subst (λ (xs : List TransactionEntry). (get_or xs place no_entry).tx ≡ c.args.tx) e (c.in_ok-place.ensures.found no_entry) in
    pending_few base run c.args.head.now ts pages c.args.pending.now h c.args.tx place within found

pub returns-in-None-clause-few : goal.returns-in-None-clause-few
returns-in-None-clause-few c = λ base run pages h.
    let ts : List TransactionEntry = c.args.transactions.now in
    let place : ℕ = c.in_ok-place.place in
    let e : take c.in_ok-count.count ts ≡ take c.args.head.now.transactions ts = ap (λ n. take n ts) c.in_ok-count.ensures.ok in
    let within : place < length (take c.args.head.now.transactions ts) = subst (λ (xs : List TransactionEntry). place < length xs) e c.in_ok-place.ensures.within in
    let found : (get_or (take c.args.head.now.transactions ts) place no_entry).tx ≡ c.args.tx = subst (λ (xs : List TransactionEntry). (get_or xs place no_entry).tx ≡ c.args.tx) e (c.in_ok-place.ensures.found no_entry) in
    pending_few base run c.args.head.now ts pages c.args.pending.now h c.args.tx place within found

pub returns-in_err-place-clause-refused : goal.returns-in_err-place-clause-refused
returns-in_err-place-clause-refused c =
    let exit = err_from_is_err_and c.from_residual-in_err-place.result c.from_residual-in_err-place.ensures.1 in
    let ts : List TransactionEntry = c.args.transactions.now in
    let e : take c.in_ok-count.count ts ≡ take c.args.head.now.transactions ts = ap (λ n. take n ts) c.in_ok-count.ensures.ok in
    rw (exit.1, exit.2) (λ base run pages h.
    let xs = take c.args.head.now.pending c.args.pending.now in
    let table = subst IsTable (sym e) h.arrays.used.table in
    step_refused base run c.args.head.now.last c.args.head.now.next _ (map page_state_of pages) h.holds NotPrepared c.args.tx c.in_err-place.field-0.0
    (subst (λ (zs : List TransactionEntry). EntryRefused NotPrepared (kept_of zs xs) c.args.tx c.in_err-place.field-0.0) e (c.in_err-place.ensures.err xs table)))
