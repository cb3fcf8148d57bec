-- How many records the rollback of the unfinished transactions may still need, after a change of the arrays.
use Rattle.std.proofs.Common.{◌≡◌, ◌≢◌, ◌<◌, ◌≤◌, ◌+◌, ◌*◌, ℕ, zero, suc, false, not, List, [], ◌∷◌, ◌++◌, length, get_or, set, refl, sym, ap, subst, ◌∙◌, inl, inr, arith, eqb, ne_eqb}
use Rattle.std.specs.Prelude.{All, filter}
use Rattle.std.specs.List.{remove}
use Rattle.std.proofs.lemmas.Bool.{cases_Bool}
use Rattle.std.proofs.lemmas.List.{length-map, get_or_default}
use Rattle.std.proofs.lemmas.List.Elements.{All-tail}
use Rattle.std.proofs.lemmas.List.Filters.{length-filter_both}
use Rattle.journal.specs.declared.entries.TransactionEntry.{TransactionEntry}
use Rattle.journal.specs.declared.entries.PendingEntry.{PendingEntry}
use Rattle.journal.specs.Transactions.{Pending}
use Rattle.journal.proofs.Stacks.{pending_filter}
use Rattle.journal.specs.Arrays.{update_of, is_by, pending_of, Ascends, weight, owed_by, owed, OwesLess}

-- another entry needs as many if its pending updates are the same
by_same : (e : TransactionEntry) (xs ys : List PendingEntry) → pending_of e.tx ys ≡ pending_of e.tx xs → owed_by ys e ≡ owed_by xs e
by_same e xs ys same = ap (λ (ps : List Pending). weight e.state + length ps) same

pub owed_same : (es : List TransactionEntry) (xs ys : List PendingEntry) → All (λ (e : TransactionEntry). pending_of e.tx ys ≡ pending_of e.tx xs) es → owed es ys ≡ owed es xs
owed_same [] xs ys h = refl
owed_same (e ∷ es) xs ys h =
    let a = by_same e xs ys (h 0 e (omega arith)) in
    let b = owed_same es xs ys (All-tail (λ (f : TransactionEntry). pending_of f.tx ys ≡ pending_of f.tx xs) e es h) in
    omega (arith, a, b)

pub owed_set : (es : List TransactionEntry) (xs ys : List PendingEntry) (i : ℕ) (d e : TransactionEntry) → i < length es → ((k : ℕ) → k < length es → k ≢ i → pending_of (get_or es k d).tx ys ≡ pending_of (get_or es k d).tx xs)
    → owed (set es i e) ys + owed_by xs (get_or es i d) ≡ owed es xs + owed_by ys e
owed_set [] xs ys i d e lt h = absurd (omega (arith, lt))
owed_set (x ∷ es) xs ys zero d e lt h =
    let rest = owed_same es xs ys (λ k f l. (let at : get_or es k f ≡ get_or es k d = get_or_default es k f d l in subst (λ (z : TransactionEntry). pending_of z.tx ys ≡ pending_of z.tx xs) (sym at) (h (suc k) (omega (arith, l)) (λ z. omega (arith, z))))) in
    omega (arith, rest)
owed_set (x ∷ es) xs ys (suc i) d e lt h =
    let rest = owed_set es xs ys i d e (omega (arith, lt)) (λ k l n. h (suc k) (omega (arith, l)) (λ z. n (omega (arith, z)))) in
    let own = by_same x xs ys (h 0 (omega arith) (λ z. omega (arith, z))) in
    omega (arith, rest, own)

owed_append : (es fs : List TransactionEntry) (xs : List PendingEntry) → owed (es ++ fs) xs ≡ owed es xs + owed fs xs
owed_append [] fs xs = omega arith
owed_append (e ∷ es) fs xs = (let rest = owed_append es fs xs in omega (arith, rest))

pub owed_push : (es : List TransactionEntry) (e : TransactionEntry) (xs : List PendingEntry) → owed (es ++ e ∷ []) xs ≡ owed es xs + owed_by xs e
owed_push es e xs = (let a = owed_append es (e ∷ []) xs in omega (arith, a))

pub owed_remove : (es : List TransactionEntry) (i : ℕ) (d : TransactionEntry) (xs : List PendingEntry) → i < length es → owed (remove es i) xs + owed_by xs (get_or es i d) ≡ owed es xs
owed_remove [] i d xs lt = absurd (omega (arith, lt))
owed_remove (e ∷ es) zero d xs lt = omega arith
owed_remove (e ∷ es) (suc i) d xs lt = (let rest = owed_remove es i d xs (omega (arith, lt)) in omega (arith, rest))

-- one of them needs at least one record
pub owed_some : (es : List TransactionEntry) (i : ℕ) (d : TransactionEntry) (xs : List PendingEntry) → i < length es → owed_by xs (get_or es i d) ≤ owed es xs
owed_some es i d xs lt = (let r = owed_remove es i d xs lt in omega (arith, r))

pub weight_some : (n : ℕ) → (1 ≤ weight n) × (weight n ≤ 2)
weight_some n = elim (cases_Bool (eqb n 1)) [ inl e ↦ rw e (omega arith, omega arith) | inr e ↦ rw e (omega arith, omega arith) ]

-- AT MOST two for each transaction, and one for each entry of the pending updates
pub own_count : (t : ℕ) (xs : List PendingEntry) → length (pending_of t xs) + length (filter (λ (p : PendingEntry). not (is_by t p)) xs) ≡ length xs
unfolding pending_of
own_count t xs = (let both = length-filter_both (is_by t) (λ (p : PendingEntry). not (is_by t p)) (λ p. refl) xs in omega (arith, both, length-map (filter (is_by t) xs) update_of))

pub other_same : (t u : ℕ) → u ≢ t → (xs : List PendingEntry) → pending_of u (filter (λ (p : PendingEntry). not (is_by t p)) xs) ≡ pending_of u xs
other_same t u n xs = pending_filter (λ (p : PendingEntry). not (is_by t p)) u (λ p own. (let e : eqb p.tx t ≡ false = ne_eqb p.tx t (λ z. n (sym own ∙ z)) in rw e refl)) xs

pub owed_bound : (es : List TransactionEntry) (xs : List PendingEntry) → Ascends es → owed es xs ≤ 2 * length es + length xs
owed_bound [] xs h = omega arith
owed_bound (e ∷ es) xs h =
    let left : List PendingEntry = filter (λ (p : PendingEntry). not (is_by e.tx p)) xs in
    let rest = owed_bound es left h.1 in
    let same : owed es left ≡ owed es xs = owed_same es xs left (λ k f l. other_same e.tx (get_or es k f).tx (λ z. (let less : e.tx < (get_or es k f).tx = h.0 k f l in omega (arith, less, z))) xs) in
    let count = own_count e.tx xs in
    let w = weight_some e.state in
    omega (arith, rest, same, count, w)

-- less is owed where one of them is taken out
pub left_less : (es fs : List TransactionEntry) (xs : List PendingEntry) (place : ℕ) → place < length es → fs ≡ remove es place → OwesLess es xs fs xs
left_less es fs xs place within is =
    let none : TransactionEntry = record { last = 0; undo_next = 0; below = 0; tx = 0; state = 0 } in
    let a = ap (λ z. owed z xs) is in
    let r = owed_remove es place none xs within in
    let w = weight_some (get_or es place none).state in
    omega (arith, a, r, w)
