-- The array of transactions: what is kept of each, after a change of the array.
use Rattle.std.proofs.Common.{◌≡◌, ◌≢◌, ◌<◌, ◌≤◌, ◌||◌, ℕ, zero, suc, true, false, cond, List, [], ◌∷◌, ◌++◌, length, get_or, set, take, drop, Option, Some, None, refl, sym, ap, subst, ◌∙◌, inl, inr, arith, eqb, eq-eqb, ne_eqb, eqb-true}
use Rattle.std.specs.Prelude.{All, is_some, IfSome}
use Rattle.std.specs.List.{insert, remove}
use Rattle.std.proofs.lemmas.Bool.{cases_Bool, cases_lt, or_left, or_right, or_from, eqb-false}
use Rattle.std.proofs.lemmas.List.{get_or_default}
use Rattle.std.proofs.lemmas.List.Elements.{All-nil, All-cons, All-head, All-tail, All-push, All-append, All-take, All-drop, All-set}
use Rattle.wal.proofs.Entries.{is_eq-nat_cmp}
use Rattle.journal.specs.declared.entries.TransactionEntry.{TransactionEntry}
use Rattle.journal.specs.declared.entries.PendingEntry.{PendingEntry}
use Rattle.journal.specs.Transactions.{Pending, Transaction}
use Rattle.journal.specs.Arrays.{entry_in, pending_of, kept_of, Ascends, IsTable, is_live}

abbrev pub standing : TransactionEntry → List PendingEntry → Transaction
standing e ps = record { entry = entry_in e; pending = pending_of e.tx ps }

-- NUMBERS
pub rises_at : (es : List TransactionEntry) → Ascends es → (i j : ℕ) (d : TransactionEntry) → i < j → j < length es → (get_or es i d).tx < (get_or es j d).tx
rises_at [] h i j d lt le = absurd (omega (arith, le))
rises_at (e ∷ es) h i zero d lt le = absurd (omega (arith, lt))
rises_at (e ∷ es) h zero (suc j) d lt le = h.0 j d (omega (arith, le))
rises_at (e ∷ es) h (suc i) (suc j) d lt le = rises_at es h.1 i j d (omega (arith, lt)) (omega (arith, le))

pub rises_push : (es : List TransactionEntry) (e : TransactionEntry) → All (λ (f : TransactionEntry). f.tx < e.tx) es → Ascends es → Ascends (es ++ e ∷ [])
rises_push [] e low h = (All-nil (λ (f : TransactionEntry). e.tx < f.tx), tt)
rises_push (x ∷ es) e low h =
    (All-push (λ (f : TransactionEntry). x.tx < f.tx) es e h.0 (All-head (λ (f : TransactionEntry). f.tx < e.tx) x es low), rises_push es e (All-tail (λ (f : TransactionEntry). f.tx < e.tx) x es low) h.1)

pub All-remove : (P : TransactionEntry → Type 0) (es : List TransactionEntry) (i : ℕ) → All P es → All P (remove es i)
All-remove P es i h = All-append P (take i es) (drop (suc i) es) (All-take P i es h) (All-drop P (suc i) es h)

pub rises_remove : (es : List TransactionEntry) (i : ℕ) → i < length es → Ascends es → Ascends (remove es i)
rises_remove [] i lt h = absurd (omega (arith, lt))
rises_remove (e ∷ es) zero lt h = h.1
rises_remove (e ∷ es) (suc i) lt h = (All-remove (λ (f : TransactionEntry). e.tx < f.tx) es i h.0, rises_remove es i (omega (arith, lt)) h.1)

All-put : (n : ℕ) (es : List TransactionEntry) (i : ℕ) (d e : TransactionEntry) → i < length es → e.tx ≡ (get_or es i d).tx → All (λ (f : TransactionEntry). n < f.tx) es → All (λ (f : TransactionEntry). n < f.tx) (set es i e)
All-put n es i d e lt same h = All-set (λ (f : TransactionEntry). n < f.tx) es i e (let low : n < (get_or es i d).tx = h i d lt in omega (arith, low, same)) h

pub rises_set : (es : List TransactionEntry) (i : ℕ) (d e : TransactionEntry) → i < length es → e.tx ≡ (get_or es i d).tx → Ascends es → Ascends (set es i e)
rises_set [] i d e lt same h = absurd (omega (arith, lt))
rises_set (x ∷ es) zero d e lt same h = (subst (λ n. All (λ (f : TransactionEntry). n < f.tx) es) (sym same) h.0, h.1)
rises_set (x ∷ es) (suc i) d e lt same h = (All-put x.tx es i d e (omega (arith, lt)) same h.0, rises_set es i d e (omega (arith, lt)) same h.1)

pub table_set : (es : List TransactionEntry) (i : ℕ) (d e : TransactionEntry) → i < length es → e.tx ≡ (get_or es i d).tx → IsTable es → IsTable (set es i e)
table_set es i d e lt same h =
    record {
      rising = rises_set es i d e lt same h.rising;
      some = All-set (λ (f : TransactionEntry). 0 < f.tx) es i e (let low : 0 < (get_or es i d).tx = h.some i d lt in omega (arith, low, same)) h.some;
    }

pub table_remove : (es : List TransactionEntry) (i : ℕ) → i < length es → IsTable es → IsTable (remove es i)
table_remove es i lt h = record { rising = rises_remove es i lt h.rising; some = All-remove (λ (f : TransactionEntry). 0 < f.tx) es i h.some }

pub table_push : (es : List TransactionEntry) (e : TransactionEntry) → 0 < e.tx → All (λ (f : TransactionEntry). f.tx < e.tx) es → IsTable es → IsTable (es ++ e ∷ [])
table_push es e some low h = record { rising = rises_push es e low h.rising; some = All-push (λ (f : TransactionEntry). 0 < f.tx) es e h.some some }

-- WHAT IS KEPT
pub kept_nil : (ps : List PendingEntry) (t : ℕ) → kept_of [] ps t ≡ None
unfolding kept_of
kept_nil ps t = refl

pub kept_cons : (e : TransactionEntry) (es : List TransactionEntry) (ps : List PendingEntry) (t : ℕ) → kept_of (e ∷ es) ps t ≡ cond (eqb t e.tx) (Some (standing e ps)) (kept_of es ps t)
unfolding kept_of
kept_cons e es ps t = rw (is_eq-nat_cmp t e.tx) refl

own_cons : (e : TransactionEntry) (es : List TransactionEntry) (ps : List PendingEntry) (t : ℕ) → t ≡ e.tx → kept_of (e ∷ es) ps t ≡ Some (standing e ps)
own_cons e es ps t same = (let i : eqb t e.tx ≡ true = eq-eqb t e.tx same in kept_cons e es ps t ∙ rw i refl)

other_cons : (e : TransactionEntry) (es : List TransactionEntry) (ps : List PendingEntry) (t : ℕ) → t ≢ e.tx → kept_of (e ∷ es) ps t ≡ kept_of es ps t
other_cons e es ps t other = (let i : eqb t e.tx ≡ false = ne_eqb t e.tx other in kept_cons e es ps t ∙ rw i refl)

pub kept_none : (es : List TransactionEntry) (ps : List PendingEntry) (t : ℕ) → All (λ (e : TransactionEntry). e.tx ≢ t) es → kept_of es ps t ≡ None
kept_none [] ps t h = kept_nil ps t
kept_none (e ∷ es) ps t h = other_cons e es ps t (λ i. h 0 e (omega arith) (sym i)) ∙ kept_none es ps t (All-tail (λ (f : TransactionEntry). f.tx ≢ t) e es h)

pub kept_at : (es : List TransactionEntry) (ps : List PendingEntry) (i : ℕ) (d : TransactionEntry) (t : ℕ) → Ascends es → i < length es → (get_or es i d).tx ≡ t → kept_of es ps t ≡ Some (standing (get_or es i d) ps)
kept_at [] ps i d t h lt is = absurd (omega (arith, lt))
kept_at (e ∷ es) ps zero d t h lt is = own_cons e es ps t (sym is)
kept_at (e ∷ es) ps (suc i) d t h lt is =
    let less : e.tx < (get_or es i d).tx = h.0 i d (omega (arith, lt)) in
    other_cons e es ps t (λ z. omega (arith, z, is, less)) ∙ kept_at es ps i d t h.1 (omega (arith, lt)) is

-- what is kept is in the array
pub kept_where : (es : List TransactionEntry) (ps : List PendingEntry) (t : ℕ) (x : Transaction) → kept_of es ps t ≡ Some x → (i : ℕ) × (i < length es) × ((d : TransactionEntry) → (get_or es i d).tx ≡ t)
kept_where [] ps t x e = absurd (let none = kept_nil ps t in cc)
kept_where (f ∷ es) ps t x e =
    elim (cases_Bool (eqb t f.tx)) [
      | inl i ↦ (0, omega arith, λ d. sym (eqb-true t f.tx i))
      | inr i ↦
          (let rest = kept_where es ps t x (sym (other_cons f es ps t (eqb-false t f.tx i)) ∙ e) in
          (suc rest.0, omega (arith, rest.1), λ d. rest.2 d))
    ]

pub kept_pending : (es : List TransactionEntry) (ps qs : List PendingEntry) (t : ℕ) → pending_of t qs ≡ pending_of t ps → kept_of es qs t ≡ kept_of es ps t
kept_pending [] ps qs t e = kept_nil qs t ∙ sym (kept_nil ps t)
kept_pending (f ∷ es) ps qs t e =
    elim (cases_Bool (eqb t f.tx)) [
      | inl i ↦
          (let same : t ≡ f.tx = eqb-true t f.tx i in
          let ours : pending_of f.tx qs ≡ pending_of f.tx ps = subst (λ n. pending_of n qs ≡ pending_of n ps) same e in
          own_cons f es qs t same ∙ ap (λ (xs : List Pending). Some (record { entry = entry_in f; pending = xs })) ours ∙ sym (own_cons f es ps t same))
      | inr i ↦
          (let other = eqb-false t f.tx i in
          other_cons f es qs t other ∙ kept_pending es ps qs t e ∙ sym (other_cons f es ps t other))
    ]

pub kept_set : (es : List TransactionEntry) (ps : List PendingEntry) (i : ℕ) (d e : TransactionEntry) (t : ℕ) → i < length es → e.tx ≡ (get_or es i d).tx → t ≢ e.tx → kept_of (set es i e) ps t ≡ kept_of es ps t
kept_set [] ps i d e t lt same other = absurd (omega (arith, lt))
kept_set (x ∷ es) ps zero d e t lt same other = other_cons e es ps t other ∙ sym (other_cons x es ps t (λ z. other (z ∙ sym same)))
kept_set (x ∷ es) ps (suc i) d e t lt same other =
    kept_cons x (set es i e) ps t ∙ ap (λ (o : Option Transaction). cond (eqb t x.tx) (Some (standing x ps)) o) (kept_set es ps i d e t (omega (arith, lt)) same other) ∙ sym (kept_cons x es ps t)

pub kept_remove : (es : List TransactionEntry) (ps : List PendingEntry) (i : ℕ) (d : TransactionEntry) (tx : ℕ) → Ascends es → i < length es → (get_or es i d).tx ≡ tx → (t : ℕ) → kept_of (remove es i) ps t ≡ cond (eqb tx t) None (kept_of es ps t)
kept_remove [] ps i d tx h lt is t = absurd (omega (arith, lt))
kept_remove (e ∷ es) ps zero d tx h lt is t =
    elim (cases_Bool (eqb tx t)) [
      | inl i ↦
          (let same : tx ≡ t = eqb-true tx t i in
          rw i (kept_none es ps t (λ k f l z. (let less : e.tx < (get_or es k f).tx = h.0 k f l in omega (arith, less, z, is, same)))))
      | inr i ↦
          (let other = eqb-false tx t i in
          rw i (sym (other_cons e es ps t (λ z. other (sym is ∙ sym z)))))
    ]
kept_remove (e ∷ es) ps (suc i) d tx h lt is t =
    let rest = kept_remove es ps i d tx h.1 (omega (arith, lt)) is t in
    let less : e.tx < (get_or es i d).tx = h.0 i d (omega (arith, lt)) in
    elim (cases_Bool (eqb tx t)) [
      | inl j ↦
          (let same : tx ≡ t = eqb-true tx t j in
          let gone : kept_of (remove es i) ps t ≡ None = rest ∙ rw j refl in
          rw j (other_cons e (remove es i) ps t (λ z. omega (arith, z, less, is, same)) ∙ gone))
      | inr j ↦
          (let stays : kept_of (remove es i) ps t ≡ kept_of es ps t = rest ∙ rw j refl in
          rw j (kept_cons e (remove es i) ps t ∙ ap (λ (o : Option Transaction). cond (eqb t e.tx) (Some (standing e ps)) o) stays ∙ sym (kept_cons e es ps t)))
    ]

pub kept_push : (es : List TransactionEntry) (ps : List PendingEntry) (e : TransactionEntry) → All (λ (f : TransactionEntry). f.tx < e.tx) es → (t : ℕ) → kept_of (es ++ e ∷ []) ps t ≡ cond (eqb e.tx t) (Some (standing e ps)) (kept_of es ps t)
kept_push [] ps e low t =
    elim (cases_Bool (eqb e.tx t)) [
      | inl i ↦ rw i (own_cons e [] ps t (sym (eqb-true e.tx t i)))
      | inr i ↦ rw i (other_cons e [] ps t (λ z. eqb-false e.tx t i (sym z)))
    ]
kept_push (x ∷ es) ps e low t =
    let rest = kept_push es ps e (All-tail (λ (f : TransactionEntry). f.tx < e.tx) x es low) t in
    let less : x.tx < e.tx = low 0 x (omega arith) in
    elim (cases_Bool (eqb e.tx t)) [
      | inl i ↦
          (let same : e.tx ≡ t = eqb-true e.tx t i in
          let new : kept_of (es ++ e ∷ []) ps t ≡ Some (standing e ps) = rest ∙ rw i refl in
          rw i (other_cons x (es ++ e ∷ []) ps t (λ z. omega (arith, z, same, less)) ∙ new))
      | inr i ↦
          (let stays : kept_of (es ++ e ∷ []) ps t ≡ kept_of es ps t = rest ∙ rw i refl in
          rw i (kept_cons x (es ++ e ∷ []) ps t ∙ ap (λ (o : Option Transaction). cond (eqb t x.tx) (Some (standing x ps)) o) stays ∙ sym (kept_cons x es ps t)))
    ]

-- WHICH TRANSACTIONS ARE LISTED
pub live_cons : (e : TransactionEntry) (es : List TransactionEntry) (p : PendingEntry) → is_live (e ∷ es) p ≡ (eqb e.tx p.tx || is_live es p)
unfolding is_live
live_cons e es p = refl

pub live_nil : (p : PendingEntry) → is_live [] p ≡ false
unfolding is_live
live_nil p = refl

pub live_at : (es : List TransactionEntry) (i : ℕ) (d : TransactionEntry) (p : PendingEntry) → i < length es → (get_or es i d).tx ≡ p.tx → is_live es p ≡ true
live_at [] i d p lt is = absurd (omega (arith, lt))
live_at (e ∷ es) zero d p lt is = live_cons e es p ∙ or_left (eqb e.tx p.tx) (is_live es p) (eq-eqb e.tx p.tx is)
live_at (e ∷ es) (suc i) d p lt is = live_cons e es p ∙ or_right (eqb e.tx p.tx) (is_live es p) (live_at es i d p (omega (arith, lt)) is)

pub live_none : (es : List TransactionEntry) (p : PendingEntry) → All (λ (e : TransactionEntry). e.tx ≢ p.tx) es → is_live es p ≡ false
live_none [] p h = live_nil p
live_none (e ∷ es) p h =
    live_cons e es p ∙ or_from (eqb e.tx p.tx) (is_live es p) (ne_eqb e.tx p.tx (h 0 e (omega arith))) (live_none es p (All-tail (λ (f : TransactionEntry). f.tx ≢ p.tx) e es h))

pub rises_to : (es : List TransactionEntry) → Ascends es → (m k : ℕ) (d e : TransactionEntry) → k ≤ m → m < length es → (get_or es k d).tx ≤ (get_or es m e).tx
rises_to es h m k d e le lt =
    let same : get_or es m d ≡ get_or es m e = get_or_default es m d e lt in
    let same_tx : (get_or es m d).tx ≡ (get_or es m e).tx = ap (λ (x : TransactionEntry). x.tx) same in
    elim (cases_lt k m) [
      | inl less ↦ (let below = rises_at es h k m d less lt in omega (arith, below, same_tx))
      | inr more ↦ (let eq : k ≡ m = omega (arith, le, more) in let at : (get_or es k d).tx ≡ (get_or es m d).tx = ap (λ n. (get_or es n d).tx) eq in omega (arith, at, same_tx))
    ]

-- what a look-up found
pub listed_is : (es : List TransactionEntry) (tx : ℕ) (o : Option ℕ) → IfSome o (λ i. i < length es) → IfSome o (λ i. (d : TransactionEntry) → (get_or es i d).tx ≡ tx) → (o ≡ None → All (λ (e : TransactionEntry). e.tx ≢ tx) es)
    → (p : PendingEntry) → p.tx ≡ tx → is_some o ≡ is_live es p
listed_is es tx None within found none p own = sym (live_none es p (λ k d l z. none refl k d l (z ∙ own)))
listed_is es tx (Some i) within found none p own =
    let blank : TransactionEntry = record { last = 0; undo_next = 0; below = 0; tx = 0; state = 0 } in
    sym (live_at es i blank p within (found blank ∙ sym own))

pub listed_kept : (es : List TransactionEntry) (ps : List PendingEntry) (tx : ℕ) (o : Option ℕ) → IfSome o (λ i. i < length es) → IfSome o (λ i. (d : TransactionEntry) → (get_or es i d).tx ≡ tx) → IsTable es → is_some o ≡ true → is_some (kept_of es ps tx) ≡ true
listed_kept es ps tx None within found t e = absurd (cc)
listed_kept es ps tx (Some i) within found t e =
    let blank : TransactionEntry = record { last = 0; undo_next = 0; below = 0; tx = 0; state = 0 } in
    ap is_some (kept_at es ps i blank tx t.rising within (found blank))

-- INSERTED, in order
pub All-insert : (P : TransactionEntry → Type 0) (es : List TransactionEntry) (i : ℕ) (e : TransactionEntry) → P e → All P es → All P (insert es i e)
All-insert P es i e here h = All-append P (take i es) (e ∷ drop i es) (All-take P i es h) (All-cons P e (drop i es) here (All-drop P i es h))

pub rises_insert : (es : List TransactionEntry) (i : ℕ) (e : TransactionEntry) → i ≤ length es → All (λ (f : TransactionEntry). f.tx < e.tx) (take i es) → All (λ (f : TransactionEntry). e.tx < f.tx) (drop i es) → Ascends es → Ascends (insert es i e)
rises_insert es zero e le low high h = (high, h)
rises_insert [] (suc i) e le low high h = absurd (omega (arith, le))
rises_insert (x ∷ es) (suc i) e le low high h = (
  All-insert (λ (f : TransactionEntry). x.tx < f.tx) es i e (All-head (λ (f : TransactionEntry). f.tx < e.tx) x (take i es) low) h.0,
  rises_insert es i e (omega (arith, le)) (All-tail (λ (f : TransactionEntry). f.tx < e.tx) x (take i es) low) high h.1,
)

pub table_insert : (es : List TransactionEntry) (i : ℕ) (e : TransactionEntry) → i ≤ length es → 0 < e.tx → All (λ (f : TransactionEntry). f.tx < e.tx) (take i es) → All (λ (f : TransactionEntry). e.tx < f.tx) (drop i es) → IsTable es → IsTable (insert es i e)
table_insert es i e le some low high h = record { rising = rises_insert es i e le low high h.rising; some = All-insert (λ (f : TransactionEntry). 0 < f.tx) es i e some h.some }

pub kept_insert : (es : List TransactionEntry) (ps : List PendingEntry) (i : ℕ) (e : TransactionEntry) → i ≤ length es → All (λ (f : TransactionEntry). f.tx ≢ e.tx) es → (t : ℕ) → kept_of (insert es i e) ps t ≡ cond (eqb e.tx t) (Some (standing e ps)) (kept_of es ps t)
kept_insert es ps zero e le none t =
    elim (cases_Bool (eqb e.tx t)) [
      | inl i ↦ rw i (own_cons e es ps t (sym (eqb-true e.tx t i)))
      | inr i ↦ rw i (other_cons e es ps t (λ z. eqb-false e.tx t i (sym z)))
    ]
kept_insert [] ps (suc i) e le none t = absurd (omega (arith, le))
kept_insert (x ∷ es) ps (suc i) e le none t =
    let rest = kept_insert es ps i e (omega (arith, le)) (All-tail (λ (f : TransactionEntry). f.tx ≢ e.tx) x es none) t in
    let other : x.tx ≢ e.tx = none 0 x (omega arith) in
    elim (cases_Bool (eqb e.tx t)) [
      | inl j ↦
          (let same : e.tx ≡ t = eqb-true e.tx t j in
          let new : kept_of (insert es i e) ps t ≡ Some (standing e ps) = rest ∙ rw j refl in
          rw j (other_cons x (insert es i e) ps t (λ z. other (sym z ∙ sym same)) ∙ new))
      | inr j ↦
          (let stays : kept_of (insert es i e) ps t ≡ kept_of es ps t = rest ∙ rw j refl in
          rw j (kept_cons x (insert es i e) ps t ∙ ap (λ (o : Option Transaction). cond (eqb t x.tx) (Some (standing x ps)) o) stays ∙ sym (kept_cons x es ps t)))
    ]
