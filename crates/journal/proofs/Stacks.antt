-- The array of pending updates: those of each transaction, after a change of the array.
use Rattle.std.proofs.Common.{◌≡◌, ◌≢◌, ◌<◌, ◌≤◌, ◌+◌, ◌-◌, ℕ, zero, suc, Bool, true, false, List, [], ◌∷◌, ◌++◌, length, get_or, set, take, drop, map, refl, sym, ap, ap₂, ◌∙◌, inl, inr, arith, eqb, eq-eqb, ne_eqb, eqb-true, append-nil}
use Rattle.std.specs.Prelude.{All, filter}
use Rattle.std.proofs.lemmas.Bool.{cases_Bool, eqb-false}
use Rattle.std.proofs.lemmas.List.{map-append, set-get_or, set_split, take_at, length_push, length-append, take-append-drop}
use Rattle.std.proofs.lemmas.List.Elements.{All-tail, All-nil, All-cons, All-filter, filter-append}
use Rattle.journal.specs.declared.entries.PendingEntry.{PendingEntry}
use Rattle.journal.specs.Transactions.{Pending}
use Rattle.journal.specs.Arrays.{update_of, is_by, pending_of, NoneBy, without_owner}

pub pending_nil : (t : ℕ) → pending_of t [] ≡ []
unfolding pending_of
pending_nil t = refl

pub pending_append : (t : ℕ) (ps qs : List PendingEntry) → pending_of t (ps ++ qs) ≡ pending_of t ps ++ pending_of t qs
unfolding pending_of
pending_append t ps qs = ap (map update_of) (filter-append (is_by t) ps qs) ∙ map-append update_of (filter (is_by t) ps) (filter (is_by t) qs)

pub pending_own : (t : ℕ) (p : PendingEntry) (ps : List PendingEntry) → p.tx ≡ t → pending_of t (p ∷ ps) ≡ update_of p ∷ pending_of t ps
unfolding pending_of
pending_own t p ps e = (let i : eqb p.tx t ≡ true = eq-eqb p.tx t e in rw i refl)

pub pending_other : (t : ℕ) (p : PendingEntry) (ps : List PendingEntry) → p.tx ≢ t → pending_of t (p ∷ ps) ≡ pending_of t ps
unfolding pending_of
pending_other t p ps n = (let i : eqb p.tx t ≡ false = ne_eqb p.tx t n in rw i refl)

pub pending_none : (t : ℕ) (ps : List PendingEntry) → NoneBy t ps → pending_of t ps ≡ []
pending_none t [] h = pending_nil t
pending_none t (p ∷ ps) h = pending_other t p ps (h 0 p (omega arith)) ∙ pending_none t ps (All-tail (λ (q : PendingEntry). q.tx ≢ t) p ps h)

-- ONE MORE
pub pending_push : (t : ℕ) (ps : List PendingEntry) (p : PendingEntry) → p.tx ≡ t → pending_of t (ps ++ p ∷ []) ≡ pending_of t ps ++ update_of p ∷ []
pending_push t ps p e = pending_append t ps (p ∷ []) ∙ ap (λ (xs : List Pending). pending_of t ps ++ xs) (pending_own t p [] e ∙ ap (λ (xs : List Pending). update_of p ∷ xs) (pending_nil t))

pub pending_push_other : (t : ℕ) (ps : List PendingEntry) (p : PendingEntry) → p.tx ≢ t → pending_of t (ps ++ p ∷ []) ≡ pending_of t ps
pending_push_other t ps p n = pending_append t ps (p ∷ []) ∙ ap (λ (xs : List Pending). pending_of t ps ++ xs) (pending_other t p [] n ∙ pending_nil t) ∙ append-nil (pending_of t ps)

-- THE NEWEST ONE is at a place, and no other update of its transaction is after it
pub parted : (ps : List PendingEntry) (i : ℕ) (d : PendingEntry) → i < length ps → ps ≡ take i ps ++ get_or ps i d ∷ drop (suc i) ps
parted ps i d lt = sym (set-get_or ps i d) ∙ set_split ps i (get_or ps i d) lt

module _ (t : ℕ) (ps : List PendingEntry) (i : ℕ) (d : PendingEntry) (lt : i < length ps) (own : (get_or ps i d).tx ≡ t) (none : NoneBy t (drop (suc i) ps)) where
  abbrev below : List Pending
  below = pending_of t (take i ps)

  pub newest_at : pending_of t ps ≡ below ++ update_of (get_or ps i d) ∷ []
  newest_at =
      ap (pending_of t) (parted ps i d lt) ∙ pending_append t (take i ps) (get_or ps i d ∷ drop (suc i) ps)
      ∙ ap (λ (xs : List Pending). below ++ xs) (pending_own t (get_or ps i d) (drop (suc i) ps) own ∙ ap (λ (xs : List Pending). update_of (get_or ps i d) ∷ xs) (pending_none t (drop (suc i) ps) none))

  front : take (length (pending_of t ps) - 1) (pending_of t ps) ≡ below
  front =
      let size : length (pending_of t ps) - 1 ≡ length below = (let n = ap length newest_at ∙ length_push below (update_of (get_or ps i d)) in omega (arith, n)) in
      ap₂ (λ n (xs : List Pending). take n xs) size newest_at ∙ take_at below (update_of (get_or ps i d) ∷ []) (length below) refl

  pub newest_is : pending_of t ps ≡ take (length (pending_of t ps) - 1) (pending_of t ps) ++ update_of (get_or ps i d) ∷ []
  newest_is = newest_at ∙ ap (λ (xs : List Pending). xs ++ update_of (get_or ps i d) ∷ []) (sym front)

  -- after it was given to transaction 0
  pub undone_own : 0 < t → pending_of t (set ps i (without_owner (get_or ps i d))) ≡ take (length (pending_of t ps) - 1) (pending_of t ps)
  undone_own some =
      ap (pending_of t) (set_split ps i (without_owner (get_or ps i d)) lt) ∙ pending_append t (take i ps) (without_owner (get_or ps i d) ∷ drop (suc i) ps)
      ∙ ap (λ (xs : List Pending). below ++ xs) (pending_other t (without_owner (get_or ps i d)) (drop (suc i) ps) (λ e. omega (arith, e, some)) ∙ pending_none t (drop (suc i) ps) none)
      ∙ append-nil below ∙ sym front

  -- one update fewer is pending
  pub undone_count : 0 < t → length (pending_of t (set ps i (without_owner (get_or ps i d)))) + 1 ≡ length (pending_of t ps)
  undone_count some =
      (let a = ap (λ (xs : List Pending). length xs) (undone_own some ∙ front) in
      let b = ap (λ (xs : List Pending). length xs) newest_at ∙ length_push below (update_of (get_or ps i d)) in
      omega (arith, a, b))

  pub undone_other : (u : ℕ) → 0 < u → t ≢ u → pending_of u (set ps i (without_owner (get_or ps i d))) ≡ pending_of u ps
  undone_other u some n =
      let rest : List PendingEntry = drop (suc i) ps in
      ap (pending_of u) (set_split ps i (without_owner (get_or ps i d)) lt) ∙ pending_append u (take i ps) (without_owner (get_or ps i d) ∷ rest)
      ∙ ap (λ (xs : List Pending). pending_of u (take i ps) ++ xs) (pending_other u (without_owner (get_or ps i d)) rest (λ e. omega (arith, e, some)) ∙ sym (pending_other u (get_or ps i d) rest (λ e. n (sym own ∙ e))))
      ∙ sym (pending_append u (take i ps) (get_or ps i d ∷ rest)) ∙ ap (pending_of u) (sym (parted ps i d lt))

-- WHAT IS NOT NEEDED is removed
pub pending_filter : (f : PendingEntry → Bool) (t : ℕ) → ((p : PendingEntry) → p.tx ≡ t → f p ≡ true) → (ps : List PendingEntry) → pending_of t (filter f ps) ≡ pending_of t ps
pending_filter f t keeps [] = refl
pending_filter f t keeps (p ∷ ps) =
    elim (cases_Bool (eqb p.tx t)) [
      | inl i ↦
          (let own : p.tx ≡ t = eqb-true p.tx t i in
          let k : f p ≡ true = keeps p own in
          rw k (pending_own t p (filter f ps) own ∙ ap (λ (xs : List Pending). update_of p ∷ xs) (pending_filter f t keeps ps) ∙ sym (pending_own t p ps own)))
      | inr i ↦
          (let other = eqb-false p.tx t i in
          let rest : pending_of t (filter f ps) ≡ pending_of t ps = pending_filter f t keeps ps in
          elim (cases_Bool (f p)) [
            | inl k ↦ rw k (pending_other t p (filter f ps) other ∙ rest ∙ sym (pending_other t p ps other))
            | inr k ↦ rw k (rest ∙ sym (pending_other t p ps other))
          ])
    ]

length_filter : (f : PendingEntry → Bool) (ps : List PendingEntry) → length (filter f ps) ≤ length ps
length_filter f [] = omega arith
length_filter f (p ∷ ps) =
    let rest = length_filter f ps in
    elim (cases_Bool (f p)) [ inl k ↦ rw k (omega (arith, rest)) | inr k ↦ rw k (omega (arith, rest)) ]

-- no update of the transaction is at a place or after it, and so it is in what is left
pub none_filter : (f : PendingEntry → Bool) (t n : ℕ) (ps : List PendingEntry) → NoneBy t (drop n ps) → NoneBy t (drop n (filter f ps))
none_filter f t zero ps h = All-filter f (λ (p : PendingEntry). p.tx ≢ t) ps h
none_filter f t (suc n) [] h = h
none_filter f t (suc n) (p ∷ ps) h =
    let rest : NoneBy t (drop n (filter f ps)) = none_filter f t n ps h in
    elim (cases_Bool (f p)) [
      | inl k ↦ rw k rest
      | inr k ↦ rw k (further n (filter f ps) rest)
    ]
  where
    further : (m : ℕ) (qs : List PendingEntry) → NoneBy t (drop m qs) → NoneBy t (drop (suc m) qs)
    further m [] g = All-nil (λ (q : PendingEntry). q.tx ≢ t)
    further zero (q ∷ qs) g = All-tail (λ (x : PendingEntry). x.tx ≢ t) q qs g
    further (suc m) (q ∷ qs) g = further m qs g

-- from a place on
pub pending_left : (f : PendingEntry → Bool) (t : ℕ) → ((p : PendingEntry) → p.tx ≡ t → f p ≡ true) → (from : ℕ) (ps : List PendingEntry)
    → pending_of t (take from ps ++ filter f (drop from ps)) ≡ pending_of t ps
pending_left f t keeps from ps =
    pending_append t (take from ps) (filter f (drop from ps)) ∙ ap (λ (xs : List Pending). pending_of t (take from ps) ++ xs) (pending_filter f t keeps (drop from ps))
    ∙ sym (pending_append t (take from ps) (drop from ps)) ∙ ap (pending_of t) (take-append-drop from ps)

pub none_left : (f : PendingEntry → Bool) (t n from : ℕ) (ps : List PendingEntry) → NoneBy t (drop n ps) → NoneBy t (drop n (take from ps ++ filter f (drop from ps)))
none_left f t n zero ps h = none_filter f t n ps h
none_left f t n (suc from) [] h = h
none_left f t zero (suc from) (p ∷ ps) h =
    All-cons (λ (q : PendingEntry). q.tx ≢ t) p (take from ps ++ filter f (drop from ps)) (h 0 p (omega arith))
    (none_left f t zero from ps (All-tail (λ (q : PendingEntry). q.tx ≢ t) p ps h))
none_left f t (suc n) (suc from) (p ∷ ps) h = none_left f t n from ps h

pub length_left : (f : PendingEntry → Bool) (from : ℕ) (ps : List PendingEntry) → length (take from ps ++ filter f (drop from ps)) ≤ length ps
length_left f from ps =
    let left = length-append (take from ps) (filter f (drop from ps)) in
    let whole = sym (length-append (take from ps) (drop from ps)) ∙ ap length (take-append-drop from ps) in
    omega (arith, left, whole, length_filter f (drop from ps))

-- all before that place are needed: then none is left out that is needed, and none is kept that is not
filter_all : (f : PendingEntry → Bool) (ps : List PendingEntry) → All (λ (p : PendingEntry). f p ≡ true) ps → filter f ps ≡ ps
filter_all f [] h = refl
filter_all f (p ∷ ps) h =
    let here : f p ≡ true = h 0 p (omega arith) in
    rw here (ap (λ (xs : List PendingEntry). p ∷ xs) (filter_all f ps (All-tail (λ (q : PendingEntry). f q ≡ true) p ps h)))

pub left_is_filter : (f : PendingEntry → Bool) (from : ℕ) (ps : List PendingEntry) → All (λ (p : PendingEntry). f p ≡ true) (take from ps)
    → take from ps ++ filter f (drop from ps) ≡ filter f ps
left_is_filter f from ps h =
    ap (λ (xs : List PendingEntry). xs ++ filter f (drop from ps)) (sym (filter_all f (take from ps) h)) ∙ sym (filter-append f (take from ps) (drop from ps))
    ∙ ap (filter f) (take-append-drop from ps)
