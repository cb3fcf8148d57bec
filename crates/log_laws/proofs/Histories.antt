-- The record at an LSN, and the log up to an LSN.
use Rattle.std.proofs.lemmas.Bool.{cases_eq, cases_Bool, le-ltb, lt-ltb, ltb-true, ltb-false}
use Rattle.std.proofs.lemmas.Option.{same_Some}
use Rattle.std.proofs.Common.{ne_eqb, eq-eqb, eqb, ltb, eqb-true, false, inl, inr, ◌⊎◌, ℕ, suc, zero, ◌≡◌, ◌+◌, ◌-◌, ◌<◌, ◌≤◌, List, [], ◌∷◌, ◌++◌, Some, None, refl, subst, sym, ap₂, length, take, get_or, ap, ◌∙◌, arith, true}
use Rattle.std.specs.Prelude.{All}
use Rattle.log_laws.specs.Records.{LogRecord, History, start, ◌▸◌, ◌▸▸◌, lsn_before, LogContent, history, ◌⧺◌, up_to, last_lsn, base_lsn, record_at, first}
use Rattle.log_laws.specs.Meaning.{is_of, last_of, has}

-- ---- one more record

pub record_last : (log : History) (r : LogRecord) → record_at (log ▸ r) (suc (last_lsn log)) ≡ Some r
record_last log r = rw (eq-eqb (suc (last_lsn log)) (suc (last_lsn log)) refl)

pub record_older : (log : History) (r : LogRecord) (n : ℕ) → n ≤ last_lsn log → record_at (log ▸ r) n ≡ record_at log n
record_older log r n h = rw (ne_eqb n (suc (last_lsn log)) (λ e. omega arith))

-- a record of another transaction is not the last of t
pub last_other : (t : ℕ) (log : History) (r : LogRecord) → is_of t r ≡ false → last_of t (log ▸ r) ≡ last_of t log
last_other t log r e = rw e refl

-- the last record of a transaction is one of the log; there is none if and only if the log has no record of it
pub last_within : (t : ℕ) (log : History) → last_of t log ≤ last_lsn log
last_within t (start _) = omega arith
last_within t (log ▸ r) =
    elim (cases_Bool (is_of t r)) [
      | inl e ↦ rw e (omega arith)
      | inr e ↦ rw e (omega (arith, last_within t log))
    ]

pub has_none : (t : ℕ) (log : History) → last_of t log ≡ 0 → has (is_of t) log ≡ false
has_none t (start _) h = refl
has_none t (log ▸ r) h =
    elim (cases_Bool (is_of t r)) [
      | inl e ↦ absurd (let f : suc (last_lsn log) ≡ 0 = rw e at h in omega (arith, f))
      | inr e ↦ rw e (has_none t log (rw e at h))
    ]

pub has_some : (t : ℕ) (log : History) → (last_of t log ≡ 0 → ⊥) → has (is_of t) log ≡ true
has_some t (start _) h = absurd (h refl)
has_some t (log ▸ r) h =
    elim (cases_Bool (is_of t r)) [
      | inl e ↦ rw e refl
      | inr e ↦ rw e (has_some t log (λ z. h (rw e z)))
    ]

-- what is found has an LSN of the log
pub record_within : (log : History) (n : ℕ) (x : LogRecord) → record_at log n ≡ Some x → n ≤ last_lsn log
record_within (start _) n x h = absurd (cc)
record_within (log ▸ r) n x h =
    elim (cases_Bool (eqb n (suc (last_lsn log)))) [
      | inl e ↦ omega (arith, eqb-true n (suc (last_lsn log)) e)
      | inr e ↦ omega (arith, record_within log n x (rw e at h))
    ]

-- the log begins at or below its last LSN
pub base_within : (log : History) → base_lsn log ≤ last_lsn log
base_within (start _) = omega arith
base_within (log ▸ r) = omega (arith, base_within log)

-- the LSN of what is found is above the base LSN
pub record_above : (log : History) (n : ℕ) (x : LogRecord) → record_at log n ≡ Some x → base_lsn log < n
record_above (start _) n x h = absurd (cc)
record_above (log ▸ r) n x h =
    elim (cases_Bool (eqb n (suc (last_lsn log)))) [
      | inl e ↦ omega (arith, eqb-true n (suc (last_lsn log)) e, base_within log)
      | inr e ↦ record_above log n x (rw e at h)
    ]

-- what is found is found in a longer log
pub record_more : (log : History) (r : LogRecord) (n : ℕ) (x : LogRecord) → record_at log n ≡ Some x → record_at (log ▸ r) n ≡ Some x
record_more log r n x h = record_older log r n (record_within log n x h) ∙ h

-- nothing is found up to the base LSN, and above the last LSN
pub record_none : (log : History) (n : ℕ) → (n ≤ base_lsn log) ⊎ (last_lsn log < n) → record_at log n ≡ None
record_none (start _) n h = refl
record_none (log ▸ r) n h =
    elim (cases_eq n (suc (last_lsn log))) [
      | inl e ↦
          elim h [
            | inl z ↦ absurd (omega (arith, e, z, base_within log))
            | inr l ↦ absurd (omega (arith, e, l))
          ]
      | inr d ↦
          (let i : eqb n (suc (last_lsn log)) ≡ false = ne_eqb n (suc (last_lsn log)) d in
          let h' : (n ≤ base_lsn log) ⊎ (last_lsn log < n) = elim h [ inl z ↦ inl z | inr l ↦ inr (omega (arith, l)) ] in
          rw i (record_none log n h'))
    ]

-- ---- a list of records

-- records one list after the other
pub after-append : (log : History) (xs ys : List LogRecord) → log ▸▸ (xs ++ ys) ≡ (log ▸▸ xs) ▸▸ ys
after-append log [] ys = refl
after-append log (x ∷ xs) ys = after-append (log ▸ x) xs ys

-- a log with one more record
pub history_push : (log : LogContent) (r : LogRecord) → history (log ⧺ r ∷ []) ≡ history log ▸ r
history_push log r = after-append (start (lsn_before log.begins)) log.records (r ∷ [])

pub size-after : (log : History) (xs : List LogRecord) → last_lsn (log ▸▸ xs) ≡ last_lsn log + length xs
size-after log [] = omega arith
size-after log (x ∷ xs) = size-after (log ▸ x) xs ∙ omega arith

pub size_of_log : (log : LogContent) → last_lsn (history log) ≡ lsn_before log.begins + length log.records
size_of_log log = size-after (start (lsn_before log.begins)) log.records

-- more records do not change the base LSN
pub base_after : (log : History) (xs : List LogRecord) → base_lsn (log ▸▸ xs) ≡ base_lsn log
base_after log [] = refl
base_after log (x ∷ xs) = base_after (log ▸ x) xs

pub base_of_log : (log : LogContent) → base_lsn (history log) ≡ lsn_before log.begins
base_of_log log = base_after (start (lsn_before log.begins)) log.records

-- what follows does not change what is before it
pub record_in_front : (log : History) (xs : List LogRecord) (n : ℕ) → n ≤ last_lsn log → record_at (log ▸▸ xs) n ≡ record_at log n
record_in_front log [] n h = refl
record_in_front log (x ∷ xs) n h = record_in_front (log ▸ x) xs n (omega arith) ∙ record_older log x n h

-- the first n of a longer log
pub first_older : (log : History) (r : LogRecord) (n : ℕ) → n ≤ last_lsn log → first n (log ▸ r) ≡ first n log
first_older log r n h = (let e : ltb (last_lsn log) n ≡ false = le-ltb (last_lsn log) n h in rw e)

-- up to the base LSN there are no records
pub first_base : (log : History) (n : ℕ) → n ≤ base_lsn log → first n log ≡ start (base_lsn log)
first_base (start _) n h = refl
first_base (log ▸ r) n h = (let l : ltb (last_lsn log) n ≡ false = le-ltb (last_lsn log) n (omega (arith, h, base_within log)) in rw l (first_base log n h))

-- at the base LSN there is no record yet
pub first_at_base : (log : History) (base : ℕ) → base ≡ base_lsn log → first base log ≡ start base
first_at_base log base e = first_base log base (omega (arith, e)) ∙ ap start (sym e)

pub first_none : (log : History) → first 0 log ≡ start (base_lsn log)
first_none log = first_base log 0 (omega arith)

pub first_in_front : (log : History) (xs : List LogRecord) (n : ℕ) → n ≤ last_lsn log → first n (log ▸▸ xs) ≡ first n log
first_in_front log [] n h = refl
first_in_front log (x ∷ xs) n h = first_in_front (log ▸ x) xs n (omega arith) ∙ first_older log x n h

-- the records of the list follow the log
record_behind : (log : History) (xs : List LogRecord) (i : ℕ) (d : LogRecord) → i < length xs → record_at (log ▸▸ xs) (suc (last_lsn log + i)) ≡ Some (get_or xs i d)
record_behind log [] i d h = absurd (omega arith)
record_behind log (x ∷ xs) zero d h =
    ap (record_at ((log ▸ x) ▸▸ xs)) (omega arith) ∙ record_in_front (log ▸ x) xs (suc (last_lsn log)) (omega arith) ∙ record_last log x
record_behind log (x ∷ xs) (suc i) d h = ap (record_at ((log ▸ x) ▸▸ xs)) (omega arith) ∙ record_behind (log ▸ x) xs i d (omega arith)

-- the record at an LSN is the item at its place after the base LSN
pub record_item : (log : LogContent) (i : ℕ) (d : LogRecord) → i < length log.records → record_at (history log) (lsn_before log.begins + i + 1) ≡ Some (get_or log.records i d)
record_item log i d lt = ap (record_at (history log)) (omega arith) ∙ record_behind (start (lsn_before log.begins)) log.records i d lt

-- ---- the log up to an LSN

pub first_all : (lsn : ℕ) (log : History) → last_lsn log ≤ lsn → first lsn log ≡ log
first_all lsn (start _) h = refl
first_all lsn (log ▸ r) h = rw (lt-ltb (last_lsn log) lsn h)

-- up to the next LSN it is one record longer
pub first_more : (log : History) (lsn : ℕ) (r : LogRecord) → record_at log (lsn + 1) ≡ Some r → first (lsn + 1) log ≡ first lsn log ▸ r
first_more (start _) lsn r f = absurd cc
first_more (log ▸ x) lsn r f =
    elim (cases_eq (lsn + 1) (suc (last_lsn log))) [
      | inl e ↦
          (let same : x ≡ r = same_Some x r (sym (ap (record_at (log ▸ x)) e ∙ record_last log x) ∙ f) in
          first_all (lsn + 1) (log ▸ x) (omega (arith, e)) ∙ ap₂ (λ a b. a ▸ b) (sym (first_older log x lsn (omega (arith, e)) ∙ first_all lsn log (omega (arith, e)))) same)
      | inr d ↦
          (let le : lsn + 1 ≤ last_lsn log = omega (arith, d, record_within (log ▸ x) (lsn + 1) r f) in
          first_older log x (lsn + 1) le ∙ first_more log lsn r (sym (record_older log x (lsn + 1) le) ∙ f) ∙ ap (λ l. l ▸ r) (sym (first_older log x lsn (omega (arith, le)))))
    ]

-- up to one LSN and then to one that is not above it
pub first_first : (m n : ℕ) (log : History) → m ≤ n → first m (first n log) ≡ first m log
first_first m n (start _) le = refl
first_first m n (log ▸ r) le =
    elim (cases_Bool (ltb (last_lsn log) n)) [
      | inl e ↦ rw e refl
      | inr e ↦ rw e (first_first m n log le ∙ sym (first_older log r m (omega (arith, le, ltb-false (last_lsn log) n e))))
    ]

-- the record after an LSN that is not the last
pub record Behind (log : History) (lsn : ℕ) : Type 0 where
  pub entry : LogRecord
  pub there : record_at log (lsn + 1) ≡ Some entry
  pub next : first (lsn + 1) log ≡ first lsn log ▸ entry

pub behind : (log : History) (lsn : ℕ) → base_lsn log ≤ lsn → lsn < last_lsn log → Behind log lsn
behind log lsn from lt = (let found = at log lsn from lt in record { entry = found.0; there = found.1; next = first_more log lsn found.0 found.1 })
  where
    at : (log : History) (lsn : ℕ) → base_lsn log ≤ lsn → lsn < last_lsn log → (r : LogRecord) × (record_at log (lsn + 1) ≡ Some r)
    at (start _) lsn from lt = absurd (omega (arith, from, lt))
    at (log ▸ r) lsn from lt =
        elim (cases_eq (lsn + 1) (suc (last_lsn log))) [
          | inl e ↦ (r, ap (record_at (log ▸ r)) e ∙ record_last log r)
          | inr d ↦ (let older = at log lsn from (omega (arith, d, lt)) in (older.0, record_more log r (lsn + 1) older.0 older.1))
        ]

-- its last record has this LSN
pub size_of_first : (lsn : ℕ) (log : History) → base_lsn log ≤ lsn → lsn ≤ last_lsn log → last_lsn (first lsn log) ≡ lsn
size_of_first lsn (start _) from h = omega (arith, from, h)
size_of_first lsn (log ▸ r) from h =
    elim (cases_Bool (ltb (last_lsn log) lsn)) [
      | inl e ↦ rw e (omega (arith, h, ltb-true (last_lsn log) lsn e))
      | inr e ↦ rw e (size_of_first lsn log from (ltb-false (last_lsn log) lsn e))
    ]

-- and it begins where the log does
pub base_of_first : (lsn : ℕ) (log : History) → base_lsn (first lsn log) ≡ base_lsn log
base_of_first lsn (start _) = refl
base_of_first lsn (log ▸ r) =
    elim (cases_Bool (ltb (last_lsn log) lsn)) [
      | inl e ↦ rw e refl
      | inr e ↦ rw e (base_of_first lsn log)
    ]

-- up to this LSN the records stay
pub record_in_first : (lsn : ℕ) (log : History) (n : ℕ) → n ≤ lsn → record_at (first lsn log) n ≡ record_at log n
record_in_first lsn (start _) n h = refl
record_in_first lsn (log ▸ r) n h =
    elim (cases_Bool (ltb (last_lsn log) lsn)) [
      | inl e ↦ rw e refl
      | inr e ↦ rw e (record_in_first lsn log n h ∙ sym (record_older log r n (omega (arith, h, ltb-false (last_lsn log) lsn e))))
    ]

-- the records up to an LSN, as a list and in the order of time
first_of_list : (log : History) (xs : List LogRecord) (k : ℕ) → log ▸▸ take k xs ≡ first (last_lsn log + k) (log ▸▸ xs)
first_of_list log [] zero = sym (first_all (last_lsn log + 0) log (omega arith))
first_of_list log [] (suc k) = sym (first_all (last_lsn log + suc k) log (omega arith))
first_of_list log (x ∷ xs) zero = sym (first_in_front log (x ∷ xs) (last_lsn log + 0) (omega arith) ∙ first_all (last_lsn log + 0) log (omega arith))
first_of_list log (x ∷ xs) (suc k) = first_of_list (log ▸ x) xs k ∙ ap (λ n. first n ((log ▸ x) ▸▸ xs)) (omega arith)

-- it ends there or before
pub size_of_first_le : (lsn : ℕ) (log : History) → base_lsn log ≤ lsn → last_lsn (first lsn log) ≤ lsn
size_of_first_le lsn (start _) from = omega (arith, from)
size_of_first_le lsn (log ▸ r) from =
    elim (cases_Bool (ltb (last_lsn log) lsn)) [
      | inl e ↦ rw e (omega (arith, ltb-true (last_lsn log) lsn e))
      | inr e ↦ rw e (size_of_first_le lsn log from)
    ]

pub up_to_is : (lsn : ℕ) (log : LogContent) → base_lsn (history log) ≤ lsn → history (up_to lsn log) ≡ first lsn (history log)
up_to_is lsn log from = first_of_list (start (lsn_before log.begins)) log.records (lsn - lsn_before log.begins) ∙ ap (λ n. first n (history log)) (omega (arith, from, base_of_log log))

-- what holds for each record holds for the record at each LSN
pub each_found : (P : LogRecord → Type 0) (log : LogContent) → All P log.records → (n : ℕ) (r : LogRecord) → record_at (history log) n ≡ Some r → P r
each_found P log h n r f =
    let above = record_above (history log) n r f in
    let i = n - lsn_before log.begins - 1 in
    let begun : base_lsn (history log) ≡ lsn_before log.begins = base_of_log log in
    let le : i < length log.records = omega (arith, above, begun, record_within (history log) n r f, size_of_log log) in
    let e : record_at (history log) n ≡ Some (get_or log.records i r) = ap (record_at (history log)) (omega (arith, above, begun)) ∙ record_item log i r le in
    let same : get_or log.records i r ≡ r = cc in
    subst P same (h i r le)
