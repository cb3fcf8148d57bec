-- What is kept of the transactions, after one more record.
use Rattle.std.proofs.Common.{◌≡◌, ◌≤◌, ◌||◌, ℕ, true, false, cond, Option, Some, None, refl, sym, ap, subst, ◌∙◌, inl, inr, eqb, ne_eqb, eqb-true}
use Rattle.std.proofs.lemmas.Bool.{cases_Bool, or_cases, or_left, or_right, or_from, both_ways}
use Rattle.log_laws.specs.Records.{LogRecord, History, ◌▸◌}
use Rattle.log_laws.specs.Meaning.{is_of, has, finished, committed, ended, is_commit_of, is_end_of}
use Rattle.journal.specs.Transactions.{Transaction}
use Rattle.journal.specs.Transactions.{IsTransaction, AreTransactions}
use Rattle.journal.proofs.Transactions.{transaction_other}

-- a transaction that has finished stays finished
finished_more : (t : ℕ) (log : History) (r : LogRecord) → finished t log ≡ true → finished t (log ▸ r) ≡ true
finished_more t log r h =
    elim (or_cases (committed t log) (ended t log) h) [
      | inl c ↦ or_left (is_commit_of t r || committed t log) (is_end_of t r || ended t log) (or_right (is_commit_of t r) (committed t log) c)
      | inr e ↦ or_right (is_commit_of t r || committed t log) (is_end_of t r || ended t log) (or_right (is_end_of t r) (ended t log) e)
    ]

-- after a record of no transaction
pub standing_same : (log : History) (next : ℕ) (kept : ℕ → Option Transaction) (r : LogRecord) → ((t : ℕ) → is_of t r ≡ false) → AreTransactions log next kept → AreTransactions (log ▸ r) next kept
standing_same log next kept r none h =
    record {
      each = λ t x e. transaction_other t log r x (none t) (h.each t x e);
      others = λ t e begun. finished_more t log r (h.others t e (older t begun));
      fresh = λ t le. ((h.fresh t le).0, or_from (is_of t r) (has (is_of t) log) (none t) (h.fresh t le).1);
    }
  where
    older : (t : ℕ) → has (is_of t) (log ▸ r) ≡ true → has (is_of t) log ≡ true
    older t begun =
        elim (or_cases (is_of t r) (has (is_of t) log) begun) [
          | inl i ↦ absurd (both_ways (is_of t r) (none t) i)
          | inr i ↦ i
        ]

-- a transaction that is kept has a number below the next one
pub has_low : (log : History) (next tx : ℕ) (kept : ℕ → Option Transaction) (x : Transaction) → kept tx ≡ Some x → AreTransactions log next kept → (t : ℕ) → next ≤ t → tx ≡ t → ⊥
has_low log next tx kept x was h t le e = (let none : kept tx ≡ None = ap kept e ∙ (h.fresh t le).0 in let some : kept tx ≡ Some x = was in cc)

-- after a record of a transaction whose number is below the next
module _ (log : History) (next tx : ℕ) (kept after : ℕ → Option Transaction) (r : LogRecord) (o : Option Transaction)
    (of : (t : ℕ) → is_of t r ≡ eqb tx t) (low : (t : ℕ) → next ≤ t → tx ≡ t → ⊥) (follows : (t : ℕ) → after t ≡ cond (eqb tx t) o (kept t)) (h : AreTransactions log next kept) where
  others_keep : (t : ℕ) (y : Transaction) → eqb tx t ≡ false → after t ≡ Some y → IsTransaction (log ▸ r) t y
  others_keep t y e is =
      let stays : kept t ≡ Some y = (let f : after t ≡ kept t = follows t ∙ rw e refl in sym f ∙ is) in
      transaction_other t log r y (of t ∙ e) (h.each t y stays)

  others_done : (t : ℕ) → eqb tx t ≡ false → after t ≡ None → has (is_of t) (log ▸ r) ≡ true → finished t (log ▸ r) ≡ true
  others_done t e is begun =
      let stays : kept t ≡ None = (let f : after t ≡ kept t = follows t ∙ rw e refl in sym f ∙ is) in
      let i : is_of t r ≡ false = of t ∙ e in
      finished_more t log r (h.others t stays (elim (or_cases (is_of t r) (has (is_of t) log) begun) [ inl j ↦ absurd (both_ways (is_of t r) i j) | inr j ↦ j ]))

  fresh_still : (t : ℕ) → next ≤ t → (after t ≡ None) × (has (is_of t) (log ▸ r) ≡ false)
  fresh_still t le =
      let e : eqb tx t ≡ false = ne_eqb tx t (low t le) in
      (follows t ∙ rw e (h.fresh t le).0, or_from (is_of t r) (has (is_of t) log) (of t ∙ e) (h.fresh t le).1)

  -- it continues
  pub standing_goes_on : (y : Transaction) → o ≡ Some y → IsTransaction (log ▸ r) tx y → AreTransactions (log ▸ r) next after
  standing_goes_on y is own =
      record {
        each = λ t z e.
            elim (cases_Bool (eqb tx t)) [
              | inl i ↦
                  (let same : tx ≡ t = eqb-true tx t i in
                  let f : after t ≡ Some y = follows t ∙ rw i is in
                  let g : y ≡ z = cc in
                  subst (λ k. IsTransaction (log ▸ r) k z) same (subst (IsTransaction (log ▸ r) tx) g own))
              | inr i ↦ others_keep t z i e
            ];
        others = λ t e begun.
            elim (cases_Bool (eqb tx t)) [
              | inl i ↦ absurd (let f : after t ≡ Some y = follows t ∙ rw i is in cc)
              | inr i ↦ others_done t i e begun
            ];
        fresh = fresh_still;
      }

  -- or it has finished
  pub standing_finishes : o ≡ None → finished tx (log ▸ r) ≡ true → AreTransactions (log ▸ r) next after
  standing_finishes is done =
      record {
        each = λ t z e.
            elim (cases_Bool (eqb tx t)) [
              | inl i ↦ absurd (let f : after t ≡ None = follows t ∙ rw i is in cc)
              | inr i ↦ others_keep t z i e
            ];
        others = λ t e begun.
            elim (cases_Bool (eqb tx t)) [
              | inl i ↦ ap (λ k. finished k (log ▸ r)) (sym (eqb-true tx t i)) ∙ done
              | inr i ↦ others_done t i e begun
            ];
        fresh = fresh_still;
      }
