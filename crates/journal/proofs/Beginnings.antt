-- The log up to an LSN: what it has of the whole log.
use Rattle.std.proofs.Common.{◌≡◌, ◌<◌, ◌≤◌, ℕ, suc, Bool, true, false, Some, sym, ap, ◌∙◌, arith, eqb, eqb-true, ltb, ltb-true, inl, inr}
use Rattle.std.proofs.lemmas.Bool.{cases_Bool, or_right, or_parts, both_ways, false≢true}
use Rattle.std.specs.Prelude.{is_some}
use Rattle.log_laws.specs.Records.{LogRecord, Update, Compensation, History, start, ◌▸◌, last_lsn, record_at, first, EachRecord}
use Rattle.log_laws.specs.Meaning.{BasePages, BaseLaw, has, committed, ended, is_of, change_of}
use Rattle.log_laws.specs.Laws.{Obeys, IsLawful}
use Rattle.log_laws.proofs.Histories.{record_more, record_within, base_of_first}

-- what is found in it is found in the log
pub found_in_first : (lsn : ℕ) (log : History) (n : ℕ) (r : LogRecord) → record_at (first lsn log) n ≡ Some r → record_at log n ≡ Some r
found_in_first lsn (start _) n r f = f
found_in_first lsn (log ▸ x) n r f =
    elim (cases_Bool (ltb (last_lsn log) lsn)) [
      | inl e ↦ rw e at f
      | inr e ↦ record_more log x n r (found_in_first lsn log n r (rw e at f))
    ]

pub lawful_first : (base : BasePages) (lsn : ℕ) (log : History) → IsLawful base log → IsLawful base (first lsn log)
lawful_first base lsn (start _) h = h
lawful_first base lsn (log ▸ x) h =
    elim (cases_Bool (ltb (last_lsn log) lsn)) [
      | inl e ↦ rw e h
      | inr e ↦ rw e (lawful_first base lsn log h.0)
    ]

pub each_first : (P : LogRecord → Type 0) (lsn : ℕ) (log : History) → EachRecord P log → EachRecord P (first lsn log)
each_first P lsn log h n r f = h n r (found_in_first lsn log n r f)

pub based_first : (base : BasePages) (lsn : ℕ) (log : History) → BaseLaw base log → BaseLaw base (first lsn log)
based_first base lsn log h page = omega (arith, h page, base_of_first lsn log)

pub has_in_first : (test : LogRecord → Bool) (lsn : ℕ) (log : History) → has test (first lsn log) ≡ true → has test log ≡ true
has_in_first test lsn (start _) h = h
has_in_first test lsn (log ▸ x) h =
    elim (cases_Bool (ltb (last_lsn log) lsn)) [
      | inl e ↦ rw e at h
      | inr e ↦ or_right (test x) (has test log) (has_in_first test lsn log (rw e at h))
    ]

-- before an update or a CLR its transaction is not committed
changes_open : (base : BasePages) (log : History) (t : ℕ) (r : LogRecord) → Obeys base log r → is_of t r ≡ true → is_some (change_of r) ≡ true → committed t log ≡ false
changes_open base log t (Update u) o own change =
    ap (λ x. committed x log) (sym (eqb-true u.tx t own)) ∙ (or_parts (committed u.tx log) (ended u.tx log) o.finish.0).0
changes_open base log t (Compensation c) o own change =
    ap (λ x. committed x log) (sym (eqb-true c.tx t own)) ∙ (or_parts (committed c.tx log) (ended c.tx log) o.finish.0).0
changes_open base log t r o own change = absurd (false≢true change)

-- so all that a transaction changed comes before its commit
pub changed_before : (base : BasePages) (log : History) → IsLawful base log → (lsn t n : ℕ) (r : LogRecord) → committed t (first lsn log) ≡ true → record_at log n ≡ Some r → is_of t r ≡ true
    → is_some (change_of r) ≡ true → n ≤ lsn
changed_before base (start _) h lsn t n r done found own change = absurd (cc)
changed_before base (log ▸ x) h lsn t n r done found own change =
    elim (cases_Bool (ltb (last_lsn log) lsn)) [
      | inl e ↦ (let room : last_lsn log < lsn = ltb-true (last_lsn log) lsn e in omega (arith, record_within (log ▸ x) n r found))
      | inr e ↦
          (let before : committed t (first lsn log) ≡ true = rw e at done in
          elim (cases_Bool (eqb n (suc (last_lsn log)))) [
            | inl i ↦
                (let here : Some x ≡ Some r = rw i at found in
                let same : x ≡ r = cc in
                let opened : committed t log ≡ false = changes_open base log t x h.1 (ap (is_of t) same ∙ own) (ap (λ y. is_some (change_of y)) same ∙ change) in
                absurd (both_ways (committed t log) opened (has_in_first _ lsn log before)))
            | inr i ↦ changed_before base log h.0 lsn t n r before (rw i at found) own change
          ])
    ]
