-- A transaction that has prepared is in doubt, committed or aborted.
use Rattle.std.proofs.Common.{◌≡◌, ℕ, true, false, refl, sym, ap, ◌∙◌, inl, inr, ◌⊎◌, eqb, eqb-true}
use Rattle.std.proofs.lemmas.Bool.{cases_Bool, or_left, or_right, or_parts, both_ways, false≢true}
use Rattle.log_laws.specs.Records.{LogRecord, Update, Compensation, Commit, Abort, End, Prepare, CheckpointBegin, CheckpointEnd, History, start, ◌▸◌}
use Rattle.log_laws.specs.Meaning.{BasePages, has, is_of, is_prepare_of, committed, aborted, ended, finished, prepared, in_doubt, is_winner}
use Rattle.log_laws.specs.Laws.{IsLawful}

prepare_own : (t : ℕ) (r : LogRecord) → is_prepare_of t r ≡ true → is_of t r ≡ true
prepare_own t (Prepare s) h = h
prepare_own t r h = absurd (false≢true h)

prepared_has : (t : ℕ) (log : History) → prepared t log ≡ true → has (is_of t) log ≡ true
prepared_has t (start _) h = absurd (false≢true h)
prepared_has t (log ▸ r) h =
    elim (cases_Bool (is_prepare_of t r)) [
      | inl e ↦ or_left (is_of t r) (has (is_of t) log) (prepare_own t r e)
      | inr e ↦ or_right (is_of t r) (has (is_of t) log) (prepared_has t log (rw e at h))
    ]

-- it ends only after a commit or an abort
not_ended : (base : BasePages) (t : ℕ) (log : History) → IsLawful base log → prepared t log ≡ true → committed t log ≡ false → aborted t log ≡ false → ended t log ≡ false
not_ended base t (start _) lawful p c a = refl
not_ended base t (log ▸ Update u) lawful p c a = not_ended base t log lawful.0 p c a
not_ended base t (log ▸ Compensation u) lawful p c a = not_ended base t log lawful.0 p c a
not_ended base t (log ▸ Commit s) lawful p c a = not_ended base t log lawful.0 p (or_parts (eqb s.tx t) (committed t log) c).1 a
not_ended base t (log ▸ Abort s) lawful p c a = not_ended base t log lawful.0 p c (or_parts (eqb s.tx t) (aborted t log) a).1
not_ended base t (log ▸ End s) lawful p c a =
    (let before : ended t log ≡ false = not_ended base t log lawful.0 p c a in
    elim (cases_Bool (eqb s.tx t)) [
      | inl e ↦
          (let same : s.tx ≡ t = eqb-true s.tx t e in
          let some : has (is_of t) log ≡ true = prepared_has t log p in
          let doubt : in_doubt t log ≡ true = rw (some, c, before, p, a) refl in
          let none : in_doubt t log ≡ false = ap (λ x. in_doubt x log) (sym same) ∙ lawful.1.finish.1 in
          absurd (both_ways (in_doubt t log) none doubt))
      | inr e ↦ rw e before
    ])
not_ended base t (log ▸ Prepare s) lawful p c a =
    elim (cases_Bool (eqb s.tx t)) [
      | inl e ↦
          (let same : s.tx ≡ t = eqb-true s.tx t e in
          let none : finished t log ≡ false = ap (λ x. finished x log) (sym same) ∙ lawful.1.finish.0 in
          (or_parts (committed t log) (ended t log) none).1)
      | inr e ↦ not_ended base t log lawful.0 (rw e at p) c a
    ]
not_ended base t (log ▸ CheckpointBegin) lawful p c a = not_ended base t log lawful.0 p c a
not_ended base t (log ▸ CheckpointEnd b x d) lawful p c a = not_ended base t log lawful.0 p c a

pub kept_promise : (base : BasePages) (t : ℕ) (log : History) → IsLawful base log → prepared t log ≡ true → (is_winner log t ≡ true) ⊎ (aborted t log ≡ true)
kept_promise base t log lawful p =
    elim (cases_Bool (aborted t log)) [
      | inl a ↦ inr a
      | inr a ↦
          elim (cases_Bool (committed t log)) [
            | inl c ↦ inl (or_left (committed t log) (in_doubt t log) c)
            | inr c ↦
                (let some : has (is_of t) log ≡ true = prepared_has t log p in
                let e : ended t log ≡ false = not_ended base t log lawful p c a in
                let doubt : in_doubt t log ≡ true = rw (some, c, e, p, a) refl in
                inl (or_right (committed t log) (in_doubt t log) doubt))
          ]
    ]
