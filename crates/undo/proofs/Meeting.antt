-- What a walk meets: updates of its transaction, in descending LSN.
use Rattle.std.proofs.Common.{ℕ, suc, ◌≡◌, ◌-◌, ◌<◌, true, false, cond, ◌||◌, Option, Some, None, sym, ap, ◌∙◌, inl, inr, arith, eqb-true, eqb, ltb, [], subst}
use Rattle.std.specs.Prelude.{option_map, unwrap_or}
use Rattle.std.proofs.lemmas.Bool.{cases_Bool, false≢true, or_cases, cases_lt}
use Rattle.log_laws.specs.Records.{LogRecord, Update, History, start, ◌▸◌, last_lsn, record_at, first, base_lsn}
use Rattle.log_laws.specs.Hops.{sent_on, hops}
use Rattle.log_laws.specs.Tail.{is_among}
use Rattle.log_laws.proofs.Histories.{record_last, record_more, first_base, size_of_first_le}
use Rattle.log_laws.proofs.Stacks.{Falls, Falls-more, IsUpdateOf}
use Rattle.undo.specs.Rollback.{walk_from}

-- it descends
met_falls : (t : ℕ) (log : History) (n : ℕ) → Falls (suc (last_lsn log)) (hops t log n).met
met_falls t (start _) n = tt
met_falls t (log ▸ Update u) n =
    elim (cases_Bool (eqb n (suc (last_lsn log)))) [
      | inl e ↦
          elim (cases_Bool (eqb u.tx t)) [
            | inl o ↦ rw (e, o) (omega (arith, eqb-true n (suc (last_lsn log)) e), Falls-more (suc (last_lsn log)) n (hops t log u.prev).met (omega (arith, eqb-true n (suc (last_lsn log)) e)) (met_falls t log u.prev))
            | inr o ↦ rw (e, o) tt
          ]
      | inr e ↦ rw e (Falls-more (suc (last_lsn log)) (suc (suc (last_lsn log))) (hops t log n).met (omega arith) (met_falls t log n))
    ]
met_falls t (log ▸ r) n =
    elim (cases_Bool (eqb n (suc (last_lsn log)))) [
      | inl e ↦ rw e (by_sent (sent_on t r) (λ next. met_falls t log next))
      | inr e ↦ rw e (Falls-more (suc (last_lsn log)) (suc (suc (last_lsn log))) (hops t log n).met (omega arith) (met_falls t log n))
    ]
  where
    by_sent : (o : Option ℕ) → ((next : ℕ) → Falls (suc (last_lsn log)) (hops t log next).met) → Falls (suc (suc (last_lsn log))) (unwrap_or (option_map (λ next. hops t log next) o) (record { met = []; ends = n })).met
    by_sent None older = tt
    by_sent (Some next) older = Falls-more (suc (last_lsn log)) (suc (suc (last_lsn log))) (hops t log next).met (omega arith) (older next)

-- all of it is updates of t
found_more : (t : ℕ) (log : History) (r : LogRecord) (n : ℕ) → IsUpdateOf t log n → IsUpdateOf t (log ▸ r) n
found_more t log r n p = (p.0, record_more log r n (Update p.0) p.1, p.2)

met_found : (t : ℕ) (log : History) (n m : ℕ) → is_among m (hops t log n).met ≡ true → IsUpdateOf t log m
met_found t (start _) n m h = absurd (false≢true h)
met_found t (log ▸ Update u) n m h =
    elim (cases_Bool (eqb n (suc (last_lsn log)))) [
      | inl e ↦
          elim (cases_Bool (eqb u.tx t)) [
            | inl o ↦
                (let h' : (eqb m n || is_among m (hops t log u.prev).met) ≡ true = rw (e, o) at h in
                elim (or_cases (eqb m n) (is_among m (hops t log u.prev).met) h') [
                  | inl i ↦ (u, ap (record_at (log ▸ Update u)) (eqb-true m n i ∙ eqb-true n (suc (last_lsn log)) e) ∙ record_last log (Update u), eqb-true u.tx t o)
                  | inr i ↦ found_more t log (Update u) m (met_found t log u.prev m i)
                ])
            | inr o ↦ absurd (let f : false ≡ true = rw (e, o) at h in false≢true f)
          ]
      | inr e ↦ found_more t log (Update u) m (met_found t log n m (rw e at h))
    ]
met_found t (log ▸ r) n m h =
    elim (cases_Bool (eqb n (suc (last_lsn log)))) [
      | inl e ↦ by_sent (sent_on t r) (λ next. met_found t log next m) (rw e at h)
      | inr e ↦ found_more t log r m (met_found t log n m (rw e at h))
    ]
  where
    by_sent : (o : Option ℕ) → ((next : ℕ) → is_among m (hops t log next).met ≡ true → IsUpdateOf t log m) → is_among m (unwrap_or (option_map (λ next. hops t log next) o) (record { met = []; ends = n })).met ≡ true → IsUpdateOf t (log ▸ r) m
    by_sent None older h = absurd (false≢true h)
    by_sent (Some next) older h = found_more t log r m (older next h)

found_in_first : (b : ℕ) (log : History) (n : ℕ) (x : LogRecord) → record_at (first b log) n ≡ Some x → record_at log n ≡ Some x
found_in_first b (start _) n x h = h
found_in_first b (log ▸ r) n x h =
    elim (cases_Bool (ltb (last_lsn log) b)) [
      | inl i ↦ ap (λ c. record_at (cond c (log ▸ r) (first b log)) n) (sym i) ∙ h
      | inr i ↦ record_more log r n x (found_in_first b log n x (ap (λ c. record_at (cond c (log ▸ r) (first b log)) n) (sym i) ∙ h))
    ]

-- the same for the walk from a record
pub walk_falls : (log : History) (t from lsn : ℕ) → 0 < from → Falls from (walk_from log t from lsn).met
walk_falls log t from lsn p =
    elim (cases_lt (from - 1) (base_lsn log)) [
      | inl none ↦ subst (λ h. Falls from (hops t h lsn).met) (sym (first_base log (from - 1) (omega (arith, none)))) tt
      | inr some ↦ Falls-more (suc (last_lsn (first (from - 1) log))) from (walk_from log t from lsn).met (omega (arith, size_of_first_le (from - 1) log some)) (met_falls t (first (from - 1) log) lsn)
    ]

pub walk_found : (log : History) (t from lsn m : ℕ) → is_among m (walk_from log t from lsn).met ≡ true → IsUpdateOf t log m
walk_found log t from lsn m h = (let (u, found, own) = met_found t (first (from - 1) log) lsn m h in (u, found_in_first (from - 1) log m (Update u) found, own))
