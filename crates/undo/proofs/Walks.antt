-- A walk that a record sends to an LSN: what the record there means for it.
use Rattle.std.proofs.Common.{ℕ, suc, ◌≡◌, ◌+◌, ◌-◌, ◌<◌, ◌≤◌, true, cond, [], Option, Some, None, refl, sym, ap, ap₂, ◌∙◌, inl, inr, arith, eq-eqb, eqb-true, ne_eqb, eqb}
use Rattle.std.specs.Prelude.{option_map, unwrap_or}
use Rattle.std.proofs.lemmas.Bool.{cases_Bool, cases_eq, cases_lt}
use Rattle.log_laws.specs.Records.{LogRecord, Update, History, start, ◌▸◌, last_lsn, record_at, first, base_lsn}
use Rattle.log_laws.specs.Hops.{Walk, sent_on, hops, meet}
use Rattle.log_laws.proofs.Walks.{hops_other}
use Rattle.log_laws.proofs.Histories.{first_older, first_all, size_of_first_le, first_base}
use Rattle.undo.specs.declared.walk.Hop.TheVariants as hop
use Rattle.undo.specs.Rollback.{hop_of, walk_from, IsUpdateAt, Meets}

-- WHERE A RECORD SENDS A WALK
-- what the record at an LSN means for the walk that is sent there
abbrev sent_by : ℕ → History → ℕ → Option LogRecord → Walk
sent_by t before lsn None = record { met = []; ends = lsn }
sent_by t before lsn (Some (Update u)) = cond (eqb u.tx t) (meet lsn (hops t before u.prev)) (record { met = []; ends = lsn })
sent_by t before lsn (Some r) = unwrap_or (option_map (λ next. hops t before next) (sent_on t r)) (record { met = []; ends = lsn })

hops_here : (t : ℕ) (log : History) (r : LogRecord) (n : ℕ) → n ≡ suc (last_lsn log) → hops t (log ▸ r) n ≡ sent_by t log n (Some r)
hops_here t log (Update u) n e = rw (eq-eqb n (suc (last_lsn log)) e)
hops_here t log r n e = rw (eq-eqb n (suc (last_lsn log)) e)

-- sent past the end
hops_past : (t : ℕ) (log : History) (n : ℕ) → last_lsn log < n → hops t log n ≡ record { met = []; ends = n }
hops_past t (start _) n h = refl
hops_past t (log ▸ r) n h = hops_other t log r n (ne_eqb n (suc (last_lsn log)) (λ e. omega arith)) ∙ hops_past t log n (omega arith)

-- sent nowhere
pub hops_nowhere : (t : ℕ) (log : History) → hops t log 0 ≡ record { met = []; ends = 0 }
hops_nowhere t (start _) = refl
hops_nowhere t (log ▸ r) = hops_other t log r 0 (ne_eqb 0 (suc (last_lsn log)) (λ e. omega arith)) ∙ hops_nowhere t log

-- sent to one of the first records
hops_to : (t b : ℕ) (log : History) (n : ℕ) → 0 < n → n ≤ b → b ≤ last_lsn log → hops t (first b log) n ≡ sent_by t (first (n - 1) log) n (record_at log n)
hops_to t b (start _) n p h l = refl
hops_to t b (log ▸ r) n p h l =
    elim (cases_eq b (suc (last_lsn log))) [
      | inl e ↦
          (let w : first b (log ▸ r) ≡ log ▸ r = first_all b (log ▸ r) (omega (arith, e)) in
          elim (cases_eq n (suc (last_lsn log))) [
            | inl i ↦
                (let f : first (n - 1) (log ▸ r) ≡ log = first_older log r (n - 1) (omega (arith, i)) ∙ first_all (n - 1) log (omega (arith, i)) in
                let a : record_at (log ▸ r) n ≡ Some r = rw (eq-eqb n (suc (last_lsn log)) i) in
                ap (λ x. hops t x n) w ∙ hops_here t log r n i ∙ sym (ap₂ (λ x y. sent_by t x n y) f a))
            | inr d ↦
                (let f : first (n - 1) (log ▸ r) ≡ first (n - 1) log = first_older log r (n - 1) (omega (arith, e)) in
                let a : record_at (log ▸ r) n ≡ record_at log n = rw (ne_eqb n (suc (last_lsn log)) d) in
                let s : first (last_lsn log) log ≡ log = first_all (last_lsn log) log (omega arith) in
                ap (λ x. hops t x n) w ∙ hops_other t log r n (ne_eqb n (suc (last_lsn log)) d) ∙ sym (ap (λ x. hops t x n) s)
                ∙ hops_to t (last_lsn log) log n p (omega (arith, d)) (omega arith) ∙ sym (ap₂ (λ x y. sent_by t x n y) f a))
          ])
      | inr d ↦
          (let le : b ≤ last_lsn log = omega (arith, d) in
          let w : first b (log ▸ r) ≡ first b log = first_older log r b le in
          let f : first (n - 1) (log ▸ r) ≡ first (n - 1) log = first_older log r (n - 1) (omega arith) in
          let a : record_at (log ▸ r) n ≡ record_at log n = rw (ne_eqb n (suc (last_lsn log)) (λ e. omega arith)) in
          ap (λ x. hops t x n) w ∙ hops_to t b log n p h le ∙ sym (ap₂ (λ x y. sent_by t x n y) f a))
    ]

-- THE WALK FROM A RECORD
pub walk_zero : (log : History) (t from : ℕ) → walk_from log t from 0 ≡ record { met = []; ends = 0 }
walk_zero log t from = hops_nowhere t (first (from - 1) log)

-- sent to no record below
pub walk_past : (log : History) (t from lsn : ℕ) → 0 < from → from ≤ lsn → walk_from log t from lsn ≡ record { met = []; ends = lsn }
walk_past log t from lsn p h =
    elim (cases_lt (from - 1) (base_lsn log)) [
      | inl none ↦ ap (λ x. hops t x lsn) (first_base log (from - 1) (omega (arith, none)))
      | inr some ↦ hops_past t (first (from - 1) log) lsn (omega (arith, size_of_first_le (from - 1) log some))
    ]

module _ (log : History) (t from lsn : ℕ) (some : lsn ≡ 0 → ⊥) (below : lsn < from) (within : from ≤ last_lsn log + 1) where
  walk_to : walk_from log t from lsn ≡ sent_by t (first (lsn - 1) log) lsn (record_at log lsn)
  walk_to = hops_to t (from - 1) log lsn (omega (arith, some)) (omega arith) (omega arith)

  pub walk_stops : hop_of t (record_at log lsn) ≡ None → walk_from log t from lsn ≡ record { met = []; ends = lsn }
  walk_stops h = walk_to ∙ by_record (record_at log lsn) h
    where
      by_record : (o : Option LogRecord) → hop_of t o ≡ None → sent_by t (first (lsn - 1) log) lsn o ≡ record { met = []; ends = lsn }
      by_record None h = refl
      by_record (Some (Update u)) h =
          elim (cases_Bool (eqb u.tx t)) [
            | inl e ↦ absurd (let f : Some hop.Update ≡ None = sym (ap (λ b. cond b (Some hop.Update) None) e) ∙ h in cc)
            | inr e ↦ rw e refl
          ]
      by_record (Some r) h = by_sent (sent_on t r) h
        where
          by_sent : (o : Option ℕ) → option_map hop.On o ≡ None → unwrap_or (option_map (λ next. hops t (first (lsn - 1) log) next) o) (record { met = []; ends = lsn }) ≡ record { met = []; ends = lsn }
          by_sent None h = refl
          by_sent (Some next) h = absurd (cc)

  pub walk_goes_on : (next : ℕ) → hop_of t (record_at log lsn) ≡ Some (hop.On next) → walk_from log t from lsn ≡ walk_from log t lsn next
  walk_goes_on next h = walk_to ∙ by_record (record_at log lsn) h
    where
      by_record : (o : Option LogRecord) → hop_of t o ≡ Some (hop.On next) → sent_by t (first (lsn - 1) log) lsn o ≡ hops t (first (lsn - 1) log) next
      by_record None h = absurd (cc)
      by_record (Some (Update u)) h =
          elim (cases_Bool (eqb u.tx t)) [
            | inl e ↦ absurd (let f : Some hop.Update ≡ Some (hop.On next) = sym (ap (λ b. cond b (Some hop.Update) None) e) ∙ h in cc)
            | inr e ↦ absurd (let f : None ≡ Some (hop.On next) = sym (ap (λ b. cond b (Some hop.Update) None) e) ∙ h in cc)
          ]
      by_record (Some r) h = by_sent (sent_on t r) h
        where
          by_sent : (o : Option ℕ) → option_map hop.On o ≡ Some (hop.On next) → unwrap_or (option_map (λ m. hops t (first (lsn - 1) log) m) o) (record { met = []; ends = lsn }) ≡ hops t (first (lsn - 1) log) next
          by_sent None h = absurd (cc)
          by_sent (Some m) h = (let i : m ≡ next = cc in ap (hops t (first (lsn - 1) log)) i)

  pub update_there : hop_of t (record_at log lsn) ≡ Some hop.Update → IsUpdateAt log t lsn
  update_there h = by_record (record_at log lsn) refl h
    where
      by_record : (o : Option LogRecord) → record_at log lsn ≡ o → hop_of t o ≡ Some hop.Update → IsUpdateAt log t lsn
      by_record None e h = absurd (cc)
      by_record (Some (Update u)) e h =
          elim (cases_Bool (eqb u.tx t)) [
            | inl i ↦ record { update = u; found = e; own = eqb-true u.tx t i }
            | inr i ↦ absurd (let f : None ≡ Some hop.Update = sym (ap (λ b. cond b (Some hop.Update) None) i) ∙ h in cc)
          ]
      by_record (Some r) e h = by_sent (sent_on t r) h
        where
          by_sent : (o : Option ℕ) → option_map hop.On o ≡ Some hop.Update → IsUpdateAt log t lsn
          by_sent None h = absurd (cc)
          by_sent (Some next) h = absurd (cc)

  -- an update of t is met, and the walk continues from it
  pub walk_meets : (u : IsUpdateAt log t lsn) → walk_from log t from lsn ≡ meet lsn (walk_from log t lsn u.update.prev)
  walk_meets u =
      walk_to ∙ ap (sent_by t (first (lsn - 1) log) lsn) u.found
      ∙ (let e : eqb u.update.tx t ≡ true = eq-eqb u.update.tx t u.own in ap (λ b. cond b (meet lsn (hops t (first (lsn - 1) log) u.update.prev)) (record { met = []; ends = lsn })) e)

  pub first_met : hop_of t (record_at log lsn) ≡ Some hop.Update → Meets log t from lsn lsn
  first_met h = record { is_update = update_there h; below = below; goes_on = walk_meets (update_there h) }

-- an update met further on is the first met from the start
pub met_further : (log : History) (t from lsn above next update_lsn : ℕ) → walk_from log t above next ≡ walk_from log t from lsn → above ≤ from → Meets log t above next update_lsn → Meets log t from lsn update_lsn
met_further log t from lsn above next update_lsn same le m = record { is_update = m.is_update; below = omega (arith, m.below); goes_on = sym same ∙ m.goes_on }
