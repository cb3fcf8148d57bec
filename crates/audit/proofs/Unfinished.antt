-- Unfinished transactions, and those in doubt, by what is known of each.
use Rattle.std.proofs.Common.{◌≡◌, ◌&&◌, not, ℕ, Bool, true, false, List, Option, Some, None, refl, sym, ap, ap₂, ◌∙◌, inl, inr, arith, eqb, eq-eqb, ne_eqb, cond, get_or, subst}
use Rattle.std.proofs.lemmas.Bool.{cases_Bool, cases_eq, or_cases, or_left, or_right, false≢true, both_ways}
use Rattle.std.specs.Prelude.{◌%◌, ◌⊎◌, is_some}
use Rattle.std.specs.Ordering.{nat_cmp}
use Rattle.std.specs.BTreeMap.{get}
use Rattle.std.proofs.Math.Nat.{mod-lt}
use Rattle.log_laws.specs.Records.{LogRecord, Prepare, History, start, ◌▸◌}
use Rattle.log_laws.specs.Meaning.{is_of, is_prepare_of, has, prepared, aborted, in_doubt, is_unfinished, finished}
use Rattle.log_laws.proofs.Histories.{has_none, has_some}
use Rattle.audit.specs.declared.status.Status.{Status}
use Rattle.audit.specs.declared.standing.Finish.{Finish}
use Rattle.audit.specs.declared.unfinished_table.UnfinishedTable.{UnfinishedTable}
use Rattle.audit.specs.Statuses.{IsStatusOf}
use Rattle.audit.specs.Unfinished.{unfinished_in, own_or, IsPlaced, IsOther}
use Rattle.audit.specs.Standings.{IsStandingOf, standing_by}
use Rattle.audit.proofs.StandingAfter.{finished_so}
use Rattle.audit.specs.declared.unfinished_table.TheConstants.{PLACES}

-- a transaction that has not finished is unfinished if and only if it has a record
pub begun_is : (t : ℕ) (log : History) (links : List ℕ) (s : Status) → IsStatusOf links t log s → not (eqb s.last 0) ≡ is_unfinished t log
begun_is t log links s h =
    elim (cases_eq s.last 0) [
      | inl z ↦
          (let none : has (is_of t) log ≡ false = has_none t log (sym h.last ∙ z) in
          ap not (eq-eqb s.last 0 z) ∙ ap (λ x. x && not (finished t log)) (sym none))
      | inr n ↦
          (let some : has (is_of t) log ≡ true = has_some t log (λ z. n (h.last ∙ z)) in
          ap not (ne_eqb s.last 0 n) ∙ ap₂ (λ x y. x && not y) (sym some) (sym h.unfinished))
    ]

-- a transaction that is not among the unfinished, and has a record, has finished
pub absent_finished : (links : List ℕ) (t : ℕ) (log : History) (finish : Option Finish) → IsStandingOf links t log (standing_by None finish) → has (is_of t) log ≡ true → finished t log ≡ true
absent_finished links t log (Some finish) h some = finished_so t log finish h
absent_finished links t log None h some = absurd (both_ways (has (is_of t) log) (has_none t log (sym h.last)) some)

pub absent_not_unfinished : (links : List ℕ) (t : ℕ) (log : History) (finish : Option Finish) → IsStandingOf links t log (standing_by None finish) → is_unfinished t log ≡ false
absent_not_unfinished links t log finish h =
    elim (cases_Bool (has (is_of t) log)) [
      | inl some ↦ rw (some, absent_finished links t log finish h some) refl
      | inr none ↦ rw none refl
    ]

-- a transaction that is among the unfinished has not finished
pub present_unfinished : (links : List ℕ) (t : ℕ) (log : History) (s : Option Status) (finish : Option Finish) → IsStandingOf links t log (standing_by s finish) → finished t log ≡ true → s ≡ None
present_unfinished links t log None finish h done = refl
present_unfinished links t log (Some s) finish h done = absurd (both_ways (finished t log) h.unfinished done)

-- so an unfinished transaction is at a place, or among the others
found_there : (table : UnfinishedTable) (t : ℕ) (s : Status) → unfinished_in table t ≡ Some s → IsPlaced table t ⊎ IsOther table t
found_there table t s e = by_place (get_or table.places (t % PLACES) None) refl
  where
    by_place : (o : Option (ℕ × Status)) → get_or table.places (t % PLACES) None ≡ o → IsPlaced table t ⊎ IsOther table t
    by_place None is = inr (ap is_some (sym (ap (λ o. own_or t o (get nat_cmp table.others t)) is) ∙ e))
    by_place (Some p) is =
        elim (cases_eq p.0 t) [
          | inl own ↦ inl (t % PLACES, p.1, mod-lt t (omega arith), is ∙ ap (λ n. Some (n, p.1)) own)
          | inr ne ↦
              inr (ap is_some (sym (ap (λ o. own_or t o (get nat_cmp table.others t)) is ∙ ap (λ b. cond b (Some p.1) (get nat_cmp table.others t)) (ne_eqb p.0 t ne)) ∙ e))
        ]

pub unfinished_there : (links : List ℕ) (t : ℕ) (log : History) (table : UnfinishedTable) (finish : Option Finish) → IsStandingOf links t log (standing_by (unfinished_in table t) finish) → is_unfinished t log ≡ true
    → IsPlaced table t ⊎ IsOther table t
unfinished_there links t log table finish stands live = by_status (unfinished_in table t) refl
  where
    by_status : (o : Option Status) → unfinished_in table t ≡ o → IsPlaced table t ⊎ IsOther table t
    by_status None e =
        absurd (both_ways (is_unfinished t log) (absent_not_unfinished links t log finish (subst (λ (o : Option Status). IsStandingOf links t log (standing_by o finish)) e stands)) live)
    by_status (Some s) e = found_there table t s e

-- a transaction that has prepared has a record
prepare_own : (t : ℕ) (r : LogRecord) → is_prepare_of t r ≡ true → is_of t r ≡ true
prepare_own t (Prepare s) h = h
prepare_own t r h = absurd (false≢true h)

pub prepared_has : (t : ℕ) (log : History) → prepared t log ≡ true → has (is_of t) log ≡ true
prepared_has t (start _) h = h
prepared_has t (log ▸ r) h =
    elim (or_cases (is_prepare_of t r) (prepared t log) h) [
      | inl i ↦ or_left (is_of t r) (has (is_of t) log) (prepare_own t r i)
      | inr i ↦ or_right (is_of t r) (has (is_of t) log) (prepared_has t log i)
    ]

-- so a transaction that has prepared has begun, and need not be checked for that
pub begun_already : (begun unfinished prepares aborts : Bool) → (prepares ≡ true → begun ≡ true)
    → (unfinished && (prepares && not aborts)) ≡ ((begun && unfinished) && (prepares && not aborts))
begun_already true unfinished prepares aborts h = refl
begun_already false false prepares aborts h = refl
begun_already false true true aborts h = absurd (false≢true (h refl))
begun_already false true false aborts h = refl

pub stands_doubt : (links : List ℕ) (t : ℕ) (log : History) (s : Status) → IsStatusOf links t log s → (s.prepared && not s.aborted) ≡ in_doubt t log
stands_doubt links t log s h =
    ap₂ (λ x y. x && not y) h.prepared h.aborted
    ∙ ap (λ x. not x && (prepared t log && not (aborted t log))) (sym h.unfinished)
    ∙ begun_already (has (is_of t) log) (not (finished t log)) (prepared t log) (aborted t log) (prepared_has t log)
