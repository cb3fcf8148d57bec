-- The standing of a transaction, finished or not, after one more record.
use Rattle.std.proofs.Common.{◌≡◌, ◌+◌, ℕ, true, false, cond, List, [], ◌∷◌, ◌++◌, length, refl, sym, ap, subst, ◌∙◌, inl, inr, eqb}
use Rattle.std.proofs.lemmas.Bool.{cases_Bool, or_left, or_right, or_parts, both_ways, false≢true}
use Rattle.log_laws.proofs.Filters.{is_of_tx}
use Rattle.log_laws.specs.Records.{LogRecord, Update, Compensation, Commit, Abort, End, Prepare, History, ◌▸◌, last_lsn, base_lsn}
use Rattle.log_laws.specs.Meaning.{is_of, is_end_of, committed, ended, finished}
use Rattle.log_laws.specs.Laws.{FinishLaw}
use Rattle.log_laws.specs.Tail.{tx_of}
use Rattle.audit.specs.declared.standing.Finish.{Finish}
use Rattle.audit.specs.declared.standing.Finish.TheVariants.{Committed, Ended}
use Rattle.audit.specs.declared.standing.Standing.{Standing}
use Rattle.audit.specs.declared.standing.Standing.TheVariants.{Unfinished, Finished}
use Rattle.audit.specs.Statuses.{under}
use Rattle.audit.specs.Standings.{HasFinished, IsStandingOf, newest_of, standing_after}
use Rattle.audit.proofs.Statuses.{stands_other, stands_update, stands_compensation, stands_abort, stands_prepare}

-- a transaction that has finished in either way has finished
pub finished_so : (t : ℕ) (log : History) (finish : Finish) → HasFinished t log finish → finished t log ≡ true
finished_so t log Committed h = or_left (committed t log) (ended t log) h.0
finished_so t log Ended h = or_right (committed t log) (ended t log) h

-- AFTER A RECORD OF ANOTHER
pub end_of_another : (t : ℕ) (r : LogRecord) → is_of t r ≡ false → is_end_of t r ≡ false
end_of_another t (End s) e = e
end_of_another t r e = refl

finished_still : (t : ℕ) (log : History) (r : LogRecord) (finish : Finish) → is_of t r ≡ false → HasFinished t log finish → HasFinished t (log ▸ r) finish
finished_still t log r Committed e h = (or_right _ (committed t log) h.0, rw (end_of_another t r e) h.1)
finished_still t log r Ended e h = or_right _ (ended t log) h

pub standing_other : (links : List ℕ) (x t : ℕ) (log : History) (r : LogRecord) (standing : Standing) → is_of t r ≡ false → IsStandingOf links t log standing → IsStandingOf (links ++ x ∷ []) t (log ▸ r) standing
standing_other links x t log r (Unfinished s) e h = stands_other links x t log r s e h
standing_other links x t log r (Finished finish) e h = finished_still t log r finish e h

-- AFTER ITS OWN
module _ (links : List ℕ) (log : History) (lsn below : ℕ) (at : last_lsn log + 1 ≡ lsn) (len : base_lsn log + length links ≡ last_lsn log) where
  pub standing_own : (r : LogRecord) (standing : Standing) → below ≡ under (base_lsn log) links (newest_of standing) → is_of (tx_of r) r ≡ true → FinishLaw log r → IsStandingOf links (tx_of r) log standing
      → IsStandingOf (links ++ newest_of standing ∷ []) (tx_of r) (log ▸ r) (standing_after r lsn below standing)
  standing_own (Update u) (Unfinished s) b own law h = stands_update links log s lsn below at len u h
  standing_own (Update u) (Finished f) b own law h = absurd (both_ways (finished u.tx log) law.0 (finished_so u.tx log f h))
  standing_own (Compensation u) (Unfinished s) b own law h = stands_compensation links log s lsn below at len u b h
  standing_own (Compensation u) (Finished f) b own law h = absurd (both_ways (finished u.tx log) law.0 (finished_so u.tx log f h))
  standing_own (Abort u) (Unfinished s) b own law h = stands_abort links log s lsn below at len u h
  standing_own (Abort u) (Finished f) b own law h = absurd (both_ways (finished u.tx log) law.0 (finished_so u.tx log f h))
  standing_own (Prepare u) (Unfinished s) b own law h = stands_prepare links log s lsn below at len u h
  standing_own (Prepare u) (Finished f) b own law h = absurd (both_ways (finished u.tx log) law.0 (finished_so u.tx log f h))
  standing_own (Commit u) standing b own law h = (or_left (eqb u.tx u.tx) (committed u.tx log) own, (or_parts (committed u.tx log) (ended u.tx log) law.0).1)
  standing_own (End u) standing b own law h = or_left (eqb u.tx u.tx) (ended u.tx log) own
  standing_own r standing b own law h = absurd (false≢true own)

-- AFTER EITHER
module _ (links : List ℕ) (log : History) (r : LogRecord) (lsn below : ℕ) (before after : ℕ → Standing) (standing : Standing) where
  pub standings_after : last_lsn log + 1 ≡ lsn → base_lsn log + length links ≡ last_lsn log → below ≡ under (base_lsn log) links (newest_of standing) → FinishLaw log r → standing ≡ before (tx_of r)
      → ((t : ℕ) → after t ≡ cond (is_of t r) (standing_after r lsn below standing) (before t))
      → ((t : ℕ) → IsStandingOf links t log (before t)) → (t : ℕ) → IsStandingOf (links ++ newest_of standing ∷ []) t (log ▸ r) (after t)
  standings_after at len b law is follows stands t =
      elim (cases_Bool (is_of t r)) [
        | inl e ↦
            (let same : tx_of r ≡ t = is_of_tx t r e in
            let own : is_of (tx_of r) r ≡ true = ap (λ n. is_of n r) same ∙ e in
            let h : IsStandingOf links (tx_of r) log standing = subst (λ s. IsStandingOf links (tx_of r) log s) (sym is) (stands (tx_of r)) in
            let k : IsStandingOf (links ++ newest_of standing ∷ []) t (log ▸ r) (standing_after r lsn below standing) =
            subst (λ n. IsStandingOf (links ++ newest_of standing ∷ []) n (log ▸ r) (standing_after r lsn below standing)) same (standing_own links log lsn below at len r standing b own law h) in
            subst (λ s. IsStandingOf (links ++ newest_of standing ∷ []) t (log ▸ r) s) (sym (follows t ∙ rw e refl)) k)
        | inr e ↦ subst (λ s. IsStandingOf (links ++ newest_of standing ∷ []) t (log ▸ r) s) (sym (follows t ∙ rw e refl)) (standing_other links (newest_of standing) t log r (before t) e (stands t))
      ]
