-- The last record of a finished transaction is that by which it finished.
use Rattle.std.proofs.Common.{◌≡◌, ◌<◌, ◌≤◌, ◌+◌, ℕ, suc, Bool, true, false, Option, Some, None, refl, sym, ap, subst, ◌∙◌, inl, inr, arith, eqb-true, eq-eqb, ne_eqb}
use Rattle.std.proofs.lemmas.Bool.{cases_Bool, cases_eq, or_left, or_right, or_parts, both_ways, false≢true}
use Rattle.std.specs.Prelude.{IfSome}
use Rattle.log_laws.specs.Records.{LogRecord, Update, Compensation, Commit, Abort, End, Prepare, History, start, ◌▸◌, LogContent, history, last_lsn, record_at}
use Rattle.log_laws.specs.Meaning.{BasePages, owner, prev_of, is_of, is_commit_of, is_end_of, has, committed, ended, finished, last_of}
use Rattle.log_laws.specs.Laws.{ChainLaw, FinishLaw, IsLawful}
use Rattle.log_laws.specs.Tail.{number_or_0, tx_of}
use Rattle.log_laws.proofs.Histories.{last_within}
use Rattle.log_laws.proofs.Holders.{found_has}
use Rattle.audit.specs.declared.standing.Finish.{Finish}
use Rattle.audit.specs.declared.standing.Finish.TheVariants.{Committed, Ended}
use Rattle.audit.specs.Standings.{HasFinished, is_finish_of, is_some_with}
use Rattle.audit.specs.Passing.{Begins}
use Rattle.audit.proofs.StandingAfter.{end_of_another}

-- the record of t that passes a test is its last, and no other record passes it
module _ (t : ℕ) (test : LogRecord → Bool) where
  abbrev pub IsLastOf : History → Type 0
  IsLastOf log = (n : ℕ) → (n ≡ last_of t log → is_some_with test (record_at log n) ≡ true) × (is_some_with test (record_at log n) ≡ true → n ≡ last_of t log)

  some_has : (log : History) (n : ℕ) (o : Option LogRecord) → record_at log n ≡ o → is_some_with test o ≡ true → has test log ≡ true
  some_has log n None e h = absurd (false≢true h)
  some_has log n (Some r) e h = found_has test log n r e h

  last_here : (log : History) (r : LogRecord) → is_of t r ≡ true → test r ≡ true → has test log ≡ false → IsLastOf (log ▸ r)
  last_here log r own passes none n =
      elim (cases_eq n (suc (last_lsn log))) [
        | inl e ↦ (λ h. rw (eq-eqb n (suc (last_lsn log)) e) passes, λ h. rw own e)
        | inr d ↦ (
          λ h. absurd (d (let e : n ≡ suc (last_lsn log) = rw own at h in e)),
          λ h. absurd (both_ways (has test log) none (some_has log n (record_at log n) refl (rw (ne_eqb n (suc (last_lsn log)) d) at h))),
        )
      ]

  last_before : (log : History) (r : LogRecord) → is_of t r ≡ false → test r ≡ false → IsLastOf log → IsLastOf (log ▸ r)
  last_before log r other fails last n =
      elim (cases_eq n (suc (last_lsn log))) [
        | inl e ↦ (
          λ h. absurd (let l : n ≡ last_of t log = rw other at h in omega (arith, e, l, last_within t log)),
          λ h. absurd (both_ways (test r) fails (rw (eq-eqb n (suc (last_lsn log)) e) at h)),
        )
        | inr d ↦ rw (ne_eqb n (suc (last_lsn log)) d, other) (last n)
      ]

-- nothing follows an end
none_behind_end : (t : ℕ) (log : History) (r : LogRecord) → is_of t r ≡ true → FinishLaw log r → ended t log ≡ true → ⊥
none_behind_end t log (Update u) own law e = both_ways (finished t log) (ap (λ x. finished x log) (sym (eqb-true u.tx t own)) ∙ law.0) (or_right (committed t log) (ended t log) e)
none_behind_end t log (Compensation u) own law e = both_ways (finished t log) (ap (λ x. finished x log) (sym (eqb-true u.tx t own)) ∙ law.0) (or_right (committed t log) (ended t log) e)
none_behind_end t log (Commit u) own law e = both_ways (finished t log) (ap (λ x. finished x log) (sym (eqb-true u.tx t own)) ∙ law.0) (or_right (committed t log) (ended t log) e)
none_behind_end t log (Abort u) own law e = both_ways (finished t log) (ap (λ x. finished x log) (sym (eqb-true u.tx t own)) ∙ law.0) (or_right (committed t log) (ended t log) e)
none_behind_end t log (Prepare u) own law e = both_ways (finished t log) (ap (λ x. finished x log) (sym (eqb-true u.tx t own)) ∙ law.0) (or_right (committed t log) (ended t log) e)
none_behind_end t log (End u) own law e = both_ways (ended t log) (ap (λ x. ended x log) (sym (eqb-true u.tx t own)) ∙ law.0) e
none_behind_end t log r own law e = false≢true own

-- only an end follows a commit
end_behind_commit : (t : ℕ) (log : History) (r : LogRecord) → is_of t r ≡ true → FinishLaw log r → committed t log ≡ true → is_end_of t r ≡ true
end_behind_commit t log (Update u) own law e = absurd (both_ways (finished t log) (ap (λ x. finished x log) (sym (eqb-true u.tx t own)) ∙ law.0) (or_left (committed t log) (ended t log) e))
end_behind_commit t log (Compensation u) own law e = absurd (both_ways (finished t log) (ap (λ x. finished x log) (sym (eqb-true u.tx t own)) ∙ law.0) (or_left (committed t log) (ended t log) e))
end_behind_commit t log (Commit u) own law e = absurd (both_ways (finished t log) (ap (λ x. finished x log) (sym (eqb-true u.tx t own)) ∙ law.0) (or_left (committed t log) (ended t log) e))
end_behind_commit t log (Abort u) own law e = absurd (both_ways (finished t log) (ap (λ x. finished x log) (sym (eqb-true u.tx t own)) ∙ law.0) (or_left (committed t log) (ended t log) e))
end_behind_commit t log (Prepare u) own law e = absurd (both_ways (finished t log) (ap (λ x. finished x log) (sym (eqb-true u.tx t own)) ∙ law.0) (or_left (committed t log) (ended t log) e))
end_behind_commit t log (End u) own law e = own
end_behind_commit t log r own law e = absurd (false≢true own)

commit_of_another : (t : ℕ) (r : LogRecord) → is_of t r ≡ false → is_commit_of t r ≡ false
commit_of_another t (Commit s) e = e
commit_of_another t r e = refl

ends_last : (base : BasePages) (t : ℕ) (log : History) → IsLawful base log → ended t log ≡ true → IsLastOf t (is_end_of t) log
ends_last base t (start _) lawful h = absurd (false≢true h)
ends_last base t (log ▸ r) lawful h =
    elim (cases_Bool (is_of t r)) [
      | inl own ↦
          elim (cases_Bool (ended t log)) [
            | inl e ↦ absurd (none_behind_end t log r own lawful.1.finish e)
            | inr e ↦
                elim (cases_Bool (is_end_of t r)) [
                  | inl i ↦ last_here t (is_end_of t) log r own i e
                  | inr i ↦ absurd (false≢true (rw (i, e) at h))
                ]
          ]
      | inr other ↦
          (let not_this : is_end_of t r ≡ false = end_of_another t r other in
          last_before t (is_end_of t) log r other not_this (ends_last base t log lawful.0 (rw not_this at h)))
    ]

commits_last : (base : BasePages) (t : ℕ) (log : History) → IsLawful base log → committed t log ≡ true → ended t log ≡ false → IsLastOf t (is_commit_of t) log
commits_last base t (start _) lawful h none = absurd (false≢true h)
commits_last base t (log ▸ r) lawful h none =
    let not_ended = or_parts (is_end_of t r) (ended t log) none in
    elim (cases_Bool (is_of t r)) [
      | inl own ↦
          elim (cases_Bool (committed t log)) [
            | inl e ↦ absurd (both_ways (is_end_of t r) not_ended.0 (end_behind_commit t log r own lawful.1.finish e))
            | inr e ↦
                elim (cases_Bool (is_commit_of t r)) [
                  | inl i ↦ last_here t (is_commit_of t) log r own i e
                  | inr i ↦ absurd (false≢true (rw (i, e) at h))
                ]
          ]
      | inr other ↦
          (let not_this : is_commit_of t r ≡ false = commit_of_another t r other in
          last_before t (is_commit_of t) log r other not_this (commits_last base t log lawful.0 (rw not_this at h) not_ended.1))
    ]

pub finishes_last : (base : BasePages) (t : ℕ) (log : History) (finish : Finish) → IsLawful base log → HasFinished t log finish → IsLastOf t (is_finish_of finish t) log
finishes_last base t log Committed lawful h = commits_last base t log lawful h.0 h.1
finishes_last base t log Ended lawful h = ends_last base t log lawful h

-- PREVLSN of a record whose transaction has finished
module _ (base : BasePages) (so_far : History) (content : LogContent) (lsn t : ℕ) (finish : Finish) (r : LogRecord) (lawful : IsLawful base so_far) (begins : Begins so_far content) (at : last_lsn so_far + 1 ≡ lsn) (own : owner r ≡ Some t) (h : HasFinished (tx_of r) so_far finish) where
  by_last : ChainLaw so_far r → prev_of r ≡ last_of t so_far
  by_last law = (let l : IfSome (Some t) (λ x. prev_of r ≡ last_of x so_far) = subst (λ o. IfSome o (λ x. prev_of r ≡ last_of x so_far)) own law in l)

  pub finish_chain : prev_of r < lsn
      → (is_some_with (is_finish_of finish t) (record_at (history content) (prev_of r)) ≡ true → ChainLaw so_far r)
      × (ChainLaw so_far r → is_some_with (is_finish_of finish t) (record_at (history content) (prev_of r)) ≡ true)
  finish_chain within =
      let same : record_at (history content) (prev_of r) ≡ record_at so_far (prev_of r) = begins (prev_of r) (omega (arith, within, at)) in
      let last = finishes_last base t so_far finish lawful (subst (λ n. HasFinished n so_far finish) (ap number_or_0 own) h) (prev_of r) in (
        λ yes. subst (λ o. IfSome o (λ x. prev_of r ≡ last_of x so_far)) (sym own) (last.1 (ap (is_some_with (is_finish_of finish t)) (sym same) ∙ yes)),
        λ law. ap (is_some_with (is_finish_of finish t)) same ∙ last.0 (by_last law),
      )

  pub behind_no_chain : lsn ≤ prev_of r → ChainLaw so_far r → ⊥
  behind_no_chain le law = omega (arith, le, at, by_last law, last_within t so_far)
