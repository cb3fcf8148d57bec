-- What was forced lasts, however often an engine stops.
use Rattle.std.proofs.Common.{◌≡◌, ◌≤◌, ℕ, Bool, true, ap, ◌∙◌, inl, inr, arith, ltb, List, [], ◌∷◌}
use Rattle.std.proofs.lemmas.Bool.{cases_Bool, or_cases, or_right}
use Rattle.page.specs.Store.{StoreContent}
use Rattle.log_laws.specs.Records.{LogRecord, History, ◌▸◌, ◌▸▸◌, history, last_lsn, first}
use Rattle.log_laws.specs.Meaning.{BasePages, has, committed, is_commit_of, is_prepare_of}
use Rattle.log_laws.specs.Tail.{tail, with_tail}
use Rattle.log_laws.proofs.Histories.{first_all}
use Rattle.log_laws.proofs.Lists.{with_tail_is}
use Rattle.log_laws.proofs.Settled.{restart_goes_on}
use Rattle.journal.specs.Runs.{Run, opened, appended, reported, log_before, log_of, IsRun}
use Rattle.journal.specs.Traces.{Trace, run_of, forced, newest_store, MayBeOnDisk, KeepsRules, left_log}
use Rattle.journal.specs.Lives.{Lasts, Lives, once, again, now, AreLived, was_forced, LivesSurvive}
use Rattle.journal.proofs.Promised.{kept_promise}
use Rattle.journal.proofs.Reopened.{restart_reopens}
use Rattle.journal.proofs.Traces.{Agrees, holds, newest_lies, crashed, whole_left, has_in_whole, has_lasts, engine_survives}

has_more : (p : LogRecord → Bool) (log : History) (xs : List LogRecord) → has p log ≡ true → has p (log ▸▸ xs) ≡ true
has_more p log [] e = e
has_more p log (x ∷ xs) e = has_more p (log ▸ x) xs (or_right (p x) (has p log) e)

-- what was in the log that was opened is in what is left
has_kept : (p : LogRecord → Bool) (run : Run) (n : ℕ) → last_lsn (history (log_before run)) ≤ n → has p (history (log_before run)) ≡ true → has p (first n (log_of run)) ≡ true
has_kept p (opened log store) n le e = ap (has p) (first_all n (history log) le) ∙ e
has_kept p (appended run r) n le e =
    (let before : has p (first n (log_of run)) ≡ true = has_kept p run n le e in
    elim (cases_Bool (ltb (last_lsn (log_of run)) n)) [
      | inl l ↦ rw l (or_right (p r) (has p (log_of run)) (has_in_whole p n (log_of run) before))
      | inr l ↦ rw l before
    ])
has_kept p (reported run page page_lsn) n le e = has_kept p run n le e

pub lasts : (base : BasePages) (t : Trace) (lsn : ℕ) (store : StoreContent) → IsRun base (run_of t) → KeepsRules base t → forced t ≤ lsn → lsn ≤ last_lsn (log_of (run_of t)) → MayBeOnDisk t store → Lasts base t lsn store
lasts base t lsn store h k le to l =
    let s = engine_survives base t lsn store h k le to l in
    let c = crashed base t lsn h k le to store l in
    record {
      survives = s;
      promised = λ tx e. kept_promise base tx (history (left_log t lsn)) s.recovers.lawful.log (has_lasts base t lsn h k le to (is_prepare_of tx) e);
      reopens = restart_reopens base (run_of t) lsn _ _ h c;
      goes_on = λ n left i. restart_goes_on base _ _ n left c.numbered s.recovers.lawful i;
    }

life : (base : BasePages) (l : Lives) → AreLived base l → IsRun base (run_of (now l)) × KeepsRules base (now l)
life base (once t) h = h
life base (again l lsn store t) h = (h.2, h.3)

forced_lasts : (base : BasePages) (l : Lives) (lsn tx : ℕ) → AreLived base l → forced (now l) ≤ lsn → lsn ≤ last_lsn (log_of (run_of (now l))) → was_forced tx l ≡ true
    → committed tx (history (left_log (now l) lsn)) ≡ true
forced_lasts base (once t) lsn tx h le to e = has_lasts base t lsn h.0 h.1 le to (is_commit_of tx) e
forced_lasts base (again l past store t) lsn tx h le to e =
    elim (or_cases (was_forced tx l) (committed tx (first (forced t) (log_of (run_of t)))) e) [
      | inl old ↦
          (let then : committed tx (history (left_log (now l) past)) ≡ true = forced_lasts base l past tx h.0 h.1.some h.1.within old in
          let tailed : committed tx (history (with_tail (left_log (now l) past))) ≡ true =
          ap (committed tx) (with_tail_is (left_log (now l) past)) ∙ has_more (is_commit_of tx) (history (left_log (now l) past)) (tail (history (left_log (now l) past))) then in
          let before : committed tx (history (log_before (run_of t))) ≡ true = ap (λ x. committed tx (history x)) h.1.log ∙ tailed in
          let s : Agrees base (run_of t) (forced t) (newest_store t) = holds base t (newest_store t) h.2 h.3 (newest_lies t) in
          ap (committed tx) (whole_left base t lsn h.2 h.3 le to) ∙ has_kept (is_commit_of tx) (run_of t) lsn (omega (arith, s.some, le)) before)
      | inr here ↦ has_lasts base t lsn h.2 h.3 le to (is_commit_of tx) here
    ]

pub lives_survive : LivesSurvive
lives_survive base l lsn store h le to there =
    let x = life base l h in
    (lasts base (now l) lsn store x.0 x.1 le to there, λ tx e. forced_lasts base l lsn tx h le to e)
