-- The laws, over the contents of logs.
use mathlib.Core.Path.{fun_ext}
use Rattle.std.proofs.Common.{ℕ, suc, ◌-◌, ◌≤◌, List, [], ◌∷◌, ◌++◌, length, take, drop, sym, ap, ap₂, ◌∙◌, subst, Some, ◌≡◌, inl, inr, arith, append_assoc, take-append-drop}
use Rattle.std.proofs.Math.Seq.{take-append-add}
use Rattle.log_laws.specs.Records.{LogRecord, History, start, ◌▸◌, ◌▸▸◌, lsn_before, LogContent, history, ◌⧺◌, up_to, last_lsn, record_at, first}
use Rattle.log_laws.specs.Meaning.{BasePages, in_doubt, replay, winners}
use Rattle.log_laws.specs.Laws.{Obeys, IsLawful}
use Rattle.log_laws.specs.Tail.{tail, tail_of, with_tail}
use Rattle.log_laws.specs.Theorems.{LawfulByRecord, HopsMeetPending, ReplayIsWinners, TailSettles, CutsResume}
use Rattle.std.proofs.lemmas.Bool.{cases_eq}
use Rattle.std.proofs.lemmas.Option.{same_Some}
use Rattle.log_laws.proofs.Histories.{after-append, size_of_log, record_last, record_older, record_more, record_within, first_older, first_all}
use Rattle.log_laws.proofs.Walks.{walk_meets_pending}
use Rattle.log_laws.proofs.Cuts.{cut_of, whole_lawful, whole_tail, whole_doubt, whole_winners, no_loser, replay_of_whole}

-- the log and its tail, in the order of time
pub with_tail_is : (log : LogContent) → history (with_tail log) ≡ history log ▸▸ tail (history log)
with_tail_is log = after-append (start (lsn_before log.begins)) log.records (tail_of log)

pub hops_meet_pending : HopsMeetPending
hops_meet_pending base log t h = walk_meets_pending base (history log) t h

pub replay_is_winners : ReplayIsWinners
replay_is_winners base log h =
    ap (replay base) (with_tail_is log) ∙ fun_ext (λ page. fun_ext (λ slot. replay_of_whole base (history log) h page slot))

pub tail_settles : TailSettles
tail_settles base log h =
    let e = with_tail_is log in
    let t : tail_of (with_tail log) ≡ [] = ap tail e ∙ whole_tail base (history log) h in
    record {
      lawful = subst (IsLawful base) (sym e) (whole_lawful base (history log) h);
      no_loser = no_loser (history (with_tail log)) t;
      same_doubt = λ x. ap (in_doubt x) e ∙ whole_doubt base (history log) h x;
      no_tail = t;
      same = ap (winners base) e ∙ fun_ext (λ page. fun_ext (λ slot. whole_winners base (history log) h page slot));
    }

-- a prefix that has all of the first list
pub take-append-ge : (n : ℕ) (xs ys : List LogRecord) → length xs ≤ n → take n (xs ++ ys) ≡ xs ++ take (n - length xs) ys
take-append-ge n xs ys h = ap (λ m. take m (xs ++ ys)) (omega arith) ∙ take-append-add xs ys (n - length xs)

-- the log and as many records of its tail as an LSN allows
abbrev pub left_of_tail : ℕ → LogContent → ℕ
left_of_tail lsn log = lsn - last_lsn (history log)

pub up_to_in_tail : (lsn : ℕ) (log : LogContent) → last_lsn (history log) ≤ lsn → up_to lsn (with_tail log) ≡ log ⧺ take (left_of_tail lsn log) (tail_of log)
up_to_in_tail lsn log le =
    ap (λ xs. record { begins = log.begins; records = xs })
    (take-append-ge (lsn - lsn_before log.begins) log.records (tail_of log) (omega (arith, le, size_of_log log)) ∙ ap (λ k. log.records ++ take k (tail_of log)) (omega (arith, le, size_of_log log)))

pub cuts_resume : CutsResume
cuts_resume base log lsn h le =
    let k : ℕ = left_of_tail lsn log in
    let c = cut_of base (history log) k h in
    let e : up_to lsn (with_tail log) ≡ log ⧺ take k (tail_of log) = up_to_in_tail lsn log le in
    let f : history (up_to lsn (with_tail log)) ≡ history log ▸▸ take k (tail_of log) = ap history e ∙ after-append (start (lsn_before log.begins)) log.records (take k (tail_of log)) in
    let t : tail_of (up_to lsn (with_tail log)) ≡ drop k (tail_of log) = ap tail f ∙ c.rest in
    record {
      lawful = subst (IsLawful base) (sym f) c.lawful;
      whole = ap₂ (λ (l : LogContent) (ys : List LogRecord). l ⧺ ys) e t
          ∙ ap (λ xs. record { begins = log.begins; records = xs }) (append_assoc log.records (take k (tail_of log)) (drop k (tail_of log)) ∙ ap (λ xs. log.records ++ xs) (take-append-drop k (tail_of log)));
    }

-- EACH RECORD
-- a prefix of a lawful log is lawful
pub lawful_before : (base : BasePages) (log : History) (xs : List LogRecord) → IsLawful base (log ▸▸ xs) → IsLawful base log
lawful_before base log [] h = h
lawful_before base log (x ∷ xs) h = (lawful_before base (log ▸ x) xs h).0

-- the laws record by record, and back
abbrev Each : (base : BasePages) → History → Type 0
Each base log = (lsn : ℕ) (r : LogRecord) → record_at log (suc lsn) ≡ Some r → Obeys base (first lsn log) r

-- the log up to its last record but one
first_but_last : (log : History) (r : LogRecord) → first (last_lsn log) (log ▸ r) ≡ log
first_but_last log r = first_older log r (last_lsn log) (omega arith) ∙ first_all (last_lsn log) log (omega arith)

pub each_of_lawful : (base : BasePages) (log : History) → IsLawful base log → Each base log
each_of_lawful base (start _) h lsn x f = absurd cc
each_of_lawful base (log ▸ r) h lsn x f =
    elim (cases_eq lsn (last_lsn log)) [
      | inl e ↦
          (let same : r ≡ x = same_Some r x (sym (ap (λ n. record_at (log ▸ r) (suc n)) e ∙ record_last log r) ∙ f) in
          subst (λ l. Obeys base l x) (sym (ap (λ n. first n (log ▸ r)) e ∙ first_but_last log r)) (subst (Obeys base log) same h.1))
      | inr d ↦
          (let le : suc lsn ≤ last_lsn log = omega (arith, d, record_within (log ▸ r) (suc lsn) x f) in
          subst (λ l. Obeys base l x) (sym (first_older log r lsn (omega (arith, le)))) (each_of_lawful base log h.0 lsn x (sym (record_older log r (suc lsn) le) ∙ f)))
    ]

lawful_of_each : (base : BasePages) (log : History) → Each base log → IsLawful base log
lawful_of_each base (start _) e = tt
lawful_of_each base (log ▸ r) e = (
  lawful_of_each base log
      (λ lsn x f. subst (λ l. Obeys base l x) (first_older log r lsn (omega (arith, record_within log (suc lsn) x f))) (e lsn x (record_more log r (suc lsn) x f))),
  subst (λ l. Obeys base l r) (first_but_last log r) (e (last_lsn log) r (record_last log r)),
)

pub lawful_by_record : LawfulByRecord
lawful_by_record base log = (each_of_lawful base (history log), lawful_of_each base (history log))
