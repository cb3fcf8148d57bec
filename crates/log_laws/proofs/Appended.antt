-- What a tail is made of, and what its records take from the log.
use Rattle.std.proofs.Common.{ℕ, suc, zero, ◌≡◌, ◌+◌, ◌<◌, ◌≤◌, true, cond, List, [], ◌∷◌, length, take, Some, sym, subst, inl, inr, arith, eqb}
use Rattle.std.specs.Prelude.{⊤}
use Rattle.std.specs.List.{AllByRecursion}
use Rattle.std.proofs.lemmas.Bool.{cases_Bool}
use Rattle.log_laws.specs.Records.{LogRecord, Update, Compensation, End, History, ◌▸◌, ◌▸▸◌, LogContent, history, last_lsn, EachRecord}
use Rattle.log_laws.specs.Meaning.{BasePages, is_loser, last_of}
use Rattle.log_laws.specs.Laws.{Obeys, IsLawful}
use Rattle.log_laws.specs.Tail.{Action, Finish, Undo, tx_for, record_for, records_for, left_to_do, tail, tail_of}
use Rattle.log_laws.specs.Store.{NamesPages}
use Rattle.log_laws.proofs.Lists.{lawful_before}
use Rattle.log_laws.proofs.Cuts.{cut_of}
use Rattle.log_laws.proofs.Actions.{AllFor, left_is_of_losers}

-- a CLR or an end, of such a transaction
abbrev pub IsRollback : (ℕ → Type 0) → LogRecord → Type 0
IsRollback P (Compensation c) = P c.tx
IsRollback P (End s) = P s.tx
IsRollback P _ = ⊥

-- what is written is CLRs and ends of the transactions of the actions
pub records_for_rollback : (P : ℕ → Type 0) (last : ℕ → ℕ) (lsn : ℕ) (actions : List Action) → AllFor P actions → AllByRecursion (IsRollback P) (records_for last lsn actions)
records_for_rollback P last lsn [] h = tt
records_for_rollback P last lsn (a ∷ actions) h = (by_action a h.0, records_for_rollback P (λ t. cond (eqb (tx_for a) t) lsn (last t)) (suc lsn) actions h.1)
  where
    by_action : (b : Action) → P (tx_for b) → IsRollback P (record_for last b)
    by_action (Finish t) p = p
    by_action (Undo u) p = p

-- the tail has only CLRs and ends, of losers
pub tail_rollback : (P : ℕ → Type 0) (log : History) → ((t : ℕ) → is_loser t log ≡ true → P t) → AllByRecursion (IsRollback P) (tail log)
tail_rollback P log h = records_for_rollback P (λ t. last_of t log) (suc (last_lsn log)) (left_to_do log) (left_is_of_losers P log h)

-- what holds for each record holds for each one in front
each_taken : (P : LogRecord → Type 0) (k : ℕ) (xs : List LogRecord) → AllByRecursion P xs → AllByRecursion P (take k xs)
each_taken P zero xs h = tt
each_taken P (suc k) [] h = tt
each_taken P (suc k) (x ∷ xs) h = (h.0, each_taken P k xs h.1)

-- WHAT EACH RECORD TAKES FROM THE LOG
pub each_more : (P : LogRecord → Type 0) (log : History) (r : LogRecord) → EachRecord P log → P r → EachRecord P (log ▸ r)
each_more P log r h own n x f =
    elim (cases_Bool (eqb n (suc (last_lsn log)))) [
      | inl e ↦ (let f' : Some r ≡ Some x = rw e at f in let i : r ≡ x = cc in subst P i own)
      | inr e ↦ h n x (rw e at f)
    ]

-- a property that each CLR and end has after the records before it holds for those of a lawful log's tail
module _ (base : BasePages) (P : LogRecord → Type 0) (Q : ℕ → Type 0) (bound : ℕ) (next : (log : History) (r : LogRecord) → last_lsn log < bound → Obeys base log r → EachRecord P log → IsRollback Q r → P r) where
  taken_over : (log : History) (rs : List LogRecord) → last_lsn log + length rs ≤ bound → IsLawful base (log ▸▸ rs) → EachRecord P log → AllByRecursion (IsRollback Q) rs → AllByRecursion P rs
  taken_over log [] le h p q = tt
  taken_over log (r ∷ rs) le h p q =
      let own : P r = next log r (omega arith) (lawful_before base (log ▸ r) rs h).1 p q.0 in
      (own, taken_over (log ▸ r) rs (omega arith) h (each_more P log r p own) q.1)

  pub tail_has : (log : LogContent) (k : ℕ) → last_lsn (history log) + length (take k (tail_of log)) ≤ bound → IsLawful base (history log) → ((t : ℕ) → is_loser t (history log) ≡ true → Q t)
      → EachRecord P (history log) → AllByRecursion P (take k (tail_of log))
  tail_has log k le h q p =
      taken_over (history log) (take k (tail_of log)) le (cut_of base (history log) k h).lawful p
      (each_taken (IsRollback Q) k (tail_of log) (tail_rollback Q (history log) q))

-- so it holds for each record of the log and these
pub each_after : (P : LogRecord → Type 0) (log : History) (rs : List LogRecord) → EachRecord P log → AllByRecursion P rs → EachRecord P (log ▸▸ rs)
each_after P log [] p h = p
each_after P log (r ∷ rs) p h = each_after P (log ▸ r) rs (each_more P log r p h.0) h.1

-- PAGES
names_next : (base : BasePages) (count : ℕ) (log : History) (r : LogRecord) → Obeys base log r → EachRecord (NamesPages count) log → IsRollback (λ _. ⊤) r → NamesPages count r
names_next base count log (Compensation c) o p q = (let k = o.compensation in subst (λ page. page < count) (sym k.page) (p k.lsn (Update k.update) k.found))
names_next base count log (End s) o p q = tt
names_next base count log r o p q = absurd q

-- a prefix of the tail names pages of the log
pub tail_names : (base : BasePages) (count : ℕ) (log : LogContent) (k : ℕ) → IsLawful base (history log) → EachRecord (NamesPages count) (history log) → EachRecord (NamesPages count) (history log ▸▸ take k (tail_of log))
tail_names base count log k h p =
    each_after (NamesPages count) (history log) (take k (tail_of log)) p
    (tail_has base (NamesPages count) (λ _. ⊤) (last_lsn (history log) + length (take k (tail_of log))) (λ log r _ o each q. names_next base count log r o each q) log k (omega arith) h (λ t l. tt) p)
