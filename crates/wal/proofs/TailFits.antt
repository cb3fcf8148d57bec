-- A prefix of a tail has encodings.
use Rattle.std.proofs.Common.{ℕ, suc, ◌≡◌, ◌+◌, ◌^◌, ◌<◌, true, List, [], ◌∷◌, ◌++◌, length, take, sym, subst, inl, inr, arith, eqb-true}
use Rattle.std.specs.Prelude.{All}
use Rattle.std.specs.List.{AllByRecursion}
use Rattle.std.proofs.lemmas.Bool.{false≢true, or_cases}
use Rattle.std.proofs.lemmas.List.Elements.{All-from_recursion}
use Rattle.log_laws.specs.Records.{LogRecord, Update, Compensation, End, CheckpointBegin, CheckpointEnd, History, start, ◌▸◌, LogContent, history, ◌⧺◌, last_lsn, EachRecord}
use Rattle.log_laws.specs.Meaning.{BasePages, is_of, has}
use Rattle.log_laws.specs.Laws.{Obeys, IsLawful}
use Rattle.log_laws.specs.Tail.{tx_of, tail_of}
use Rattle.log_laws.proofs.Histories.{record_last, record_more, each_found, last_within}
use Rattle.log_laws.proofs.Steps.{loser_has}
use Rattle.log_laws.proofs.Appended.{IsRollback, tail_has}
use Rattle.wal.specs.Spelling.{Fits}
use Rattle.page.specs.Image.{FitsSlot}

abbrev FitsTx : ℕ → Type 0
FitsTx t = (0 < t) × (t < 2 ^ 32)

-- a record that has an encoding is of a transaction whose number has one
tx_fits : (t : ℕ) (r : LogRecord) → Fits r → is_of t r ≡ true → FitsTx t
tx_fits t CheckpointBegin f e = absurd (false≢true e)
tx_fits t (CheckpointEnd begin transactions dirty) f e = absurd (false≢true e)
tx_fits t r f e = (omega (arith, f.some_tx, eqb-true (tx_of r) t e), omega (arith, f.tx, eqb-true (tx_of r) t e))

-- each transaction of which the log has a record has a number with an encoding
transaction_fits : (t : ℕ) (log : History) → EachRecord Fits log → has (is_of t) log ≡ true → FitsTx t
transaction_fits t (start _) p h = absurd (false≢true h)
transaction_fits t (log ▸ r) p h =
    elim (or_cases (is_of t r) (has (is_of t) log) h) [
      | inl i ↦ tx_fits t r (p (suc (last_lsn log)) r (record_last log r)) i
      | inr i ↦ transaction_fits t log (λ n x f. p n x (record_more log r n x f)) i
    ]

-- a CLR takes its numbers and its image from the update that it undoes, and its PrevLSN from the log
fits_next : (base : BasePages) (log : History) (r : LogRecord) → last_lsn log < 2 ^ 64 → Obeys base log r → EachRecord Fits log → IsRollback FitsTx r → Fits r
fits_next base log (Compensation c) few o p q =
    let k = o.compensation in
    let u = p k.lsn (Update k.update) k.found in
    record {
      some_tx = q.0;
      tx = q.1;
      prev = omega (arith, few, o.chain, last_within c.tx log);
      page = omega (arith, u.page, k.page);
      slot = omega (arith, u.slot, k.slot);
      undo_next = omega (arith, u.prev, k.undo_next);
      image = subst FitsSlot (sym k.image) u.before;
    }
fits_next base log (End s) few o p q = record { some_tx = q.0; tx = q.1; prev = omega (arith, few, o.chain, last_within s.tx log) }
fits_next base log r few o p q = absurd q

-- if the records have encodings, and no LSN is too large, those of a prefix of the tail have encodings too
pub tail_fits : (base : BasePages) (log : LogContent) (k : ℕ) → last_lsn (history log) + length (take k (tail_of log)) < 2 ^ 64 → IsLawful base (history log) → AllByRecursion Fits log.records
    → AllByRecursion Fits (log ⧺ take k (tail_of log)).records
tail_fits base log k few h fits =
    let all : All Fits log.records = All-from_recursion Fits log.records fits in
    let each = each_found Fits log all in
    AllByRecursion-append log.records (take k (tail_of log)) fits
    (tail_has base Fits FitsTx (last_lsn (history log) + length (take k (tail_of log))) (λ log r l o p q. fits_next base log r (omega (arith, few, l)) o p q) log k (omega arith) h
    (λ t l. transaction_fits t (history log) each (loser_has t (history log) l)) each)
  where
    AllByRecursion-append : (xs ys : List LogRecord) → AllByRecursion Fits xs → AllByRecursion Fits ys → AllByRecursion Fits (xs ++ ys)
    AllByRecursion-append [] ys p q = q
    AllByRecursion-append (x ∷ xs) ys p q = (p.0, AllByRecursion-append xs ys p.1 q)
