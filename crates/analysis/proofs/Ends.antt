-- The tables of a checkpoint in a log that goes by in pieces.
use Rattle.std.proofs.Common.{ℕ, suc, ◌≡◌, Bool, true, false, ◌||◌, cond, eqb, leb, ltb, ◌&&◌, List, [], ◌∷◌, Option, Some, None, refl, sym, ap, ap₂, ◌∙◌, arith, inl, inr}
use Rattle.std.proofs.lemmas.Bool.{cases_Bool, cases_eq, ltb-true, ltb-false}
use Rattle.log_laws.specs.Records.{TableEntry, LogRecord, CheckpointEnd, History, start, ◌▸◌, ◌▸▸◌, LogContent, history, last_lsn, base_lsn, record_at}
use Rattle.log_laws.specs.Checkpoint.{or_else, first_end, is_begin, checkpoint_at}
use Rattle.log_laws.proofs.Histories.{base_of_log, base_after, record_in_front, record_none}
use Rattle.log_laws.proofs.Checkpoints.{first_end_none, first_end_after, begin_above, checkpoint_begins, checkpoint_ends, checkpoint_there, checkpoint_within}
use Rattle.analysis.specs.Tables.{base_of}
use Rattle.analysis.proofs.Scanned.{or_else-assoc}
use Rattle.analysis.proofs.Truth.{base_is}

abbrev Both : Type 0
Both = List TableEntry × List (ℕ × ℕ)

-- MORE RECORDS
-- a base stays
pub base_stays : (m : ℕ) (log : History) (records : List LogRecord) (x : Both) → base_of m log ≡ Some x → base_of m (log ▸▸ records) ≡ Some x
base_stays m log records x e =
    elim (cases_eq m 0) [
      | inl z ↦ ap (λ n. base_of n (log ▸▸ records)) z ∙ sym (ap (λ n. base_of n log) z) ∙ e
      | inr some ↦
          (let there : checkpoint_at m log ≡ Some x = sym (base_is log m some) ∙ e in
          let begins = checkpoint_begins m log x there in
          base_is (log ▸▸ records) m some
          ∙ checkpoint_there m (log ▸▸ records) (record_in_front log records m (checkpoint_within m log x there) ∙ begins)
          ∙ first_end_after m log records x (checkpoint_ends m log x there))
    ]

-- the first end among those of a log and of the records after it
ends_after : (m : ℕ) (o : Option Both) (a b : History) (records : List LogRecord) → last_lsn a ≡ last_lsn b → first_end m a ≡ or_else o (first_end m b) → first_end m (a ▸▸ records) ≡ or_else o (first_end m (b ▸▸ records))
ends_after m o a b [] at same = same
ends_after m o a b (CheckpointEnd begin ts d ∷ records) at same =
    ends_after m o (a ▸ CheckpointEnd begin ts d) (b ▸ CheckpointEnd begin ts d) records (ap suc at)
    (ap₂ (λ (x : Option Both) (n : ℕ). or_else x (cond (eqb begin m && leb m n) (Some (ts, d)) None)) same at
    ∙ sym (or_else-assoc o (first_end m b) (cond (eqb begin m && leb m (last_lsn b)) (Some (ts, d)) None)))
ends_after m o a b (r ∷ records) at same = ends_after m o (a ▸ r) (b ▸ r) records (ap suc at) same

pub end_behind : (m : ℕ) (log : History) (records : List LogRecord) → first_end m log ≡ None → first_end m (log ▸▸ records) ≡ first_end m (start (last_lsn log) ▸▸ records)
end_behind m log records none = ends_after m None log (start (last_lsn log)) records refl none

-- the record at an LSN is in front, or in the records
records_after : (n : ℕ) (a b : History) (records : List LogRecord) → last_lsn a ≡ last_lsn b → record_at a n ≡ record_at b n → record_at (a ▸▸ records) n ≡ record_at (b ▸▸ records) n
records_after n a b [] at same = same
records_after n a b (r ∷ records) at same = records_after n (a ▸ r) (b ▸ r) records (ap suc at) (ap₂ (λ k o. cond (eqb n (suc k)) (Some r) o) at same)

or-false : (b : Bool) → b ≡ (b || false)
or-false true = refl
or-false false = refl

begin_parts : (m : ℕ) (log : History) (records : List LogRecord) → is_begin (record_at (log ▸▸ records) m) ≡ (is_begin (record_at log m) || is_begin (record_at (start (last_lsn log) ▸▸ records) m))
begin_parts m log records =
    let piece = start (last_lsn log) ▸▸ records in
    elim (cases_Bool (ltb (last_lsn log) m)) [
      | inl i ↦
          (let lt = ltb-true (last_lsn log) m i in
          let none : record_at log m ≡ None = record_none log m (inr lt) in
          ap is_begin (records_after m log (start (last_lsn log)) records refl none) ∙ sym (ap (λ o. is_begin o || is_begin (record_at piece m)) none))
      | inr i ↦
          (let le = ltb-false (last_lsn log) m i in
          let none : record_at piece m ≡ None = record_none piece m (inl (omega (arith, le, base_after (start (last_lsn log)) records))) in
          ap is_begin (record_in_front log records m le) ∙ or-false (is_begin (record_at log m)) ∙ sym (ap (λ o. is_begin (record_at log m) || is_begin o) none))
    ]

-- PIECES
-- if there was no base: whether a begin record was found, and the base
pub record Met (m : ℕ) (log : History) (piece : LogContent) (begins : Bool) : Type 0 where
  pub begin : begins ≡ is_begin (record_at (log ▸▸ piece.records) m)
  pub base : base_of m (log ▸▸ piece.records) ≡ cond begins (first_end m (history piece)) None

some_master : (m : ℕ) (log : History) → base_of m log ≡ None → m ≡ 0 → ⊥
some_master m log none z = (let f : ◌≡◌ {A = Option Both} (Some ([], [])) None = sym (ap (λ n. base_of n log) z) ∙ none in cc)

-- if a log has no base, and it or the piece after it has the begin record, the log has no end
no_end : (m : ℕ) (log : History) (piece : History) → last_lsn log ≡ base_lsn piece → base_of m log ≡ None → (is_begin (record_at log m) || is_begin (record_at piece m)) ≡ true → first_end m log ≡ None
no_end m log piece at none met = by_front (is_begin (record_at log m)) refl
  where
    by_front : (b : Bool) → is_begin (record_at log m) ≡ b → first_end m log ≡ None
    by_front true e = sym (ap (λ b. cond b (first_end m log) None) e) ∙ (sym (base_is log m (some_master m log none)) ∙ none)
    by_front false e = (let here : is_begin (record_at piece m) ≡ true = sym (ap (λ b. b || is_begin (record_at piece m)) e) ∙ met in first_end_none m log (omega (arith, at, begin_above m piece here)))

pub met : (m : ℕ) (log : History) (piece : LogContent) (was begins : Bool) → last_lsn log ≡ base_lsn (history piece) → base_of m log ≡ None → was ≡ is_begin (record_at log m)
    → begins ≡ (was || is_begin (record_at (history piece) m)) → Met m log piece begins
met m log piece was begins at none before now =
    let goes_on : start (last_lsn log) ▸▸ piece.records ≡ history piece = ap (λ n. start n ▸▸ piece.records) (at ∙ base_of_log piece) in
    let both : begins ≡ (is_begin (record_at log m) || is_begin (record_at (history piece) m)) = now ∙ ap (λ b. b || is_begin (record_at (history piece) m)) before in
    let begin : begins ≡ is_begin (record_at (log ▸▸ piece.records) m) = both ∙ ap (λ h. is_begin (record_at log m) || is_begin (record_at h m)) (sym goes_on) ∙ sym (begin_parts m log piece.records) in
    record {
      begin = begin;
      base =
          base_is (log ▸▸ piece.records) m (some_master m log none) ∙ ap (λ b. cond b (first_end m (log ▸▸ piece.records)) None) (sym begin)
          ∙ by_met begins both goes_on;
    }
  where
    by_met : (b : Bool) → b ≡ (is_begin (record_at log m) || is_begin (record_at (history piece) m)) → start (last_lsn log) ▸▸ piece.records ≡ history piece
        → cond b (first_end m (log ▸▸ piece.records)) None ≡ cond b (first_end m (history piece)) None
    by_met true e goes_on = end_behind m log piece.records (no_end m log (history piece) at none (sym e)) ∙ ap (first_end m) goes_on
    by_met false e goes_on = refl
