-- The checkpoint that a master names.
use Rattle.std.proofs.Common.{ℕ, ◌≡◌, ◌+◌, ◌<◌, ◌≤◌, Bool, true, false, cond, eqb, eq-eqb, leb, ltb, inl, inr, List, [], ◌∷◌, Option, Some, None, refl, sym, ap, ◌∙◌, arith}
use Rattle.std.proofs.Math.Bool.{and-false}
use Rattle.std.proofs.lemmas.Bool.{cases_Bool, false≢true, le-leb, lt-leb}
use Rattle.log_laws.specs.Records.{TableEntry, LogRecord, CheckpointBegin, CheckpointEnd, History, start, ◌▸◌, ◌▸▸◌, last_lsn, record_at, first, base_lsn}
use Rattle.log_laws.specs.Checkpoint.{first_end, is_begin, checkpoint_at}
use Rattle.log_laws.proofs.Histories.{record_within, size_of_first, record_above}

-- THE FIRST END that names a begin
pub first_end_none : (m : ℕ) (log : History) → last_lsn log ≤ m → first_end m log ≡ None
first_end_none m (start _) le = refl
first_end_none m (log ▸ CheckpointEnd begin ts d) le =
    let older = first_end_none m log (omega arith) in
    let e : leb m (last_lsn log) ≡ false = lt-leb m (last_lsn log) (omega arith) in
    rw (older, e, and-false (eqb begin m)) refl
first_end_none m (log ▸ r) le = first_end_none m log (omega arith)

pub first_end_after : (m : ℕ) (log : History) (rs : List LogRecord) (x : List TableEntry × List (ℕ × ℕ)) → first_end m log ≡ Some x → first_end m (log ▸▸ rs) ≡ Some x
first_end_after m log [] x e = e
first_end_after m log (CheckpointEnd begin ts d ∷ rs) x e = first_end_after m (log ▸ CheckpointEnd begin ts d) rs x (rw e refl)
first_end_after m log (r ∷ rs) x e = first_end_after m (log ▸ r) rs x e

-- the end that is found in the records up to an LSN is the one found in the whole log
first_end_before : (m lsn : ℕ) (log : History) (x : List TableEntry × List (ℕ × ℕ)) → first_end m (first lsn log) ≡ Some x → first_end m log ≡ Some x
first_end_before m lsn (start _) x e = e
first_end_before m lsn (log ▸ r) x e =
    elim (cases_Bool (ltb (last_lsn log) lsn)) [
      | inl i ↦ sym (ap (λ b. first_end m (cond b (log ▸ r) (first lsn log))) i) ∙ e
      | inr i ↦ first_end_after m log (r ∷ []) x (first_end_before m lsn log x (sym (ap (λ b. first_end m (cond b (log ▸ r) (first lsn log))) i) ∙ e))
    ]

pub first_end_met : (log : History) (m lsn : ℕ) (begin : ℕ) (ts : List TableEntry) (d : List (ℕ × ℕ)) → base_lsn log ≤ m → lsn < last_lsn log → m ≤ lsn → begin ≡ m → first_end m (first lsn log) ≡ None
    → first (lsn + 1) log ≡ first lsn log ▸ CheckpointEnd begin ts d → Some (ts, d) ≡ first_end m log
first_end_met log m lsn begin ts d from lt le own none next =
    let n : last_lsn (first lsn log) ≡ lsn = size_of_first lsn log (omega (arith, from, le)) (omega arith) in
    let named : eqb begin m ≡ true = eq-eqb begin m own in
    let behind : leb m (last_lsn (first lsn log)) ≡ true = le-leb _ _ (omega (arith, n)) in
    let here : first_end m (first (lsn + 1) log) ≡ Some (ts, d) = ap (first_end m) next ∙ (rw (none, named, behind) refl) in
    sym (first_end_before m (lsn + 1) log (ts, d) here)

-- THE CHECKPOINT: a begin record, and the first end that names it
abbrev Both : Type 0
Both = List TableEntry × List (ℕ × ℕ)

begin_is : (o : Option LogRecord) → is_begin o ≡ true → o ≡ Some CheckpointBegin
begin_is None h = absurd (false≢true h)
begin_is (Some CheckpointBegin) h = refl
begin_is (Some r) h = absurd (false≢true h)

chosen : (b : Bool) (o : Option Both) (x : Both) → cond b o None ≡ Some x → (b ≡ true) × (o ≡ Some x)
chosen true o x e = (refl, e)
chosen false o x e = absurd cc

pub checkpoint_begins : (m : ℕ) (log : History) (x : Both) → checkpoint_at m log ≡ Some x → record_at log m ≡ Some CheckpointBegin
checkpoint_begins m log x e = begin_is (record_at log m) (chosen (is_begin (record_at log m)) (first_end m log) x e).0

-- a begin record is a record of the log
pub begin_above : (m : ℕ) (log : History) → is_begin (record_at log m) ≡ true → base_lsn log ≤ m
begin_above m log h = omega (arith, record_above log m CheckpointBegin (begin_is (record_at log m) h))

pub checkpoint_ends : (m : ℕ) (log : History) (x : Both) → checkpoint_at m log ≡ Some x → first_end m log ≡ Some x
checkpoint_ends m log x e = (chosen (is_begin (record_at log m)) (first_end m log) x e).1

pub checkpoint_there : (m : ℕ) (log : History) → record_at log m ≡ Some CheckpointBegin → checkpoint_at m log ≡ first_end m log
checkpoint_there m log begins = ap (λ o. cond (is_begin o) (first_end m log) None) begins

pub checkpoint_within : (m : ℕ) (log : History) (x : Both) → checkpoint_at m log ≡ Some x → m ≤ last_lsn log
checkpoint_within m log x e = record_within log m CheckpointBegin (checkpoint_begins m log x e)

pub checkpoint_above : (m : ℕ) (log : History) (x : Both) → checkpoint_at m log ≡ Some x → base_lsn log < m
checkpoint_above m log x e = record_above log m CheckpointBegin (checkpoint_begins m log x e)
