-- A transaction that is rolled back to a savepoint, step by step.
use Rattle.std.proofs.Common.{◌≡◌, ◌≢◌, ◌<◌, ◌≤◌, ◌+◌, not, ℕ, suc, Bool, true, false, List, [], ◌∷◌, ◌++◌, length, drop, Some, refl, sym, ap, subst, ◌∙◌, inl, inr, arith, eqb, eq-eqb, ne_eqb}
use Rattle.std.proofs.lemmas.Bool.{cases_Bool, false≢true, or_left, or_right, and_from}
use Rattle.std.proofs.lemmas.Option.{same_Some}
use Rattle.log_laws.specs.declared.state.State.TheVariants.{Active, Aborting, Prepared}
use Rattle.log_laws.specs.Records.{LogRecord, Update, Compensation, CompensationRecord, History, start, ◌▸◌, last_lsn, record_at}
use Rattle.log_laws.specs.Tail.{is_among}
use Rattle.log_laws.proofs.Stacks.{pending_found}
use Rattle.log_laws.specs.Meaning.{BasePages, is_of, has, finished, state_at, pending}
use Rattle.journal.specs.declared.refusal.Refusal.{Refusal}
use Rattle.journal.specs.declared.refusal.Refusal.TheVariants.{UnknownTransaction, Forbidden, NothingToUndo, StillPending}
use Rattle.journal.specs.declared.table.Need.TheVariants.{NotPrepared}
use Rattle.journal.specs.Runs.{Run, appended, log_of}
use Rattle.journal.specs.Refusals.{StepRefused, OwnUndoRefused, OwnEndRefused}
use Rattle.journal.specs.State.{IsUndo}
use Rattle.journal.specs.Rollbacks.{newest_of, CanUndo, all_appended}
use Rattle.journal.specs.JournalState.{JournalState, Keeps, LeavesRest, AreUndos}

-- the rest was left by two operations in turn
pub rest_joined : (first second third : JournalState) → LeavesRest first second → LeavesRest second third → LeavesRest first third
rest_joined first second third h k = record { written = k.written ∙ h.written; taken = k.taken ∙ h.taken; next = k.next ∙ h.next }

pub record Rolled (base : BasePages) (run : Run) (tx savepoint count newest : ℕ) (state : JournalState) : Type 0 where
  pub records : List LogRecord
  pub then : Run
  pub then_is : then ≡ all_appended run records
  pub undos : AreUndos run tx savepoint records
  pub kept : Keeps base then state
  pub left : length (pending tx (log_of then)) + count ≡ length (pending tx (log_of run))
  pub free : CanUndo then tx
  pub newest_is : newest ≡ newest_of (pending tx (log_of then))

-- a log that has such a record at an LSN has one
has_at : (test : LogRecord → Bool) (log : History) (lsn : ℕ) (r : LogRecord) → record_at log lsn ≡ Some r → test r ≡ true → has test log ≡ true
has_at test (start _) lsn r e own = absurd (cc)
has_at test (log ▸ x) lsn r e own =
    elim (cases_Bool (eqb lsn (suc (last_lsn log)))) [
      | inl here ↦
          (let at : record_at (log ▸ x) lsn ≡ Some x = rw here refl in
          let same : x ≡ r = same_Some x r (sym at ∙ e) in
          or_left (test x) (has test log) (ap test same ∙ own))
      | inr below ↦
          (let at : record_at (log ▸ x) lsn ≡ record_at log lsn = rw below refl in
          or_right (test x) (has test log) (has_at test log lsn r (sym at ∙ e) own))
    ]

-- a transaction with a pending update has a record
pending_has : (t : ℕ) (log : History) (lsns : List ℕ) → pending t log ≡ lsns → lsns ≢ [] → has (is_of t) log ≡ true
pending_has t log [] e n = absurd (n refl)
pending_has t log (lsn ∷ below) e n =
    let found = pending_found t log lsn (rw e (or_left (eqb lsn lsn) (is_among lsn below) (eq-eqb lsn lsn refl))) in
    has_at (is_of t) log lsn (Update found.0) found.1 (eq-eqb found.0.tx t found.2)

appended_last : (run : Run) (rs : List LogRecord) (r : LogRecord) → all_appended run (rs ++ r ∷ []) ≡ appended (all_appended run rs) r
appended_last run [] r = refl
appended_last run (x ∷ rs) r = appended_last (appended run x) rs r

undos_last : (run : Run) (tx savepoint : ℕ) (rs : List LogRecord) (r : LogRecord) → AreUndos run tx savepoint rs → savepoint < newest_of (pending tx (log_of (all_appended run rs))) → IsUndo (all_appended run rs) tx r
    → AreUndos run tx savepoint (rs ++ r ∷ [])
undos_last run tx savepoint [] r h lt u = (lt, u, tt)
undos_last run tx savepoint (x ∷ rs) r h lt u = (h.0, h.1, undos_last (appended run x) tx savepoint rs r h.2 lt u)

-- after a CLR one update fewer is pending, and the transaction is as it was
less_pending : (log : History) (tx : ℕ) (c : CompensationRecord) (lsn : ℕ) (below : List ℕ) → c.tx ≡ tx → pending c.tx log ≡ lsn ∷ below → length (pending tx (log ▸ Compensation c)) + 1 ≡ length (pending tx log)
less_pending log tx c lsn below own newest =
    let same : eqb c.tx tx ≡ true = eq-eqb c.tx tx own in
    let was : pending tx log ≡ lsn ∷ below = ap (λ t. pending t log) (sym own) ∙ newest in
    let left : pending tx (log ▸ Compensation c) ≡ below = rw same (ap (drop 1) was) in
    let a = ap length left in
    let b = ap length was in
    omega (arith, a, b)

pub begins_rolled : (base : BasePages) (run : Run) (tx savepoint newest : ℕ) (state : JournalState) → Keeps base run state → CanUndo run tx → newest ≡ newest_of (pending tx (log_of run)) → Rolled base run tx savepoint 0 newest state
begins_rolled base run tx savepoint newest state k free is =
    record { records = []; then = run; then_is = refl; undos = tt; kept = k; left = omega arith; free = free; newest_is = is }

module _ (base : BasePages) (run : Run) (tx savepoint count newest : ℕ) (before after : JournalState) (h : Rolled base run tx savepoint count newest before) (above : savepoint < newest) where
  pending_some : pending tx (log_of h.then) ≢ []
  pending_some none = (let z = ap newest_of none in let is = h.newest_is in omega (arith, z, is, above))

  some_record : has (is_of tx) (log_of h.then) ≡ true
  some_record = pending_has tx (log_of h.then) (pending tx (log_of h.then)) refl pending_some

  -- an undo is not refused
  pub undo_refused : (e : Refusal) → OwnUndoRefused h.then tx e → ⊥
  undo_refused NothingToUndo r = pending_some r
  undo_refused UnknownTransaction r = false≢true (sym r ∙ and_from (has (is_of tx) (log_of h.then)) (not (finished tx (log_of h.then))) some_record (ap not h.free.0))
  undo_refused (Forbidden Active) r = absurd (false≢true (sym r.1))
  undo_refused (Forbidden Aborting) r = absurd (false≢true (sym r.1))
  undo_refused (Forbidden Prepared) r = h.free.1 (sym r.0)
  undo_refused e r = absurd r

  module _ (r : LogRecord) (u : IsUndo h.then tx r) (k : Keeps base (appended h.then r) after) where
    abbrev pub then' : Run
    then' = appended h.then r

    clr_is : log_of then' ≡ log_of h.then ▸ Compensation u.clr
    clr_is = ap (λ x. log_of h.then ▸ x) u.is

    pub still_free : CanUndo then' tx
    still_free = subst (λ l. (finished tx l ≡ false) × (state_at tx l ≢ Prepared)) (sym clr_is) h.free

    pub has_still : has (is_of tx) (log_of then') ≡ true
    has_still = subst (λ l. has (is_of tx) l ≡ true) (sym clr_is) (or_left (eqb u.clr.tx tx) (has (is_of tx) (log_of h.then)) (eq-eqb u.clr.tx tx u.own))

    -- so a look at the newest one is not refused
    pub look_refused : (e : Refusal) → StepRefused NotPrepared then' tx e → ⊥
    look_refused UnknownTransaction r = false≢true (sym r ∙ and_from (has (is_of tx) (log_of then')) (not (finished tx (log_of then'))) has_still (ap not still_free.0))
    look_refused (Forbidden Active) r = absurd (false≢true (sym r.1))
    look_refused (Forbidden Aborting) r = absurd (false≢true (sym r.1))
    look_refused (Forbidden Prepared) r = still_free.1 (sym r.0)
    look_refused e r = absurd r

    pub rolled_more : (next : ℕ) → next ≡ newest_of (pending tx (log_of then')) → Rolled base run tx savepoint (count + 1) next after
    rolled_more next is =
        let less = less_pending (log_of h.then) tx u.clr u.undoes.lsn u.undoes.below u.own u.undoes.newest in
        let fewer : length (pending tx (log_of then')) + 1 ≡ length (pending tx (log_of h.then)) = subst (λ l. length (pending tx l) + 1 ≡ length (pending tx (log_of h.then))) (sym clr_is) less in
        let at : savepoint < newest_of (pending tx (log_of h.then)) = (let n = h.newest_is in omega (arith, n, above)) in
        let left = h.left in
        record {
          records = h.records ++ r ∷ [];
          then = then';
          then_is = ap (λ x. appended x r) h.then_is ∙ sym (appended_last run h.records r);
          undos = undos_last run tx savepoint h.records r h.undos (subst (λ x. savepoint < newest_of (pending tx (log_of x))) h.then_is at) (subst (λ x. IsUndo x tx r) h.then_is u);
          kept = k;
          left = omega (arith, fewer, left);
          free = still_free;
          newest_is = is;
        }

-- what is left is not above the savepoint
pub rolled_ends : (base : BasePages) (run : Run) (tx savepoint count newest : ℕ) (state : JournalState) → Rolled base run tx savepoint count newest state → newest ≤ savepoint
    → (rs : List LogRecord) × AreUndos run tx savepoint rs × (newest_of (pending tx (log_of (all_appended run rs))) ≤ savepoint) × Keeps base (all_appended run rs) state
rolled_ends base run tx savepoint count newest state h low = (
  h.records,
  h.undos,
  (let is = h.newest_is ∙ ap (λ x. newest_of (pending tx (log_of x))) h.then_is in omega (arith, is, low)),
  subst (λ x. Keeps base x state) h.then_is h.kept,
)

none_left : (lsns : List ℕ) → length lsns ≡ 0 → newest_of lsns ≡ 0
none_left [] e = refl
none_left (lsn ∷ lsns) e = absurd (omega (arith, e))

-- after as many undos as there are pending updates nothing is left
pub all_rolled : (base : BasePages) (run : Run) (tx savepoint count newest : ℕ) (state : JournalState) → Rolled base run tx savepoint count newest state → length (pending tx (log_of run)) ≤ count → newest ≤ savepoint
all_rolled base run tx savepoint count newest state h few =
    let left = h.left in
    let zero = none_left (pending tx (log_of h.then)) (omega (arith, left, few)) in
    let is = h.newest_is in
    omega (arith, is, zero)

-- ALL of it: an update that is pending has an LSN from 1
none_at_0 : (log : History) (r : LogRecord) → record_at log 0 ≡ Some r → ⊥
none_at_0 (start _) r e = absurd (cc)
none_at_0 (log ▸ x) r e = (let at : record_at (log ▸ x) 0 ≡ record_at log 0 = rw (ne_eqb 0 (suc (last_lsn log)) (λ z. omega (arith, z))) refl in none_at_0 log r (sym at ∙ e))

none_from_0 : (t : ℕ) (log : History) (lsns : List ℕ) → pending t log ≡ lsns → newest_of lsns ≤ 0 → lsns ≡ []
none_from_0 t log [] e low = refl
none_from_0 t log (lsn ∷ below) e low =
    let found = pending_found t log lsn (rw e (or_left (eqb lsn lsn) (is_among lsn below) (eq-eqb lsn lsn refl))) in
    let zero : lsn ≡ 0 = omega (arith, low) in
    absurd (none_at_0 log (Update found.0) (subst (λ n. record_at log n ≡ Some (Update found.0)) zero found.1))

pub none_pending_from : (t : ℕ) (log : History) → newest_of (pending t log) ≤ 0 → pending t log ≡ []
none_pending_from t log low = none_from_0 t log (pending t log) refl low

-- after undos the transaction has a record, has not finished and is not prepared
undone_all : (run : Run) (tx savepoint : ℕ) (rs : List LogRecord) → AreUndos run tx savepoint rs → CanUndo run tx → CanUndo (all_appended run rs) tx
undone_all run tx savepoint [] h free = free
undone_all run tx savepoint (r ∷ rs) h free =
    let at : log_of (appended run r) ≡ log_of run ▸ Compensation h.1.clr = ap (λ x. log_of run ▸ x) h.1.is in
    undone_all (appended run r) tx savepoint rs h.2 (subst (λ l. (finished tx l ≡ false) × (state_at tx l ≢ Prepared)) (sym at) free)

has_all : (run : Run) (tx : ℕ) (rs : List LogRecord) → has (is_of tx) (log_of run) ≡ true → has (is_of tx) (log_of (all_appended run rs)) ≡ true
has_all run tx [] h = h
has_all run tx (r ∷ rs) h = has_all (appended run r) tx rs (or_right (is_of tx r) (has (is_of tx) (log_of run)) h)

-- so its end is not refused
pub end_refused : (run : Run) (tx : ℕ) (rs : List LogRecord) (e : Refusal) → 0 < newest_of (pending tx (log_of run)) → AreUndos run tx 0 rs → CanUndo run tx → newest_of (pending tx (log_of (all_appended run rs))) ≤ 0
    → OwnEndRefused (all_appended run rs) tx e → ⊥
end_refused run tx rs StillPending some undos free none r = r (none_pending_from tx (log_of (all_appended run rs)) none)
end_refused run tx rs UnknownTransaction some undos free none r =
    let was = pending_has tx (log_of run) (pending tx (log_of run)) refl (λ z. (let n = ap newest_of z in omega (arith, n, some))) in
    false≢true (sym r ∙ and_from (has (is_of tx) (log_of (all_appended run rs))) (not (finished tx (log_of (all_appended run rs)))) (has_all run tx rs was) (ap not (undone_all run tx 0 rs undos free).0))
end_refused run tx rs (Forbidden Active) some undos free none r = absurd (false≢true (sym r.1))
end_refused run tx rs (Forbidden Aborting) some undos free none r = absurd (false≢true (sym r.1))
end_refused run tx rs (Forbidden Prepared) some undos free none r = (undone_all run tx 0 rs undos free).1 (sym r.0)
end_refused run tx rs e some undos free none r = absurd r

-- and where nothing was pending, it is refused for its transaction alone
pub end_refused_at_once : (run : Run) (tx : ℕ) (e : Refusal) → newest_of (pending tx (log_of run)) ≤ 0 → OwnEndRefused run tx e → StepRefused NotPrepared run tx e
end_refused_at_once run tx StillPending none r = absurd (r (none_pending_from tx (log_of run) none))
end_refused_at_once run tx UnknownTransaction none r = r
end_refused_at_once run tx (Forbidden state) none r = r
end_refused_at_once run tx e none r = absurd r
