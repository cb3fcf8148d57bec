-- What is kept of the transactions while a journal is opened over a log with records.
use Rattle.std.proofs.Common.{◌≡◌, ◌≢◌, ◌≤◌, ◌+◌, ◌-◌, ℕ, suc, true, false, cond, List, [], ◌∷◌, ◌++◌, length, take, map, Option, Some, None, refl, sym, ap, subst, ◌∙◌, inl, inr, arith, eqb, eq-eqb, ne_eqb, eqb-true, max}
use Rattle.std.specs.Prelude.{reverse}
use Rattle.std.proofs.lemmas.Bool.{cases_Bool, both_ways, false≢true, or_left, or_right, false_from_ne_true}
use Rattle.log_laws.specs.declared.state.State.TheVariants.{Active, Prepared, Aborting}
use Rattle.log_laws.specs.Records.{UpdateRecord, CompensationRecord, PlainRecord, LogRecord, Update, Compensation, Commit, Abort, End, Prepare, History, start, ◌▸◌, last_lsn}
use Rattle.log_laws.specs.Meaning.{BasePages, is_of, has, finished, committed, ended, aborted, prepared, pending, state_at}
use Rattle.log_laws.specs.Laws.{Obeys, Compensates}
use Rattle.journal.specs.Transactions.{Pending}
use Rattle.journal.specs.Transactions.{Transaction}
use Rattle.journal.specs.Transactions.{lsn_in, IsTransaction, AreTransactions, Noted, HasUpdated, HasUndone, HasChangedState, next_after}
use Rattle.journal.proofs.Begun.{begun}
use Rattle.journal.proofs.Transactions.{transaction_updates, transaction_undoes, transaction_aborts, transaction_prepares}
use Rattle.journal.proofs.Standing.{standing_same, standing_goes_on, standing_finishes}

pub raised : (log : History) (next n : ℕ) (kept : ℕ → Option Transaction) → next ≤ n → AreTransactions log next kept → AreTransactions log n kept
raised log next n kept le h = record { each = h.each; others = h.others; fresh = λ t l. h.fresh t (omega (arith, le, l)) }

module _ (log : History) (next tx : ℕ) (kept after : ℕ → Option Transaction) (r : LogRecord) (of : (t : ℕ) → is_of t r ≡ eqb tx t) (h : AreTransactions log next kept) where
  abbrev above : ℕ
  above = max next (tx + 1)

  low : (t : ℕ) → above ≤ t → tx ≡ t → ⊥
  low t le e = omega (arith, le, e)

  module _ (R : Transaction → Transaction → Type 0) (n : Noted kept after tx R) (open_still : finished tx log ≡ false) where
    -- what it had, or a new entry, is what the log says
    first_is : IsTransaction log tx n.first
    first_is =
        elim n.was [
          | inl e ↦ h.each tx n.first e
          | inr p ↦ begun tx log n.first p.1.0 p.1.1 (false_from_ne_true (has (is_of tx) log) (λ some. both_ways (finished tx log) open_still (h.others tx p.0 some)))
        ]

    abbrev entered : ℕ → Option Transaction
    entered t = cond (eqb tx t) (Some n.first) (kept t)

    entered_stands : AreTransactions log above entered
    entered_stands =
        record {
          each = λ t z e.
              elim (cases_Bool (eqb tx t)) [
                | inl i ↦
                    (let got : Some n.first ≡ Some z = rw i at e in
                    let same : n.first ≡ z = cc in
                    subst (λ k. IsTransaction log k z) (eqb-true tx t i) (subst (IsTransaction log tx) same first_is))
                | inr i ↦ h.each t z (rw i at e)
              ];
          others = λ t e begun_there.
              elim (cases_Bool (eqb tx t)) [
                | inl i ↦ absurd (let got : Some n.first ≡ None = rw i at e in cc)
                | inr i ↦ h.others t (rw i at e) begun_there
              ];
          fresh = λ t le.
              (let i : eqb tx t ≡ false = ne_eqb tx t (low t le) in
              let old = h.fresh t (omega (arith, le)) in
              (rw i old.0, old.1));
        }

    follows : (t : ℕ) → after t ≡ cond (eqb tx t) (Some n.then) (entered t)
    follows t =
        elim (cases_Bool (eqb tx t)) [
          | inl i ↦ rw i (ap after (sym (eqb-true tx t i)) ∙ n.is)
          | inr i ↦ rw i (n.others t i)
        ]

    pub notes : (IsTransaction log tx n.first → R n.first n.then → IsTransaction (log ▸ r) tx n.then) → AreTransactions (log ▸ r) above after
    notes holds = standing_goes_on log above tx entered after r (Some n.then) of low follows entered_stands n.then refl (holds first_is n.holds)

  pub done : ((t : ℕ) → after t ≡ cond (eqb tx t) None (kept t)) → finished tx (log ▸ r) ≡ true → AreTransactions (log ▸ r) above after
  done gone finishes = standing_finishes log above tx kept after r None of low gone (raised log next above kept (omega arith) h) refl finishes

-- a stack that is not empty has a newest one
last_split : (ps : List Pending) → ps ≢ [] → (p : Pending) × (ps ≡ take (length ps - 1) ps ++ p ∷ [])
last_split [] some = absurd (some refl)
last_split (p ∷ []) some = (p, refl)
last_split (p ∷ q ∷ qs) some =
    let r = last_split (q ∷ qs) (λ e. cc) in
    let e : suc (suc (length qs)) - 1 ≡ suc (suc (length qs) - 1) = omega arith in
    (r.0, ap (λ (xs : List Pending). p ∷ xs) r.1 ∙ ap (λ n. take n (p ∷ q ∷ qs) ++ r.0 ∷ []) (sym e))

-- WHAT THE LAWS SAY of the log at the opening
not_active : (t : ℕ) (log : History) → aborted t log ≡ false → prepared t log ≡ false → state_at t log ≡ Active
not_active t log a p = rw (a, p) refl

module _ (base : BasePages) (log : History) (lsn next : ℕ) (kept after : ℕ → Option Transaction) (at : last_lsn log + 1 ≡ lsn) (h : AreTransactions log next kept) where
  pub logged_update : (u : UpdateRecord) → Obeys base log (Update u) → Noted kept after u.tx (HasUpdated (record { lsn = lsn; prev = u.prev; page = u.page; slot = u.slot; before = u.before })) → AreTransactions (log ▸ Update u) (next_after next (Update u)) after
  logged_update u o n =
      let active : state_at u.tx log ≡ Active = not_active u.tx log o.finish.1 o.finish.2 in
      notes log next u.tx kept after (Update u) (λ t. refl) h _ n o.finish.0
      (λ is e. transaction_updates log lsn at n.first n.then u (is.state ∙ active) (e.0 ∙ ap (λ s. record { state = s; last = lsn; undo_next = lsn }) (is.state ∙ active)) e.1 is)

  pub logged_undo : (c : CompensationRecord) → Obeys base log (Compensation c) → Noted kept after c.tx (HasUndone lsn c.undo_next) → AreTransactions (log ▸ Compensation c) (next_after next (Compensation c)) after
  logged_undo c o n =
      notes log next c.tx kept after (Compensation c) (λ t. refl) h (HasUndone lsn c.undo_next) n o.finish.0
      (λ is e.
      let k : Compensates log c = o.compensation in
      let some : n.first.pending ≢ [] =
      λ none. (let empty : pending c.tx log ≡ [] = is.stack ∙ ap (λ (ps : List Pending). reverse (map lsn_in ps)) none in let full : pending c.tx log ≡ k.lsn ∷ k.below = k.newest in cc) in
      let parts = last_split n.first.pending some in
      transaction_undoes log lsn at n.first n.then c parts.0 e.0 (parts.1 ∙ ap (λ (ps : List Pending). ps ++ parts.0 ∷ []) (sym e.1)) is)

  pub logged_abort : (s : PlainRecord) → Obeys base log (Abort s) → Noted kept after s.tx (HasChangedState Aborting lsn) → AreTransactions (log ▸ Abort s) (next_after next (Abort s)) after
  logged_abort s o n =
      notes log next s.tx kept after (Abort s) (λ t. refl) h (HasChangedState Aborting lsn) n o.finish.0 (λ is e. transaction_aborts log lsn at n.first n.then s e.0 e.1 is)

  pub logged_prepare : (s : PlainRecord) → Obeys base log (Prepare s) → Noted kept after s.tx (HasChangedState Prepared lsn) → AreTransactions (log ▸ Prepare s) (next_after next (Prepare s)) after
  logged_prepare s o n =
      let active : state_at s.tx log ≡ Active = not_active s.tx log o.finish.1 o.finish.2 in
      notes log next s.tx kept after (Prepare s) (λ t. refl) h (HasChangedState Prepared lsn) n o.finish.0 (λ is e. transaction_prepares log lsn at n.first n.then s (is.state ∙ active) e.0 e.1 is)

  pub logged_commit : (s : PlainRecord) → ((t : ℕ) → after t ≡ cond (eqb s.tx t) None (kept t)) → AreTransactions (log ▸ Commit s) (next_after next (Commit s)) after
  logged_commit s gone =
      done log next s.tx kept after (Commit s) (λ t. refl) h gone
      (or_left (committed s.tx (log ▸ Commit s)) (ended s.tx (log ▸ Commit s)) (or_left (eqb s.tx s.tx) (committed s.tx log) (eq-eqb s.tx s.tx refl)))

  pub logged_end : (s : PlainRecord) → ((t : ℕ) → after t ≡ cond (eqb s.tx t) None (kept t)) → AreTransactions (log ▸ End s) (next_after next (End s)) after
  logged_end s gone =
      done log next s.tx kept after (End s) (λ t. refl) h gone
      (or_right (committed s.tx (log ▸ End s)) (ended s.tx (log ▸ End s)) (or_left (eqb s.tx s.tx) (ended s.tx log) (eq-eqb s.tx s.tx refl)))

  pub logged_checkpoint : (r : LogRecord) → ((t : ℕ) → is_of t r ≡ false) → AreTransactions (log ▸ r) (next_after next r) kept
  logged_checkpoint r none = raised (log ▸ r) next (next_after next r) kept (omega arith) (standing_same log next kept r none h)

-- before the first record no transaction is kept
pub none_stands : (base : ℕ) (kept : ℕ → Option Transaction) → ((t : ℕ) → kept t ≡ None) → AreTransactions (start base) 1 kept
none_stands base kept nothing =
    record {
      each = λ t x e. absurd (let none : kept t ≡ None = nothing t in cc);
      others = λ t e some. absurd (false≢true some);
      fresh = λ t le. (nothing t, refl);
    }
