-- A transaction that begins.
use Rattle.std.proofs.Common.{◌≡◌, ◌+◌, ℕ, false, cond, List, [], Option, Some, refl, sym, ap, subst, ◌∙◌, inl, inr, arith, eqb, ne_eqb, eqb-true, map}
use Rattle.std.specs.Prelude.{All, reverse}
use Rattle.std.proofs.lemmas.Bool.{cases_Bool, or_parts}
use Rattle.std.proofs.lemmas.List.Elements.{All-nil}
use Rattle.log_laws.specs.declared.state.State.TheVariants.{Active}
use Rattle.wal.specs.declared.record.Entry.{Entry}
use Rattle.log_laws.specs.Records.{History, start, ◌▸◌}
use Rattle.log_laws.specs.Meaning.{is_of, has}
use Rattle.journal.specs.Transactions.{Pending}
use Rattle.journal.specs.Transactions.{Transaction}
use Rattle.journal.specs.Transactions.{IsPending, lsn_in, IsTransaction, AreTransactions}
use Rattle.journal.proofs.Transactions.{transaction_other}

-- a transaction without records is what the log says of it
pub begun : (t : ℕ) (log : History) (x : Transaction) → x.entry ≡ record { state = Active; last = 0; undo_next = 0 } → x.pending ≡ [] → has (is_of t) log ≡ false → IsTransaction log t x
begun t (start base) x entry items h =
    record {
      unfinished = refl;
      state = ap (λ (e : Entry). e.state) entry;
      last = ap (λ (e : Entry). e.last) entry;
      undo_next = ap (λ (e : Entry). e.undo_next) entry;
      stack = sym (ap (λ (ps : List Pending). reverse (map lsn_in ps)) items);
      found = subst (All (IsPending (start base) t)) (sym items) (All-nil (IsPending (start base) t));
    }
begun t (log ▸ r) x entry items h =
    let parts = or_parts (is_of t r) (has (is_of t) log) h in
    transaction_other t log r x parts.0 (begun t log x entry items parts.1)

pub standing_begins : (log : History) (next : ℕ) (kept after : ℕ → Option Transaction) (x : Transaction) → x.entry ≡ record { state = Active; last = 0; undo_next = 0 } → x.pending ≡ []
    → ((t : ℕ) → after t ≡ cond (eqb next t) (Some x) (kept t)) → AreTransactions log next kept → AreTransactions log (next + 1) after
standing_begins log next kept after x entry items follows h =
    record {
      each = λ t y e.
          elim (cases_Bool (eqb next t)) [
            | inl i ↦
                (let same : next ≡ t = eqb-true next t i in
                let f : after t ≡ Some x = follows t ∙ rw i refl in
                let g : x ≡ y = cc in
                subst (λ k. IsTransaction log k y) same (subst (IsTransaction log next) g (begun next log x entry items (h.fresh next (omega arith)).1)))
            | inr i ↦ h.each t y (let f : after t ≡ kept t = follows t ∙ rw i refl in sym f ∙ e)
          ];
      others = λ t e begun_there.
          elim (cases_Bool (eqb next t)) [
            | inl i ↦ absurd (let f : after t ≡ Some x = follows t ∙ rw i refl in cc)
            | inr i ↦ h.others t (let f : after t ≡ kept t = follows t ∙ rw i refl in sym f ∙ e) begun_there
          ];
      fresh = λ t le.
          (let i : eqb next t ≡ false = ne_eqb next t (λ e. omega (arith, e, le)) in
          let old = h.fresh t (omega (arith, le)) in
          (follows t ∙ rw i old.0, old.1));
    }
