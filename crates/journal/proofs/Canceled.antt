-- A transaction that has no record leaves.
use Rattle.std.proofs.Common.{◌≡◌, ◌≢◌, ◌<◌, ◌-◌, ℕ, true, false, cond, List, length, get_or, take, Option, None, refl, sym, ap, subst, ◌∙◌, inl, inr, arith, eqb, eq-eqb, ne_eqb, eqb-true}
use Rattle.std.specs.List.{remove}
use Rattle.std.proofs.lemmas.Bool.{cases_Bool, both_ways}
use Rattle.log_laws.specs.Records.{History}
use Rattle.log_laws.specs.Meaning.{BasePages, is_of, has, last_of}
use Rattle.log_laws.proofs.Histories.{has_none, has_some}
use Rattle.journal.specs.declared.entries.Head.{Head}
use Rattle.journal.specs.declared.entries.TransactionEntry.{TransactionEntry}
use Rattle.journal.specs.declared.entries.PendingEntry.{PendingEntry}
use Rattle.journal.specs.declared.entries.PageEntry.{PageEntry}
use Rattle.journal.specs.Runs.{Run, log_of}
use Rattle.journal.specs.Transactions.{Transaction, AreTransactions}
use Rattle.journal.specs.Arrays.{kept_of, AreUsed, owed}
use Rattle.journal.specs.State.{IsJournal}
use Rattle.journal.proofs.Owed.{owed_remove}
use Rattle.journal.proofs.Used.{gone_used, gone_kept}
use Rattle.journal.proofs.Journals.{no_entry, kept_is}

-- of who is kept there is what the log says, without one who has no record
leaves : (log : History) (next tx : ℕ) (kept after : ℕ → Option Transaction) → ((t : ℕ) → after t ≡ cond (eqb tx t) None (kept t)) → has (is_of tx) log ≡ false → AreTransactions log next kept → AreTransactions log next after
leaves log next tx kept after follows none h =
    record {
      each = λ t x e.
          elim (cases_Bool (eqb tx t)) [
            | inl i ↦ absurd (let f : after t ≡ None = follows t ∙ rw i refl in cc)
            | inr i ↦ h.each t x (let f : after t ≡ kept t = follows t ∙ rw i refl in sym f ∙ e)
          ];
      others = λ t e begun.
          elim (cases_Bool (eqb tx t)) [
            | inl i ↦ absurd (both_ways (has (is_of tx) log) none (ap (λ k. has (is_of k) log) (eqb-true tx t i) ∙ begun))
            | inr i ↦ h.others t (let f : after t ≡ kept t = follows t ∙ rw i refl in sym f ∙ e) begun
          ];
      fresh = λ t le.
          elim (cases_Bool (eqb tx t)) [
            | inl i ↦ (follows t ∙ rw i refl, (h.fresh t le).1)
            | inr i ↦ (follows t ∙ rw i (h.fresh t le).0, (h.fresh t le).1)
          ];
    }

module _ (base : BasePages) (run : Run) (head : Head) (ts : List TransactionEntry) (pages : List PageEntry) (ps : List PendingEntry) (h : IsJournal base run head ts pages ps) (tx place : ℕ)
    (within : place < length (take head.transactions ts)) (found : (get_or (take head.transactions ts) place no_entry).tx ≡ tx) where
  abbrev es : List TransactionEntry
  es = take head.transactions ts

  abbrev xs : List PendingEntry
  xs = take head.pending ps

  its_last : (get_or es place no_entry).last ≡ last_of tx (log_of run)
  its_last = (h.holds.transactions.each tx _ (kept_is base run head ts pages ps h tx place within found)).last

  pub has_records : (get_or es place no_entry).last ≢ 0 → has (is_of tx) (log_of run) ≡ true
  has_records some = has_some tx (log_of run) (λ z. some (its_last ∙ z))

  pub no_records : (get_or es place no_entry).last ≡ 0 → has (is_of tx) (log_of run) ≡ false
  no_records none = has_none tx (log_of run) (sym its_last ∙ none)

  module _ (now : List TransactionEntry) (count : ℕ) (less : count ≡ head.transactions - 1) (at : take count now ≡ remove es place) where
    follows : (t : ℕ) → kept_of (take count now) xs t ≡ cond (eqb tx t) None (kept_of es xs t)
    follows t = ap (λ z. kept_of z xs t) at ∙ gone_kept head.next es xs h.arrays.used place no_entry within tx found t

    pub left_out : kept_of (take count now) xs tx ≡ None
    left_out = (let own : eqb tx tx ≡ true = eq-eqb tx tx refl in follows tx ∙ rw own refl)

    pub others_kept : (t : ℕ) → t ≢ tx → kept_of (take count now) xs t ≡ kept_of es xs t
    others_kept t other = (let off : eqb tx t ≡ false = ne_eqb tx t (λ z. other (sym z)) in follows t ∙ rw off refl)

    pub canceled : (get_or es place no_entry).last ≡ 0 → length now ≡ length ts → IsJournal base run (record { last = head.last; written = head.written; transactions = count; pending = head.pending; next = head.next }) now pages ps
    canceled none room =
        record {
          holds = record {
            runs = h.holds.runs;
            last_is = h.holds.last_is;
            transactions = leaves (log_of run) head.next tx (kept_of es xs) (kept_of (take count now) xs) follows (no_records none) h.holds.transactions;
            pages_are = h.holds.pages_are;
          };
          arrays = record {
            room = omega (arith, less, room, h.arrays.room);
            few = omega (arith, less, h.arrays.few);
            pending_room = h.arrays.pending_room;
            some = h.arrays.some;
            used = subst (λ z. AreUsed head.next z xs) (sym at) (gone_used head.next es xs h.arrays.used place no_entry within tx found);
          };
          reserve = (let a = ap (λ z. owed z xs) at in let r = owed_remove es place no_entry xs within in omega (arith, a, r, h.reserve));
        }
