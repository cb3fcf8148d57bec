-- What a journal appends obeys the laws, because of what it keeps of the transactions.
use Rattle.std.proofs.Common.{◌≡◌, ◌≢◌, ◌&&◌, ℕ, true, [], Option, Some, None, refl, sym, ap, ◌∙◌, inl, inr}
use Rattle.std.proofs.lemmas.Bool.{or_parts, or_cases, or_left, or_right, and_parts, both_ways}
use Rattle.page.specs.Image.{Image}
use Rattle.log_laws.specs.declared.state.State.TheVariants.{Active, Prepared, Aborting}
use Rattle.log_laws.specs.Records.{UpdateRecord, CompensationRecord, PlainRecord, Update, Compensation, Commit, Abort, End, Prepare, History, start, ◌▸◌}
use Rattle.log_laws.specs.Meaning.{BasePages, is_of, has, touches, writes, finished, committed, ended, in_doubt, replay, last_of, last_writer}
use Rattle.log_laws.specs.Laws.{IsLawful, Obeys, Compensates, Strictness}
use Rattle.log_laws.proofs.Holders.{held, strict_from_holder, holder_wrote}
use Rattle.journal.specs.Transactions.{Transaction}
use Rattle.journal.specs.Transactions.{IsTransaction, AreTransactions, IsFreeFor}
use Rattle.journal.proofs.Transactions.{active_flags, unprepared_flags, unaborted_flags, none_pending}

-- a transaction that touches a cell has a record
pub touches_has : (t page slot : ℕ) (log : History) → touches t page slot log ≡ true → has (is_of t) log ≡ true
touches_has t page slot (start _) w = w
touches_has t page slot (log ▸ r) w =
    elim (or_cases (is_of t r && writes page slot r) (touches t page slot log) w) [
      | inl i ↦ or_left (is_of t r) (has (is_of t) log) (and_parts (is_of t r) (writes page slot r) i).0
      | inr i ↦ or_right (is_of t r) (has (is_of t) log) (touches_has t page slot log i)
    ]

module _ (base : BasePages) (log : History) (lawful : IsLawful base log) (next : ℕ) (kept : ℕ → Option Transaction) (h : AreTransactions log next kept) (tx : ℕ) where
  -- if the last writer of a cell is this transaction, or has finished, no other one holds the cell
  pub free_strict : (u : UpdateRecord) → u.tx ≡ tx → (o : Option ℕ) → last_writer u.page u.slot log ≡ o → IsFreeFor kept o tx → Strictness log (Update u)
  free_strict u e None is f = strict_from_holder base log lawful u (λ t held_by. let p : last_writer u.page u.slot log ≡ Some t = holder_wrote u.page u.slot t log held_by in absurd (cc))
  free_strict u e (Some w) is f =
      strict_from_holder base log lawful u
      (λ t held_by.
      let p : last_writer u.page u.slot log ≡ Some t = holder_wrote u.page u.slot t log held_by in
      let same : w ≡ t = cc in
      let holds = held base log lawful u.page u.slot t held_by in
      elim f [
        | inl i ↦ sym same ∙ i ∙ sym e
        | inr i ↦ absurd (both_ways (finished t log) holds.0 (h.others t (ap kept (sym same) ∙ i) (touches_has t u.page u.slot log holds.1)))
      ])

module _ (base : BasePages) (log : History) (lawful : IsLawful base log) (next : ℕ) (kept : ℕ → Option Transaction) (h : AreTransactions log next kept) (tx : ℕ) (x : Transaction) (was : kept tx ≡ Some x) where
  own : IsTransaction log tx x
  own = h.each tx x was

  pub update_obeys : (page slot : ℕ) (after : Image) → x.entry.state ≡ Active → IsFreeFor kept (last_writer page slot log) tx
      → Obeys base log (Update (record { tx = tx; prev = last_of tx log; page = page; slot = slot; before = replay base log page slot; after = after }))
  update_obeys page slot after active free =
      let flags = active_flags tx log (sym own.state ∙ active) in
      let u : UpdateRecord = record { tx = tx; prev = last_of tx log; page = page; slot = slot; before = replay base log page slot; after = after } in
      record {
        chain = refl;
        finish = (own.unfinished, flags.0, flags.1);
        compensation = tt;
        before = refl;
        strict = free_strict base log lawful next kept h tx u refl (last_writer page slot log) refl free;
      }

  pub clr_obeys : (c : CompensationRecord) → c.tx ≡ tx → c.prev ≡ last_of tx log → Compensates log c → x.entry.state ≢ Prepared → Obeys base log (Compensation c)
  clr_obeys c e prev undoes free =
      record {
        chain = prev ∙ ap (λ t. last_of t log) (sym e);
        finish = (ap (λ t. finished t log) e ∙ own.unfinished, ap (λ t. in_doubt t log) e ∙ unprepared_flags tx log (λ p. free (own.state ∙ p)));
        compensation = undoes;
        before = tt;
        strict = tt;
      }

  abbrev plain : PlainRecord
  plain = record { tx = tx; prev = last_of tx log }

  pub commit_obeys : x.entry.state ≢ Aborting → Obeys base log (Commit plain)
  commit_obeys free = record { chain = refl; finish = (own.unfinished, unaborted_flags tx log (λ p. free (own.state ∙ p))); compensation = tt; before = tt; strict = tt }

  pub abort_obeys : x.entry.state ≢ Aborting → Obeys base log (Abort plain)
  abort_obeys free = record { chain = refl; finish = (own.unfinished, unaborted_flags tx log (λ p. free (own.state ∙ p))); compensation = tt; before = tt; strict = tt }

  pub prepare_obeys : x.entry.state ≡ Active → Obeys base log (Prepare plain)
  prepare_obeys active =
      let flags = active_flags tx log (sym own.state ∙ active) in
      record { chain = refl; finish = (own.unfinished, flags.0, flags.1); compensation = tt; before = tt; strict = tt }

  pub end_obeys : x.entry.state ≢ Prepared → x.pending ≡ [] → Obeys base log (End plain)
  end_obeys free none =
      record {
        chain = refl;
        finish = ((or_parts (committed tx log) (ended tx log) own.unfinished).1, unprepared_flags tx log (λ p. free (own.state ∙ p)));
        compensation = λ _. none_pending log tx x none own;
        before = tt;
        strict = tt;
      }
