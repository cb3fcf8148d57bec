-- More records, looked at with what was found in those before them.
use Rattle.std.proofs.Common.{ℕ, suc, ◌≡◌, ltb, List, [], ◌∷◌, Option, refl, sym, ap, ap₂, ◌∙◌, arith, inl, inr}
use Rattle.std.proofs.lemmas.Bool.{cases_Bool, ltb-true, ltb-false}
use Rattle.log_laws.specs.Records.{TableEntry, LogRecord, History, start, ◌▸◌, ◌▸▸◌, LogContent, history, last_lsn, base_lsn}
use Rattle.log_laws.proofs.Histories.{base_of_log}
use Rattle.analysis.specs.Tables.{analysed_entry, analysed_rec_lsn}
use Rattle.analysis.specs.Steps.{entry_after, rec_lsn_after}
use Rattle.analysis.specs.Passing.{EntriesGoOn, RecLsnsGoOn}
use Rattle.analysis.proofs.Scanned.{entry_none, entry_more, rec_lsn_none, rec_lsn_more, or_else-none}

-- if two logs end at the same LSN and have the same entry for a transaction, they have the same entry after one more record
entry_step : (t m : ℕ) (base other : Option TableEntry) (a b : History) (r : LogRecord) → last_lsn a ≡ last_lsn b
    → analysed_entry t m base a ≡ analysed_entry t m other b → analysed_entry t m base (a ▸ r) ≡ analysed_entry t m other (b ▸ r)
entry_step t m base other a b r at same =
    elim (cases_Bool (ltb (last_lsn a) m)) [
      | inl i ↦
          (let lt = ltb-true (last_lsn a) m i in
          let begun : base ≡ other = sym (entry_none t m base a (omega (arith, lt))) ∙ same ∙ entry_none t m other b (omega (arith, lt, at)) in
          entry_none t m base (a ▸ r) (omega (arith, lt)) ∙ begun ∙ sym (entry_none t m other (b ▸ r) (omega (arith, lt, at))))
      | inr i ↦
          (let le = ltb-false (last_lsn a) m i in
          entry_more t m base a r le ∙ ap₂ (λ n o. entry_after (suc n) r t o) at same ∙ sym (entry_more t m other b r (omega (arith, le, at))))
    ]

entries_after : (t m : ℕ) (base other : Option TableEntry) (a b : History) (records : List LogRecord) → last_lsn a ≡ last_lsn b
    → analysed_entry t m base a ≡ analysed_entry t m other b → analysed_entry t m base (a ▸▸ records) ≡ analysed_entry t m other (b ▸▸ records)
entries_after t m base other a b [] at same = same
entries_after t m base other a b (r ∷ records) at same = entries_after t m base other (a ▸ r) (b ▸ r) records (ap suc at) (entry_step t m base other a b r at same)

pub entries_go_on : EntriesGoOn
entries_go_on t m base log records = entries_after t m base (analysed_entry t m base log) log (start (last_lsn log)) records refl refl

-- the same for a piece that continues a log
pub entry_on : (t m : ℕ) (base old new : Option TableEntry) (log : History) (piece : LogContent) → last_lsn log ≡ base_lsn (history piece)
    → old ≡ analysed_entry t m base log → new ≡ analysed_entry t m old (history piece) → new ≡ analysed_entry t m base (log ▸▸ piece.records)
entry_on t m base old new log piece at before after =
    after ∙ ap (λ o. analysed_entry t m o (history piece)) before
    ∙ ap (λ n. analysed_entry t m (analysed_entry t m base log) (start n ▸▸ piece.records)) (sym (at ∙ base_of_log piece))
    ∙ sym (entries_go_on t m base log piece.records)

-- the same of a page
rec_lsn_step : (page m : ℕ) (base other : Option ℕ) (a b : History) (r : LogRecord) → last_lsn a ≡ last_lsn b
    → analysed_rec_lsn page m base a ≡ analysed_rec_lsn page m other b → analysed_rec_lsn page m base (a ▸ r) ≡ analysed_rec_lsn page m other (b ▸ r)
rec_lsn_step page m base other a b r at same =
    elim (cases_Bool (ltb (last_lsn a) m)) [
      | inl i ↦
          (let lt = ltb-true (last_lsn a) m i in
          let begun : base ≡ other = sym (rec_lsn_none page m base a (omega (arith, lt))) ∙ same ∙ rec_lsn_none page m other b (omega (arith, lt, at)) in
          rec_lsn_none page m base (a ▸ r) (omega (arith, lt)) ∙ begun ∙ sym (rec_lsn_none page m other (b ▸ r) (omega (arith, lt, at))))
      | inr i ↦
          (let le = ltb-false (last_lsn a) m i in
          rec_lsn_more page m base a r le ∙ ap₂ (λ n o. rec_lsn_after (suc n) r page o) at same ∙ sym (rec_lsn_more page m other b r (omega (arith, le, at))))
    ]

rec_lsns_after : (page m : ℕ) (base other : Option ℕ) (a b : History) (records : List LogRecord) → last_lsn a ≡ last_lsn b
    → analysed_rec_lsn page m base a ≡ analysed_rec_lsn page m other b → analysed_rec_lsn page m base (a ▸▸ records) ≡ analysed_rec_lsn page m other (b ▸▸ records)
rec_lsns_after page m base other a b [] at same = same
rec_lsns_after page m base other a b (r ∷ records) at same = rec_lsns_after page m base other (a ▸ r) (b ▸ r) records (ap suc at) (rec_lsn_step page m base other a b r at same)

pub rec_lsns_go_on : RecLsnsGoOn
rec_lsns_go_on page m base log records =
    rec_lsns_after page m base (analysed_rec_lsn page m base log) log (start (last_lsn log)) records refl (sym (or_else-none (analysed_rec_lsn page m base log)))

pub rec_lsn_on : (page m : ℕ) (base old new : Option ℕ) (log : History) (piece : LogContent) → last_lsn log ≡ base_lsn (history piece)
    → old ≡ analysed_rec_lsn page m base log → new ≡ analysed_rec_lsn page m old (history piece) → new ≡ analysed_rec_lsn page m base (log ▸▸ piece.records)
rec_lsn_on page m base old new log piece at before after =
    after ∙ ap (λ o. analysed_rec_lsn page m o (history piece)) before
    ∙ ap (λ n. analysed_rec_lsn page m (analysed_rec_lsn page m base log) (start n ▸▸ piece.records)) (sym (at ∙ base_of_log piece))
    ∙ sym (rec_lsns_go_on page m base log piece.records)
