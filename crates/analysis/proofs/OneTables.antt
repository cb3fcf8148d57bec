-- Two tables of one log are the same: their numbers ascend, and each number has the same entry in both.
use Rattle.std.proofs.Common.{◌≡◌, ℕ, List, sym, ap, ap₂, ◌∙◌, suc}
use Rattle.log_laws.specs.Records.{TableEntry, history, base_lsn}
use Rattle.log_laws.specs.Redo.{rec_lsn_of}
use Rattle.log_laws.specs.Undo.{entry_for}
use Rattle.wal.proofs.Entries.{same_table}
use Rattle.analysis.specs.Tables.{analysed_entry, analysed_rec_lsn, redo_lsn_of, OneTables}
use Rattle.analysis.proofs.Truth.{pair_is}
use Rattle.analysis.proofs.Rising.{rise_from_0, same_pages}

pub one_tables : OneTables
one_tables content m a b is other =
    let log = history content in
    let base = pair_is is.transactions other.transactions is.dirty other.dirty (sym is.base ∙ other.base) in
    let transactions : a.transactions ≡ b.transactions =
    same_table 0 a.transactions b.transactions (rise_from_0 a.transactions is.entries_rise) (rise_from_0 b.transactions other.entries_rise)
    (λ t. is.entries t ∙ (ap (λ ts. analysed_entry t m (entry_for t ts) log) base.0 ∙ sym (other.entries t))) in
    let dirty : a.dirty ≡ b.dirty =
    same_pages a.dirty b.dirty is.pages_rise other.pages_rise (λ p. is.pages p ∙ (ap (λ ds. analysed_rec_lsn p m (rec_lsn_of p ds) log) base.1 ∙ sym (other.pages p))) in
    let redo_lsn : a.redo_lsn ≡ b.redo_lsn = is.redo_lsn ∙ ap (redo_lsn_of (suc (base_lsn log))) dirty ∙ sym other.redo_lsn in
    ap₂ (λ (ts : List TableEntry) (ds : List (ℕ × ℕ)). record { transactions = ts; dirty = ds; redo_lsn = a.redo_lsn }) transactions dirty
    ∙ ap (λ n. record { transactions = b.transactions; dirty = b.dirty; redo_lsn = n }) redo_lsn
