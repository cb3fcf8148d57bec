-- Both tables while a log is read, and after all of it was read.
use Rattle.std.proofs.Common.{ℕ, ◌≡◌, ◌+◌, ◌≤◌, ◌<◌, List, None, map, max, sym, ap, ◌∙◌, inl, inr, arith}
use Rattle.std.specs.List.Sorted.{IsStrictlySortedBy}
use Rattle.std.specs.Map.{keys_of}
use Rattle.std.specs.Ordering.{nat_cmp}
use Rattle.wal.specs.declared.record.Entry.{Entry}
use Rattle.wal.specs.Content.{entry_of}
use Rattle.wal.specs.declared.glance.Glance.{Glance}
use Rattle.wal.specs.Glances.{glance_of}
use Rattle.wal.specs.Spelling.{Fits}
use Rattle.log_laws.specs.Records.{LogRecord, History, ◌▸◌, LogContent, history, last_lsn, base_lsn}
use Rattle.log_laws.specs.Redo.{rec_lsn_of}
use Rattle.log_laws.specs.Undo.{entry_for}
use Rattle.analysis.specs.Tables.{entry_at, redo_lsn_of, IsBase, AreTablesOf}
use Rattle.analysis.specs.Passing.{SeenTables, HasAnalysed, ComesBefore}
use Rattle.analysis.specs.Steps.{entry_after, entry_seen, rec_lsn_after}
use Rattle.analysis.proofs.Scanned.{entry_none, entry_next, entry_glanced, rec_lsn_none, rec_lsn_next}
use Rattle.analysis.proofs.Numbers.{none_noted}
use Rattle.analysis.proofs.Rising.{entries_rise, pages_rise}

-- nothing comes after m in a log that comes before it
none_after : (m : ℕ) (log : History) → ComesBefore m log → last_lsn log ≤ max m (base_lsn log)
none_after m log (inl le) = omega (arith, le)
none_after m log (inr is) = omega (arith, ap last_lsn is)

-- AT FIRST
pub analysed_none : (m : ℕ) (whole log : History) (scan : SeenTables) → IsBase m whole scan.entries scan.pages → ComesBefore m log → HasAnalysed m whole log scan
analysed_none m whole log scan base before =
    let none = none_after m log before in
    record {
      transactions = base.transactions;
      dirty = base.dirty;
      base = base.base;
      entries_are = λ t. base.entries_are t ∙ sym (entry_none t m (entry_for t base.transactions) log none);
      pages_are = λ page. base.pages_are page ∙ sym (rec_lsn_none page m (rec_lsn_of page base.dirty) log none);
    }

-- ONE MORE RECORD
-- up to m it does nothing to the tables
pub analysed_over : (m lsn : ℕ) (whole log : History) (r : LogRecord) (scan : SeenTables) → lsn < m → last_lsn log ≡ lsn → HasAnalysed m whole log scan → HasAnalysed m whole (log ▸ r) scan
analysed_over m lsn whole log r scan front at analysed = record {
  transactions = analysed.transactions;
  dirty = analysed.dirty;
  base = analysed.base;
  entries_are = λ t.
      analysed.entries_are t ∙ entry_none t m (entry_for t analysed.transactions) log (omega (arith, front, at))
      ∙ sym (entry_none t m (entry_for t analysed.transactions) (log ▸ r) (omega (arith, front, at)));
  pages_are = λ page.
      analysed.pages_are page ∙ rec_lsn_none page m (rec_lsn_of page analysed.dirty) log (omega (arith, front, at))
      ∙ sym (rec_lsn_none page m (rec_lsn_of page analysed.dirty) (log ▸ r) (omega (arith, front, at)));
}

-- after m it is noted
module _ (lsn : ℕ) (g : Glance) (old new : SeenTables) (entries : (t : ℕ) → entry_at t new.entries ≡ entry_seen (lsn + 1) g t (entry_at t old.entries)) where
  pub analysed_next : (m : ℕ) (whole log : History) (r : LogRecord) → m ≤ lsn
      → ((r : LogRecord) → g ≡ glance_of r → (page : ℕ) → rec_lsn_of page new.pages ≡ rec_lsn_after (lsn + 1) r page (rec_lsn_of page old.pages))
      → g ≡ glance_of r → last_lsn log ≡ lsn → HasAnalysed m whole log old → HasAnalysed m whole (log ▸ r) new
  analysed_next m whole log r behind pages is at analysed =
      let le : m ≤ last_lsn log = omega (arith, behind, at) in
      let next : last_lsn log + 1 ≡ lsn + 1 = omega (arith, at) in
      record {
        transactions = analysed.transactions;
        dirty = analysed.dirty;
        base = analysed.base;
        entries_are = λ t. entry_next t m (entry_for t analysed.transactions) _ _ log r (lsn + 1) le next (analysed.entries_are t) (entry_glanced (lsn + 1) t r g _ _ is (entries t));
        pages_are = λ page. rec_lsn_next page m (rec_lsn_of page analysed.dirty) _ _ log r (lsn + 1) le next (analysed.pages_are page) (pages r is page);
      }

  pub still_no_0 : (r : LogRecord) → g ≡ glance_of r → Fits r → entry_at 0 old.entries ≡ None → entry_at 0 new.entries ≡ None
  still_no_0 r is fits none = entry_glanced (lsn + 1) 0 r g _ _ is (entries 0) ∙ ap (entry_after (lsn + 1) r 0) none ∙ none_noted (lsn + 1) r fits

-- ALL OF IT: maps with the same entries are the tables
pub analysed_all : (m base redo_lsn : ℕ) (log : LogContent) (scan : SeenTables) (entries : List (ℕ × Entry)) (pages : List (ℕ × ℕ)) → base_lsn (history log) ≡ base
    → ((t : ℕ) → entry_at t entries ≡ entry_at t scan.entries) → pages ≡ scan.pages → redo_lsn ≡ redo_lsn_of (base + 1) pages
    → IsStrictlySortedBy nat_cmp (keys_of entries) → IsStrictlySortedBy nat_cmp (keys_of pages) → HasAnalysed m (history log) (history log) scan
    → AreTablesOf log m (record { transactions = map entry_of entries; dirty = pages; redo_lsn = redo_lsn })
analysed_all m base redo_lsn log scan entries pages at same same_pages begins in_order pages_in_order far =
    record {
      transactions = far.transactions;
      dirty = far.dirty;
      base = far.base;
      entries = λ t. same t ∙ far.entries_are t;
      pages = λ page. ap (rec_lsn_of page) same_pages ∙ far.pages_are page;
      entries_rise = entries_rise entries in_order;
      pages_rise = pages_rise pages pages_in_order;
      redo_lsn = begins ∙ ap (λ n. redo_lsn_of n pages) (omega (arith, at));
    }
