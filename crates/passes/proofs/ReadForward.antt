-- A log that is read forward, piece after piece.
use Rattle.std.proofs.Common.{◌≡◌, ℕ, ◌<◌, ◌≤◌, List, [], ◌++◌, length, None, get_or, sym, ap, ap₂, ◌∙◌, inl, inr, ◌⊎◌, arith, length-append}
use Rattle.std.proofs.lemmas.Bool.{cases_lt}
use Rattle.std.proofs.lemmas.List.{append-nil, nil_from_length}
use Rattle.log_laws.specs.Records.{LogRecord, lsn_before, LogContent, start, ◌▸▸◌, history, last_lsn, base_lsn, record_at, ◌⧺◌}
use Rattle.wal.specs.Reads.{Reads}
use Rattle.log_laws.proofs.Histories.{after-append, base_of_log, record_none, size_of_log}
use Rattle.pieces.specs.declared.mark.Mark.{Mark}
use Rattle.pieces.specs.Pieces.{IsMark}
use Rattle.pieces.proofs.Beginnings.{records_begin, same_start}
use Rattle.analysis.specs.Passing.{ComesBefore}
use Rattle.passes.specs.Marks.{AreMarks}
use Rattle.passes.specs.Next.{IsBefore}

-- the log before a mark and the records of the piece after it
pub with_piece : (before piece : LogContent) → history before ▸▸ piece.records ≡ history (before ⧺ piece.records)
with_piece before piece = sym (after-append (start (lsn_before before.begins)) before.records piece.records)

pub ends_with_piece : (before piece : LogContent) → last_lsn (history before) ≡ base_lsn (history piece) → last_lsn (history (before ⧺ piece.records)) ≡ last_lsn (history piece)
ends_with_piece before piece at =
    omega (arith, at, base_of_log piece, size_of_log before, size_of_log piece, size_of_log (before ⧺ piece.records), length-append before.records piece.records)

-- the piece begins where the log before its mark ends
pub goes_on_at : (text : List ℕ) (before piece : LogContent) (mark : Mark) → IsMark text before mark → base_lsn (history piece) ≡ mark.lsn → last_lsn (history before) ≡ base_lsn (history piece)
goes_on_at text before piece mark is base = sym (base ∙ is.lsn)

-- a mark before the log's last record
pub is_before : (text : List ℕ) (whole before : LogContent) (torn end : ℕ) (mark : Mark) → Reads text whole torn → end ≡ last_lsn (history whole) → IsMark text before mark → mark.lsn < end → IsBefore text whole before mark end
is_before text whole before torn end mark reads at is lt = record { torn = torn; reads = reads; is_end = at; is_mark = is; is_before = lt }

-- at the log's last LSN the whole log is before the mark
pub is_whole : (text : List ℕ) (whole before : LogContent) (torn : ℕ) (mark : Mark) → Reads text whole torn → IsMark text before mark → last_lsn (history whole) ≤ mark.lsn → before ≡ whole
is_whole text whole before torn mark reads is end =
    let more = records_begin text whole torn reads before mark.offset is.reads in
    let starts = same_start text whole torn reads before mark.offset is.reads in
    let none : more.0 ≡ [] =
    nil_from_length more.0
    (omega (arith, end, is.lsn, size_of_log whole, size_of_log before, ap lsn_before starts, ap length more.1, length-append before.records more.0)) in
    ap₂ (λ b (rs : List LogRecord). record { begins = b; records = rs }) (sym starts) (sym (more.1 ∙ ap (λ (rs : List LogRecord). before.records ++ rs) none ∙ append-nil before.records))

-- a mark of a log is between its base LSN and its last
pub mark_within : (text : List ℕ) (whole before : LogContent) (torn : ℕ) (mark : Mark) → Reads text whole torn → IsMark text before mark → (base_lsn (history whole) ≤ mark.lsn) × (mark.lsn ≤ last_lsn (history whole))
mark_within text whole before torn mark reads is =
    let more = records_begin text whole torn reads before mark.offset is.reads in
    let starts = same_start text whole torn reads before mark.offset is.reads in (
      omega (arith, is.lsn, size_of_log before, base_of_log whole, ap lsn_before starts),
      omega (arith, is.lsn, size_of_log before, size_of_log whole, ap lsn_before starts, ap length more.1, length-append before.records more.0),
    )

-- after a mark the rest of the log comes
pub rest_of : (text : List ℕ) (whole before : LogContent) (torn : ℕ) (mark : Mark) → Reads text whole torn → IsMark text before mark → (more : List LogRecord) × (before ⧺ more ≡ whole)
rest_of text whole before torn mark reads is =
    let more = records_begin text whole torn reads before mark.offset is.reads in
    let starts = same_start text whole torn reads before mark.offset is.reads in
    (more.0, ap₂ (λ b (rs : List LogRecord). record { begins = b; records = rs }) (sym starts) (sym more.1))

-- THE CHECKPOINT comes after the mark that is looked for
module _ (text : List ℕ) (whole before : LogContent) (torn place master : ℕ) (mark : Mark) (marks : List Mark) (reads : Reads text whole torn) (are : AreMarks text whole marks) (is : IsMark text before mark)
    (at : (d : Mark) → mark ≡ get_or marks place d) (low : (d : Mark) → (place ≡ 0) ⊎ ((get_or marks place d).lsn < master)) where
  -- the first mark has no record before it
  none_before : place ≡ 0 → base_lsn (history before) ≡ last_lsn (history before)
  none_before first =
      let starts = same_start text whole torn reads before mark.offset is.reads in
      omega (
        arith,
        base_of_log before,
        ap lsn_before starts,
        base_of_log whole,
        are.first mark,
        ap (λ n. (get_or marks n mark).lsn) first,
        ap (λ (m : Mark). m.lsn) (at mark),
        is.lsn,
      )

  pub none_at : record_at (history before) master ≡ None
  none_at =
      elim (low mark) [
        | inl first ↦
            elim (cases_lt (base_lsn (history before)) master) [
              | inl above ↦ record_none (history before) master (inr (omega (arith, above, none_before first)))
              | inr below ↦ record_none (history before) master (inl below)
            ]
        | inr less ↦ record_none (history before) master (inr (omega (arith, less, ap (λ (m : Mark). m.lsn) (at mark), is.lsn)))
      ]

  pub comes_before : ComesBefore master (history before)
  comes_before =
      elim (low mark) [
        | inl first ↦
            (let none : before.records ≡ [] = nil_from_length before.records (omega (arith, none_before first, base_of_log before, size_of_log before)) in
            inr (ap (λ (rs : List LogRecord). start (lsn_before before.begins) ▸▸ rs) none ∙ ap start (sym (base_of_log before))))
        | inr less ↦ inl (omega (arith, less, ap (λ (m : Mark). m.lsn) (at mark), is.lsn))
      ]
