-- What comes after a mark: no record, or one that fits in the room.
use Rattle.std.proofs.Common.{◌≡◌, ℕ, ◌+◌, ◌-◌, ◌<◌, ◌≤◌, List, [], length, take, drop, refl, sym, ap, ◌∙◌, subst, inl, inr, arith, length-append, length-take, length-drop}
use Rattle.std.proofs.lemmas.List.{append-nil, nil_from_length}
use Rattle.page.specs.declared.fault.Fault.{Fault}
use Rattle.page.specs.declared.fault.Fault.TheVariants.{NoResource}
use Rattle.log_laws.specs.Records.{LogRecord, lsn_before, LogContent, history, last_lsn, ◌⧺◌}
use Rattle.wal.specs.Headers.{header_of}
use Rattle.log_laws.specs.declared.start.LogStart.TheVariants.{Version2}
use Rattle.wal.specs.Reads.{Reads, IsTorn, log_text}
use Rattle.wal.specs.declared.sizes.TheConstants.{LONGEST_FRAME, BASED_HEADER_BYTES}
use Rattle.wal.proofs.Headers.{header_length}
use Rattle.log_laws.proofs.Histories.{size_of_log}
use Rattle.pieces.specs.declared.mark.Mark.{Mark}
use Rattle.pieces.specs.Pieces.{IsMark, piece_text, ContinuesLog}
use Rattle.wal.proofs.Whole.{one_reading}
use Rattle.wal.proofs.Causes.{no_fault_of_a_log}
use Rattle.passes.specs.declared.fault.PassFault.{PassFault}
use Rattle.passes.specs.declared.fault.PassFault.TheVariants as fault
use Rattle.passes.specs.Marks.{LogCause, IsResource}
use Rattle.passes.specs.Next.{IsBefore}
use Rattle.passes.specs.Tables.{TablesCause}
use Rattle.passes.proofs.Reached.{in_front}

-- a piece whose last LSN is that of its mark has no record
none_in : (text : List ℕ) (before : LogContent) (mark : Mark) (count torn : ℕ) (piece : LogContent) → ContinuesLog text before mark count piece torn → last_lsn (history piece) ≡ mark.lsn → before ⧺ piece.records ≡ before
none_in text before mark count torn piece goes same =
    let none : piece.records ≡ [] = nil_from_length piece.records (omega (arith, same, size_of_log piece, ap lsn_before goes.begins)) in
    ap (λ (rs : List LogRecord). before ⧺ rs) none ∙ ap (λ (rs : List LogRecord). record { begins = before.begins; records = rs }) (append-nil before.records)

-- if it was read to the end of the bytes, the log ends at its mark
pub no_more : (text : List ℕ) (before : LogContent) (mark : Mark) (count torn : ℕ) (piece : LogContent) → ContinuesLog text before mark count piece torn → last_lsn (history piece) ≡ mark.lsn → length text ≤ mark.offset + count
    → Reads text before torn
no_more text before mark count torn piece goes same all = subst (λ b. Reads text b torn) (none_in text before mark count torn piece goes same) (goes.end all)

-- a torn tail is shorter than the longest frame
torn_short : (tail : List ℕ) → IsTorn tail → length tail < LONGEST_FRAME
torn_short tail (inl few) = omega (arith, few)
torn_short tail (inr (some, low, high, short)) = omega (arith, high, short)

-- as many bytes were read as there are
read_within : (text room : List ℕ) (mark : Mark) (all : ℕ) → BASED_HEADER_BYTES ≤ all → all ≤ length room → mark.offset ≤ length text → take all room ≡ piece_text text mark (all - BASED_HEADER_BYTES) → mark.offset + (all - BASED_HEADER_BYTES) ≤ length text
read_within text room mark all some within low is =
    omega (
      arith,
      some,
      within,
      low,
      ap (λ (t : List ℕ). length t) is,
      length-take all room,
      length-append (header_of (Version2 mark.lsn)) (take (all - BASED_HEADER_BYTES) (drop mark.offset text)),
      header_length (Version2 mark.lsn),
      length-take (all - BASED_HEADER_BYTES) (drop mark.offset text),
      length-drop mark.offset text,
    )

-- so a piece that is that long has a record
pub some_record : (text : List ℕ) (before : LogContent) (mark : Mark) (count torn : ℕ) (piece : LogContent) → LONGEST_FRAME ≤ count → mark.offset + count ≤ length text → IsMark text before mark
    → ContinuesLog (take (mark.offset + count) text) before mark count piece torn → last_lsn (history piece) ≡ mark.lsn → ⊥
some_record text before mark count torn piece long within is goes same =
    let front = take (mark.offset + count) text in
    let size : length front ≡ mark.offset + count = omega (arith, length-take (mark.offset + count) text, within) in
    let reads : Reads front before torn = no_more front before mark count torn piece goes same (omega (arith, size)) in
    let own = (in_front text before mark (mark.offset + count) (omega arith) is).reads in
    omega (
      arith,
      size,
      long,
      torn_short reads.tail reads.torn_tail,
      ap (λ (t : List ℕ). length t) reads.text,
      length-append (log_text before) reads.tail,
      ap (λ (t : List ℕ). length t) own.text,
      length-append (log_text before) own.tail,
      own.torn_count,
      length-take mark.offset front,
    )

pub room_takes : (text room : List ℕ) (before : LogContent) (mark : Mark) (all torn : ℕ) (piece : LogContent) → BASED_HEADER_BYTES + LONGEST_FRAME ≤ all → all ≤ length room → IsMark text before mark → take all room ≡ piece_text text mark (all - BASED_HEADER_BYTES)
    → ContinuesLog (take (mark.offset + (all - BASED_HEADER_BYTES)) text) before mark (all - BASED_HEADER_BYTES) piece torn → last_lsn (history piece) ≡ mark.lsn → ⊥
room_takes text room before mark all torn piece long within is piece_is goes same =
    some_record text before mark (all - BASED_HEADER_BYTES) torn piece (omega (arith, long)) (read_within text room mark all (omega (arith, long)) within is.within piece_is) is goes same

-- if the log has more records than those before the mark, more come
pub one_more : (text : List ℕ) (whole before : LogContent) (mark : Mark) (end torn : ℕ) → IsBefore text whole before mark end → Reads text before torn → ⊥
one_more text whole before mark end torn is reads =
    let same : whole ≡ before = (one_reading text whole before is.torn torn is.reads reads).0 in
    omega (arith, is.is_end, is.is_before, is.is_mark.lsn, ap (λ l. last_lsn (history l)) same)

-- the bytes of a log have no fault except a lack of memory and a device's
pub log_alone : (text : List ℕ) (whole : LogContent) (torn : ℕ) → Reads text whole torn → (e : PassFault) → LogCause text e → IsResource e
log_alone text whole torn reads fault.Failed cause = inl refl
log_alone text whole torn reads (fault.Fault e) cause = inr (ap (λ x. fault.Fault x) (no_fault_of_a_log text whole torn reads e cause))

-- a lack of memory is an error of any analysis
pub memory_cause : (master : ℕ) (whole : LogContent) (e : Fault) → e ≡ NoResource → TablesCause master whole (fault.Fault e)
memory_cause master whole e none = subst (λ x. TablesCause master whole (fault.Fault x)) (sym none) tt
