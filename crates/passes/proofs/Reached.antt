-- How far a piece of a log reaches.
use Rattle.std.proofs.Common.{◌≡◌, ℕ, ◌+◌, ◌-◌, ◌<◌, ◌≤◌, List, ◌++◌, length, take, drop, get_or, Option, Some, None, refl, sym, ap, ◌∙◌, subst, arith, length-append, length-take, take-take}
use Rattle.std.specs.Prelude.{IfSome}
use Rattle.std.specs.Io.KnownBytes.{Keeps}
use Rattle.std.proofs.lemmas.List.{drop-take}
use Rattle.log_laws.specs.Records.{lsn_before, LogContent, history, last_lsn, base_lsn, ◌⧺◌}
use Rattle.wal.specs.Headers.{header_of}
use Rattle.log_laws.specs.declared.start.LogStart.TheVariants.{Version2}
use Rattle.wal.specs.Reads.{Reads}
use Rattle.log_laws.proofs.Histories.{base_of_log, size_of_log}
use Rattle.pieces.specs.declared.mark.Mark.{Mark}
use Rattle.pieces.specs.Pieces.{IsMark, piece_text, ContinuesEach, ContinuesLog, HoldsPiece}
use Rattle.passes.specs.Marks.{HasMark}
use Rattle.wal.specs.declared.sizes.TheConstants.{BASED_HEADER_BYTES}
use Rattle.pieces.proofs.Beginnings.{records_begin, same_start}

-- what holds for the bytes of a device
pub told : (held : Option (List ℕ)) (text : List ℕ) (P : List ℕ → Type 0) → held ≡ Some text → IfSome held P → P text
told held text P is some = subst (λ o. IfSome o P) is some

-- a mark of the bytes is a mark of the first of them, up to a number of bytes
pub in_front : (text : List ℕ) (before : LogContent) (mark : Mark) (n : ℕ) → mark.offset ≤ n → IsMark text before mark → IsMark (take n text) before mark
in_front text before mark n le is = record {
  reads = subst (λ t. Reads t before 0) (sym (take-take mark.offset n text le)) is.reads;
  lsn = is.lsn;
  within = omega (arith, length-take n text, is.within, le);
}

-- the piece after a mark is the same by the first bytes up to its end
pub piece_in_front : (text : List ℕ) (mark : Mark) (count : ℕ) → piece_text text mark count ≡ piece_text (take (mark.offset + count) text) mark count
piece_in_front text mark count =
    ap (λ (t : List ℕ). header_of (Version2 mark.lsn) ++ t)
    (sym (take-take count count (drop mark.offset text) (omega arith)) ∙ ap (take count) (sym (drop-take mark.offset count text)))

-- A PIECE READ into a room is one of the bytes that the device holds
pub piece_read : (held : Option (List ℕ)) (text room : List ℕ) (mark : Mark) (count : ℕ) → held ≡ Some text → HoldsPiece held mark count room → take count room ≡ piece_text text mark (count - BASED_HEADER_BYTES)
piece_read held text room mark count is read = told held text (λ t. take count room ≡ piece_text t mark (count - BASED_HEADER_BYTES)) is read

-- it continues the log before its mark
module _ (text room : List ℕ) (before piece : LogContent) (mark : Mark) (count torn : ℕ) (own : IsMark text before mark) (within : count ≤ length room) (read : take count room ≡ piece_text text mark (count - BASED_HEADER_BYTES))
    (goes : ContinuesEach (take count room) mark piece torn) where
  size : length (take count room) - BASED_HEADER_BYTES ≡ count - BASED_HEADER_BYTES
  size = omega (arith, length-take count room, within)

  pub continues : ContinuesLog text before mark (count - BASED_HEADER_BYTES) piece torn
  continues = subst (λ n. ContinuesLog text before mark n piece torn) size (goes text before (count - BASED_HEADER_BYTES) own read)

  -- and so it does by the bytes up to its end
  pub continues_front : ContinuesLog (take (mark.offset + (count - BASED_HEADER_BYTES)) text) before mark (count - BASED_HEADER_BYTES) piece torn
  continues_front =
      let front = take (mark.offset + (count - BASED_HEADER_BYTES)) text in
      subst (λ n. ContinuesLog front before mark n piece torn) size
      (goes front before (count - BASED_HEADER_BYTES) (in_front text before mark (mark.offset + (count - BASED_HEADER_BYTES)) (omega arith) own) (read ∙ piece_in_front text mark (count - BASED_HEADER_BYTES)))

-- the base LSN of a piece is that of its mark
pub base_is : (text : List ℕ) (before : LogContent) (mark : Mark) (count torn : ℕ) (piece : LogContent) → ContinuesLog text before mark count piece torn → base_lsn (history piece) ≡ mark.lsn
base_is text before mark count torn piece goes = base_of_log piece ∙ ap lsn_before goes.begins

-- a piece has all records up to each mark within its bytes
pub reached : (text : List ℕ) (before : LogContent) (mark : Mark) (count torn : ℕ) (piece : LogContent) → ContinuesLog (take (mark.offset + count) text) before mark count piece torn
    → (until : LogContent) (later : Mark) → IsMark text until later → later.offset ≤ mark.offset + count → later.lsn ≤ last_lsn (history piece)
reached text before mark count torn piece goes until later is le =
    let front = take (mark.offset + count) text in
    let both : LogContent = before ⧺ piece.records in
    let reads : Reads front both torn = goes.end (omega (arith, length-take (mark.offset + count) text)) in
    let own : IsMark front until later = in_front text until later (mark.offset + count) le is in
    let more = records_begin front both torn reads until later.offset own.reads in
    let starts = same_start front both torn reads until later.offset own.reads in
    omega (
      arith,
      is.lsn,
      size_of_log until,
      size_of_log both,
      ap lsn_before starts,
      ap length more.1,
      length-append until.records more.0,
      goes.next.lsn,
    )

-- a device still holds the bytes that it held
pub still_told : (old new : Option (List ℕ)) (text : List ℕ) → Keeps old new → old ≡ Some text → new ≡ Some text
still_told None new text keeps is = absurd cc
still_told (Some xs) None text keeps is = absurd keeps
still_told (Some xs) (Some ys) text keeps is = ap (λ t. Some t) keeps ∙ is

pub keeps_same : (old : Option (List ℕ)) → Keeps old old
keeps_same None = tt
keeps_same (Some xs) = refl

pub keeps_on : (old now new : Option (List ℕ)) → Keeps old now → Keeps now new → Keeps old new
keeps_on None now new a b = tt
keeps_on (Some xs) None new a b = absurd a
keeps_on (Some xs) (Some ys) None a b = absurd b
keeps_on (Some xs) (Some ys) (Some zs) a b = b ∙ a

-- the last mark of a list of marks of the bytes
pub marked_last : (text : List ℕ) (marks : List Mark) (mark : Mark) → 0 < length marks → ((d : Mark) → mark ≡ get_or marks (length marks - 1) d)
    → ((k : ℕ) (d : Mark) → k < length marks → HasMark text (get_or marks k d)) → HasMark text mark
marked_last text marks mark some is each =
    let own = each (length marks - 1) mark (omega (arith, some)) in
    (own.0, subst (IsMark text own.0) (sym (is mark)) own.1)
