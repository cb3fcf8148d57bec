-- What a piece shows of a log: its records continue those before it, and its fault is the log's.
use Rattle.std.proofs.Common.{◌≡◌, ℕ, ◌+◌, ◌-◌, ◌^◌, ◌<◌, ◌≤◌, List, [], ◌∷◌, ◌++◌, length, take, drop, refl, sym, ap, ap₂, subst, ◌∙◌, append_assoc, arith, inl, inr, length-append, take-add, take-take, length-drop, ◌*◌}
use Rattle.std.specs.Prelude.{Option, Some, None, IfSome}
use Rattle.std.specs.List.{AllByRecursion}
use Rattle.std.specs.Int.{w32, from_be_bytes, to_be_bytes}
use Rattle.std.proofs.lemmas.List.{append-nil, append_cancel_left, drop-append-le, length-take, nil_from_length, take-append-drop, take-append-le, take_all, take_at}
use Rattle.page.specs.declared.fault.Fault.{Fault}
use Rattle.page.specs.declared.fault.Fault.TheVariants.{NoResource, BadLogHeader, BadLength, BadRecord, BadLsn}
use Rattle.log_laws.specs.declared.start.LogStart.{LogStart}
use Rattle.log_laws.specs.declared.start.LogStart.TheVariants.{Version1, Version2}
use Rattle.wal.specs.declared.sizes.TheConstants.{LARGEST_BASE, BASED_HEADER_BYTES}
use Rattle.log_laws.specs.Records.{LogRecord, lsn_before, LogContent, history, last_lsn, base_lsn, ◌⧺◌}
use Rattle.wal.specs.Headers.{header_of, header_bytes}
use Rattle.wal.specs.Spelling.{body, frame, Fits}
use Rattle.wal.specs.Frames.{length_of, body_of}
use Rattle.wal.specs.Reads.{spellings, log_text, Reads, IsWhole, HasFault, HasFaultBehind, Cause}
use Rattle.std.proofs.Math.Seq.{take-append-add}
use Rattle.device.specs.Reread.{ReadsFrom}
use Rattle.wal.proofs.Headers.{at_least, header_length, one_start, header_dropped}
use Rattle.log_laws.proofs.Histories.{base_of_log, size_of_log}
use Rattle.wal.proofs.Whole.{body_size}
use Rattle.wal.proofs.CutBytes.{spellings-append}
use Rattle.pieces.specs.declared.mark.Mark.{Mark}
use Rattle.pieces.specs.Pieces.{IsMark, piece_text, ContinuesLog, moved, OffsetFits}

-- WHAT STAYS when more bytes follow
length_stays : (bytes more : List ℕ) → 4 ≤ length bytes → length_of (bytes ++ more) ≡ length_of bytes
length_stays bytes more h = ap (from_be_bytes w32) (take-append-le 4 bytes more h)

body_stays : (bytes more : List ℕ) → IsWhole bytes → body_of (bytes ++ more) ≡ body_of bytes
body_stays bytes more whole =
    ap (λ n. take n (drop 4 (bytes ++ more))) (length_stays bytes more (omega (arith, whole.2)))
    ∙ ap (take (length_of bytes)) (drop-append-le 4 bytes more (omega (arith, whole.2)))
    ∙ take-append-le (length_of bytes) (drop 4 bytes) more (omega (arith, whole.2, length-drop 4 bytes))

whole_stays : (bytes more : List ℕ) → IsWhole bytes → IsWhole (bytes ++ more)
whole_stays bytes more whole =
    let same = length_stays bytes more (omega (arith, whole.2)) in
    (omega (arith, whole.0, same), omega (arith, whole.1, same), omega (arith, whole.2, same, length-append bytes more))

-- a fault
fault_stays : (e : Fault) (lsn offset : ℕ) (bytes more : List ℕ) → HasFault e lsn offset bytes → HasFault e lsn offset (bytes ++ more)
fault_stays (BadLength at) lsn offset bytes more h =
    let same = length_stays bytes more h.1 in
    (h.0, omega (arith, h.1, length-append bytes more), elim (h.2) [ inl low ↦ inl (omega (arith, low, same)) | inr high ↦ inr (omega (arith, high, same)) ])
fault_stays (BadRecord at) lsn offset bytes more h =
    (h.0, whole_stays bytes more h.1, λ r n fits lt same. h.2 r n fits lt (sym (body_stays bytes more h.1) ∙ same))
fault_stays (BadLsn at) lsn offset bytes more (is, whole, r, n, fits, lt, same, wrong) =
    (is, whole_stays bytes more whole, r, n, fits, lt, body_stays bytes more whole ∙ same, wrong)
fault_stays e lsn offset bytes more h = absurd h

-- WHAT IS MOVED: the offset in a fault
fault_moved : (mark : Mark) (e : Fault) (lsn offset place : ℕ) (bytes : List ℕ) → place ≡ mark.offset + offset - BASED_HEADER_BYTES → HasFault e lsn offset bytes → HasFault (moved mark e) lsn place bytes
fault_moved mark (BadLength at) lsn offset place bytes to h = (ap (λ n. mark.offset + n - BASED_HEADER_BYTES) h.0 ∙ sym to, h.1, h.2)
fault_moved mark (BadRecord at) lsn offset place bytes to h = (ap (λ n. mark.offset + n - BASED_HEADER_BYTES) h.0 ∙ sym to, h.1, h.2)
fault_moved mark (BadLsn at) lsn offset place bytes to (is, whole, r, n, fits, lt, same, wrong) = (ap (λ n. mark.offset + n - BASED_HEADER_BYTES) is ∙ sym to, whole, r, n, fits, lt, same, wrong)
fault_moved mark e lsn offset place bytes to h = absurd h

-- LISTS OF RECORDS
pub each_more : (xs ys : List LogRecord) → AllByRecursion Fits xs → AllByRecursion Fits ys → AllByRecursion Fits (xs ++ ys)
each_more [] ys a b = b
each_more (x ∷ xs) ys a b = (a.0, each_more xs ys a.1 b)

-- each frame takes at least 13 bytes
pub frames_long : (lsn : ℕ) (records : List LogRecord) → AllByRecursion Fits records → 13 * length records ≤ length (spellings lsn records)
frames_long lsn [] fits = omega arith
frames_long lsn (r ∷ rs) fits =
    omega (
      arith,
      frames_long (lsn + 1) rs fits.1,
      (body_size r lsn fits.0).0,
      length-append (frame r lsn) (spellings (lsn + 1) rs),
      length-append (to_be_bytes w32 (length (body r lsn))) (body r lsn),
    )

-- THE FIRST MARK, by the first 16 bytes
-- no record is in them
pub first_is : (text bytes : List ℕ) (log : LogContent) (torn lsn : ℕ) → bytes ≡ take BASED_HEADER_BYTES text → Reads bytes log torn → lsn ≡ base_lsn (history log)
    → (before : LogContent) × (before.records ≡ []) × IsMark text before (record { lsn = lsn; offset = length bytes - torn })
first_is text bytes log torn lsn is reads at =
    let front = log_text log in
    let parts : length bytes ≡ length front + torn = omega (arith, ap (λ (t : List ℕ). length t) reads.text, length-append front reads.tail, reads.torn_count) in
    let short : length bytes ≤ BASED_HEADER_BYTES = omega (arith, ap (λ (t : List ℕ). length t) is, length-take BASED_HEADER_BYTES text) in
    let few : length log.records ≡ 0 =
    omega (
      arith,
      short,
      parts,
      frames_long (lsn_before log.begins + 1) log.records reads.each,
      length-append (header_of log.begins) (spellings (lsn_before log.begins + 1) log.records),
      header_length log.begins,
      at_least log.begins,
    ) in
    let none : log.records ≡ [] = nil_from_length log.records few in
    let own : take (length bytes - torn) text ≡ front =
    sym (take-take (length bytes - torn) BASED_HEADER_BYTES text (omega (arith, short))) ∙ ap (take (length bytes - torn)) (sym is ∙ reads.text) ∙ take_at front reads.tail (length bytes - torn) (omega (arith, parts)) in (
      log,
      none,
      record {
        reads = record {
          tail = [];
          text = own ∙ sym (append-nil front);
          torn_tail = inl (omega arith);
          torn_count = refl;
          starts = reads.starts;
          each = reads.each;
          few = reads.few;
        };
        lsn = omega (arith, at, base_of_log log, size_of_log log, few);
        within = omega (arith, ap (λ (t : List ℕ). length t) is, length-take BASED_HEADER_BYTES text);
      },
    )

-- a fault of the first bytes
fault_front : (text bytes more : List ℕ) (e : Fault) → text ≡ bytes ++ more → HasFaultBehind bytes e → HasFaultBehind text e
fault_front text bytes more e is h =
    let n = header_bytes h.begins in
    let all : text ≡ header_of h.begins ++ (drop n bytes ++ more) = is ∙ ap (λ (t : List ℕ). t ++ more) h.front ∙ append_assoc (header_of h.begins) (drop n bytes) more in
    let dropped : drop n text ≡ drop n bytes ++ more = ap (drop n) all ∙ header_dropped h.begins (drop n bytes ++ more) in
    let frames = spellings (lsn_before h.begins + 1) h.behind.records in
    record {
      begins = h.begins;
      starts = h.starts;
      front = all ∙ ap (λ (t : List ℕ). header_of h.begins ++ t) (sym dropped);
      behind = record {
        records = h.behind.records;
        rest = h.behind.rest ++ more;
        text = dropped ∙ ap (λ (t : List ℕ). t ++ more) h.behind.text ∙ append_assoc frames h.behind.rest more;
        each = h.behind.each;
        few = h.behind.few;
        fault = fault_stays e (lsn_before h.begins + 1 + length h.behind.records) (n + length frames) h.behind.rest more h.behind.fault;
      };
    }

-- that they are not a header
no_header : (text bytes : List ℕ) → bytes ≡ take BASED_HEADER_BYTES text → Cause bytes BadLogHeader → Cause text BadLogHeader
no_header text bytes is none = λ begins rest fits text_is.
    none begins (take (BASED_HEADER_BYTES - header_bytes begins) rest) fits
    (let long : BASED_HEADER_BYTES ≡ length (header_of begins) + (BASED_HEADER_BYTES - header_bytes begins) = omega (arith, header_length begins, at_most begins) in
    is ∙ ap (take BASED_HEADER_BYTES) text_is ∙ ap (λ n. take n (header_of begins ++ rest)) long ∙ take-append-add (header_of begins) rest (BASED_HEADER_BYTES - header_bytes begins))
  where
    at_most : (begins : LogStart) → header_bytes begins ≤ BASED_HEADER_BYTES
    at_most Version1 = omega arith
    at_most (Version2 base) = omega arith

pub first_cause : (text bytes : List ℕ) (e : Fault) → bytes ≡ take BASED_HEADER_BYTES text → Cause bytes e → Cause text e
first_cause text bytes NoResource is h = tt
first_cause text bytes BadLogHeader is h = no_header text bytes is h
first_cause text bytes (BadLength at) is h = fault_front text bytes (drop BASED_HEADER_BYTES text) (BadLength at) (sym (take-append-drop BASED_HEADER_BYTES text) ∙ ap (λ (t : List ℕ). t ++ drop BASED_HEADER_BYTES text) (sym is)) h
first_cause text bytes (BadRecord at) is h = fault_front text bytes (drop BASED_HEADER_BYTES text) (BadRecord at) (sym (take-append-drop BASED_HEADER_BYTES text) ∙ ap (λ (t : List ℕ). t ++ drop BASED_HEADER_BYTES text) (sym is)) h
first_cause text bytes (BadLsn at) is h = fault_front text bytes (drop BASED_HEADER_BYTES text) (BadLsn at) (sym (take-append-drop BASED_HEADER_BYTES text) ∙ ap (λ (t : List ℕ). t ++ drop BASED_HEADER_BYTES text) (sym is)) h
first_cause text bytes e is h = absurd h.behind.fault

-- THE ROOM: its header, and what was read after it
pub piece_is : (held : Option (List ℕ)) (mark : Mark) (count : ℕ) (room : List ℕ) → take BASED_HEADER_BYTES room ≡ header_of (Version2 mark.lsn) → ReadsFrom held mark.offset count (drop BASED_HEADER_BYTES room)
    → IfSome held (λ text. take (BASED_HEADER_BYTES + count) room ≡ piece_text text mark (BASED_HEADER_BYTES + count - BASED_HEADER_BYTES))
piece_is None mark count room header reads = tt
piece_is (Some text) mark count room header reads =
    take-add BASED_HEADER_BYTES count room ∙ ap₂ (λ (a b : List ℕ). a ++ b) header (reads ∙ ap (λ n. take n (drop mark.offset text)) (omega arith))

module _ (text : List ℕ) (before : LogContent) (mark : Mark) (is : IsMark text before mark) where
  abbrev pub first : ℕ
  first = lsn_before before.begins + 1

  -- the bytes before the mark are those of the log before it
  pub front_is : take mark.offset text ≡ log_text before
  front_is = is.reads.text ∙ ap (λ (t : List ℕ). log_text before ++ t) (nil_from_length is.reads.tail is.reads.torn_count) ∙ append-nil (log_text before)

  pub front_length : mark.offset ≡ length (log_text before)
  front_length = omega (arith, ap (λ (t : List ℕ). length t) front_is, length-take mark.offset text, is.within)

  -- the LSN of the next record
  pub next_lsn : mark.lsn + 1 ≡ first + length before.records
  next_lsn = omega (arith, is.lsn, size_of_log before)

  -- records that follow
  pub text_more : (more : List LogRecord) → log_text before ++ spellings (mark.lsn + 1) more ≡ log_text (before ⧺ more)
  text_more more =
      ap (λ n. log_text before ++ spellings n more) next_lsn
      ∙ append_assoc (header_of before.begins) (spellings first before.records) (spellings (first + length before.records) more)
      ∙ ap (λ (s : List ℕ). header_of before.begins ++ s) (sym (spellings-append first before.records more))

  module _ (bytes : List ℕ) (count : ℕ) (low : mark.lsn ≤ LARGEST_BASE) (piece_is : bytes ≡ piece_text text mark count) where
    abbrev rest : List ℕ
    rest = take count (drop mark.offset text)

    rest_length : length rest ≡ length bytes - BASED_HEADER_BYTES
    rest_length = omega (arith, ap (λ (t : List ℕ). length t) piece_is, length-append (header_of (Version2 mark.lsn)) rest, header_length (Version2 mark.lsn))

    -- the next bytes of the log, as many as the piece has
    next_bytes : (k : ℕ) → k ≤ length rest → take k (drop mark.offset text) ≡ take k rest
    next_bytes k le =
        ap (take k) (sym (take-append-drop count (drop mark.offset text))) ∙ take-append-le k rest (drop count (drop mark.offset text)) le

    -- READ
    module _ (piece : LogContent) (torn : ℕ) (reads : Reads bytes piece torn) where
      begins_is : piece.begins ≡ Version2 mark.lsn
      begins_is =
          one_start piece.begins (Version2 mark.lsn) (spellings (lsn_before piece.begins + 1) piece.records ++ reads.tail) rest reads.starts low
          (sym (append_assoc (header_of piece.begins) (spellings (lsn_before piece.begins + 1) piece.records) reads.tail) ∙ sym reads.text ∙ piece_is)

      abbrev frames : List ℕ
      frames = spellings (mark.lsn + 1) piece.records

      piece_parts : bytes ≡ header_of (Version2 mark.lsn) ++ (frames ++ reads.tail)
      piece_parts =
          reads.text
          ∙ ap (λ b. (header_of b ++ spellings (lsn_before b + 1) piece.records) ++ reads.tail) begins_is
          ∙ append_assoc (header_of (Version2 mark.lsn)) frames reads.tail

      rest_is : rest ≡ frames ++ reads.tail
      rest_is = append_cancel_left (header_of (Version2 mark.lsn)) rest (frames ++ reads.tail) (sym piece_is ∙ piece_parts)

      frames_length : length frames ≡ (length bytes - BASED_HEADER_BYTES) - torn
      frames_length = omega (arith, ap (λ (t : List ℕ). length t) rest_is, length-append frames reads.tail, reads.torn_count, rest_length)

      each : AllByRecursion Fits (before.records ++ piece.records)
      each = each_more before.records piece.records is.reads.each reads.each

      last_is : last_lsn (history (before ⧺ piece.records)) ≡ last_lsn (history piece)
      last_is = omega (arith, size_of_log (before ⧺ piece.records), size_of_log before, size_of_log piece, length-append before.records piece.records, is.lsn, ap lsn_before begins_is)

      -- the bytes up to the next mark
      next_front : take (mark.offset + ((length bytes - BASED_HEADER_BYTES) - torn)) text ≡ log_text (before ⧺ piece.records)
      next_front =
          take-add mark.offset ((length bytes - BASED_HEADER_BYTES) - torn) text
          ∙ ap₂ (λ (a b : List ℕ). a ++ b) front_is
          (next_bytes ((length bytes - BASED_HEADER_BYTES) - torn) (omega (arith, rest_length)) ∙ ap (take ((length bytes - BASED_HEADER_BYTES) - torn)) rest_is ∙ take_at frames reads.tail ((length bytes - BASED_HEADER_BYTES) - torn) frames_length)
          ∙ text_more piece.records

      pub goes_on : ContinuesLog text before mark (length bytes - BASED_HEADER_BYTES) piece torn
      goes_on = record {
        begins = begins_is;
        next = record {
          reads = record {
            tail = [];
            text = next_front ∙ sym (append-nil (log_text (before ⧺ piece.records)));
            torn_tail = inl (omega arith);
            torn_count = refl;
            starts = is.reads.starts;
            each = each;
            few = omega (arith, last_is, reads.few);
          };
          lsn = sym last_is;
          within = omega (arith, rest_length, length-take count (drop mark.offset text), length-drop mark.offset text, is.within);
        };
        end = λ past. record {
          tail = reads.tail;
          text =
              sym (take-append-drop mark.offset text)
              ∙ ap₂ (λ (a b : List ℕ). a ++ b) front_is (sym (take_all (length bytes - BASED_HEADER_BYTES) (drop mark.offset text) (omega (arith, length-drop mark.offset text, past))) ∙ next_bytes (length bytes - BASED_HEADER_BYTES) (omega (arith, rest_length)) ∙ take_all (length bytes - BASED_HEADER_BYTES) rest (omega (arith, rest_length)) ∙ rest_is)
              ∙ sym (append_assoc (log_text before) frames reads.tail)
              ∙ ap (λ (t : List ℕ). t ++ reads.tail) (text_more piece.records);
          torn_tail = reads.torn_tail;
          torn_count = reads.torn_count;
          starts = is.reads.starts;
          each = each;
          few = omega (arith, last_is, reads.few);
        };
      }

    -- ERRORS
    abbrev more : List ℕ
    more = drop count (drop mark.offset text)

    all_rest : drop mark.offset text ≡ rest ++ more
    all_rest = sym (take-append-drop count (drop mark.offset text))

    fault_in : (e : Fault) → HasFaultBehind bytes e → HasFaultBehind text (moved mark e)
    fault_in e h =
        let begins_is : h.begins ≡ Version2 mark.lsn = one_start h.begins (Version2 mark.lsn) (drop (header_bytes h.begins) bytes) rest h.starts low (sym h.front ∙ piece_is) in
        let records = h.behind.records in
        let rest_is : rest ≡ spellings (mark.lsn + 1) records ++ h.behind.rest =
        sym (header_dropped (Version2 mark.lsn) rest) ∙ ap (drop BASED_HEADER_BYTES) (sym piece_is)
        ∙ ap (λ b. drop (header_bytes b) bytes) (sym begins_is) ∙ h.behind.text ∙ ap (λ b. spellings (lsn_before b + 1) records ++ h.behind.rest) begins_is in
        let text_is : text ≡ header_of before.begins ++ (spellings first (before.records ++ records) ++ (h.behind.rest ++ more)) =
        sym (take-append-drop mark.offset text)
        ∙ ap₂ (λ (a b : List ℕ). a ++ b) front_is (all_rest ∙ ap (λ (t : List ℕ). t ++ more) rest_is ∙ append_assoc (spellings (mark.lsn + 1) records) h.behind.rest more)
        ∙ sym (append_assoc (log_text before) (spellings (mark.lsn + 1) records) (h.behind.rest ++ more))
        ∙ ap (λ (t : List ℕ). t ++ (h.behind.rest ++ more)) (text_more records)
        ∙ append_assoc (header_of before.begins) (spellings first (before.records ++ records)) (h.behind.rest ++ more) in
        let dropped : drop (header_bytes before.begins) text ≡ spellings first (before.records ++ records) ++ (h.behind.rest ++ more) =
        ap (drop (header_bytes before.begins)) text_is ∙ header_dropped before.begins (spellings first (before.records ++ records) ++ (h.behind.rest ++ more)) in
        let number : lsn_before h.begins + 1 + length records ≡ first + length (before.records ++ records) =
        omega (arith, ap lsn_before begins_is, next_lsn, length-append before.records records) in
        let spelled : length (spellings (lsn_before h.begins + 1) records) ≡ length (spellings (mark.lsn + 1) records) = ap (λ b. length (spellings (lsn_before b + 1) records)) begins_is in
        let place : header_bytes before.begins + length (spellings first (before.records ++ records)) ≡ mark.offset + (header_bytes h.begins + length (spellings (lsn_before h.begins + 1) records)) - BASED_HEADER_BYTES =
        omega (
          arith,
          spelled,
          ap header_bytes begins_is,
          front_length,
          ap (λ (t : List ℕ). length t) (text_more records),
          length-append (log_text before) (spellings (mark.lsn + 1) records),
          length-append (header_of before.begins) (spellings first (before.records ++ records)),
          header_length before.begins,
        ) in
        record {
          begins = before.begins;
          starts = is.reads.starts;
          front = text_is ∙ ap (λ (t : List ℕ). header_of before.begins ++ t) (sym dropped);
          behind = record {
            records = before.records ++ records;
            rest = h.behind.rest ++ more;
            text = dropped;
            each = each_more before.records records is.reads.each h.behind.each;
            few = omega (arith, h.behind.few, number);
            fault =
                subst (λ n. HasFault (moved mark e) n (header_bytes before.begins + length (spellings first (before.records ++ records))) (h.behind.rest ++ more)) number
                (fault_moved mark e (lsn_before h.begins + 1 + length records) (header_bytes h.begins + length (spellings (lsn_before h.begins + 1) records)) (header_bytes before.begins + length (spellings first (before.records ++ records))) (h.behind.rest ++ more) place
                (fault_stays e (lsn_before h.begins + 1 + length records) (header_bytes h.begins + length (spellings (lsn_before h.begins + 1) records)) h.behind.rest more h.behind.fault));
          };
        }

    pub cause_in : (e : Fault) → Cause bytes e → Cause text (moved mark e)
    cause_in NoResource h = tt
    cause_in BadLogHeader h = absurd (h (Version2 mark.lsn) rest low piece_is)
    cause_in (BadLength at) h = fault_in (BadLength at) h
    cause_in (BadRecord at) h = fault_in (BadRecord at) h
    cause_in (BadLsn at) h = fault_in (BadLsn at) h
    cause_in e h = absurd h.behind.fault

-- an offset in a fault is within the bytes
place_within : (bytes : List ℕ) (e : Fault) (h : HasFaultBehind bytes e) → header_bytes h.begins + length (spellings (lsn_before h.begins + 1) h.behind.records) ≤ length bytes
place_within bytes e h =
    omega (
      arith,
      ap (λ (t : List ℕ). length t) h.front,
      length-append (header_of h.begins) (drop (header_bytes h.begins) bytes),
      header_length h.begins,
      ap (λ (t : List ℕ). length t) h.behind.text,
      length-append (spellings (lsn_before h.begins + 1) h.behind.records) h.behind.rest,
    )

pub cause_within : (bytes : List ℕ) (e : Fault) (before : ℕ) → before + length bytes < 2 ^ 64 → Cause bytes e → OffsetFits before e
cause_within bytes (BadLength at) before room h = omega (arith, room, h.behind.fault.0, place_within bytes (BadLength at) h)
cause_within bytes (BadRecord at) before room h = omega (arith, room, h.behind.fault.0, place_within bytes (BadRecord at) h)
cause_within bytes (BadLsn at) before room h = omega (arith, room, h.behind.fault.0, place_within bytes (BadLsn at) h)
cause_within bytes e before room h = tt
