-- Marks of a log: the next one, and the last one.
use Rattle.std.proofs.Common.{◌≡◌, ◌≢◌, ℕ, ◌+◌, ◌-◌, ◌^◌, ◌<◌, ◌≤◌, List, [], ◌∷◌, ◌++◌, length, take, drop, Some, Ok, refl, sym, ap, ap₂, subst, ◌∙◌, append_assoc, arith, inl, length-append, take-add, take-take, length-drop}
use Rattle.std.specs.List.{AllByRecursion}
use Rattle.std.proofs.lemmas.List.{append-nil, drop-append-le, drop_at, length-take, nil_from_length, take-append-drop, take_at}
use Rattle.page.specs.declared.fault.Fault.{Fault}
use Rattle.page.specs.declared.fault.Fault.TheVariants.{BadLength, BadRecord, BadLsn}
use Rattle.page.proofs.BigEndian.{AreBytes, AreBytes-drop}
use Rattle.log_laws.specs.declared.start.LogStart.{LogStart}
use Rattle.log_laws.specs.Records.{LogRecord, LogContent, history, last_lsn, lsn_before, ◌⧺◌}
use Rattle.wal.specs.Headers.{header_of, header_bytes, start_at}
use Rattle.wal.specs.Spelling.{body, frame, Fits}
use Rattle.wal.specs.Reading.{body_at}
use Rattle.wal.specs.Frames.{body_of, length_of, next_at, size_in}
use Rattle.wal.specs.Reads.{spellings, log_text, HasFault, HasFaultBehind, IsTorn, Reads}
use Rattle.wal.proofs.Headers.{header_dropped, header_length, header_taken, start_small}
use Rattle.log_laws.proofs.Histories.{size_of_log}
use Rattle.wal.proofs.Loop.{next_is}
use Rattle.wal.proofs.NextFrame.{sized}
use Rattle.wal.proofs.Whole.{found_frame, frame_next}
use Rattle.pieces.specs.declared.mark.Mark.{Mark}
use Rattle.pieces.specs.Pieces.{IsMark}
use Rattle.pieces.proofs.Pieces.{each_more, frames_long, front_is, front_length, next_lsn, text_more}
use Rattle.pieces.proofs.Beginnings.{records_begin, same_start}
use Rattle.cursor.specs.Ends.{IsFirst, HasFaultAt, FaultIsOfLog}

-- the second of two lists of records that fit
each_behind : (xs ys : List LogRecord) → AllByRecursion Fits (xs ++ ys) → AllByRecursion Fits ys
each_behind [] ys all = all
each_behind (x ∷ xs) ys all = each_behind xs ys all.1

-- where no frame is, no records are
none_come : (more : List LogRecord) (lsn offset : ℕ) (rest tail : List ℕ) → AllByRecursion Fits more → lsn < 2 ^ 64 → rest ≡ spellings lsn more ++ tail → 0 < length (spellings lsn more)
    → ((r : LogRecord) (size : ℕ) → next_at lsn offset rest ≢ Ok (Some (r, size))) → ⊥
none_come [] lsn offset rest tail fits lt is long none = absurd (omega (arith, long))
none_come (r ∷ more) lsn offset rest tail fits lt is long none =
    none r (4 + length (body r lsn)) (ap (next_at lsn offset) (is ∙ append_assoc (frame r lsn) (spellings (lsn + 1) more) tail) ∙ frame_next r lsn offset (spellings (lsn + 1) more ++ tail) fits.0 lt)

-- A FRAME by its size: its record, and its body after the length
pub record Here (lsn offset size : ℕ) (frame body : List ℕ) : Type 0 where
  pub content : LogRecord
  pub next : next_at lsn offset frame ≡ Ok (Some (content, size))
  pub long : 4 ≤ length frame
  pub low : 4 ≤ size
  pub room : size - 4 ≤ length body
  pub spelled : body_at (take (size - 4) body) ≡ Some (content, lsn)

pub here : (lsn offset size : ℕ) (frame body : List ℕ) → body ≡ drop 4 frame → size_in (next_at lsn offset frame) ≡ Ok (Some size) → Here lsn offset size frame body
here lsn offset size frame body is e =
    let one = sized (next_at lsn offset frame) size e in
    let found = next_is lsn offset frame one.0 size one.1 in
    let count : size - 4 ≡ length_of frame = omega (arith, found.size_is) in
    let own : take (size - 4) body ≡ body_of frame = ap₂ (λ n (x : List ℕ). take n x) count is in
    record {
      content = one.0;
      next = one.1;
      long = omega (arith, found.whole);
      low = omega (arith, found.size_is);
      room = omega (arith, count, found.whole, ap (λ (t : List ℕ). length t) is, length-drop 4 frame);
      spelled = ap body_at own ∙ found.spelled;
    }

-- THE FIRST MARK
pub begins_there : (bytes : List ℕ) (begins : LogStart) (base size : ℕ) → AreBytes bytes → start_at bytes ≡ Some begins → base ≡ lsn_before begins → size ≡ header_bytes begins → IsFirst bytes (record { lsn = base; offset = size })
begins_there bytes begins base size fits starts base_is size_is =
    let header = header_taken bytes begins fits starts in
    let rest = drop (header_bytes begins) bytes in
    let none : LogContent = record { begins = begins; records = [] } in
    let front : take size bytes ≡ header_of begins = ap (take size) header.front ∙ take_at (header_of begins) rest size (header_length begins ∙ sym size_is) in
    record {
      begins = begins;
      is = record {
        reads = record {
          tail = [];
          text = front ∙ sym (append-nil (header_of begins)) ∙ sym (append-nil (header_of begins ++ []));
          torn_tail = inl (omega arith);
          torn_count = refl;
          starts = header.fits;
          each = tt;
          few = omega (arith, size_of_log none, start_small begins header.fits);
        };
        lsn = omega (arith, base_is, size_of_log none);
        within = omega (arith, size_is, ap (λ (t : List ℕ). length t) header.front, length-append (header_of begins) rest, header_length begins);
      };
    }

module _ (bytes : List ℕ) (before : LogContent) (mark : Mark) (is : IsMark bytes before mark) where
  abbrev rest : List ℕ
  rest = drop mark.offset bytes

  -- THE NEXT MARK
  -- there is an LSN for the next record
  pub next_fits : length bytes < 2 ^ 63 → mark.lsn + 1 < 2 ^ 64
  next_fits short =
      omega (
        arith,
        short,
        is.within,
        next_lsn bytes before mark is,
        start_small before.begins is.reads.starts,
        frames_long (lsn_before before.begins + 1) before.records is.reads.each,
        front_length bytes before mark is,
        length-append (header_of before.begins) (spellings (lsn_before before.begins + 1) before.records),
      )

  -- it is after the frame that is there
  pub moves : AreBytes bytes → length bytes < 2 ^ 63 → (r : LogRecord) (size : ℕ) → next_at (mark.lsn + 1) mark.offset rest ≡ Ok (Some (r, size))
      → IsMark bytes (before ⧺ (r ∷ [])) (record { lsn = mark.lsn + 1; offset = mark.offset + size })
  moves fits short r size e =
      let lsn = mark.lsn + 1 in
      let more = before ⧺ (r ∷ []) in
      let found = next_is lsn mark.offset rest r size e in
      let one = found_frame lsn rest r size (AreBytes-drop mark.offset bytes fits) found in
      let long : size ≡ length (frame r lsn) = omega (arith, ap (λ (t : List ℕ). length t) one.0, length-append (frame r lsn) (drop size rest), length-drop size rest, found.size_is, found.whole) in
      let own : take size rest ≡ frame r lsn = ap (take size) one.0 ∙ take_at (frame r lsn) (drop size rest) size (sym long) in
      let text : take (mark.offset + size) bytes ≡ log_text more =
      take-add mark.offset size bytes ∙ ap₂ (λ (a b : List ℕ). a ++ b) (front_is bytes before mark is) (own ∙ sym (append-nil (frame r lsn))) ∙ text_more bytes before mark is (r ∷ []) in
      let last : last_lsn (history more) ≡ lsn = omega (arith, size_of_log more, size_of_log before, length-append before.records (r ∷ []), is.lsn) in
      record {
        reads = record {
          tail = [];
          text = text ∙ sym (append-nil (log_text more));
          torn_tail = inl (omega arith);
          torn_count = refl;
          starts = is.reads.starts;
          each = each_more before.records (r ∷ []) is.reads.each (one.1, tt);
          few = omega (arith, last, next_fits short);
        };
        lsn = sym last;
        within = omega (arith, found.size_is, found.whole, length-drop mark.offset bytes, is.within);
      }

  -- THE LAST MARK
  -- where no frame is, no longer beginning of the bytes is a log
  pub longest : length bytes < 2 ^ 63 → ((r : LogRecord) (size : ℕ) → next_at (mark.lsn + 1) mark.offset rest ≢ Ok (Some (r, size)))
      → (n : ℕ) (log : LogContent) → mark.offset < n → n ≤ length bytes → Reads (take n bytes) log 0 → ⊥
  longest short none n log past upto reads =
      let cut = take n bytes in
      let cut_length : length cut ≡ n = omega (arith, length-take n bytes, upto) in
      let own : Reads (take mark.offset cut) before 0 = subst (λ (t : List ℕ). Reads t before 0) (sym (take-take mark.offset n bytes (omega (arith, past)))) is.reads in
      let split = records_begin cut log 0 reads before mark.offset own in
      let starts = same_start cut log 0 reads before mark.offset own in
      let frames = spellings (mark.lsn + 1) split.0 in
      let whole : cut ≡ log_text log = reads.text ∙ ap (λ (t : List ℕ). log_text log ++ t) (nil_from_length reads.tail reads.torn_count) ∙ append-nil (log_text log) in
      let same : log_text log ≡ log_text (before ⧺ split.0) = ap₂ (λ b (rs : List LogRecord). log_text (record { begins = b; records = rs })) starts split.1 in
      let parts : cut ≡ log_text before ++ frames = whole ∙ same ∙ sym (text_more bytes before mark is split.0) in
      let behind : drop mark.offset cut ≡ frames = ap (drop mark.offset) parts ∙ drop_at (log_text before) frames mark.offset (sym (front_length bytes before mark is)) in
      let all : rest ≡ frames ++ drop n bytes =
      ap (drop mark.offset) (sym (take-append-drop n bytes)) ∙ drop-append-le mark.offset cut (drop n bytes) (omega (arith, cut_length, past)) ∙ ap (λ (t : List ℕ). t ++ drop n bytes) behind in
      none_come split.0 (mark.lsn + 1) mark.offset rest (drop n bytes) (each_behind before.records split.0 (subst (AllByRecursion Fits) split.1 reads.each)) (next_fits short) all
      (omega (arith, ap (λ (t : List ℕ). length t) behind, length-drop mark.offset cut, cut_length, past)) none

  -- WHAT FOLLOWS
  -- a torn tail is that of the log
  pub reads_to_end : IsTorn rest → Reads bytes before (length bytes - mark.offset)
  reads_to_end torn = record {
    tail = rest;
    text = sym (take-append-drop mark.offset bytes) ∙ ap (λ (t : List ℕ). t ++ rest) (front_is bytes before mark is);
    torn_tail = torn;
    torn_count = length-drop mark.offset bytes;
    starts = is.reads.starts;
    each = is.reads.each;
    few = is.reads.few;
  }

  -- a fault is that of the log
  fault_behind : length bytes < 2 ^ 63 → (fault : Fault) → HasFaultAt bytes mark fault → HasFaultBehind bytes fault
  fault_behind short fault h =
      let begins = before.begins in
      let frames = spellings (lsn_before begins + 1) before.records in
      let text : bytes ≡ header_of begins ++ (frames ++ rest) =
      sym (take-append-drop mark.offset bytes) ∙ ap (λ (t : List ℕ). t ++ rest) (front_is bytes before mark is) ∙ append_assoc (header_of begins) frames rest in
      let dropped : drop (header_bytes begins) bytes ≡ frames ++ rest = ap (drop (header_bytes begins)) text ∙ header_dropped begins (frames ++ rest) in
      let number : mark.lsn + 1 ≡ lsn_before begins + 1 + length before.records = next_lsn bytes before mark is in
      let place : mark.offset ≡ header_bytes begins + length frames = omega (arith, front_length bytes before mark is, length-append (header_of begins) frames, header_length begins) in
      record {
        begins = begins;
        starts = is.reads.starts;
        front = text ∙ ap (λ (t : List ℕ). header_of begins ++ t) (sym dropped);
        behind = record {
          records = before.records;
          rest = rest;
          text = dropped;
          each = is.reads.each;
          few = omega (arith, number, next_fits short);
          fault = subst (λ n. HasFault fault (lsn_before begins + 1 + length before.records) n rest) place (subst (λ n. HasFault fault n mark.offset rest) number h);
        };
      }

pub fault_is_of_log : FaultIsOfLog
fault_is_of_log bytes short before mark (BadLength at) is h = fault_behind bytes before mark is short (BadLength at) h
fault_is_of_log bytes short before mark (BadRecord at) is h = fault_behind bytes before mark is short (BadRecord at) h
fault_is_of_log bytes short before mark (BadLsn at) is h = fault_behind bytes before mark is short (BadLsn at) h
fault_is_of_log bytes short before mark fault is h = absurd h
