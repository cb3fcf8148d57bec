-- Frames of a stretch, and of what was read before it.
use Rattle.std.proofs.Common.{◌≡◌, ℕ, zero, suc, ◌+◌, ◌-◌, ◌^◌, ◌≤◌, ◌<◌, List, [], ◌∷◌, ◌++◌, length, take, drop, map, Some, Ok, Err, Result, Option, None, inl, inr, sym, ap, ap₂, subst, ◌∙◌, append_assoc, arith, length-append}
use Rattle.std.specs.Prelude.{All, is_some, IfOk, IfNone}
use Rattle.std.specs.List.{AllByRecursion}
use Rattle.std.proofs.lemmas.List.{append-nil, drop_all, drop-drop, drop-take, length-drop, length-map, length-take, take_at}
use Rattle.std.proofs.lemmas.List.Elements.{All-nil, All-cons}
use Rattle.std.proofs.lemmas.Bool.Decides.{leb_tells}
use Rattle.std.proofs.Math.Seq.{take-append-add}
use Rattle.page.proofs.BigEndian.{AreBytes, AreBytes-drop}
use Rattle.page.specs.declared.fault.Fault.{Fault}
use Rattle.log_laws.specs.declared.start.LogStart.{LogStart}
use Rattle.wal.specs.declared.stretch.Stretch.{Stretch}
use Rattle.log_laws.specs.Records.{LogRecord, lsn_before}
use Rattle.wal.specs.Headers.{header_of, header_bytes, start_at}
use Rattle.std.specs.Int.{w32, to_be_bytes}
use Rattle.wal.specs.Spelling.{body, frame, Fits}
use Rattle.wal.specs.Frames.{next_at, size_in, IsPlace, record_of}
use Rattle.wal.specs.Reads.{spellings}
use Rattle.wal.specs.Stretches.{AreFrames, HasNoFrame, BeginsCut, BeginsLog, AreFront, AreBehind, records_of}
use Rattle.wal.proofs.Headers.{start_small, start_again, header_length, header_room, header_taken}
use Rattle.wal.proofs.Loop.{next_is, record_read}
use Rattle.wal.proofs.NextFrame.{no_frame_none, no_frame_fault}
use Rattle.wal.proofs.Whole.{found_frame, frame_next, Begins, lsn_behind, offset_behind}
use Rattle.wal.proofs.CutBytes.{spellings-append}

-- one more frame at the end
pub frames_more : (bytes : List ℕ) (lsn from : ℕ) (offsets : List ℕ) (to : ℕ) (r : LogRecord) (size : ℕ) → AreFrames bytes lsn from offsets to
    → next_at (lsn + length offsets) to (drop to bytes) ≡ Ok (Some (r, size)) → AreFrames bytes lsn from (offsets ++ to ∷ []) (to + size)
frames_more bytes lsn from [] to r size frames e =
    (sym frames, r, size, subst (λ at. next_at lsn at (drop at bytes) ≡ Ok (Some (r, size))) (sym frames) (subst (λ n. next_at n to (drop to bytes) ≡ Ok (Some (r, size))) (omega arith) e), ap (λ at. at + size) frames)
frames_more bytes lsn from (offset ∷ offsets) to r size frames e =
    (frames.0, frames.1, frames.2, frames.3, frames_more bytes (suc lsn) (from + frames.2) offsets to r size frames.4 (subst (λ n. next_at n to (drop to bytes) ≡ Ok (Some (r, size))) (omega arith) e))

-- a frame takes at least 13 bytes, and there are as many as it takes
pub frame_takes : (bytes : List ℕ) (lsn offset : ℕ) (r : LogRecord) (size : ℕ) → offset ≤ length bytes → next_at lsn offset (drop offset bytes) ≡ Ok (Some (r, size)) → (13 ≤ size) × (offset + size ≤ length bytes)
frame_takes bytes lsn offset r size room e =
    let found = next_is lsn offset (drop offset bytes) r size e in
    (omega (arith, found.size_is, found.low), omega (arith, room, found.size_is, found.whole, length-drop offset bytes))

-- frames, followed by others
pub frames_joined : (bytes : List ℕ) (lsn from : ℕ) (xs : List ℕ) (middle : ℕ) (ys : List ℕ) (to : ℕ) → AreFrames bytes lsn from xs middle → AreFrames bytes (lsn + length xs) middle ys to
    → AreFrames bytes lsn from (xs ++ ys) to
frames_joined bytes lsn from [] middle ys to first second =
    subst (λ at. AreFrames bytes lsn at ys to) (sym first) (subst (λ n. AreFrames bytes n middle ys to) (omega arith) second)
frames_joined bytes lsn from (x ∷ xs) middle ys to first second =
    (first.0, first.1, first.2, first.3, frames_joined bytes (suc lsn) (from + first.2) xs middle ys to first.4 (subst (λ n. AreFrames bytes n middle ys to) (omega arith) second))

-- each is in the bytes
pub frames_places : (bytes : List ℕ) (lsn from : ℕ) (offsets : List ℕ) (to : ℕ) → AreFrames bytes lsn from offsets to → All (IsPlace bytes) offsets
frames_places bytes lsn from [] to frames = All-nil (IsPlace bytes)
frames_places bytes lsn from (offset ∷ offsets) to frames =
    let found = next_is lsn from (drop from bytes) frames.1 frames.2 frames.3 in
    let rest : length (drop from bytes) ≡ length bytes - from = length-drop from bytes in
    All-cons (IsPlace bytes) offset offsets
    (subst (IsPlace bytes) (sym frames.0) (record { room = omega (arith, found.whole, found.low, rest); whole = omega (arith, found.whole, found.low, rest); spelled = ap is_some found.spelled }))
    (frames_places bytes (suc lsn) (from + frames.2) offsets to frames.4)

-- the bytes are their encodings
pub frames_spelled : (bytes : List ℕ) (lsn from : ℕ) (offsets : List ℕ) (to : ℕ) → AreBytes bytes → AreFrames bytes lsn from offsets to
    → (drop from bytes ≡ spellings lsn (map (record_of bytes) offsets) ++ drop to bytes) × AllByRecursion Fits (map (record_of bytes) offsets)
frames_spelled bytes lsn from [] to fits frames = (ap (λ at. drop at bytes) frames, tt)
frames_spelled bytes lsn from (offset ∷ offsets) to fits frames =
    let found = next_is lsn from (drop from bytes) frames.1 frames.2 frames.3 in
    let one = found_frame lsn (drop from bytes) frames.1 frames.2 (AreBytes-drop from bytes fits) found in
    let is : frames.1 ≡ record_of bytes offset = sym (ap (record_of bytes) frames.0 ∙ record_read bytes from lsn frames.1 found.spelled) in
    let others = frames_spelled bytes (suc lsn) (from + frames.2) offsets to fits frames.4 in
    let behind : drop frames.2 (drop from bytes) ≡ spellings (lsn + 1) (map (record_of bytes) offsets) ++ drop to bytes =
    drop-drop frames.2 from bytes ∙ others.0 ∙ ap (λ n. spellings n (map (record_of bytes) offsets) ++ drop to bytes) (omega arith) in (
      one.0
          ∙ ap₂ (λ r (t : List ℕ). frame r lsn ++ t) is behind
          ∙ sym (append_assoc (frame (record_of bytes offset) lsn) (spellings (lsn + 1) (map (record_of bytes) offsets)) (drop to bytes)),
      (subst Fits is one.1, others.1),
    )

-- a front, and all frames after it
pub begun : (begins : LogStart) (front back : List ℕ) (first second : Stretch) → AreBytes front → AreBytes back → length front + length back < 2 ^ 63 → AreFront begins front first → AreBehind first back second
    → Begins (front ++ back) begins (records_of front first back second) (drop second.end back)
begun begins front back first second front_fits back_fits short one two =
    let header = header_taken front begins front_fits one.first.starts in
    let firsts = map (record_of front) first.offsets in
    let seconds = map (record_of back) second.offsets in
    let tail = drop second.end back in
    let next = lsn_before begins + 1 in
    let frames = subst (λ at. AreFrames front first.lsn at first.offsets first.end) one.first.begin one.first.frames.frames in
    let spelled = frames_spelled front next (header_bytes begins) first.offsets first.end front_fits (subst (λ n. AreFrames front n (header_bytes begins) first.offsets first.end) one.first.lsn frames) in
    let others = frames_spelled back second.lsn second.begin second.offsets second.end back_fits two.frames.frames in
    let count : length firsts ≡ length first.offsets = length-map first.offsets (record_of front) in
    let count_2 : length seconds ≡ length second.offsets = length-map second.offsets (record_of back) in
    let none : drop first.end front ≡ [] = ap (λ n. drop n front) one.whole ∙ drop_all (length front) front (omega arith) in
    let front_is : front ≡ header_of begins ++ spellings next firsts =
    header.front ∙ ap (λ (t : List ℕ). header_of begins ++ t) (spelled.0 ∙ ap (λ (t : List ℕ). spellings next firsts ++ t) none ∙ append-nil (spellings next firsts)) in
    let number : second.lsn ≡ next + length firsts = two.lsn ∙ omega (arith, one.first.lsn, count) in
    let back_is : back ≡ spellings (next + length firsts) seconds ++ tail =
    ap (λ n. drop n back) (sym two.begin) ∙ others.0 ∙ ap (λ n. spellings n seconds ++ tail) number in
    record {
      starts = header.fits;
      text_is =
          ap₂ (λ (a b : List ℕ). a ++ b) front_is back_is
          ∙ append_assoc (header_of begins) (spellings next firsts) (spellings (next + length firsts) seconds ++ tail)
          ∙ ap (λ (t : List ℕ). header_of begins ++ t)
          (sym (append_assoc (spellings next firsts) (spellings (next + length firsts) seconds) tail) ∙ ap (λ (t : List ℕ). t ++ tail) (sym (spellings-append next firsts seconds)));
      each = all_append firsts seconds spelled.1 others.1;
      few = omega (arith, length-append firsts seconds, count, count_2, start_small begins header.fits, one.first.frames.long, one.first.frames.room, two.frames.long, two.frames.room, short);
    }
  where
    all_append : (xs ys : List LogRecord) → AllByRecursion Fits xs → AllByRecursion Fits ys → AllByRecursion Fits (xs ++ ys)
    all_append [] ys first others = others
    all_append (x ∷ xs) ys first others = (first.0, all_append xs ys first.1 others)

-- the LSN and the offset after them
pub lsn_is : (begins : LogStart) (front back : List ℕ) (first second : Stretch) → AreFront begins front first → AreBehind first back second → lsn_behind begins (records_of front first back second) ≡ second.lsn + length second.offsets
lsn_is begins front back first second one two =
    omega
    (arith, one.first.lsn, two.lsn, length-append (map (record_of front) first.offsets) (map (record_of back) second.offsets), length-map first.offsets (record_of front), length-map second.offsets (record_of back))

pub offset_is : (begins : LogStart) (front back : List ℕ) (first second : Stretch) → Begins (front ++ back) begins (records_of front first back second) (drop second.end back) → AreBehind first back second
    → offset_behind begins (records_of front first back second) ≡ length front + second.end
offset_is begins front back first second b two =
    let spelled = spellings (lsn_before begins + 1) (records_of front first back second) in
    omega
    (arith, header_room begins (front ++ back) (spelled ++ drop second.end back) b.text_is, length-append front back, length-append spelled (drop second.end back), length-drop second.end back, two.frames.room)

-- the header of a log by itself
pub header_alone : (bytes : List ℕ) (begins : LogStart) → AreBytes bytes → start_at bytes ≡ Some begins → start_at (take (header_bytes begins) bytes) ≡ Some begins
header_alone bytes begins fits starts =
    let header = header_taken bytes begins fits starts in
    let rest = drop (header_bytes begins) bytes in
    let is : take (header_bytes begins) bytes ≡ header_of begins ++ [] = ap (take (header_bytes begins)) header.front ∙ take_at (header_of begins) rest (header_bytes begins) (header_length begins) ∙ sym (append-nil (header_of begins)) in
    ap start_at is ∙ start_again begins [] header.fits

-- there is room for it
pub header_within : (bytes : List ℕ) (begins : LogStart) → AreBytes bytes → start_at bytes ≡ Some begins → header_bytes begins ≤ length bytes
header_within bytes begins fits starts = omega (arith, header_room begins bytes (drop (header_bytes begins) bytes) (header_taken bytes begins fits starts).front)

-- a frame is the same, whatever its place in a log
pub moved : (lsn place offset : ℕ) (bytes : List ℕ) (r : LogRecord) (size : ℕ) → AreBytes bytes → next_at lsn place bytes ≡ Ok (Some (r, size)) → next_at lsn offset bytes ≡ Ok (Some (r, size))
moved lsn place offset bytes r size fits e =
    let found = next_is lsn place bytes r size e in
    let one = found_frame lsn bytes r size fits found in
    let is : 4 + length (body r lsn) ≡ size = omega (arith, ap length one.0, length-append (frame r lsn) (drop size bytes), length-append (to_be_bytes w32 (length (body r lsn))) (body r lsn), length-drop size bytes, found.size_is, found.whole) in
    ap (next_at lsn offset) one.0 ∙ frame_next r lsn offset (drop size bytes) one.1 one.2 ∙ ap (λ n. Ok (Some (r, n))) is

-- no frame is in no bytes
pub none_left : (bytes : List ℕ) (lsn offset : ℕ) → length bytes ≤ offset → HasNoFrame bytes lsn offset
none_left bytes lsn offset le place r size e =
    let found = next_is lsn place (drop offset bytes) r size e in
    omega (arith, found.whole, length-drop offset bytes, le)

-- bytes followed by bytes
pub both_bytes : (xs ys : List ℕ) → AreBytes xs → AreBytes ys → AreBytes (xs ++ ys)
both_bytes [] ys first second i = second i
both_bytes (x ∷ xs) ys first second zero = first zero
both_bytes (x ∷ xs) ys first second (suc i) = both_bytes xs ys (λ j. first (suc j)) second i

-- if no size was found
pub none_sized : (bytes : List ℕ) (lsn offset : ℕ) (found : Option ℕ) (B : Type 0) → AreBytes bytes → size_in (next_at lsn offset (drop offset bytes)) ≡ Ok found → IfNone found (B → HasNoFrame bytes lsn offset)
none_sized bytes lsn offset None B fits e = λ _ place r size there.
    no_frame_none (next_at lsn offset (drop offset bytes)) r size e (moved lsn place offset (drop offset bytes) r size (AreBytes-drop offset bytes fits) there)
none_sized bytes lsn offset (Some size) B fits e = tt

pub fault_sized : (bytes : List ℕ) (lsn offset : ℕ) (f : Fault) → AreBytes bytes → size_in (next_at lsn offset (drop offset bytes)) ≡ Err f → HasNoFrame bytes lsn offset
fault_sized bytes lsn offset f fits e place r size there =
    no_frame_fault (next_at lsn offset (drop offset bytes)) r size f e (moved lsn place offset (drop offset bytes) r size (AreBytes-drop offset bytes fits) there)

-- what was read to the end of the bytes, if a frame did not end it
pub read_to_end : (bytes : List ℕ) (read : Result Stretch Fault) → IfOk read (λ x. x.end < length bytes → HasNoFrame bytes (x.lsn + length x.offsets) x.end) → IfOk read (λ x. HasNoFrame bytes (x.lsn + length x.offsets) x.end)
read_to_end bytes (Err e) h = tt
read_to_end bytes (Ok x) h =
    elim (leb_tells (length bytes) x.end) [
      | inl p ↦ none_left bytes (x.lsn + length x.offsets) x.end p.1
      | inr p ↦ h p.1
    ]

-- there is room for LSNs after a header, and after the first frames
pub room_behind : (begins : LogStart) (bytes : List ℕ) → AreBytes bytes → start_at bytes ≡ Some begins → lsn_before begins < 2 ^ 63
room_behind begins bytes fits starts = start_small begins (header_taken bytes begins fits starts).fits

-- the first frames, cut after the last
frames_rise : (bytes : List ℕ) (lsn from : ℕ) (offsets : List ℕ) (to : ℕ) → AreFrames bytes lsn from offsets to → from ≤ to
frames_rise bytes lsn from [] to frames = omega (arith, frames)
frames_rise bytes lsn from (offset ∷ offsets) to frames = omega (arith, frames_rise bytes (suc lsn) (from + frames.2) offsets to frames.4)

frames_cut : (bytes : List ℕ) (lsn from : ℕ) (offsets : List ℕ) (to : ℕ) → AreBytes bytes → AreFrames bytes lsn from offsets to → AreFrames (take to bytes) lsn from offsets to
frames_cut bytes lsn from [] to fits frames = frames
frames_cut bytes lsn from (offset ∷ offsets) to fits frames =
    let r = frames.1 in
    let size = frames.2 in
    let here = drop from bytes in
    let found = next_is lsn from here r size frames.3 in
    let one = found_frame lsn here r size (AreBytes-drop from bytes fits) found in
    let rise = frames_rise bytes (suc lsn) (from + size) offsets to frames.4 in
    let long : length (frame r lsn) ≡ size = omega (arith, ap length one.0, length-append (frame r lsn) (drop size here), length-drop size here, found.size_is, found.whole) in
    let behind = take (to - from - size) (drop size here) in
    let cut : drop from (take to bytes) ≡ frame r lsn ++ behind =
    ap (λ n. drop from (take n bytes)) (omega (arith, rise)) ∙ drop-take from (to - from) bytes ∙ ap₂ (λ n (t : List ℕ). take n t) (omega (arith, rise, long)) one.0 ∙ take-append-add (frame r lsn) (drop size here) (to - from - size) in
    let there : next_at lsn from (drop from (take to bytes)) ≡ Ok (Some (r, size)) =
    ap (next_at lsn from) cut ∙ frame_next r lsn from behind one.1 one.2 ∙ ap (λ n. Ok (Some (r, n))) (omega (arith, long, length-append (to_be_bytes w32 (length (body r lsn))) (body r lsn))) in
    (frames.0, r, size, there, frames_cut bytes (suc lsn) (from + size) offsets to fits frames.4)

pub first_cut : (bytes : List ℕ) (s : Stretch) → AreBytes bytes → BeginsLog bytes s → BeginsCut bytes s
first_cut bytes s fits (begins, one) =
    let header = header_taken bytes begins fits one.starts in
    let n = header_bytes begins in
    let whole : s.end ≡ length (take s.end bytes) = omega (arith, length-take s.end bytes, one.frames.room) in
    let within : n ≤ s.end = omega (arith, one.begin, one.frames.long) in
    let text : take s.end bytes ≡ header_of begins ++ take (s.end - n) (drop n bytes) =
    ap₂ (λ k (t : List ℕ). take k t) (omega (arith, within, header_length begins)) header.front ∙ take-append-add (header_of begins) (drop n bytes) (s.end - n) in (
      (
        begins,
        record {
          starts = ap start_at text ∙ start_again begins (take (s.end - n) (drop n bytes)) header.fits;
          frames = record { frames = frames_cut bytes s.lsn s.begin s.offsets s.end fits one.frames.frames; room = omega (arith, whole); long = one.frames.long; low = one.frames.low };
          begin = one.begin;
          lsn = one.lsn;
        },
      ),
      whole,
    )
