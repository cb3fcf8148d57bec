-- What the first bytes of a log determine, whatever follows them.
use Rattle.std.proofs.Common.{◌≡◌, ◌≢◌, ℕ, ◌+◌, ◌<◌, ◌≤◌, ◌^◌, List, ◌++◌, length, take, drop, map, Some, None, Err, sym, ap, subst, ◌∙◌, append_assoc, arith, inl, inr, length-append}
use Rattle.std.specs.Int.{w32, from_be_bytes}
use Rattle.std.proofs.lemmas.List.{drop-append-le, length-drop, length-map, take-append-drop, take-append-le, take_at}
use Rattle.page.proofs.BigEndian.{AreBytes, AreBytes-drop}
use Rattle.page.specs.declared.fault.Fault.{Fault}
use Rattle.page.specs.declared.fault.Fault.TheVariants.{NoResource, BadLogHeader, BadLength, BadRecord, BadLsn}
use Rattle.log_laws.specs.declared.start.LogStart.{LogStart}
use Rattle.log_laws.specs.declared.start.LogStart.TheVariants.{Version1, Version2}
use Rattle.wal.specs.declared.stretch.Stretch.{Stretch}
use Rattle.log_laws.specs.Records.{lsn_before}
use Rattle.wal.specs.Headers.{header_of, header_bytes, FitsStart, start_at}
use Rattle.wal.specs.Frames.{length_of, body_of, next_at, record_of, Fails}
use Rattle.wal.specs.Reads.{spellings, IsWhole, HasFault, HasFaultBehind, Cause}
use Rattle.wal.specs.Stretches.{AreFrames, AreFirst}
use Rattle.wal.proofs.Headers.{start_small, start_again, header_length, header_room, header_taken}
use Rattle.wal.proofs.Whole.{next_fault}
use Rattle.wal.proofs.Stretches.{frames_spelled}
use Rattle.wal.specs.declared.sizes.TheConstants.{BASED_HEADER_BYTES}

-- the length that a frame says, and its body
length_stays : (bytes more : List ℕ) → 4 ≤ length bytes → length_of (bytes ++ more) ≡ length_of bytes
length_stays bytes more h = ap (from_be_bytes w32) (take-append-le 4 bytes more h)

body_stays : (bytes more : List ℕ) → IsWhole bytes → body_of (bytes ++ more) ≡ body_of bytes
body_stays bytes more whole =
    ap (λ n. take n (drop 4 (bytes ++ more))) (length_stays bytes more (omega (arith, whole.2)))
    ∙ ap (take (length_of bytes)) (drop-append-le 4 bytes more (omega (arith, whole.2)))
    ∙ take-append-le (length_of bytes) (drop 4 bytes) more (omega (arith, whole.2, length-drop 4 bytes))

whole_stays : (bytes more : List ℕ) → IsWhole bytes → IsWhole (bytes ++ more)
whole_stays bytes more whole =
    let same = length_stays bytes more (omega (arith, whole.2)) in
    (omega (arith, whole.0, same), omega (arith, whole.1, same), omega (arith, whole.2, same, length-append bytes more))

-- a fault
fault_stays : (e : Fault) (lsn offset : ℕ) (bytes more : List ℕ) → HasFault e lsn offset bytes → HasFault e lsn offset (bytes ++ more)
fault_stays (BadLength place) lsn offset bytes more h =
    let same = length_stays bytes more h.1 in
    (h.0, omega (arith, h.1, length-append bytes more), elim (h.2) [ inl low ↦ inl (omega (arith, low, same)) | inr high ↦ inr (omega (arith, high, same)) ])
fault_stays (BadRecord place) lsn offset bytes more h =
    (h.0, whole_stays bytes more h.1, λ r n fits lt same. h.2 r n fits lt (sym (body_stays bytes more h.1) ∙ same))
fault_stays (BadLsn place) lsn offset bytes more (at, whole, r, n, fits, lt, same, wrong) =
    (at, whole_stays bytes more whole, r, n, fits, lt, body_stays bytes more whole ∙ same, wrong)
fault_stays e lsn offset bytes more h = absurd h

-- that there is no header, if there are bytes enough for one
pub no_header : (bytes more : List ℕ) → BASED_HEADER_BYTES ≤ length bytes → start_at bytes ≡ None → (begins : LogStart) (rest : List ℕ) → FitsStart begins → bytes ++ more ≢ header_of begins ++ rest
no_header bytes more long none begins rest fits text =
    let n = header_bytes begins in
    let within : n ≤ length bytes = omega (arith, long, at_most begins) in
    let front : take n bytes ≡ header_of begins = sym (take-append-le n bytes more within) ∙ ap (take n) text ∙ take_at (header_of begins) rest n (header_length begins) in
    let whole : bytes ≡ header_of begins ++ drop n bytes = sym (take-append-drop n bytes) ∙ ap (λ (t : List ℕ). t ++ drop n bytes) front in
    let both : None ≡ Some begins = sym none ∙ ap start_at whole ∙ start_again begins (drop n bytes) fits in
    absurd cc
  where
    at_most : (start : LogStart) → header_bytes start ≤ BASED_HEADER_BYTES
    at_most Version1 = omega arith
    at_most (Version2 base) = omega arith

-- a fault after the first frames is the log's
pub first_fault : (begins : LogStart) (bytes more : List ℕ) (s : Stretch) (e : Fault) → AreBytes bytes → length bytes < 2 ^ 63 → AreFirst begins bytes s → next_at (s.lsn + length s.offsets) s.end (drop s.end bytes) ≡ Err e
    → HasFaultBehind (bytes ++ more) e
first_fault begins bytes more s e fits short one wrong =
    let header = header_taken bytes begins fits one.starts in
    let n = header_bytes begins in
    let next = lsn_before begins + 1 in
    let records = map (record_of bytes) s.offsets in
    let tail = drop s.end bytes in
    let frames = subst (λ at. AreFrames bytes s.lsn at s.offsets s.end) one.begin one.frames.frames in
    let spelled = frames_spelled bytes next n s.offsets s.end fits (subst (λ k. AreFrames bytes k n s.offsets s.end) one.lsn frames) in
    let count : length records ≡ length s.offsets = length-map s.offsets (record_of bytes) in
    let behind : drop n (bytes ++ more) ≡ drop n bytes ++ more = drop-append-le n bytes more (omega (arith, header_room begins bytes (drop n bytes) header.front)) in
    let wrong_here : HasFault e (s.lsn + length s.offsets) s.end (tail ++ more) = fault_stays e (s.lsn + length s.offsets) s.end tail more (next_fault (s.lsn + length s.offsets) s.end tail e (AreBytes-drop s.end bytes fits) wrong) in
    let number : s.lsn + length s.offsets ≡ next + length records = omega (arith, one.lsn, count) in
    let place : s.end ≡ n + length (spellings next records) = omega (arith, ap length spelled.0, length-append (spellings next records) tail, length-drop n bytes, length-drop s.end bytes, one.frames.room, one.frames.long, one.begin) in
    record {
      begins = begins;
      starts = header.fits;
      front =
          ap (λ (t : List ℕ). t ++ more) header.front ∙ append_assoc (header_of begins) (drop n bytes) more ∙ ap (λ (t : List ℕ). header_of begins ++ t) (sym behind);
      behind = record {
        records = records;
        rest = tail ++ more;
        text = behind ∙ ap (λ (t : List ℕ). t ++ more) spelled.0 ∙ append_assoc (spellings next records) tail more;
        each = spelled.1;
        few = omega (arith, count, one.frames.long, one.frames.room, short, start_small begins header.fits);
        fault = subst (λ k. HasFault e (next + length records) k (tail ++ more)) place (subst (λ k. HasFault e k s.end (tail ++ more)) number wrong_here);
      };
    }

pub first_cause : (begins : LogStart) (bytes more : List ℕ) (s : Stretch) (e : Fault) → AreBytes bytes → length bytes < 2 ^ 63 → AreFirst begins bytes s → Fails e (next_at (s.lsn + length s.offsets) s.end (drop s.end bytes))
    → Cause (bytes ++ more) e
first_cause begins bytes more s NoResource fits short one wrong = tt
first_cause begins bytes more s BadLogHeader fits short one wrong = absurd (first_fault begins bytes more s BadLogHeader fits short one wrong).behind.fault
first_cause begins bytes more s e fits short one wrong = first_fault begins bytes more s e fits short one wrong
