-- A log that is read frame by frame: what was read so far, and the log that it is in the end.
use Rattle.std.proofs.Common.{◌≡◌, ℕ, ◌+◌, ◌-◌, ◌^◌, ◌≤◌, ◌<◌, List, [], ◌∷◌, ◌++◌, length, take, drop, map, Option, Some, None, Result, Ok, Err, refl, sym, ap, subst, ◌∙◌, append_assoc, arith, inl}
use Rattle.std.proofs.lemmas.List.{append-nil, length-append, length-drop, length-map, length-take, take_at}
use Rattle.page.proofs.BigEndian.{AreBytes, AreBytes-drop, AreBytes-take}
use Rattle.page.specs.declared.fault.Fault.{Fault}
use Rattle.log_laws.specs.declared.start.LogStart.{LogStart}
use Rattle.wal.specs.declared.glance.Glance.{Glance}
use Rattle.wal.specs.declared.stretch.Stretch.{Stretch}
use Rattle.log_laws.specs.Records.{LogRecord, lsn_before, LogContent}
use Rattle.wal.specs.Headers.{header_of, header_bytes, start_at}
use Rattle.wal.specs.Spelling.{Fits}
use Rattle.wal.specs.Reading.{body_at}
use Rattle.wal.specs.Frames.{next_at, record_of}
use Rattle.wal.specs.Reads.{spellings, Reads}
use Rattle.wal.specs.Glances.{glance_of, seen_in}
use Rattle.wal.specs.Stretches.{AreFrames, AreFirst}
use Rattle.wal.proofs.Headers.{start_small, header_taken}
use Rattle.wal.proofs.Loop.{next_is, record_read}
use Rattle.wal.proofs.Whole.{Begins, lsn_behind, offset_behind, found_frame, log_ends, log_takes, none_torn, torn_none}
use Rattle.wal.proofs.Stretches.{frame_takes, frames_more, frames_spelled, header_within}

-- WHAT WAS SEEN
pub seen_frame : (next : Result (Option (LogRecord × ℕ)) Fault) (size : ℕ) (glance : Glance) → seen_in next ≡ Ok (Some (size, glance)) → (r : LogRecord) × (next ≡ Ok (Some (r, size))) × (glance ≡ glance_of r)
seen_frame (Err e) size glance h = absurd cc
seen_frame (Ok None) size glance h = absurd cc
seen_frame (Ok (Some x)) size glance h =
    let same : ◌≡◌ {A = ℕ × Glance} (x.1, glance_of x.0) (size, glance) = cc in
    (x.0, ap (λ (y : ℕ × Glance). Ok (Some (x.0, y.0))) same, sym (ap (λ y. y.1) same))

pub seen_none : (next : Result (Option (LogRecord × ℕ)) Fault) → seen_in next ≡ Ok None → next ≡ Ok None
seen_none (Err e) h = absurd cc
seen_none (Ok None) h = refl
seen_none (Ok (Some x)) h = absurd cc

pub seen_fault : (next : Result (Option (LogRecord × ℕ)) Fault) (e : Fault) → seen_in next ≡ Err e → next ≡ Err e
seen_fault (Err f) e h = (let same : f ≡ e = cc in ap Err same)
seen_fault (Ok x) e h = absurd cc

-- FRAME BY FRAME
-- no frame yet
pub first_empty : (begins : LogStart) (bytes : List ℕ) → AreBytes bytes → start_at bytes ≡ Some begins
    → AreFirst begins bytes (record { lsn = lsn_before begins + 1; begin = header_bytes begins; offsets = []; end = header_bytes begins })
first_empty begins bytes fits starts =
    record {
      starts = starts;
      frames = record {
        frames = refl;
        room = header_within bytes begins fits starts;
        long = omega arith;
        low = omega (arith, start_small begins (header_taken bytes begins fits starts).fits);
      };
      begin = refl;
      lsn = refl;
    }

-- one more frame
pub first_more : (begins : LogStart) (bytes : List ℕ) (s : Stretch) (r : LogRecord) (size : ℕ) → AreFirst begins bytes s → next_at (s.lsn + length s.offsets) s.end (drop s.end bytes) ≡ Ok (Some (r, size))
    → AreFirst begins bytes (record { lsn = s.lsn; begin = s.begin; offsets = s.offsets ++ s.end ∷ []; end = s.end + size })
first_more begins bytes s r size one e =
    let takes = frame_takes bytes (s.lsn + length s.offsets) s.end r size one.frames.room e in
    record {
      starts = one.starts;
      frames = record {
        frames = frames_more bytes s.lsn s.begin s.offsets s.end r size one.frames.frames e;
        room = takes.1;
        long = omega (arith, takes.0, one.frames.long, length-append s.offsets (s.end ∷ []));
        low = one.frames.low;
      };
      begin = one.begin;
      lsn = one.lsn;
    }

-- the record of that frame: its encoding is there, and it is the record at the offset
pub record NextRecord (bytes : List ℕ) (s : Stretch) (r : LogRecord) (size : ℕ) : Type 0 where
  pub there : record_of bytes s.end ≡ r
  pub fits : Fits r
  pub spelled : body_at (take (size - 4) (drop 4 (drop s.end bytes))) ≡ Some (r, s.lsn + length s.offsets)
  pub long : 13 ≤ size
  pub room : s.end + size ≤ length bytes

pub first_record : (begins : LogStart) (bytes : List ℕ) (s : Stretch) (r : LogRecord) (size : ℕ) → AreBytes bytes → AreFirst begins bytes s → next_at (s.lsn + length s.offsets) s.end (drop s.end bytes) ≡ Ok (Some (r, size))
    → NextRecord bytes s r size
first_record begins bytes s r size fits one e =
    let lsn = s.lsn + length s.offsets in
    let here = drop s.end bytes in
    let found = next_is lsn s.end here r size e in
    let takes = frame_takes bytes lsn s.end r size one.frames.room e in
    record {
      there = record_read bytes s.end lsn r found.spelled;
      fits = (found_frame lsn here r size (AreBytes-drop s.end bytes fits) found).1;
      spelled = ap (λ n. body_at (take n (drop 4 here))) (omega (arith, found.size_is)) ∙ found.spelled;
      long = takes.0;
      room = takes.1;
    }

-- THE LOG
-- the records at these offsets, as a log
abbrev pub frames_of : (begins : LogStart) (bytes offsets : List ℕ) → LogContent
frames_of begins bytes offsets = record { begins = begins; records = map (record_of bytes) offsets }

-- a log begins with the frames
first_begins : (begins : LogStart) (bytes : List ℕ) (s : Stretch) → AreBytes bytes → length bytes < 2 ^ 63 → AreFirst begins bytes s → Begins bytes begins (map (record_of bytes) s.offsets) (drop s.end bytes)
first_begins begins bytes s fits short one =
    let header = header_taken bytes begins fits one.starts in
    let n = header_bytes begins in
    let next = lsn_before begins + 1 in
    let frames = subst (λ at. AreFrames bytes s.lsn at s.offsets s.end) one.begin one.frames.frames in
    let spelled = frames_spelled bytes next n s.offsets s.end fits (subst (λ k. AreFrames bytes k n s.offsets s.end) one.lsn frames) in
    record {
      starts = header.fits;
      text_is = header.front ∙ ap (λ (t : List ℕ). header_of begins ++ t) (spelled.0);
      each = spelled.1;
      few = omega (arith, length-map s.offsets (record_of bytes), one.frames.long, one.frames.room, short, start_small begins header.fits);
    }

-- the bytes are the log of the frames if no frame is after them
pub first_reads : (begins : LogStart) (bytes : List ℕ) (s : Stretch) → AreBytes bytes → length bytes < 2 ^ 63 → AreFirst begins bytes s → next_at (s.lsn + length s.offsets) s.end (drop s.end bytes) ≡ Ok None
    → Reads bytes (frames_of begins bytes s.offsets) (length bytes - s.end)
first_reads begins bytes s fits short one none =
    let records = map (record_of bytes) s.offsets in
    let tail = drop s.end bytes in
    let b = first_begins begins bytes s fits short one in
    let lsn : s.lsn + length s.offsets ≡ lsn_behind begins records = omega (arith, one.lsn, length-map s.offsets (record_of bytes)) in
    let ended = torn_none (lsn_behind begins records) (offset_behind begins records) tail (none_torn (s.lsn + length s.offsets) s.end tail none) in
    subst (Reads bytes (frames_of begins bytes s.offsets)) (length-drop s.end bytes)
    (log_takes bytes (frames_of begins bytes s.offsets, length tail) fits short (log_ends bytes begins records tail b ended))

-- cut after the frames they are the log of the frames
pub cut_reads : (begins : LogStart) (bytes : List ℕ) (s : Stretch) → AreBytes bytes → length bytes < 2 ^ 63 → AreFirst begins bytes s → Reads (take s.end bytes) (frames_of begins bytes s.offsets) 0
cut_reads begins bytes s fits short one =
    let records = map (record_of bytes) s.offsets in
    let front = take s.end bytes in
    let header = header_taken bytes begins fits one.starts in
    let n = header_bytes begins in
    let next = lsn_before begins + 1 in
    let b = first_begins begins bytes s fits short one in
    let whole = spellings next records in
    let long : length (header_of begins ++ whole) ≡ s.end = omega (arith, ap length b.text_is, length-append (header_of begins) (whole ++ drop s.end bytes), length-append whole (drop s.end bytes), length-append (header_of begins) whole, length-drop s.end bytes, one.frames.room) in
    let text : front ≡ header_of begins ++ whole = ap (take s.end) (b.text_is ∙ sym (append_assoc (header_of begins) whole (drop s.end bytes))) ∙ take_at (header_of begins ++ whole) (drop s.end bytes) s.end long in
    let cut : Begins front begins records [] = record { starts = b.starts; text_is = text ∙ ap (λ (t : List ℕ). header_of begins ++ t) (sym (append-nil whole)); each = b.each; few = b.few } in
    log_takes front (frames_of begins bytes s.offsets, 0) (AreBytes-take s.end bytes fits) (omega (arith, length-take s.end bytes, one.frames.room, short))
    (log_ends front begins records [] cut (torn_none (lsn_behind begins records) (offset_behind begins records) [] (inl (omega arith))))
