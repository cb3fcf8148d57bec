-- The records before a mark are the first of the log, and those of a piece come next.
use Rattle.std.proofs.Common.{◌≡◌, ℕ, suc, ◌+◌, ◌-◌, ◌<◌, ◌≤◌, List, [], ◌∷◌, ◌++◌, length, take, drop, Result, Ok, Err, Some, cond, eqb, sym, ap, ap₂, ◌∙◌, append_assoc, arith, inr, length-append}
use Rattle.std.proofs.lemmas.List.{append-nil, nil_from_length, take-append-drop}
use Rattle.page.specs.declared.fault.Fault.{Fault}
use Rattle.log_laws.specs.declared.start.LogStart.{LogStart}
use Rattle.log_laws.specs.Records.{LogRecord, lsn_before, LogContent, History, start, ◌▸◌, ◌▸▸◌, history, last_lsn, base_lsn, record_at, ◌⧺◌}
use Rattle.wal.specs.Headers.{header_of, header_bytes, start_at}
use Rattle.wal.specs.Frames.{frames_at, log_at, log_from, frames_behind, as_log, ◌>>=◌}
use Rattle.wal.specs.Reads.{spellings, log_text, Reads}
use Rattle.wal.proofs.Headers.{header_dropped, start_again, one_start}
use Rattle.wal.proofs.Loop.{with_front}
use Rattle.wal.proofs.Whole.{frames_on, log_again, ok_is}
use Rattle.log_laws.proofs.Histories.{after-append, record_in_front, record_none, size-after, size_of_log, base_of_log}
use Rattle.pieces.specs.Pieces.{PiecesBelong}
use Rattle.pieces.proofs.Pieces.{frames_long}

-- if records are read before others, the others come after them
in_front : (front : List LogRecord) (read : Result (List LogRecord × ℕ) Fault) (records : List LogRecord) (torn : ℕ) → with_front front read ≡ Ok (records, torn) → (more : List LogRecord) × (records ≡ front ++ more)
in_front front (Ok x) records torn e = (x.0, sym (ap (λ (p : List LogRecord × ℕ). p.0) (ok_is (front ++ x.0, x.1) (records, torn) e)))
in_front front (Err f) records torn e = absurd cc

-- what a header and the frames after it are read as
read_behind : (begins : LogStart) (read : Result (List LogRecord × ℕ) Fault) (log : LogContent) (torn : ℕ) → (read >>= λ x. Ok (as_log begins x)) ≡ Ok (log, torn) → read ≡ Ok (log.records, torn)
read_behind begins (Ok x) log torn e =
    let same = ok_is (as_log begins x) (log, torn) e in
    ap₂ (λ (rs : List LogRecord) n. Ok (rs, n)) (ap (λ (p : LogContent × ℕ). p.0.records) same) (ap (λ (p : LogContent × ℕ). p.1) same)
read_behind begins (Err f) log torn e = absurd cc

module _ (text : List ℕ) (log : LogContent) (torn : ℕ) (whole : Reads text log torn) (before : LogContent) (offset : ℕ) (reads : Reads (take offset text) before 0) where
  abbrev rest : List ℕ
  rest = drop offset text

  text_is : text ≡ log_text before ++ rest
  text_is =
      sym (take-append-drop offset text)
      ∙ ap (λ (t : List ℕ). t ++ rest) (reads.text ∙ ap (λ (t : List ℕ). log_text before ++ t) (nil_from_length reads.tail reads.torn_count) ∙ append-nil (log_text before))

  parts : text ≡ header_of before.begins ++ (spellings (lsn_before before.begins + 1) before.records ++ rest)
  parts = text_is ∙ append_assoc (header_of before.begins) (spellings (lsn_before before.begins + 1) before.records) rest

  pub same_start : log.begins ≡ before.begins
  same_start =
      one_start log.begins before.begins (spellings (lsn_before log.begins + 1) log.records ++ whole.tail) (spellings (lsn_before before.begins + 1) before.records ++ rest) whole.starts reads.starts
      (sym (append_assoc (header_of log.begins) (spellings (lsn_before log.begins + 1) log.records) whole.tail) ∙ sym whole.text ∙ parts)

  pub records_begin : (more : List LogRecord) × (log.records ≡ before.records ++ more)
  unfolding log_at
  records_begin =
      let begins = before.begins in
      let behind : drop (header_bytes begins) text ≡ spellings (lsn_before begins + 1) before.records ++ rest =
      ap (drop (header_bytes begins)) parts ∙ header_dropped begins (spellings (lsn_before begins + 1) before.records ++ rest) in
      let starts : start_at text ≡ Some begins = ap start_at parts ∙ start_again begins (spellings (lsn_before begins + 1) before.records ++ rest) reads.starts in
      let all : log_from text (Some begins) ≡ Ok (log, torn) = ap (log_from text) (sym starts) ∙ log_again text log torn whole in
      let frames : frames_at (length text) (lsn_before begins + 1) (header_bytes begins) (spellings (lsn_before begins + 1) before.records ++ rest) ≡ Ok (log.records, torn) =
      ap (frames_at (length text) (lsn_before begins + 1) (header_bytes begins)) (sym behind) ∙ read_behind begins (frames_behind begins text) log torn all in
      let few : length before.records ≤ length text =
      omega (
        arith,
        frames_long (lsn_before begins + 1) before.records reads.each,
        ap (λ (t : List ℕ). length t) parts,
        length-append (header_of begins) (spellings (lsn_before begins + 1) before.records ++ rest),
        length-append (spellings (lsn_before begins + 1) before.records) rest,
      ) in
      in_front before.records _ log.records torn
      (sym (frames_on (length text) (lsn_before begins + 1) (header_bytes begins) before.records rest few reads.each (omega (arith, reads.few, size_of_log before))) ∙ frames)

-- if two logs have the same records after an LSN, they still have when more records come
same_behind : (x y : History) (m : ℕ) (rs : List LogRecord) → last_lsn x ≡ last_lsn y → ((lsn : ℕ) → m < lsn → record_at x lsn ≡ record_at y lsn) → (lsn : ℕ) → m < lsn → record_at (x ▸▸ rs) lsn ≡ record_at (y ▸▸ rs) lsn
same_behind x y m [] last same lsn lt = same lsn lt
same_behind x y m (r ∷ rs) last same lsn lt =
    same_behind (x ▸ r) (y ▸ r) m rs (ap suc last) (λ n h. ap₂ (λ k o. cond (eqb n (suc k)) (Some r) o) last (same n h)) lsn lt

pub pieces_belong : PiecesBelong
pieces_belong text log torn before mark count piece left whole is goes_on =
    let next = goes_on.next in
    let split = records_begin text log torn whole (before ⧺ piece.records) (mark.offset + (count - left)) next.reads in
    let starts = same_start text log torn whole (before ⧺ piece.records) (mark.offset + (count - left)) next.reads in
    let both = history (before ⧺ piece.records) in
    let all : history log ≡ both ▸▸ split.0 =
    ap₂ (λ b (rs : List LogRecord). start (lsn_before b) ▸▸ rs) starts split.1 ∙ after-append (start (lsn_before before.begins)) (before.records ++ piece.records) split.0 in
    let parts : both ≡ history before ▸▸ piece.records = after-append (start (lsn_before before.begins)) before.records piece.records in
    let own : history piece ≡ start mark.lsn ▸▸ piece.records = ap (λ b. start (lsn_before b) ▸▸ piece.records) goes_on.begins in
    let base : base_lsn (history piece) ≡ mark.lsn = base_of_log piece ∙ ap lsn_before goes_on.begins in
    let last : last_lsn (history piece) ≡ last_lsn both = next.lsn in
    record {
      low = omega (arith, base, is.lsn, size_of_log before, base_of_log log, ap lsn_before starts);
      high = omega (arith, last, ap last_lsn all, size-after both split.0);
      each = λ lsn from to.
          ap (λ h. record_at h lsn) own
          ∙ same_behind (start mark.lsn) (history before) mark.lsn piece.records is.lsn
          (λ n lt. sym (record_none (history before) n (inr (omega (arith, lt, is.lsn))))) lsn (omega (arith, from, base))
          ∙ sym (ap (λ h. record_at h lsn) parts)
          ∙ sym (record_in_front both split.0 lsn (omega (arith, to, last)))
          ∙ sym (ap (λ h. record_at h lsn) all);
    }
