-- Where the frames of a log are in its bytes.
use Rattle.std.proofs.Common.{ℕ, suc, ◌≡◌, ◌+◌, ◌≤◌, List, [], ◌∷◌, ◌++◌, length, refl, sym, ap, ◌∙◌, inl, inr, arith, append_assoc, append-nil, length-append}
use Rattle.std.specs.Prelude.{nat_lt}
use Rattle.std.proofs.lemmas.Bool.{cases_Bool}
use Rattle.wal.specs.Headers.{header_bytes, header_of}
use Rattle.log_laws.specs.Records.{LogRecord, History, start, ◌▸◌, ◌▸▸◌, LogContent, history, last_lsn, lsn_before, first}
use Rattle.wal.specs.Reads.{Reads, spellings, log_text}
use Rattle.wal.specs.Spelling.{frame}
use Rattle.wal.proofs.Headers.{header_length}
use Rattle.log_laws.proofs.Histories.{first_more, record_above, record_within, size_of_first}
use Rattle.dump.specs.LogLines.{place_behind, FramesStandThere}

-- BYTES
-- a header, and the frames of a log after it
text_of : (header : List ℕ) → History → List ℕ
text_of header (start base) = header
text_of header (log ▸ r) = text_of header log ++ frame r (suc (last_lsn log))

text_after : (header : List ℕ) (log : History) (rs : List LogRecord) → text_of header (log ▸▸ rs) ≡ text_of header log ++ spellings (suc (last_lsn log)) rs
unfolding text_of
text_after header log [] = sym (append-nil (text_of header log))
text_after header log (r ∷ rs) =
    let lsn = suc (last_lsn log) in
    let next : suc lsn ≡ lsn + 1 = omega arith in
    text_after header (log ▸ r) rs ∙ append_assoc (text_of header log) (frame r lsn) (spellings (suc lsn) rs)
    ∙ ap (λ n. text_of header log ++ (frame r lsn ++ spellings n rs)) next

-- they are the bytes of a log
text_of_log : (log : LogContent) → log_text log ≡ text_of (header_of log.begins) (history log)
unfolding text_of
text_of_log log =
    let next : lsn_before log.begins + 1 ≡ suc (lsn_before log.begins) = omega arith in
    ap (λ n. header_of log.begins ++ spellings n log.records) next ∙ sym (text_after (header_of log.begins) (start (lsn_before log.begins)) log.records)

size_of_text : (header : List ℕ) (log : History) → length (text_of header log) ≡ place_behind (length header) log
unfolding text_of
size_of_text header (start base) = refl
size_of_text header (log ▸ r) = omega (arith, size_of_text header log, length-append (text_of header log) (frame r (suc (last_lsn log))))

-- a part of a log is at the front
text_within : (header : List ℕ) (n : ℕ) (log : History) → (more : List ℕ) × (text_of header log ≡ text_of header (first n log) ++ more)
unfolding text_of
text_within header n (start base) = ([], sym (append-nil header))
text_within header n (log ▸ r) =
    elim (cases_Bool (nat_lt (last_lsn log) n)) [
      | inl e ↦ rw e ([], sym (append-nil (text_of header (log ▸ r))))
      | inr e ↦
          (let (more, is) = text_within header n log in
          let behind = frame r (suc (last_lsn log)) in
          rw e (more ++ behind, ap (λ text. text ++ behind) is ∙ append_assoc (text_of header (first n log)) more behind))
    ]

-- PLACES
-- after all of a log that was read
pub place_behind_all : (bytes : List ℕ) (log : LogContent) (torn : ℕ) → Reads bytes log torn → place_behind (header_bytes log.begins) (history log) ≤ length bytes
place_behind_all bytes log torn reads =
    let header = header_of log.begins in
    let size = ap (λ n. place_behind n (history log)) (header_length log.begins) in
    omega (arith, size, size_of_text header (history log), ap length (text_of_log log), ap length reads.text, length-append (log_text log) reads.tail)

-- in a part of the log
pub place_within : (header n : ℕ) (log : History) → place_behind header (first n log) ≤ place_behind header log
place_within header n (start base) = omega arith
place_within header n (log ▸ r) =
    elim (cases_Bool (nat_lt (last_lsn log) n)) [
      | inl e ↦ rw e (omega arith)
      | inr e ↦ rw e (omega (arith, place_within header n log))
    ]

-- the frame of the next record is there
pub frames_stand_there : FramesStandThere
unfolding text_of
frames_stand_there bytes log torn lsn r reads there =
    let whole = history log in
    let header = header_of log.begins in
    let before = first lsn whole in
    let size : last_lsn before ≡ lsn = size_of_first lsn whole (omega (arith, record_above whole (lsn + 1) r there)) (omega (arith, record_within whole (lsn + 1) r there)) in
    let own : suc (last_lsn before) ≡ lsn + 1 = omega (arith, size) in
    let next = ap (text_of header) (first_more whole lsn r there) in
    let (more, is) = text_within header (lsn + 1) whole in
    let front = text_of header before in
    let text : bytes ≡ front ++ (frame r (lsn + 1) ++ (more ++ reads.tail)) =
    reads.text ∙ ap (λ t. t ++ reads.tail) (text_of_log log ∙ is ∙ ap (λ t. t ++ more) next)
    ∙ append_assoc (text_of header (before ▸ r)) more reads.tail
    ∙ append_assoc front (frame r (suc (last_lsn before))) (more ++ reads.tail)
    ∙ ap (λ n. front ++ (frame r n ++ (more ++ reads.tail))) own in
    record {
      front = front;
      rest = more ++ reads.tail;
      is = text;
      place_is = size_of_text header before ∙ ap (λ n. place_behind n before) (header_length log.begins);
    }
