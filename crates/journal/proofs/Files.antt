-- A log file that ends at any byte reads as the log up to an LSN.
use Rattle.std.proofs.Common.{◌≡◌, ◌<◌, ◌≤◌, ◌+◌, ◌-◌, ◌^◌, ℕ, zero, suc, List, [], ◌∷◌, ◌++◌, length, take, drop, refl, sym, ap, ap₂, subst, ◌∙◌, inl, inr, arith, append_assoc, append-nil, length-append}
use Rattle.std.specs.List.{AllByRecursion}
use Rattle.std.specs.Int.{w32, to_be_bytes, from_be_bytes}
use Rattle.std.proofs.lemmas.Bool.{cases_lt}
use Rattle.std.proofs.lemmas.List.{take-append-le, length-take, take-append-drop}
use Rattle.log_laws.specs.Records.{LogRecord, LogContent, history, ◌⧺◌, lsn_before, up_to, last_lsn}
use Rattle.log_laws.specs.Meaning.{BasePages}
use Rattle.wal.specs.Spelling.{body, frame, Fits}
use Rattle.wal.specs.Headers.{header_of, FitsStart}
use Rattle.wal.specs.Frames.{length_of}
use Rattle.wal.specs.Reads.{spellings, log_text, IsTorn, Reads}
use Rattle.log_laws.proofs.Histories.{size_of_log}
use Rattle.wal.proofs.Whole.{body_size, frame_length}
use Rattle.journal.specs.Runs.{Run, opened, appended, reported, log_before, content_of, log_of, IsRun}
use Rattle.journal.specs.Files.{FileReads}
use Rattle.journal.specs.Traces.{run_of, forced, left_log, ForcedFileReads}
use Rattle.journal.proofs.Traces.{forced_size}
use Rattle.journal.proofs.Runs.{log_is}

-- LISTS
-- if a list is divided at two places, the later place is in what follows the earlier one
split : (xs ys zs ws : List ℕ) → xs ++ ys ≡ zs ++ ws → length xs ≤ length zs → (more : List ℕ) × (zs ≡ xs ++ more) × (ys ≡ more ++ ws)
split [] ys zs ws e le = (zs, refl, e)
split (x ∷ xs) ys [] ws e le = absurd (omega (arith, le))
split (x ∷ xs) ys (z ∷ zs) ws e le =
    let same : z ≡ x = cc in
    let rest : xs ++ ys ≡ zs ++ ws = cc in
    let m = split xs ys zs ws rest (omega (arith, le)) in
    (m.0, ap₂ (λ (b : ℕ) (bs : List ℕ). b ∷ bs) same m.1, m.2)

take_past : {X : Type 0} (xs ys : List X) (k : ℕ) → take (length xs + k) (xs ++ ys) ≡ xs ++ take k ys
take_past [] ys k = (let e : 0 + k ≡ k = omega arith in ap (λ n. take n ys) e)
take_past {X = X} (x ∷ xs) ys k = (let e : suc (length xs) + k ≡ suc (length xs + k) = omega arith in ap (λ n. take n (x ∷ (xs ++ ys))) e) ∙ ap (λ (zs : List X). x ∷ zs) (take_past xs ys k)

all_append : (xs ys : List LogRecord) → AllByRecursion Fits xs → AllByRecursion Fits ys → AllByRecursion Fits (xs ++ ys)
all_append [] ys p q = q
all_append (x ∷ xs) ys p q = (p.0, all_append xs ys p.1 q)

pub all_taken : (k : ℕ) (xs : List LogRecord) → AllByRecursion Fits xs → AllByRecursion Fits (take k xs)
all_taken zero xs p = tt
all_taken (suc k) [] p = tt
all_taken (suc k) (x ∷ xs) p = (p.0, all_taken k xs p.1)

pub spellings_append : (lsn : ℕ) (xs ys : List LogRecord) → spellings lsn (xs ++ ys) ≡ spellings lsn xs ++ spellings (lsn + length xs) ys
spellings_append lsn [] ys = ap (λ n. spellings n ys) (omega arith)
spellings_append lsn (x ∷ xs) ys =
    ap (λ (rest : List ℕ). frame x lsn ++ rest) (spellings_append (lsn + 1) xs ys ∙ ap (λ n. spellings (lsn + 1) xs ++ spellings n ys) (omega arith))
    ∙ sym (append_assoc (frame x lsn) (spellings (lsn + 1) xs) (spellings (lsn + length (x ∷ xs)) ys))

-- FRAMES
-- a frame that is cut off is torn
torn_frame : (r : LogRecord) (lsn : ℕ) (rest bytes missing : List ℕ) → Fits r → frame r lsn ++ rest ≡ bytes ++ missing → length bytes < length (frame r lsn) → IsTorn bytes
torn_frame r lsn rest bytes missing fits e lt =
    elim (cases_lt (length bytes) 4) [
      | inl short ↦ inl short
      | inr long ↦
          (let front : take 4 (bytes ++ missing) ≡ take 4 bytes = take-append-le 4 bytes missing long in
          let says : length_of bytes ≡ length (body r lsn) = ap (λ (xs : List ℕ). from_be_bytes w32 xs) (sym front) ∙ ap length_of (sym e) ∙ frame_length r lsn rest fits in
          let size = body_size r lsn fits in
          let whole : length (frame r lsn) ≡ 4 + length (body r lsn) = length-append (to_be_bytes w32 (length (body r lsn))) (body r lsn) in
          inr (long, omega (arith, says, size.0), omega (arith, says, size.1), omega (arith, says, whole, lt)))
    ]

-- this many records are whole, and the rest is torn
pub record Whole (lsn : ℕ) (rs : List LogRecord) (bytes : List ℕ) : Type 0 where
  pub count : ℕ
  pub tail : List ℕ
  pub some : count ≤ length rs
  pub text : bytes ≡ spellings lsn (take count rs) ++ tail
  pub torn_tail : IsTorn tail

pub whole_records : (lsn : ℕ) (rs : List LogRecord) (bytes missing : List ℕ) → AllByRecursion Fits rs → spellings lsn rs ≡ bytes ++ missing → Whole lsn rs bytes
whole_records lsn [] [] missing fits e = record { count = 0; tail = []; some = omega arith; text = refl; torn_tail = inl (omega arith) }
whole_records lsn [] (b ∷ bytes) missing fits e = absurd (cc)
whole_records lsn (r ∷ rs) bytes missing fits e =
    elim (cases_lt (length bytes) (length (frame r lsn))) [
      | inl short ↦ record { count = 0; tail = bytes; some = omega arith; text = refl; torn_tail = torn_frame r lsn (spellings (lsn + 1) rs) bytes missing fits.0 e short }
      | inr long ↦
          (let m = split (frame r lsn) (spellings (lsn + 1) rs) bytes missing e long in
          let w = whole_records (lsn + 1) rs m.0 missing fits.1 m.2 in
          record {
            count = suc w.count;
            tail = w.tail;
            some = omega (arith, w.some);
            text = m.1 ∙ ap (λ (xs : List ℕ). frame r lsn ++ xs) w.text ∙ sym (append_assoc (frame r lsn) (spellings (lsn + 1) (take w.count rs)) w.tail);
            torn_tail = w.torn_tail;
          })
    ]

-- RUNS
-- the records of a run after a beginning of its log
pub record Behind (run : Run) (log : LogContent) : Type 0 where
  pub records : List LogRecord
  pub is : content_of run ≡ log ⧺ records
  pub fit : AllByRecursion Fits records

-- those that were appended since the journal was opened
abbrev pub Appended : Run → Type 0
Appended run = Behind run (log_before run)

pub appended_to : (base : BasePages) (run : Run) → IsRun base run → Appended run
appended_to base (opened log store) h = record { records = []; is = ap (λ (rs : List LogRecord). record { begins = log.begins; records = rs }) (sym (append-nil log.records)); fit = tt }
appended_to base (appended run r) h =
    let a = appended_to base run h.0 in
    record {
      records = a.records ++ r ∷ [];
      is =
          ap (λ log. log ⧺ r ∷ []) a.is
          ∙ ap (λ (rs : List LogRecord). record { begins = (log_before run).begins; records = rs }) (append_assoc (log_before run).records a.records (r ∷ []));
      fit = all_append a.records (r ∷ []) a.fit (h.1.fits, tt);
    }
appended_to base (reported run page page_lsn) h = (let a = appended_to base run h in record { records = a.records; is = a.is; fit = a.fit })

run_starts : (base : BasePages) (run : Run) → IsRun base run → FitsStart (log_before run).begins × AllByRecursion Fits (log_before run).records
run_starts base (opened log store) h = (h.starts, h.fit)
run_starts base (appended run r) h = run_starts base run h.0
run_starts base (reported run page page_lsn) h = run_starts base run h

pub run_few : (base : BasePages) (run : Run) → IsRun base run → last_lsn (log_of run) < 2 ^ 64
run_few base (opened log store) h = h.few
run_few base (appended run r) h = h.1.few
run_few base (reported run page page_lsn) h = run_few base run h

-- the bytes read as the log up to an LSN, which is not before that of the beginning
pub record ReadsBehind (run : Run) (log : LogContent) (bytes : List ℕ) : Type 0 where
  pub lsn : ℕ
  pub torn : ℕ
  pub some : last_lsn (history log) ≤ lsn
  pub within : lsn ≤ last_lsn (log_of run)
  pub reads : Reads bytes (up_to lsn (content_of run)) torn

pub reads_behind : (base : BasePages) (run : Run) (log : LogContent) (bytes missing : List ℕ) → IsRun base run → Behind run log → FitsStart log.begins × AllByRecursion Fits log.records → log_text (content_of run) ≡ bytes ++ missing → length (log_text log) ≤ length bytes
    → ReadsBehind run log bytes
reads_behind base run log bytes missing h a starts text long =
    let b : ℕ = lsn_before log.begins in
    let next : ℕ = (b + 1) + length log.records in
    let whole_text : log_text (content_of run) ≡ log_text log ++ spellings next a.records =
    ap log_text a.is ∙ ap (λ (xs : List ℕ). header_of log.begins ++ xs) (spellings_append (b + 1) log.records a.records)
    ∙ sym (append_assoc (header_of log.begins) (spellings (b + 1) log.records) (spellings next a.records)) in
    let m = split (log_text log) (spellings next a.records) bytes missing (sym whole_text ∙ text) long in
    let w = whole_records next a.records m.0 missing a.fit m.2 in
    let lsn : ℕ = last_lsn (history log) + w.count in
    let size = size_of_log log in
    let kept : up_to lsn (content_of run) ≡ log ⧺ take w.count a.records =
    ap (up_to lsn) a.is
    ∙ ap (λ n. record { begins = log.begins; records = take n (log.records ++ a.records) }) (omega (arith, size))
    ∙ ap (λ (rs : List LogRecord). record { begins = log.begins; records = rs }) (take_past log.records a.records w.count) in
    let total : last_lsn (log_of run) ≡ b + (length log.records + length a.records) =
    sym (ap last_lsn (log_is run)) ∙ ap (λ l. last_lsn (history l)) a.is ∙ size_of_log (log ⧺ a.records) ∙ ap (λ n. b + n) (length-append log.records a.records) in
    let within : lsn ≤ last_lsn (log_of run) = omega (arith, total, size, w.some) in
    let new_size : last_lsn (history (log ⧺ take w.count a.records)) ≤ lsn = omega (arith, size_of_log (log ⧺ take w.count a.records), size, length-append log.records (take w.count a.records), length-take w.count a.records) in
    record {
      lsn = lsn;
      torn = length w.tail;
      some = omega arith;
      within = within;
      reads = subst (λ l. Reads bytes l (length w.tail)) (sym kept)
          (record {
            tail = w.tail;
            text =
                m.1 ∙ ap (λ (xs : List ℕ). log_text log ++ xs) w.text ∙ sym (append_assoc (log_text log) (spellings next (take w.count a.records)) w.tail)
                ∙ ap (λ (xs : List ℕ). xs ++ w.tail)
                (append_assoc (header_of log.begins) (spellings (b + 1) log.records) (spellings next (take w.count a.records))
                ∙ ap (λ (xs : List ℕ). header_of log.begins ++ xs) (sym (spellings_append (b + 1) log.records (take w.count a.records))));
            torn_tail = w.torn_tail;
            torn_count = refl;
            starts = starts.0;
            each = all_append log.records (take w.count a.records) starts.1 (all_taken w.count a.records a.fit);
            few = omega (arith, new_size, within, run_few base run h);
          });
    }

pub file_reads : FileReads
file_reads base run bytes h f =
    let r = reads_behind base run (log_before run) bytes f.missing h (appended_to base run h) (run_starts base run h) f.text f.long in
    record { lsn = r.lsn; torn = r.torn; some = r.some; within = r.within; reads = r.reads }

-- all records of a run can be written
pub run_fits : (base : BasePages) (run : Run) → IsRun base run → FitsStart (content_of run).begins × AllByRecursion Fits (content_of run).records
run_fits base run h =
    let a = appended_to base run h in
    let starts = run_starts base run h in
    subst (λ l. FitsStart l.begins × AllByRecursion Fits l.records) (sym a.is) (starts.0, all_append (log_before run).records a.records starts.1 a.fit)

-- AFTER WHAT WAS FORCED
all_left : (k : ℕ) (xs : List LogRecord) → AllByRecursion Fits xs → AllByRecursion Fits (drop k xs)
all_left zero xs p = p
all_left (suc k) [] p = tt
all_left (suc k) (x ∷ xs) p = all_left k xs p.1

pub behind_up_to : (base : BasePages) (run : Run) (lsn : ℕ) → IsRun base run → Behind run (up_to lsn (content_of run))
behind_up_to base run lsn h =
    let log : LogContent = content_of run in
    let k : ℕ = lsn - lsn_before log.begins in
    record { records = drop k log.records; is = ap (λ (rs : List LogRecord). record { begins = log.begins; records = rs }) (sym (take-append-drop k log.records)); fit = all_left k log.records (run_fits base run h).1 }

pub forced_file_reads : ForcedFileReads
forced_file_reads base t bytes h k f =
    let run : Run = run_of t in
    let log : LogContent = left_log t (forced t) in
    let fits = run_fits base run h in
    let r = reads_behind base run log bytes f.missing h (behind_up_to base run (forced t) h) (fits.0, all_taken (forced t - lsn_before (content_of run).begins) (content_of run).records fits.1) f.text f.long in
    record { lsn = r.lsn; torn = r.torn; some = omega (arith, r.some, forced_size base t h k); within = r.within; reads = r.reads }
