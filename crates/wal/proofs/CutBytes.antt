-- A log file that was cut within a tail: its whole records are a prefix of the log and its tail.
use Rattle.std.proofs.Common.{◌≡◌, ℕ, ◌+◌, ◌^◌, ◌<◌, ◌≤◌, ◌-◌, List, [], ◌∷◌, ◌++◌, length, take, Option, Some, None, Result, Ok, refl, sym, ap, ap₂, subst, ◌∙◌, append_assoc, length-append, arith}
use Rattle.std.specs.Prelude.{All}
use Rattle.std.specs.List.{AllByRecursion}
use Rattle.std.proofs.lemmas.List.{append_cancel_left, length-take}
use Rattle.page.specs.declared.fault.Fault.{Fault}
use Rattle.page.specs.Store.{StoreContent, AreNumbered}
use Rattle.log_laws.specs.Meaning.{BasePages}
use Rattle.log_laws.specs.Records.{LogRecord, lsn_before, LogContent, history, ◌⧺◌, up_to, last_lsn}
use Rattle.log_laws.specs.Tail.{tail_of, with_tail}
use Rattle.wal.specs.Spelling.{body, frame, Fits}
use Rattle.wal.specs.Headers.{header_of, FitsStart}
use Rattle.wal.specs.Frames.{next_at}
use Rattle.wal.specs.Reads.{spellings, log_text, IsTorn}
use Rattle.log_laws.specs.Pages.{PageLaw}
use Rattle.log_laws.specs.Store.{Lawful}
use Rattle.wal.specs.Cut.{Cut, CutsSettle, CutsCompose}
use Rattle.log_laws.specs.Theorems.{Interrupted, GoesOn}
use Rattle.log_laws.proofs.Histories.{size_of_log}
use Rattle.wal.proofs.Headers.{one_start}
use Rattle.log_laws.proofs.Lists.{take-append-ge, up_to_in_tail}
use Rattle.wal.proofs.Whole.{frame_next, torn_none}
use Rattle.wal.proofs.TailFits.{tail_fits}
use Rattle.log_laws.proofs.Settled.{restart_goes_on}

-- what is read at the front
abbrev Front : Type 0
Front = Result (Option (LogRecord × ℕ)) Fault

-- two readings of the same front have the same record
same_record : (x y : LogRecord) (m n : ℕ) → ◌≡◌ {A = Front} (Ok (Some (x, m))) (Ok (Some (y, n))) → x ≡ y
same_record x y m n e = (let p : ◌≡◌ {A = LogRecord × ℕ} (x, m) (y, n) = cc in ap (λ z. z.0) p)

-- a record is not the end
never_torn : (x : LogRecord) (m : ℕ) → ◌≡◌ {A = Front} (Ok (Some (x, m))) (Ok None) → ⊥
never_torn x m e = cc

-- the first frames of the same bytes are the same
first_same : (x y : LogRecord) (lsn : ℕ) (a b : List ℕ) → Fits x → Fits y → lsn < 2 ^ 64 → frame x lsn ++ a ≡ frame y lsn ++ b → (x ≡ y) × (a ≡ b)
first_same x y lsn a b fits_x fits_y lt e =
    let same : x ≡ y = same_record x y (4 + length (body x lsn)) (4 + length (body y lsn)) (sym (frame_next x lsn 0 a fits_x lt) ∙ ap (next_at lsn 0) e ∙ frame_next y lsn 0 b fits_y lt) in
    (same, append_cancel_left (frame y lsn) a b (sym (ap (λ z. frame z lsn ++ a) same) ∙ e))

-- if the bytes of some records begin with the bytes of others, the others are a prefix of them
beginning : (lsn : ℕ) (xs ys : List LogRecord) (rest : List ℕ) → AllByRecursion Fits (take (length ys) xs) → AllByRecursion Fits ys → lsn + length ys ≤ 2 ^ 64 → spellings lsn xs ≡ spellings lsn ys ++ rest → ys ≡ take (length ys) xs
beginning lsn xs [] rest fits_x fits_y few e = refl
beginning lsn [] (y ∷ ys) rest fits_x fits_y few e =
    absurd (omega (arith, ap length e, length-append (frame y lsn ++ spellings (lsn + 1) ys) rest, length-append (frame y lsn) (spellings (lsn + 1) ys)))
beginning lsn (x ∷ xs) (y ∷ ys) rest fits_x fits_y few e =
    let both = first_same x y lsn (spellings (lsn + 1) xs) (spellings (lsn + 1) ys ++ rest) fits_x.0 fits_y.0 (omega (arith, few)) (e ∙ append_assoc (frame y lsn) (spellings (lsn + 1) ys) rest) in
    ap₂ (λ (z : LogRecord) (zs : List LogRecord). z ∷ zs) (sym both.0) (beginning (lsn + 1) xs ys rest fits_x.1 fits_y.1 (omega (arith, few)) both.1)

-- bytes that begin with these records have at least as many whole ones
as_many : (lsn : ℕ) (xs ys : List LogRecord) (more torn : List ℕ) → AllByRecursion Fits xs → AllByRecursion Fits ys → lsn + length xs ≤ 2 ^ 64 → IsTorn torn
    → spellings lsn ys ++ torn ≡ spellings lsn xs ++ more → length xs ≤ length ys
as_many lsn [] ys more torn fits_x fits_y few t e = omega arith
as_many lsn (x ∷ xs) [] more torn fits_x fits_y few t e =
    absurd
    (never_torn x (4 + length (body x lsn))
    (sym (frame_next x lsn 0 (spellings (lsn + 1) xs ++ more) fits_x.0 (omega (arith, few)))
    ∙ ap (next_at lsn 0) (sym (e ∙ append_assoc (frame x lsn) (spellings (lsn + 1) xs) more))
    ∙ torn_none lsn 0 torn t))
as_many lsn (x ∷ xs) (y ∷ ys) more torn fits_x fits_y few t e =
    let both = first_same y x lsn (spellings (lsn + 1) ys ++ torn) (spellings (lsn + 1) xs ++ more) fits_y.0 fits_x.0 (omega (arith, few))
    (sym (append_assoc (frame y lsn) (spellings (lsn + 1) ys) torn) ∙ e ∙ append_assoc (frame x lsn) (spellings (lsn + 1) xs) more) in
    omega (arith, as_many (lsn + 1) xs ys more torn fits_x.1 fits_y.1 (omega (arith, few)) t both.1)

pub spellings-append : (lsn : ℕ) (xs ys : List LogRecord) → spellings lsn (xs ++ ys) ≡ spellings lsn xs ++ spellings (lsn + length xs) ys
spellings-append lsn [] ys = ap (λ n. spellings n ys) (omega arith)
spellings-append lsn (x ∷ xs) ys =
    ap (λ (rest : List ℕ). frame x lsn ++ rest) (spellings-append (lsn + 1) xs ys ∙ ap (λ n. spellings (lsn + 1) xs ++ spellings n ys) (omega arith))
    ∙ sym (append_assoc (frame x lsn) (spellings (lsn + 1) xs) (spellings (lsn + length (x ∷ xs)) ys))

-- THE CUT
module _ (base : BasePages) (log : LogContent) (store : StoreContent) (bytes : List ℕ) (left : StoreContent) (h : Lawful base log store) (starts : FitsStart log.begins) (fits : AllByRecursion Fits log.records)
    (few : last_lsn (history log) < 2 ^ 64) (c : Cut base log store bytes left) where
  -- the LSN of the first record
  abbrev lsn : ℕ
  lsn = lsn_before log.begins + 1

  -- the cut begins as the log does
  same_start : c.whole.begins ≡ log.begins
  same_start =
      one_start c.whole.begins log.begins (spellings (lsn_before c.whole.begins + 1) c.whole.records ++ c.reads.tail) (spellings lsn log.records ++ c.written) c.reads.starts starts
      (sym (append_assoc (header_of c.whole.begins) (spellings (lsn_before c.whole.begins + 1) c.whole.records) c.reads.tail) ∙ sym c.reads.text ∙ c.begins
      ∙ append_assoc (header_of log.begins) (spellings lsn log.records) c.written)

  same_text : log_text c.whole ≡ header_of log.begins ++ spellings lsn c.whole.records
  same_text = ap (λ b. header_of b ++ spellings (lsn_before b + 1) c.whole.records) same_start

  same_base : lsn_before c.whole.begins ≡ lsn_before log.begins
  same_base = ap lsn_before same_start

  -- the cut's bytes, followed by what is missing, encode the log and its tail
  whole_first : spellings lsn (with_tail log).records ≡ spellings lsn c.whole.records ++ (c.reads.tail ++ c.missing)
  whole_first =
      append_cancel_left (header_of log.begins) (spellings lsn (with_tail log).records) (spellings lsn c.whole.records ++ (c.reads.tail ++ c.missing))
      (c.ends ∙ ap (λ (text : List ℕ). text ++ c.missing) c.reads.text ∙ append_assoc (log_text c.whole) c.reads.tail c.missing ∙ ap (λ (text : List ℕ). text ++ (c.reads.tail ++ c.missing)) same_text
      ∙ append_assoc (header_of log.begins) (spellings lsn c.whole.records) (c.reads.tail ++ c.missing))

  log_first : spellings lsn c.whole.records ++ c.reads.tail ≡ spellings lsn log.records ++ c.written
  log_first =
      append_cancel_left (header_of log.begins) (spellings lsn c.whole.records ++ c.reads.tail) (spellings lsn log.records ++ c.written)
      (sym (append_assoc (header_of log.begins) (spellings lsn c.whole.records) c.reads.tail) ∙ sym (ap (λ (text : List ℕ). text ++ c.reads.tail) same_text) ∙ sym c.reads.text ∙ c.begins
      ∙ append_assoc (header_of log.begins) (spellings lsn log.records) c.written)

  past : length log.records ≤ length c.whole.records
  past = as_many lsn log.records c.whole.records c.written c.reads.tail fits c.reads.each (omega (arith, few, size_of_log log)) c.reads.torn_tail log_first

  -- the records up to the cut have encodings
  all_fit : AllByRecursion Fits (take (length c.whole.records) (with_tail log).records)
  all_fit =
      let k : ℕ = length c.whole.records - length log.records in
      let e : take (length c.whole.records) (with_tail log).records ≡ log.records ++ take k (tail_of log) = take-append-ge (length c.whole.records) log.records (tail_of log) past in
      let less : length (log.records ++ take k (tail_of log)) ≤ length c.whole.records = omega (arith, ap length e, length-take (length c.whole.records) (with_tail log).records) in
      subst (λ xs. AllByRecursion Fits xs) (sym e)
      (tail_fits base log k (omega (arith, less, length-append log.records (take k (tail_of log)), c.reads.few, size_of_log log, size_of_log c.whole, same_base)) h.log fits)

  whole_is : c.whole ≡ up_to (last_lsn (history c.whole)) (with_tail log)
  whole_is =
      ap₂ (λ b xs. record { begins = b; records = xs }) same_start
      (beginning lsn (with_tail log).records c.whole.records (c.reads.tail ++ c.missing) all_fit c.reads.each (omega (arith, c.reads.few, size_of_log c.whole, same_base)) whole_first
      ∙ ap (λ n. take n (with_tail log).records) (omega (arith, size_of_log c.whole, same_base)))

  -- the cut is not below the log's end
  past_log : last_lsn (history log) ≤ last_lsn (history c.whole)
  past_log = omega (arith, past, size_of_log log, size_of_log c.whole, same_base)

  pub cut_interrupted : AreNumbered left.pages → Interrupted base log store (last_lsn (history c.whole)) left
  cut_interrupted numbered =
      record {
        past = past_log;
        numbered = numbered;
        master = c.master;
        count = c.count;
        pages = subst (λ l. All (PageLaw base (history l)) left.pages) whole_is c.pages;
        not_older = c.not_older;
      }

  pub cut_goes_on : AreNumbered store.pages → AreNumbered left.pages → GoesOn base log store c.whole left
  cut_goes_on numbered left_numbered =
      subst (λ l. GoesOn base log store l left) (sym whole_is) (restart_goes_on base log store (last_lsn (history c.whole)) left numbered h (cut_interrupted left_numbered))

  -- the bytes of the cut's records continue those of the log
  text_goes_on : (rest : List ℕ) → log_text c.whole ++ rest ≡ log_text log ++ (spellings (lsn + length log.records) (take (length c.whole.records - length log.records) (tail_of log)) ++ rest)
  text_goes_on rest =
      let k : ℕ = length c.whole.records - length log.records in
      let e : c.whole ≡ log ⧺ take k (tail_of log) =
      whole_is ∙ up_to_in_tail (last_lsn (history c.whole)) log past_log ∙ ap (λ n. log ⧺ take n (tail_of log)) (omega (arith, size_of_log log, size_of_log c.whole, same_base)) in
      let f : log_text c.whole ≡ header_of log.begins ++ (spellings lsn log.records ++ spellings (lsn + length log.records) (take k (tail_of log))) =
      ap log_text e ∙ ap (λ (x : List ℕ). header_of log.begins ++ x) (spellings-append lsn log.records (take k (tail_of log))) in
      ap (λ (x : List ℕ). x ++ rest) f ∙ simp append_assoc

  pub cut_again : AreNumbered store.pages → AreNumbered left.pages → (later : List ℕ) (later_left : StoreContent) → Cut base c.whole left later later_left → Cut base log store later later_left
  cut_again numbered left_numbered later later_left d =
      let g = cut_goes_on numbered left_numbered in
      record {
        written = spellings (lsn + length log.records) (take (length c.whole.records - length log.records) (tail_of log)) ++ d.written;
        missing = d.missing;
        begins = d.begins ∙ text_goes_on d.written;
        ends = sym (ap log_text g.same_log) ∙ d.ends;
        whole = d.whole;
        torn = d.torn;
        reads = d.reads;
        master = d.master ∙ c.master;
        count = d.count ∙ c.count;
        pages = d.pages;
        not_older = λ i p lt. omega (arith, c.not_older i p lt, d.not_older i p (omega (arith, c.count, lt)));
      }

-- a restart continues from what the cut leaves, since its records are a prefix
pub cuts_settle : CutsSettle
cuts_settle base log store text torn bytes left read numbered left_numbered h c = cut_goes_on base log store bytes left h read.starts read.each read.few c numbered left_numbered

pub cuts_compose : CutsCompose
cuts_compose base log store text torn bytes left read numbered left_numbered h c later later_left d =
    cut_again base log store bytes left h read.starts read.each read.few c numbered left_numbered later later_left d
