-- What a recovery leaves of its log, if a sink fails: a prefix of the new log is a log, and with the old store a cut.
use Rattle.std.proofs.Common.{ℕ, zero, suc, ◌≡◌, ◌+◌, ◌^◌, ◌<◌, ◌≤◌, List, [], ◌∷◌, ◌++◌, All, length, take, drop, refl, sym, ap, ◌∙◌, subst, inl, inr, arith, append_assoc, append-nil, length-append, take-append-drop}
use Rattle.std.specs.List.{AllByRecursion}
use Rattle.std.specs.Int.{w32, from_be_bytes, to_be_bytes}
use Rattle.std.proofs.Math.Seq.{take-append-add}
use Rattle.std.proofs.lemmas.Bool.{cases_lt}
use Rattle.std.proofs.lemmas.List.{append_cancel_left, length-take, nil_from_length, take-append-le, take_at}
use Rattle.std.proofs.lemmas.List.Elements.{All-append, All-from_recursion, recursion_from_All}
use Rattle.page.specs.declared.fault.Fault.{Fault}
use Rattle.page.specs.declared.fault.Fault.TheVariants.{WriteLog, WriteStore}
use Rattle.page.specs.declared.page.Page.{Page}
use Rattle.page.specs.Store.{StoreContent}
use Rattle.log_laws.specs.Records.{LogRecord, History, start, ◌▸▸◌, history, last_lsn, LogContent, ◌⧺◌, lsn_before}
use Rattle.log_laws.specs.Meaning.{BasePages, replay}
use Rattle.log_laws.specs.Redo.{slots_in}
use Rattle.log_laws.specs.Tail.{tail_of, with_tail}
use Rattle.wal.specs.Frames.{length_of}
use Rattle.wal.specs.Reads.{Reads, IsTorn, spellings, log_text}
use Rattle.wal.specs.Spelling.{Fits, body, frame}
use Rattle.log_laws.specs.Pages.{PageLaw}
use Rattle.log_laws.specs.Store.{Lawful}
use Rattle.wal.specs.Cut.{Cut}
use Rattle.wal.proofs.Fields.{wide32}
use Rattle.log_laws.proofs.Histories.{after-append, first_in_front, record_in_front, size_of_log}
use Rattle.wal.proofs.Whole.{body_size}
use Rattle.device.specs.declared.traits.Sink.{Ghosts as Sink}
use Rattle.recovery.specs.Devices.{AreCutOf, Leaves, LeavesCut}
use Rattle.recovery.specs.Recovery.{AreLawful}
use Rattle.recovery.proofs.Bytes.{text_extended}
use Rattle.wal.specs.Headers.{FitsStart}

-- THE NEW LOG
-- it is read whole, with nothing torn
pub reads_extended : (bytes : List ℕ) (read : LogContent) (appended : List LogRecord) → bytes ≡ log_text (read ⧺ appended) → FitsStart read.begins → AllByRecursion Fits read.records → All Fits appended
    → last_lsn (history read) + length appended < 2 ^ 64 → Reads bytes (read ⧺ appended) 0
reads_extended bytes read appended text starts fits writable few =
    let all = read ⧺ appended in
    record {
      tail = [];
      text = text ∙ sym (append-nil (log_text all));
      torn_tail = inl (omega arith);
      torn_count = refl;
      starts = starts;
      each = recursion_from_All Fits all.records (All-append Fits read.records appended (All-from_recursion Fits read.records fits) writable);
      few = omega (arith, few, size_of_log all, size_of_log read, length-append read.records appended);
    }

-- A PREFIX OF FRAMES
-- the first bytes of a frame, fewer than the whole frame, are torn
torn_frame : (y : LogRecord) (lsn : ℕ) (front missing more : List ℕ) → Fits y → front ++ missing ≡ frame y lsn ++ more → length front < length (frame y lsn) → IsTorn front
torn_frame y lsn front missing more fits e lt =
    elim (cases_lt (length front) 4) [
      | inl few ↦ inl few
      | inr some ↦
          (let bounds = body_size y lsn fits in
          let head : take 4 front ≡ to_be_bytes w32 (length (body y lsn)) =
          sym (take-append-le 4 front missing some) ∙ ap (take 4) (e ∙ append_assoc (to_be_bytes w32 (length (body y lsn))) (body y lsn) more)
          ∙ take_at (to_be_bytes w32 (length (body y lsn))) (body y lsn ++ more) 4 refl in
          let told : length_of front ≡ length (body y lsn) = ap (from_be_bytes w32) head ∙ wide32.again (length (body y lsn)) (omega (arith, bounds.1)) in
          let whole : length (frame y lsn) ≡ 4 + length (body y lsn) = length-append (to_be_bytes w32 (length (body y lsn))) (body y lsn) in
          inr (some, omega (arith, told, bounds.0), omega (arith, told, bounds.1), omega (arith, told, whole, lt)))
    ]

-- of two prefixes of the same bytes, the longer begins with the shorter
in_front : (one more front missing : List ℕ) → one ++ more ≡ front ++ missing → length one ≤ length front → (front ≡ one ++ drop (length one) front) × (more ≡ drop (length one) front ++ missing)
in_front one more front missing e le =
    let n = length one in
    let first : take n front ≡ one = sym (take-append-le n front missing le) ∙ ap (take n) (sym e) ∙ take_at one more n refl in
    let parts : front ≡ one ++ drop n front = sym (take-append-drop n front) ∙ ap (λ (l : List ℕ). l ++ drop n front) first in
    (parts, append_cancel_left one more (drop n front ++ missing) (e ∙ ap (λ (l : List ℕ). l ++ missing) parts ∙ append_assoc one (drop n front) missing))

one_more : (one front rest texts tail : List ℕ) → front ≡ one ++ rest → rest ≡ texts ++ tail → front ≡ (one ++ texts) ++ tail
one_more one front rest texts tail e f = e ∙ ap (λ (l : List ℕ). one ++ l) f ∙ sym (append_assoc one texts tail)

-- a prefix of frames is some of the frames and a torn tail
record Cuts (lsn : ℕ) (ys : List LogRecord) (front : List ℕ) : Type 0 where
  count : ℕ
  tail : List ℕ
  text : front ≡ spellings lsn (take count ys) ++ tail
  torn : IsTorn tail

frames_cut : (lsn : ℕ) (ys : List LogRecord) (front missing : List ℕ) → AllByRecursion Fits ys → spellings lsn ys ≡ front ++ missing → Cuts lsn ys front
frames_cut lsn [] front missing fits e =
    let none : length front ≡ 0 = omega (arith, ap length e, length-append front missing) in
    record { count = 0; tail = front; text = refl; torn = inl (omega (arith, none)) }
frames_cut lsn (y ∷ ys) front missing fits e =
    elim (cases_lt (length front) (length (frame y lsn))) [
      | inl lt ↦ record { count = 0; tail = front; text = refl; torn = torn_frame y lsn front missing (spellings (lsn + 1) ys) fits.0 (sym e) lt }
      | inr le ↦
          (let parts = in_front (frame y lsn) (spellings (lsn + 1) ys) front missing e le in
          let more = frames_cut (lsn + 1) ys (drop (length (frame y lsn)) front) missing fits.1 parts.1 in
          record {
            count = suc more.count;
            tail = more.tail;
            text = one_more (frame y lsn) front (drop (length (frame y lsn)) front) (spellings (lsn + 1) (take more.count ys)) more.tail parts.0 more.text;
            torn = more.torn;
          })
    ]

each_front : (P : LogRecord → Type 0) (n : ℕ) (xs : List LogRecord) → AllByRecursion P xs → AllByRecursion P (take n xs)
each_front P zero xs h = tt
each_front P (suc n) [] h = tt
each_front P (suc n) (x ∷ xs) h = (h.0, each_front P n xs h.1)

each_behind : (P : LogRecord → Type 0) (xs ys : List LogRecord) → AllByRecursion P (xs ++ ys) → AllByRecursion P ys
each_behind P [] ys h = h
each_behind P (x ∷ xs) ys h = each_behind P xs ys h.1

-- THE PAGE LAW
-- is kept if records follow
page_law_more : (base : BasePages) (read : LogContent) (more : List LogRecord) (page : Page) → PageLaw base (history read) page → PageLaw base (history (read ⧺ more)) page
page_law_more base read more page law =
    let split : history (read ⧺ more) ≡ history read ▸▸ more = after-append (start (lsn_before read.begins)) read.records more in
    subst (λ (log : History). PageLaw base log page) (sym split)
    (record {
      within = omega (arith, law.within, ap last_lsn (sym split), size_of_log (read ⧺ more), size_of_log read, length-append read.records more);
      on_page =
          elim law.on_page [
            | inl none ↦ inl none
            | inr found ↦ inr (found.0, record_in_front (history read) more page.lsn law.within ∙ found.1, found.2)
          ];
      slots_are = law.slots_are ∙ ap (λ (log : History). slots_in (replay base log) page.number) (sym (first_in_front (history read) more page.lsn law.within));
    })

-- THE CUT
-- the bytes of a log, followed by the frames of more records
text_more : (read : LogContent) (more : List LogRecord) → log_text read ++ spellings (last_lsn (history read) + 1) more ≡ log_text (read ⧺ more)
text_more read more = text_extended read more (log_text read) (spellings (last_lsn (history read) + 1) more) (last_lsn (history read) + 1) refl refl refl

-- what is written after the log is a prefix of the frames of its tail
written_behind : (read : LogContent) (tail : List LogRecord) (out written missing : List ℕ) → out ≡ log_text read ++ written → log_text (read ⧺ tail) ≡ out ++ missing
    → spellings (last_lsn (history read) + 1) tail ≡ written ++ missing
written_behind read tail out written missing begins ends =
    append_cancel_left (log_text read) (spellings (last_lsn (history read) + 1) tail) (written ++ missing)
    (text_more read tail ∙ ends ∙ ap (λ (l : List ℕ). l ++ missing) begins ∙ append_assoc (log_text read) written missing)

-- the records of the log and of some frames after it are read, and the rest is torn
reads_cut : (read : LogContent) (tail : List LogRecord) (out written : List ℕ) → FitsStart read.begins → AllByRecursion Fits (read ⧺ tail).records → last_lsn (history (read ⧺ tail)) < 2 ^ 64 → out ≡ log_text read ++ written
    → (cut : Cuts (last_lsn (history read) + 1) tail written) → Reads out (read ⧺ take cut.count tail) (length cut.tail)
reads_cut read tail out written starts fits few begins cut =
    let kept = take cut.count tail in
    record {
      tail = cut.tail;
      text =
          begins ∙ ap (λ (l : List ℕ). log_text read ++ l) cut.text ∙ sym (append_assoc (log_text read) (spellings (last_lsn (history read) + 1) kept) cut.tail)
          ∙ ap (λ (l : List ℕ). l ++ cut.tail) (text_more read kept);
      torn_tail = cut.torn;
      torn_count = refl;
      starts = starts;
      each = subst (λ (xs : List LogRecord). AllByRecursion Fits xs) (take-append-add read.records tail cut.count) (each_front Fits (length read.records + cut.count) (read ⧺ tail).records fits);
      few = omega (arith, few, size_of_log (read ⧺ kept), size_of_log (read ⧺ tail), length-append read.records kept, length-append read.records tail, length-take cut.count tail);
    }

module _ (base : BasePages) (read : LogContent) (before : StoreContent) (lawful : Lawful base read before) (new_log : List ℕ) (reads : Reads new_log (with_tail read) 0) where
  new_log_is : new_log ≡ log_text (with_tail read)
  new_log_is = reads.text ∙ ap (λ (l : List ℕ). log_text (with_tail read) ++ l) (nil_from_length reads.tail reads.torn_count) ∙ append-nil (log_text (with_tail read))

  -- a prefix of the new log that has all of the old one
  beside_old_store : (out written missing : List ℕ) → out ≡ log_text read ++ written → new_log ≡ out ++ missing → Cut base read before out before
  beside_old_store out written missing begins goes_on =
      let tail = tail_of read in
      let ends : log_text (read ⧺ tail) ≡ out ++ missing = sym new_log_is ∙ goes_on in
      let cut = frames_cut (last_lsn (history read) + 1) tail written missing (each_behind Fits read.records tail reads.each) (written_behind read tail out written missing begins ends) in
      let kept = take cut.count tail in
      record {
        written = written;
        missing = missing;
        begins = begins;
        ends = ends;
        whole = read ⧺ kept;
        torn = length cut.tail;
        reads = reads_cut read tail out written reads.starts reads.each reads.few begins cut;
        master = refl;
        count = refl;
        pages = λ i d lt. page_law_more base read kept _ (lawful.pages i d lt);
        not_older = λ i d lt. omega arith;
      }

-- WHAT A FAULT OF A SINK LEAVES
module _ {base : BasePages} {log store : List ℕ} (bytes : AreLawful base log store) (new_log : List ℕ) (reads : Reads new_log (with_tail bytes.decoded.read) 0) where
  pub cut_of : (out written missing : List ℕ) → out ≡ log_text bytes.decoded.read ++ written → new_log ≡ out ++ missing → AreCutOf base bytes.decoded.read bytes.decoded.before out store
  cut_of out written missing begins goes_on =
      record {
        cut = record {
          first_log = log;
          first_store = store;
          first = bytes;
          left = bytes.decoded.before;
          spells = bytes.decoded.spells;
          cut = beside_old_store base bytes.decoded.read bytes.decoded.before bytes.lawful new_log reads out written missing begins goes_on;
        };
        read_is = refl;
        store_is = refl;
      }

  pub leaves_cut : {L S : Type 0} (out_log : Sink L) (a b : L) (out_store : Sink S) (c d : S) (new_store : List ℕ) (e : Fault) → Leaves out_log a b out_store c d new_log new_store e
      → LeavesCut out_log a b (record { base = base; log = log; store = store; bytes = bytes }) e
  leaves_cut out_log a b out_store c d new_store WriteLog (took, kept) =
      let out = take took.0 new_log in
      (out, took.2, λ written begins. cut_of out written (drop took.0 new_log) begins (sym (take-append-drop took.0 new_log)))
  leaves_cut out_log a b out_store c d new_store WriteStore (out, took) =
      let read = bytes.decoded.read in
      let begins : new_log ≡ log_text read ++ spellings (last_lsn (history read) + 1) (tail_of read) = new_log_is base read bytes.decoded.before bytes.lawful new_log reads ∙ sym (text_more read (tail_of read)) in
      (new_log, out, cut_of new_log (spellings (last_lsn (history read) + 1) (tail_of read)) [] begins (sym (append-nil new_log)))
  leaves_cut out_log a b out_store c d new_store e h = absurd h
