-- Stretches of a log without a checkpoint, and how they are joined.
use Rattle.std.proofs.Common.{◌≡◌, ℕ, ◌+◌, ◌-◌, ◌<◌, ◌≤◌, List, [], ◌∷◌, ◌++◌, All, Option, Some, None, true, length, length-append, drop, get_or, refl, sym, ap, ◌∙◌, subst, inl, inr, arith, append_assoc}
use Rattle.std.specs.Prelude.{IfSome, is_some}
use Rattle.std.specs.Io.KnownBytes.{Keeps}
use Rattle.std.proofs.lemmas.Bool.{cases_lt}
use Rattle.std.proofs.lemmas.List.{append-nil}
use Rattle.page.specs.declared.fault.Fault.{Fault}
use Rattle.page.specs.declared.page.Page.{Page}
use Rattle.page.specs.Store.{AreNumbered}
use Rattle.changes.specs.declared.pages.Pages.{Ghosts as Pages}
use Rattle.device.specs.Reread.{ReachGrows, ReachesTo}
use Rattle.log_laws.specs.Records.{LogRecord, LogContent, start, ◌▸▸◌, ◌⧺◌, history, base_lsn, last_lsn}
use Rattle.log_laws.proofs.Histories.{after-append, size-after, size_of_log}
use Rattle.wal.specs.declared.glance.Glance.{Glance}
use Rattle.wal.specs.Glances.{glance_of}
use Rattle.wal.specs.Spelling.{Fits}
use Rattle.pieces.specs.declared.mark.Mark.{Mark}
use Rattle.pieces.specs.Pieces.{IsMark}
use Rattle.tables.specs.Tables.{TablesContent}
use Rattle.analysis.specs.Fresh.{FoundStretch, FreshTables, HasFound, HasFoundIn, FindsInStretch, ContinuesFresh}
use Rattle.redo.specs.Inputs.{input_over}
use Rattle.redo.specs.Counted.{AreCounted}
use Rattle.redo.specs.Joined.{JoinsStretches}
use Rattle.redo.specs.Passing.{TalliesSoFar, ListEach}
use Rattle.redo.proofs.Joining.{listed_continue}
use Rattle.redo.proofs.Passing.{tables_of_all, all_listed}
use Rattle.device.specs.declared.shared.Span.{Span}
use Rattle.device.specs.Shared.{span_from, span_to}
use Rattle.passes.specs.declared.stretch.Stretch.{Stretch}
use Rattle.passes.specs.declared.fresh.ForwardScan.{ForwardScan}
use Rattle.passes.specs.Listing.{AreTalliedByAll, ScansOn, TalliedOrRefused}
use Rattle.passes.specs.Redoing.{AreTalliedUpTo}
use Rattle.passes.specs.Marks.{AreInReach}
use Rattle.passes.specs.declared.read_on.Reading.{Reading}
use Rattle.passes.specs.ReadOn.{AreMarksTo, ReadsOn, ReachesLast}
use Rattle.passes.specs.Stretches.{HasFoundSince, AreTalliedAfter, IsBegun, IsReadBy, AreReadBy, IsFitIn, SpansMarks, IsOfLog, IsStretchOf, IsFoundOf, IfRead, ForEachRead, AreFit, IsBegunStretch, KeepsScan, JoinsFound, JoinsStretch, FindsBetween, ReadsShown, ScansFor}
use Rattle.passes.proofs.ReadForward.{mark_within, with_piece}
use Rattle.passes.proofs.ReadOn.{marks_first, reach_first, reads_more, marks_joined}

-- FOUND SINCE A LOG
-- nothing yet
pub since_none : (log : LogContent) (found : FoundStretch) → HasFoundIn (start (last_lsn (history log))) found → HasFoundSince log log found
since_none log found begun = ([], sym (ap (λ (rs : List LogRecord). record { begins = log.begins; records = rs }) (append-nil log.records)), begun)

-- where the records that were found end
since_ends : (from log : LogContent) (records : List LogRecord) → log ≡ from ⧺ records → last_lsn (start (last_lsn (history from)) ▸▸ records) ≡ last_lsn (history log)
since_ends from log records is =
    omega (
      arith,
      size-after (start (last_lsn (history from))) records,
      size_of_log from,
      size_of_log (from ⧺ records),
      length-append from.records records,
      ap (λ (l : LogContent). last_lsn (history l)) is,
    )

-- the log ends no earlier
pub since_rises : (from log : LogContent) (found : FoundStretch) → HasFoundSince from log found → last_lsn (history from) ≤ last_lsn (history log)
since_rises from log found since = omega (arith, size-after (start (last_lsn (history from))) since.0, since_ends from log since.0 since.1)

-- one more record
pub since_more : (from log : LogContent) (r : LogRecord) (lsn : ℕ) (glance : Glance) (old new : FoundStretch) → FindsInStretch lsn glance old new → glance ≡ glance_of r → Fits r → last_lsn (history log) ≡ lsn → HasFoundSince from log old
    → HasFoundSince from (log ⧺ r ∷ []) new
since_more from log r lsn glance old new finds seen fits at since =
    let records = since.0 in
    let before = start (last_lsn (history from)) ▸▸ records in (
      records ++ r ∷ [],
      ap (λ (l : LogContent). l ⧺ r ∷ []) since.1 ∙ ap (λ (rs : List LogRecord). record { begins = from.begins; records = rs }) (append_assoc from.records records (r ∷ [])),
      subst (λ h. HasFoundIn h new) (sym (after-append (start (last_lsn (history from))) records (r ∷ []))) (finds before r seen fits (since_ends from log records since.1 ∙ at) since.2),
    )

-- joined to what was found in the log before
pub since_joined : (before after : LogContent) (later : FoundStretch) (old new : FreshTables) → ContinuesFresh later old new → HasFoundSince before after later → HasFound (history before) old → HasFound (history after) new
since_joined before after later old new continues since found =
    subst (λ h. HasFound h new) (with_piece before (record { begins = before.begins; records = since.0 }) ∙ ap (λ (l : LogContent). history l) (sym since.1)) (continues (history before) since.0 since.2 found)

-- THE TALLIES of a stretch
-- before its first record
pub tallied_begun : (whole before : LogContent) (images : List Page) (lsn : ℕ) (scan : TalliesSoFar) → AreNumbered images → last_lsn (history before) ≡ lsn → scan.redo_lsn ≡ lsn + 1 → scan.upto ≡ lsn
    → ((tables : TablesContent) → ListEach (length images) (lsn + 1) tables → AreCounted (input_over whole images tables) lsn scan.tallies) → AreTalliedAfter whole before images lsn scan
tallied_begun whole before images lsn scan numbered at from upto up tables each =
    let own : ListEach (length images) (lsn + 1) tables = subst (λ n. ListEach (length images) (n + 1) tables) at each in
    record {
      numbered = numbered;
      from = own.begins ∙ sym from;
      upto = omega (arith, upto);
      tallied = up tables own;
      exist = λ k r looked below there. absurd (omega (arith, looked.1, own.begins, below));
    }

-- joined to those before
module _ (whole before after : LogContent) (images : List Page) (old later new : TalliesSoFar) (within : base_lsn (history whole) ≤ last_lsn (history before)) (rises : last_lsn (history before) ≤ last_lsn (history after))
    (stretch : AreTalliedAfter whole before images (last_lsn (history after)) later) (so_far : AreTalliedByAll whole images (last_lsn (history before)) old) where
  abbrev next : TablesContent
  next = tables_of_all (length images) (last_lsn (history before) + 1)

  later_tallied : AreTalliedUpTo whole images next (last_lsn (history after)) later
  later_tallied = stretch next (all_listed (length images) (last_lsn (history before) + 1))

  pub tallies_joined : JoinsStretches old later new → new.redo_lsn ≡ old.redo_lsn → new.upto ≡ later.upto → AreTalliedByAll whole images (last_lsn (history after)) new
  tallies_joined joins from upto =
      let numbered = so_far.tallied.numbered in
      let first = base_lsn (history whole) + 1 in
      record {
        listed = so_far.listed;
        each = so_far.each;
        tallied = record {
          numbered = numbered;
          from = so_far.tallied.from ∙ sym from;
          upto = omega (arith, upto, later_tallied.upto);
          tallied =
              joins whole images so_far.listed next (last_lsn (history before)) (last_lsn (history after)) so_far.tallied.from
              (listed_continue images first (last_lsn (history before)) so_far.listed next numbered (omega arith) (omega (arith, within)) so_far.each (all_listed (length images) (last_lsn (history before) + 1)))
              rises so_far.tallied.tallied later_tallied.tallied;
          exist = λ k r looked below there.
              elim (cases_lt k (last_lsn (history before) + 1)) [
                | inl less ↦ so_far.tallied.exist k r looked less there
                | inr past ↦ later_tallied.exist k r ((λ zero. omega (arith, zero)), past) below there
              ];
        };
      }

-- JOINED OR REFUSED
-- a fault of redo stays
pub refused_stays : (whole : LogContent) (images : List Page) (lsn later : ℕ) (fault : Option Fault) (old new : TalliesSoFar) → is_some fault ≡ true → TalliedOrRefused whole images lsn fault old → TalliedOrRefused whole images later fault new
refused_stays whole images lsn later None old new some before = absurd cc
refused_stays whole images lsn later (Some e) old new some before = before

-- HOW FAR the device is read, if the bytes of a span count as read
pub span_reaches : (held : Option (List ℕ)) (from to a b offset : ℕ) → IfSome held (λ _. from ≤ a → to ≤ b) → ReachesTo held from a → ReachesTo held offset to → ReachesTo held offset b
span_reaches None from to a b offset joins far within = tt
span_reaches (Some text) from to a b offset joins far within = omega (arith, joins far, within)

-- it stays read so far
pub reach_later : (held : Option (List ℕ)) (offset a b : ℕ) → ReachGrows held a b → ReachesTo held offset a → ReachesTo held offset b
reach_later None offset a b grows far = tt
reach_later (Some text) offset a b grows far = omega (arith, grows, far)

-- WHAT IS KEPT, with one stretch more
pub keeps_scan : {old now new : ForwardScan} → KeepsScan old now → KeepsScan now new → KeepsScan old new
keeps_scan one more = record { count = more.count ∙ one.count; no_transaction_0 = λ none. more.no_transaction_0 (one.no_transaction_0 none) }

-- READ ON
-- what goes on for all pages goes on for analysis
pub finds_for : (held : Option (List ℕ)) (old new : Reading ForwardScan) → ReadsOn ScansOn held old new → ReadsOn FindsBetween held old new
finds_for held old new on text log is at = let read = on text log is at in (read.0, read.1, λ whole torn reads. (read.2 whole torn reads).0)

-- and for these
pub reads_for : (held : Option (List ℕ)) (old new : Reading ForwardScan) → ReadsOn ScansOn held old new → (images : List Page) → ReadsOn (ScansFor images) held old new
reads_for held old new on images text log is at =
    let read = on text log is at in (read.0, read.1, λ whole torn reads. (let own = read.2 whole torn reads in (own.0, own.1 images)))

-- AND ONCE MORE
module _ (held now_held : Option (List ℕ)) (old now new : Reading ForwardScan) (kept : (text : List ℕ) → held ≡ Some text → now_held ≡ Some text) where
  -- for analysis
  pub finds_more : ReadsOn FindsBetween held old now → ReadsOn FindsBetween now_held now new → ReadsOn FindsBetween held old new
  finds_more one more = reads_more FindsBetween held now_held kept (λ o n m whole log middle end first next found. next (first found)) old now new one more

  -- for these pages
  pub reads_more_for : (images : List Page) → ReadsOn (ScansFor images) held old now → ReadsOn (ScansFor images) now_held now new → ReadsOn (ScansFor images) held old new
  reads_more_for images one more =
      reads_more (ScansFor images) held now_held kept
      (λ o n m whole log middle end first next. ((λ found. next.0 (first.0 found)), (λ tallied. next.1 (first.1 tallied))))
      old now new one more

  -- for all pages that are shown
  pub shown_more : {P : Type 0} (pages : Pages P) (p : P) → ReadsShown pages p held old now → ReadsShown pages p now_held now new → ReadsShown pages p held old new
  shown_more pages p one more stored shown numbered shows = reads_more_for shown (one stored shown numbered shows) (more stored shown numbered shows)

  -- with a stretch that is one of the bytes which the device held before
  pub finds_stretch : (stretch : Stretch) → IfRead (IsFoundOf held) stretch → ReadsOn FindsBetween held old now → JoinsFound now_held stretch now new → ReadsOn FindsBetween held old new
  finds_stretch stretch given one joins text log is at =
      finds_more one (joins (subst (λ h. IfRead (IsFoundOf h) stretch) (is ∙ sym (kept text is)) given)) text log is at

  pub reads_stretch : (images : List Page) (stretch : Stretch) → IfRead (IsStretchOf held images) stretch → ReadsOn (ScansFor images) held old now → JoinsStretch now_held stretch now new → ReadsOn (ScansFor images) held old new
  reads_stretch images stretch given one joins text log is at =
      reads_more_for images one (joins images (subst (λ h. IfRead (IsStretchOf h images) stretch) (is ∙ sym (kept text is)) given)) text log is at

-- and so far is the device read
pub joins_stretch : (held now_held : Option (List ℕ)) (a b c : ℕ) (marks between after : List Mark) (stretch : Stretch) → Keeps held now_held → SpansMarks held stretch → (ReachesLast held a marks → ReachesLast held b between)
    → (SpansMarks now_held stretch → ReachesLast now_held b between → ReachesLast now_held c after) → ReachesLast held a marks → ReachesLast held c after
joins_stretch None now_held a b c marks between after stretch kept spans one more far d = tt
joins_stretch (Some held) None a b c marks between after stretch kept spans one more far d = absurd kept
joins_stretch (Some held) (Some same) a b c marks between after stretch kept spans one more far d = more (spans_same stretch.span spans) (one far) d
  where
    spans_same : (span : Option Span) → IfSome span (λ x. ReachesLast (Some held) (span_to x) stretch.reading.marks) → IfSome span (λ x. ReachesLast (Some same) (span_to x) stretch.reading.marks)
    spans_same None spans = tt
    spans_same (Some x) spans = spans

-- A STRETCH OF THE LOG after these marks, joined to them
pub stretch_joined : (Q : (old new : ForwardScan) (whole before after : LogContent) → Type 0) (held : Option (List ℕ)) (old new : Reading ForwardScan) (stretch : Stretch) (P : (whole before after : LogContent) → Type 0)
    → 0 < length old.marks → 0 < length stretch.reading.marks → ((d : Mark) → get_or stretch.reading.marks 0 d ≡ get_or old.marks (length old.marks - 1) d) → new.marks ≡ old.marks ++ drop 1 stretch.reading.marks
    → ((whole before after : LogContent) → base_lsn (history whole) ≤ last_lsn (history before) → P whole before after → Q old.pass new.pass whole before after) → IsOfLog held stretch P → ReadsOn Q held old new
stretch_joined Q held old new stretch P some more same joined goes_on of_log text log is at =
    let later = stretch.reading.marks in
    let first : (d : Mark) → IsMark text log (get_or later 0 d) = λ d. subst (IsMark text log) (sym (same d)) (at.last d) in
    let read = of_log text log is first in
    let mark : Mark = record { lsn = 0; offset = 0 } in (
      read.0,
      subst (λ ms. AreMarksTo text ms read.0) (sym joined) (marks_joined old.marks later some more same text log read.0 at read.1),
      λ whole torn reads.
          let within = (mark_within text whole log torn (get_or later 0 mark) reads (first mark)).0 in
          goes_on whole log read.0 (omega (arith, within, (first mark).lsn)) (read.2 whole torn reads),
    )

-- A STRETCH BEFORE IT IS READ may be read on
pub all_begun : {P : Type 0} (pages : Pages P) (p : P) (stretches : List Stretch) → All (IsBegunStretch pages p) stretches → All IsBegun stretches
all_begun pages p stretches each k d lt = λ m.
    let own = each k d lt in
    omega (arith, own.begun.upto, ap (λ (x : Mark). x.lsn) (ap (λ ms. get_or ms (length ms - 1) m) own.one))

-- WHAT A WORKER READ of its stretch
module _ {P : Type 0} (pages : Pages P) (p : P) (held : Option (List ℕ)) (room : ℕ) (old new : Stretch) (begun : IsBegunStretch pages p old) (span : Span) (read : IsReadBy held room old.reading new.reading span) where
  -- the first mark
  first_of : (d : Mark) → get_or new.reading.marks 0 d ≡ begun.first
  first_of d = read.marks.first d ∙ ap (λ ms. get_or ms 0 d) begun.one

  last_of : (d : Mark) → get_or old.reading.marks (length old.reading.marks - 1) d ≡ begun.first
  last_of d = ap (λ ms. get_or ms (length ms - 1) d) begun.one

  marked : (text : List ℕ) (before : LogContent) → IsMark text before begun.first → AreMarksTo text old.reading.marks before
  marked text before mark = subst (λ ms. AreMarksTo text ms before) (sym begun.one) (marks_first text begun.first before mark)

  pub fit_of : new.span ≡ Some span → IsFitIn room (pages.count p) new
  fit_of is = (
    record {
      ready = read.ready;
      base = λ d. read.keeps.base ∙ begun.begun.base ∙ sym (ap (λ (m : Mark). m.lsn) (first_of d));
      count = read.keeps.count ∙ begun.begun.count;
      no_transaction_0 = read.keeps.no_transaction_0 begun.begun.no_transaction_0;
      from = λ d. subst (λ o. IfSome o (λ x. span_from x ≡ (get_or new.reading.marks 0 d).offset)) (sym is) (read.from d ∙ ap (λ (m : Mark). m.offset) (last_of d ∙ sym (first_of d)));
    },
    read.marks.reach room (omega arith) (subst (AreInReach room) (sym begun.one) (reach_first room begun.first)),
  )

  pub stretch_of : (stored shown : List Page) → AreNumbered shown → pages.shows p stored shown → IsStretchOf held shown new
  stretch_of stored shown numbered shows text before is first =
      let mark : IsMark text before begun.first = subst (IsMark text before) (first_of begun.first) (first begun.first) in
      let on = read.passed text before is (marked text before mark) in (
        on.0,
        on.1,
        λ whole torn reads.
            let goes = on.2 whole torn reads in
            let within = (mark_within text whole before torn begun.first reads mark).0 in (
              goes.0 before (begun.begun.found before (sym mark.lsn)),
              λ tables each.
                  goes.1 shown tables
                  (subst (λ n. AreTalliedUpTo whole shown tables n old.reading.pass.tallies) mark.lsn (begun.begun.tallied stored shown numbered shows whole before within (sym mark.lsn) tables each)),
            ),
      )

  pub found_of : IsFoundOf held new
  found_of text before is first =
      let mark : IsMark text before begun.first = subst (IsMark text before) (first_of begun.first) (first begun.first) in
      let on = read.passed text before is (marked text before mark) in
      (on.0, on.1, λ whole torn reads. (on.2 whole torn reads).0 before (begun.begun.found before (sym mark.lsn)))

-- OF ALL WORKERS
module _ {P : Type 0} (pages : Pages P) (p : P) (held : Option (List ℕ)) (room : ℕ) (olds news : List Stretch) (each : All (IsBegunStretch pages p) olds) (same : length news ≡ length olds) (read : AreReadBy held room olds news) where
  if_read : (Q : Stretch → Type 0) → ((old new : Stretch) (span : Span) → IsBegunStretch pages p old → IsReadBy held room old.reading new.reading span → new.span ≡ Some span → Q new) → ForEachRead Q news
  if_read Q holds k d lt = by (get_or news k d).span refl (read k d (omega (arith, lt, same)))
    where
      by : (o : Option Span) → (get_or news k d).span ≡ o → IfSome o (IsReadBy held room (get_or olds k d).reading (get_or news k d).reading) → IfSome o (λ span. Q (get_or news k d))
      by None is own = tt
      by (Some span) is own = holds (get_or olds k d) (get_or news k d) span (each k d (omega (arith, lt, same))) own is

  pub all_fit : AreFit room (pages.count p) news
  all_fit = if_read (IsFitIn room (pages.count p)) (λ old new span begun own is. fit_of pages p held room old new begun span own is)

  pub all_span : All (SpansMarks held) news
  all_span k d lt = by (get_or news k d).span (read k d (omega (arith, lt, same)))
    where
      by : (o : Option Span) → IfSome o (IsReadBy held room (get_or olds k d).reading (get_or news k d).reading) → IfSome o (λ x. ReachesLast held (span_to x) (get_or news k d).reading.marks)
      by None own = tt
      by (Some span) own = own.to

  pub all_stretches : (stored shown : List Page) → AreNumbered shown → pages.shows p stored shown → ForEachRead (IsStretchOf held shown) news
  all_stretches stored shown numbered shows = if_read (IsStretchOf held shown) (λ old new span begun own is. stretch_of pages p held room old new begun span own stored shown numbered shows)

  pub all_found : ForEachRead (IsFoundOf held) news
  all_found = if_read (IsFoundOf held) (λ old new span begun own is. found_of pages p held room old new begun span own)
