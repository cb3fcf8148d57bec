-- A second life, and a log that continues an archived one, on worked examples.
use Rattle.std.proofs.Common.{◌≡◌, ◌≤◌, ◌||◌, ℕ, Bool, true, false, [], ◌∷◌, None, refl, sym, ap, ◌∙◌, inl, inr, ne_eqb, arith}
use Rattle.std.specs.Prelude.{length, slice_index_or}
use Rattle.std.proofs.lemmas.Bool.{false≢true, cases_eq}
use Rattle.std.proofs.lemmas.List.Elements.{All-from_recursion}
use Rattle.page.specs.declared.page.Page.{Page}
use Rattle.page.specs.declared.profile.TheConstants.{SLOTS}
use Rattle.page.specs.Store.{StoreContent}
use Rattle.log_laws.specs.declared.start.LogStart.TheVariants.{Version2}
use Rattle.log_laws.specs.Records.{history}
use Rattle.log_laws.specs.Meaning.{BasePages, no_base, committed, touches, finished}
use Rattle.log_laws.specs.Tail.{with_tail}
use Rattle.log_laws.specs.Pages.{base_pages}
use Rattle.log_laws.specs.Store.{store_out}
use Rattle.wal.proofs.Rows.{a, b, U, holding, store_of}
use Rattle.journal.specs.Runs.{Run, appended, new_run, IsRun}
use Rattle.journal.specs.Traces.{Trace, opens, appends, run_of, left_log, newest_store}
use Rattle.journal.specs.Lives.{Lives, once, again, AreLived}
use Rattle.journal.proofs.Rows.{made_durable, with_commit_is, one_page}
use Rattle.journal.proofs.Obeying.{touches_has}
use Rattle.journal.proofs.Opened.{may_open}
use Rattle.journal.proofs.Lives.{lasts, lives_survive}
use Rattle.journal.proofs.Traces.{newest_lies}

-- A SECOND LIFE. The commit of the first transaction was forced, the engine stopped, and was recovered. A second transaction updates the
-- same cell, and the engine stops again, with the record on the disk.
abbrev pub first_store : StoreContent
first_store = store_of 0 (holding 0 None)

abbrev pub second : Trace
second = appends (opens (with_tail (left_log made_durable 2)) (store_out no_base (left_log made_durable 2) first_store)) (U 2 0 0 a b)

abbrev pub lives : Lives
lives = again (once made_durable) 2 first_store second

-- only the first transaction has touched the cell, and it has committed
first_finished : (other : ℕ) → touches other 0 0 (history (left_log made_durable 2)) ≡ true → finished other (history (left_log made_durable 2)) ≡ true
first_finished other w =
    elim (cases_eq other 1) [
      | inl e ↦ ap (λ k. finished k (history (left_log made_durable 2))) e
      | inr d ↦ absurd (false≢true (sym (ap (λ (b : Bool). b || (b || false)) (ne_eqb 1 other (λ e. d (sym e)))) ∙ touches_has other 0 0 (history (left_log made_durable 2)) w))
    ]

second_is : IsRun no_base (run_of second)
second_is = (
  (lasts no_base made_durable 2 first_store with_commit_is (tt, omega arith) (omega arith) (omega arith) (newest_lies made_durable)).reopens (omega arith),
  record {
    obeys = record { chain = refl; finish = (refl, refl, refl); compensation = tt; before = refl; strict = λ other n w. first_finished other w };
    fits = record { some_tx = omega arith; tx = omega arith; prev = omega arith; page = omega arith; slot = omega arith; before = omega arith; after = omega arith };
    few = omega arith;
    names_pages = omega arith;
    tables = tt;
  },
)

lived : AreLived no_base lives
lived = ((with_commit_is, (tt, omega arith)), record { some = omega arith; within = omega arith; is_there = newest_lies made_durable; log = refl; recovered = refl }, second_is, tt)

-- the commit of the first life is there after the recovery of the second one
still_committed : committed 1 (history (left_log second 3)) ≡ true
still_committed = (lives_survive no_base lives 3 (newest_store second) lived (omega arith) (omega arith) (newest_lies second)).1 1 refl

-- and the update of the second life is undone
undone_again : slice_index_or (slice_index_or (store_out no_base (left_log second 3) (newest_store second)).pages 0 (holding 0 None)).slots 0 None ≡ a
undone_again = (lives_survive no_base lives 3 (newest_store second) lived (omega arith) (omega arith) (newest_lies second)).0.survives.recovers.holds 0 0 (holding 0 None) (omega arith) (omega arith)

-- OVER BASE PAGES. A log that continues one of five records begins over a page that has the fifth.
abbrev pub base : BasePages
base = base_pages (holding 5 a ∷ [])

abbrev pub continued : Run
continued = new_run (Version2 5) (holding 5 a ∷ [])

continued_is : IsRun base continued
continued_is =
    may_open (Version2 5) (holding 5 a ∷ []) (one_page (holding 5 a) refl)
    (All-from_recursion (λ (page : Page). length page.slots ≡ SLOTS) (holding 5 a ∷ []) (refl, tt))
    (All-from_recursion (λ (page : Page). page.lsn ≤ 5) (holding 5 a ∷ []) (omega arith, tt)) (omega arith)

-- its first record has LSN 6, and the page's value as before image
changed_is : IsRun base (appended continued (U 1 0 0 a None))
changed_is = (
  continued_is,
  record {
    obeys = record { chain = refl; finish = (refl, refl, refl); compensation = tt; before = refl; strict = λ other n w. absurd (false≢true w) };
    fits = record { some_tx = omega arith; tx = omega arith; prev = omega arith; page = omega arith; slot = omega arith; before = omega arith; after = tt };
    few = omega arith;
    names_pages = omega arith;
    tables = tt;
  },
)
