-- The definitions on worked examples.
use Rattle.std.proofs.Common.{◌≡◌, ◌<◌, ◌≤◌, ◌⊎◌, ℕ, zero, suc, true, List, [], ◌∷◌, Some, None, refl, sym, inl, inr, ap, subst, ◌∙◌, arith}
use Rattle.std.specs.Prelude.{slice_index_or, All}
use Rattle.std.proofs.lemmas.Bool.{false≢true}
use Rattle.std.proofs.lemmas.List.Elements.{All-from_recursion, All-head}
use Rattle.page.specs.declared.page.Page.{Page}
use Rattle.page.specs.Store.{StoreContent, AreNumbered}
use Rattle.log_laws.specs.declared.state.State.TheVariants.{Active}
use Rattle.log_laws.specs.declared.start.LogStart.TheVariants.{Version1}
use Rattle.log_laws.specs.Records.{TableEntry, LogRecord, CheckpointBegin, CheckpointEnd, LogContent, history, record_at}
use Rattle.log_laws.specs.Meaning.{no_base, committed, is_on}
use Rattle.log_laws.specs.Redo.{rec_lsn_of}
use Rattle.log_laws.specs.Checkpoint.{DirtyLaw}
use Rattle.log_laws.specs.Pages.{PageLaw}
use Rattle.log_laws.specs.Store.{Lawful, store_out}
use Rattle.log_laws.specs.Theorems.{replayed_page}
use Rattle.wal.proofs.Rows.{a, U, K, L, holding, store_of, dirty_from_first}
use Rattle.journal.specs.Runs.{Run, appended, reported, new_run, log_of, on_disk, run_at, MayFollow, IsRun}
use Rattle.journal.specs.Crash.{WasCurrent, IsMaster, Crashed}
use Rattle.journal.specs.Traces.{Trace, opens, appends, forces, writes, syncs, reports, sets_master, newest_store, MayBeMaster, KeepsRules, left_log}
use Rattle.journal.proofs.Crash.{crash_is_lawful, crash_recovers}
use Rattle.journal.proofs.Traces.{engine_survives, newest_lies}

pub one_page : (page : Page) → page.number ≡ 0 → AreNumbered (page ∷ [])
one_page page e = record { some = omega arith; few = omega arith; at_place = at_place }
  where
    at_place : (i : ℕ) (d : Page) → i < 1 → (slice_index_or (page ∷ []) i d).number ≡ i
    at_place zero d lt = e
    at_place (suc i) d lt = absurd (omega arith)

-- a new log over an empty page
abbrev begun : Run
begun = new_run Version1 (holding 0 None ∷ [])

pub begun_is : IsRun no_base begun
begun_is = record {
  lawful = record {
    based = λ page. omega arith;
    log = tt;
    names_pages = λ n r f. absurd (cc);
    pages = All-from_recursion (PageLaw no_base (log_of begun)) (holding 0 None ∷ []) (record { within = omega arith; on_page = inl refl; slots_are = refl }, tt);
    checkpoint = inl refl;
  };
  starts = tt;
  fit = tt;
  few = omega arith;
  numbered = one_page (holding 0 None) refl;
  current = All-from_recursion (λ page. page ≡ replayed_page no_base (log_of begun) page.number) (holding 0 None ∷ []) (refl, tt);
}

-- a transaction updates the page
abbrev updated : Run
updated = appended begun (U 1 0 0 None a)

pub update_follows : MayFollow no_base begun (U 1 0 0 None a)
update_follows = record {
  obeys = record { chain = refl; finish = (refl, refl, refl); compensation = tt; before = refl; strict = λ other n w. absurd (false≢true w) };
  fits = record { some_tx = omega arith; tx = omega arith; prev = omega arith; page = omega arith; slot = omega arith; before = tt; after = omega arith };
  few = omega arith;
  names_pages = omega arith;
  tables = tt;
}

pub updated_is : IsRun no_base updated
updated_is = (begun_is, update_follows)

-- and commits
abbrev with_commit : Run
with_commit = appended updated (K 1 1)

pub with_commit_is : IsRun no_base with_commit
with_commit_is = (
  updated_is,
  record { obeys = record { chain = refl; finish = (refl, refl); compensation = tt; before = tt; strict = tt }; fits = record { some_tx = omega arith; tx = omega arith; prev = omega arith }; few = omega arith; names_pages = tt; tables = tt },
)

-- NO FORCE. The log is on the disk, and the page is as it was: after recovery the committed value is there.
not_written : Crashed no_base with_commit 2 (L (U 1 0 0 None a ∷ K 1 1 ∷ [])) (store_of 0 (holding 0 None))
not_written = record {
  some = omega arith;
  within = omega arith;
  log_is = refl;
  numbered = one_page (holding 0 None) refl;
  count = refl;
  was_current = All-from_recursion (WasCurrent no_base (log_of with_commit)) (holding 0 None ∷ []) (record { moment = 0; from = omega arith; is = refl }, tt);
  ahead = All-from_recursion (λ (page : Page). page.lsn ≤ 2) (holding 0 None ∷ []) (omega arith, tt);
  master = inl refl;
}

not_written_recovers : (slice_index_or (store_out no_base (L (U 1 0 0 None a ∷ K 1 1 ∷ [])) (store_of 0 (holding 0 None))).pages 0 (holding 0 None)).slots ≡ (holding 0 a).slots
not_written_recovers = refl

-- STEAL. The page is on the disk, and the commit is not: recovery undoes the update.
stolen : Crashed no_base with_commit 1 (L (U 1 0 0 None a ∷ [])) (store_of 0 (holding 1 a))
stolen = record {
  some = omega arith;
  within = omega arith;
  log_is = refl;
  numbered = one_page (holding 1 a) refl;
  count = refl;
  was_current = All-from_recursion (WasCurrent no_base (log_of with_commit)) (holding 1 a ∷ []) (record { moment = 1; from = omega arith; is = refl }, tt);
  ahead = All-from_recursion (λ (page : Page). page.lsn ≤ 1) (holding 1 a ∷ []) (omega arith, tt);
  master = inl refl;
}

stolen_recovers : slice_index_or (slice_index_or (store_out no_base (L (U 1 0 0 None a ∷ [])) (store_of 0 (holding 1 a))).pages 0 (holding 0 None)).slots 0 None ≡ None
stolen_recovers = (crash_recovers no_base with_commit 1 (L (U 1 0 0 None a ∷ [])) (store_of 0 (holding 1 a)) with_commit_is stolen).holds 0 0 (holding 0 None) (omega arith) (omega arith)

-- WRITE-AHEAD. If a page is on the disk before its record, no engine that keeps the rules left it, and it is not lawful.
too_early : Crashed no_base with_commit 0 (L []) (store_of 0 (holding 1 a)) → ⊥
too_early c = (let ahead : 1 ≤ 0 = All-head (λ (page : Page). page.lsn ≤ 0) (holding 1 a) [] c.ahead in omega (arith, ahead))

too_early_unlawful : Lawful no_base (L []) (store_of 0 (holding 1 a)) → ⊥
too_early_unlawful l = (let law : PageLaw no_base (history (L [])) (holding 1 a) = All-head (PageLaw no_base (history (L []))) (holding 1 a) [] l.pages in let within : 1 ≤ 0 = law.within in omega (arith, within))

-- CHECKPOINT. The begin record comes after the update; then the page is written; then comes the end record, which lists the page as it was
-- known at the begin record.
abbrev one_active : List TableEntry
one_active = record { tx = 1; state = Active; last = 1; undo_next = 1 } ∷ []

abbrev beginning : Run
beginning = appended updated CheckpointBegin

abbrev with_checkpoint : Run
with_checkpoint = appended (reported beginning 0 1) (CheckpointEnd 2 one_active ((0, 1) ∷ []))

abbrev its_log : LogContent
its_log = L (U 1 0 0 None a ∷ CheckpointBegin ∷ CheckpointEnd 2 one_active ((0, 1) ∷ []) ∷ [])

begin_follows : MayFollow no_base updated CheckpointBegin
begin_follows = record { obeys = record { chain = tt; finish = tt; compensation = tt; before = tt; strict = tt }; fits = tt; few = omega arith; names_pages = tt; tables = tt }

dirty_then : (page : ℕ) → page < 1 → DirtyLaw (log_of beginning) 2 page (on_disk no_base (run_at 2 (reported beginning 0 1)) page) (rec_lsn_of page ((0, 1) ∷ []))
dirty_then zero lt = dirty_from_first (log_of beginning) 2 0 (on_disk no_base (run_at 2 (reported beginning 0 1)) 0) (omega arith)
dirty_then (suc page) lt = absurd (omega arith)

end_follows : MayFollow no_base (reported beginning 0 1) (CheckpointEnd 2 one_active ((0, 1) ∷ []))
end_follows = record {
  obeys = record { chain = tt; finish = tt; compensation = tt; before = tt; strict = tt };
  fits = record {
    begin_fits = omega arith;
    transactions_fit = record { few = omega arith; each = (record { some_tx = omega arith; tx = omega arith; last = omega arith; undo_next = omega arith }, tt); rising = tt };
    dirty_fit = record { few = omega arith; each = (record { page = omega arith; rec_lsn = omega arith }, tt); rising = tt };
  };
  few = omega arith;
  names_pages = All-from_recursion (λ (d : ℕ × ℕ). d.0 < 1) ((0, 1) ∷ []) (omega arith, tt);
  tables = record { begins = refl; transactions_are = refl; dirty_are = dirty_then };
}

with_checkpoint_is : IsRun no_base with_checkpoint
with_checkpoint_is = ((updated_is, begin_follows), end_follows)

-- it may be the master, over the page as it was at the begin record, or a newer one
checkpoint_named : Crashed no_base with_checkpoint 3 its_log (store_of 2 (holding 0 None))
checkpoint_named = record {
  some = omega arith;
  within = omega arith;
  log_is = refl;
  numbered = one_page (holding 0 None) refl;
  count = refl;
  was_current = All-from_recursion (WasCurrent no_base (log_of with_checkpoint)) (holding 0 None ∷ []) (record { moment = 0; from = omega arith; is = refl }, tt);
  ahead = All-from_recursion (λ (page : Page). page.lsn ≤ 3) (holding 0 None ∷ []) (omega arith, tt);
  master = inr (record {
    tables = (one_active, (0, 1) ∷ []);
    named = refl;
    taken = inr (omega arith);
    not_older = All-from_recursion (λ (page : Page). on_disk no_base (run_at 2 with_checkpoint) page.number ≤ page.lsn) (holding 0 None ∷ []) (omega arith, tt);
  });
}

checkpoint_is_lawful : Lawful no_base its_log (store_of 2 (holding 0 None))
checkpoint_is_lawful = crash_is_lawful no_base with_checkpoint 3 its_log (store_of 2 (holding 0 None)) with_checkpoint_is checkpoint_named

-- it may not be the master before its end record is in the log
checkpoint_unended : IsMaster no_base with_checkpoint (L (U 1 0 0 None a ∷ CheckpointBegin ∷ [])) (holding 0 None ∷ []) 2 → ⊥
checkpoint_unended m = (let named = m.named in cc)

-- OLDER THAN REPORTED. If the page was reported before the begin record, the table lists nothing. Then no engine that keeps the rules
-- leaves the old page, and it is not lawful.
abbrev cleaned : Run
cleaned = appended (appended (reported updated 0 1) CheckpointBegin) (CheckpointEnd 2 one_active [])

abbrev pub cleaned_log : LogContent
cleaned_log = L (U 1 0 0 None a ∷ CheckpointBegin ∷ CheckpointEnd 2 one_active [] ∷ [])

older : IsMaster no_base cleaned cleaned_log (holding 0 None ∷ []) 2 → ⊥
older m = (let told_then : 1 ≤ 0 = All-head (λ (page : Page). on_disk no_base (run_at 2 cleaned) page.number ≤ page.lsn) (holding 0 None) [] m.not_older in omega (arith, told_then))

pub older_unlawful : DirtyLaw (log_of cleaned) 2 0 0 (rec_lsn_of 0 []) → ⊥
older_unlawful law =
    elim (law.covers 1 (U 1 0 0 None a) (omega arith) refl refl) [
      | inl old ↦ omega (arith, old)
      | inr listed ↦ (let e = listed.1 in cc)
    ]

-- AN ENGINE updates, forces the log, writes the page, and stops: recovery undoes the update.
abbrev pub opening : Trace
opening = opens (L []) (store_of 0 (holding 0 None))

abbrev wrote : Trace
wrote = writes (forces (appends opening (U 1 0 0 None a)) 1) (holding 1 a)

pub wrote_keeps : KeepsRules no_base wrote
wrote_keeps = ((tt, omega arith), record { there = omega arith; was_current = record { moment = 1; from = omega arith; is = refl }; ahead = omega arith; covered = λ s l. inl (ap (λ (x : StoreContent). x.master) l) })

wrote_survives : slice_index_or (slice_index_or (store_out no_base (left_log wrote 1) (newest_store wrote)).pages 0 (holding 0 None)).slots 0 None ≡ None
wrote_survives = (engine_survives no_base wrote 1 (newest_store wrote) updated_is wrote_keeps (omega arith) (omega arith) (newest_lies wrote)).recovers.holds 0 0 (holding 0 None) (omega arith) (omega arith)

-- it commits, and forces the commit: the value is there, whether the page was written or not
abbrev pub made_durable : Trace
made_durable = forces (appends (appends opening (U 1 0 0 None a)) (K 1 1)) 2

made_durable_is : committed 1 (history (left_log made_durable 2)) ≡ true
made_durable_is = (engine_survives no_base made_durable 2 (newest_store made_durable) with_commit_is (tt, omega arith) (omega arith) (omega arith) (newest_lies made_durable)).durable 1 refl

-- a page that is written before its record is forced breaks the rules
wrote_too_early : KeepsRules no_base (writes (appends opening (U 1 0 0 None a)) (holding 1 a)) → ⊥
wrote_too_early k = (let ahead : 1 ≤ 0 = k.1.ahead in omega (arith, ahead))

-- so does a master whose checkpoint has no end record on the disk
named_too_early : MayBeMaster no_base (forces (appends (appends opening (U 1 0 0 None a)) CheckpointBegin) 2) 2 → ⊥
named_too_early n = (let named = n.named in cc)

-- A MASTER. The page is written and reported. A checkpoint is taken, whose table lists nothing. Its end record is forced, and it becomes
-- the master. Over an older page it may not become the master.
clean_then : (page : ℕ) → page < 1 → DirtyLaw (log_of (appended (reported updated 0 1) CheckpointBegin)) 2 page (on_disk no_base (run_at 2 (appended (reported updated 0 1) CheckpointBegin)) page) (rec_lsn_of page [])
clean_then zero lt = record { range = λ rec_lsn e. absurd (cc); covers = covers }
  where
    covers : (lsn : ℕ) (r : LogRecord) → lsn ≤ 2 → record_at (log_of (appended (reported updated 0 1) CheckpointBegin)) lsn ≡ Some r → is_on 0 r ≡ true
        → (lsn ≤ 1) ⊎ ((rec_lsn : ℕ) × (rec_lsn_of 0 [] ≡ Some rec_lsn) × (rec_lsn ≤ lsn))
    covers zero r le f on = inl (omega arith)
    covers (suc zero) r le f on = inl (omega arith)
    covers (suc (suc zero)) r le f on = (let same : CheckpointBegin ≡ r = cc in absurd (false≢true (ap (is_on 0) same ∙ on)))
    covers (suc (suc (suc n))) r le f on = absurd (omega (arith, le))
clean_then (suc page) lt = absurd (omega arith)

pub cleaned_is : IsRun no_base cleaned
cleaned_is = (
  (updated_is, record { obeys = record { chain = tt; finish = tt; compensation = tt; before = tt; strict = tt }; fits = tt; few = omega arith; names_pages = tt; tables = tt }),
  record {
    obeys = record { chain = tt; finish = tt; compensation = tt; before = tt; strict = tt };
    fits = record {
      begin_fits = omega arith;
      transactions_fit = record { few = omega arith; each = (record { some_tx = omega arith; tx = omega arith; last = omega arith; undo_next = omega arith }, tt); rising = tt };
      dirty_fit = record { few = omega arith; each = tt; rising = tt };
    };
    few = omega arith;
    names_pages = All-from_recursion (λ (d : ℕ × ℕ). d.0 < 1) [] tt;
    tables = record { begins = refl; transactions_are = refl; dirty_are = clean_then };
  },
)

abbrev mastered : Trace
mastered = sets_master (forces (appends (syncs (appends (reports wrote 0 1) CheckpointBegin)) (CheckpointEnd 2 one_active [])) 3) 2

pub mastered_keeps : KeepsRules no_base mastered
mastered_keeps = (
  ((wrote_keeps, omega arith), omega arith),
  inr (record {
    tables = (one_active, []);
    named = refl;
    taken = inr (omega arith);
    is_there = λ s l. subst (λ (x : StoreContent). All (λ (page : Page). on_disk no_base (run_at 2 cleaned) page.number ≤ page.lsn) x.pages) (sym l)
        (All-from_recursion (λ (page : Page). on_disk no_base (run_at 2 cleaned) page.number ≤ page.lsn) (holding 1 a ∷ []) (omega arith, tt));
  }),
)

-- this master is on the disk then, or the one before
mastered_lawful : (Lawful no_base cleaned_log (store_of 2 (holding 1 a))) × (Lawful no_base cleaned_log (store_of 0 (holding 1 a)))
mastered_lawful = (
  (engine_survives no_base mastered 3 (store_of 2 (holding 1 a)) cleaned_is mastered_keeps (omega arith) (omega arith) (newest_lies mastered)).recovers.lawful,
  (engine_survives no_base mastered 3 (store_of 0 (holding 1 a)) cleaned_is mastered_keeps (omega arith) (omega arith) (inl refl)).recovers.lawful,
)

-- without the sync the old page may be on the disk
over_an_older : MayBeMaster no_base (forces (appends (appends (reports wrote 0 1) CheckpointBegin) (CheckpointEnd 2 one_active [])) 3) 2 → ⊥
over_an_older n =
    (let there : 1 ≤ 0 = All-head (λ (page : Page). on_disk no_base (run_at 2 cleaned) page.number ≤ page.lsn) (holding 0 None) [] (n.is_there (store_of 0 (holding 0 None)) (inl refl)) in
    omega (arith, there))
