-- The definitions on worked examples.
use Rattle.std.proofs.lemmas.Bool.{both_ways, false≢true, or_from, and_right}
use Rattle.std.proofs.Common.{◌-◌, eqb, ne_eqb, sym, ◌∙◌, ◌&&◌, ◌||◌, true, false, inl, inr, ◌≢◌, ◌<◌, ℕ, zero, suc, ◌≡◌, ◌≤◌, [], ◌∷◌, ◌++◌, List, Some, None, refl, arith}
use Rattle.std.specs.Prelude.{replicate, take, slice_index_or}
use Rattle.std.proofs.lemmas.List.Elements.{All-from_recursion}
use Rattle.std.proofs.lemmas.Option.{same_Some}
use Rattle.page.specs.Image.{Image}
use Rattle.page.specs.declared.page.Page.{Page}
use Rattle.page.specs.Store.{StoreContent, AreNumbered}
use Rattle.log_laws.specs.declared.start.LogStart.TheVariants.{Version1}
use Rattle.log_laws.specs.declared.state.State.TheVariants.{Active}
use Rattle.log_laws.specs.Records.{TableEntry, LogRecord, Update, Compensation, Commit, Abort, End, CheckpointBegin, CheckpointEnd, History, LogContent, history, ◌⧺◌, base_lsn}
use Rattle.log_laws.specs.Meaning.{no_base, winners, touches}
use Rattle.log_laws.specs.Laws.{IsLawful}
use Rattle.log_laws.specs.Tail.{tail_of}
use Rattle.log_laws.specs.Hops.{hops}
use Rattle.log_laws.specs.Undo.{undone_by}
use Rattle.log_laws.specs.Redo.{redo_of, applied, rec_lsn_of}
use Rattle.log_laws.specs.Pages.{PageLaw}
use Rattle.log_laws.specs.Checkpoint.{DirtyLaw, first_end}
use Rattle.log_laws.specs.Store.{NamesPages, Lawful, store_out}
use Rattle.wal.specs.Cut.{Cut}
use Rattle.wal.specs.Reads.{log_text, Reads}
use Rattle.wal.specs.Spelling.{frame, Fits}
use Rattle.log_laws.specs.Theorems.{GoesOn}
use Rattle.log_laws.proofs.Histories.{record_above, each_found}
use Rattle.wal.proofs.CutBytes.{cuts_settle}
use Rattle.page.specs.declared.profile.TheConstants.{SLOTS, LOG_MAGIC}

abbrev pub a : Image
a = Some (97 ∷ [])

abbrev pub b : Image
b = Some (98 ∷ [])

abbrev pub c : Image
c = Some (99 ∷ [])

abbrev pub U : ℕ → ℕ → ℕ → Image → Image → LogRecord
U tx prev slot before after = Update (record { tx = tx; prev = prev; page = 0; slot = slot; before = before; after = after })

abbrev pub C : ℕ → ℕ → ℕ → ℕ → Image → LogRecord
C tx prev undo_next slot image = Compensation (record { tx = tx; prev = prev; page = 0; slot = slot; undo_next = undo_next; image = image })

abbrev pub K : ℕ → ℕ → LogRecord
K tx prev = Commit (record { tx = tx; prev = prev })

abbrev pub A : ℕ → ℕ → LogRecord
A tx prev = Abort (record { tx = tx; prev = prev })

abbrev pub E : ℕ → ℕ → LogRecord
E tx prev = End (record { tx = tx; prev = prev })

-- a log of these records
abbrev pub L : List LogRecord → LogContent
L records = record { begins = Version1; records = records }

-- a transaction that commits
one_commit : tail_of (L (U 1 0 0 None a ∷ K 1 1 ∷ [])) ≡ []
one_commit = refl

-- one that does not
one_loser : tail_of (L (U 1 0 0 None a ∷ [])) ≡ C 1 1 0 0 None ∷ E 1 2 ∷ []
one_loser = refl

-- two losers, undone in descending LSN
two_losers : tail_of (L (U 1 0 0 None a ∷ U 2 0 1 None b ∷ U 1 1 0 a c ∷ [])) ≡ C 1 3 1 0 a ∷ C 2 2 0 1 None ∷ E 2 5 ∷ C 1 4 0 0 None ∷ E 1 7 ∷ []
two_losers = refl

-- cut within the tail, the rest of it is left to write
two_losers_cut : tail_of (L (take 5 (U 1 0 0 None a ∷ U 2 0 1 None b ∷ U 1 1 0 a c ∷ C 1 3 1 0 a ∷ C 2 2 0 1 None ∷ E 2 5 ∷ C 1 4 0 0 None ∷ E 1 7 ∷ []))) ≡ E 2 5 ∷ C 1 4 0 0 None ∷ E 1 7 ∷ []
two_losers_cut = refl

-- rolled back in part, and then continued
partial_rollback_loser : tail_of (L (U 1 0 0 None a ∷ U 1 1 0 a b ∷ C 1 2 1 0 a ∷ U 1 3 0 a c ∷ [])) ≡ C 1 4 3 0 a ∷ C 1 5 0 0 None ∷ E 1 6 ∷ []
partial_rollback_loser = refl

-- in the middle of a rollback
rollback_interrupted : tail_of (L (U 1 0 0 None a ∷ U 1 1 0 a b ∷ A 1 2 ∷ C 1 3 1 0 a ∷ [])) ≡ C 1 4 0 0 None ∷ E 1 5 ∷ []
rollback_interrupted = refl

-- ends first
several_kinds_of_loser : tail_of (L (U 1 0 0 None a ∷ A 1 1 ∷ C 1 2 0 0 None ∷ U 2 0 1 None b ∷ A 3 0 ∷ [])) ≡ E 1 3 ∷ E 3 5 ∷ C 2 4 0 1 None ∷ E 2 8 ∷ []
several_kinds_of_loser = refl

-- a transaction that has rolled back a part and commits: the CLR counts
partial_rollback_commit : winners no_base (history (L (U 1 0 0 None a ∷ U 1 1 0 a b ∷ C 1 2 1 0 a ∷ K 1 3 ∷ []))) 0 0 ≡ a
partial_rollback_commit = refl

finished_rollback_commit : winners no_base (history (L (U 1 0 0 None a ∷ A 1 1 ∷ C 1 2 0 0 None ∷ E 1 3 ∷ U 2 0 0 None b ∷ K 2 5 ∷ []))) 0 0 ≡ b
finished_rollback_commit = refl

-- the laws can be met
one_commit_lawful : IsLawful no_base (history (L (U 1 0 0 None a ∷ K 1 1 ∷ [])))
one_commit_lawful = (
  (
    tt,
    record { chain = refl; finish = (refl, refl, refl); compensation = tt; before = refl; strict = λ other n w. absurd (false≢true w) },
  ),
  record { chain = refl; finish = (refl, refl); compensation = tt; before = tt; strict = tt },
)

two_losers_strict : (other : ℕ) → other ≢ 1 → touches other 0 0 (history (L (U 1 0 0 None a ∷ U 2 0 1 None b ∷ []))) ≡ true → ⊥
two_losers_strict other n w =
    let e : eqb 1 other ≡ false = ne_eqb 1 other (λ i. n (sym i)) in
    let w' : ((eqb 2 other && false) || false) ≡ true = rw e at w in
    both_ways ((eqb 2 other && false) || false) (or_from (eqb 2 other && false) false (and_right (eqb 2 other) false refl) refl) w'

two_losers_lawful : IsLawful no_base (history (L (U 1 0 0 None a ∷ U 2 0 1 None b ∷ U 1 1 0 a c ∷ [])))
two_losers_lawful = (
  (
    (
      tt,
      record { chain = refl; finish = (refl, refl, refl); compensation = tt; before = refl; strict = λ other n w. absurd (false≢true w) },
    ),
    record { chain = refl; finish = (refl, refl, refl); compensation = tt; before = refl; strict = λ other n w. absurd (false≢true (sym (or_from (eqb 1 other && false) false (and_right (eqb 1 other) false refl) refl) ∙ w)) },
  ),
  record { chain = refl; finish = (refl, refl, refl); compensation = tt; before = refl; strict = λ other n w. absurd (two_losers_strict other n w) },
)

-- ---- text

-- 66 bytes
one_commit_text : log_text (L (U 1 0 0 None a ∷ K 1 1 ∷ [])) ≡
    LOG_MAGIC
    ++ (0 ∷ 0 ∷ 0 ∷ 0x1d ∷ 1 ∷ 0 ∷ 0 ∷ 0 ∷ 0 ∷ 0 ∷ 0 ∷ 0 ∷ 1 ∷ 0 ∷ 0 ∷ 0 ∷ 1 ∷ 0 ∷ 0 ∷ 0 ∷ 0 ∷ 0 ∷ 0 ∷ 0 ∷ 0 ∷ 0 ∷ 0 ∷ 0 ∷ 0 ∷ 0 ∷ 0xff ∷ 1 ∷ 0x61 ∷ [])
    ++ (0 ∷ 0 ∷ 0 ∷ 0x15 ∷ 3 ∷ 0 ∷ 0 ∷ 0 ∷ 0 ∷ 0 ∷ 0 ∷ 0 ∷ 2 ∷ 0 ∷ 0 ∷ 0 ∷ 1 ∷ 0 ∷ 0 ∷ 0 ∷ 0 ∷ 0 ∷ 0 ∷ 0 ∷ 1 ∷ [])
one_commit_text = refl

-- ---- pages

abbrev pub holding : ℕ → Image → Page
holding lsn value = record { number = 0; lsn = lsn; slots = value ∷ replicate (SLOTS - 1) None }

abbrev pub store_of : ℕ → Page → StoreContent
store_of master page = record { master = master; pages = page ∷ [] }

-- the winner's value, with its PageLSN
one_commit_out : store_out no_base (L (U 1 0 0 None a ∷ K 1 1 ∷ [])) (store_of 0 (holding 0 None)) ≡ store_of 0 (holding 1 a)
one_commit_out = refl

-- the loser leaves its CLR's LSN
one_loser_out : store_out no_base (L (U 1 0 0 None a ∷ [])) (store_of 0 (holding 0 None)) ≡ store_of 0 (holding 2 None)
one_loser_out = refl

-- a page that has the record already is not redone
loser_flushed : applied (Some 1) 1 (holding 1 a) (history (L (U 1 0 0 None a ∷ []))) ≡ 0
loser_flushed = refl

loser_not_flushed : redo_of (Some 1) 1 (history (L (U 1 0 0 None a ∷ []))) (holding 0 None) ≡ holding 1 a
loser_not_flushed = refl

-- if the page has the records up to its PageLSN, the two after it
partial_rollback_redone : redo_of (Some 3) 3 (history (L (U 1 0 0 None a ∷ U 1 1 0 a b ∷ C 1 2 1 0 a ∷ U 1 3 0 a c ∷ []))) (holding 2 b) ≡ holding 4 c
partial_rollback_redone = refl

-- ---- hops

-- over the part that was rolled back
partial_rollback_hops : hops 1 (history (L (U 1 0 0 None a ∷ U 1 1 0 a b ∷ C 1 2 1 0 a ∷ U 1 3 0 a c ∷ []))) 4 ≡ record { met = 4 ∷ 1 ∷ []; ends = 0 }
partial_rollback_hops = refl

-- a CLR that points past zero, to itself: a bad hop
clr_points_past_zero : hops 1 (history (L (U 1 0 0 None a ∷ C 1 1 2 0 None ∷ []))) 2 ≡ record { met = []; ends = 2 }
clr_points_past_zero = refl

abbrev pub active : ℕ → ℕ → ℕ → TableEntry
active tx last undo_next = record { tx = tx; state = Active; last = last; undo_next = undo_next }

-- what undo appends by a table that is true, and by one that is not
partial_rollback_undone : undone_by (history (L (U 1 0 0 None a ∷ U 1 1 0 a b ∷ C 1 2 1 0 a ∷ U 1 3 0 a c ∷ []))) (active 1 4 4 ∷ []) ≡ C 1 4 3 0 a ∷ C 1 5 0 0 None ∷ E 1 6 ∷ []
partial_rollback_undone = refl

partial_rollback_misled : undone_by (history (L (U 1 0 0 None a ∷ U 1 1 0 a b ∷ C 1 2 1 0 a ∷ U 1 3 0 a c ∷ []))) (active 1 4 3 ∷ []) ≡ C 1 4 0 0 None ∷ E 1 5 ∷ []
partial_rollback_misled = refl

-- ---- checkpoints

abbrev checkpoint_loser : LogContent
checkpoint_loser = L (U 1 0 0 None a ∷ CheckpointBegin ∷ CheckpointEnd 2 (active 1 1 1 ∷ []) ((0, 1) ∷ []) ∷ [])

checkpoint_loser_tail : tail_of checkpoint_loser ≡ C 1 1 0 0 None ∷ E 1 4 ∷ []
checkpoint_loser_tail = refl

-- if two ends name it, the first counts
first_end_counts : first_end 1 (history (L (CheckpointBegin ∷ CheckpointEnd 1 [] [] ∷ CheckpointEnd 1 (active 9 8 8 ∷ []) [] ∷ []))) ≡ Some ([], [])
first_end_counts = refl

-- one that is followed by the end of another begin record
begin_not_named : first_end 2 (history (L (CheckpointBegin ∷ CheckpointBegin ∷ CheckpointEnd 1 [] [] ∷ []))) ≡ None
begin_not_named = refl

-- a page that is listed from the first record on keeps the dirty law
pub dirty_from_first : (log : History) (m page page_lsn : ℕ) → base_lsn log < m → DirtyLaw log m page page_lsn (Some (suc (base_lsn log)))
dirty_from_first log m page page_lsn lt =
    record {
      range = λ rec_lsn e. (let one : suc (base_lsn log) ≡ rec_lsn = same_Some (suc (base_lsn log)) rec_lsn e in (omega (arith, one), omega (arith, one, lt)));
      covers = λ lsn r up f on. inr (suc (base_lsn log), refl, omega (arith, record_above log lsn r f));
    }

-- a log with a checkpoint and its store are lawful
checkpoint_loser_lawful : Lawful no_base checkpoint_loser (store_of 2 (holding 0 None))
checkpoint_loser_lawful = record {
  based = λ page. omega arith;
  log = (
    (
      (tt, record { chain = refl; finish = (refl, refl, refl); compensation = tt; before = refl; strict = λ other n w. absurd (false≢true w) }),
      record { chain = tt; finish = tt; compensation = tt; before = tt; strict = tt },
    ),
    record { chain = tt; finish = tt; compensation = tt; before = tt; strict = tt },
  );
  names_pages = each_found (NamesPages 1) checkpoint_loser (All-from_recursion (NamesPages 1) checkpoint_loser.records (omega arith, (tt, (All-from_recursion (λ (d : ℕ × ℕ). d.0 < 1) ((0, 1) ∷ []) (omega arith, tt), tt))));
  pages = All-from_recursion (PageLaw no_base (history checkpoint_loser)) (holding 0 None ∷ []) (record { within = omega arith; on_page = inl refl; slots_are = refl }, tt);
  checkpoint = inr (record {
    transactions = active 1 1 1 ∷ [];
    dirty = (0, 1) ∷ [];
    named = refl;
    transactions_are = refl;
    dirty_are = All-from_recursion (λ (page : Page). DirtyLaw (history checkpoint_loser) 2 page.number page.lsn (rec_lsn_of page.number ((0, 1) ∷ []))) (holding 0 None ∷ [])
        (dirty_from_first (history checkpoint_loser) 2 0 0 (omega arith), tt);
  });
}

-- ---- an interrupted restart

fits_update : Fits (U 1 0 0 None a)
fits_update = record { some_tx = omega arith; tx = omega arith; prev = omega arith; page = omega arith; slot = omega arith; before = tt; after = omega arith }

fits_compensation : Fits (C 1 1 0 0 None)
fits_compensation = record { some_tx = omega arith; tx = omega arith; prev = omega arith; page = omega arith; slot = omega arith; undo_next = omega arith; image = tt }

fits_tables : Fits (CheckpointEnd 2 (active 1 1 1 ∷ []) ((0, 1) ∷ []))
fits_tables = record {
  begin_fits = omega arith;
  transactions_fit = record { few = omega arith; each = (record { some_tx = omega arith; tx = omega arith; last = omega arith; undo_next = omega arith }, tt); rising = tt };
  dirty_fit = record { few = omega arith; each = (record { page = omega arith; rec_lsn = omega arith }, tt); rising = tt };
}

-- the log as it was, and with the CLR of its tail
checkpoint_loser_reads : Reads (log_text checkpoint_loser) checkpoint_loser 0
checkpoint_loser_reads = record { tail = []; text = refl; torn_tail = inl (omega arith); torn_count = refl; starts = tt; each = (fits_update, (tt, (fits_tables, tt))); few = omega arith }

abbrev checkpoint_loser_undone : LogContent
checkpoint_loser_undone = checkpoint_loser ⧺ C 1 1 0 0 None ∷ []

checkpoint_loser_cut : Cut no_base checkpoint_loser (store_of 2 (holding 0 None)) (log_text checkpoint_loser_undone) (store_of 2 (holding 4 None))
checkpoint_loser_cut = record {
  written = frame (C 1 1 0 0 None) 4;
  missing = frame (E 1 4) 5;
  begins = refl;
  ends = refl;
  whole = checkpoint_loser_undone;
  torn = 0;
  reads = record { tail = []; text = refl; torn_tail = inl (omega arith); torn_count = refl; starts = tt; each = (fits_update, (tt, (fits_tables, (fits_compensation, tt)))); few = omega arith };
  master = refl;
  count = refl;
  pages = All-from_recursion (PageLaw no_base (history checkpoint_loser_undone)) (holding 4 None ∷ []) (record { within = omega arith; on_page = inr (C 1 1 0 0 None, refl, refl); slots_are = refl }, tt);
  not_older = not_older;
}
  where
    not_older : (i : ℕ) (d : Page) → i < 1 → (slice_index_or (holding 0 None ∷ []) i d).lsn ≤ (slice_index_or (holding 4 None ∷ []) i d).lsn
    not_older zero d lt = omega arith
    not_older (suc i) d lt = absurd (omega arith)

one_page_numbered : (page : Page) → page.number ≡ 0 → AreNumbered (page ∷ [])
one_page_numbered page e = record { some = omega arith; few = omega arith; at_place = at_place }
  where
    at_place : (i : ℕ) (d : Page) → i < 1 → (slice_index_or (page ∷ []) i d).number ≡ i
    at_place zero d lt = e
    at_place (suc i) d lt = absurd (omega arith)

-- a restart continues with the end record only
checkpoint_loser_goes_on : GoesOn no_base checkpoint_loser (store_of 2 (holding 0 None)) checkpoint_loser_undone (store_of 2 (holding 4 None))
unfolding checkpoint_loser_cut
checkpoint_loser_goes_on =
    cuts_settle no_base checkpoint_loser (store_of 2 (holding 0 None)) (log_text checkpoint_loser) 0 (log_text checkpoint_loser_undone) (store_of 2 (holding 4 None)) checkpoint_loser_reads
    (one_page_numbered (holding 0 None) refl) (one_page_numbered (holding 4 None) refl) checkpoint_loser_lawful checkpoint_loser_cut

checkpoint_loser_rest : tail_of checkpoint_loser_undone ≡ E 1 4 ∷ []
checkpoint_loser_rest = refl
