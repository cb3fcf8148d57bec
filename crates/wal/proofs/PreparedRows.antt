-- Prepared transactions on worked examples.
use Rattle.std.proofs.Common.{ℕ, ◌≡◌, ◌<◌, ◌&&◌, ◌||◌, ◌++◌, Bool, true, false, List, [], ◌∷◌, None, length, inl, inr, refl, sym, ◌∙◌, arith, eqb, Some}
use Rattle.std.specs.Prelude.{filter}
use Rattle.std.proofs.lemmas.Bool.{false≢true}
use Rattle.std.proofs.lemmas.List.Elements.{All-from_recursion}
use Rattle.page.specs.declared.profile.TheConstants.{LOG_MAGIC}
use Rattle.page.specs.declared.page.Page.{Page}
use Rattle.log_laws.specs.declared.state.State.TheVariants.{Prepared, Aborting}
use Rattle.log_laws.specs.Records.{TableEntry, LogRecord, Prepare, CheckpointBegin, CheckpointEnd, LogContent, history}
use Rattle.log_laws.specs.Meaning.{no_base, state_at}
use Rattle.log_laws.specs.Laws.{IsLawful}
use Rattle.log_laws.specs.Tail.{is_clr, is_end, in_doubt_of, losers_of, tail_of, with_tail}
use Rattle.log_laws.specs.Undo.{lost_in, doubtful_in, undone_by}
use Rattle.log_laws.specs.Redo.{applied, rec_lsn_of}
use Rattle.log_laws.specs.Pages.{PageLaw}
use Rattle.log_laws.specs.Checkpoint.{DirtyLaw, true_table}
use Rattle.log_laws.specs.Store.{NamesPages, Lawful, store_out}
use Rattle.wal.specs.Reads.{log_text}
use Rattle.log_laws.proofs.Histories.{each_found}
use Rattle.wal.proofs.Rows.{a, b, U, C, K, A, E, L, holding, store_of, active, dirty_from_first}

abbrev pub P : ℕ → ℕ → LogRecord
P tx prev = Prepare (record { tx = tx; prev = prev })

abbrev pub prepared_entry : ℕ → ℕ → ℕ → TableEntry
prepared_entry tx last undo_next = record { tx = tx; state = Prepared; last = last; undo_next = undo_next }

-- the records that redo applies to an empty page from LSN 1 on, the losers, and the CLRs and ends of the tail
abbrev numbers : LogContent → List ℕ
numbers log =
    applied (Some 1) 1 (holding 0 None) (history log)
    ∷ length (losers_of (history log)) ∷ length (filter is_clr (tail_of log)) ∷ length (filter is_end (tail_of log)) ∷ []

-- ---- one in doubt

abbrev pub prepared : LogContent
prepared = L (U 1 0 0 None a ∷ P 1 1 ∷ [])

pub prepared_lawful : IsLawful no_base (history prepared)
prepared_lawful = (
  (tt, record { chain = refl; finish = (refl, refl, refl); compensation = tt; before = refl; strict = λ other n w. absurd (false≢true w) }),
  record { chain = refl; finish = (refl, refl, refl); compensation = tt; before = tt; strict = tt },
)

prepared_tail : tail_of prepared ≡ []
prepared_tail = refl

prepared_doubt : in_doubt_of (history prepared) ≡ 1 ∷ []
prepared_doubt = refl

prepared_table : true_table (history prepared) ≡ prepared_entry 1 2 1 ∷ []
prepared_table = refl

-- what it did stays
prepared_out : store_out no_base prepared (store_of 0 (holding 0 None)) ≡ store_of 0 (holding 1 a)
prepared_out = refl

prepared_numbers : numbers prepared ≡ 1 ∷ 0 ∷ 0 ∷ 0 ∷ []
prepared_numbers = refl

-- 66 bytes
prepared_text : log_text prepared ≡
    LOG_MAGIC
    ++ (0 ∷ 0 ∷ 0 ∷ 0x1d ∷ 1 ∷ 0 ∷ 0 ∷ 0 ∷ 0 ∷ 0 ∷ 0 ∷ 0 ∷ 1 ∷ 0 ∷ 0 ∷ 0 ∷ 1 ∷ 0 ∷ 0 ∷ 0 ∷ 0 ∷ 0 ∷ 0 ∷ 0 ∷ 0 ∷ 0 ∷ 0 ∷ 0 ∷ 0 ∷ 0 ∷ 0xff ∷ 1 ∷ 0x61 ∷ [])
    ++ (0 ∷ 0 ∷ 0 ∷ 0x15 ∷ 8 ∷ 0 ∷ 0 ∷ 0 ∷ 0 ∷ 0 ∷ 0 ∷ 0 ∷ 2 ∷ 0 ∷ 0 ∷ 0 ∷ 1 ∷ 0 ∷ 0 ∷ 0 ∷ 0 ∷ 0 ∷ 0 ∷ 0 ∷ 1 ∷ [])
prepared_text = refl

-- ---- settled by a commit

abbrev prepared_commit : LogContent
prepared_commit = L (U 1 0 0 None a ∷ P 1 1 ∷ K 1 2 ∷ [])

prepared_commit_lawful : IsLawful no_base (history prepared_commit)
prepared_commit_lawful = (prepared_lawful, record { chain = refl; finish = (refl, refl); compensation = tt; before = tt; strict = tt })

prepared_commit_tail : tail_of prepared_commit ≡ []
prepared_commit_tail = refl

prepared_commit_doubt : in_doubt_of (history prepared_commit) ≡ []
prepared_commit_doubt = refl

prepared_commit_out : store_out no_base prepared_commit (store_of 0 (holding 0 None)) ≡ store_of 0 (holding 1 a)
prepared_commit_out = refl

prepared_commit_numbers : numbers prepared_commit ≡ 1 ∷ 0 ∷ 0 ∷ 0 ∷ []
prepared_commit_numbers = refl

-- ---- rolled back after an abort

abbrev prepared_abort : LogContent
prepared_abort = L (U 1 0 0 None a ∷ P 1 1 ∷ A 1 2 ∷ [])

prepared_abort_lawful : IsLawful no_base (history prepared_abort)
prepared_abort_lawful = (prepared_lawful, record { chain = refl; finish = (refl, refl); compensation = tt; before = tt; strict = tt })

prepared_abort_tail : tail_of prepared_abort ≡ C 1 3 0 0 None ∷ E 1 4 ∷ []
prepared_abort_tail = refl

prepared_abort_doubt : in_doubt_of (history prepared_abort) ≡ []
prepared_abort_doubt = refl

-- an abort outweighs a prepare
prepared_abort_state : state_at 1 (history prepared_abort) ≡ Aborting
prepared_abort_state = refl

prepared_abort_out : store_out no_base prepared_abort (store_of 0 (holding 0 None)) ≡ store_of 0 (holding 4 None)
prepared_abort_out = refl

prepared_abort_numbers : numbers prepared_abort ≡ 1 ∷ 1 ∷ 1 ∷ 1 ∷ []
prepared_abort_numbers = refl

-- ---- without updates

abbrev only_prepared : LogContent
only_prepared = L (P 1 0 ∷ [])

only_prepared_lawful : IsLawful no_base (history only_prepared)
only_prepared_lawful = (tt, record { chain = refl; finish = (refl, refl, refl); compensation = tt; before = tt; strict = tt })

only_prepared_doubt : in_doubt_of (history only_prepared) ≡ 1 ∷ []
only_prepared_doubt = refl

-- aborted, its end is among those that come first
only_prepared_abort_tail : tail_of (L (P 1 0 ∷ A 1 1 ∷ U 2 0 0 None a ∷ [])) ≡ E 1 2 ∷ C 2 3 0 0 None ∷ E 2 5 ∷ []
only_prepared_abort_tail = refl

-- ---- with a loser

abbrev beside_loser : LogContent
beside_loser = L (U 1 0 0 None a ∷ P 1 1 ∷ U 2 0 1 None b ∷ [])

beside_loser_lawful : IsLawful no_base (history beside_loser)
beside_loser_lawful = (
  prepared_lawful,
  record { chain = refl; finish = (refl, refl, refl); compensation = tt; before = refl; strict = λ other n w. absurd (false≢true (sym (nobody (eqb 1 other)) ∙ w)) },
)
  where
    nobody : (own : Bool) → ((own && false) || ((own && false) || false)) ≡ false
    nobody true = refl
    nobody false = refl

beside_loser_tail : tail_of beside_loser ≡ C 2 3 0 1 None ∷ E 2 4 ∷ []
beside_loser_tail = refl

beside_loser_doubt : in_doubt_of (history beside_loser) ≡ 1 ∷ []
beside_loser_doubt = refl

-- in doubt before and after
beside_loser_still : in_doubt_of (history (with_tail beside_loser)) ≡ 1 ∷ []
beside_loser_still = refl

beside_loser_losers : losers_of (history beside_loser) ≡ 2 ∷ []
beside_loser_losers = refl

-- the table has both, and undo goes by the loser
beside_loser_table : true_table (history beside_loser) ≡ prepared_entry 1 2 1 ∷ active 2 3 3 ∷ []
beside_loser_table = refl

beside_loser_doubtful : doubtful_in (prepared_entry 1 2 1 ∷ active 2 3 3 ∷ []) ≡ 1 ∷ []
beside_loser_doubtful = refl

beside_loser_undone : undone_by (history beside_loser) (lost_in (prepared_entry 1 2 1 ∷ active 2 3 3 ∷ [])) ≡ C 2 3 0 1 None ∷ E 2 4 ∷ []
beside_loser_undone = refl

beside_loser_out : store_out no_base beside_loser (store_of 0 (holding 0 None)) ≡ store_of 0 (holding 4 a)
beside_loser_out = refl

beside_loser_numbers : numbers beside_loser ≡ 2 ∷ 1 ∷ 1 ∷ 1 ∷ []
beside_loser_numbers = refl

-- ---- checkpoints

-- a prepare before a checkpoint is in its table
abbrev at_checkpoint : LogContent
at_checkpoint = L (U 1 0 0 None a ∷ P 1 1 ∷ CheckpointBegin ∷ CheckpointEnd 3 (prepared_entry 1 2 1 ∷ []) ((0, 1) ∷ []) ∷ [])

at_checkpoint_lawful : Lawful no_base at_checkpoint (store_of 3 (holding 0 None))
at_checkpoint_lawful = record {
  based = λ page. omega arith;
  log = (
    (prepared_lawful, record { chain = tt; finish = tt; compensation = tt; before = tt; strict = tt }),
    record { chain = tt; finish = tt; compensation = tt; before = tt; strict = tt },
  );
  names_pages = each_found (NamesPages 1) at_checkpoint
      (All-from_recursion (NamesPages 1) at_checkpoint.records (omega arith, (tt, (tt, (All-from_recursion (λ (d : ℕ × ℕ). d.0 < 1) ((0, 1) ∷ []) (omega arith, tt), tt)))));
  pages = All-from_recursion (PageLaw no_base (history at_checkpoint)) (holding 0 None ∷ []) (record { within = omega arith; on_page = inl refl; slots_are = refl }, tt);
  checkpoint = inr (record {
    transactions = prepared_entry 1 2 1 ∷ [];
    dirty = (0, 1) ∷ [];
    named = refl;
    transactions_are = refl;
    dirty_are = All-from_recursion (λ (page : Page). DirtyLaw (history at_checkpoint) 3 page.number page.lsn (rec_lsn_of page.number ((0, 1) ∷ []))) (holding 0 None ∷ [])
        (dirty_from_first (history at_checkpoint) 3 0 0 (omega arith), tt);
  });
}

at_checkpoint_tail : tail_of at_checkpoint ≡ []
at_checkpoint_tail = refl

at_checkpoint_out : store_out no_base at_checkpoint (store_of 3 (holding 0 None)) ≡ store_of 3 (holding 1 a)
at_checkpoint_out = refl

at_checkpoint_numbers : numbers at_checkpoint ≡ 1 ∷ 0 ∷ 0 ∷ 0 ∷ []
at_checkpoint_numbers = refl

-- a prepare after its begin record is not: the transaction is active there, and in doubt in the log
abbrev behind_begin : LogContent
behind_begin = L (U 1 0 0 None a ∷ CheckpointBegin ∷ P 1 1 ∷ CheckpointEnd 2 (active 1 1 1 ∷ []) ((0, 1) ∷ []) ∷ [])

behind_begin_lawful : Lawful no_base behind_begin (store_of 2 (holding 0 None))
behind_begin_lawful = record {
  based = λ page. omega arith;
  log = (
    (
      (prepared_lawful.0, record { chain = tt; finish = tt; compensation = tt; before = tt; strict = tt }),
      record { chain = refl; finish = (refl, refl, refl); compensation = tt; before = tt; strict = tt },
    ),
    record { chain = tt; finish = tt; compensation = tt; before = tt; strict = tt },
  );
  names_pages = each_found (NamesPages 1) behind_begin
      (All-from_recursion (NamesPages 1) behind_begin.records (omega arith, (tt, (tt, (All-from_recursion (λ (d : ℕ × ℕ). d.0 < 1) ((0, 1) ∷ []) (omega arith, tt), tt)))));
  pages = All-from_recursion (PageLaw no_base (history behind_begin)) (holding 0 None ∷ []) (record { within = omega arith; on_page = inl refl; slots_are = refl }, tt);
  checkpoint = inr (record {
    transactions = active 1 1 1 ∷ [];
    dirty = (0, 1) ∷ [];
    named = refl;
    transactions_are = refl;
    dirty_are = All-from_recursion (λ (page : Page). DirtyLaw (history behind_begin) 2 page.number page.lsn (rec_lsn_of page.number ((0, 1) ∷ []))) (holding 0 None ∷ [])
        (dirty_from_first (history behind_begin) 2 0 0 (omega arith), tt);
  });
}

behind_begin_doubt : in_doubt_of (history behind_begin) ≡ 1 ∷ []
behind_begin_doubt = refl

behind_begin_tail : tail_of behind_begin ≡ []
behind_begin_tail = refl

-- one of each before and after a checkpoint
around_checkpoint_table : true_table (history (L (U 1 0 0 None a ∷ P 1 1 ∷ U 2 0 1 None b ∷ CheckpointBegin ∷ P 2 3 ∷ []))) ≡ prepared_entry 1 2 1 ∷ prepared_entry 2 5 3 ∷ []
around_checkpoint_table = refl
