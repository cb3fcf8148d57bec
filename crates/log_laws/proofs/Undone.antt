-- Undo by the losers of a lawful log's true table appends its tail.
use mathlib.Core.Path.{fun_ext}
use Rattle.std.proofs.Common.{ℕ, suc, ◌≡◌, Bool, true, false, cond, ◌&&◌, not, List, [], ◌∷◌, map, Some, None, refl, sym, ap, ap₂, ◌∙◌, inl, inr, eq-eqb, ne_eqb}
use Rattle.std.specs.Prelude.{filter}
use Rattle.std.proofs.lemmas.Bool.{cases_Bool, cases_eq}
use Rattle.log_laws.specs.Records.{TableEntry, tx_in, History, last_lsn, history}
use Rattle.log_laws.specs.Meaning.{BasePages, is_of, has, is_unfinished, in_doubt, is_loser, aborted, prepared, state_by, pending, last_of}
use Rattle.log_laws.specs.Laws.{IsLawful}
use Rattle.log_laws.specs.Tail.{records_for, numbers_from, above_all, transactions_of, in_doubt_of, losers_of, left_of, is_among, rollback, left_to_do, tail}
use Rattle.log_laws.specs.Checkpoint.{true_entry, true_table}
use Rattle.log_laws.specs.Undo.{entry_for, walk_of, last_in, is_prepared, is_lost, lost_in, undone_by}
use Rattle.log_laws.specs.Theorems.{UndoIsTail, TableTellsDoubt}
use Rattle.log_laws.proofs.Holders.{unfinished_has}
use Rattle.log_laws.proofs.Steps.{filter-filter, loser_has}
use Rattle.log_laws.proofs.Actions.{among_is, records_for_same, left_is_of_losers}
use Rattle.log_laws.proofs.Walks.{walk_meets_pending}

-- THE TRUE TABLE
-- an entry is there for those of the list
entry_among : (log : History) (t : ℕ) (ts : List ℕ) → entry_for t (map (true_entry log) ts) ≡ cond (is_among t ts) (Some (true_entry log t)) None
entry_among log t [] = refl
entry_among log t (x ∷ ts) =
    elim (cases_eq t x) [
      | inl e ↦ rw (eq-eqb x t (sym e), eq-eqb t x e) (ap (λ y. Some (true_entry log y)) (sym e))
      | inr d ↦ rw (ne_eqb x t (λ i. d (sym i)), ne_eqb t x d) (entry_among log t ts)
    ]

-- each of the chosen transactions of the log has an entry, and it is the true one
chosen_entry_for : (p : ℕ → Bool) (log : History) → ((t : ℕ) → p t ≡ true → has (is_of t) log ≡ true) → (t : ℕ)
    → entry_for t (map (true_entry log) (transactions_of p log)) ≡ cond (p t) (Some (true_entry log t)) None
chosen_entry_for p log of_log t = entry_among log t (transactions_of p log) ∙ ap (λ b. cond b (Some (true_entry log t)) None) (among_is p log of_log t)

pub true_entry_for : (log : History) (t : ℕ) → entry_for t (true_table log) ≡ cond (is_unfinished t log) (Some (true_entry log t)) None
true_entry_for log t = chosen_entry_for (λ x. is_unfinished x log) log (λ x. unfinished_has x log) t

-- the transactions of the entries
txs_are : (log : History) (ts : List ℕ) → map tx_in (map (true_entry log) ts) ≡ ts
txs_are log [] = refl
txs_are log (t ∷ ts) = ap (λ xs. t ∷ xs) (txs_are log ts)

-- THE LOSERS AND THOSE IN DOUBT, BY THE TABLE
filter_entries : (p : TableEntry → Bool) (log : History) (ts : List ℕ) → filter p (map (true_entry log) ts) ≡ map (true_entry log) (filter (λ t. p (true_entry log t)) ts)
filter_entries p log [] = refl
filter_entries p log (t ∷ ts) =
    elim (cases_Bool (p (true_entry log t))) [
      | inl e ↦ rw e (ap (λ es. true_entry log t ∷ es) (filter_entries p log ts))
      | inr e ↦ rw e (filter_entries p log ts)
    ]

-- a test of the entries chooses the transactions that this test chooses among the unfinished ones
entries_where : (p : TableEntry → Bool) (q : ℕ → Bool) (log : History) → ((t : ℕ) → (is_unfinished t log && p (true_entry log t)) ≡ q t) → filter p (true_table log) ≡ map (true_entry log) (transactions_of q log)
entries_where p q log same =
    filter_entries p log (transactions_of (λ t. is_unfinished t log) log)
    ∙ ap (map (true_entry log)) (filter-filter (λ t. p (true_entry log t)) (λ t. is_unfinished t log) (numbers_from 0 (above_all log)))
    ∙ ap (λ f. map (true_entry log) (transactions_of f log)) (fun_ext same)

-- the entry of a transaction in doubt is prepared, that of a loser is not
prepared_is : (aborts prepares : Bool) → is_prepared (state_by aborts prepares) ≡ (prepares && not aborts)
prepared_is true true = refl
prepared_is true false = refl
prepared_is false true = refl
prepared_is false false = refl

lost_by : (unfinished doubt : Bool) → (unfinished && not doubt) ≡ (unfinished && not (unfinished && doubt))
lost_by true doubt = refl
lost_by false doubt = refl

doubtful_is : (log : History) → filter (λ e. is_prepared e.state) (true_table log) ≡ map (true_entry log) (in_doubt_of log)
doubtful_is log = entries_where (λ e. is_prepared e.state) (λ t. in_doubt t log) log (λ t. ap (λ b. is_unfinished t log && b) (prepared_is (aborted t log) (prepared t log)))

lost_is : (log : History) → lost_in (true_table log) ≡ map (true_entry log) (losers_of log)
lost_is log =
    entries_where is_lost (λ t. is_loser t log) log
    (λ t. ap (λ b. is_unfinished t log && not b) (prepared_is (aborted t log) (prepared t log)) ∙ lost_by (is_unfinished t log) (prepared t log && not (aborted t log)))

pub table_tells_doubt : TableTellsDoubt
table_tells_doubt log =
    record {
      doubtful = ap (map tx_in) (doubtful_is (history log)) ∙ txs_are (history log) (in_doubt_of (history log));
      lost = ap (map tx_in) (lost_is (history log)) ∙ txs_are (history log) (losers_of (history log));
    }

-- UNDO BY ITS LOSERS
module _ (base : BasePages) (log : History) (h : IsLawful base log) where
  abbrev lost : List TableEntry
  lost = lost_in (true_table log)

  -- a transaction has an entry there if it is a loser, and it is the true one
  lost_entry_for : (t : ℕ) → entry_for t lost ≡ cond (is_loser t log) (Some (true_entry log t)) None
  lost_entry_for t = ap (entry_for t) (lost_is log) ∙ chosen_entry_for (λ x. is_loser x log) log (λ x. loser_has x log) t

  -- each walk meets what is left, and ends well
  walk_is : (t : ℕ) → walk_of log (entry_for t lost) ≡ record { met = left_of log t; ends = 0 }
  walk_is t = ap (walk_of log) (lost_entry_for t) ∙ by_test (is_loser t log)
    where
      by_test : (b : Bool) → walk_of log (cond b (Some (true_entry log t)) None) ≡ record { met = cond b (pending t log) []; ends = 0 }
      by_test true = walk_meets_pending base log t h
      by_test false = refl

  last_is : (t : ℕ) → is_loser t log ≡ true → last_in (entry_for t lost) ≡ last_of t log
  last_is t l = ap last_in (lost_entry_for t ∙ ap (λ b. cond b (Some (true_entry log t)) None) l)

  undone_is_tail : undone_by log lost ≡ tail log
  undone_is_tail =
      ap₂ (λ ts s. records_for (λ t. last_in (entry_for t lost)) (suc (last_lsn log)) (rollback ts s log))
      (ap (map tx_in) (lost_is log) ∙ txs_are log (losers_of log)) (fun_ext (λ t. ap (λ w. w.met) (walk_is t)))
      ∙ records_for_same (λ t. last_in (entry_for t lost)) (λ t. last_of t log) (suc (last_lsn log)) (left_to_do log)
      (left_is_of_losers (λ t. last_in (entry_for t lost) ≡ last_of t log) log last_is)

pub undo_is_tail : UndoIsTail
undo_is_tail base log h = record { appended = undone_is_tail base (history log) h; no_bad_hop = λ t. ap (λ w. w.ends) (walk_is base (history log) h t) }
