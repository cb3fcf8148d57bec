-- What each law of records is for: a log that keeps only the others, and fails.
use Rattle.std.proofs.Common.{ℕ, ◌≡◌, ◌≢◌, ◌&&◌, ◌||◌, true, false, List, [], ◌∷◌, Option, Some, None, inl, inr, refl, sym, ◌∙◌, ap, eqb, ne_eqb, length, arith, get_or}
use Rattle.std.proofs.lemmas.Bool.{false≢true, or_from, and_right}
use Rattle.log_laws.specs.Records.{LogRecord, CheckpointBegin, CheckpointEnd, History, start, ◌▸◌, LogContent, history}
use Rattle.log_laws.specs.Meaning.{no_base, touches, replay, winners, pending, undo_next_of}
use Rattle.log_laws.specs.Laws.{ChainLaw, FinishLaw, CompensationLaw, BeforeLaw, Strictness, Obeys}
use Rattle.log_laws.specs.Tail.{with_tail}
use Rattle.log_laws.specs.Hops.{hops}
use Rattle.log_laws.specs.Redo.{redo_of}
use Rattle.log_laws.specs.Undo.{lost_in, doubtful_in, undone_by}
use Rattle.log_laws.specs.Pages.{PageLaw}
use Rattle.log_laws.specs.Checkpoint.{DirtyLaw, true_table}
use Rattle.log_laws.specs.Store.{store_out}
use Rattle.log_laws.specs.Theorems.{replayed_page}
use Rattle.wal.proofs.Rows.{L, a, b, c, U, C, K, A, E, holding, store_of, active}
use Rattle.wal.proofs.PreparedRows.{P, prepared}

-- the laws of records
data Law : Type 0 where
  TheChain : Law
  TheFinish : Law
  TheCompensation : Law
  TheBefore : Law
  TheStrictness : Law

abbrev says : Law → History → LogRecord → Type 0
says TheChain = ChainLaw
says TheFinish = FinishLaw
says TheCompensation = CompensationLaw
says TheBefore = BeforeLaw no_base
says TheStrictness = Strictness

-- each record keeps every law but this one
abbrev KeepsBut : Law → History → Type 0
KeepsBut law (start _) = Unit {0}
KeepsBut law (log ▸ r) = KeepsBut law log × ((other : Law) → other ≢ law → says other log r)

-- without this law, the log and its tail leave in the first cell something other than the winners do
record Fails (law : Law) (log : LogContent) : Type 0 where
  others : KeepsBut law (history log)
  differs : replay no_base (history (with_tail log)) 0 0 ≢ winners no_base (history log) 0 0

-- a record that obeys them all
keeps : (law : Law) (log : History) (r : LogRecord) → Obeys no_base log r → (other : Law) → other ≢ law → says other log r
keeps law log r o TheChain n = o.chain
keeps law log r o TheFinish n = o.finish
keeps law log r o TheCompensation n = o.compensation
keeps law log r o TheBefore n = o.before
keeps law log r o TheStrictness n = o.strict

-- the first record of a log, an update
first_update : Obeys no_base (start 0) (U 1 0 0 None a)
first_update = record { chain = refl; finish = (refl, refl, refl); compensation = tt; before = refl; strict = λ other n w. absurd (false≢true w) }

-- no record of another transaction is in a cell that only this one could have touched
nobody : (other : ℕ) → ((eqb 1 other && false) || false) ≡ true → ⊥
nobody other w = false≢true (sym (or_from (eqb 1 other && false) false (and_right (eqb 1 other) false refl) refl) ∙ w)

-- STRICTNESS. An update over one that is still open: undoing the first takes the second one's value away.
without_strictness : Fails TheStrictness (L (U 1 0 0 None a ∷ U 2 0 0 a b ∷ K 2 2 ∷ []))
without_strictness = record { others = (((tt, keeps TheStrictness (start 0) (U 1 0 0 None a) first_update), second), third); differs = λ e. (let f : None ≡ b = e in cc) }
  where
    second : (other : Law) → other ≢ TheStrictness → says other (start 0 ▸ U 1 0 0 None a) (U 2 0 0 a b)
    second TheChain n = refl
    second TheFinish n = (refl, refl, refl)
    second TheCompensation n = tt
    second TheBefore n = refl
    second TheStrictness n = absurd (n refl)

    third : (other : Law) → other ≢ TheStrictness → says other ((start 0 ▸ U 1 0 0 None a) ▸ U 2 0 0 a b) (K 2 2)
    third TheChain n = refl
    third TheFinish n = (refl, refl)
    third TheCompensation n = tt
    third TheBefore n = tt
    third TheStrictness n = tt

abbrev unstrict : LogContent
unstrict = L (U 1 0 0 None a ∷ U 2 0 0 a b ∷ K 2 2 ∷ [])

-- so the page after a restart would not keep the page law
unstrict_out : store_out no_base unstrict (store_of 0 (holding 0 None)) ≡ store_of 0 (holding 4 b)
unstrict_out = refl

unstrict_page : PageLaw no_base (history (with_tail unstrict)) (holding 4 b) → ⊥
unstrict_page law = (let f : b ≡ None = ap (λ slots. get_or slots 0 None) law.slots_are in cc)

-- COMPENSATION. An end although an update is left: nothing will undo it.
without_compensation_of_ends : Fails TheCompensation (L (U 1 0 0 None a ∷ E 1 1 ∷ []))
without_compensation_of_ends = record { others = ((tt, keeps TheCompensation (start 0) (U 1 0 0 None a) first_update), second); differs = λ e. (let f : a ≡ None = e in cc) }
  where
    second : (other : Law) → other ≢ TheCompensation → says other (start 0 ▸ U 1 0 0 None a) (E 1 1)
    second TheChain n = refl
    second TheFinish n = (refl, refl)
    second TheCompensation n = absurd (n refl)
    second TheBefore n = tt
    second TheStrictness n = tt

-- A CLR that puts back another value than the one before.
without_compensation : Fails TheCompensation (L (U 1 0 0 None a ∷ C 1 1 0 0 b ∷ []))
without_compensation = record { others = ((tt, keeps TheCompensation (start 0) (U 1 0 0 None a) first_update), second); differs = λ e. (let f : b ≡ None = e in cc) }
  where
    second : (other : Law) → other ≢ TheCompensation → says other (start 0 ▸ U 1 0 0 None a) (C 1 1 0 0 b)
    second TheChain n = refl
    second TheFinish n = (refl, refl)
    second TheCompensation n = absurd (n refl)
    second TheBefore n = tt
    second TheStrictness n = tt

-- BEFORE. Undo leaves a before image that was never in the cell.
without_before : Fails TheBefore (L (U 1 0 0 b a ∷ []))
without_before = record { others = (tt, only); differs = λ e. (let f : b ≡ None = e in cc) }
  where
    only : (other : Law) → other ≢ TheBefore → says other (start 0) (U 1 0 0 b a)
    only TheChain n = refl
    only TheFinish n = (refl, refl, refl)
    only TheCompensation n = tt
    only TheBefore n = absurd (n refl)
    only TheStrictness n = λ other d w. absurd (false≢true w)

-- FINISH. An update after the end of its transaction is neither a loser's nor a winner's.
without_finish : Fails TheFinish (L (E 1 0 ∷ U 1 1 0 None a ∷ []))
without_finish = record { others = ((tt, first), second); differs = λ e. (let f : a ≡ None = e in cc) }
  where
    first : (other : Law) → other ≢ TheFinish → says other (start 0) (E 1 0)
    first TheChain n = refl
    first TheFinish n = absurd (n refl)
    first TheCompensation n = λ _. refl
    first TheBefore n = tt
    first TheStrictness n = tt

    second : (other : Law) → other ≢ TheFinish → says other (start 0 ▸ E 1 0) (U 1 1 0 None a)
    second TheChain n = refl
    second TheFinish n = absurd (n refl)
    second TheCompensation n = tt
    second TheBefore n = refl
    second TheStrictness n = λ other d w. absurd (nobody other w)

-- CHAIN. What the winners leave does not depend on it, but the hops do: here one passes over an update.
abbrev unchained : LogContent
unchained = L (U 1 0 0 None a ∷ U 1 0 1 None b ∷ [])

unchained_others : KeepsBut TheChain (history unchained)
unchained_others = ((tt, keeps TheChain (start 0) (U 1 0 0 None a) first_update), second)
  where
    second : (other : Law) → other ≢ TheChain → says other (start 0 ▸ U 1 0 0 None a) (U 1 0 1 None b)
    second TheChain n = absurd (n refl)
    second TheFinish n = (refl, refl, refl)
    second TheCompensation n = tt
    second TheBefore n = refl
    second TheStrictness n = λ other d w. absurd (nobody other w)

without_chain : hops 1 (history unchained) (undo_next_of 1 (history unchained)) ≢ record { met = pending 1 (history unchained); ends = 0 }
without_chain e = (let f : ◌≡◌ {A = ℕ} 1 2 = ap (λ w. length w.met) e in omega (arith, f))

-- PREPARE. Only a commit or an abort of its transaction follows a prepare
no_update_behind : FinishLaw (history prepared) (U 1 2 0 a b) → ⊥
no_update_behind law = false≢true (sym law.2)

no_clr_behind : FinishLaw (history prepared) (C 1 2 0 0 None) → ⊥
no_clr_behind law = false≢true (sym law.1)

no_end_behind : FinishLaw (history prepared) (E 1 2) → ⊥
no_end_behind law = false≢true (sym law.1)

no_second_prepare : FinishLaw (history prepared) (P 1 2) → ⊥
no_second_prepare law = false≢true (sym law.2)

-- and a prepare does not follow an abort, a commit or an end
no_prepare_behind_abort : FinishLaw (history (L (U 1 0 0 None a ∷ A 1 1 ∷ []))) (P 1 2) → ⊥
no_prepare_behind_abort law = false≢true (sym law.1)

no_prepare_behind_commit : FinishLaw (history (L (U 1 0 0 None a ∷ K 1 1 ∷ []))) (P 1 2) → ⊥
no_prepare_behind_commit law = false≢true (sym law.0)

no_prepare_behind_end : FinishLaw (history (L (A 1 0 ∷ E 1 1 ∷ []))) (P 1 2) → ⊥
no_prepare_behind_end law = false≢true (sym law.0)

-- from an update after a prepare a hop would come to the prepare, and be bad, once the transaction is aborted
abbrev worked_on : LogContent
worked_on = L (U 1 0 0 None a ∷ P 1 1 ∷ U 1 2 0 a b ∷ A 1 3 ∷ [])

worked_on_others : KeepsBut TheFinish (history worked_on)
worked_on_others = ((((tt, keeps TheFinish (start 0) (U 1 0 0 None a) first_update), second), third), fourth)
  where
    nobody_else : (other : ℕ) → other ≢ 1 → touches other 0 0 (history prepared) ≡ true → ⊥
    nobody_else other d w =
        let e : eqb 1 other ≡ false = ne_eqb 1 other (λ i. d (sym i)) in
        let f : false ≡ true = rw e at w in
        false≢true f

    second : (other : Law) → other ≢ TheFinish → says other (start 0 ▸ U 1 0 0 None a) (P 1 1)
    second TheChain n = refl
    second TheFinish n = absurd (n refl)
    second TheCompensation n = tt
    second TheBefore n = tt
    second TheStrictness n = tt

    third : (other : Law) → other ≢ TheFinish → says other (history prepared) (U 1 2 0 a b)
    third TheChain n = refl
    third TheFinish n = absurd (n refl)
    third TheCompensation n = tt
    third TheBefore n = refl
    third TheStrictness n = λ other d w. absurd (nobody_else other d w)

    fourth : (other : Law) → other ≢ TheFinish → says other (history prepared ▸ U 1 2 0 a b) (A 1 3)
    fourth TheChain n = refl
    fourth TheFinish n = absurd (n refl)
    fourth TheCompensation n = tt
    fourth TheBefore n = tt
    fourth TheStrictness n = tt

worked_on_hops : hops 1 (history worked_on) (undo_next_of 1 (history worked_on)) ≢ record { met = pending 1 (history worked_on); ends = 0 }
worked_on_hops e = (let f : ◌≡◌ {A = ℕ} 2 0 = ap (λ w. w.ends) e in omega (arith, f))

-- STRICTNESS holds for a transaction in doubt too: a prepare does not free its cells.
no_write_over_prepared : Strictness (history prepared) (U 2 0 0 a c) → ⊥
no_write_over_prepared law = false≢true (law 1 (λ e. omega (arith, e)) refl)

-- If it were aborted later, it would take away what another transaction committed there.
without_strictness_of_prepared : Fails TheStrictness (L (U 1 0 0 None a ∷ P 1 1 ∷ U 2 0 0 a c ∷ K 2 3 ∷ A 1 2 ∷ []))
without_strictness_of_prepared = record {
  others = (((((tt, keeps TheStrictness (start 0) (U 1 0 0 None a) first_update), second), third), fourth), fifth);
  differs = λ e. (let f : None ≡ c = e in cc);
}
  where
    second : (other : Law) → other ≢ TheStrictness → says other (start 0 ▸ U 1 0 0 None a) (P 1 1)
    second TheChain n = refl
    second TheFinish n = (refl, refl, refl)
    second TheCompensation n = tt
    second TheBefore n = tt
    second TheStrictness n = tt

    third : (other : Law) → other ≢ TheStrictness → says other (history prepared) (U 2 0 0 a c)
    third TheChain n = refl
    third TheFinish n = (refl, refl, refl)
    third TheCompensation n = tt
    third TheBefore n = refl
    third TheStrictness n = absurd (n refl)

    fourth : (other : Law) → other ≢ TheStrictness → says other (history prepared ▸ U 2 0 0 a c) (K 2 3)
    fourth TheChain n = refl
    fourth TheFinish n = (refl, refl)
    fourth TheCompensation n = tt
    fourth TheBefore n = tt
    fourth TheStrictness n = tt

    fifth : (other : Law) → other ≢ TheStrictness → says other ((history prepared ▸ U 2 0 0 a c) ▸ K 2 3) (A 1 2)
    fifth TheChain n = refl
    fifth TheFinish n = (refl, refl)
    fifth TheCompensation n = tt
    fifth TheBefore n = tt
    fifth TheStrictness n = tt

-- CHECKPOINT. A table that has a transaction in doubt as active is not true: undo would roll it back.
prepared_as_active : active 1 2 1 ∷ [] ≢ true_table (history prepared)
prepared_as_active e = (let f : ◌≡◌ {A = List ℕ} [] (1 ∷ []) = ap doubtful_in e in cc)

prepared_as_active_undone : undone_by (history prepared) (lost_in (active 1 2 1 ∷ [])) ≡ C 1 2 0 0 None ∷ E 1 3 ∷ []
prepared_as_active_undone = refl

-- REDO. A page that the dirty page table leaves out, though its image lacks a record, stays as it was.
redo_left_out : redo_of None 1 (history (L (U 1 0 0 None a ∷ []))) (holding 0 None) ≢ replayed_page no_base (history (L (U 1 0 0 None a ∷ []))) 0
redo_left_out e = (let f : ◌≡◌ {A = ℕ} 0 1 = ap (λ page. page.lsn) e in omega (arith, f))

-- INTERRUPTED. A page that is set back past a checkpoint whose dirty page table leaves it out lacks a record that nothing names.
set_back : DirtyLaw (history (L (U 1 0 0 None a ∷ CheckpointBegin ∷ CheckpointEnd 2 (active 1 1 1 ∷ []) [] ∷ []))) 2 0 0 None → ⊥
set_back law =
    elim (law.covers 1 (U 1 0 0 None a) (omega arith) refl refl) [
      | inl older ↦ omega (arith, older)
      | inr listed ↦ (let f : ◌≡◌ {A = Option ℕ} None (Some listed.0) = listed.1 in cc)
    ]
