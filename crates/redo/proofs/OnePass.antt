-- One pass over the records: before the first, with one more record, and at the end.
use Rattle.std.proofs.Common.{◌≡◌, ℕ, ◌+◌, ◌<◌, ◌≤◌, List, [], ◌∷◌, ◌++◌, All, Some, None, length, get_or, set, sym, ap, subst, ◌∙◌, inl, inr, arith}
use Rattle.std.proofs.lemmas.Bool.{cases_eq, cases_lt}
use Rattle.std.proofs.lemmas.List.{get_or_append_left, get_or_default, get_or-set_same, get_or-set_other}
use Rattle.std.proofs.lemmas.Option.{slice_get-get_or, same_Some}
use Rattle.std.proofs.Math.Seq.{get_or-append_seam}
use Rattle.page.specs.Store.{AreNumbered}
use Rattle.page.specs.declared.fault.Fault.{Fault}
use Rattle.page.specs.declared.fault.Fault.TheVariants.{NoResource, NoSuchPage}
use Rattle.log_laws.specs.Records.{LogRecord, start, history, record_at, first, last_lsn, base_lsn}
use Rattle.log_laws.specs.Meaning.{cell_of}
use Rattle.log_laws.specs.Redo.{rec_lsn_of, applied}
use Rattle.log_laws.proofs.Histories.{behind, size_of_first, first_all, base_within}
use Rattle.redo.specs.declared.tally.Tally.{Tally}
use Rattle.redo.specs.Inputs.{InputContent}
use Rattle.redo.specs.Changes.{RedoPage, page_named, advance, counted}
use Rattle.redo.specs.Routes.{skipped_in, RouteFault}
use Rattle.redo.specs.Redone.{AreWorkers, RedoFault}
use Rattle.redo.specs.Parts.{redo_page_in, image_at, resolved, IsTallied, AreAllTallied}
use Rattle.redo.specs.OnePass.{AreUpTo}
use Rattle.redo.proofs.Stretches.{skipped_within}
use Rattle.redo.proofs.Advance.{advanced, advance_elsewhere}
use Rattle.redo.proofs.Replay.{image_number, skips_none, page_of_cell, applied_within}
use Rattle.redo.proofs.Tallies.{does, counted_put}
use Rattle.redo.proofs.Causes.{round_fault}

-- BEFORE THE FIRST RECORD
pub begun : (input : InputContent) (tallies : List Tally) → length tallies ≡ length input.images
    → ((number : ℕ) (other : Tally) → number < length input.images → resolved input (get_or tallies number other) ≡ redo_page_in input (start (base_lsn (history input.log))) (image_at input.images number))
    → AreUpTo input (skipped_in input) tallies
begun input tallies count each = record {
  count = count;
  each = λ number other lt.
      each number other lt
      ∙ sym (skips_none input (image_at input.images number) (skipped_in input) (omega arith) (skipped_within (base_lsn (history input.log)) input.redo_lsn (last_lsn (history input.log)) (base_within (history input.log))));
}

-- one more: what holds for each at its number holds for it too
pub each_more : {A : Type 0} (Q : ℕ → A → Type 0) (number : ℕ) (xs : List A) (x : A) → length xs ≡ number
    → ((k : ℕ) (d : A) → k < number → Q k (get_or xs k d)) → Q number x
    → (k : ℕ) (d : A) → k < number + 1 → Q k (get_or (xs ++ x ∷ []) k d)
each_more Q number xs x count each one k d lt =
    elim (cases_lt k number) [
      | inl less ↦ subst (Q k) (sym (get_or_append_left xs (x ∷ []) d k (omega (arith, less, count)))) (each k d less)
      | inr ge ↦
          (let at : k ≡ length xs = omega (arith, lt, ge, count) in
          subst (λ i. Q i (get_or (xs ++ x ∷ []) i d)) (sym at)
          (subst (Q (length xs)) (sym (get_or-append_seam xs x [] d)) (subst (λ i. Q i x) (sym count) one)))
    ]

-- ONE MORE RECORD
-- a record in a cell is counted for the page of its number
pub placed : (input : InputContent) (lsn number slot : ℕ) (r : LogRecord) (tallies new : List Tally) → record_at (history input.log) lsn ≡ Some r → cell_of r ≡ Some (number, slot)
    → number < length tallies → ((k : ℕ) (t : Tally) → k < length tallies → (get_or tallies k t).number ≡ k)
    → ((d : Tally) → new ≡ set tallies number (counted input.redo_lsn lsn slot (get_or tallies number d)))
    → (k : ℕ) (t : Tally) → k < length tallies → resolved input (get_or new k t) ≡ advance input.redo_lsn lsn r (resolved input (get_or tallies k t))
placed input lsn number slot r tallies new there cell below numbers is k t lt =
    elim (cases_eq k number) [
      | inl e ↦
          (let own : number ≡ (get_or tallies number t).number = sym (numbers number t below) in
          ap (λ ts. resolved input (get_or ts k t)) (is t)
          ∙ (ap (λ i. resolved input (get_or (set tallies number (counted input.redo_lsn lsn slot (get_or tallies number t))) i t)) e
          ∙ (ap (resolved input) (get_or-set_same tallies number (counted input.redo_lsn lsn slot (get_or tallies number t)) t below)
          ∙ (counted_put input input.redo_lsn lsn slot r (get_or tallies number t) there
          ∙ (sym (does input.redo_lsn lsn r number slot cell (resolved input (get_or tallies number t)) own)
          ∙ ap (λ i. advance input.redo_lsn lsn r (resolved input (get_or tallies i t))) (sym e))))))
      | inr ne ↦
          (ap (λ ts. resolved input (get_or ts k t)) (is t)
          ∙ (ap (resolved input) (get_or-set_other tallies number k (counted input.redo_lsn lsn slot (get_or tallies number t)) t ne)
          ∙ sym (advance_elsewhere input.redo_lsn lsn r (resolved input (get_or tallies k t)) (λ page named same. ne (sym (numbers k t lt) ∙ (same ∙ own page named))))))
    ]
  where
    own : (page : ℕ) → page_named r ≡ Some page → page ≡ number
    own page named = same_Some _ _ (sym named ∙ page_of_cell r number slot cell)

module _ (input : InputContent) (numbered : AreNumbered input.images) (lsn : ℕ) (tallies : List Tally) (up : AreUpTo input lsn tallies) where
  -- each tally has the number of its page
  pub numbers_of_tallies : (k : ℕ) (t : Tally) → k < length tallies → (get_or tallies k t).number ≡ k
  numbers_of_tallies k t lt =
      let within : k < length input.images = omega (arith, lt, up.count) in
      ap (λ (p : RedoPage). p.page.number) (up.each k t within) ∙ image_number input.images k numbered within

  -- no count is above the LSN
  pub few : base_lsn (history input.log) ≤ lsn → lsn ≤ last_lsn (history input.log) → All (λ t. t.applied ≤ lsn) tallies
  few from to k t lt =
      let image = image_at input.images k in
      let counted : (get_or tallies k t).applied ≡ applied (rec_lsn_of image.number input.dirty) input.redo_lsn image (first lsn (history input.log)) = ap (λ (p : RedoPage). p.applied) (up.each k t (omega (arith, lt, up.count))) in
      omega (arith, counted, applied_within (rec_lsn_of image.number input.dirty) input.redo_lsn image (first lsn (history input.log)), size_of_first lsn (history input.log) from to)

  -- each page after one record is the page after the log with that record
  pub one_more : (new : List Tally) → base_lsn (history input.log) ≤ lsn → lsn < last_lsn (history input.log) → length new ≡ length tallies
      → ((r : LogRecord) (k : ℕ) (t : Tally) → record_at (history input.log) (lsn + 1) ≡ Some r → k < length tallies
      → resolved input (get_or new k t) ≡ advance input.redo_lsn (lsn + 1) r (resolved input (get_or tallies k t)))
      → AreUpTo input (lsn + 1) new
  one_more new from to same each =
      let found = behind (history input.log) lsn from to in
      let r = found.entry in
      let log = first lsn (history input.log) in
      let size : last_lsn log ≡ lsn = size_of_first lsn (history input.log) from (omega (arith, to)) in
      record {
        count = same ∙ up.count;
        each = λ k t lt.
            let image = image_at input.images k in
            each r k t found.there (omega (arith, lt, up.count))
            ∙ (ap (advance input.redo_lsn (lsn + 1) r) (up.each k t lt)
            ∙ (ap (λ n. advance input.redo_lsn n r (redo_page_in input log image)) (omega (arith, size))
            ∙ (sym (advanced (rec_lsn_of image.number input.dirty) input.redo_lsn log r image) ∙ ap (λ h. redo_page_in input h image) (sym found.next))));
      }

  -- AT THE END
  pub all_tallied_alone : last_lsn (history input.log) ≤ lsn → AreAllTallied input tallies
  all_tallied_alone whole = record { count = up.count; each = at }
    where
      at : (number : ℕ) → number < length input.images → IsTallied input tallies number
      at number lt =
          let image = image_at input.images number in
          let tally = get_or tallies number (record { number = 0; lsn = 0; rec_lsn = None; applied = 0; lasts = [] }) in
          record {
            image = image;
            there = slice_get-get_or input.images number image lt ∙ ap Some (get_or_default input.images number image _ lt);
            tally = tally;
            at = slice_get-get_or tallies number _ (omega (arith, lt, up.count));
            own = numbers_of_tallies number _ (omega (arith, lt, up.count));
            redone = up.each number _ lt ∙ ap (λ h. redo_page_in input h image) (first_all lsn (history input.log) whole);
          }

-- THE ERRORS
pub alone_fault : (input : InputContent) (to workers : ℕ) (e : Fault) → AreWorkers workers → RouteFault input (skipped_in input) to e → RedoFault input.log (length input.images) input.redo_lsn workers e
alone_fault input to workers NoResource fit cause = tt
alone_fault input to workers (NoSuchPage lsn) fit cause = round_fault input workers (NoSuchPage lsn) fit cause.1
alone_fault input to workers e fit cause = absurd cause
