-- One more record of a stretch, noted for its part.
use Rattle.std.proofs.Common.{◌≡◌, ℕ, suc, ◌+◌, ◌<◌, ◌≤◌, List, [], ◌∷◌, ◌++◌, All, Bool, Some, None, true, false, refl, map, inl, inr, eq-eqb, ne_eqb, cond, eqb, length, get_or, sym, ap, ◌∙◌, subst, arith}
use mathlib.Core.Logic.{dite}
use native.Mathlib.Decide.{dec_lt}
use Rattle.page.specs.declared.fault.Fault.{Fault}
use Rattle.page.specs.declared.fault.Fault.TheVariants.{NoResource, NoSuchPage}
use Rattle.std.specs.List.{slice_get}
use Rattle.std.proofs.lemmas.Bool.{cond_both, cases_eq}
use Rattle.std.proofs.lemmas.List.{map-append}
use Rattle.std.proofs.lemmas.List.Elements.{All-push}
use Rattle.std.proofs.lemmas.Option.{slice_get-get_or, same_Some}
use Rattle.wal.specs.Spelling.{Fits}
use Rattle.redo.specs.declared.note.Note.{Note}
use Rattle.log_laws.specs.Records.{LogRecord, LogContent, Update, Compensation, History, ◌▸◌, last_lsn, history, record_at, first, base_lsn}
use Rattle.log_laws.proofs.Histories.{size_of_first, size_of_first_le}
use Rattle.redo.specs.Changes.{part_of_page, is_part, IsNote, NamesBelow, on_part, lsns_where, lsn_in}
use Rattle.log_laws.specs.Meaning.{cell_of}
use Rattle.redo.specs.Inputs.{InputContent}
use Rattle.redo.specs.Routes.{ExistWithin, NoteFault, RouteFault}
use Rattle.redo.proofs.Routes.{lsns_none}
use Rattle.redo.proofs.Replay.{lsns_more, page_of_cell}
use Rattle.page.specs.declared.profile.TheConstants.{SLOTS}

-- nothing is noted before the first
pub none_noted : (input : InputContent) (part_of : List ℕ) (from part : ℕ) → base_lsn (history input.log) ≤ from → lsns_where (on_part part_of part) from (first from (history input.log)) ≡ []
none_noted input part_of from part le = lsns_none (on_part part_of part) from (first from (history input.log)) (size_of_first_le from (history input.log) le)

-- one more record, on a page that the store has
pub exist_on : (log : LogContent) (count from seen : ℕ) (r : LogRecord) → record_at (history log) (seen + 1) ≡ Some r → NamesBelow count r → ExistWithin log count from seen → ExistWithin log count from (seen + 1)
exist_on log count from seen r at below old lsn x past within found =
    dite (dec_lt lsn (seen + 1))
    (λ less. old lsn x past (omega arith) found)
    (λ last.
    let here : lsn ≡ seen + 1 = omega arith in
    subst (NamesBelow count) (same_Some _ _ (sym at ∙ (ap (record_at (history log)) (sym here) ∙ found))) below)

module _ (input : InputContent) (from seen : ℕ) (r : LogRecord) (low : base_lsn (history input.log) ≤ from) (le : from ≤ seen) (lt : seen < last_lsn (history input.log)) (at : record_at (history input.log) (seen + 1) ≡ Some r) where
  pub one_noted : (part_of : List ℕ) (part : ℕ) (old new : List ℕ) → first (seen + 1) (history input.log) ≡ first seen (history input.log) ▸ r
      → new ≡ cond (on_part part_of part r) (old ++ (seen + 1) ∷ []) old → old ≡ lsns_where (on_part part_of part) from (first seen (history input.log))
      → new ≡ lsns_where (on_part part_of part) from (first (seen + 1) (history input.log))
  one_noted part_of part old new next is before =
      let test = on_part part_of part in
      let log = first seen (history input.log) in
      let count : last_lsn log ≡ seen = size_of_first seen (history input.log) (omega (arith, low, le)) (omega (arith, lt)) in
      let lsn : seen + 1 ≡ suc (last_lsn log) = omega (arith, count) in
      is
      ∙ (ap (λ xs. cond (test r) (xs ++ (seen + 1) ∷ []) xs) before
      ∙ (ap (λ n. cond (test r) (lsns_where test from log ++ n ∷ []) (lsns_where test from log)) lsn
      ∙ (sym (lsns_more test from log r (omega (arith, count, le))) ∙ ap (lsns_where test from) (sym next))))

  pub exist_more : NamesBelow (length input.images) r → ExistWithin input.log (length input.images) from seen → ExistWithin input.log (length input.images) from (seen + 1)
  exist_more below old = exist_on input.log (length input.images) from seen r at below old

  pub refused : (count to : ℕ) (e : Fault) → count ≡ length input.images → seen < to → ExistWithin input.log (length input.images) from seen → NoteFault count (seen + 1) r e → RouteFault input from to e
  refused count to NoResource same within old cause = tt
  refused count to (NoSuchPage lsn) same within old cause =
      let here : lsn ≡ seen + 1 = cause.0 in (
        omega arith,
        record {
          entry = r;
          past = omega (arith, le);
          there = ap (record_at (history input.log)) here ∙ at;
          beyond = λ below. cause.1 (subst (λ n. NamesBelow n r) (sym same) below);
          before = λ k x past less found. old k x past (omega arith) found;
        },
      )
  refused count to e same within old cause = absurd cause

-- THE NOTES
-- a slot is one of 16
pub small_slot : (r : LogRecord) (page slot : ℕ) → Fits r → cell_of r ≡ Some (page, slot) → slot < SLOTS
small_slot (Update u) page slot fits e = let is : u.slot ≡ slot = ap (λ (x : ℕ × ℕ). x.1) (same_Some _ _ e) in omega (arith, is, fits.slot)
small_slot (Compensation c) page slot fits e = let is : c.slot ≡ slot = ap (λ (x : ℕ × ℕ). x.1) (same_Some _ _ e) in omega (arith, is, fits.slot)
small_slot r page slot fits e = absurd (cc)

-- one more note
pub notes_more : (log : History) (place_of : List ℕ) (note : Note) (k part : ℕ) (old new : List Note) → new ≡ cond (eqb k part) (old ++ note ∷ []) old → IsNote log place_of note → All (IsNote log place_of) old → All (IsNote log place_of) new
notes_more log place_of note k part old new is one all =
    subst (All (IsNote log place_of)) (sym is) (cond_both (eqb k part) (old ++ note ∷ []) old (All (IsNote log place_of)) (λ _. All-push (IsNote log place_of) old note all one) (λ _. all))

-- what is not there is past the end
pub past_end : {X : Type 0} (xs : List X) (i : ℕ) → None ≡ slice_get xs i → i < length xs → ⊥
past_end [] i e lt = omega arith
past_end (x ∷ xs) i e lt = (let f : None ≡ Some (get_or (x ∷ xs) i x) = e ∙ slice_get-get_or (x ∷ xs) i x lt in cc)

-- the LSNs with it
pub lsns_noted : (part_of : List ℕ) (k part : ℕ) (r : LogRecord) (page slot : ℕ) (note : Note) (old new : List Note) → cell_of r ≡ Some (page, slot) → slice_get part_of page ≡ Some part → new ≡ cond (eqb k part) (old ++ note ∷ []) old
    → map lsn_in new ≡ cond (on_part part_of k r) (map lsn_in old ++ note.lsn ∷ []) (map lsn_in old)
lsns_noted part_of k part r page slot note old new cell given is =
    let own : on_part part_of k r ≡ eqb k part = ap (λ o. is_part k (part_of_page part_of o)) (page_of_cell r page slot cell) ∙ (ap (is_part k) given ∙ eqb-turned part k) in
    ap (map lsn_in) is ∙ (mapped (eqb k part) ∙ ap (λ b. cond b (map lsn_in old ++ note.lsn ∷ []) (map lsn_in old)) (sym own))
  where
    mapped : (b : Bool) → map lsn_in (cond b (old ++ note ∷ []) old) ≡ cond b (map lsn_in old ++ note.lsn ∷ []) (map lsn_in old)
    mapped true = map-append lsn_in old (note ∷ [])
    mapped false = refl

    eqb-turned : (x y : ℕ) → eqb x y ≡ eqb y x
    eqb-turned x y =
        elim (cases_eq x y) [
          | inl e ↦ eq-eqb x y e ∙ sym (eq-eqb y x (sym e))
          | inr ne ↦ ne_eqb x y ne ∙ sym (ne_eqb y x (λ e. ne (sym e)))
        ]
