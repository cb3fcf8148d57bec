-- Tallies put at the numbers of their pages, and the pages that they describe.
use Rattle.std.proofs.Common.{◌≡◌, ◌≢◌, ℕ, suc, ◌+◌, ◌<◌, ◌⊎◌, false, List, [], ◌∷◌, ◌++◌, All, Contains, Some, map, sum, take, drop, length, get_or, set, refl, sym, ap, ap₂, ◌∙◌, subst, inl, inr, arith, length-append}
use Rattle.std.specs.List.{slice_get, sum_by}
use Rattle.std.proofs.lemmas.List.Sums.{sum-map}
use Rattle.std.proofs.lemmas.Bool.{cases_eq}
use Rattle.std.proofs.lemmas.List.{get_or-set_same, get_or-set_other, length-set, length-map, get_or-map, get_or-append-add}
use Rattle.std.proofs.lemmas.List.Elements.{Contains-append_cases}
use Rattle.std.proofs.lemmas.Option.{slice_get-get_or, slice_get_within, get_or_from_slice_get, same_Some}
use Rattle.page.specs.declared.page.Page.{Page}
use Rattle.log_laws.specs.Records.{history}
use Rattle.board.specs.Drawn.{BoardId}
use Rattle.redo.specs.Inputs.{InputContent}
use Rattle.redo.specs.Parted.{PartedContent}
use Rattle.redo.specs.declared.crew.Share.{Share}
use Rattle.redo.specs.declared.tally.Tally.{Tally}
use Rattle.redo.specs.Parts.{redo_page_in, image_at, resolved, IsWhollyRedone, HasRedoPage, IsTallied, AreTallied, AreAllTallied, IsBack}
use Rattle.redo.proofs.Reading.{get_more, get_split, get_same, written_back}
use Rattle.redo.specs.Changes.{RedoPage, finished_page}

-- PLACES OF A LIST THAT IS WRITTEN
get_set_same : {X : Type 0} (xs : List X) (i : ℕ) (x : X) → i < length xs → slice_get (set xs i x) i ≡ Some x
get_set_same xs i x lt = slice_get-get_or (set xs i x) i x (omega (arith, length-set xs i x, lt)) ∙ ap Some (get_or-set_same xs i x x lt)

get_set_other : {X : Type 0} (xs : List X) (i j : ℕ) (x y : X) → j ≢ i → slice_get xs j ≡ Some y → slice_get (set xs i x) j ≡ Some y
get_set_other xs i j x y ne e =
    let lt = slice_get_within xs j y e in
    slice_get-get_or (set xs i x) j y (omega (arith, length-set xs i x, lt)) ∙ ap Some (get_or-set_other xs i j x y ne ∙ get_or_from_slice_get xs j y y e)

-- ONE TALLY
module _ (input : InputContent) (tallies : List Tally) (t : Tally) (done : IsWhollyRedone input (resolved input t)) (below : t.number < length tallies) where
  -- it is put
  tallied_here : IsTallied input (set tallies t.number t) t.number
  tallied_here = record { image = done.image; there = done.there; tally = t; at = get_set_same tallies t.number t below; own = refl; redone = done.redone }

  -- and the others stay
  pub tallied_one : (number : ℕ) → (IsTallied input tallies number) ⊎ (t.number ≡ number) → IsTallied input (set tallies t.number t) number
  tallied_one number either_way =
      elim (cases_eq number t.number) [
        | inl e ↦ subst (IsTallied input (set tallies t.number t)) (sym e) tallied_here
        | inr ne ↦
            elim either_way [
              | inl old ↦ record { image = old.image; there = old.there; tally = old.tally; at = get_set_other tallies t.number number t old.tally ne old.at; own = old.own; redone = old.redone }
              | inr e ↦ absurd (ne (sym e))
            ]
      ]

-- MANY
-- the page of a number, among these and one more
pub has_more : (ps : List RedoPage) (p : RedoPage) (number : ℕ) → HasRedoPage (ps ++ p ∷ []) number → (HasRedoPage ps number) ⊎ (p.page.number ≡ number)
has_more ps p number has =
    elim (get_split ps p has.place has.redo_page has.there) [
      | inl e ↦ inl (record { place = has.place; redo_page = has.redo_page; there = e; number = has.number })
      | inr e ↦ inr (sym (ap (λ (q : RedoPage). q.page.number) e.1) ∙ has.number)
    ]

pub has_none : (number : ℕ) → HasRedoPage [] number → ⊥
has_none number has = let lt = slice_get_within {A = RedoPage} [] has.place has.redo_page has.there in omega arith

-- a page that is among some is among more
pub has_left : (ps qs : List RedoPage) (number : ℕ) → HasRedoPage ps number → HasRedoPage (ps ++ qs) number
has_left ps qs number has = record { place = has.place; redo_page = has.redo_page; there = get_more ps qs has.place has.redo_page has.there; number = has.number }

pub has_right : (ps qs : List RedoPage) (number : ℕ) → HasRedoPage qs number → HasRedoPage (ps ++ qs) number
has_right ps qs number has =
    let lt = slice_get_within qs has.place has.redo_page has.there in
    record {
      place = length ps + has.place;
      redo_page = has.redo_page;
      there = slice_get-get_or (ps ++ qs) (length ps + has.place) has.redo_page (omega (arith, length-append ps qs, lt))
          ∙ ap Some (get_or-append-add ps qs has.place has.redo_page ∙ get_or_from_slice_get qs has.place has.redo_page has.redo_page has.there);
      number = has.number;
    }

-- WHAT WORKERS RETURN if all pages of a share are tallied, those of its parts are
pub share_tallied : (parted : PartedContent) (board : BoardId) (share : Share) (tallies : List Tally) → IsBack parted board share → share.seat.stopped ≡ false → share.seat.told ≡ false
    → ((number : ℕ) → HasRedoPage (map (resolved parted.input) share.tallies.items) number → IsTallied parted.input tallies number) → AreTallied parted tallies share.seat.drawn
share_tallied parted board share tallies back stopped told tallied number part given drawn = tallied number (back.drawn stopped told part drawn number given)

-- what is drawn together was drawn by one of the two
pub both_tallied : (parted : PartedContent) (tallies : List Tally) (xs ys drawn : List ℕ) → drawn ≡ xs ++ ys → AreTallied parted tallies xs → AreTallied parted tallies ys → AreTallied parted tallies drawn
both_tallied parted tallies xs ys drawn is first second number part given has =
    elim (Contains-append_cases xs ys part (subst (λ zs. Contains zs part) is has)) [
      | inl h ↦ first number part given h
      | inr h ↦ second number part given h
    ]

-- if all parts are drawn, all pages are tallied
pub all_tallied : (parted : PartedContent) (tallies : List Tally) (drawn : List ℕ) → length parted.parting.part_of ≡ length parted.input.images → All (λ part. part < parted.parting.parts) parted.parting.part_of
    → ((part : ℕ) → part < parted.parting.parts → Contains drawn part) → AreTallied parted tallies drawn → (number : ℕ) → number < length parted.input.images → IsTallied parted.input tallies number
all_tallied parted tallies drawn dealt below all tallied number lt =
    let part_of = parted.parting.part_of in
    let within : number < length part_of = omega (arith, lt, dealt) in
    tallied number (get_or part_of number 0) (slice_get-get_or part_of number 0 within) (all (get_or part_of number 0) (below number 0 within))

-- a page that is in the store has a place
pub done_below : (input : InputContent) (ts : List Tally) (n : ℕ) → n ≡ length input.images → All (IsWhollyRedone input) (map (resolved input) ts) → All (λ t. t.number < n) ts
done_below input ts n count done k d lt =
    let t = get_or ts k d in
    let is : get_or (map (resolved input) ts) k (resolved input d) ≡ resolved input t = get_or-map (resolved input) ts k d (resolved input d) lt in
    let at = subst (IsWhollyRedone input) is (done k (resolved input d) (omega (arith, lt, length-map ts (resolved input)))) in
    omega (arith, count, slice_get_within input.images t.number at.image at.there)

-- AT THE END
-- a list that has at each place the result of a function for the image there
map_of : {X : Type 0} (h : Page → X) (images : List Page) (xs : List X) → length xs ≡ length images → ((k : ℕ) (image : Page) → slice_get images k ≡ Some image → slice_get xs k ≡ Some (h image)) → xs ≡ map h images
map_of h [] [] e at = refl
map_of h [] (x ∷ xs) e at = absurd (omega arith)
map_of h (image ∷ images) [] e at = absurd (omega arith)
map_of h (image ∷ images) (x ∷ xs) e at = ap₂ (λ y ys. y ∷ ys) (same_Some _ _ (at 0 image refl)) (map_of h images xs (omega arith) (λ k i f. at (suc k) i f))

module _ (input : InputContent) (tallies : List Tally) (all : AreAllTallied input tallies) where
  -- each page that is finished by its tally is redone
  pub pages_are : (pages : List Page) → length pages ≡ length input.images
      → ((number : ℕ) (t : Tally) (image : Page) → number < length input.images → get_or pages number image ≡ finished_page (history input.log) (get_or tallies number t) (get_or input.images number image))
      → pages ≡ map (λ image. (redo_page_in input (history input.log) image).page) input.images
  pages_are pages same each = map_of (λ image. (redo_page_in input (history input.log) image).page) input.images pages same
      (λ k image e.
      let lt = slice_get_within input.images k image e in
      let is = all.each k lt in
      let own : image_at input.images is.tally.number ≡ is.image = ap (image_at input.images) is.own ∙ get_or_from_slice_get input.images k is.image _ is.there in
      slice_get-get_or pages k image (omega (arith, lt, same))
      ∙ ap Some (each k is.tally image lt
      ∙ ap₂ (finished_page (history input.log)) (get_or_from_slice_get tallies k is.tally is.tally is.at) (get_or_from_slice_get input.images k is.image image is.there ∙ sym own)
      ∙ ap (λ p. p.page) is.redone
      ∙ ap (λ i. (redo_page_in input (history input.log) i).page) (get_same input.images k is.image image is.there e)))

  counts_are : map (λ t. t.applied) tallies ≡ map (λ image. (redo_page_in input (history input.log) image).applied) input.images
  counts_are = map_of (λ image. (redo_page_in input (history input.log) image).applied) input.images (map (λ (t : Tally). t.applied) tallies) (length-map tallies (λ (t : Tally). t.applied) ∙ all.count)
      (λ k image e.
      let is = all.each k (slice_get_within input.images k image e) in
      slice_get-get_or (map (λ (t : Tally). t.applied) tallies) k 0 (omega (arith, slice_get_within tallies k is.tally is.at, length-map tallies (λ (t : Tally). t.applied)))
      ∙ ap Some (get_or-map (λ (t : Tally). t.applied) tallies k is.tally 0 (slice_get_within tallies k is.tally is.at)
      ∙ ap (λ (t : Tally). t.applied) (get_or_from_slice_get tallies k is.tally is.tally is.at)
      ∙ ap (λ p. p.applied) is.redone
      ∙ ap (λ i. (redo_page_in input (history input.log) i).applied) (get_same input.images k is.image image is.there e)))

  -- all pages are redone after they were borrowed and written back
  pub pages_back : (n : ℕ) (items lent pages : List Page) (told : List Tally) → items ≡ input.images → length items ≡ n → lent ≡ items → told ≡ tallies → length pages ≡ length lent
      → ((number : ℕ) (t : Tally) (image : Page) → number < length lent → get_or pages number image ≡ finished_page (history input.log) (get_or told number t) (get_or lent number image))
      → take n (pages ++ drop (length pages) items) ≡ map (λ image. (redo_page_in input (history input.log) image).page) input.images
  pages_back n items lent pages told stored size written is count each =
      let same : lent ≡ input.images = written ∙ stored in
      written_back n items pages (count ∙ (ap (λ (xs : List Page). length xs) written ∙ size))
      ∙ pages_are pages (count ∙ ap (λ (xs : List Page). length xs) same)
      (λ number t image less.
      each number t image (omega (arith, less, ap (λ (xs : List Page). length xs) same))
      ∙ (ap (λ (ts : List Tally). finished_page (history input.log) (get_or ts number t) (get_or lent number image)) is ∙ ap (λ (xs : List Page). finished_page (history input.log) (get_or tallies number t) (get_or xs number image)) same))

  -- the sum of their counts
  pub total_is : (told : List Tally) → told ≡ tallies → sum_by (λ t. t.applied) told ≡ sum (map (λ image. (redo_page_in input (history input.log) image).applied) input.images)
  total_is told is = ap (sum_by (λ (t : Tally). t.applied)) is ∙ (sym (sum-map (λ (t : Tally). t.applied) tallies) ∙ ap sum counts_are)
