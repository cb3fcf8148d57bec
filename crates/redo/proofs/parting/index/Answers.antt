use Rattle.std.proofs.Common.{◌≡◌, ℕ, ◌+◌, ◌<◌, ◌≤◌, List, [], ◌∷◌, ◌++◌, All, Vec, cond, eqb, length, get_or, sym, ap, ◌∙◌, subst, arith, length-append}
use Rattle.std.specs.declared.alloc.Global.{Global}
use Rattle.std.proofs.lemmas.Option.{slice_get-get_or}
use Rattle.std.proofs.lemmas.List.Elements.{All-push}
use Rattle.redo.specs.Lists.{list_at}
use Rattle.redo.specs.Parting.{AreLists}
use Rattle.redo.proofs.Reading.{written_back}
use Rattle.redo.proofs.Members.{dealt, none_dealt, low_next}
use Rattle.page.specs.declared.profile.TheConstants.{PAGES}
use Rattle.redo.proofs.parting.index.Goals as goal

pub loop-page-init : goal.loop-page-init
loop-page-init c =
    let made = c.in_ok-members.ensures in (
      ap (λ (xs : List ℕ). length xs) c.new-place_of.ensures.items,
      made.count,
      subst (λ places. AreLists c.args.part_of.now places c.in_ok-members.members.items) (sym c.new-place_of.ensures.items) (none_dealt c.args.part_of.now c.in_ok-members.members.items made.empty),
      (λ part. omega (arith, ap (λ (xs : List ℕ). length xs) (made.empty part))),
      subst (All (λ place. place < PAGES)) (sym c.new-place_of.ensures.items) (λ k d less. absurd (omega arith)),
    )

pub loop-page-preserved : goal.loop-page-preserved
loop-page-preserved c =
    let old = c.loop-page.invariant in
    let part_of = c.args.part_of.now in
    let page = c.loop-page.page in
    let part = get_or part_of page 0 in
    let place = c.len_at-place.result in
    let lists = c.push_to.new.lists in
    let places : c.push.new.self.items ≡ c.loop-page.place_of.items ++ place ∷ [] = c.in_ok-push.ensures.items in
    let lent : c.deref_mut.result.now ≡ c.loop-page.members.items = c.deref_mut.ensures.value in
    let count : length lists ≡ c.loop-page.members.len = omega (arith, c.in_ok-push_to.ensures.count, ap (λ (xs : List (Vec ℕ Global)). length xs) lent, c.loop-page.members.ok.0) in
    let same = written_back c.loop-page.members.len c.loop-page.members.items lists count in
    let at : place ≡ length (list_at c.loop-page.members.items part) = c.len_at-place.ensures ∙ ap (λ (xs : List (Vec ℕ Global)). length (list_at xs part)) c.deref.ensures.value in
    let more : (k : ℕ) → list_at lists k ≡ cond (eqb k part) (list_at c.loop-page.members.items k ++ page ∷ []) (list_at c.loop-page.members.items k) =
    subst (λ (xs : List (Vec ℕ Global)). (k : ℕ) → list_at lists k ≡ cond (eqb k part) (list_at xs k ++ page ∷ []) (list_at xs k)) lent c.in_ok-push_to.ensures.ok in
    let step = dealt part_of c.loop-page.place_of.items part page place old.0 (slice_get-get_or part_of page 0 c.loop-page-test.true) c.loop-page.members.items lists at more old.2 in (
      ap (λ (xs : List ℕ). length xs) places ∙ (length-append c.loop-page.place_of.items (place ∷ []) ∙ omega (arith, old.0)),
      ap (λ (xs : List (Vec ℕ Global)). length xs) same ∙ (count ∙ omega (arith, c.loop-page.members.ok.0, old.1)),
      subst (AreLists part_of c.push.new.self.items) (sym same) (subst (λ ps. AreLists part_of ps lists) (sym places) step),
      (λ k. subst (λ (xs : List (Vec ℕ Global)). length (list_at xs k) ≤ page + 1) (sym same) (low_next page part k (list_at c.loop-page.members.items k) (list_at lists k) (more k) (old.3 k))),
      subst (All (λ place. place < PAGES)) (sym places) (All-push (λ place. place < PAGES) c.loop-page.place_of.items place old.4 (omega (arith, old.3 part, at, c.requires.pages_fit.1, c.loop-page-test.true))),
    )

pub overflow_cast-place : goal.overflow_cast-place
overflow_cast-place c =
    let low = c.loop-page.invariant.3 (get_or c.args.part_of.now c.loop-page.page 0) in
    let at = c.len_at-place.ensures ∙ ap (λ (xs : List (Vec ℕ Global)). length (list_at xs (get_or c.args.part_of.now c.loop-page.page 0))) c.deref.ensures.value in
    let few = c.requires.pages_fit in
    omega (arith, low, at, few.1, c.loop-page-test.true)
