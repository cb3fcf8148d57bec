use Rattle.std.proofs.Common.{◌≡◌, ◌<◌, ◌++◌, ◌∷◌, ◌+◌, [], ℕ, List, length, get_or, take, drop, map, sym, ap, ap₂, subst, ◌∙◌, arith}
use Rattle.std.proofs.lemmas.List.{take_more_set, map_push, map_more, length-set, length-map, get_or-map, get_or-drop, drop-set-lt}
use Rattle.std.proofs.lemmas.List.Elements.{All-push}
use Rattle.std.specs.Prelude.{All}
use Rattle.std.proofs.lemmas.Bool.{both_ways}
use Rattle.std.proofs.lemmas.Grind.{drop_more_same}
use Rattle.journal.specs.declared.entries.PageEntry.{PageEntry}
use Rattle.journal.specs.PageStates.{PageState, clean, IsCurrentSoFar}
use Rattle.journal.specs.Arrays.{page_state_of}
use Rattle.journal.proofs.reopening.settle_pages.Goals as goal

abbrev blank : PageEntry
blank = record { page = record { lsn = 0; number = 0; slots = [] }; rec_lsn = 0; writers = [] }

-- what is left stands as it did
same_at : (ps qs : List PageEntry) (i : ℕ) (d : PageEntry) → drop i qs ≡ drop i ps → get_or qs i d ≡ get_or ps i d
same_at ps qs i d rest =
    let on : i ≡ i + 0 = omega arith in
    ap (λ n. get_or qs n d) on ∙ sym (get_or-drop i qs 0 d) ∙ ap (λ (xs : List PageEntry). get_or xs 0 d) rest ∙ get_or-drop i ps 0 d ∙ ap (λ n. get_or ps n d) (sym on)

pub loop-place-preserved : goal.loop-place-preserved
loop-place-preserved c =
    let ps : List PageEntry = c.args.pages.now in
    let qs : List PageEntry = c.loop-place.pages in
    let i : ℕ = c.loop-place.place in
    let q : PageEntry = get_or qs i blank in
    let e : PageEntry = record { page = q.page; rec_lsn = 0; writers = q.writers } in
    let here : i < length qs = omega (arith, c.loop-place-test.true, c.loop-place.auto.place-end, c.loop-place.invariant.size) in
    let there : i < length ps = omega (arith, here, c.loop-place.invariant.size) in
    let same : q ≡ get_or ps i blank = same_at ps qs i blank c.loop-place.invariant.rest in
    let current : IsCurrentSoFar c.args.base (page_state_of q) = c.is_up_to_date.ensures.0 c.if-not-is_up_to_date.false in
    record {
      size = length-set qs i e ∙ c.loop-place.invariant.size;
      current = subst (All (IsCurrentSoFar c.args.base)) (sym (map_more page_state_of ps i blank there))
          (All-push (IsCurrentSoFar c.args.base) (map page_state_of (take i ps)) (page_state_of (get_or ps i blank)) c.loop-place.invariant.current (subst (λ (p : PageEntry). IsCurrentSoFar c.args.base (page_state_of p)) same current));
      done = ap (map page_state_of) (take_more_set qs i e here) ∙ map_push page_state_of (take i qs) e
          ∙ ap₂ (λ (xs : List PageState) (x : PageState). xs ++ x ∷ []) c.loop-place.invariant.done (ap (λ (p : PageEntry). clean (page_state_of p)) same)
          ∙ sym (map_push clean (map page_state_of (take i ps)) (page_state_of (get_or ps i blank))) ∙ ap (map clean) (sym (map_more page_state_of ps i blank there));
      rest = drop-set-lt (i + 1) qs i e (omega arith) ∙ drop_more_same qs ps i c.loop-place.invariant.rest;
    }

pub returns-then-not-is_up_to_date-clause-err : goal.returns-then-not-is_up_to_date-clause-err
returns-then-not-is_up_to_date-clause-err c =
    let ps : List PageEntry = c.args.pages.now in
    let qs : List PageEntry = c.loop-place.pages in
    let i : ℕ = c.loop-place.place in
    let here : i < length qs = omega (arith, c.loop-place-test.true, c.loop-place.auto.place-end, c.loop-place.invariant.size) in
    let there : i < length ps = omega (arith, here, c.loop-place.invariant.size) in
    let at : (d : PageState) → get_or (map page_state_of ps) i d ≡ page_state_of (get_or qs i blank) = λ d. get_or-map page_state_of ps i blank d there ∙ ap page_state_of (sym (same_at ps qs i blank c.loop-place.invariant.rest)) in (
      i,
      omega (arith, there, length-map ps page_state_of),
      λ d. ap (λ (p : PageState). p.page.number) (at d),
      λ d current. both_ways c.is_up_to_date.result c.if-not-is_up_to_date.true (c.is_up_to_date.ensures.1 (subst (IsCurrentSoFar c.args.base) (at d) current)),
    )
