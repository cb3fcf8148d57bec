use Rattle.std.proofs.Common.{◌≡◌, ◌<◌, ◌++◌, ◌∷◌, [], ℕ, List, length, take, map, sym, ap, ap₂, subst, ◌∙◌, arith}
use Rattle.page.specs.declared.profile.TheConstants.{SLOTS}
use Rattle.std.specs.Prelude.{All}
use Rattle.std.proofs.lemmas.List.{take_more_set, map_push, map_more, length-set, take_all}
use Rattle.std.proofs.lemmas.List.Elements.{All-more}
use Rattle.page.specs.declared.page.Page.{Page}
use Rattle.journal.specs.PageStates.{PageState, first_page_state}
use Rattle.journal.specs.Arrays.{page_state_of}
use Rattle.journal.proofs.opening.fill_pages.Goals as goal

pub loop-i-preserved : goal.loop-i-preserved
loop-i-preserved c =
    let i : ℕ = c.loop-i.i in
    let store : List Page = c.args.store.now in
    let there : i < length store = c.loop-i-test.true in
    let here : i < length c.loop-i.pages = omega (arith, there, c.loop-i.invariant.size) in
    record {
      size = length-set c.loop-i.pages i c.hold.result ∙ c.loop-i.invariant.size;
      held = ap (map page_state_of) (take_more_set c.loop-i.pages i c.hold.result here) ∙ map_push page_state_of (take i c.loop-i.pages) c.hold.result
          ∙ ap₂ (λ (xs : List PageState) (x : PageState). xs ++ x ∷ []) c.loop-i.invariant.held (c.hold.ensures.held ∙ ap first_page_state c.index-store-i.is) ∙ sym (map_more first_page_state store i c.index-store-i.result there);
      slots = All-more (λ (page : Page). length page.slots ≡ SLOTS) store i c.index-store-i.result there c.loop-i.invariant.slots
          (subst (λ (page : Page). length page.slots ≡ SLOTS) c.index-store-i.is c.hold.ensures.slots);
    }

pub returns : goal.returns
returns c =
    let i : ℕ = c.loop-i.i in
    let over = c.loop-i-test.false in
    record {
      held = ap (map page_state_of) (sym (take_all i c.loop-i.pages (omega (arith, over, c.loop-i.invariant.size)))) ∙ c.loop-i.invariant.held ∙ ap (map first_page_state) (take_all i c.args.store.now over);
      slots = subst (All (λ (page : Page). length page.slots ≡ SLOTS)) (take_all i c.args.store.now over) c.loop-i.invariant.slots;
    }
