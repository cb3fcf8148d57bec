-- Pages stay at their numbers.
use Rattle.std.proofs.Common.{◌≡◌, ◌<◌, ℕ, List, [], length, get_or, set, refl, sym, ap, ◌∙◌, arith, inl, inr}
use Rattle.std.proofs.lemmas.Bool.{cases_eq}
use Rattle.std.proofs.lemmas.List.{get_or-set_same, get_or-set_other, length-set}
use Rattle.page.specs.Image.{Image}
use Rattle.page.specs.declared.page.Page.{Page}
use Rattle.page.specs.Store.{AreNumbered}
use Rattle.changes.specs.Changes.{page_put, page_lsn}
use Rattle.changes.specs.declared.pages.Pages.{Ghosts as Pages}
use Rattle.changes.specs.Numbered.{StayNumbered}

-- a page in place of one with the same number
pub number_kept : (pages : List Page) (page : ℕ) (new d : Page) → page < length pages → new.number ≡ (get_or pages page d).number → AreNumbered pages → AreNumbered (set pages page new)
number_kept pages page new d lt same numbered =
    let count = length-set pages page new in
    record {
      some = omega (arith, count, numbered.some);
      few = omega (arith, count, numbered.few);
      at_place = λ k e less. elim (cases_eq k page) [
        | inl is ↦ ap (λ i. (get_or (set pages page new) i e).number) is ∙ ap (λ (p : Page). p.number) (get_or-set_same pages page new e lt) ∙ same ∙ numbered.at_place page d lt ∙ sym is
        | inr ne ↦ ap (λ (p : Page). p.number) (get_or-set_other pages page k new e ne) ∙ numbered.at_place k e (omega (arith, less, count))
      ];
    }

-- nothing changes
pub stay_same : {P : Type 0} (pages : Pages P) (p : P) → StayNumbered pages p p
stay_same pages p stored given shows numbered = (given, shows, numbered)

-- one change after others
pub stay_more : {P : Type 0} (pages : Pages P) (first before after : P) → StayNumbered pages first before → StayNumbered pages before after → StayNumbered pages first after
stay_more pages first before after one two stored given shows numbered =
    let (middle, shown, still) = one stored given shows numbered in two stored middle shown still

-- a value put, or a PageLSN set
pub put_numbered : {P : Type 0} (pages : Pages P) (before after : P) (page : ℕ) → ((stored shown : List Page) → pages.shows before stored shown → page < length shown) → (slot lsn : ℕ) (value : Image)
    → ((stored shown : List Page) (d : Page) → pages.shows before stored shown → pages.shows after stored (set shown page (page_put slot lsn value (get_or shown page d)))) → StayNumbered pages before after
put_numbered pages before after page below slot lsn value put stored given shows numbered =
    let d : Page = record { number = page; lsn = 0; slots = [] } in
    (_, put stored given d shows, number_kept given page (page_put slot lsn value (get_or given page d)) d (below stored given shows) refl numbered)

pub lsn_numbered : {P : Type 0} (pages : Pages P) (before after : P) (page : ℕ) → ((stored shown : List Page) → pages.shows before stored shown → page < length shown) → (lsn : ℕ)
    → ((stored shown : List Page) (d : Page) → pages.shows before stored shown → pages.shows after stored (set shown page (page_lsn lsn (get_or shown page d)))) → StayNumbered pages before after
lsn_numbered pages before after page below lsn done stored given shows numbered =
    let d : Page = record { number = page; lsn = 0; slots = [] } in
    (_, done stored given d shows, number_kept given page (page_lsn lsn (get_or given page d)) d (below stored given shows) refl numbered)
