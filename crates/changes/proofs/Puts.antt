-- What is put by way of changes is put into the page.
use Rattle.std.proofs.Common.{◌≡◌, ℕ, List, Some, None, ◌∙◌, arith, sym, ap, length, get_or, set, map, inl, inr}
use Rattle.std.proofs.lemmas.Bool.{cases_eq}
use Rattle.std.proofs.lemmas.List.{get_or-set_same, get_or-set_other, get_or-replicate, length-set}
use Rattle.std.proofs.lemmas.List.FromFn.{length-map-range_with_len}
use Rattle.std.specs.List.{range_with_len}
use Rattle.page.specs.Image.{Image}
use Rattle.page.specs.declared.page.Page.{Page}
use Rattle.page.specs.declared.profile.TheConstants.{SLOTS}
use Rattle.changes.specs.Changes.{PageChange, PutsSome, unchanged, slot_after, changed, page_lsn}
use Rattle.changes.proofs.Views.{listed_by, at_number}
use Rattle.changes.specs.Laws.{PutsAreSets}

abbrev page_of : ℕ → ℕ → List Image → Page
page_of n l s = record { number = n; lsn = l; slots = s }

pub puts_are_sets : PutsAreSets
puts_are_sets = record {
  none = λ page count. sym (ap (page_of page.number page.lsn)
      (listed_by (λ s. slot_after (get_or (unchanged page.lsn).puts s None) (get_or page.slots s None)) SLOTS None page.slots count
      (λ s lt. sym (ap (λ p. slot_after p (get_or page.slots s None)) (get_or-replicate SLOTS s None None lt)))));
  one_more = λ c page slot lsn value lt count.
      let old = λ (s : ℕ). slot_after (get_or c.puts s None) (get_or page.slots s None) in
      let new = λ (s : ℕ). slot_after (get_or (set c.puts slot (Some value)) s None) (get_or page.slots s None) in
      let before = map old (range_with_len 0 SLOTS) in
      sym (ap (page_of page.number lsn) (listed_by new SLOTS None (set before slot value) (length-set before slot value ∙ length-map-range_with_len old 0 SLOTS)
      (λ s le. elim (cases_eq s slot) [
        | inl e ↦ ap (λ i. get_or (set before slot value) i None) e ∙ get_or-set_same before slot value None (omega (arith, lt, length-map-range_with_len old 0 SLOTS))
            ∙ sym (ap new e ∙ ap (λ p. slot_after p (get_or page.slots slot None)) (get_or-set_same c.puts slot (Some value) None (omega (arith, lt, count))))
        | inr ne ↦ get_or-set_other before slot s value None ne ∙ at_number old SLOTS s None le ∙ sym (ap (λ p. slot_after p (get_or page.slots s None)) (get_or-set_other c.puts slot s (Some value) None ne))
      ])));
}

-- a page into which nothing is put has its PageLSN changed
pub unchanged_slots : (page : Page) (lsn : ℕ) → length page.slots ≡ SLOTS → changed (unchanged lsn) page ≡ page_lsn lsn page
unchanged_slots page lsn count = ap (λ (p : Page). page_lsn lsn p) (puts_are_sets.none page count)

-- nothing is put into one that keeps all its slots
pub puts_none : (c : PageChange) → c ≡ unchanged c.lsn → PutsSome c → ⊥
puts_none c same puts =
    let e : None ≡ Some puts.1 = sym (get_or-replicate SLOTS puts.0 None None puts.2) ∙ ap (λ (x : PageChange). get_or x.puts puts.0 None) (sym same) ∙ puts.3 in
    cc
