-- The records that are the last in the slots of the pages, slot by slot and page by page.
use Rattle.std.proofs.Common.{◌≡◌, ◌≢◌, ℕ, ◌+◌, ◌<◌, ◌≤◌, ◌⊎◌, List, [], ◌∷◌, ◌++◌, Contains, Some, None, length, get_or, refl, sym, ap, ◌∙◌, subst, inl, inr, arith}
use Rattle.std.specs.Prelude.{◌↔◌}
use Rattle.std.specs.List.{slice_get}
use Rattle.std.proofs.lemmas.Bool.{cases_eq}
use Rattle.std.proofs.lemmas.List.Elements.{Contains-append_left, Contains-push, Contains-push_cases}
use Rattle.std.proofs.lemmas.Option.{slice_get-get_or, slice_get_within, get_or_from_slice_get}
use Rattle.redo.specs.declared.tally.Tally.{Tally}
use Rattle.redo.specs.declared.wanted.Wanted.{Wanted}
use Rattle.redo.specs.Placed.{untouched}
use Rattle.redo.specs.Wanted.{IsLastIn, IsWanted}
use Rattle.page.specs.declared.profile.TheConstants.{SLOTS}

-- SLOT BY SLOT
-- others, and the last records in the slots below this one
abbrev pub HoldsBelow : (page : ℕ) → (lasts : List ℕ) → (old : List Wanted) → (slot : ℕ) → List Wanted → Type 0
HoldsBelow page lasts old slot items = (w : Wanted) → Contains items w ↔ (Contains old w ⊎ (IsLastIn page lasts w × (w.slot < slot)))

-- the slot of a last record has its LSN
lsn_is : (page : ℕ) (lasts : List ℕ) (w : Wanted) → IsLastIn page lasts w → w.lsn ≡ get_or lasts w.slot 0
lsn_is page lasts w last = sym (get_or_from_slice_get lasts w.slot w.lsn 0 last.slot_is)

-- a slot without one
pub slot_none : (page : ℕ) (lasts : List ℕ) (old : List Wanted) (slot : ℕ) (items : List Wanted) → get_or lasts slot 0 ≡ 0 → HoldsBelow page lasts old slot items → HoldsBelow page lasts old (slot + 1) items
slot_none page lasts old slot items none before w = (
  λ has. elim ((before w).0 has) [ inl x ↦ inl x | inr x ↦ inr (x.0, omega (arith, x.1)) ],
  λ one. elim one [
    | inl x ↦ (before w).1 (inl x)
    | inr x ↦
        elim (cases_eq w.slot slot) [
          | inl e ↦ absurd (x.0.some (lsn_is page lasts w x.0 ∙ (ap (λ i. get_or lasts i 0) e ∙ none)))
          | inr ne ↦ (before w).1 (inr (x.0, omega (arith, x.1, ne)))
        ]
  ],
)

-- a slot with one
abbrev pub in_slot : (page slot lsn : ℕ) → Wanted
in_slot page slot lsn = record { lsn = lsn; page = page; slot = slot }

same_last : (page : ℕ) (lasts : List ℕ) (slot : ℕ) (w : Wanted) → IsLastIn page lasts w → w.slot ≡ slot → w ≡ in_slot page slot (get_or lasts slot 0)
same_last page lasts slot w last e =
    ap (λ n. record { lsn = n; page = w.page; slot = w.slot }) (lsn_is page lasts w last ∙ ap (λ i. get_or lasts i 0) e)
    ∙ (ap (λ p. record { lsn = get_or lasts slot 0; page = p; slot = w.slot }) last.page_is ∙ ap (λ i. record { lsn = get_or lasts slot 0; page = page; slot = i }) e)

pub slot_some : (page : ℕ) (lasts : List ℕ) (old : List Wanted) (slot lsn : ℕ) (items : List Wanted) → length lasts ≡ SLOTS → slot < SLOTS → lsn ≡ get_or lasts slot 0 → lsn ≢ 0 → HoldsBelow page lasts old slot items
    → HoldsBelow page lasts old (slot + 1) (items ++ in_slot page slot lsn ∷ [])
slot_some page lasts old slot lsn items count lt is some before w =
    let one = in_slot page slot lsn in
    let own : IsLastIn page lasts one = record { page_is = refl; some = some; small = lt; slot_is = slice_get-get_or lasts slot 0 (omega (arith, count, lt)) ∙ ap Some (sym is) } in (
      λ has. elim (Contains-push_cases items one w has) [
        | inl older ↦ elim ((before w).0 older) [ inl x ↦ inl x | inr x ↦ inr (x.0, omega (arith, x.1)) ]
        | inr e ↦ inr (subst (λ (v : Wanted). IsLastIn page lasts v × (v.slot < slot + 1)) e (own, omega arith))
      ],
      λ found. elim found [
        | inl x ↦ Contains-append_left items (one ∷ []) w ((before w).1 (inl x))
        | inr x ↦
            elim (cases_eq w.slot slot) [
              | inl e ↦ subst (Contains (items ++ one ∷ [])) (ap (in_slot page slot) is ∙ sym (same_last page lasts slot w x.0 e)) (Contains-push items one)
              | inr ne ↦ Contains-append_left items (one ∷ []) w ((before w).1 (inr (x.0, omega (arith, x.1, ne))))
            ]
      ],
    )

-- in all slots
pub all_slots : (page : ℕ) (lasts : List ℕ) (old : List Wanted) (slot : ℕ) (items : List Wanted) → SLOTS ≤ slot → HoldsBelow page lasts old slot items → (w : Wanted) → Contains items w ↔ (Contains old w ⊎ IsLastIn page lasts w)
all_slots page lasts old slot items all before w = (
  λ has. elim ((before w).0 has) [ inl x ↦ inl x | inr x ↦ inr x.0 ],
  λ one. elim one [ inl x ↦ (before w).1 (inl x) | inr x ↦ (before w).1 (inr (x, omega (arith, x.small, all))) ],
)

-- PAGE BY PAGE
-- the wanted records of the pages below this one
abbrev pub HoldsPages : List Tally → (page : ℕ) → List Wanted → Type 0
HoldsPages tallies page items = (w : Wanted) → Contains items w ↔ (IsWanted tallies w × (w.page < page))

abbrev blank : Tally
blank = untouched 0 0 None

pub page_more : (tallies : List Tally) (page : ℕ) (old items : List Wanted) → page < length tallies
    → ((w : Wanted) (t : Tally) → Contains items w ↔ (Contains old w ⊎ IsLastIn page (get_or tallies page t).lasts w)) → HoldsPages tallies page old → HoldsPages tallies (page + 1) items
page_more tallies page old items below each before w = (
  λ has. elim ((each w blank).0 has) [
    | inl older ↦ (let x = (before w).0 older in (x.0, omega (arith, x.1)))
    | inr last ↦ (
      record {
        tally = tally;
        there = ap (slice_get tallies) last.page_is ∙ slice_get-get_or tallies page blank below;
        last = record { page_is = refl; some = last.some; small = last.small; slot_is = last.slot_is };
      },
      omega (arith, last.page_is),
    )
  ],
  λ x. elim (cases_eq w.page page) [
    | inl e ↦
        (let same : tally ≡ x.0.tally = get_or_from_slice_get tallies page x.0.tally blank (ap (slice_get tallies) (sym e) ∙ x.0.there) in
        (each w blank).1 (inr (record {
          page_is = e;
          some = x.0.last.some;
          small = x.0.last.small;
          slot_is = subst (λ (t : Tally). slice_get t.lasts w.slot ≡ Some w.lsn) (sym same) x.0.last.slot_is;
        })))
    | inr ne ↦ (each w blank).1 (inl ((before w).1 (x.0, omega (arith, x.1, ne))))
  ],
)
  where
    tally : Tally
    tally = get_or tallies page blank

pub all_pages : (tallies : List Tally) (page : ℕ) (items : List Wanted) → length tallies ≤ page → HoldsPages tallies page items → (w : Wanted) → Contains items w ↔ IsWanted tallies w
all_pages tallies page items all before w = (
  λ has. ((before w).0 has).0,
  λ one. (before w).1 (one, omega (arith, slice_get_within tallies w.page one.tally one.there, all)),
)
