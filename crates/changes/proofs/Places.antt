-- The places of pages and of slots.
use Rattle.std.proofs.Common.{ℕ, zero, suc, ◌≡◌, ◌≢◌, ◌⊎◌, refl, ◌+◌, ◌-◌, ◌<◌, ◌≤◌, List, [], ◌∷◌, ◌++◌, length, get_or, set, replicate, Some, sym, ap, ◌∙◌, arith, inl, inr}
use Rattle.std.proofs.lemmas.Bool.{cases_eq, cases_lt}
use Rattle.std.proofs.lemmas.List.{get_or-set_same, get_or-set_other, get_or_append_left, get_or_past, get_or-replicate, get_or_default, length-append, length-set, length-replicate}
use Rattle.std.proofs.Math.Seq.{get_or-append_seam}
use Rattle.std.proofs.lemmas.Option.{slice_get-get_or}
use Rattle.page.specs.Image.{Image}
use Rattle.page.specs.declared.profile.TheConstants.{SLOTS}
use Rattle.changes.specs.Parts.{slot_in, value_in, place_of, HaveValues}

-- A PAGE MORE
none_there : (slot : ℕ) → get_or {A = ℕ} [] slot 0 ≡ 0
none_there slot = get_or_past [] slot 0 (omega arith)

pub one_more : (n : ℕ) → n + 1 ≡ suc n
one_more n = omega arith

none_past : (cells : List (List ℕ)) (n slot : ℕ) → length cells ≤ n → slot_in cells (suc n) slot ≡ 0
none_past cells n slot le = ap (λ ids. get_or ids slot 0) (get_or_past cells n [] le) ∙ none_there slot

all_zero : (count slot : ℕ) → get_or {A = ℕ} (replicate count 0) slot 0 ≡ 0
all_zero count slot =
    let none : ℕ = 0 in
    elim (cases_lt slot count) [
      | inl lt ↦ get_or-replicate count slot none none lt
      | inr le ↦ get_or_past (replicate count none) slot none (omega (arith, length-replicate count none))
    ]

-- no page has a place yet
pub slot_in_none : (place slot : ℕ) → slot_in [] place slot ≡ 0
slot_in_none zero slot = refl
slot_in_none (suc n) slot = none_past [] n slot (omega arith)

pub place_in_none : (count page : ℕ) → place_of (replicate count 0) page ≡ 0
place_in_none = all_zero

-- a page whose slots have no places changes nothing
pub page_more : (cells : List (List ℕ)) (place slot : ℕ) → slot_in (cells ++ replicate SLOTS 0 ∷ []) place slot ≡ slot_in cells place slot
page_more cells zero slot = refl
page_more cells (suc n) slot =
    let more = cells ++ replicate SLOTS 0 ∷ [] in
    elim (cases_lt n (length cells)) [
      | inl lt ↦ ap (λ ids. get_or ids slot 0) (get_or_append_left cells (replicate SLOTS 0 ∷ []) [] n lt)
      | inr le ↦ elim (cases_eq n (length cells)) [
        | inl e ↦ ap (λ ids. get_or ids slot 0) (ap (λ i. get_or more i []) e ∙ get_or-append_seam cells (replicate SLOTS 0) [] []) ∙ all_zero SLOTS slot ∙ sym (none_past cells n slot le)
        | inr ne ↦ none_past more n slot (omega (arith, length-append cells (replicate SLOTS 0 ∷ []), le, ne)) ∙ sym (none_past cells n slot le)
      ]
    ]

pub page_placed : (places : List ℕ) (cells : List (List ℕ)) (page k slot : ℕ) → page < length places → place_of places page ≡ 0
    → slot_in cells (place_of (set places page (length cells + 1)) k) slot ≡ slot_in cells (place_of places k) slot
page_placed places cells page k slot lt none =
    elim (cases_eq k page) [
      | inl e ↦ ap (λ p. slot_in cells p slot) (ap (place_of (set places page (length cells + 1))) e ∙ get_or-set_same places page (length cells + 1) 0 lt ∙ one_more (length cells))
          ∙ none_past cells (length cells) slot (omega arith) ∙ ap (λ p. slot_in cells p slot) (sym (ap (place_of places) e ∙ none))
      | inr ne ↦ ap (λ p. slot_in cells p slot) (get_or-set_other places page k (length cells + 1) 0 ne)
    ]

pub values_same : (cells new : List (List ℕ)) (count : ℕ) → ((place slot : ℕ) → slot_in new place slot ≡ slot_in cells place slot) → HaveValues cells count → HaveValues new count
values_same cells new count same h = record {
  within = λ page slot. omega (arith, same page slot, h.within page slot);
  apart = λ j k s t some alike. h.apart j k s t (omega (arith, same j s, some)) (sym (same j s) ∙ alike ∙ same k t);
}

-- the place of a page, as it is read
pub place_read : (places : List ℕ) (page place : ℕ) → page < length places → place ≡ get_or places page place → place_of places page ≡ place
place_read places page place lt e = sym (e ∙ get_or_default places page place 0 lt)

-- the slots of a page, as they are read
pub ids_are : (cells : List (List ℕ)) (page : ℕ) (ids : List ℕ) → page < length cells → ids ≡ get_or cells page ids → get_or cells page [] ≡ ids
ids_are cells page ids lt e = get_or_default cells page [] ids lt ∙ sym e

pub slot_read : (cells : List (List ℕ)) (page slot : ℕ) (ids : List ℕ) → page < length cells → ids ≡ get_or cells page ids → slot_in cells (suc page) slot ≡ get_or ids slot 0
slot_read cells page slot ids lt e = ap (λ l. get_or l slot 0) (ids_are cells page ids lt e)

-- A VALUE
pub value_there : (values : List Image) (place : ℕ) (d : Image) → 0 < place → place ≤ length values → value_in values place ≡ Some (get_or values (place - 1) d)
value_there values zero d some le = absurd (omega (arith, some))
value_there values (suc n) d some le = slice_get-get_or values n d (omega (arith, le)) ∙ ap (λ i. Some (get_or values i d)) (omega arith)

-- a value in place of another
pub value_set : (values : List Image) (place : ℕ) (v : Image) → 0 < place → place ≤ length values → value_in (set values (place - 1) v) place ≡ Some v
value_set values place v some le =
    value_there (set values (place - 1) v) place v some (omega (arith, le, length-set values (place - 1) v)) ∙ ap Some (get_or-set_same values (place - 1) v v (omega (arith, some, le)))

pub value_kept : (values : List Image) (place : ℕ) (v : Image) (other : ℕ) → 0 < place → other ≢ place → other ≤ length values → value_in (set values (place - 1) v) other ≡ value_in values other
value_kept values place v zero some ne le = refl
value_kept values place v (suc n) some ne le =
    slice_get-get_or (set values (place - 1) v) n v (omega (arith, le, length-set values (place - 1) v)) ∙ ap Some (get_or-set_other values (place - 1) n v v (λ e. ne (omega (arith, e, some)))) ∙ sym (slice_get-get_or values n v (omega (arith, le)))

-- a value more
pub value_new : (values : List Image) (v : Image) → value_in (values ++ v ∷ []) (length values + 1) ≡ Some v
value_new values v =
    value_there (values ++ v ∷ []) (length values + 1) v (omega arith) (omega (arith, length-append values (v ∷ [])))
    ∙ ap Some (ap (λ i. get_or (values ++ v ∷ []) i v) (omega arith) ∙ get_or-append_seam values v [] v)

pub value_stays : (values : List Image) (v : Image) (place : ℕ) → place ≤ length values → value_in (values ++ v ∷ []) place ≡ value_in values place
value_stays values v zero le = refl
value_stays values v (suc n) le =
    slice_get-get_or (values ++ v ∷ []) n v (omega (arith, le, length-append values (v ∷ []))) ∙ ap Some (get_or_append_left values (v ∷ []) v n (omega (arith, le))) ∙ sym (slice_get-get_or values n v (omega (arith, le)))

-- A SLOT MORE
-- a slot of a page gets a place
abbrev pub slot_set : (cells : List (List ℕ)) (page slot place : ℕ) → List (List ℕ)
slot_set cells page slot place = set cells page (set (get_or cells page []) slot place)

pub slot_new : (cells : List (List ℕ)) (page slot place : ℕ) → page < length cells → slot < length (get_or cells page []) → slot_in (slot_set cells page slot place) (suc page) slot ≡ place
slot_new cells page slot place lt small =
    ap (λ ids. get_or ids slot 0) (get_or-set_same cells page (set (get_or cells page []) slot place) [] lt) ∙ get_or-set_same (get_or cells page []) slot place 0 small

pub slot_kept : (cells : List (List ℕ)) (page slot place k s : ℕ) → page < length cells → ((k ≢ suc page) ⊎ (s ≢ slot)) → slot_in (slot_set cells page slot place) k s ≡ slot_in cells k s
slot_kept cells page slot place zero s lt ne = refl
slot_kept cells page slot place (suc n) s lt ne =
    elim (cases_eq n page) [
      | inl e ↦ elim ne [
        | inl off ↦ absurd (off (ap suc e))
        | inr other ↦ ap (λ ids. get_or ids s 0) (ap (λ i. get_or (slot_set cells page slot place) i []) e ∙ get_or-set_same cells page (set (get_or cells page []) slot place) [] lt)
            ∙ get_or-set_other (get_or cells page []) slot s place 0 other ∙ ap (λ i. get_or (get_or cells i []) s 0) (sym e)
      ]
      | inr d ↦ ap (λ ids. get_or ids s 0) (get_or-set_other cells page n (set (get_or cells page []) slot place) [] d)
    ]

-- it is that slot, or another
pub own_or_other : (page slot k s : ℕ) → ((k ≡ suc page) × (s ≡ slot)) ⊎ ((k ≢ suc page) ⊎ (s ≢ slot))
own_or_other page slot k s =
    elim (cases_eq k (suc page)) [
      | inl e ↦ elim (cases_eq s slot) [
        | inl same ↦ inl (e, same)
        | inr ne ↦ inr (inr ne)
      ]
      | inr ne ↦ inr (inl ne)
    ]

pub values_more : (cells : List (List ℕ)) (page slot count : ℕ) → page < length cells → slot < length (get_or cells page []) → HaveValues cells count → HaveValues (slot_set cells page slot (count + 1)) (count + 1)
values_more cells page slot count lt small h =
    let new = slot_set cells page slot (count + 1) in
    let here : (k s : ℕ) → (k ≡ suc page) × (s ≡ slot) → slot_in new k s ≡ count + 1 = λ k s e. rw (e.0, e.1) (slot_new cells page slot (count + 1) lt small) in
    let same : (k s : ℕ) → ((k ≢ suc page) ⊎ (s ≢ slot)) → slot_in new k s ≡ slot_in cells k s = λ k s ne. slot_kept cells page slot (count + 1) k s lt ne in
    record {
      within = λ k s. elim (own_or_other page slot k s) [
        | inl e ↦ omega (arith, here k s e)
        | inr ne ↦ omega (arith, same k s ne, h.within k s)
      ];
      apart = λ j k s t some alike. elim (own_or_other page slot j s) [
        | inl at ↦ elim (own_or_other page slot k t) [
          | inl there ↦ (at.0 ∙ sym there.0, at.1 ∙ sym there.1)
          | inr ne ↦ absurd (omega (arith, here j s at, same k t ne, h.within k t, alike))
        ]
        | inr off ↦ elim (own_or_other page slot k t) [
          | inl there ↦ absurd (omega (arith, here k t there, same j s off, h.within j s, alike))
          | inr ne ↦ h.apart j k s t (omega (arith, some, same j s off)) (sym (same j s off) ∙ alike ∙ same k t ne)
        ]
      ];
    }
