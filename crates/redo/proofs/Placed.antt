-- Pages of which some have places: one more, and one changed.
use Rattle.std.proofs.Common.{◌≡◌, ◌≢◌, ℕ, zero, suc, ◌+◌, ◌-◌, ◌<◌, ◌≤◌, Bool, true, false, cond, ◌&&◌, not, eqb, List, [], ◌∷◌, ◌++◌, Option, None, length, map, get_or, set, replicate, refl, sym, ap, ◌∙◌, subst, inl, inr, arith, length-append, ne_eqb, eqb-true}
use Rattle.std.proofs.lemmas.Bool.{cases_Bool, cases_eq}
use Rattle.std.proofs.lemmas.List.{get_or_append_left, get_or_push, get_or-set_same, get_or-set_other, length-set, length-map, map_push, get_or-map, get_or_default, get_or-replicate, set-get_or, ext_get_or}
use Rattle.std.proofs.lemmas.List.FromFn.{fill_by_all}
use Rattle.page.specs.declared.profile.TheConstants.{SLOTS}
use Rattle.log_laws.specs.Redo.{is_redone}
use Rattle.redo.specs.declared.tally.Tally.{Tally}
use Rattle.redo.specs.declared.tally_table.PlacedPage.{PlacedPage}
use Rattle.redo.specs.Changes.{counted}
use Rattle.redo.specs.Placed.{untouched, kept_at, tally_of, tallies_of, IsPlaced, ArePlaced, page_first, kept_first}
use Rattle.redo.specs.Joined.{lasts_joined, joined, place_joined, kept_joined}

-- functions that agree on the elements of a list
map_same : (f g : PlacedPage → Tally) (pages : List PlacedPage) → ((k : ℕ) (d : PlacedPage) → k < length pages → f (get_or pages k d) ≡ g (get_or pages k d)) → map f pages ≡ map g pages
map_same f g [] same = refl
map_same f g (x ∷ xs) same = ap (λ ys. f x ∷ ys) (map_same f g xs (λ k d lt. same (suc k) d (omega (arith, lt)))) ∙ ap (λ y. y ∷ map g xs) (same 0 x (omega arith))

-- the last records at a place that is there
at_place : (kept : List (List ℕ)) (place n : ℕ) (lasts : List ℕ) → place ≡ n + 1 → n < length kept → kept_at kept place ≡ get_or kept n lasts
at_place kept zero n lasts is lt = absurd (omega (arith, is))
at_place kept (suc m) n lasts is lt = let same : m ≡ n = omega (arith, is) in ap (λ i. get_or kept i (replicate SLOTS 0)) same ∙ get_or_default kept n (replicate SLOTS 0) lasts lt

-- no place
at_none : (kept : List (List ℕ)) (place : ℕ) → place ≡ 0 → kept_at kept place ≡ replicate SLOTS 0
at_none kept zero is = refl
at_none kept (suc m) is = absurd (omega (arith, is))

-- ONE PAGE MORE, to which no record was applied
module _ (kept : List (List ℕ)) (rec_lsns : List (Option ℕ)) (pages : List PlacedPage) (number lsn : ℕ) (rec_lsn : Option ℕ) (are : ArePlaced kept rec_lsns pages) (is : number ≡ length pages) where
  abbrev more : PlacedPage
  more = record { number = number; place = 0; lsn = lsn; applied = 0 }

  pub tallies_page : tallies_of kept (rec_lsns ++ rec_lsn ∷ []) (pages ++ more ∷ []) ≡ tallies_of kept rec_lsns pages ++ untouched number lsn rec_lsn ∷ []
  tallies_page =
      let f = tally_of kept (rec_lsns ++ rec_lsn ∷ []) in
      let g = tally_of kept rec_lsns in
      map_push f pages more
      ∙ ap (λ ts. ts ++ f more ∷ []) (map_same f g pages (λ k d lt.
      let page = get_or pages k d in
      ap (λ (o : Option ℕ). record { number = page.number; lsn = page.lsn; rec_lsn = o; applied = page.applied; lasts = kept_at kept page.place })
      (get_or_append_left rec_lsns (rec_lsn ∷ []) None page.number (omega (arith, lt, are.count, (are.each k d lt).number)))))
      ∙ ap (λ o. map g pages ++ untouched number lsn o ∷ []) (get_or_push rec_lsns rec_lsn None number (omega (arith, are.count, is)))

-- ONE PAGE CHANGED, and what is kept, of which the other pages see nothing
module _ (kept new : List (List ℕ)) (rec_lsns : List (Option ℕ)) (pages : List PlacedPage) (k : ℕ) (page : PlacedPage) (are : ArePlaced kept rec_lsns pages) (lt : k < length pages) where
  placed_set : length kept ≤ length new → IsPlaced new k page
      → ((i : ℕ) (d : PlacedPage) → i < length pages → i ≢ k → (get_or pages i d).place ≢ 0 → (get_or pages i d).place ≢ page.place) → ArePlaced new rec_lsns (set pages k page)
  placed_set le one apart = record {
    count = omega (arith, are.count, length-set pages k page);
    each = λ i d less. elim (cases_eq i k) [
      | inl e ↦ subst (λ j. IsPlaced new j (get_or (set pages k page) j d)) (sym e) (subst (IsPlaced new k) (sym (get_or-set_same pages k page d lt)) one)
      | inr ne ↦
          (let other = are.each i d (omega (arith, less, length-set pages k page)) in
          subst (IsPlaced new i) (sym (get_or-set_other pages k i page d ne)) (record { number = other.number; within = omega (arith, other.within, le); touched = other.touched; idle = other.idle }))
    ];
    own = λ i j d a b some same.
        let first : i < length pages = omega (arith, a, length-set pages k page) in
        let second : j < length pages = omega (arith, b, length-set pages k page) in
        elim (cases_eq i k) [
          | inl e ↦ elim (cases_eq j k) [
            | inl f ↦ e ∙ sym f
            | inr ne ↦
                (let other = place_other j d ne in
                absurd (apart j d second ne (λ none. some (same ∙ other ∙ none)) (sym other ∙ sym same ∙ place_same i d e)))
          ]
          | inr ne ↦
              (let one = place_other i d ne in
              elim (cases_eq j k) [
                | inl f ↦ absurd (apart i d first ne (λ none. some (one ∙ none)) (sym one ∙ same ∙ place_same j d f))
                | inr nf ↦ are.own i j d first second (λ none. some (one ∙ none)) (sym one ∙ same ∙ place_other j d nf)
              ])
        ];
  }
    where
      place_same : (i : ℕ) (d : PlacedPage) → i ≡ k → (get_or (set pages k page) i d).place ≡ page.place
      place_same i d e = ap (λ j. (get_or (set pages k page) j d).place) e ∙ ap (λ (p : PlacedPage). p.place) (get_or-set_same pages k page d lt)

      place_other : (i : ℕ) (d : PlacedPage) → i ≢ k → (get_or (set pages k page) i d).place ≡ (get_or pages i d).place
      place_other i d ne = ap (λ (p : PlacedPage). p.place) (get_or-set_other pages k i page d ne)

  tallies_set : ((i : ℕ) (d : PlacedPage) → i < length pages → i ≢ k → kept_at new (get_or pages i d).place ≡ kept_at kept (get_or pages i d).place)
      → tallies_of new rec_lsns (set pages k page) ≡ set (tallies_of kept rec_lsns pages) k (tally_of new rec_lsns page)
  tallies_set others =
      let f = tally_of new rec_lsns in
      let g = tally_of kept rec_lsns in
      let tally = f page in
      let count = length-map (set pages k page) f in
      let within : k < length (map g pages) = omega (arith, lt, length-map pages g) in
      ext_get_or tally (map f (set pages k page)) (set (map g pages) k tally) (omega (arith, count, length-set pages k page, length-map pages g, length-set (map g pages) k tally))
      (λ i less.
      let at : i < length (set pages k page) = omega (arith, less, count) in
      let below : i < length pages = omega (arith, at, length-set pages k page) in
      get_or-map f (set pages k page) i page tally at
      ∙ elim (cases_eq i k) [
        | inl e ↦ ap (λ j. f (get_or (set pages k page) j page)) e ∙ ap f (get_or-set_same pages k page page lt) ∙ sym (ap (λ j. get_or (set (map g pages) k tally) j tally) e ∙ get_or-set_same (map g pages) k tally tally within)
        | inr ne ↦
            (let other = get_or pages i page in
            ap f (get_or-set_other pages k i page page ne)
            ∙ ap (λ (xs : List ℕ). record { number = other.number; lsn = other.lsn; rec_lsn = get_or rec_lsns other.number None; applied = other.applied; lasts = xs }) (others i page below ne)
            ∙ sym (get_or-set_other (map g pages) k i tally tally ne ∙ get_or-map g pages i page tally below))
      ])

-- LAST RECORDS JOINED with those of a later stretch, at a place or at a new one
-- a page that has none takes those of the later stretch
over_none : (other : List ℕ) → length other ≡ SLOTS → other ≡ lasts_joined (replicate SLOTS 0) other
over_none other long =
    let none : ℕ = 0 in
    fill_by_all (λ slot. cond (eqb (get_or other slot none) none) (get_or (replicate SLOTS none) slot none) (get_or other slot none)) other SLOTS none long
    (λ slot lt.
    let own = get_or other slot none in
    elim (cases_Bool (eqb own none)) [
      | inl z ↦ eqb-true own none z ∙ sym (ap (λ b. cond b (get_or (replicate SLOTS none) slot none) own) z ∙ get_or-replicate SLOTS slot none none lt)
      | inr s ↦ sym (ap (λ b. cond b (get_or (replicate SLOTS none) slot none) own) s)
    ])

-- one more place changes no other
kept_more : (kept : List (List ℕ)) (lasts : List ℕ) (place : ℕ) → place ≤ length kept → kept_at (kept ++ lasts ∷ []) place ≡ kept_at kept place
kept_more kept lasts zero le = refl
kept_more kept lasts (suc n) le = get_or_append_left kept (lasts ∷ []) (replicate SLOTS 0) n (omega (arith, le))

module _ (kept : List (List ℕ)) (other : List ℕ) where
  joined_there : (place : ℕ) → length other ≡ SLOTS → place ≤ length kept → kept_at (kept_joined place other kept) (place_joined place (length kept)) ≡ lasts_joined (kept_at kept place) other
  joined_there zero long le =
      at_place (kept ++ other ∷ []) (length kept + 1) (length kept) other refl (omega (arith, length-append kept (other ∷ []))) ∙ get_or_push kept other other (length kept) refl ∙ over_none other long
  joined_there (suc n) long le = get_or-set_same kept n (lasts_joined (get_or kept n (replicate SLOTS 0)) other) (replicate SLOTS 0) (omega (arith, le))

  joined_other : (place at : ℕ) → at ≤ length kept → (at ≡ place → at ≡ 0) → kept_at (kept_joined place other kept) at ≡ kept_at kept at
  joined_other zero at le apart = kept_more kept other at le
  joined_other (suc n) zero le apart = refl
  joined_other (suc n) (suc m) le apart = get_or-set_other kept n m (lasts_joined (get_or kept n (replicate SLOTS 0)) other) (replicate SLOTS 0) (λ e. (let z = apart (ap suc e) in omega (arith, z)))

  joined_count : (place : ℕ) → length kept ≤ length (kept_joined place other kept)
  joined_count zero = omega (arith, length-append kept (other ∷ []))
  joined_count (suc n) = omega (arith, length-set kept n (lasts_joined (get_or kept n (replicate SLOTS 0)) other))

  joined_within : (place : ℕ) → place ≤ length kept → place_joined place (length kept) ≤ length (kept_joined place other kept)
  joined_within zero le = omega (arith, length-append kept (other ∷ []))
  joined_within (suc n) le = omega (arith, le, length-set kept n (lasts_joined (get_or kept n (replicate SLOTS 0)) other))

  joined_some : (place : ℕ) → place_joined place (length kept) ≢ 0
  joined_some zero e = omega (arith, e)
  joined_some (suc n) e = omega (arith, e)

  joined_apart : (place at : ℕ) → at ≤ length kept → at ≢ place → at ≢ place_joined place (length kept)
  joined_apart zero at le ne e = omega (arith, le, e)
  joined_apart (suc n) at le ne e = ne e

-- at a place that is there
pub joined_set : (kept : List (List ℕ)) (place : ℕ) (lasts later : List ℕ) → place ≢ 0 → place ≤ length kept → lasts ≡ get_or kept (place - 1) lasts → set kept (place - 1) (lasts_joined lasts later) ≡ kept_joined place later kept
joined_set kept zero lasts later some le here = absurd (some refl)
joined_set kept (suc n) lasts later some le here =
    let at : suc n - 1 ≡ n = omega arith in
    let own : lasts ≡ get_or kept n (replicate SLOTS 0) = here ∙ ap (λ i. get_or kept i lasts) at ∙ get_or_default kept n lasts (replicate SLOTS 0) (omega (arith, le)) in
    ap (λ i. set kept i (lasts_joined lasts later)) at ∙ ap (λ xs. set kept n (lasts_joined xs later)) own

-- A PAGE THAT WAS LOOKED UP, and the tallies that contracts see
module _ (kept : List (List ℕ)) (rec_lsns : List (Option ℕ)) (pages : List PlacedPage) (tallies : List Tally) (k : ℕ) (page : PlacedPage)
    (view : tallies_of kept rec_lsns pages ≡ tallies) (are : ArePlaced kept rec_lsns pages) (below : k < length tallies) (is : page ≡ get_or pages k page) where
  pub in_pages : k < length pages
  in_pages = omega (arith, below, ap (λ (ts : List Tally). length ts) view, length-map pages (tally_of kept rec_lsns))

  pub is_placed : IsPlaced kept k page
  is_placed = subst (IsPlaced kept k) (sym is) (are.each k page in_pages)

  pub its_tally : (t : Tally) → get_or tallies k t ≡ tally_of kept rec_lsns page
  its_tally t = ap (λ (ts : List Tally). get_or ts k t) (sym view) ∙ get_or-map (tally_of kept rec_lsns) pages k page t in_pages ∙ ap (tally_of kept rec_lsns) (sym is)

  pub its_rec_lsn : (rec_lsn : Option ℕ) → rec_lsn ≡ get_or rec_lsns k rec_lsn → k < length rec_lsns → get_or rec_lsns page.number None ≡ rec_lsn
  its_rec_lsn rec_lsn here lt = ap (λ n. get_or rec_lsns n None) is_placed.number ∙ get_or_default rec_lsns k None rec_lsn lt ∙ sym here

  same_place : (d : PlacedPage) → (get_or pages k d).place ≡ page.place
  same_place d = ap (λ (p : PlacedPage). p.place) (get_or_default pages k d page in_pages ∙ sym is)

  -- it has a place
  module _ (some : page.place ≢ 0) where
    in_kept : page.place - 1 < length kept
    in_kept = omega (arith, is_placed.within, some)

    pub its_lasts : (lasts : List ℕ) → kept_at kept page.place ≡ get_or kept (page.place - 1) lasts
    its_lasts lasts = at_place kept page.place (page.place - 1) lasts (omega (arith, some)) in_kept

    -- a record is counted for it
    module _ (redo_lsn lsn slot : ℕ) (lasts : List ℕ) (here : lasts ≡ get_or kept (page.place - 1) lasts) where
      abbrev counted_page : PlacedPage
      counted_page = record { number = page.number; place = page.place; lsn = lsn; applied = page.applied + 1 }

      abbrev counted_kept : List (List ℕ)
      counted_kept = set kept (page.place - 1) (set lasts slot lsn)

      apart : (i : ℕ) (d : PlacedPage) → i < length pages → i ≢ k → (get_or pages i d).place ≢ 0 → (get_or pages i d).place ≢ page.place
      apart i d lt ne has same = ne (are.own i k d lt in_pages has (same ∙ sym (same_place d)))

      kept_other : (place : ℕ) → place ≢ page.place → kept_at counted_kept place ≡ kept_at kept place
      kept_other zero ne = refl
      kept_other (suc m) ne = get_or-set_other kept (page.place - 1) m (set lasts slot lsn) (replicate SLOTS 0) (λ e. ne (omega (arith, e, some)))

      pub counted_tallies : (t : Tally) → ((get_or tallies k t).applied ≢ 0 → is_redone (get_or tallies k t).rec_lsn redo_lsn (get_or tallies k t).lsn lsn ≡ true)
          → tallies_of counted_kept rec_lsns (set pages k counted_page) ≡ set tallies k (counted redo_lsn lsn slot (get_or tallies k t))
      counted_tallies t later =
          let old = get_or tallies k t in
          let tally = tally_of kept rec_lsns page in
          let lacks : is_redone tally.rec_lsn redo_lsn tally.lsn lsn ≡ true =
          subst (λ (x : Tally). is_redone x.rec_lsn redo_lsn x.lsn lsn ≡ true) (its_tally t) (later (λ none. is_placed.touched some (ap (λ (x : Tally). x.applied) (sym (its_tally t)) ∙ none))) in
          let record_of : List ℕ → Tally = λ xs. record { number = page.number; lsn = lsn; rec_lsn = tally.rec_lsn; applied = suc page.applied; lasts = xs } in
          let one : page.applied + 1 ≡ suc page.applied = omega arith in
          let new : tally_of counted_kept rec_lsns counted_page ≡ record_of (set lasts slot lsn) =
          ap (λ n. record { number = page.number; lsn = lsn; rec_lsn = tally.rec_lsn; applied = n; lasts = kept_at counted_kept page.place }) one
          ∙ ap record_of (at_place counted_kept page.place (page.place - 1) lasts (omega (arith, some)) (omega (arith, in_kept, length-set kept (page.place - 1) (set lasts slot lsn)))
          ∙ get_or-set_same kept (page.place - 1) (set lasts slot lsn) lasts in_kept) in
          let seen : counted redo_lsn lsn slot tally ≡ record_of (set lasts slot lsn) =
          ap (λ b. cond b (record_of (set tally.lasts slot lsn)) tally) lacks ∙ ap (λ xs. record_of (set xs slot lsn)) (its_lasts lasts ∙ sym here) in
          tallies_set kept counted_kept rec_lsns pages k counted_page are in_pages (λ i d lt ne. others i d lt ne)
          ∙ ap (λ ts. set ts k (tally_of counted_kept rec_lsns counted_page)) view
          ∙ ap (set tallies k) (new ∙ sym seen ∙ ap (counted redo_lsn lsn slot) (sym (its_tally t)))
        where
          others : (i : ℕ) (d : PlacedPage) → i < length pages → i ≢ k → kept_at counted_kept (get_or pages i d).place ≡ kept_at kept (get_or pages i d).place
          others i d lt ne = kept_other (get_or pages i d).place (λ same. apart i d lt ne (λ none. some (sym same ∙ none)) same)

  -- it has none
  module _ (none : page.place ≡ 0) (redo_lsn lsn slot : ℕ) where
    pub first_placed : (lacks : Bool) → ArePlaced (kept_first lacks lsn slot kept) rec_lsns (set pages k (page_first lacks (length kept) lsn page))
    first_placed false = placed_set kept kept rec_lsns pages k page are in_pages (omega arith) is_placed (λ i d lt ne some same. some (same ∙ none))
    first_placed true =
        let lasts = set (replicate SLOTS 0) slot lsn in
        let count = length-append kept (lasts ∷ []) in
        placed_set kept (kept ++ lasts ∷ []) rec_lsns pages k (page_first true (length kept) lsn page) are in_pages (omega (arith, count))
        (record { number = is_placed.number; within = omega (arith, count); touched = λ _ e. omega (arith, e); idle = λ e. absurd (omega (arith, e)) })
        (λ i d lt ne some same. omega (arith, same, (are.each i d lt).within))

    first_tallies_by : (lacks : Bool) → is_redone (get_or rec_lsns page.number None) redo_lsn page.lsn lsn ≡ lacks
        → tallies_of (kept_first lacks lsn slot kept) rec_lsns (set pages k (page_first lacks (length kept) lsn page)) ≡ set (tallies_of kept rec_lsns pages) k (counted redo_lsn lsn slot (tally_of kept rec_lsns page))
    first_tallies_by false e =
        let tally = tally_of kept rec_lsns page in
        tallies_set kept kept rec_lsns pages k page are in_pages (λ i d lt ne. refl)
        ∙ ap (λ b. set (tallies_of kept rec_lsns pages) k (cond b (record { number = page.number; lsn = lsn; rec_lsn = tally.rec_lsn; applied = suc page.applied; lasts = set tally.lasts slot lsn }) tally)) (sym e)
    first_tallies_by true e =
        let tally = tally_of kept rec_lsns page in
        let lasts = set (replicate SLOTS 0) slot lsn in
        let new = kept ++ lasts ∷ [] in
        let record_of : List ℕ → Tally = λ xs. record { number = page.number; lsn = lsn; rec_lsn = tally.rec_lsn; applied = suc page.applied; lasts = xs } in
        let one : page.applied + 1 ≡ suc page.applied = omega arith in
        tallies_set kept new rec_lsns pages k (page_first true (length kept) lsn page) are in_pages (λ i d lt ne. kept_more kept lasts (get_or pages i d).place (are.each i d lt).within)
        ∙ ap (λ n. set (tallies_of kept rec_lsns pages) k (record { number = page.number; lsn = lsn; rec_lsn = tally.rec_lsn; applied = n; lasts = kept_at new (length kept + 1) })) one
        ∙ ap (λ xs. set (tallies_of kept rec_lsns pages) k (record_of xs))
        (at_place new (length kept + 1) (length kept) lasts refl (omega (arith, length-append kept (lasts ∷ [])))
        ∙ get_or_push kept lasts lasts (length kept) refl ∙ ap (λ xs. set xs slot lsn) (sym (at_none kept page.place none)))
        ∙ ap (λ b. set (tallies_of kept rec_lsns pages) k (cond b (record_of (set tally.lasts slot lsn)) tally)) (sym e)

    pub first_tallies : (rec_lsn : Option ℕ) (t : Tally) → rec_lsn ≡ get_or rec_lsns k rec_lsn → k < length rec_lsns
        → let lacks = is_redone rec_lsn redo_lsn page.lsn lsn in
        tallies_of (kept_first lacks lsn slot kept) rec_lsns (set pages k (page_first lacks (length kept) lsn page)) ≡ set tallies k (counted redo_lsn lsn slot (get_or tallies k t))
    first_tallies rec_lsn t here lt =
        let same = its_rec_lsn rec_lsn here lt in
        first_tallies_by (is_redone rec_lsn redo_lsn page.lsn lsn) (ap (λ o. is_redone o redo_lsn page.lsn lsn) same)
        ∙ ap (λ ts. set ts k (counted redo_lsn lsn slot (tally_of kept rec_lsns page))) view
        ∙ ap (λ x. set tallies k (counted redo_lsn lsn slot x)) (sym (its_tally t))

  -- IT IS JOINED with its tally of a later stretch, which applied a record to it
  module _ (later : Tally) (lasts : List ℕ) (are_lasts : later.lasts ≡ lasts) (long : length lasts ≡ SLOTS) (some : later.applied ≢ 0) where
    abbrev joined_page : PlacedPage
    joined_page = record { number = page.number; place = place_joined page.place (length kept); lsn = later.lsn; applied = page.applied + later.applied }

    only_here : (i : ℕ) (d : PlacedPage) → i < length pages → i ≢ k → (get_or pages i d).place ≡ page.place → (get_or pages i d).place ≡ 0
    only_here i d lt ne same = elim (cases_eq (get_or pages i d).place 0) [ inl z ↦ z | inr has ↦ absurd (ne (are.own i k d lt in_pages has (same ∙ sym (same_place d)))) ]

    pub joined_placed : ArePlaced (kept_joined page.place lasts kept) rec_lsns (set pages k joined_page)
    joined_placed =
        placed_set kept (kept_joined page.place lasts kept) rec_lsns pages k joined_page are in_pages (joined_count kept lasts page.place)
        (record {
          number = is_placed.number;
          within = joined_within kept lasts page.place is_placed.within;
          touched = λ _ e. some (omega (arith, e));
          idle = λ e. absurd (joined_some kept lasts page.place e);
        })
        (λ i d lt ne has. joined_apart kept lasts page.place (get_or pages i d).place (are.each i d lt).within (λ same. has (only_here i d lt ne same)))

    pub joined_tallies : (redo_lsn : ℕ) (rec_lsn : Option ℕ) (t : Tally) → rec_lsn ≡ get_or rec_lsns k rec_lsn → k < length rec_lsns → is_redone rec_lsn redo_lsn page.lsn later.lsn ≡ true
        → tallies_of (kept_joined page.place lasts kept) rec_lsns (set pages k joined_page) ≡ set tallies k (joined redo_lsn (get_or tallies k t) later)
    joined_tallies redo_lsn rec_lsn t here lt lacks =
        let new = kept_joined page.place lasts kept in
        let tally = tally_of kept rec_lsns page in
        let same : tally.rec_lsn ≡ rec_lsn = its_rec_lsn rec_lsn here lt in
        let test : (not (eqb later.applied 0) && is_redone tally.rec_lsn redo_lsn tally.lsn later.lsn) ≡ true =
        ap (λ b. not b && is_redone tally.rec_lsn redo_lsn tally.lsn later.lsn) (ne_eqb later.applied 0 some) ∙ ap (λ o. is_redone o redo_lsn page.lsn later.lsn) same ∙ lacks in
        let record_of : List ℕ → Tally = λ xs. record { number = page.number; lsn = later.lsn; rec_lsn = tally.rec_lsn; applied = page.applied + later.applied; lasts = xs } in
        tallies_set kept new rec_lsns pages k joined_page are in_pages (λ i d lt ne. joined_other kept lasts page.place (get_or pages i d).place (are.each i d lt).within (only_here i d lt ne))
        ∙ ap (λ ts. set ts k (tally_of new rec_lsns joined_page)) view
        ∙ ap (λ xs. set tallies k (record_of xs)) (joined_there kept lasts page.place long is_placed.within ∙ ap (lasts_joined tally.lasts) (sym are_lasts))
        ∙ ap (λ b. set tallies k (cond b (record_of (lasts_joined tally.lasts later.lasts)) tally)) (sym test)
        ∙ ap (λ x. set tallies k (joined redo_lsn x later)) (sym (its_tally t))

-- a tally that is not joined stays
pub joined_kept : (redo_lsn k : ℕ) (tallies : List Tally) (t later : Tally) → (not (eqb later.applied 0) && is_redone (get_or tallies k t).rec_lsn redo_lsn (get_or tallies k t).lsn later.lsn) ≡ false
    → tallies ≡ set tallies k (joined redo_lsn (get_or tallies k t) later)
joined_kept redo_lsn k tallies t later off =
    let old = get_or tallies k t in
    sym (ap (λ b. set tallies k (cond b (record { number = old.number; lsn = later.lsn; rec_lsn = old.rec_lsn; applied = old.applied + later.applied; lasts = lasts_joined old.lasts later.lasts }) old)) off ∙ set-get_or tallies k t)
