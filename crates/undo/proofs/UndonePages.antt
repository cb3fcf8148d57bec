-- Pages undone: one more appended record, applied to its page.
use Rattle.std.proofs.Common.{ℕ, suc, zero, ◌≡◌, ◌≢◌, ◌+◌, ◌<◌, ◌≤◌, true, false, ◌&&◌, eqb, ne_eqb, eq-eqb, ltb, List, [], ◌∷◌, ◌++◌, length, get_or, set, map, None, refl, subst, sym, ap, ap₂, ◌∙◌, inl, inr, arith}
use mathlib.Core.Path.{fun_ext}
use Rattle.std.proofs.lemmas.Bool.{cases_eq, and_right, cond-false, lt-ltb, le-ltb}
use Rattle.std.proofs.lemmas.List.{get_or-map, get_or-set_same, get_or-set_other, length-set}
use Rattle.std.proofs.lemmas.List.FromFn.{fill_by_all, get_or-map-range_with_len, length-map-range_with_len}
use Rattle.std.specs.List.{range_with_len}
use Rattle.page.specs.Image.{Image}
use Rattle.page.specs.declared.page.Page.{Page}
use Rattle.page.specs.Store.{AreNumbered}
use Rattle.log_laws.specs.Records.{LogRecord, End, PlainRecord, History, start, ◌▸◌, ◌▸▸◌, last_lsn}
use Rattle.log_laws.specs.Meaning.{Cells, effects, writes, is_on, image_of}
use Rattle.log_laws.specs.Redo.{held_by, last_where}
use Rattle.log_laws.proofs.Histories.{after-append, size-after}
use Rattle.undo.specs.Undone.{slots_of, undone_page}
use Rattle.undo.proofs.Begun.{AreEnds}
use Rattle.undo.proofs.Effects.{Puts, Idle}

-- LISTS
pub map-same-at : {A B : Type 0} (f g : A → B) (xs : List A) (d : A) → ((k : ℕ) → k < length xs → g (get_or xs k d) ≡ f (get_or xs k d)) → map f xs ≡ map g xs
map-same-at f g [] d h = refl
map-same-at f g (x ∷ xs) d h = ap₂ (λ y ys. y ∷ ys) (sym (h 0 (omega arith))) (map-same-at f g xs d (λ k lt. h (suc k) (omega arith)))

set-mapped : {A B : Type 0} (f g : A → B) (xs : List A) (j : ℕ) (y : B) (d : A) → j < length xs → ((k : ℕ) → k < length xs → k ≢ j → g (get_or xs k d) ≡ f (get_or xs k d)) → g (get_or xs j d) ≡ y → set (map f xs) j y ≡ map g xs
set-mapped f g [] j y d lt others here = absurd (omega arith)
set-mapped f g (x ∷ xs) zero y d lt others here = ap₂ (λ z zs. z ∷ zs) (sym here) (map-same-at f g xs d (λ k l. others (suc k) (omega arith) (λ e. omega (arith, e))))
set-mapped f g (x ∷ xs) (suc j) y d lt others here =
    ap₂ (λ z zs. z ∷ zs) (sym (others 0 (omega arith) (λ e. omega (arith, e)))) (set-mapped f g xs j y d (omega arith) (λ k l n. others (suc k) (omega arith) (λ e. n (omega (arith, e)))) here)

-- a list made from a function, changed at one place, if it has that place
set_tabulated : {X : Type 0} (f g : ℕ → X) (n j : ℕ) (y : X) → ((k : ℕ) → k ≢ j → g k ≡ f k) → g j ≡ y → set (map f (range_with_len 0 n)) j y ≡ map g (range_with_len 0 n)
set_tabulated f g n j y others here =
    fill_by_all g (set (map f (range_with_len 0 n)) j y) n y (length-set (map f (range_with_len 0 n)) j y ∙ length-map-range_with_len f 0 n) at
  where
    at : (k : ℕ) → k < n → get_or (set (map f (range_with_len 0 n)) j y) k y ≡ g k
    at k below =
        elim (cases_eq k j) [
          | inl e ↦ (let long : j < length (map f (range_with_len 0 n)) = omega (arith, e, length-map-range_with_len f 0 n) in
              ap (λ i. get_or (set (map f (range_with_len 0 n)) j y) i y) e ∙ get_or-set_same (map f (range_with_len 0 n)) j y y long ∙ sym here ∙ ap g (sym e))
          | inr d ↦ get_or-set_other (map f (range_with_len 0 n)) j k y y d ∙ get_or-map-range_with_len f 0 n k k y below (omega arith) ∙ sym (others k d)
        ]

-- A PAGE, BY THE WHOLE LOG
-- the effects of the records after the first b
abbrev by_log : ℕ → History → Page → Page
by_log b log image = record {
  number = image.number;
  lsn = last_where (λ lsn. ltb b lsn) image.number image.lsn log;
  slots = slots_of (effects (λ lsn _. ltb b lsn) (held_by image) log) image;
}

-- of none
pub no_effects : (b : ℕ) (state : Cells) (log : History) (page slot : ℕ) → last_lsn log ≤ b → effects (λ lsn _. ltb b lsn) state log page slot ≡ state page slot
no_effects b state (start _) page slot h = refl
no_effects b state (log ▸ r) page slot h =
    cond-false (writes page slot r && ltb b (suc (last_lsn log))) (image_of r) (effects (λ lsn _. ltb b lsn) state log page slot)
    (and_right (writes page slot r) (ltb b (suc (last_lsn log))) (le-ltb b (suc (last_lsn log)) (omega arith)))
    ∙ no_effects b state log page slot (omega arith)

pub no_last : (b page lsn : ℕ) (log : History) → last_lsn log ≤ b → last_where (λ n. ltb b n) page lsn log ≡ lsn
no_last b page lsn (start _) h = refl
no_last b page lsn (log ▸ r) h =
    cond-false (is_on page r && ltb b (suc (last_lsn log))) (suc (last_lsn log)) (last_where (λ n. ltb b n) page lsn log)
    (and_right (is_on page r) (ltb b (suc (last_lsn log))) (le-ltb b (suc (last_lsn log)) (omega arith)))
    ∙ no_last b page lsn log (omega arith)

nothing_done : (b : ℕ) (log : History) (image : Page) → last_lsn log ≤ b → by_log b log image ≡ image
nothing_done b log image le =
    let slots : slots_of (effects (λ lsn _. ltb b lsn) (held_by image) log) image ≡ image.slots =
    ap (λ h. map h (range_with_len 0 (length image.slots)))
    (fun_ext (λ s. no_effects b (held_by image) log image.number s le))
    ∙ sym (fill_by_all (λ s. get_or image.slots s None) image.slots (length image.slots) None refl (λ k l. refl)) in
    ap₂ (λ l s. record { number = image.number; lsn = l; slots = s }) (no_last b image.number image.lsn log le) slots

-- ONE MORE RECORD
module _ (b : ℕ) (log : History) (r : LogRecord) (within : b ≤ last_lsn log) where
  behind : ltb b (suc (last_lsn log)) ≡ true
  behind = lt-ltb b (suc (last_lsn log)) (omega arith)

  -- a record that puts nothing there
  unaffected : (image : Page) → ((s : ℕ) → writes image.number s r ≡ false) → is_on image.number r ≡ false → by_log b (log ▸ r) image ≡ by_log b log image
  unaffected image w o =
      ap₂ (λ l s. record { number = image.number; lsn = l; slots = s })
      (rw o refl)
      (ap (λ h. map h (range_with_len 0 (length image.slots)))
      (fun_ext (λ s. (let e = w s in rw e refl))))

  affected : (image : Page) (slot : ℕ) (value : Image) → Puts r image.number slot value
      → by_log b (log ▸ r) image ≡ record { number = image.number; lsn = suc (last_lsn log); slots = set (by_log b log image).slots slot value }
  affected image slot value puts =
      let here : eqb image.number image.number ≡ true = eq-eqb image.number image.number refl in
      let on : is_on image.number r ≡ true = puts.on_is image.number ∙ here in
      let old : ℕ → Image = effects (λ lsn _. ltb b lsn) (held_by image) log image.number in
      let new : ℕ → Image = effects (λ lsn _. ltb b lsn) (held_by image) (log ▸ r) image.number in
      let other : (s : ℕ) → s ≢ slot → new s ≡ old s =
      λ s d. (let e : eqb slot s ≡ false = ne_eqb slot s (λ x. d (sym x)) in
      let w : writes image.number s r ≡ false = puts.writes_is image.number s ∙ ap₂ (λ x y. x && y) here e in rw w refl) in
      let same : new slot ≡ value =
      (let e : eqb slot slot ≡ true = eq-eqb slot slot refl in
      let w : writes image.number slot r ≡ true = puts.writes_is image.number slot ∙ ap₂ (λ x y. x && y) here e in
      rw (w, behind) puts.image_is) in
      ap₂ (λ l s. record { number = image.number; lsn = l; slots = s })
      (rw (on, behind) refl)
      (sym (set_tabulated old new (length image.slots) slot value other same))

-- IN ALL PAGES
module _ (log : History) (appended : List LogRecord) (r : LogRecord) (given : List Page) where
  abbrev whole : History
  whole = log ▸▸ appended

  within : last_lsn log ≤ last_lsn whole
  within = omega (arith, size-after log appended)

  more : (image : Page) → undone_page log (appended ++ r ∷ []) image ≡ by_log (last_lsn log) (whole ▸ r) image
  more image = ap (λ h. by_log (last_lsn log) h image) (after-append log appended (r ∷ []))

  pub idle_undone : Idle r → map (undone_page log appended) given ≡ map (undone_page log (appended ++ r ∷ [])) given
  idle_undone idle =
      ap (λ f. map f given)
      (fun_ext (λ image. sym (more image ∙ unaffected (last_lsn log) whole r within image (λ s. idle.writes_none image.number s) (idle.on_none image.number))))

  pub put_undone : (page slot lsn : ℕ) (value : Image) (pages : List Page) (d changed : Page) → Puts r page slot value → AreNumbered given → page < length pages → length pages ≡ length given
      → lsn ≡ suc (last_lsn log + length appended) → pages ≡ map (undone_page log appended) given
      → changed ≡ record { number = (get_or pages page d).number; lsn = lsn; slots = set (get_or pages page d).slots slot value }
      → set pages page changed ≡ map (undone_page log (appended ++ r ∷ [])) given
  put_undone page slot lsn value pages d changed puts numbered lt len at same is =
      let image : Page = get_or given page d in
      let number : image.number ≡ page = numbered.at_place page d (omega arith) in
      let there : get_or pages page d ≡ undone_page log appended image =
      ap (λ (ps : List Page). get_or ps page d) same ∙ get_or-map (undone_page log appended) given page d d (omega arith) in
      let own : Puts r image.number slot value = subst (λ p. Puts r p slot value) (sym number) puts in
      let to : undone_page log (appended ++ r ∷ []) image ≡ changed =
      more image ∙ affected (last_lsn log) whole r within image slot value own
      ∙ ap₂ (λ (p : Page) n. record { number = p.number; lsn = n; slots = set p.slots slot value }) (sym there) (omega (arith, at, size-after log appended))
      ∙ sym is in
      ap (λ (ps : List Page). set ps page changed) same
      ∙ set-mapped (undone_page log appended) (undone_page log (appended ++ r ∷ [])) given page changed d (omega arith)
      (λ k l n.
      (let other : Page = get_or given k d in
      let e : eqb page other.number ≡ false = ne_eqb page other.number (λ x. n (sym (x ∙ numbered.at_place k d l))) in
      more other
      ∙ unaffected (last_lsn log) whole r within other (λ s. puts.writes_is other.number s ∙ ap (λ b. b && eqb slot s) e) (puts.on_is other.number ∙ e)))
      to

-- an end puts nothing anywhere
pub end_idle : (s : PlainRecord) → Idle (End s)
end_idle s = record { writes_none = λ p t. refl; on_none = λ p. refl }

-- ends do not change any page
pub ends_undo_nothing : (log : History) (appended : List LogRecord) (given : List Page) → AreEnds appended → given ≡ map (undone_page log appended) given
ends_undo_nothing log appended given ends = sym (map-same-as given)
  where
    from : (b : ℕ) (whole : History) (rs : List LogRecord) (image : Page) → b ≤ last_lsn whole → AreEnds rs → by_log b (whole ▸▸ rs) image ≡ by_log b whole image
    from b whole [] image le e = refl
    from b whole (End s ∷ rs) image le e = from b (whole ▸ End s) rs image (omega arith) e ∙ unaffected b whole (End s) le image (λ _. refl) refl
    from b whole (_ ∷ rs) image le e = absurd e

    map-same-as : (pages : List Page) → map (undone_page log appended) pages ≡ pages
    map-same-as [] = refl
    map-same-as (p ∷ pages) =
        ap₂ (λ x xs. x ∷ xs) (from (last_lsn log) log appended p (omega arith) ends ∙ nothing_done (last_lsn log) log p (omega arith)) (map-same-as pages)
