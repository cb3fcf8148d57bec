-- The pages that changes show.
use Rattle.std.proofs.Common.{◌≡◌, ◌<◌, ℕ, List, Some, None, length, get_or, set, Result, Ok, Err, sym, ap, ap₂, ◌∙◌, arith, inl, inr}
use Rattle.std.specs.Result.{OnOk, OnErr}
use Rattle.std.proofs.lemmas.Bool.{cases_eq}
use Rattle.std.proofs.lemmas.List.FromFn.{length-map-range_with_len}
use Rattle.std.proofs.lemmas.List.{get_or-set_same, get_or-set_other, get_or_default, length-set}
use Rattle.std.proofs.lemmas.List.Elements.{All-set, All-get_or}
use Rattle.page.specs.Image.{Image}
use Rattle.page.specs.declared.page.Page.{Page}
use Rattle.page.specs.declared.profile.TheConstants.{SLOTS}
use Rattle.changes.specs.Changes.{PageChange, unchanged, put_in, lsn_in, slot_after, changed, page_put, page_lsn}
use Rattle.changes.specs.Pages.{ShowsChanges}
use Rattle.changes.proofs.Puts.{puts_are_sets}

-- a page that is shown has all its slots
pub shown_wide : (changes : List PageChange) (page : ℕ) (stored shown : List Page) (d : Page) → page < length changes → ShowsChanges changes stored shown → length (get_or shown page d).slots ≡ SLOTS
shown_wide changes page stored shown d lt s =
    let own = get_or changes page (unchanged 0) in
    let old = get_or stored page d in
    ap (λ (p : Page). length p.slots) (s.changed.each page (unchanged 0) d (omega (arith, lt, s.count)))
    ∙ length-map-range_with_len (λ slot. slot_after (get_or own.puts slot None) (get_or old.slots slot None)) 0 SLOTS

-- a value put by way of changes shows in the page
pub put_shows : (old : List PageChange) (page slot lsn : ℕ) (value : Image) (c : PageChange) (stored shown : List Page) (d : Page) → page < length old → slot < SLOTS → ShowsChanges old stored shown
    → ShowsChanges (set old page (put_in slot lsn value (get_or old page c))) stored (set shown page (page_put slot lsn value (get_or shown page d)))
put_shows old page slot lsn value c stored shown d lt small s =
    let own = get_or old page c in
    let wide : length own.puts ≡ SLOTS = All-get_or (λ (x : PageChange). length x.puts ≡ SLOTS) old page c lt s.wide in
    let put = put_in slot lsn value own in
    let new = page_put slot lsn value (get_or shown page d) in
    let in_stored : page < length stored = omega (arith, lt, s.count) in
    let in_shown : page < length shown = omega (arith, in_stored, s.changed.count) in
    record {
      count = length-set old page put ∙ s.count;
      wide = All-set (λ (x : PageChange). length x.puts ≡ SLOTS) old page put (length-set own.puts slot (Some value) ∙ wide) s.wide;
      changed = record {
        count = length-set shown page new ∙ s.changed.count;
        each = λ k e p le. elim (cases_eq k page) [
          | inl is ↦
              (let here : get_or shown page d ≡ changed own (get_or stored page p) = get_or_default shown page d p in_shown ∙ s.changed.each page c p in_stored in
              ap (λ i. get_or (set shown page new) i p) is ∙ get_or-set_same shown page new p in_shown ∙ ap (page_put slot lsn value) here ∙ sym (puts_are_sets.one_more own (get_or stored page p) slot lsn value small wide)
              ∙ ap₂ changed (sym (get_or-set_same old page put e lt) ∙ ap (λ i. get_or (set old page put) i e) (sym is)) (ap (λ i. get_or stored i p) (sym is)))
          | inr ne ↦ get_or-set_other shown page k new p ne ∙ s.changed.each k e p le ∙ ap (λ x. changed x (get_or stored k p)) (sym (get_or-set_other old page k put e ne))
        ];
      };
    }

-- a PageLSN set by way of changes shows in the page
pub lsn_shows : (old : List PageChange) (page lsn : ℕ) (c : PageChange) (stored shown : List Page) (d : Page) → page < length old → ShowsChanges old stored shown
    → ShowsChanges (set old page (lsn_in lsn (get_or old page c))) stored (set shown page (page_lsn lsn (get_or shown page d)))
lsn_shows old page lsn c stored shown d lt s =
    let own = get_or old page c in
    let put = lsn_in lsn own in
    let new = page_lsn lsn (get_or shown page d) in
    let in_stored : page < length stored = omega (arith, lt, s.count) in
    let in_shown : page < length shown = omega (arith, in_stored, s.changed.count) in
    record {
      count = length-set old page put ∙ s.count;
      wide = All-set (λ (x : PageChange). length x.puts ≡ SLOTS) old page put (All-get_or (λ (x : PageChange). length x.puts ≡ SLOTS) old page c lt s.wide) s.wide;
      changed = record {
        count = length-set shown page new ∙ s.changed.count;
        each = λ k e p le. elim (cases_eq k page) [
          | inl is ↦
              ap (λ i. get_or (set shown page new) i p) is ∙ get_or-set_same shown page new p in_shown ∙ ap (page_lsn lsn) (get_or_default shown page d p in_shown ∙ s.changed.each page c p in_stored)
              ∙ ap₂ changed (sym (get_or-set_same old page put e lt) ∙ ap (λ i. get_or (set old page put) i e) (sym is)) (ap (λ i. get_or stored i p) (sym is))
          | inr ne ↦ get_or-set_other shown page k new p ne ∙ s.changed.each k e p le ∙ ap (λ x. changed x (get_or stored k p)) (sym (get_or-set_other old page k put e ne))
        ];
      };
    }

-- a call that returned Ok or an error
pub either : {T E : Type 0} {P Q R : Type 0} (r : Result T E) → OnOk r P → OnErr r Q → (P → R) → (Q → R) → R
either (Ok x) p q f g = f p
either (Err e) p q f g = g q

pub on_ok : {T E : Type 0} {P Q : Type 0} (r : Result T E) → OnOk r P → (P → Q) → OnOk r Q
on_ok (Ok x) p f = f p
on_ok (Err e) p f = tt
