-- Changes as contracts see them.
use Rattle.std.proofs.Common.{ℕ, ◌≡◌, ◌≢◌, ◌⊎◌, ◌<◌, List, length, get_or, set, map, replicate, Option, Some, None, sym, ap, ap₂, ◌∙◌, arith, inl, inr}
use Rattle.std.proofs.lemmas.Bool.{cases_eq}
use Rattle.std.proofs.lemmas.List.{ext_get_or, get_or-set_same, get_or-set_other, get_or-replicate, length-set, length-replicate}
use Rattle.std.proofs.lemmas.List.FromFn.{get_or-map-range_with_len, length-map-range_with_len}
use Rattle.std.specs.List.{range_with_len}
use Rattle.page.specs.Image.{Image}
use Rattle.page.specs.declared.profile.TheConstants.{SLOTS}
use Rattle.changes.specs.Changes.{PageChange, unchanged, put_in, lsn_in}

-- A LIST BY A FUNCTION

pub at_number : {X : Type 0} (f : ℕ → X) (n i : ℕ) (d : X) → i < n → get_or (map f (range_with_len 0 n)) i d ≡ f i
at_number f n i d lt = get_or-map-range_with_len f 0 n i i d lt (omega arith)

-- a list that has what the function says
pub listed_by : {X : Type 0} (f : ℕ → X) (n : ℕ) (d : X) (xs : List X) → length xs ≡ n → ((i : ℕ) → i < n → get_or xs i d ≡ f i) → xs ≡ map f (range_with_len 0 n)
listed_by f n d xs count same =
    ext_get_or d xs (map f (range_with_len 0 n)) (count ∙ sym (length-map-range_with_len f 0 n)) (λ i lt. same i (omega (arith, lt, count)) ∙ sym (at_number f n i d (omega (arith, lt, count))))

pub same_by : {X : Type 0} (f g : ℕ → X) (n : ℕ) (d : X) → ((i : ℕ) → i < n → f i ≡ g i) → map f (range_with_len 0 n) ≡ map g (range_with_len 0 n)
same_by f g n d same = listed_by g n d (map f (range_with_len 0 n)) (length-map-range_with_len f 0 n) (λ i lt. at_number f n i d lt ∙ same i lt)

-- ALL CHANGES, by what is put into each slot
abbrev pub Puts : Type 0
Puts = ℕ → ℕ → Option Image

abbrev pub change_by : List ℕ → Puts → ℕ → PageChange
change_by lsns P k = record { lsn = get_or lsns k 0; puts = map (P k) (range_with_len 0 SLOTS) }

abbrev pub changes_by : List ℕ → Puts → List PageChange
changes_by lsns P = map (change_by lsns P) (range_with_len 0 (length lsns))

pub count_by : (lsns : List ℕ) (P : Puts) → length (changes_by lsns P) ≡ length lsns
count_by lsns P = length-map-range_with_len (change_by lsns P) 0 (length lsns)

pub change_of : (lsns : List ℕ) (P : Puts) (k : ℕ) (c : PageChange) → k < length lsns → get_or (changes_by lsns P) k c ≡ change_by lsns P k
change_of lsns P k c lt = at_number (change_by lsns P) (length lsns) k c lt

abbrev pub page_change : ℕ → List (Option Image) → PageChange
page_change lsn puts = record { lsn = lsn; puts = puts }

change_is : (a b : ℕ) (ps qs : List (Option Image)) → a ≡ b → ps ≡ qs → page_change a ps ≡ page_change b qs
change_is a b ps qs e f = ap₂ page_change e f

-- the same is put
pub same_puts : (lsns : List ℕ) (P Q : Puts) → ((k s : ℕ) → Q k s ≡ P k s) → changes_by lsns Q ≡ changes_by lsns P
same_puts lsns P Q same =
    same_by (change_by lsns Q) (change_by lsns P) (length lsns) (unchanged 0) (λ k lt. ap (page_change (get_or lsns k 0)) (same_by (Q k) (P k) SLOTS None (λ s small. same k s)))

-- nothing is put into the slots of a page
pub none_put : (lsns : List ℕ) (P : Puts) (k : ℕ) → ((s : ℕ) → P k s ≡ None) → change_by lsns P k ≡ unchanged (get_or lsns k 0)
none_put lsns P k none =
    let absent : Option Image = None in
    ap (page_change (get_or lsns k 0)) (sym (listed_by (P k) SLOTS absent (replicate SLOTS absent) (length-replicate SLOTS absent) (λ s lt. get_or-replicate SLOTS s absent absent lt ∙ sym (none s))))

-- the PageLSN of a page is set
pub lsn_set : (lsns : List ℕ) (P : Puts) (page lsn : ℕ) (c : PageChange) → page < length lsns → changes_by (set lsns page lsn) P ≡ set (changes_by lsns P) page (lsn_in lsn (get_or (changes_by lsns P) page c))
lsn_set lsns P page lsn c lt =
    let new = set lsns page lsn in
    let count : length new ≡ length lsns = length-set lsns page lsn in
    let old = changes_by lsns P in
    let put : change_by new P page ≡ lsn_in lsn (get_or old page c) = change_is _ _ _ _ (get_or-set_same lsns page lsn 0 lt) (ap (λ x. x.puts) (sym (change_of lsns P page c lt))) in
    sym (listed_by (change_by new P) (length new) c (set old page (lsn_in lsn (get_or old page c))) (length-set old page (lsn_in lsn (get_or old page c)) ∙ count_by lsns P ∙ sym count)
    (λ k le. elim (cases_eq k page) [
      | inl e ↦ ap (λ i. get_or (set old page (lsn_in lsn (get_or old page c))) i c) e ∙ get_or-set_same old page (lsn_in lsn (get_or old page c)) c (omega (arith, lt, count_by lsns P)) ∙ sym put ∙ ap (change_by new P) (sym e)
      | inr ne ↦ get_or-set_other old page k (lsn_in lsn (get_or old page c)) c ne ∙ change_of lsns P k c (omega (arith, le, count)) ∙ ap (λ l. page_change l (map (P k) (range_with_len 0 SLOTS))) (sym (get_or-set_other lsns page k lsn 0 ne))
    ]))

-- a value is put into a slot
pub one_put : (lsns : List ℕ) (P Q : Puts) (page slot lsn : ℕ) (value : Image) (c : PageChange) → page < length lsns → slot < SLOTS → ((k s : ℕ) → ((k ≢ page) ⊎ (s ≢ slot)) → Q k s ≡ P k s) → Q page slot ≡ Some value
    → changes_by (set lsns page lsn) Q ≡ set (changes_by lsns P) page (put_in slot lsn value (get_or (changes_by lsns P) page c))
one_put lsns P Q page slot lsn value c lt small other here =
    let new = set lsns page lsn in
    let count : length new ≡ length lsns = length-set lsns page lsn in
    let old = changes_by lsns P in
    let own : get_or old page c ≡ change_by lsns P page = change_of lsns P page c lt in
    let puts : map (Q page) (range_with_len 0 SLOTS) ≡ set (map (P page) (range_with_len 0 SLOTS)) slot (Some value) =
    sym (listed_by (Q page) SLOTS None (set (map (P page) (range_with_len 0 SLOTS)) slot (Some value)) (length-set (map (P page) (range_with_len 0 SLOTS)) slot (Some value) ∙ length-map-range_with_len (P page) 0 SLOTS)
    (λ s le. elim (cases_eq s slot) [
      | inl e ↦ ap (λ i. get_or (set (map (P page) (range_with_len 0 SLOTS)) slot (Some value)) i None) e
          ∙ get_or-set_same (map (P page) (range_with_len 0 SLOTS)) slot (Some value) None (omega (arith, small, length-map-range_with_len (P page) 0 SLOTS)) ∙ sym here ∙ ap (Q page) (sym e)
      | inr ne ↦ get_or-set_other (map (P page) (range_with_len 0 SLOTS)) slot s (Some value) None ne ∙ at_number (P page) SLOTS s None le ∙ sym (other page s (inr ne))
    ])) in
    let put : change_by new Q page ≡ put_in slot lsn value (get_or old page c) = change_is _ _ _ _ (get_or-set_same lsns page lsn 0 lt) (puts ∙ ap (λ x. set x.puts slot (Some value)) (sym own)) in
    sym (listed_by (change_by new Q) (length new) c (set old page (put_in slot lsn value (get_or old page c))) (length-set old page (put_in slot lsn value (get_or old page c)) ∙ count_by lsns P ∙ sym count)
    (λ k le. elim (cases_eq k page) [
      | inl e ↦ ap (λ i. get_or (set old page (put_in slot lsn value (get_or old page c))) i c) e ∙ get_or-set_same old page (put_in slot lsn value (get_or old page c)) c (omega (arith, lt, count_by lsns P)) ∙ sym put ∙ ap (change_by new Q) (sym e)
      | inr ne ↦ get_or-set_other old page k (put_in slot lsn value (get_or old page c)) c ne ∙ change_of lsns P k c (omega (arith, le, count))
          ∙ change_is _ _ _ _ (sym (get_or-set_other lsns page k lsn 0 ne)) (same_by (P k) (Q k) SLOTS None (λ s le. sym (other k s (inl ne))))
    ]))
