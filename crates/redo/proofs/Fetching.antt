-- What the pages hold while the images of the wanted records are fetched.
use Rattle.std.proofs.Common.{◌≡◌, ℕ, ◌+◌, ◌<◌, ◌≤◌, ◌⊎◌, List, [], ◌∷◌, All, Contains, None, length, get_or, set, refl, sym, ap, ◌∙◌, subst, inl, inr, arith}
use Rattle.std.specs.List.{slice_get}
use Rattle.std.proofs.lemmas.Bool.{cases_eq, cases_lt}
use Rattle.std.proofs.lemmas.List.{ext_get_or, get_or_default, get_or_past, get_or-set_same, get_or-set_other, length-set}
use Rattle.std.proofs.lemmas.List.Elements.{Contains-append_cases, All-contains}
use Rattle.std.proofs.lemmas.Option.{slice_get-get_or, get_or_from_slice_get, same_Some}
use Rattle.page.specs.Image.{Image}
use Rattle.page.specs.declared.page.Page.{Page}
use Rattle.page.specs.Store.{AreNumbered}
use Rattle.changes.specs.Changes.{page_put, page_lsn}
use Rattle.log_laws.specs.Records.{History, record_at, last_lsn, base_lsn}
use Rattle.log_laws.specs.Meaning.{image_in}
use Rattle.log_laws.proofs.Histories.{record_none}
use Rattle.tables.specs.Pieces.{IsPieceOf}
use Rattle.redo.specs.declared.tally.Tally.{Tally}
use Rattle.redo.specs.declared.wanted.Wanted.{Wanted}
use Rattle.redo.specs.Changes.{held_after, slots_after}
use Rattle.redo.specs.Parts.{image_at}
use Rattle.redo.specs.Passing.{StandAtNumbers, LastsAreWithin}
use Rattle.redo.specs.Wanted.{IsWanted, slot_in, HoldAllBut, HaveLsns, AreFinished}
use Rattle.redo.proofs.Reading.{contains_one}
use Rattle.redo.proofs.Tallies.{held_none, held_some, slot_after, slots_count}
use Rattle.redo.proofs.LastRecords.{in_slot}
use Rattle.page.specs.declared.profile.TheConstants.{SLOTS}

-- BEFORE THE FIRST IS FETCHED
pub none_fetched : (log : History) (tallies : List Tally) (wanted : List Wanted) (images : List Page) → ((w : Wanted) → IsWanted tallies w → Contains wanted w) → HoldAllBut log tallies wanted images images
none_fetched log tallies wanted images all = record {
  count = refl;
  numbers = λ page lt. refl;
  slots = λ page lt. refl;
  held = λ page slot tally lt there small not.
      let last = get_or tally.lasts slot 0 in
      elim (cases_eq last 0) [
        | inl none ↦ sym (held_none log last (slot_in images page slot) none)
        | inr some ↦
            elim (cases_lt slot (length tally.lasts)) [
              | inl within ↦ absurd (not (all (in_slot page slot last) (record { tally = tally; there = there; last = record { page_is = refl; some = some; small = small; slot_is = slice_get-get_or tally.lasts slot 0 within } })))
              | inr past ↦ absurd (some (get_or_past tally.lasts slot 0 past))
            ]
      ];
}

-- ONE MORE
-- its image is that of the whole log
same_image : (whole piece : History) (lsn : ℕ) → IsPieceOf whole piece → lsn ≤ last_lsn piece → (lsn ≤ base_lsn piece → lsn ≤ base_lsn whole) → record_at piece lsn ≡ record_at whole lsn
same_image whole piece lsn own le ahead =
    elim (cases_lt (base_lsn piece) lsn) [
      | inl above ↦ own.each lsn above le
      | inr below ↦ record_none piece lsn (inl below) ∙ sym (record_none whole lsn (inl (ahead below)))
    ]

module _ (pages : List Page) (page slot lsn : ℕ) (image : Image) (d : Page) (below : page < length pages) where
  -- the pages with an image put into one slot
  abbrev pub new : List Page
  new = set pages page (page_put slot lsn image (get_or pages page d))

  page_set : (e : Page) → get_or new page e ≡ page_put slot lsn image (get_or pages page e)
  page_set e = get_or-set_same pages page (page_put slot lsn image (get_or pages page d)) e below ∙ ap (page_put slot lsn image) (get_or_default pages page d e below)

  page_kept : (k : ℕ) (e : Page) → (k ≡ page → ⊥) → get_or new k e ≡ get_or pages k e
  page_kept k e ne = get_or-set_other pages page k (page_put slot lsn image (get_or pages page d)) e ne

  numbers_kept : (k : ℕ) → (image_at new k).number ≡ (image_at pages k).number
  numbers_kept k =
      elim (cases_eq k page) [
        | inl e ↦ subst (λ i. (image_at new i).number ≡ (image_at pages i).number) (sym e) (ap (λ (p : Page). p.number) (page_set _))
        | inr ne ↦ ap (λ (p : Page). p.number) (page_kept k _ ne)
      ]

  slots_kept : (k : ℕ) → length (image_at new k).slots ≡ length (image_at pages k).slots
  slots_kept k =
      elim (cases_eq k page) [
        | inl e ↦
            subst (λ i. length (image_at new i).slots ≡ length (image_at pages i).slots) (sym e)
            (ap (λ (p : Page). length p.slots) (page_set _) ∙ length-set (image_at pages page).slots slot image)
        | inr ne ↦ ap (λ (p : Page). length p.slots) (page_kept k _ ne)
      ]

  slot_set : slot < length (image_at pages page).slots → slot_in new page slot ≡ image
  slot_set small = ap (λ (p : Page). get_or p.slots slot None) (page_set _) ∙ get_or-set_same (image_at pages page).slots slot image None small

  slot_kept : (k i : ℕ) → (k ≡ page → i ≡ slot → ⊥) → slot_in new k i ≡ slot_in pages k i
  slot_kept k i ne =
      elim (cases_eq k page) [
        | inl e ↦
            subst (λ j. slot_in new j i ≡ slot_in pages j i) (sym e)
            (ap (λ (p : Page). get_or p.slots i None) (page_set _) ∙ get_or-set_other (image_at pages page).slots slot i image None (ne e))
        | inr other ↦ ap (λ (p : Page). get_or p.slots i None) (page_kept k _ other)
      ]

-- what is among one more and the rest
among : (w x : Wanted) (rest : List Wanted) → Contains (w ∷ rest) x → (w ≡ x) ⊎ Contains rest x
among w x rest has = elim (Contains-append_cases (w ∷ []) rest x has) [ inl one ↦ inl (contains_one w x one) | inr more ↦ inr more ]

pub fetched_one : (whole piece : History) (tallies : List Tally) (w : Wanted) (rest : List Wanted) (images pages : List Page) (d : Page) → IsPieceOf whole piece → IsWanted tallies w
    → w.lsn ≤ last_lsn piece → (w.lsn ≤ base_lsn piece → w.lsn ≤ base_lsn whole) → w.page < length pages → w.slot < length (image_at pages w.page).slots
    → HoldAllBut whole tallies (w ∷ rest) images pages
    → HoldAllBut whole tallies rest images (set pages w.page (page_put w.slot w.lsn (image_in (record_at piece w.lsn)) (get_or pages w.page d)))
fetched_one whole piece tallies w rest images pages d own one le ahead below small before =
    let image = image_in (record_at piece w.lsn) in
    let put = page_put w.slot w.lsn image (get_or pages w.page d) in
    let after = set pages w.page put in
    record {
      count = length-set pages w.page put ∙ before.count;
      numbers = λ page lt. numbers_kept pages w.page w.slot w.lsn image d below page ∙ before.numbers page lt;
      slots = λ page lt. slots_kept pages w.page w.slot w.lsn image d below page ∙ before.slots page lt;
      held = λ page slot tally lt there few not.
          let last = get_or tally.lasts slot 0 in
          let other : (page ≡ w.page → slot ≡ w.slot → ⊥) → slot_in after page slot ≡ held_after whole last (slot_in images page slot) =
          λ ne.
          slot_kept pages w.page w.slot w.lsn image d below page slot ne
          ∙ before.held page slot tally lt there few (λ has. elim (among w (in_slot page slot last) rest has) [
            | inl e ↦ ne (ap (λ (x : Wanted). x.page) (sym e)) (ap (λ (x : Wanted). x.slot) (sym e))
            | inr more ↦ not more
          ]) in
          elim (cases_eq page w.page) [
            | inl e ↦
                elim (cases_eq slot w.slot) [
                  | inl f ↦
                      (let same : tally ≡ one.tally = same_Some _ _ (sym there ∙ (ap (slice_get tallies) e ∙ one.there)) in
                      let lsn : last ≡ w.lsn =
                      ap (λ (t : Tally). get_or t.lasts slot 0) same ∙ (ap (λ i. get_or one.tally.lasts i 0) f ∙ get_or_from_slice_get one.tally.lasts w.slot w.lsn 0 one.last.slot_is) in
                      ap (λ i. slot_in after i slot) e ∙ (ap (λ i. slot_in after w.page i) f
                      ∙ (slot_set pages w.page w.slot w.lsn image d below small
                      ∙ (ap image_in (same_image whole piece w.lsn own le ahead)
                      ∙ (sym (held_some whole w.lsn (slot_in images page slot) one.last.some) ∙ ap (λ n. held_after whole n (slot_in images page slot)) (sym lsn))))))
                  | inr ne ↦ other (λ _ f. ne f)
                ]
            | inr ne ↦ other (λ e _. ne e)
          ];
    }

-- AT THE END
finished_slots : (whole : History) (tallies : List Tally) (rest : List Wanted) (images pages : List Page) (upto k : ℕ) (t : Tally) (d : Page) → LastsAreWithin upto tallies → HoldAllBut whole tallies rest images pages
    → All (λ (w : Wanted). upto < w.lsn) rest → length images ≡ length tallies → k < length images → length (get_or pages k d).slots ≡ SLOTS → length (get_or tallies k t).lasts ≡ SLOTS
    → (get_or pages k d).slots ≡ slots_after whole (get_or tallies k t).lasts (get_or images k d).slots
finished_slots whole tallies rest images pages upto k t d lasts all behind count stored slots_are lasts_are =
    let tally = get_or tallies k t in
    let within : k < length tallies = omega (arith, count, stored) in
    let lt : k < length pages = omega (arith, all.count, stored) in
    let page_is : image_at pages k ≡ get_or pages k d = get_or_default pages k _ d lt in
    let image_is : image_at images k ≡ get_or images k d = get_or_default images k _ d stored in
    let same : length (get_or images k d).slots ≡ SLOTS = ap (λ (p : Page). length p.slots) (sym image_is) ∙ (sym (all.slots k stored) ∙ (ap (λ (p : Page). length p.slots) page_is ∙ slots_are)) in
    let after = slots_after whole tally.lasts (get_or images k d).slots in
    let long : length after ≡ SLOTS = slots_count whole tally.lasts (get_or images k d).slots (lasts_are ∙ sym same) ∙ same in
    ext_get_or None (get_or pages k d).slots after (slots_are ∙ sym long)
    (λ slot less.
    let small : slot < SLOTS = omega (arith, less, slots_are) in
    ap (λ (p : Page). get_or p.slots slot None) (sym page_is)
    ∙ (all.held k slot tally stored (slice_get-get_or tallies k t within) small (λ has. (let past = All-contains (λ (w : Wanted). upto < w.lsn) rest (in_slot k slot (get_or tally.lasts slot 0)) behind has in omega (arith, past, lasts k slot t within)))
    ∙ (ap (λ (p : Page). held_after whole (get_or tally.lasts slot 0) (get_or p.slots slot None)) image_is
    ∙ sym (slot_after whole tally.lasts (get_or images k d).slots slot (omega (arith, small, lasts_are)) (omega (arith, small, same))))))

-- each page, if the PageLSNs are set after all is fetched
pub finished_all : (whole : History) (tallies : List Tally) (rest : List Wanted) (images before after : List Page) (upto : ℕ) → AreNumbered images → StandAtNumbers tallies → LastsAreWithin upto tallies
    → HoldAllBut whole tallies rest images before → All (λ (w : Wanted). upto < w.lsn) rest → length images ≡ length tallies → ((k : ℕ) (t : Tally) → k < length tallies → length (get_or tallies k t).lasts ≡ SLOTS)
    → HaveLsns tallies (length tallies) before after → AreFinished whole tallies images after
finished_all whole tallies rest images before after upto numbered stand lasts all behind count wide have = record {
  count = have.same_count ∙ all.count;
  each = λ k t d stored.
      let lt : k < length tallies = omega (arith, count, stored) in
      let tally = get_or tallies k t in
      let old = get_or before k d in
      let number : old.number ≡ tally.number =
      ap (λ (p : Page). p.number) (get_or_default before k d _ (omega (arith, all.count, stored))) ∙ all.numbers k stored ∙ numbered.at_place k _ stored ∙ sym (stand k t lt) in
      have.each k t d lt
      ∙ ap (λ n. record { number = n; lsn = tally.lsn; slots = old.slots }) number
      ∙ ap (λ xs. record { number = tally.number; lsn = tally.lsn; slots = xs }) (finished_slots whole tallies rest images before upto k t d lasts all behind count stored (have.slots k d lt) (wide k t lt));
}

-- SETTING PAGELSNS
pub one_set : (tallies : List Tally) (n : ℕ) (own : Tally) (before after : List Page) (d : Page) → n < length tallies → length before ≡ length tallies
    → ((e : Page) → length (get_or after n e).slots ≡ SLOTS) → HaveLsns tallies n before after → HaveLsns tallies (n + 1) before (set after n (page_lsn (get_or tallies n own).lsn (get_or after n d)))
one_set tallies n own before after d lt count wide have =
    let new = page_lsn (get_or tallies n own).lsn (get_or after n d) in
    let in_after : n < length after = omega (arith, lt, count, have.same_count) in
    record {
      same_count = length-set after n new ∙ have.same_count;
      each = λ k t page le. elim (cases_eq k n) [
        | inl e ↦
            ap (λ i. get_or (set after n new) i page) e ∙ get_or-set_same after n new page in_after
            ∙ ap (page_lsn (get_or tallies n own).lsn) (get_or_default after n d page in_after ∙ have.others n page (omega arith))
            ∙ ap (λ l. page_lsn l (get_or before n page)) (ap (λ (x : Tally). x.lsn) (get_or_default tallies n own t lt))
            ∙ ap (λ i. page_lsn (get_or tallies i t).lsn (get_or before i page)) (sym e)
        | inr ne ↦ get_or-set_other after n k new page ne ∙ have.each k t page (omega (arith, le, ne))
      ];
      others = λ k page le. get_or-set_other after n k new page (λ e. absurd (omega (arith, le, e))) ∙ have.others k page (omega (arith, le));
      slots = λ k page le. elim (cases_eq k n) [
        | inl e ↦ subst (λ i. length (get_or before i page).slots ≡ SLOTS) (sym e) (ap (λ (p : Page). length p.slots) (sym (have.others n page (omega arith))) ∙ wide page)
        | inr ne ↦ have.slots k page (omega (arith, le, ne))
      ];
    }
