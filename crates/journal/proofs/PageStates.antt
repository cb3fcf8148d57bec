-- What is kept of the pages, after one more step.
use Rattle.std.proofs.Common.{◌≡◌, ◌≢◌, ◌<◌, ◌≤◌, ◌+◌, ◌&&◌, ◌⊎◌, ℕ, suc, true, false, cond, List, length, get_or, set, Option, Some, None, refl, sym, ap, ap₂, subst, ◌∙◌, inl, inr, arith, eqb, eq-eqb, ne_eqb, eqb-true, max}
use Rattle.page.specs.declared.profile.TheConstants.{SLOTS}
use Rattle.std.specs.Prelude.{is_some}
use Rattle.std.proofs.lemmas.Bool.{cases_Bool, cases_eq, cases_lt, and_right, false_from_ne_true, both_ways, eqb-false}
use Rattle.std.proofs.lemmas.List.{get_or-set_same, get_or-set_other, length-set, ext_get_or}
use Rattle.std.proofs.lemmas.List.FromFn.{length-map-range_with_len}
use Rattle.page.specs.Image.{Image}
use Rattle.page.specs.declared.page.Page.{Page}
use Rattle.log_laws.specs.Records.{LogRecord, History, ◌▸◌, last_lsn, base_lsn, record_at}
use Rattle.log_laws.specs.Meaning.{BasePages, BaseLaw, Cells, owner, replay, writes, is_on, image_of, last_on}
use Rattle.log_laws.specs.Redo.{slots_in}
use Rattle.log_laws.specs.Checkpoint.{DirtyLaw}
use Rattle.log_laws.specs.Theorems.{replayed_page}
use Rattle.log_laws.proofs.Histories.{record_within, base_within}
use Rattle.log_laws.proofs.Pages.{writes_on, same_slots, slot_held, last_on_highest, last_on_within}
use Rattle.journal.specs.PageStates.{PageState}
use Rattle.journal.specs.Runs.{Run, appended, reported, log_of, on_disk}
use Rattle.journal.specs.PageStates.{IsPageState, ArePageStates, changed, rec_lsn_after, written}

-- a record by which the transaction tx puts an image into a cell
pub record Puts (r : LogRecord) (tx page slot : ℕ) (image : Image) : Type 0 where
  pub owner_is : owner r ≡ Some tx
  pub writes_is : (p s : ℕ) → writes p s r ≡ (eqb page p && eqb slot s)
  pub on_is : (p : ℕ) → is_on p r ≡ eqb page p
  pub image_is : image_of r ≡ image

-- IMAGES
slots_set : (f g : Cells) (page slot : ℕ) (image : Image) → slot < SLOTS → ((s : ℕ) → s ≢ slot → g page s ≡ f page s) → g page slot ≡ image → set (slots_in f page) slot image ≡ slots_in g page
slots_set f g page slot image lt others here =
    ext_get_or None (set (slots_in f page) slot image) (slots_in g page)
    (length-set (slots_in f page) slot image ∙ size f ∙ sym (size g)) at
  where
    size : (h : Cells) → length (slots_in h page) ≡ SLOTS
    size h = length-map-range_with_len (λ s. h page s) 0 SLOTS

    at : (i : ℕ) → i < length (set (slots_in f page) slot image) → get_or (set (slots_in f page) slot image) i None ≡ get_or (slots_in g page) i None
    at i l =
        let room : slot < length (slots_in f page) = omega (arith, lt, size f) in
        let within : i < SLOTS = omega (arith, l, length-set (slots_in f page) slot image, size f) in
        elim (cases_eq i slot) [
          | inl e ↦
              ap (λ k. get_or (set (slots_in f page) slot image) k None) e ∙ get_or-set_same (slots_in f page) slot image None room ∙ sym here ∙ ap (g page) (sym e) ∙ sym (slot_held g page i within)
          | inr d ↦ get_or-set_other (slots_in f page) slot i image None d ∙ slot_held f page i within ∙ sym (others i d) ∙ sym (slot_held g page i within)
        ]

module _ (base : BasePages) (log : History) (r : LogRecord) where
  -- of the page that it changes
  pub image_changed : (tx page slot : ℕ) (image : Image) → Puts r tx page slot image → slot < SLOTS
      → record { number = page; lsn = suc (last_lsn log); slots = set (slots_in (replay base log) page) slot image } ≡ replayed_page base (log ▸ r) page
  image_changed tx page slot image p lt =
      let here : is_on page r ≡ true = p.on_is page ∙ eq-eqb page page refl in
      let lsn : suc (last_lsn log) ≡ last_on base page (log ▸ r) = rw here refl in
      let own : eqb page page ≡ true = eq-eqb page page refl in
      let slots : set (slots_in (replay base log) page) slot image ≡ slots_in (replay base (log ▸ r)) page =
      slots_set (replay base log) (replay base (log ▸ r)) page slot image lt
      (λ s d. let w : writes page s r ≡ false = p.writes_is page s ∙ and_right (eqb page page) (eqb slot s) (ne_eqb slot s (λ e. d (sym e))) in rw w refl)
      (let w : writes page slot r ≡ true = p.writes_is page slot ∙ ap₂ (λ a b. a && b) own (eq-eqb slot slot refl) in rw w p.image_is) in
      ap₂ (λ n xs. record { number = page; lsn = n; slots = xs }) lsn slots

  -- of another page
  off_page : (page slot : ℕ) → is_on page r ≡ false → writes page slot r ≡ false
  off_page page slot off = false_from_ne_true (writes page slot r) (λ w. both_ways (is_on page r) off (writes_on page slot r w))

  pub image_same : (page : ℕ) → is_on page r ≡ false → replayed_page base log page ≡ replayed_page base (log ▸ r) page
  image_same page off =
      let lsn : last_on base page log ≡ last_on base page (log ▸ r) = rw off refl in
      let slots : slots_in (replay base log) page ≡ slots_in (replay base (log ▸ r)) page =
      same_slots (replay base log) (replay base (log ▸ r)) page (λ slot lt. let w = off_page page slot off in rw w refl) in
      ap₂ (λ n xs. record { number = page; lsn = n; slots = xs }) lsn slots

-- DIRTY PAGES
-- a record at an LSN is the last one, or an older one
last_or_older : (log : History) (r x : LogRecord) (n : ℕ) → record_at (log ▸ r) n ≡ Some x → ((n ≡ suc (last_lsn log)) × (r ≡ x)) ⊎ ((n ≤ last_lsn log) × (record_at log n ≡ Some x))
last_or_older log r x n f =
    elim (cases_Bool (eqb n (suc (last_lsn log)))) [
      | inl e ↦ (let g : Some r ≡ Some x = rw e at f in inl (eqb-true n (suc (last_lsn log)) e, cc))
      | inr e ↦ (let g : record_at log n ≡ Some x = rw e at f in inr (record_within log n x g, g))
    ]

dirty_other : (log : History) (r : LogRecord) (page known : ℕ) (listed : Option ℕ) → is_on page r ≡ false → DirtyLaw log (last_lsn log) page known listed → DirtyLaw (log ▸ r) (suc (last_lsn log)) page known listed
dirty_other log r page known listed off d =
    record {
      range = λ rec_lsn e. ((d.range rec_lsn e).0, omega (arith, (d.range rec_lsn e).1));
      covers = λ n x up f on.
          elim (last_or_older log r x n f) [
            | inl new ↦ absurd (both_ways (is_on page r) off (ap (is_on page) new.1 ∙ on))
            | inr old ↦ d.covers n x old.0 old.1 on
          ];
    }

dirty_own : (log : History) (r : LogRecord) (page known : ℕ) (listed : Option ℕ) → DirtyLaw log (last_lsn log) page known listed
    → DirtyLaw (log ▸ r) (suc (last_lsn log)) page known (cond (is_some listed) listed (Some (suc (last_lsn log))))
dirty_own log r page known None d =
    record {
      range = λ rec_lsn e. (let same : suc (last_lsn log) ≡ rec_lsn = cc in (omega (arith, same, base_within log), omega (arith, same)));
      covers = λ n x up f on.
          elim (last_or_older log r x n f) [
            | inl new ↦ inr (suc (last_lsn log), refl, omega (arith, new.0))
            | inr old ↦ elim (d.covers n x old.0 old.1 on) [ inl o ↦ inl o | inr o ↦ absurd (let e : None ≡ Some o.0 = o.1 in cc) ]
          ];
    }
dirty_own log r page known (Some rec) d =
    record {
      range = λ rec_lsn e. ((d.range rec_lsn e).0, omega (arith, (d.range rec_lsn e).1));
      covers = λ n x up f on.
          elim (last_or_older log r x n f) [
            | inl new ↦ inr (rec, refl, omega (arith, new.0, (d.range rec refl).1))
            | inr old ↦ d.covers n x old.0 old.1 on
          ];
    }

-- THE PAGES
module _ (base : BasePages) (run : Run) (r : LogRecord) where
  -- a page that the record is not on
  pub held_other : (number : ℕ) (p : PageState) → is_on number r ≡ false → IsPageState base run number p → IsPageState base (appended run r) number p
  held_other number p off h =
      record {
        image = h.image ∙ image_same base (log_of run) r number off;
        size = h.size;
        writers = λ slot lt. (let w = off_page base (log_of run) r number slot off in h.writers slot lt ∙ rw w refl);
        dirty = dirty_other (log_of run) r number (on_disk base run number) p.rec_lsn off h.dirty;
      }

  -- the page that it changes
  pub held_own : (tx page slot : ℕ) (image : Image) (p : PageState) (lsn : ℕ) → Puts r tx page slot image → slot < SLOTS → last_lsn (log_of run) + 1 ≡ lsn → IsPageState base run page p → IsPageState base (appended run r) page (changed p tx slot image lsn)
  held_own tx page slot image p lsn puts lt at h =
      let n : lsn ≡ suc (last_lsn (log_of run)) = omega (arith, at) in
      let number : p.page.number ≡ page = ap (λ (q : Page). q.number) h.image in
      let slots : p.page.slots ≡ slots_in (replay base (log_of run)) page = ap (λ (q : Page). q.slots) h.image in
      let room : slot < length p.writers = omega (arith, h.size, lt) in
      let own : eqb page page ≡ true = eq-eqb page page refl in
      record {
        image =
            ap (λ k. record { number = k; lsn = lsn; slots = set p.page.slots slot image }) number
            ∙ ap₂ (λ k (xs : List Image). record { number = page; lsn = k; slots = set xs slot image }) n slots
            ∙ image_changed base (log_of run) r tx page slot image puts lt;
        size = length-set p.writers slot (Some tx) ∙ h.size;
        writers = λ s lt'.
            elim (cases_eq s slot) [
              | inl e ↦
                  (let w : writes page s r ≡ true = puts.writes_is page s ∙ ap₂ (λ a b. a && b) own (eq-eqb slot s (sym e)) in
                  ap (λ k. get_or (set p.writers slot (Some tx)) k None) e ∙ get_or-set_same p.writers slot (Some tx) None room ∙ sym puts.owner_is ∙ rw w refl)
              | inr d ↦
                  (let w : writes page s r ≡ false = puts.writes_is page s ∙ and_right (eqb page page) (eqb slot s) (ne_eqb slot s (λ e. d (sym e))) in
                  get_or-set_other p.writers slot s (Some tx) None d ∙ h.writers s lt' ∙ rw w refl)
            ];
        dirty = subst (λ k. DirtyLaw (log_of run ▸ r) (suc (last_lsn (log_of run))) page (on_disk base run page) (cond (is_some p.rec_lsn) p.rec_lsn (Some k))) (sym n)
            (dirty_own (log_of run) r page (on_disk base run page) p.rec_lsn h.dirty);
      }

  -- all of them, after a record that changes no page
  pub pages_same : (ps : List PageState) → ((number : ℕ) → is_on number r ≡ false) → ArePageStates base run ps → ArePageStates base (appended run r) ps
  pages_same ps off h = record { count = h.count; each = λ number d lt. held_other number (get_or ps number d) (off number) (h.each number d lt) }

  -- and after one that changes a page
  pub pages_changed : (tx page slot : ℕ) (image : Image) (ps : List PageState) (held : PageState) (lsn : ℕ) → Puts r tx page slot image → slot < SLOTS → last_lsn (log_of run) + 1 ≡ lsn → page < length ps → held ≡ get_or ps page held
      → ArePageStates base run ps → ArePageStates base (appended run r) (set ps page (changed held tx slot image lsn))
  pages_changed tx page slot image ps held lsn puts lt at room is h =
      record {
        count = length-set ps page (changed held tx slot image lsn) ∙ h.count;
        each = λ number d l.
            (let within : number < length ps = omega (arith, l, length-set ps page (changed held tx slot image lsn)) in
            elim (cases_eq number page) [
              | inl e ↦
                  (let there : get_or (set ps page (changed held tx slot image lsn)) number d ≡ changed held tx slot image lsn = ap (λ k. get_or (set ps page (changed held tx slot image lsn)) k d) e ∙ get_or-set_same ps page (changed held tx slot image lsn) d room in
                  let own : IsPageState base run page held = subst (IsPageState base run page) (sym is) (h.each page held room) in
                  subst (IsPageState base (appended run r) number) (sym there)
                  (subst (λ k. IsPageState base (appended run r) k (changed held tx slot image lsn)) (sym e) (held_own tx page slot image held lsn puts lt at own)))
              | inr n ↦
                  (let off : is_on number r ≡ false = puts.on_is number ∙ ne_eqb page number (λ e. n (sym e)) in
                  subst (IsPageState base (appended run r) number) (sym (get_or-set_other ps page number (changed held tx slot image lsn) d n)) (held_other number (get_or ps number d) off (h.each number d within)))
            ]);
      }

-- REPORTS ABOUT THE DISK
dirty_told : (log : History) (page known page_lsn lsn : ℕ) (listed : Option ℕ) → base_lsn log ≤ last_lsn log → page_lsn ≤ last_lsn log → lsn ≤ page_lsn
    → ((n : ℕ) (r : LogRecord) → record_at log n ≡ Some r → is_on page r ≡ true → n ≤ page_lsn)
    → DirtyLaw log (last_lsn log) page known listed → DirtyLaw log (last_lsn log) page (max lsn known) (rec_lsn_after listed page_lsn lsn)
dirty_told log page known page_lsn lsn None from within le highest d =
    record {
      range = λ rec_lsn e. absurd (cc);
      covers = λ n x up f on.
          elim (d.covers n x up f on) [ inl o ↦ inl (omega (arith, o)) | inr o ↦ absurd (let e : None ≡ Some o.0 = o.1 in cc) ];
    }
dirty_told log page known page_lsn lsn (Some rec) from within le highest d =
    elim (cases_Bool (eqb lsn page_lsn)) [
      | inl e ↦
          (let same : lsn ≡ page_lsn = eqb-true lsn page_lsn e in
          rw e
          (record {
            range = λ rec_lsn i. absurd (cc);
            covers = λ n x up f on. inl (omega (arith, same, highest n x f on));
          }))
      | inr e ↦
          (let other : lsn ≡ page_lsn → ⊥ = eqb-false lsn page_lsn e in
          let low : lsn < page_lsn = elim (cases_lt lsn page_lsn) [ inl l ↦ l | inr l ↦ absurd (other (omega (arith, l, le))) ] in
          let old = d.range rec refl in
          rw e
          (record {
            range = λ rec_lsn i. (let same : max rec (lsn + 1) ≡ rec_lsn = cc in (omega (arith, same, old.0), omega (arith, same, old.1, low, within)));
            covers = λ n x up f on.
                elim (d.covers n x up f on) [
                  | inl o ↦ inl (omega (arith, o))
                  | inr o ↦
                      (let same : rec ≡ o.0 = (let i : Some rec ≡ Some o.0 = o.1 in cc) in
                      elim (cases_lt lsn n) [
                        | inl above ↦ inr (max rec (lsn + 1), refl, omega (arith, same, o.2, above))
                        | inr below ↦ inl (omega (arith, below))
                      ])
                ];
          }))
    ]

module _ (base : BasePages) (run : Run) (page lsn : ℕ) where
  told_other : (number : ℕ) (p : PageState) → eqb page number ≡ false → IsPageState base run number p → IsPageState base (reported run page lsn) number p
  told_other number p off h =
      record {
        image = h.image;
        size = h.size;
        writers = h.writers;
        dirty = rw off h.dirty;
      }

  told_own : (p : PageState) → BaseLaw base (log_of run) → lsn ≤ p.page.lsn → IsPageState base run page p → IsPageState base (reported run page lsn) page (written p lsn)
  told_own p based le h =
      let own : eqb page page ≡ true = eq-eqb page page refl in
      let lsn_is : p.page.lsn ≡ last_on base page (log_of run) = ap (λ (q : Page). q.lsn) h.image in
      record {
        image = h.image;
        size = h.size;
        writers = h.writers;
        dirty = rw own
            (dirty_told (log_of run) page (on_disk base run page) p.page.lsn lsn p.rec_lsn (base_within (log_of run)) (omega (arith, lsn_is, last_on_within base page (log_of run) based)) le
            (λ n r f on. omega (arith, lsn_is, last_on_highest base page (log_of run) n r f on)) h.dirty);
      }

  pub pages_told : (ps : List PageState) (held : PageState) → BaseLaw base (log_of run) → page < length ps → held ≡ get_or ps page held → lsn ≤ held.page.lsn → ArePageStates base run ps
      → ArePageStates base (reported run page lsn) (set ps page (written held lsn))
  pages_told ps held based room is le h =
      record {
        count = length-set ps page (written held lsn) ∙ h.count;
        each = λ number d l.
            (let within : number < length ps = omega (arith, l, length-set ps page (written held lsn)) in
            elim (cases_eq number page) [
              | inl e ↦
                  (let there : get_or (set ps page (written held lsn)) number d ≡ written held lsn = ap (λ k. get_or (set ps page (written held lsn)) k d) e ∙ get_or-set_same ps page (written held lsn) d room in
                  let own : IsPageState base run page held = subst (IsPageState base run page) (sym is) (h.each page held room) in
                  subst (IsPageState base (reported run page lsn) number) (sym there)
                  (subst (λ k. IsPageState base (reported run page lsn) k (written held lsn)) (sym e) (told_own held based le own)))
              | inr n ↦
                  (let off : eqb page number ≡ false = ne_eqb page number (λ e. n (sym e)) in
                  subst (IsPageState base (reported run page lsn) number) (sym (get_or-set_other ps page number (written held lsn) d n)) (told_other number (get_or ps number d) off (h.each number d within)))
            ]);
      }
