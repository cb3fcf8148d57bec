-- A page in the array, after a change of it.
use Rattle.std.proofs.Common.{◌≡◌, ◌<◌, ℕ, false, cond, List, length, get_or, set, map, Option, Some, None, refl, ap, ap₂, ◌∙◌, inl, inr, arith, eqb, ne_eqb}
use Rattle.std.specs.Prelude.{is_some}
use Rattle.std.proofs.lemmas.Bool.{cases_Bool}
use Rattle.std.proofs.lemmas.List.{map-set, get_or-map}
use Rattle.page.specs.Image.{Image as Content}
use Rattle.journal.specs.declared.image.Image.{Image}
use Rattle.journal.specs.declared.entries.PageEntry.{PageEntry}
use Rattle.journal.specs.PageStates.{PageState, changed, noted_change}
use Rattle.journal.specs.Arrays.{image_of, page_of, unless_0, page_state_of}

pub unless_some : (n : ℕ) → 0 < n → unless_0 n ≡ Some n
unless_some n lt = (let e : eqb n 0 ≡ false = ne_eqb n 0 (λ z. omega (arith, z, lt)) in rw e refl)

rec_changed : (rec lsn : ℕ) → 0 < lsn → unless_0 (cond (eqb rec 0) lsn rec) ≡ cond (is_some (unless_0 rec)) (unless_0 rec) (Some lsn)
rec_changed rec lsn lt =
    elim (cases_Bool (eqb rec 0)) [
      | inl z ↦ rw z (unless_some lsn lt)
      | inr n ↦ (rw n (rw n refl))
    ]

module _ (p : PageEntry) (tx slot lsn : ℕ) (m : Image) (some : 0 < tx) (at : 0 < lsn) where
  pub entry_changed : (rec : ℕ) → rec ≡ cond (eqb p.rec_lsn 0) lsn p.rec_lsn
      → page_state_of (record { page = record { lsn = lsn; number = p.page.number; slots = set p.page.slots slot m }; rec_lsn = rec; writers = set p.writers slot tx }) ≡ changed (page_state_of p) tx slot (image_of m) lsn
  entry_changed rec is =
      let slots : map image_of (set p.page.slots slot m) ≡ set (map image_of p.page.slots) slot (image_of m) = map-set image_of p.page.slots slot m in
      let writers : map unless_0 (set p.writers slot tx) ≡ set (map unless_0 p.writers) slot (Some tx) = map-set unless_0 p.writers slot tx ∙ ap (λ o. set (map unless_0 p.writers) slot o) (unless_some tx some) in
      let recs : unless_0 rec ≡ cond (is_some (unless_0 p.rec_lsn)) (unless_0 p.rec_lsn) (Some lsn) = ap unless_0 is ∙ rec_changed p.rec_lsn lsn at in
      ap (λ (xs : List Content). record { page = record { number = p.page.number; lsn = lsn; slots = xs }; writers = map unless_0 (set p.writers slot tx); rec_lsn = unless_0 rec }) slots
      ∙ ap₂ (λ (ws : List (Option ℕ)) (r : Option ℕ). record { page = record { number = p.page.number; lsn = lsn; slots = set (map image_of p.page.slots) slot (image_of m) }; writers = ws; rec_lsn = r }) writers recs

pub entry_wrote : (p : PageEntry) (slot tx lsn : ℕ) → 0 < lsn → page_state_of (record { page = p.page; rec_lsn = lsn; writers = set p.writers slot tx }) ≡ noted_change (page_state_of p) slot (unless_0 tx) lsn
entry_wrote p slot tx lsn some = ap₂ (λ (ws : List (Option ℕ)) (r : Option ℕ). record { page = page_of p.page; writers = ws; rec_lsn = r }) (map-set unless_0 p.writers slot tx) (unless_some lsn some)

-- in the array
pub held_at : (ps : List PageEntry) (i : ℕ) (d : PageEntry) (e : PageState) → i < length ps → get_or (map page_state_of ps) i e ≡ page_state_of (get_or ps i d)
held_at ps i d e lt = get_or-map page_state_of ps i d e lt

pub slot_at : (p : PageEntry) (slot : ℕ) (m : Image) → slot < length p.page.slots → get_or (page_state_of p).page.slots slot None ≡ image_of (get_or p.page.slots slot m)
slot_at p slot m lt = get_or-map image_of p.page.slots slot m None lt

pub writer_at : (p : PageEntry) (slot : ℕ) (t : ℕ) → slot < length p.writers → get_or (page_state_of p).writers slot None ≡ unless_0 (get_or p.writers slot t)
writer_at p slot t lt = get_or-map unless_0 p.writers slot t None lt
