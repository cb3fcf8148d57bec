-- What the loops of the decoder keep.
use Rattle.std.proofs.Common.{◌≡◌, ℕ, ◌+◌, ◌*◌, ◌-◌, ◌<◌, ◌≤◌, List, [], ◌∷◌, ◌++◌, length, get_or, set, take, drop, replicate, Option, Some, None, All, sym, ap, ap₂, subst, ◌∙◌, arith, refl, append_assoc}
use Rattle.std.proofs.Math.Seq.{take-add}
use Rattle.std.specs.Prelude.{bit_or}
use Rattle.std.specs.Int.Bits.{or_zero_l}
use Rattle.std.proofs.lemmas.Nat.{le_or_l, le_or_r}
use Rattle.std.proofs.lemmas.List.{replicate_more, same_from_push, append-nil, length-append, length-drop, length-take, length-replicate, take_at, drop_at, take_all, take_more, take_more_set, take-append-drop, drop_more, length-set}
use Rattle.std.proofs.lemmas.Option.{same_Some}
use Rattle.std.proofs.lemmas.List.Elements.{All-push, All-get_or}
use Rattle.page.specs.Image.{Image, cell, cells, entry, directory, FitsSlot}
use Rattle.page.specs.Parts.{BeginsWithSlot, SpellsSlots}
use Rattle.page.proofs.Slots.{cells-append, directory-append, length-entry, length-directory, short_cell}
use Rattle.page.specs.declared.profile.TheConstants.{VALUE_BYTES, SLOTS}
use Rattle.page.specs.declared.sizes.TheConstants.{CELLS_AT, ROOM_BYTES, DIRECTORY_BYTES}

-- the first i slots are in front, their cells end here, and the bytes can encode no others
pub record ReadSoFar (entries bytes : List ℕ) (i end : ℕ) (slots : List Image) : Type 0 where
  pub count : length slots ≡ SLOTS
  pub here : end ≡ length (cells (take i slots))
  pub near : end ≤ VALUE_BYTES * i
  pub values : All FitsSlot (take i slots)
  pub directory : take (4 * i) entries ≡ directory CELLS_AT (take i slots)
  pub cells : take end bytes ≡ cells (take i slots)
  pub only : (others : List Image) → SpellsSlots entries bytes others → take i others ≡ take i slots

-- some first i slots are in front, whose cells end here
abbrev pub SomeReadSoFar : (entries bytes : List ℕ) → (i end : ℕ) → Type 0
SomeReadSoFar entries bytes i end = (slots : List Image) × ReadSoFar entries bytes i end slots

-- no slot was read yet
pub none_read : (entries bytes : List ℕ) → SomeReadSoFar entries bytes 0 0
none_read entries bytes = (
  replicate SLOTS None,
  record {
    count = length-replicate {A = Image} SLOTS None;
    here = refl;
    near = omega arith;
    values = λ k d lt.
        let none : ⊥ = omega (arith, lt) in
        absurd none;
    directory = refl;
    cells = refl;
    only = λ others s. refl;
  },
)

-- a list at one place
parts : (slots : List Image) (i : ℕ) (d : Image) → i < length slots → slots ≡ take i slots ++ get_or slots i d ∷ drop (i + 1) slots
parts slots i d lt = sym (take-append-drop i slots) ∙ ap (λ (t : List Image). take i slots ++ t) (drop_more slots i d lt)

-- bytes that encode slots have the entry and the cell of each slot at their places
pub slot_inside : (entries bytes : List ℕ) (slots : List Image) (i : ℕ) (d : Image) → SpellsSlots entries bytes slots → i < SLOTS
    → BeginsWithSlot (drop (4 * i) entries) (drop (length (cells (take i slots))) bytes) (CELLS_AT + length (cells (take i slots))) (get_or slots i d)
slot_inside entries bytes slots i d s lt =
    let front = take i slots in
    let slot = get_or slots i d in
    let rest = drop (i + 1) slots in
    let split : slots ≡ front ++ slot ∷ rest = parts slots i d (omega (arith, s.count)) in
    let place = CELLS_AT + length (cells front) in
    let later = directory (place + length (cell slot)) rest in
    let zeros : List ℕ = replicate (ROOM_BYTES - length (cells slots)) 0 in
    let text : entries ≡ directory CELLS_AT front ++ (entry place slot ++ later) = s.directory ∙ ap (directory CELLS_AT) split ∙ directory-append CELLS_AT front (slot ∷ rest) in
    let long : length (directory CELLS_AT front) ≡ 4 * i = omega (arith, length-directory CELLS_AT front, length-take i slots, s.count) in
    let at_entry : drop (4 * i) entries ≡ entry place slot ++ later = ap (drop (4 * i)) text ∙ drop_at (directory CELLS_AT front) (entry place slot ++ later) (4 * i) long in
    let whole : cells slots ++ zeros ≡ cells front ++ (cell slot ++ (cells rest ++ zeros)) =
    ap (λ (t : List ℕ). t ++ zeros) (ap cells split ∙ cells-append front (slot ∷ rest)) ∙ append_assoc (cells front) (cell slot ++ cells rest) zeros ∙ ap (λ (t : List ℕ). cells front ++ t) (append_assoc (cell slot) (cells rest) zeros) in
    let at_cell : drop (length (cells front)) bytes ≡ cell slot ++ (cells rest ++ zeros) =
    ap (drop (length (cells front))) (s.body ∙ whole) ∙ drop_at (cells front) (cell slot ++ (cells rest ++ zeros)) (length (cells front)) refl in
    record {
      fits = All-get_or FitsSlot slots i d (omega (arith, s.count)) s.values;
      entry = ap (take 4) at_entry ∙ take_at (entry place slot) later 4 (length-entry place slot);
      cell = ap (take (length (cell slot))) at_cell ∙ take_at (cell slot) (cells rest ++ zeros) (length (cell slot)) refl;
    }

-- bytes that encode other slots have at this place one that the reader takes too
pub slot_there : (entries bytes at_entry at_cell : List ℕ) (i end : ℕ) (slots others : List Image) (d : Image) → ReadSoFar entries bytes i end slots → SpellsSlots entries bytes others → i < SLOTS
    → at_entry ≡ drop (4 * i) entries → at_cell ≡ drop end bytes
    → BeginsWithSlot at_entry at_cell (CELLS_AT + end) (get_or others i d)
slot_there entries bytes at_entry at_cell i end slots others d so_far s lt e b =
    let here : length (cells (take i others)) ≡ end = ap (λ xs. length (cells xs)) (so_far.only others s) ∙ sym so_far.here in
    let inside = slot_inside entries bytes others i d s lt in
    let place : CELLS_AT + length (cells (take i others)) ≡ CELLS_AT + end = ap (λ n. CELLS_AT + n) here in
    let slot = get_or others i d in
    record {
      fits = inside.fits;
      entry = ap (take 4) e ∙ inside.entry ∙ ap (λ n. entry n slot) place;
      cell = ap (take (length (cell slot))) (b ∙ ap (λ n. drop n bytes) (sym here)) ∙ inside.cell;
    }

-- one more slot was read
pub read_more : (entries bytes at_entry at_cell : List ℕ) (i end later : ℕ) (slots : List Image) (slot : Image) → ReadSoFar entries bytes i end slots → i < SLOTS
    → at_entry ≡ drop (4 * i) entries → at_cell ≡ drop end bytes
    → BeginsWithSlot at_entry at_cell (CELLS_AT + end) slot
    → ((other : Image) → BeginsWithSlot at_entry at_cell (CELLS_AT + end) other → ◌≡◌ {A = Option Image} (Some slot) (Some other))
    → later ≡ end + length (cell slot)
    → ReadSoFar entries bytes (i + 1) later (set slots i slot)
read_more entries bytes at_entry at_cell i end later slots slot so_far lt ee eb found only after =
    let inside : i < length slots = omega (arith, so_far.count) in
    let more : take (i + 1) (set slots i slot) ≡ take i slots ++ slot ∷ [] = take_more_set slots i slot inside in
    let front = cells (take i slots) in
    let cells_more : cells (take (i + 1) (set slots i slot)) ≡ front ++ cell slot = ap cells more ∙ cells-append (take i slots) (slot ∷ []) ∙ ap (λ (t : List ℕ). front ++ t) (append-nil (cell slot)) in
    let directory_more : directory CELLS_AT (take (i + 1) (set slots i slot)) ≡ directory CELLS_AT (take i slots) ++ entry (CELLS_AT + end) slot =
    ap (directory CELLS_AT) more ∙ directory-append CELLS_AT (take i slots) (slot ∷ []) ∙ ap (λ (t : List ℕ). directory CELLS_AT (take i slots) ++ t) (append-nil (entry (CELLS_AT + length front) slot) ∙ ap (λ n. entry (CELLS_AT + n) slot) (sym so_far.here)) in
    let four : 4 * (i + 1) ≡ 4 * i + 4 = omega arith in
    record {
      count = length-set slots i slot ∙ so_far.count;
      here = omega (arith, after, so_far.here, ap length cells_more, length-append front (cell slot));
      near = omega (arith, after, so_far.near, short_cell slot found.fits);
      values = subst (All FitsSlot) (sym more) (All-push FitsSlot (take i slots) slot so_far.values found.fits);
      directory = ap (λ n. take n entries) four ∙ take-add (4 * i) 4 entries ∙ ap₂ (λ (x y : List ℕ). x ++ y) so_far.directory (ap (take 4) (sym ee) ∙ found.entry) ∙ sym directory_more;
      cells = ap (λ n. take n bytes) after ∙ take-add end (length (cell slot)) bytes ∙ ap₂ (λ (x y : List ℕ). x ++ y) so_far.cells (ap (take (length (cell slot))) (sym eb) ∙ found.cell) ∙ sym cells_more;
      only = λ others s.
          let there = slot_there entries bytes at_entry at_cell i end slots others slot so_far s lt ee eb in
          take_more others i slot (omega (arith, s.count)) ∙ ap₂ (λ (xs : List Image) x. xs ++ x ∷ []) (so_far.only others s) (sym (same_Some slot (get_or others i slot) (only (get_or others i slot) there))) ∙ sym more;
    }

-- all slots were read, and zeros are left
pub read_all : (entries bytes left : List ℕ) (i end : ℕ) (slots : List Image) → ReadSoFar entries bytes i end slots → i ≡ SLOTS → length entries ≡ DIRECTORY_BYTES → length bytes ≡ ROOM_BYTES
    → left ≡ drop end bytes → left ≡ replicate (length left) 0 → SpellsSlots entries bytes slots
read_all entries bytes left i end slots so_far e le lb el zeros =
    let all : take i slots ≡ slots = take_all i slots (omega (arith, so_far.count)) in
    let here : end ≡ length (cells slots) = so_far.here ∙ ap (λ xs. length (cells xs)) all in
    let room : length left ≡ ROOM_BYTES - length (cells slots) = omega (arith, ap length el, length-drop end bytes, here, lb) in
    let whole : take (4 * i) entries ≡ entries = take_all (4 * i) entries (omega (arith, le)) in
    record {
      count = so_far.count;
      values = subst (All FitsSlot) all so_far.values;
      directory = sym whole ∙ so_far.directory ∙ ap (directory CELLS_AT) all;
      body = sym (take-append-drop end bytes) ∙ ap₂ (λ (x y : List ℕ). x ++ y) (so_far.cells ∙ ap cells all) (sym el ∙ zeros ∙ ap (λ n. replicate n 0) room);
    }

-- bytes that encode slots encode these, and have zeros after the last cell
pub only_these : (entries bytes left : List ℕ) (i end : ℕ) (slots others : List Image) → ReadSoFar entries bytes i end slots → i ≡ SLOTS → left ≡ drop end bytes → SpellsSlots entries bytes others
    → (left ≡ replicate (length left) 0) × (slots ≡ others)
only_these entries bytes left i end slots others so_far e el s =
    let all : take i others ≡ others = take_all i others (omega (arith, s.count)) in
    let same : others ≡ slots = sym all ∙ so_far.only others s ∙ take_all i slots (omega (arith, so_far.count)) in
    let here : length (cells others) ≡ end = ap (λ xs. length (cells xs)) (sym all ∙ so_far.only others s) ∙ sym so_far.here in
    let n : ℕ = ROOM_BYTES - length (cells others) in
    let zeros : left ≡ replicate n 0 = el ∙ ap (drop end) s.body ∙ drop_at (cells others) (replicate n 0) end here in
    (zeros ∙ ap (λ m. replicate m 0) (sym (length-replicate n 0) ∙ ap length (sym zeros)), sym same)

-- the first i bytes are zero if and only if all of them together are
pub record ZeroSoFar (bytes : List ℕ) (i all : ℕ) : Type 0 where
  pub zero : all ≡ 0 → take i bytes ≡ replicate i 0
  pub only : take i bytes ≡ replicate i 0 → all ≡ 0

pub zero_more : (bytes : List ℕ) (i all : ℕ) → ZeroSoFar bytes i all → i < length bytes → ZeroSoFar bytes (i + 1) (bit_or all (get_or bytes i 0))
zero_more bytes i all so_far lt =
    let byte = get_or bytes i 0 in
    let more : take (i + 1) bytes ≡ take i bytes ++ byte ∷ [] = take_more bytes i 0 lt in
    let next : replicate {A = ℕ} i 0 ++ 0 ∷ [] ≡ replicate {A = ℕ} (i + 1) 0 = replicate_more i 0 in
    record {
      zero = λ e.
          let none : all ≡ 0 = omega (arith, e, le_or_l all byte) in
          let here : byte ≡ 0 = omega (arith, e, le_or_r all byte) in
          more ∙ ap₂ (λ (xs : List ℕ) x. xs ++ x ∷ []) (so_far.zero none) here ∙ next;
      only = λ e.
          let same = same_from_push (take i bytes) (replicate i 0) byte 0 (sym more ∙ e ∙ sym next) in
          ap₂ bit_or (so_far.only same.0) same.1 ∙ or_zero_l 0;
    }
