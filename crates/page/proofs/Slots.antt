-- The cells and the directory of the first slots, one slot on.
use Rattle.std.proofs.Common.{◌≡◌, ℕ, ◌+◌, ◌*◌, ◌<◌, ◌≤◌, List, [], ◌∷◌, ◌++◌, length, get_or, take, Some, None, All, refl, sym, ap, ◌∙◌, append_assoc, arith, add-zero}
use Rattle.std.proofs.lemmas.List.{append-nil, length-append, take_more}
use Rattle.std.proofs.lemmas.List.Elements.{All-head, All-tail}
use Rattle.page.specs.Image.{Image, cell, cells, entry, directory, FitsSlot}
use Rattle.page.specs.declared.profile.TheConstants.{VALUE_BYTES}

pub cells-append : (xs ys : List Image) → cells (xs ++ ys) ≡ cells xs ++ cells ys
cells-append [] ys = refl
cells-append (x ∷ xs) ys = ap (λ (t : List ℕ). cell x ++ t) (cells-append xs ys) ∙ sym (append_assoc (cell x) (cells xs) (cells ys))

pub directory-append : (place : ℕ) (xs ys : List Image) → directory place (xs ++ ys) ≡ directory place xs ++ directory (place + length (cells xs)) ys
directory-append place [] ys = rw add-zero refl
directory-append place (x ∷ xs) ys =
    let e : (place + length (cell x)) + length (cells xs) ≡ place + length (cell x ++ cells xs) = omega (arith, length-append (cell x) (cells xs)) in
    ap (λ (t : List ℕ). entry place x ++ t) (directory-append (place + length (cell x)) xs ys ∙ ap (λ p. directory (place + length (cell x)) xs ++ directory p ys) e) ∙ sym (append_assoc (entry place x) (directory (place + length (cell x)) xs) (directory (place + length (cell x ++ cells xs)) ys))

pub cells_more : (slots : List Image) (i : ℕ) (d : Image) → i < length slots → cells (take (i + 1) slots) ≡ cells (take i slots) ++ cell (get_or slots i d)
cells_more slots i d lt = ap cells (take_more slots i d lt) ∙ cells-append (take i slots) (get_or slots i d ∷ []) ∙ ap (λ (t : List ℕ). cells (take i slots) ++ t) (append-nil (cell (get_or slots i d)))

pub directory_more : (place : ℕ) (slots : List Image) (i : ℕ) (d : Image) → i < length slots
    → directory place (take (i + 1) slots) ≡ directory place (take i slots) ++ entry (place + length (cells (take i slots))) (get_or slots i d)
directory_more place slots i d lt = ap (directory place) (take_more slots i d lt) ∙ directory-append place (take i slots) (get_or slots i d ∷ []) ∙ ap (λ (t : List ℕ). directory place (take i slots) ++ t) (append-nil (entry (place + length (cells (take i slots))) (get_or slots i d)))

pub length-entry : (place : ℕ) (slot : Image) → length (entry place slot) ≡ 4
length-entry place None = refl
length-entry place (Some value) = refl

pub length-directory : (place : ℕ) (slots : List Image) → length (directory place slots) ≡ 4 * length slots
length-directory place [] = refl
length-directory place (x ∷ xs) = omega (arith, length-append (entry place x) (directory (place + length (cell x)) xs), length-entry place x, length-directory (place + length (cell x)) xs)

pub short_cell : (slot : Image) → FitsSlot slot → length (cell slot) ≤ VALUE_BYTES
short_cell None h = omega arith
short_cell (Some value) h = h

pub length-cells-le : (slots : List Image) → All FitsSlot slots → length (cells slots) ≤ VALUE_BYTES * length slots
length-cells-le [] h = omega arith
length-cells-le (x ∷ xs) h = omega (arith, length-append (cell x) (cells xs), short_cell x (All-head FitsSlot x xs h), length-cells-le xs (All-tail FitsSlot x xs h))
