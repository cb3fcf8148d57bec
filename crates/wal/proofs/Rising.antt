-- A loop that checks whether numbers ascend, and the tables of a record.
use Rattle.std.proofs.Common.{◌≡◌, ℕ, ◌+◌, ◌<◌, ◌≤◌, List, [], ◌∷◌, length, get_or, take, drop, map, refl, sym, ap, subst, suc, drop-cons, ◌∙◌, arith}
use Rattle.std.specs.Prelude.{All, ◌↔◌}
use Rattle.std.proofs.lemmas.List.{take_more, drop_all, take_all, get_or-map, length-map}
use Rattle.std.proofs.lemmas.List.Elements.{All-push}
use Rattle.std.specs.List.{AllByRecursion}
use Rattle.std.proofs.lemmas.List.Elements.{All-from_recursion, recursion_from_All}
use Rattle.wal.specs.declared.record.Entry.{Entry}
use Rattle.log_laws.specs.Records.{tx_in, page_in}
use Rattle.wal.specs.Content.{entry_of}
use Rattle.wal.specs.Spelling.{FitsEntry, FitsDirty, FitsTable}
use Rattle.log_laws.specs.Checkpoint.{IsRising}
use Rattle.log_laws.proofs.Rising.{RisesFrom, rises_rising, rising_from_0}
use Rattle.page.specs.declared.profile.TheConstants.{PAGES, TRANSACTIONS}

-- ---- the loop

module _ {X : Type 0} (number : X → ℕ) (P : X → Type 0) (xs : List X) where
  -- each item is right, and their numbers ascend
  abbrev pub AreRight : Type 0
  AreRight = All P xs × IsRising (map number xs)

  -- this many were looked at, and the next number must be at least `low`
  pub record Looked (i low : ℕ) : Type 0 where
    pub each : All P (take i xs)
    pub rising : RisesFrom 0 (map number xs) ↔ RisesFrom low (drop i (map number xs))

  next : (i : ℕ) (d : X) → i < length xs → drop i (map number xs) ≡ number (get_or xs i d) ∷ drop (i + 1) (map number xs)
  next i d lt =
      let more : i + 1 ≡ suc i = omega arith in
      drop-cons (map number xs) i 0 (omega (arith, lt, length-map xs number))
      ∙ ap (λ (n : ℕ). n ∷ drop (suc i) (map number xs)) (get_or-map number xs i d 0 lt)
      ∙ ap (λ k. number (get_or xs i d) ∷ drop k (map number xs)) (sym more)

  pub more : (i low : ℕ) (d : X) → i < length xs → low ≤ number (get_or xs i d) → P (get_or xs i d) → Looked i low → Looked (i + 1) (number (get_or xs i d) + 1)
  more i low d lt rises right looked =
      let here = next i d lt in
      record {
        each = subst (All P) (sym (take_more xs i d lt)) (All-push P (take i xs) (get_or xs i d) looked.each right);
        rising = (λ h. (subst (RisesFrom low) here (looked.rising.0 h)).1, λ h. looked.rising.1 (subst (RisesFrom low) (sym here) (rises, h)));
      }

  pub falls : (i low : ℕ) (d : X) → i < length xs → number (get_or xs i d) < low → Looked i low → AreRight → ⊥
  falls i low d lt less looked right =
      let rises = subst (RisesFrom low) (next i d lt) (looked.rising.0 (rising_from_0 (map number xs) right.1)) in
      absurd (omega (arith, rises.0, less))

  pub done : (i low : ℕ) → length xs ≤ i → Looked i low → AreRight
  done i low le looked =
      let nothing : drop i (map number xs) ≡ [] = drop_all i (map number xs) (omega (arith, le, length-map xs number)) in
      (subst (All P) (take_all i xs le) looked.each, rises_rising 0 (map number xs) (looked.rising.1 (subst (RisesFrom low) (sym nothing) tt)))

-- ---- the tables of a record

-- at most this number of entries, each right and in ascending order
abbrev pub IsTable : {X : Type 0} → ℕ → (X → ℕ) → (X → Type 0) → List X → Type 0
IsTable most number P xs = (length xs ≤ most) × (All P xs × IsRising (map number xs))

numbers_of : (xs : List (ℕ × Entry)) → map tx_in (map entry_of xs) ≡ map (λ x. x.0) xs
numbers_of [] = refl
numbers_of (x ∷ xs) = ap (λ (ns : List ℕ). x.0 ∷ ns) (numbers_of xs)

each_out : (xs : List (ℕ × Entry)) → AllByRecursion FitsEntry (map entry_of xs) → AllByRecursion (λ x. FitsEntry (entry_of x)) xs
each_out [] h = tt
each_out (x ∷ xs) h = (h.0, each_out xs h.1)

each_in : (xs : List (ℕ × Entry)) → AllByRecursion (λ x. FitsEntry (entry_of x)) xs → AllByRecursion FitsEntry (map entry_of xs)
each_in [] h = tt
each_in (x ∷ xs) h = (h.0, each_in xs h.1)

pub entries_fit : (xs : List (ℕ × Entry)) → FitsTable TRANSACTIONS tx_in FitsEntry (map entry_of xs) ↔ IsTable TRANSACTIONS (λ x. x.0) (λ x. FitsEntry (entry_of x)) xs
entries_fit xs = (
  λ fits. (omega (arith, fits.few, length-map xs entry_of), (All-from_recursion (λ x. FitsEntry (entry_of x)) xs (each_out xs fits.each), subst IsRising (numbers_of xs) fits.rising)),
  λ right. record { few = omega (arith, right.0, length-map xs entry_of); each = each_in xs (recursion_from_All (λ x. FitsEntry (entry_of x)) xs right.1.0); rising = subst IsRising (sym (numbers_of xs)) right.1.1 },
)

pub dirty_pages_fit : (xs : List (ℕ × ℕ)) → FitsTable PAGES page_in FitsDirty xs ↔ IsTable PAGES (λ x. x.0) FitsDirty xs
dirty_pages_fit xs = (
  λ fits. (fits.few, (All-from_recursion FitsDirty xs fits.each, fits.rising)),
  λ right. record { few = right.0; each = recursion_from_All FitsDirty xs right.1.0; rising = right.1.1 },
)
