-- Entries that are kept aside.
use Rattle.std.proofs.Common.{◌≡◌, ℕ, zero, suc, replicate, ◌%◌, ◌+◌, ◌<◌, ◌≤◌, cond, eqb, List, [], ◌∷◌, ◌++◌, Option, Some, None, length, get_or, refl, sym, ap, ◌∙◌, inl, inr, arith, eq-eqb, ne_eqb}
use Rattle.std.proofs.lemmas.Bool.{cases_eq}
use Rattle.std.proofs.Math.Nat.{mod-lt}
use Rattle.log_laws.specs.Records.{TableEntry}
use Rattle.wal.specs.declared.record.Entry.{Entry}
use Rattle.wal.specs.Content.{entry_of}
use Rattle.analysis.specs.Tables.{entry_at}
use Rattle.analysis.specs.Steps.{those_kept, kept_entry, held_entry, AreKept, IsMoved, HasNoneAbove}
use Rattle.analysis.specs.declared.kept.TheConstants.{PLACES}

abbrev pub Slots : Type 0
Slots = List (Option (ℕ × Entry))

-- what is kept of another transaction does not count for this one
kept_other : (t : ℕ) (p : ℕ × Entry) (other : Option TableEntry) → (t ≡ p.0 → ⊥) → kept_entry t (Some p) other ≡ other
kept_other t p other ne = ap (λ b. cond b (Some (entry_of (t, p.1))) other) (ne_eqb p.0 t (λ e. ne (sym e)))

kept_own : (t : ℕ) (p : ℕ × Entry) (other : Option TableEntry) → p.0 ≡ t → kept_entry t (Some p) other ≡ Some (entry_of (t, p.1))
kept_own t p other e = ap (λ b. cond b (Some (entry_of (t, p.1))) other) (eq-eqb p.0 t e)

-- by what is kept at the place
pub held_by : (t : ℕ) (kept : Slots) (entries : List (ℕ × Entry)) (place : ℕ) (o : Option (ℕ × Entry)) → t % PLACES ≡ place → get_or kept place None ≡ o → held_entry t kept entries ≡ kept_entry t o (entry_at t entries)
held_by t kept entries place o at is = ap (λ x. kept_entry t x (entry_at t entries)) (ap (λ i. get_or kept i None) at ∙ is)

pub held_none : (t : ℕ) (kept : Slots) (entries : List (ℕ × Entry)) (place : ℕ) → t % PLACES ≡ place → get_or kept place None ≡ None → held_entry t kept entries ≡ entry_at t entries
held_none t kept entries place at is = held_by t kept entries place None at is

pub held_other : (t : ℕ) (kept : Slots) (entries : List (ℕ × Entry)) (place : ℕ) (p : ℕ × Entry) → t % PLACES ≡ place → get_or kept place None ≡ Some p → (t ≡ p.0 → ⊥) → held_entry t kept entries ≡ entry_at t entries
held_other t kept entries place p at is ne = held_by t kept entries place (Some p) at is ∙ kept_other t p (entry_at t entries) ne

pub held_own : (t : ℕ) (kept : Slots) (entries : List (ℕ × Entry)) (place : ℕ) (p : ℕ × Entry) → t % PLACES ≡ place → get_or kept place None ≡ Some p → p.0 ≡ t → held_entry t kept entries ≡ Some (entry_of (t, p.1))
held_own t kept entries place p at is own = held_by t kept entries place (Some p) at is ∙ kept_own t p (entry_at t entries) own

-- nothing is kept at first
empty_at : (n k : ℕ) → get_or (replicate {A = Option (ℕ × Entry)} n None) k None ≡ None
empty_at zero k = refl
empty_at (suc n) zero = refl
empty_at (suc n) (suc k) = empty_at n k

pub none_kept : AreKept (replicate PLACES None)
none_kept place p is = absurd (none (sym (empty_at PLACES place) ∙ is))
  where
    none : {X : Type 0} {x : X} → None ≡ Some x → ⊥
    none e = cc

-- THE LIST of the entries that are kept, and those of the table
-- kept from a place on
abbrev AreKeptFrom : ℕ → Slots → Type 0
AreKeptFrom from kept = (i : ℕ) (p : ℕ × Entry) → get_or kept i None ≡ Some p → p.0 % PLACES ≡ from + i

kept_later : (from : ℕ) (o : Option (ℕ × Entry)) (kept : Slots) → AreKeptFrom from (o ∷ kept) → AreKeptFrom (from + 1) kept
kept_later from o kept are i p is = are (suc i) p is ∙ omega arith

-- an entry of another transaction comes in front
another_first : (t : ℕ) (p : ℕ × Entry) (entries : List (ℕ × Entry)) → (p.0 ≡ t → ⊥) → entry_at t (p ∷ entries) ≡ entry_at t entries
another_first t p entries ne = ap (λ b. cond b (Some (entry_of p)) (entry_at t entries)) (ne_eqb p.0 t ne)

-- none is of a transaction whose place is in front
none_behind : (t from : ℕ) (kept : Slots) (entries : List (ℕ × Entry)) → t % PLACES < from → AreKeptFrom from kept → entry_at t (those_kept kept ++ entries) ≡ entry_at t entries
none_behind t from [] entries lt are = refl
none_behind t from (None ∷ kept) entries lt are = none_behind t (from + 1) kept entries (omega (arith, lt)) (kept_later from None kept are)
none_behind t from (Some p ∷ kept) entries lt are =
    let at : p.0 % PLACES ≡ from + 0 = are 0 p refl in
    another_first t p (those_kept kept ++ entries) (λ e. omega (arith, lt, at, ap (λ n. n % PLACES) e))
    ∙ none_behind t (from + 1) kept entries (omega (arith, lt)) (kept_later from (Some p) kept are)

held_from : (t from i : ℕ) (kept : Slots) (entries : List (ℕ × Entry)) → t % PLACES ≡ from + i → AreKeptFrom from kept → entry_at t (those_kept kept ++ entries) ≡ kept_entry t (get_or kept i None) (entry_at t entries)
held_from t from i [] entries at are = refl
held_from t from zero (None ∷ kept) entries at are = none_behind t (from + 1) kept entries (omega (arith, at)) (kept_later from None kept are)
held_from t from zero (Some p ∷ kept) entries at are =
    elim (cases_eq p.0 t) [
      | inl own ↦ ap (λ b. cond b (Some (entry_of p)) (entry_at t (those_kept kept ++ entries))) (eq-eqb p.0 t own) ∙ (ap (λ n. Some (entry_of (n, p.1))) own ∙ sym (kept_own t p (entry_at t entries) own))
      | inr ne ↦
          another_first t p (those_kept kept ++ entries) ne
          ∙ (none_behind t (from + 1) kept entries (omega (arith, at)) (kept_later from (Some p) kept are) ∙ sym (kept_other t p (entry_at t entries) (λ e. ne (sym e))))
    ]
held_from t from (suc i) (None ∷ kept) entries at are = held_from t (from + 1) i kept entries (omega (arith, at)) (kept_later from None kept are)
held_from t from (suc i) (Some p ∷ kept) entries at are =
    let place : p.0 % PLACES ≡ from + 0 = are 0 p refl in
    another_first t p (those_kept kept ++ entries) (λ e. omega (arith, at, place, ap (λ n. n % PLACES) e))
    ∙ held_from t (from + 1) i kept entries (omega (arith, at)) (kept_later from (Some p) kept are)

pub held_is : (t : ℕ) (kept : Slots) (entries : List (ℕ × Entry)) → AreKept kept → entry_at t (those_kept kept ++ entries) ≡ held_entry t kept entries
held_is t kept entries are = held_from t 0 (t % PLACES) kept entries (omega arith) (λ i p is. are i p is ∙ omega arith)

-- MOVED
pub moved_other : (tx : ℕ) (kept : Slots) (old new : List (ℕ × Entry)) (p : ℕ × Entry) → AreKept kept → get_or kept (tx % PLACES) None ≡ Some p
    → ((t : ℕ) → entry_at t new ≡ cond (eqb p.0 t) (Some (entry_of (t, p.1))) (entry_at t old)) → IsMoved tx kept old new
moved_other tx kept old new p are is put = record {
  here = λ t ne at. put t ∙ sym (held_by t kept old (tx % PLACES) (Some p) at is);
  elsewhere = λ t ne.
      put t ∙ ap (λ b. cond b (Some (entry_of (t, p.1))) (entry_at t old)) (ne_eqb p.0 t (λ e. ne (ap (λ n. n % PLACES) (sym e) ∙ are (tx % PLACES) p is)));
}

-- KEPT
pub within : (tx : ℕ) (kept : Slots) → length kept ≡ PLACES → tx % PLACES < length kept
within tx kept count = let some : 0 < PLACES = omega arith in omega (arith, count, mod-lt tx some)

-- FORGOTTEN
-- taken from both, it is in neither
pub removed : (t tx : ℕ) (kept left : Slots) (old new : List (ℕ × Entry)) → ((t : ℕ) (entries : List (ℕ × Entry)) → (t ≡ tx → ⊥) → held_entry t left entries ≡ held_entry t kept entries)
    → ((entries : List (ℕ × Entry)) → held_entry tx left entries ≡ entry_at tx entries) → ((n : ℕ) → entry_at n new ≡ cond (eqb tx n) None (entry_at n old)) → held_entry t left new ≡ cond (eqb tx t) None (held_entry t kept old)
removed t tx kept left old new other own gone =
    elim (cases_eq t tx) [
      | inl e ↦
          (ap (λ n. held_entry n left new) e ∙ (own new ∙ (gone tx ∙ (ap (λ b. cond b None (entry_at tx old)) (eq-eqb tx tx refl) ∙ sym (ap (λ b. cond b None (held_entry t kept old)) (eq-eqb tx t (sym e)))))))
      | inr ne ↦
          (let off = ne_eqb tx t (λ e. ne (sym e)) in
          other t new ne ∙ (ap (kept_entry t (get_or kept (t % PLACES) None)) (gone t ∙ ap (λ b. cond b None (entry_at t old)) off) ∙ sym (ap (λ b. cond b None (held_entry t kept old)) off)))
    ]

-- what is not there is not taken away
pub none_removed : (tx : ℕ) (entries : List (ℕ × Entry)) → entry_at tx entries ≡ None → (n : ℕ) → entry_at n entries ≡ cond (eqb tx n) None (entry_at n entries)
none_removed tx entries none n =
    elim (cases_eq n tx) [
      | inl e ↦ ap (λ m. entry_at m entries) e ∙ (none ∙ sym (ap (λ b. cond b None (entry_at n entries)) (eq-eqb tx n (sym e))))
      | inr ne ↦ sym (ap (λ b. cond b None (entry_at n entries)) (ne_eqb tx n (λ e. ne (sym e))))
    ]

-- NONE ABOVE THE HIGHEST
pub none_above_put : (tx highest raised : ℕ) (entry : Entry) (old new : List (ℕ × Entry)) → tx ≤ raised → highest ≤ raised
    → ((t : ℕ) → entry_at t new ≡ cond (eqb tx t) (Some (entry_of (t, entry))) (entry_at t old)) → HasNoneAbove highest old → HasNoneAbove raised new
none_above_put tx highest raised entry old new within higher put up t above small =
    put t ∙ (ap (λ b. cond b (Some (entry_of (t, entry))) (entry_at t old)) (ne_eqb tx t (λ e. omega (arith, e, within, above))) ∙ up t (omega (arith, higher, above)) small)

pub none_above_removed : (tx highest : ℕ) (old new : List (ℕ × Entry)) → ((n : ℕ) → entry_at n new ≡ cond (eqb tx n) None (entry_at n old)) → HasNoneAbove highest old → HasNoneAbove highest new
none_above_removed tx highest old new gone up t above small =
    elim (cases_eq t tx) [
      | inl e ↦ gone t ∙ ap (λ b. cond b None (entry_at t old)) (eq-eqb tx t (sym e))
      | inr ne ↦ gone t ∙ (ap (λ b. cond b None (entry_at t old)) (ne_eqb tx t (λ e. ne (sym e))) ∙ up t above small)
    ]

-- PUT BACK
-- up to a place the table has what it must have
pub record IsBackTo (place : ℕ) (kept : Slots) (first now : List (ℕ × Entry)) : Type 0 where
  pub same : (t : ℕ) → held_entry t kept now ≡ held_entry t kept first
  pub back : (t : ℕ) → t % PLACES < place → entry_at t now ≡ held_entry t kept first

pub back_none : (place : ℕ) (kept : Slots) (first now : List (ℕ × Entry)) → get_or kept place None ≡ None → IsBackTo place kept first now → IsBackTo (place + 1) kept first now
back_none place kept first now is before = record {
  same = before.same;
  back = λ t lt. elim (cases_eq (t % PLACES) place) [
    | inl at ↦ sym (held_none t kept now place at is) ∙ before.same t
    | inr ne ↦ before.back t (omega (arith, lt, ne))
  ];
}

pub back_put : (place : ℕ) (kept : Slots) (first now new : List (ℕ × Entry)) (p : ℕ × Entry) → AreKept kept → get_or kept place None ≡ Some p
    → ((t : ℕ) → entry_at t new ≡ cond (eqb p.0 t) (Some (entry_of (t, p.1))) (entry_at t now)) → IsBackTo place kept first now → IsBackTo (place + 1) kept first new
back_put place kept first now new p are is put before = record {
  same = λ t. same t ∙ before.same t;
  back = λ t lt. elim (cases_eq (t % PLACES) place) [
    | inl at ↦ put t ∙ (sym (held_by t kept now place (Some p) at is) ∙ before.same t)
    | inr ne ↦ put t ∙ (ap (λ b. cond b (Some (entry_of (t, p.1))) (entry_at t now)) (ne_eqb p.0 t (λ e. ne (ap (λ n. n % PLACES) (sym e) ∙ are place p is))) ∙ before.back t (omega (arith, lt, ne)))
  ];
}
  where
    same : (t : ℕ) → held_entry t kept new ≡ held_entry t kept now
    same t =
        elim (cases_eq t p.0) [
          | inl e ↦ (let at : t % PLACES ≡ place = ap (λ n. n % PLACES) e ∙ are place p is in held_own t kept new place p at is (sym e) ∙ sym (held_own t kept now place p at is (sym e)))
          | inr ne ↦ ap (kept_entry t (get_or kept (t % PLACES) None)) (put t ∙ ap (λ b. cond b (Some (entry_of (t, p.1))) (entry_at t now)) (ne_eqb p.0 t (λ e. ne (sym e))))
        ]
