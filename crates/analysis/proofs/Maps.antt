-- Maps from numbers, read key by key.
use Rattle.std.proofs.Common.{ℕ, zero, suc, ◌≡◌, ◌<◌, ◌≤◌, Bool, true, false, cond, eqb, ltb, eqb-true, ◌+◌, List, ◌∷◌, length, drop, get_or, replicate, drop-cons, Option, Some, None, refl, sym, ap, ap₂, ◌∙◌, arith, inl, inr}
use Rattle.std.specs.Prelude.{option_map, is_some}
use Rattle.log_laws.specs.Records.{TableEntry, LogRecord}
use Rattle.std.specs.Ordering.{is_eq, nat_cmp}
use Rattle.std.specs.Map.{lookup}
use Rattle.std.proofs.lemmas.Bool.{cases_Bool, ltb-true, ltb-false}
use Rattle.wal.specs.declared.record.Entry.{Entry}
use Rattle.wal.specs.Content.{entry_of}
use Rattle.log_laws.specs.Redo.{rec_lsn_of}
use Rattle.log_laws.specs.Checkpoint.{or_else}
use Rattle.log_laws.specs.Undo.{entry_for}
use Rattle.wal.proofs.Entries.{is_eq-nat_cmp, entry_for-lookup}
use Rattle.tables.proofs.Lookups.{rec_lsn_of-lookup}
use Rattle.analysis.specs.Tables.{entry_at, AreAllListed}
use Rattle.analysis.specs.Steps.{AreListed, rec_lsn_after}

-- one key changed: what the map has at a key, an entry or a RecLSN
pub entry_at-changed : (t tx : ℕ) (old new : List (ℕ × Entry)) (w : Option Entry) → lookup (λ k. is_eq (nat_cmp t k)) new ≡ cond (is_eq (nat_cmp tx t)) w (lookup (λ k. is_eq (nat_cmp t k)) old)
    → entry_at t new ≡ cond (eqb tx t) (option_map (λ e. entry_of (t, e)) w) (entry_at t old)
entry_at-changed t tx old new w e =
    entry_for-lookup t new ∙ ap (option_map (λ x. entry_of (t, x))) (e ∙ ap (λ b. cond b w (lookup (λ k. is_eq (nat_cmp t k)) old)) (is_eq-nat_cmp tx t))
    ∙ mapped (eqb tx t)
  where
    mapped : (b : Bool) → option_map (λ x. entry_of (t, x)) (cond b w (lookup (λ k. is_eq (nat_cmp t k)) old)) ≡ cond b (option_map (λ x. entry_of (t, x)) w) (entry_at t old)
    mapped true = refl
    mapped false = sym (entry_for-lookup t old)

pub rec_lsn-changed : (p page : ℕ) (old new : List (ℕ × ℕ)) (w : Option ℕ) → lookup (λ k. is_eq (nat_cmp p k)) new ≡ cond (is_eq (nat_cmp page p)) w (lookup (λ k. is_eq (nat_cmp p k)) old)
    → rec_lsn_of p new ≡ cond (eqb page p) w (rec_lsn_of p old)
rec_lsn-changed p page old new w e =
    rec_lsn_of-lookup p new ∙ e ∙ ap (λ b. cond b w (lookup (λ k. is_eq (nat_cmp p k)) old)) (is_eq-nat_cmp page p) ∙ ap (λ o. cond (eqb page p) w o) (sym (rec_lsn_of-lookup p old))

-- a page that is listed stays as it is
pub listed_stays : (p page lsn : ℕ) (old : List (ℕ × ℕ)) → is_some (rec_lsn_of page old) ≡ true → rec_lsn_of p old ≡ or_else (rec_lsn_of p old) (cond (eqb page p) (Some lsn) None)
listed_stays p page lsn old h =
    elim (cases_Bool (eqb page p)) [
      | inl e ↦
          (let listed : is_some (rec_lsn_of p old) ≡ true = ap (λ q. is_some (rec_lsn_of q old)) (sym (eqb-true page p e)) ∙ h in
          by_listed (rec_lsn_of p old) (cond (eqb page p) (Some lsn) None) listed)
      | inr e ↦ rw e (by_none (rec_lsn_of p old))
    ]
  where
    by_listed : (o other : Option ℕ) → is_some o ≡ true → o ≡ or_else o other
    by_listed None other e = absurd cc
    by_listed (Some x) other e = refl

    by_none : (o : Option ℕ) → o ≡ or_else o None
    by_none None = refl
    by_none (Some x) = refl

-- a page that is not listed is listed from there on
pub unlisted_begins : (p page lsn : ℕ) (old new : List (ℕ × ℕ)) → is_some (lookup (λ k. is_eq (nat_cmp page k)) old) ≡ false
    → lookup (λ k. is_eq (nat_cmp p k)) new ≡ cond (is_eq (nat_cmp page p)) (Some lsn) (lookup (λ k. is_eq (nat_cmp p k)) old)
    → rec_lsn_of p new ≡ or_else (rec_lsn_of p old) (cond (eqb page p) (Some lsn) None)
unlisted_begins p page lsn old new h e =
    rec_lsn-changed p page old new (Some lsn) e ∙
    elim (cases_Bool (eqb page p)) [
      | inl i ↦
          (let none : is_some (rec_lsn_of p old) ≡ false = ap is_some (rec_lsn_of-lookup p old) ∙ ap (λ q. is_some (lookup (λ k. is_eq (nat_cmp q k)) old)) (sym (eqb-true page p i)) ∙ h in
          rw i (by_unlisted (rec_lsn_of p old) none))
      | inr i ↦ rw i (by_none (rec_lsn_of p old))
    ]
  where
    by_unlisted : (o : Option ℕ) → is_some o ≡ false → Some lsn ≡ or_else o (Some lsn)
    by_unlisted None n = refl
    by_unlisted (Some x) n = absurd cc

    by_none : (o : Option ℕ) → o ≡ or_else o None
    by_none None = refl
    by_none (Some x) = refl

-- none is known at first
pub none_known : {X : Type 0} (n page : ℕ) → get_or (replicate n false) page false ≡ true → X
none_known n page e = (let f : get_or (replicate n false) page false ≡ false = never n page in absurd cc)
  where
    never : (n page : ℕ) → get_or (replicate n false) page false ≡ false
    never zero page = refl
    never (suc n) zero = refl
    never (suc n) (suc page) = never n page

-- pages that are listed, and those after them that are known
pub listed_upto : (known : List Bool) (dirty : List (ℕ × ℕ)) (whole upto : ℕ) → AreListed known dirty → AreAllListed whole dirty → ((page : ℕ) → whole ≤ page → page < upto → get_or known page false ≡ true) → AreAllListed upto dirty
listed_upto known dirty whole upto listed before noted page lt =
    elim (cases_Bool (ltb page whole)) [
      | inl l ↦ before page (ltb-true page whole l)
      | inr l ↦ listed page (noted page (ltb-false page whole l) lt)
    ]

-- a page that is listed stays so after a record
pub stays_listed : (lsn page : ℕ) (r : LogRecord) (old new : Option ℕ) → new ≡ rec_lsn_after lsn r page old → is_some old ≡ true → is_some new ≡ true
stays_listed lsn page r None new e listed = absurd cc
stays_listed lsn page r (Some x) new e listed = ap is_some e

-- BORROWED TABLES, from their end to their front
pub drop-get : {X : Type 0} (xs : List X) (i : ℕ) (x : X) → i < length xs → get_or xs i x ≡ x → drop i xs ≡ x ∷ drop (i + 1) xs
drop-get xs i x lt there =
    let n : suc i ≡ i + 1 = omega arith in
    drop-cons xs i x lt ∙ ap₂ (λ y (k : ℕ). y ∷ drop k xs) there n

pub entry_put : (t place tx : ℕ) (entry : Entry) (table : List TableEntry) (old new : List (ℕ × Entry)) → place < length table → get_or table place (entry_of (tx, entry)) ≡ entry_of (tx, entry)
    → ((t : ℕ) → entry_at t old ≡ entry_for t (drop (place + 1) table)) → entry_at t new ≡ cond (eqb tx t) (Some (entry_of (t, entry))) (entry_at t old) → entry_at t new ≡ entry_for t (drop place table)
entry_put t place tx entry table old new lt there behind put =
    put ∙ ap (cond (eqb tx t) (Some (entry_of (t, entry)))) (behind t) ∙ own (eqb tx t) refl ∙ ap (entry_for t) (sym (drop-get table place (entry_of (tx, entry)) lt there))
  where
    own : (b : Bool) → eqb tx t ≡ b → cond (eqb tx t) (Some (entry_of (t, entry))) (entry_for t (drop (place + 1) table)) ≡ entry_for t (entry_of (tx, entry) ∷ drop (place + 1) table)
    own true e = rw e (ap (λ n. Some (entry_of (n, entry))) (sym (eqb-true tx t e)))
    own false e = rw e refl

pub page_put : (p place page rec_lsn : ℕ) (table old new : List (ℕ × ℕ)) → place < length table → get_or table place (page, rec_lsn) ≡ (page, rec_lsn)
    → ((p : ℕ) → rec_lsn_of p old ≡ rec_lsn_of p (drop (place + 1) table)) → rec_lsn_of p new ≡ cond (eqb page p) (Some rec_lsn) (rec_lsn_of p old) → rec_lsn_of p new ≡ rec_lsn_of p (drop place table)
page_put p place page rec_lsn table old new lt there behind put =
    put ∙ ap (cond (eqb page p) (Some rec_lsn)) (behind p) ∙ ap (rec_lsn_of p) (sym (drop-get table place (page, rec_lsn) lt there))
