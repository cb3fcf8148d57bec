-- A table that is read is the table that was written, and what was written is read again.
use Rattle.std.proofs.Common.{◌≡◌, ℕ, zero, suc, ◌+◌, ◌*◌, ◌^◌, ◌<◌, Bool, true, false, cond, ltb, eqb, eqb-true, List, [], ◌∷◌, ◌++◌, length, map, Option, Some, None, refl, sym, ap, subst, ◌∙◌, append_assoc, arith, inl, inr}
use Rattle.std.specs.List.{AllByRecursion, flat_map}
use Rattle.std.specs.Int.{w32, w64, to_be_bytes}
use Rattle.std.proofs.lemmas.Bool.{ltb-false, le-ltb}
use Rattle.std.proofs.lemmas.List.{length-append}
use Rattle.std.proofs.Math.Nat.{mul-suc}
use Rattle.std.proofs.lemmas.Option.{same_Some}
use Rattle.log_laws.specs.declared.state.State.{State}
use Rattle.log_laws.specs.declared.state.State.TheVariants.{Active, Aborting, Prepared}
use Rattle.log_laws.specs.Records.{TableEntry, tx_in, page_in}
use Rattle.wal.specs.Spelling.{state, entry, dirty_page, table, FitsEntry, FitsDirty, FitsTable}
use Rattle.wal.specs.Reading.{◌>>=◌, number_at, tx_at, state_at, entry_at, dirty_at, table_at, transactions_at, dirties_at}
use Rattle.wal.proofs.Loop.{chosen}
use Rattle.log_laws.proofs.Rising.{RisesFrom, rises_rising, rising_from_0}
use Rattle.page.proofs.BigEndian.{AreBytes}
use Rattle.wal.proofs.Fields.{AreBytes-rest, bind_some, Takes, Takes-then, IsField, first_of_all, field32, field64, FitsTx, tx_field}
use Rattle.page.specs.declared.profile.TheConstants.{PAGES, TRANSACTIONS}

-- ---- entries

-- the byte of a state
state_taken : (code : ℕ) (s : State) (rest : List ℕ) (x : State × List ℕ) → AreBytes (code ∷ rest) → code ∷ [] ≡ state s → Some (s, rest) ≡ Some x
    → Takes (code ∷ rest) (state x.0) x.1 × Unit {0}
state_taken code s rest x fits is e =
    subst (λ (y : State × List ℕ). Takes (code ∷ rest) (state y.0) y.1 × Unit {0}) (same_Some (s, rest) x e)
    (record { parts = ap (λ (front : List ℕ). front ++ rest) is; rest_fits = AreBytes-rest code rest fits }, tt)

state_takes : (bytes : List ℕ) (x : State × List ℕ) → AreBytes bytes → state_at bytes ≡ Some x → Takes bytes (state x.0) x.1 × Unit {0}
unfolding state_at
state_takes [] x fits e = absurd cc
state_takes (code ∷ rest) x fits e =
    elim (chosen (eqb code 0) _ _ _ e) [
      | inl p ↦ state_taken code Active rest x fits (is 0 p.0) p.1
      | inr p ↦
          elim (chosen (eqb code 1) _ _ _ p.1) [
            | inl q ↦ state_taken code Aborting rest x fits (is 1 q.0) q.1
            | inr q ↦
                elim (chosen (eqb code 2) _ _ _ q.1) [
                  | inl r ↦ state_taken code Prepared rest x fits (is 2 r.0) r.1
                  | inr r ↦ absurd cc
                ]
          ]
    ]
  where
    is : (n : ℕ) → eqb code n ≡ true → ◌≡◌ {A = List ℕ} (code ∷ []) (n ∷ [])
    is n same = ap (λ (c : ℕ). c ∷ []) (eqb-true code n same)

state_again : (s : State) (rest : List ℕ) → Unit {0} → state_at (state s ++ rest) ≡ Some (s, rest)
unfolding state_at
state_again Active rest fits = refl
state_again Aborting rest fits = refl
state_again Prepared rest fits = refl

state_field : IsField state_at state (λ s. Unit {0})
state_field = record { takes = state_takes; again = state_again }

entry_takes : (bytes : List ℕ) (x : TableEntry × List ℕ) → AreBytes bytes → entry_at bytes ≡ Some x → Takes bytes (entry x.0) x.1 × FitsEntry x.0
unfolding entry_at
entry_takes bytes x fits e =
    let a = first_of_all tx_at (to_be_bytes w32) FitsTx tx_field bytes _ x fits e in
    let b = first_of_all state_at state (λ s. Unit {0}) state_field a.rest _ x a.takes.rest_fits a.after in
    let c = first_of_all (number_at w64) (to_be_bytes w64) (λ n. n < 2 ^ 64) field64 b.rest _ x b.takes.rest_fits b.after in
    let d = first_of_all (number_at w64) (to_be_bytes w64) (λ n. n < 2 ^ 64) field64 c.rest _ x c.takes.rest_fits c.after in
    let cd = Takes-then b.rest (to_be_bytes w64 c.value) c.rest (to_be_bytes w64 d.value) d.rest c.takes d.takes in
    let bd = Takes-then a.rest (state b.value) b.rest (to_be_bytes w64 c.value ++ to_be_bytes w64 d.value) d.rest b.takes cd in
    let ad = Takes-then bytes (to_be_bytes w32 a.value) a.rest (state b.value ++ (to_be_bytes w64 c.value ++ to_be_bytes w64 d.value)) d.rest a.takes bd in
    let made : TableEntry × List ℕ = (record { tx = a.value; state = b.value; last = c.value; undo_next = d.value }, d.rest) in
    subst (λ (y : TableEntry × List ℕ). Takes bytes (entry y.0) y.1 × FitsEntry y.0) (same_Some made x d.after)
    (ad, record { some_tx = a.fits.0; tx = a.fits.1; last = c.fits; undo_next = d.fits })

entry_again : (e : TableEntry) (rest : List ℕ) → FitsEntry e → entry_at (entry e ++ rest) ≡ Some (e, rest)
unfolding entry_at
entry_again e rest fits =
    let standing = state e.state in
    let regrouped : entry e ++ rest ≡ to_be_bytes w32 e.tx ++ (standing ++ (to_be_bytes w64 e.last ++ (to_be_bytes w64 e.undo_next ++ rest))) = simp append_assoc in
    ap entry_at regrouped
    ∙ rw (tx_field.again e.tx (standing ++ (to_be_bytes w64 e.last ++ (to_be_bytes w64 e.undo_next ++ rest))) (fits.some_tx, fits.tx), state_field.again e.state (to_be_bytes w64 e.last ++ (to_be_bytes w64 e.undo_next ++ rest)) tt, field64.again e.last (to_be_bytes w64 e.undo_next ++ rest) fits.last, field64.again e.undo_next rest fits.undo_next) refl

entry_field : IsField entry_at entry FitsEntry
entry_field = record { takes = entry_takes; again = entry_again }

dirty_takes : (bytes : List ℕ) (x : (ℕ × ℕ) × List ℕ) → AreBytes bytes → dirty_at bytes ≡ Some x → Takes bytes (dirty_page x.0) x.1 × FitsDirty x.0
unfolding dirty_at
dirty_takes bytes x fits e =
    let a = first_of_all (number_at w32) (to_be_bytes w32) (λ n. n < 2 ^ 32) field32 bytes _ x fits e in
    let b = first_of_all (number_at w64) (to_be_bytes w64) (λ n. n < 2 ^ 64) field64 a.rest _ x a.takes.rest_fits a.after in
    let ab = Takes-then bytes (to_be_bytes w32 a.value) a.rest (to_be_bytes w64 b.value) b.rest a.takes b.takes in
    let made : (ℕ × ℕ) × List ℕ = ((a.value, b.value), b.rest) in
    subst (λ (y : (ℕ × ℕ) × List ℕ). Takes bytes (dirty_page y.0) y.1 × FitsDirty y.0) (same_Some made x b.after)
    (ab, record { page = a.fits; rec_lsn = b.fits })

dirty_again : (d : ℕ × ℕ) (rest : List ℕ) → FitsDirty d → dirty_at (dirty_page d ++ rest) ≡ Some (d, rest)
unfolding dirty_at
dirty_again d rest fits =
    ap dirty_at (append_assoc (to_be_bytes w32 d.0) (to_be_bytes w64 d.1) rest)
    ∙ rw (field32.again d.0 (to_be_bytes w64 d.1 ++ rest) fits.page, field64.again d.1 rest fits.rec_lsn) refl

dirty_field : IsField dirty_at dirty_page FitsDirty
dirty_field = record { takes = dirty_takes; again = dirty_again }

-- ---- tables

guard_read : {A : Type 0} (b : Bool) (r : Option A) (y : A) → cond b None r ≡ Some y → (b ≡ false) × (r ≡ Some y)
guard_read true r y e = absurd cc
guard_read false r y e = (refl, e)

module _ {E : Type 0} (number : E → ℕ) (one : List ℕ → Option (E × List ℕ)) (spell : E → List ℕ) (Fit : E → Type 0) (field : IsField one spell Fit) where
  record TableRead (count low : ℕ) (bytes : List ℕ) (x : List E × List ℕ) : Type 0 where
    takes : Takes bytes (flat_map spell x.0) x.1
    len : length x.0 ≡ count
    each : AllByRecursion Fit x.0
    rises : RisesFrom low (map number x.0)

  table_takes : (count low : ℕ) (bytes : List ℕ) (x : List E × List ℕ) → AreBytes bytes → table_at number one count low bytes ≡ Some x → TableRead count low bytes x
  unfolding table_at
  table_takes zero low bytes x fits e =
      subst (TableRead zero low bytes) (same_Some ([], bytes) x e) (record { takes = record { parts = refl; rest_fits = fits }; len = refl; each = tt; rises = tt })
  table_takes (suc count) low bytes x fits e =
      let a = first_of_all one spell Fit field bytes _ x fits e in
      let b = bind_some (cond (ltb (number a.value) low) None (table_at number one count (number a.value + 1) a.rest)) _ x a.after in
      let g = guard_read (ltb (number a.value) low) (table_at number one count (number a.value + 1) a.rest) b.0 b.1 in
      let others = table_takes count (number a.value + 1) a.rest b.0 a.takes.rest_fits g.1 in
      subst (TableRead (suc count) low bytes) (same_Some (a.value ∷ b.0.0, b.0.1) x b.2)
      (record { takes = Takes-then bytes (spell a.value) a.rest (flat_map spell b.0.0) b.0.1 a.takes others.takes; len = omega (arith, others.len); each = (a.fits, others.each); rises = (ltb-false _ _ g.0, others.rises) })

  table_again : (low : ℕ) (entries : List E) (rest : List ℕ) → AllByRecursion Fit entries → RisesFrom low (map number entries)
      → table_at number one (length entries) low (flat_map spell entries ++ rest) ≡ Some (entries, rest)
  unfolding table_at
  table_again low [] rest each rises = refl
  table_again low (e ∷ es) rest each rises =
      let others = table_again (number e + 1) es rest each.1 rises.1 in
      let order : ltb (number e) low ≡ false = le-ltb _ _ rises.0 in
      ap (table_at number one (suc (length es)) low) (append_assoc (spell e) (flat_map spell es) rest)
      ∙ rw (field.again e (flat_map spell es ++ rest) each.0, order, others) refl

  -- a count that is at most this number, and the table
  abbrev counted_at : ℕ → List ℕ → Option (List E × List ℕ)
  counted_at most bytes = number_at w32 bytes >>= λ count. cond (ltb most count.0) None (table_at number one count.0 0 count.1)

  counted_takes : (most : ℕ) (bytes : List ℕ) (x : List E × List ℕ) → AreBytes bytes → counted_at most bytes ≡ Some x → Takes bytes (table spell x.0) x.1 × FitsTable most number Fit x.0
  counted_takes most bytes x fits e =
      let a = first_of_all (number_at w32) (to_be_bytes w32) (λ n. n < 2 ^ 32) field32 bytes _ x fits e in
      let g = guard_read (ltb most a.value) (table_at number one a.value 0 a.rest) x a.after in
      let read = table_takes a.value 0 a.rest x a.takes.rest_fits g.1 in
      let count_takes : Takes bytes (to_be_bytes w32 (length x.0)) a.rest = subst (λ n. Takes bytes (to_be_bytes w32 n) a.rest) (sym read.len) a.takes in (
        Takes-then bytes (to_be_bytes w32 (length x.0)) a.rest (flat_map spell x.0) x.1 count_takes read.takes,
        record { few = omega (arith, read.len, ltb-false _ _ g.0); each = read.each; rising = rises_rising 0 (map number x.0) read.rises },
      )

  counted_again : (most : ℕ) → most < 2 ^ 32 → (entries : List E) (rest : List ℕ) → FitsTable most number Fit entries → counted_at most (table spell entries ++ rest) ≡ Some (entries, rest)
  counted_again most small entries rest fits =
      let few : ltb most (length entries) ≡ false = le-ltb _ _ fits.few in
      ap (counted_at most) (append_assoc (to_be_bytes w32 (length entries)) (flat_map spell entries) rest)
      ∙ rw (field32.again (length entries) (flat_map spell entries ++ rest) (omega (arith, fits.few, small)), few) (table_again 0 entries rest fits.each (rising_from_0 (map number entries) fits.rising))

  counted_field : (most : ℕ) → most < 2 ^ 32 → IsField (counted_at most) (table spell) (FitsTable most number Fit)
  counted_field most small = record { takes = counted_takes most; again = counted_again most small }

pub transactions_field : IsField transactions_at (table entry) (FitsTable TRANSACTIONS tx_in FitsEntry)
unfolding transactions_at
transactions_field = counted_field tx_in entry_at entry FitsEntry entry_field TRANSACTIONS (omega arith)

pub dirties_field : IsField dirties_at (table dirty_page) (FitsTable PAGES page_in FitsDirty)
unfolding dirties_at
dirties_field = counted_field page_in dirty_at dirty_page FitsDirty dirty_field PAGES (omega arith)

-- how long a table is
entries_length : {E : Type 0} (spell : E → List ℕ) (size : ℕ) → ((e : E) → length (spell e) ≡ size) → (entries : List E) → length (flat_map spell entries) ≡ size * length entries
entries_length spell size h [] = omega arith
entries_length spell size h (e ∷ es) = omega (arith, h e, entries_length spell size h es, length-append (spell e) (flat_map spell es), mul-suc size (length es))

pub table_length : {E : Type 0} (spell : E → List ℕ) (size : ℕ) → ((e : E) → length (spell e) ≡ size) → (entries : List E) → length (table spell entries) ≡ 4 + size * length entries
table_length spell size h entries = omega (arith, entries_length spell size h entries, length-append (to_be_bytes w32 (length entries)) (flat_map spell entries))
