-- Reading the entries of a table one after the other, as a loop does, and finding one of them again.
use Rattle.std.proofs.Common.{◌≡◌, ℕ, zero, suc, ◌+◌, ◌-◌, ◌*◌, ◌<◌, ◌≤◌, inl, inr, true, false, ltb, eqb, List, [], ◌∷◌, ◌++◌, length, get_or, take, drop, Option, Some, None, map, refl, sym, ap, subst, ◌∙◌, arith, append_assoc}
use Rattle.std.specs.Prelude.{is_some, option_map, unwrap_or}
use Rattle.std.specs.Int.{Width, w32, w64, byte_len, from_be_bytes}
use Rattle.std.specs.List.{range_with_len, slice_get}
use Rattle.std.proofs.Math.Nat.{mul-suc}
use Rattle.std.proofs.lemmas.Bool.{ltb-false, le-ltb, lt-ltb, cases_lt}
use Rattle.std.proofs.lemmas.List.{append-nil, drop-drop, length-drop, take_more}
use Rattle.std.proofs.lemmas.Option.{same_Some}
use Rattle.log_laws.specs.declared.state.State.{State}
use Rattle.log_laws.specs.declared.state.State.TheVariants.{Active, Aborting, Prepared}
use Rattle.log_laws.specs.Records.{TableEntry}
use Rattle.wal.specs.Reading.{◌>>=◌, number_at, tx_at, state_at, entry_at, dirty_at, table_at, entry_there, table_in, IsTable}
use Rattle.wal.proofs.Loop.{chosen, unwrapped}
use Rattle.wal.proofs.Fields.{bind_some, guard_some}

-- ---- how many bytes an entry takes

-- this number of bytes was taken from the front
abbrev Sized : ℕ → List ℕ → List ℕ → Type 0
Sized n bytes rest = (n ≤ length bytes) × (rest ≡ drop n bytes)

sized_then : (m n : ℕ) (a b c : List ℕ) → Sized m a b → Sized n b c → Sized (m + n) a c
sized_then m n a b c p q = (omega (arith, p.0, q.0, ap length p.1, length-drop m a), q.1 ∙ ap (drop n) p.1 ∙ drop-drop n m a)

number_sized : (w : Width) (bytes : List ℕ) (x : ℕ × List ℕ) → number_at w bytes ≡ Some x → Sized (byte_len w) bytes x.1
number_sized w bytes x e =
    let g = guard_some (ltb (length bytes) (byte_len w)) (from_be_bytes w (take (byte_len w) bytes), drop (byte_len w) bytes) x e in
    (ltb-false _ _ g.0, sym (ap (λ p. p.1) g.1))

tx_sized : (bytes : List ℕ) (x : ℕ × List ℕ) → tx_at bytes ≡ Some x → Sized 4 bytes x.1
unfolding tx_at
tx_sized bytes x e =
    let a = bind_some (number_at w32 bytes) _ x e in
    let g = guard_some (eqb a.0.0 0) (a.0.0, a.0.1) x a.2 in
    subst (λ (r : List ℕ). Sized 4 bytes r) (ap (λ p. p.1) g.1) (number_sized w32 bytes a.0 a.1)

state_sized : (bytes : List ℕ) (x : State × List ℕ) → state_at bytes ≡ Some x → Sized 1 bytes x.1
unfolding state_at
state_sized [] x e = absurd cc
state_sized (code ∷ rest) x e =
    elim (chosen (eqb code 0) _ _ _ e) [
      | inl p ↦ (omega arith, sym (ap (λ q. q.1) (same_Some (Active, rest) x p.1)))
      | inr p ↦
          elim (chosen (eqb code 1) _ _ _ p.1) [
            | inl q ↦ (omega arith, sym (ap (λ r. r.1) (same_Some (Aborting, rest) x q.1)))
            | inr q ↦
                elim (chosen (eqb code 2) _ _ _ q.1) [
                  | inl r ↦ (omega arith, sym (ap (λ s. s.1) (same_Some (Prepared, rest) x r.1)))
                  | inr r ↦ absurd cc
                ]
          ]
    ]

-- a reader that takes this number of bytes
pub record HasSize {E : Type 0} (one : List ℕ → Option (E × List ℕ)) (size : ℕ) : Type 0 where
  pub sized : (bytes : List ℕ) (x : E × List ℕ) → one bytes ≡ Some x → Sized size bytes x.1

pub entry_size : HasSize entry_at 21
unfolding entry_at
entry_size = record {
  sized = λ bytes x e.
      let a = bind_some (tx_at bytes) _ x e in
      let b = bind_some (state_at a.0.1) _ x a.2 in
      let c = bind_some (number_at w64 b.0.1) _ x b.2 in
      let d = bind_some (number_at w64 c.0.1) _ x c.2 in
      let made : TableEntry × List ℕ = (record { tx = a.0.0; state = b.0.0; last = c.0.0; undo_next = d.0.0 }, d.0.1) in
      let ab = sized_then 4 1 bytes a.0.1 b.0.1 (tx_sized bytes a.0 a.1) (state_sized a.0.1 b.0 b.1) in
      let ac = sized_then 5 8 bytes b.0.1 c.0.1 ab (number_sized w64 b.0.1 c.0 c.1) in
      let ad = sized_then 13 8 bytes c.0.1 d.0.1 ac (number_sized w64 c.0.1 d.0 d.1) in
      subst (λ (r : List ℕ). Sized 21 bytes r) (ap (λ p. p.1) (same_Some made x d.2)) ad;
}

pub dirty_size : HasSize dirty_at 12
unfolding dirty_at
dirty_size = record {
  sized = λ bytes x e.
      let a = bind_some (number_at w32 bytes) _ x e in
      let b = bind_some (number_at w64 a.0.1) _ x a.2 in
      let made : (ℕ × ℕ) × List ℕ = ((a.0.0, b.0.0), b.0.1) in
      let ab = sized_then 4 8 bytes a.0.1 b.0.1 (number_sized w32 bytes a.0 a.1) (number_sized w64 a.0.1 b.0 b.1) in
      subst (λ (r : List ℕ). Sized 12 bytes r) (ap (λ p. p.1) (same_Some made x b.2)) ab;
}

-- ---- the loop

in_front : {E : Type 0} (f : ℕ → E) (a i : ℕ) → map f (range_with_len a (suc i)) ≡ map f (range_with_len a i) ++ f (a + i) ∷ []
in_front f a zero = ap (λ (k : ℕ). f k ∷ []) (omega arith)
in_front {E = E} f a (suc i) = ap (λ (xs : List E). f a ∷ xs) (in_front f (a + 1) i ∙ ap (λ (k : ℕ). map f (range_with_len (a + 1) i) ++ f k ∷ []) (omega arith))

module _ {E : Type 0} (number : E → ℕ) (one : List ℕ → Option (E × List ℕ)) (other : E) (size : ℕ) where
  -- what was read before, and what is still read
  abbrev pub with_front : List E → Option (List E × List ℕ) → Option (List E × List ℕ)
  with_front front read = read >>= λ x. Some (front ++ x.0, x.1)

  -- this number of entries was read; `rest` follows them, and the next number is at least `low`
  pub record SoFar (bytes : List ℕ) (count i low : ℕ) (rest : List ℕ) : Type 0 where
    pub room : size * i ≤ length bytes
    pub there : rest ≡ drop (size * i) bytes
    pub each : (place : ℕ) → place < i → is_some (one (drop (size * place) bytes)) ≡ true
    pub read : with_front (table_in one other size i bytes) (table_at number one (count - i) low rest) ≡ table_at number one count 0 bytes

  regroup : (front : List E) (x : E) (read : Option (List E × List ℕ)) → with_front front (read >>= λ y. Some (x ∷ y.0, y.1)) ≡ with_front (front ++ x ∷ []) read
  regroup front x (Some y) = ap (λ (rs : List E). Some (rs, y.1)) (simp append_assoc)
  regroup front x None = refl

  nothing_in_front : (read : Option (List E × List ℕ)) → with_front [] read ≡ read
  nothing_in_front (Some x) = refl
  nothing_in_front None = refl

  nowhere : (bytes : List ℕ) → drop (size * 0) bytes ≡ bytes
  nowhere bytes =
      let nothing : size * 0 ≡ 0 = omega arith in
      ap (λ (n : ℕ). drop n bytes) nothing

  pub begins : (bytes : List ℕ) (count : ℕ) → SoFar bytes count 0 0 bytes
  begins bytes count = record {
    room = omega arith;
    there = sym (nowhere bytes);
    each = λ place lt. absurd (omega (arith, lt));
    read = ap (λ k. with_front [] (table_at number one k 0 bytes)) (omega arith) ∙ nothing_in_front (table_at number one count 0 bytes);
  }

  entry_is : (bytes : List ℕ) (x : E × List ℕ) → one bytes ≡ Some x → entry_there one other bytes ≡ x.0
  unfolding entry_there
  entry_is bytes x e = ap (λ o. unwrap_or (option_map (λ y. y.0) o) other) e

  pub more : HasSize one size → (bytes : List ℕ) (count i low : ℕ) (rest : List ℕ) (x : E × List ℕ) → i < count → low ≤ number x.0 → SoFar bytes count i low rest → one rest ≡ Some x
      → SoFar bytes count (i + 1) (number x.0 + 1) x.1
  unfolding table_at
  more sizes bytes count i low rest x lt rising so_far e =
      let entry = sizes.sized rest x e in
      let k : count - i ≡ suc (count - (i + 1)) = omega arith in
      let n : ltb (number x.0) low ≡ false = le-ltb _ _ rising in
      let here : one (drop (size * i) bytes) ≡ Some x = ap one (sym so_far.there) ∙ e in
      let value : entry_there one other (drop (size * i) bytes) ≡ x.0 = entry_is (drop (size * i) bytes) x here in
      let next : i + 1 ≡ suc i = omega arith in
      let place : 0 + i ≡ i = omega arith in
      let front : table_in one other size (i + 1) bytes ≡ table_in one other size i bytes ++ x.0 ∷ [] =
      ap (λ j. table_in one other size j bytes) next ∙ in_front (λ place. entry_there one other (drop (size * place) bytes)) 0 i ∙ ap (λ (v : E). table_in one other size i bytes ++ v ∷ []) (ap (λ j. entry_there one other (drop (size * j) bytes)) place ∙ value) in
      let rest_read : with_front (table_in one other size i bytes) (table_at number one (count - i) low rest) ≡ with_front (table_in one other size i bytes ++ x.0 ∷ []) (table_at number one (count - (i + 1)) (number x.0 + 1) x.1) =
      rw (k, e, n) (regroup (table_in one other size i bytes) x.0 (table_at number one (count - (i + 1)) (number x.0 + 1) x.1)) in
      let behind : size * i + size ≡ size * (i + 1) = sym (ap (λ j. size * j) next ∙ mul-suc size i) in
      record {
        room = omega (arith, so_far.room, entry.0, ap length so_far.there, length-drop (size * i) bytes, behind);
        there = entry.1 ∙ ap (drop size) so_far.there ∙ drop-drop size (size * i) bytes ∙ ap (λ j. drop j bytes) behind;
        each = λ at_place below.
            elim (cases_lt at_place i) [
              | inl before ↦ so_far.each at_place before
              | inr not_before ↦ (let last : at_place ≡ i = omega (arith, below, not_before) in
                  ap (λ j. is_some (one (drop (size * j) bytes))) last ∙ ap is_some here)
            ];
        read = ap (λ rs. with_front rs (table_at number one (count - (i + 1)) (number x.0 + 1) x.1)) front ∙ sym rest_read ∙ so_far.read;
      }

  pub ends_short : (bytes : List ℕ) (count i low : ℕ) (rest : List ℕ) → i < count → SoFar bytes count i low rest → one rest ≡ None → None ≡ table_at number one count 0 bytes
  unfolding table_at
  ends_short bytes count i low rest lt so_far e =
      let k : count - i ≡ suc (count - (i + 1)) = omega arith in
      let read : with_front (table_in one other size i bytes) (table_at number one (count - i) low rest) ≡ None = rw (k, e) refl in
      sym read ∙ so_far.read

  pub ends_falling : (bytes : List ℕ) (count i low : ℕ) (rest : List ℕ) (x : E × List ℕ) → i < count → number x.0 < low → SoFar bytes count i low rest → one rest ≡ Some x → None ≡ table_at number one count 0 bytes
  unfolding table_at
  ends_falling bytes count i low rest x lt falls so_far e =
      let k : count - i ≡ suc (count - (i + 1)) = omega arith in
      let n : ltb (number x.0) low ≡ true = lt-ltb _ _ falls in
      let read : with_front (table_in one other size i bytes) (table_at number one (count - i) low rest) ≡ None = rw (k, e, n) refl in
      sym read ∙ so_far.read

  pub is_done : (bytes : List ℕ) (count i low : ℕ) (rest : List ℕ) → i ≡ count → SoFar bytes count i low rest → Some (table_in one other size count bytes, rest) ≡ table_at number one count 0 bytes
  unfolding table_at
  is_done bytes count i low rest e so_far =
      let k : count - i ≡ 0 = omega (arith, e) in
      let read : with_front (table_in one other size i bytes) (table_at number one (count - i) low rest) ≡ Some (table_in one other size i bytes, rest) = rw k (ap (λ (rs : List E). Some (rs, rest)) (append-nil (table_in one other size i bytes))) in
      ap (λ n. Some (table_in one other size n bytes, rest)) (sym e) ∙ sym read ∙ so_far.read

  pub is_table : (bytes : List ℕ) (count i low : ℕ) (rest : List ℕ) → i ≡ count → SoFar bytes count i low rest → IsTable one size count bytes
  is_table bytes count i low rest e so_far = subst (λ n. IsTable one size n bytes) e (record { room = so_far.room; each = so_far.each })

-- ---- an entry by its place

item_at : {X : Type 0} (f : ℕ → X) (a n i : ℕ) → i < n → slice_get (map f (range_with_len a n)) i ≡ Some (f (a + i))
item_at f a zero i lt = absurd (omega arith)
item_at f a (suc n) zero lt = ap (λ k. Some (f k)) (omega arith)
item_at f a (suc n) (suc i) lt = item_at f (a + 1) n i (omega arith) ∙ ap (λ k. Some (f k)) (omega arith)

item_past : {X : Type 0} (f : ℕ → X) (a n i : ℕ) → n ≤ i → slice_get (map f (range_with_len a n)) i ≡ None
item_past f a zero i le = refl
item_past f a (suc n) zero le = absurd (omega arith)
item_past f a (suc n) (suc i) le = item_past f (a + 1) n i (omega arith)

-- one more item
pub taken_more : {X : Type 0} (xs : List X) (i : ℕ) (x : X) → i < length xs → get_or xs i x ≡ x → take (i + 1) xs ≡ take i xs ++ x ∷ []
taken_more xs i x lt is = take_more xs i x lt ∙ ap (λ y. take i xs ++ y ∷ []) is

-- the entry at a place is what is read there
pub entry_at_place : {E : Type 0} (one : List ℕ → Option (E × List ℕ)) (other : E) (size count : ℕ) (bytes : List ℕ) (place : ℕ) → IsTable one size count bytes → place < count
    → slice_get (table_in one other size count bytes) place ≡ option_map (λ x. x.0) (one (drop (size * place) bytes))
unfolding entry_there
entry_at_place {E = E} one other size count bytes place table lt =
    let here : 0 + place ≡ place = omega arith in
    item_at (λ j. entry_there one other (drop (size * j) bytes)) 0 count place lt
    ∙ ap (λ j. Some (entry_there one other (drop (size * j) bytes))) here
    ∙ unwrapped other (one (drop (size * place) bytes)) (table.each place lt)

pub entry_past : {E : Type 0} (one : List ℕ → Option (E × List ℕ)) (other : E) (size count : ℕ) (bytes : List ℕ) (place : ℕ) → count ≤ place → slice_get (table_in one other size count bytes) place ≡ None
entry_past one other size count bytes place le = item_past (λ j. entry_there one other (drop (size * j) bytes)) 0 count place le
