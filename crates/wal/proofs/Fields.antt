-- A field that is read is the field that was written, and what was written is read again.
use Rattle.std.proofs.Common.{◌-◌, ◌≡◌, ℕ, zero, suc, ◌^◌, ◌<◌, ◌≤◌, Bool, true, false, cond, ltb, eqb, eqb-true, ne_eqb, List, [], ◌∷◌, ◌++◌, length, take, drop, Option, Some, None, refl, sym, ap, subst, ◌∙◌, append_assoc, arith, inl, inr}
use Rattle.std.specs.Int.{Width, w32, w64, byte_len, from_be_bytes, to_be_bytes}
use Rattle.std.proofs.lemmas.Bool.{ltb-false, le-ltb}
use Rattle.std.proofs.lemmas.List.{take_at, drop_at, take-append-drop, length-append, length-take}
use Rattle.std.proofs.lemmas.Nat.{be_bytes_4, be_bytes_8, from_be_bytes-to_be_bytes_4, from_be_bytes-to_be_bytes_8}
use Rattle.std.proofs.lemmas.Option.{same_Some}
use Rattle.page.specs.Image.{Image, FitsSlot}
use Rattle.page.proofs.BigEndian.{AreBytes, AreBytes-take, AreBytes-drop}
use Rattle.log_laws.specs.Records.{PlainRecord}
use Rattle.wal.specs.Spelling.{image, plain, FitsPlain}
use Rattle.wal.specs.Reading.{◌>>=◌, number_at, tx_at, slot_at, image_at, plain_at}
use Rattle.wal.proofs.Loop.{chosen}
use Rattle.page.specs.declared.profile.TheConstants.{VALUE_BYTES, SLOTS}
use Rattle.wal.specs.declared.sizes.TheConstants.{ABSENT}

pub AreBytes-rest : (b : ℕ) (bytes : List ℕ) → AreBytes (b ∷ bytes) → AreBytes bytes
AreBytes-rest b bytes h i = h (suc i)

-- what a reader took from the front
pub record Takes (bytes text rest : List ℕ) : Type 0 where
  pub parts : bytes ≡ text ++ rest
  pub rest_fits : AreBytes rest

pub Takes-then : (a x b y c : List ℕ) → Takes a x b → Takes b y c → Takes a (x ++ y) c
Takes-then a x b y c p q = record { parts = p.parts ∙ ap (λ (t : List ℕ). x ++ t) q.parts ∙ sym (append_assoc x y c); rest_fits = q.rest_fits }

-- a reader and an encoding belong together
pub record IsField {X : Type 0} (at : List ℕ → Option (X × List ℕ)) (spell : X → List ℕ) (Fit : X → Type 0) : Type 0 where
  pub takes : (bytes : List ℕ) (x : X × List ℕ) → AreBytes bytes → at bytes ≡ Some x → Takes bytes (spell x.0) x.1 × Fit x.0
  pub again : (x : X) (rest : List ℕ) → Fit x → at (spell x ++ rest) ≡ Some (x, rest)

-- the first of several fields that were read
pub record First {X Y : Type 0} (bytes : List ℕ) (spell : X → List ℕ) (Fit : X → Type 0) (f : X × List ℕ → Option Y) (y : Y) : Type 0 where
  pub value : X
  pub rest : List ℕ
  pub fits : Fit value
  pub takes : Takes bytes (spell value) rest
  pub after : f (value, rest) ≡ Some y

pub bind_some : {A B : Type 0} (r : Option A) (f : A → Option B) (y : B) → (r >>= f) ≡ Some y → (x : A) × (r ≡ Some x) × (f x ≡ Some y)
bind_some (Some x) f y e = (x, refl, e)
bind_some None f y e = absurd cc

pub first_of_all : {X Y : Type 0} (at : List ℕ → Option (X × List ℕ)) (spell : X → List ℕ) (Fit : X → Type 0) (field : IsField at spell Fit) (bytes : List ℕ) (f : X × List ℕ → Option Y) (y : Y)
    → AreBytes bytes → (at bytes >>= f) ≡ Some y → First bytes spell Fit f y
first_of_all at spell Fit field bytes f y fits e =
    let b = bind_some (at bytes) f y e in
    let t = field.takes bytes b.0 fits b.1 in
    record { value = b.0.0; rest = b.0.1; fits = t.1; takes = t.0; after = b.2 }

-- ---- numbers

pub record IsWide (w : Width) (limit : ℕ) : Type 0 where
  pub len : (n : ℕ) → length (to_be_bytes w n) ≡ byte_len w
  pub back : (bytes : List ℕ) → length bytes ≡ byte_len w → AreBytes bytes → to_be_bytes w (from_be_bytes w bytes) ≡ bytes
  pub again : (n : ℕ) → n < limit → from_be_bytes w (to_be_bytes w n) ≡ n
  pub below : (bytes : List ℕ) → AreBytes bytes → from_be_bytes w bytes < limit

pub wide32 : IsWide w32 (2 ^ 32)
wide32 = record {
  len = λ n. refl;
  back = λ bytes len fits. be_bytes_4 bytes _ len fits refl;
  again = λ n lt. from_be_bytes-to_be_bytes_4 n lt;
  below = λ bytes fits. omega (arith, fits 0, fits 1, fits 2, fits 3);
}

pub wide64 : IsWide w64 (2 ^ 64)
wide64 = record {
  len = λ n. refl;
  back = λ bytes len fits. be_bytes_8 bytes _ len fits refl;
  again = λ n lt. from_be_bytes-to_be_bytes_8 n lt;
  below = λ bytes fits. omega (arith, fits 0, fits 1, fits 2, fits 3, fits 4, fits 5, fits 6, fits 7);
}

pub guard_ended : {A : Type 0} (b : Bool) (x y : A) → cond b (Some x) None ≡ Some y → (b ≡ true) × (x ≡ y)
guard_ended true x y e = (refl, cc)
guard_ended false x y e = absurd cc

-- a test that did not fail
pub guard_some : {A : Type 0} (b : Bool) (x y : A) → cond b None (Some x) ≡ Some y → (b ≡ false) × (x ≡ y)
guard_some true x y e = absurd cc
guard_some false x y e = (refl, cc)

number_takes : (w : Width) (limit : ℕ) (wide : IsWide w limit) (bytes : List ℕ) (x : ℕ × List ℕ) → AreBytes bytes → number_at w bytes ≡ Some x → Takes bytes (to_be_bytes w x.0) x.1 × (x.0 < limit)
number_takes w limit wide bytes x fits e =
    let g = guard_some (ltb (length bytes) (byte_len w)) (from_be_bytes w (take (byte_len w) bytes), drop (byte_len w) bytes) x e in
    let long : byte_len w ≤ length bytes = ltb-false _ _ g.0 in
    let front : to_be_bytes w (from_be_bytes w (take (byte_len w) bytes)) ≡ take (byte_len w) bytes = wide.back (take (byte_len w) bytes) (omega (arith, length-take (byte_len w) bytes)) (AreBytes-take (byte_len w) bytes fits) in
    subst (λ (y : ℕ × List ℕ). Takes bytes (to_be_bytes w y.0) y.1 × (y.0 < limit)) g.1
    (record { parts = rw front (sym (take-append-drop (byte_len w) bytes)); rest_fits = AreBytes-drop (byte_len w) bytes fits }, wide.below (take (byte_len w) bytes) (AreBytes-take (byte_len w) bytes fits))

number_again : (w : Width) (limit : ℕ) (wide : IsWide w limit) (n : ℕ) (rest : List ℕ) → n < limit → number_at w (to_be_bytes w n ++ rest) ≡ Some (n, rest)
number_again w limit wide n rest lt =
    let len = wide.len n in
    let long : ltb (length (to_be_bytes w n ++ rest)) (byte_len w) ≡ false = le-ltb _ _ (omega (arith, length-append (to_be_bytes w n) rest)) in
    rw (long, take_at (to_be_bytes w n) rest (byte_len w) len, drop_at (to_be_bytes w n) rest (byte_len w) len, wide.again n lt) refl

pub number_field : (w : Width) (limit : ℕ) → IsWide w limit → IsField (number_at w) (to_be_bytes w) (λ n. n < limit)
number_field w limit wide = record { takes = number_takes w limit wide; again = number_again w limit wide }

pub field32 : IsField (number_at w32) (to_be_bytes w32) (λ n. n < 2 ^ 32)
field32 = number_field w32 (2 ^ 32) wide32

pub field64 : IsField (number_at w64) (to_be_bytes w64) (λ n. n < 2 ^ 64)
field64 = number_field w64 (2 ^ 64) wide64

-- ---- transaction numbers, slots, images

abbrev pub FitsTx : ℕ → Type 0
FitsTx n = (0 < n) × (n < 2 ^ 32)

above_zero : (n : ℕ) → eqb n 0 ≡ false → 0 < n
above_zero zero e = absurd cc
above_zero (suc n) e = omega arith

pub tx_field : IsField tx_at (to_be_bytes w32) FitsTx
unfolding tx_at
tx_field = record {
  takes = λ bytes x fits e.
      let a = first_of_all (number_at w32) (to_be_bytes w32) (λ n. n < 2 ^ 32) field32 bytes (λ tx. cond (eqb tx.0 0) None (Some (tx.0, tx.1))) x fits e in
      let g = guard_some (eqb a.value 0) (a.value, a.rest) x a.after in
      let some_tx : 0 < a.value = above_zero a.value g.0 in
      subst (λ (y : ℕ × List ℕ). Takes bytes (to_be_bytes w32 y.0) y.1 × FitsTx y.0) g.1 (a.takes, (some_tx, a.fits));
  again = λ n rest fits.
      let e : eqb n 0 ≡ false = ne_eqb n 0 (λ z. omega (arith, z, fits.0)) in
      rw (field32.again n rest fits.1, e) refl;
}

slot_takes : (bytes : List ℕ) (x : ℕ × List ℕ) → AreBytes bytes → slot_at bytes ≡ Some x → Takes bytes (x.0 ∷ []) x.1 × (x.0 ≤ SLOTS - 1)
unfolding slot_at
slot_takes [] x fits e = absurd cc
slot_takes (slot ∷ rest) x fits e =
    let g = guard_some (ltb (SLOTS - 1) slot) (slot, rest) x e in
    subst (λ (y : ℕ × List ℕ). Takes (slot ∷ rest) (y.0 ∷ []) y.1 × (y.0 ≤ SLOTS - 1)) g.1 (record { parts = refl; rest_fits = AreBytes-rest slot rest fits }, ltb-false _ _ g.0)

pub slot_field : IsField slot_at (λ slot. slot ∷ []) (λ slot. slot ≤ SLOTS - 1)
unfolding slot_at
slot_field = record {
  takes = slot_takes;
  again = λ n rest le. rw (le-ltb _ _ le) refl;
}

image_takes : (bytes : List ℕ) (x : Image × List ℕ) → AreBytes bytes → image_at bytes ≡ Some x → Takes bytes (image x.0) x.1 × FitsSlot x.0
unfolding image_at
image_takes [] x fits e = absurd cc
image_takes (size ∷ rest) x fits e =
    let there = AreBytes-rest size rest fits in
    elim (chosen (eqb size ABSENT) _ _ _ e) [
      | inl p ↦
          (let none : Takes (size ∷ rest) (image None) rest × FitsSlot None = (record { parts = ap (λ s. s ∷ rest) (eqb-true size ABSENT p.0); rest_fits = there }, tt) in
          subst (λ (y : Image × List ℕ). Takes (size ∷ rest) (image y.0) y.1 × FitsSlot y.0) (same_Some (None, rest) x p.1) none)
      | inr p ↦
          elim (chosen (ltb VALUE_BYTES size) _ _ _ p.1) [
            | inl q ↦ absurd cc
            | inr q ↦
                (let g = guard_some (ltb (length rest) size) (Some (take size rest), drop size rest) x q.1 in
                let long : size ≤ length rest = ltb-false _ _ g.0 in
                let low : size ≤ VALUE_BYTES = ltb-false _ _ q.0 in
                let len : length (take size rest) ≡ size = omega (arith, length-take size rest) in
                let parts : ◌≡◌ {A = List ℕ} (size ∷ rest) (length (take size rest) ∷ (take size rest ++ drop size rest)) = rw (len, take-append-drop size rest) refl in
                subst (λ (y : Image × List ℕ). Takes (size ∷ rest) (image y.0) y.1 × FitsSlot y.0) g.1 (record { parts = parts; rest_fits = AreBytes-drop size rest there }, omega (arith, len)))
          ]
    ]

image_again : (o : Image) (rest : List ℕ) → FitsSlot o → image_at (image o ++ rest) ≡ Some (o, rest)
unfolding image_at
image_again None rest h = refl
image_again (Some value) rest h =
    let not_absent : eqb (length value) ABSENT ≡ false = ne_eqb _ _ (λ z. omega (arith, z, h)) in
    let low : ltb VALUE_BYTES (length value) ≡ false = le-ltb _ _ h in
    let long : ltb (length (value ++ rest)) (length value) ≡ false = le-ltb _ _ (omega (arith, length-append value rest)) in
    rw (not_absent, low, long, take_at value rest (length value) refl, drop_at value rest (length value) refl) refl

pub image_field : IsField image_at image FitsSlot
image_field = record { takes = image_takes; again = image_again }

-- ---- whole records

plain_takes : (bytes : List ℕ) (x : PlainRecord × List ℕ) → AreBytes bytes → plain_at bytes ≡ Some x → Takes bytes (plain x.0) x.1 × FitsPlain x.0
unfolding plain_at
plain_takes bytes x fits e =
    let a = first_of_all tx_at (to_be_bytes w32) FitsTx tx_field bytes (λ tx. number_at w64 tx.1 >>= λ prev. Some (record { tx = tx.0; prev = prev.0 }, prev.1)) x fits e in
    let b = first_of_all (number_at w64) (to_be_bytes w64) (λ n. n < 2 ^ 64) field64 a.rest (λ prev. Some (record { tx = a.value; prev = prev.0 }, prev.1)) x a.takes.rest_fits a.after in
    let both = Takes-then bytes (to_be_bytes w32 a.value) a.rest (to_be_bytes w64 b.value) b.rest a.takes b.takes in
    let made : PlainRecord × List ℕ = (record { tx = a.value; prev = b.value }, b.rest) in
    subst (λ (y : PlainRecord × List ℕ). Takes bytes (plain y.0) y.1 × FitsPlain y.0) (same_Some made x b.after) (both, record { some_tx = a.fits.0; tx = a.fits.1; prev = b.fits })

plain_again : (r : PlainRecord) (rest : List ℕ) → FitsPlain r → plain_at (plain r ++ rest) ≡ Some (r, rest)
unfolding plain_at
plain_again r rest fits =
    ap plain_at (append_assoc (to_be_bytes w32 r.tx) (to_be_bytes w64 r.prev) rest)
    ∙ rw (tx_field.again r.tx (to_be_bytes w64 r.prev ++ rest) (fits.some_tx, fits.tx), field64.again r.prev rest fits.prev) refl

pub plain_field : IsField plain_at plain FitsPlain
plain_field = record { takes = plain_takes; again = plain_again }
