-- A block that an index has keeps its place when another one is put into the index.
use Rattle.std.proofs.Common.{◌≡◌, ◌≢◌, ◌<◌, ℕ, zero, suc, false, true, List, [], ◌∷◌, Option, Some, None, length, get_or, set, refl, sym, ap, ◌∙◌, subst, inl, inr, arith, eqb-true, eq-eqb}
use Rattle.std.specs.Prelude.{◌≤◌, IfSome, IfNone}
use Rattle.std.specs.Ordering.{nat_cmp}
use Rattle.std.specs.BTreeMap.{get}
use Rattle.std.proofs.lemmas.Bool.{cases_eq}
use Rattle.std.proofs.lemmas.List.{length-set, get_or-set_other, get_or_past}
use Rattle.std.proofs.lemmas.Grind.{get_or-set_at}
use Rattle.audit.specs.declared.finish_table.Block.{Block}
use Rattle.audit.specs.declared.block_index.BlockIndex.{BlockIndex}
use Rattle.audit.specs.BlockIndex.{hash_of, home_of, tag_of, has_at, bucket_of, tag_at, place_at, IsFull, IsEntry, IsKept}
use Rattle.audit.specs.Finished.{place_of, empty_block, AreDistinct, IsIndexOf}
use Rattle.audit.proofs.Finished.{place_is}

pub tag_is_taken : (hash : ℕ) → tag_of hash ≢ 0
unfolding tag_of
tag_is_taken hash e = omega (arith, e)

-- AN ENTRY OF ALL BUCKETS
abbrev pub entry_of : List (List ℕ) → (bucket entry : ℕ) → ℕ
entry_of xss bucket entry = get_or (get_or xss bucket []) entry 0

abbrev pub with_entry : List (List ℕ) → (bucket entry value : ℕ) → List (List ℕ)
with_entry xss bucket entry value = set xss bucket (set (get_or xss bucket []) entry value)

module _ (xss : List (List ℕ)) (i k v : ℕ) where
  pub entry_set : i < length xss → k < length (get_or xss i []) → entry_of (with_entry xss i k v) i k ≡ v
  entry_set lt ltk =
      ap (λ (x : List ℕ). get_or x k 0) (get_or-set_at xss i i (set (get_or xss i []) k v) [] refl lt)
      ∙ get_or-set_at (get_or xss i []) k k v 0 refl ltk

  pub entry_set_other : (j l : ℕ) → i < length xss → (i ≡ j → k ≢ l) → entry_of (with_entry xss i k v) j l ≡ entry_of xss j l
  entry_set_other j l lt d =
      elim (cases_eq j i) [
        | inl e ↦
            ap (λ (x : List ℕ). get_or x l 0) (get_or-set_at xss i j (set (get_or xss i []) k v) [] e lt)
            ∙ (get_or-set_other (get_or xss i []) k l v 0 (λ z. d (sym e) (sym z)) ∙ ap (λ n. entry_of xss n l) (sym e))
        | inr ne ↦ ap (λ (x : List ℕ). get_or x l 0) (get_or-set_other xss i j (set (get_or xss i []) k v) [] ne)
      ]

-- A NEW ENTRY
-- in the bucket of a hash an entry is free, and is taken for a number at a place
pub record IsPut (old new : BlockIndex) (number place bucket entry : ℕ) : Type 0 where
  pub home : bucket ≡ bucket_of old (hash_of number)
  pub bucket_within : bucket < length old.tags.items
  pub sized : length old.places.items ≡ length old.tags.items
  pub entry_within : entry < 8
  pub free : tag_at old bucket entry ≡ 0
  pub tags_count : length (get_or old.tags.items bucket []) ≡ 8
  pub places_count : length (get_or old.places.items bucket []) ≡ 8
  pub tags : new.tags.items ≡ with_entry old.tags.items bucket entry (tag_of (hash_of number))
  pub places : new.places.items ≡ with_entry old.places.items bucket entry place
  pub others : new.others ≡ old.others

module _ (old new : BlockIndex) (number place bucket entry : ℕ) (put : IsPut old new number place bucket entry) where
  count : length new.tags.items ≡ length old.tags.items
  count = ap (λ (x : List (List ℕ)). length x) put.tags ∙ length-set old.tags.items bucket (set (get_or old.tags.items bucket []) entry (tag_of (hash_of number)))

  same_bucket : (hash : ℕ) → bucket_of new hash ≡ bucket_of old hash
  same_bucket hash = ap (home_of hash) count

  tag_after : (j l : ℕ) → (bucket ≡ j → entry ≢ l) → tag_at new j l ≡ tag_at old j l
  tag_after j l d = ap (λ (x : List (List ℕ)). entry_of x j l) put.tags ∙ entry_set_other old.tags.items bucket entry (tag_of (hash_of number)) j l put.bucket_within d

  place_after : (j l : ℕ) → (bucket ≡ j → entry ≢ l) → place_at new j l ≡ place_at old j l
  place_after j l d = ap (λ (x : List (List ℕ)). entry_of x j l) put.places ∙ entry_set_other old.places.items bucket entry place j l (omega (arith, put.bucket_within, put.sized)) d

  new_tag : tag_at new bucket entry ≡ tag_of (hash_of number)
  new_tag = ap (λ (x : List (List ℕ)). entry_of x bucket entry) put.tags ∙ entry_set old.tags.items bucket entry (tag_of (hash_of number)) put.bucket_within (omega (arith, put.entry_within, put.tags_count))

  full_after : (hash : ℕ) → IsFull old hash → IsFull new hash
  full_after hash full lt =
      elim (cases_eq entry 7) [
        | inl last ↦
            elim (cases_eq bucket (bucket_of old hash)) [
              | inl e ↦
                  (λ z. tag_is_taken (hash_of number)
                  (sym new_tag ∙ (ap (λ b. tag_at new b entry) (e ∙ sym (same_bucket hash)) ∙ (ap (tag_at new (bucket_of new hash)) last ∙ z))))
              | inr d ↦ kept_full (λ e. absurd (d e))
            ]
        | inr d ↦ kept_full (λ e. d)
      ]
    where
      kept_full : (bucket ≡ bucket_of old hash → entry ≢ 7) → tag_at new (bucket_of new hash) 7 ≢ 0
      kept_full d z = full (omega (arith, lt, count, same_bucket hash)) (sym (tag_after (bucket_of old hash) 7 d) ∙ (ap (λ b. tag_at new b 7) (sym (same_bucket hash)) ∙ z))

  pub put_keeps : (n p : ℕ) → IsKept old n p → IsKept new n p
  put_keeps n p (inl (k, is)) =
      let apart : bucket ≡ bucket_of old (hash_of n) → entry ≢ k = λ e z. tag_is_taken (hash_of n) (sym is.tagged ∙ (ap (λ b. tag_at old b k) (sym e) ∙ (ap (tag_at old bucket) (sym z) ∙ put.free))) in
      inl (
        k,
        record {
          within = is.within;
          tagged = ap (λ b. tag_at new b k) (same_bucket (hash_of n)) ∙ (tag_after (bucket_of old (hash_of n)) k apart ∙ is.tagged);
          placed = ap (λ b. place_at new b k) (same_bucket (hash_of n)) ∙ (place_after (bucket_of old (hash_of n)) k apart ∙ is.placed);
        },
      )
  put_keeps n p (inr is) = inr (full_after (hash_of n) is.0, ap (λ (m : _). get nat_cmp m n) put.others ∙ is.1)

-- A LOOK-UP
module _ (blocks : List Block) (number place : ℕ) where
  at_is : has_at blocks number place ≡ true → (d : Block) → (place < length blocks) × ((get_or blocks place d).number ≡ number)
  at_is has d = of blocks place has
    where
      of : (bs : List Block) (i : ℕ) → has_at bs number i ≡ true → (i < length bs) × ((get_or bs i d).number ≡ number)
      of [] i h = absurd cc
      of (b ∷ bs) zero h = (omega arith, eqb-true b.number number h)
      of (b ∷ bs) (suc i) h = let below = of bs i h in (omega (arith, below.0), below.1)

  is_at : (d : Block) → place < length blocks → (get_or blocks place d).number ≡ number → has_at blocks number place ≡ true
  is_at d lt e = of blocks place lt e
    where
      of : (bs : List Block) (i : ℕ) → i < length bs → (get_or bs i d).number ≡ number → has_at bs number i ≡ true
      of [] i lt e = absurd (omega (arith, lt))
      of (b ∷ bs) zero lt e = eq-eqb b.number number e
      of (b ∷ bs) (suc i) lt e = of bs i (omega (arith, lt)) e

  -- a block with the number is at the place of the number
  pub found_at : AreDistinct blocks → has_at blocks number place ≡ true → Some place ≡ place_of blocks number
  found_at distinct has =
      let none : Block = empty_block 0 in
      let at = at_is has none in
      sym (ap (place_of blocks) (sym at.1) ∙ distinct place none at.0)

-- no entry of its bucket and no other has the number
pub none_found : (blocks : List Block) (index : BlockIndex) (number : ℕ) → IsIndexOf blocks index
    → ((p : ℕ) → IsKept index number p → has_at blocks number p ≡ false) → None ≡ place_of blocks number
none_found blocks index number is missing = by (place_of blocks number) refl
  where
    by : (o : Option ℕ) → place_of blocks number ≡ o → None ≡ place_of blocks number
    by None e = sym e
    by (Some p) e =
        let none : Block = empty_block 0 in
        let at = place_is blocks number p e in
        let has : has_at blocks number p ≡ true = is_at blocks number p none at.within (at.number none) in
        let kept : IsKept index number p = subst (λ n. IsKept index n p) (at.number none) (is.kept p none at.within) in
        absurd (let clash : true ≡ false = sym has ∙ missing p kept in cc)

module _ (blocks : List Block) (index : BlockIndex) (number home : ℕ) (home_is : home ≡ bucket_of index (hash_of number)) where
  -- no entry of the bucket has the tag and the number
  pub not_in_bucket : (tag : ℕ) → tag ≡ tag_of (hash_of number)
      → ((k : ℕ) → k < 8 → tag_at index home k ≡ tag → has_at blocks number (place_at index home k) ≡ false)
      → (p k : ℕ) → IsEntry index number p k → has_at blocks number p ≡ false
  not_in_bucket tag tag_is none p k is =
      ap (has_at blocks number) (sym is.placed ∙ ap (λ b. place_at index b k) (sym home_is))
      ∙ none k is.within (ap (λ b. tag_at index b k) home_is ∙ (is.tagged ∙ sym tag_is))

  pub no_bucket : length index.tags.items ≤ home → (p k : ℕ) → IsEntry index number p k → has_at blocks number p ≡ false
  no_bucket past p k is =
      absurd (tag_is_taken (hash_of number)
      (sym is.tagged ∙ (ap (λ b. tag_at index b k) (sym home_is) ∙ (ap (λ (x : List ℕ). get_or x k 0) (get_or_past index.tags.items home [] past) ∙ get_or_past [] k 0 (omega arith)))))

  -- a bucket with a free entry: no other has the number
  pub none_of_others : tag_at index home 7 ≡ 0 → home < length index.tags.items → IsIndexOf blocks index
      → ((p k : ℕ) → IsEntry index number p k → has_at blocks number p ≡ false) → None ≡ place_of blocks number
  none_of_others free lt is none = none_found blocks index number is missing
    where
      missing : (p : ℕ) → IsKept index number p → has_at blocks number p ≡ false
      missing p (inl (k, entry)) = none p k entry
      missing p (inr (full, _)) = absurd (full (omega (arith, lt, home_is)) (ap (λ b. tag_at index b 7) (sym home_is) ∙ free))

pub looked_up : (blocks : List Block) (index : BlockIndex) (number : ℕ) (o : Option ℕ) → AreDistinct blocks → IsIndexOf blocks index
    → ((p k : ℕ) → IsEntry index number p k → has_at blocks number p ≡ false)
    → IfSome o (λ p. has_at blocks number p ≡ true) → IfNone o ((p : ℕ) → get nat_cmp index.others number ≡ Some p → has_at blocks number p ≡ false)
    → o ≡ place_of blocks number
looked_up blocks index number None distinct is none found missing = none_found blocks index number is absent
  where
    absent : (p : ℕ) → IsKept index number p → has_at blocks number p ≡ false
    absent p (inl (k, entry)) = none p k entry
    absent p (inr (_, other)) = missing p other
looked_up blocks index number (Some p) distinct is none found missing = found_at blocks number p distinct found
