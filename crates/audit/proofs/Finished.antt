-- Blocks of finished transactions, found by their numbers.
use Rattle.std.proofs.Common.{◌≡◌, ◌≢◌, ◌<◌, ◌≤◌, ℕ, zero, suc, Bool, true, false, cond, eqb, List, [], ◌∷◌, ◌++◌, Option, Some, None, length, get_or, set, take, refl, sym, ap, ◌∙◌, subst, inl, inr, arith, eq-eqb, ne_eqb, length-append}
use Rattle.std.specs.Prelude.{option_map, ◌/◌, ◌%◌}
use Rattle.std.proofs.lemmas.Bool.{cases_Bool, cases_eq, cases_lt}
use Rattle.std.proofs.lemmas.List.{length-set, length-take, get_or-take, get_or-set_other, get_or_append_left, get_or_push}
use Rattle.std.proofs.lemmas.Grind.{get_or-set_at}
use Rattle.std.proofs.lemmas.Option.{same_Some}
use Rattle.log_laws.specs.Checkpoint.{or_else}
use Rattle.audit.specs.declared.standing.Finish.{Finish}
use Rattle.audit.specs.declared.finishes.Finishes.{Finishes}
use Rattle.audit.specs.declared.finish_table.Block.{Block}
use Rattle.audit.specs.declared.block_index.BlockIndex.{BlockIndex}
use Rattle.audit.specs.BlockIndex.{IsKept}
use Rattle.audit.specs.Finishes.{finish_at, no_finishes, IsNoted}
use Rattle.audit.specs.Finished.{block_in, finish_in, place_of, empty_block, AreDistinct, IsIndexOf}
use Rattle.audit.specs.declared.finish_table.TheConstants.{BLOCK}

-- WHERE A BLOCK STANDS
later : (o : Option ℕ) (p : ℕ) → option_map suc o ≡ Some p → (q : ℕ) × (o ≡ Some q) × (suc q ≡ p)
later None p e = absurd cc
later (Some q) p e = (q, refl, same_Some (suc q) p e)

-- the block at the place of a number has that number, and its finishes are those of the number
pub record IsAt (blocks : List Block) (n p : ℕ) : Type 0 where
  pub within : p < length blocks
  pub number : (d : Block) → (get_or blocks p d).number ≡ n
  pub finishes : (d : Block) → block_in blocks n ≡ (get_or blocks p d).finishes

pub place_is : (blocks : List Block) (n p : ℕ) → place_of blocks n ≡ Some p → IsAt blocks n p
place_is [] n p e = absurd cc
place_is (b ∷ blocks) n p e =
    elim (cases_eq b.number n) [
      | inl own ↦
          subst (IsAt (b ∷ blocks) n) (same_Some 0 p (rw (eq-eqb b.number n own) at e))
          (record { within = omega arith; number = λ d. own; finishes = λ d. rw (eq-eqb b.number n own) refl })
      | inr ne ↦
          (let l = later (place_of blocks n) p (rw (ne_eqb b.number n ne) at e) in
          let below = place_is blocks n l.0 l.1 in
          subst (IsAt (b ∷ blocks) n) l.2
          (record { within = omega (arith, below.within); number = below.number; finishes = λ d. rw (ne_eqb b.number n ne) (below.finishes d) }))
    ]

pub none_is : (blocks : List Block) (n : ℕ) → place_of blocks n ≡ None → block_in blocks n ≡ no_finishes
none_is [] n e = refl
none_is (b ∷ blocks) n e =
    elim (cases_eq b.number n) [
      | inl own ↦ absurd (let some : Some 0 ≡ None = rw (eq-eqb b.number n own) at e in cc)
      | inr ne ↦ rw (ne_eqb b.number n ne) (none_is blocks n (no_later (place_of blocks n) (rw (ne_eqb b.number n ne) at e)))
    ]
  where
    no_later : (o : Option ℕ) → option_map suc o ≡ None → o ≡ None
    no_later None e = refl
    no_later (Some q) e = absurd cc

-- no block before the place of a number has that number
pub none_before : (blocks : List Block) (n p i : ℕ) → place_of blocks n ≡ Some p → i ≤ p → place_of (take i blocks) n ≡ None
none_before blocks n p zero e le = refl
none_before [] n p (suc i) e le = refl
none_before (b ∷ blocks) n p (suc i) e le =
    elim (cases_eq b.number n) [
      | inl own ↦ absurd (let first : 0 ≡ p = same_Some 0 p (rw (eq-eqb b.number n own) at e) in omega (arith, le, first))
      | inr ne ↦
          (let l = later (place_of blocks n) p (rw (ne_eqb b.number n ne) at e) in
          let next : suc l.0 ≡ p = l.2 in
          rw (ne_eqb b.number n ne) (ap (option_map suc) (none_before blocks n l.0 i l.1 (omega (arith, le, next)))))
    ]

-- the place of a number is that among the blocks up to it
place_take : (blocks : List Block) (n p i : ℕ) → place_of blocks n ≡ Some p → p < i → place_of (take i blocks) n ≡ Some p
place_take blocks n p zero e lt = absurd (omega (arith, lt))
place_take [] n p (suc i) e lt = e
place_take (b ∷ blocks) n p (suc i) e lt =
    elim (cases_eq b.number n) [
      | inl own ↦ rw (eq-eqb b.number n own) (rw (eq-eqb b.number n own) at e)
      | inr ne ↦
          (let l = later (place_of blocks n) p (rw (ne_eqb b.number n ne) at e) in
          let next : suc l.0 ≡ p = l.2 in
          rw (ne_eqb b.number n ne) (ap (option_map suc) (place_take blocks n l.0 i l.1 (omega (arith, lt, next))) ∙ ap Some next))
    ]

pub distinct_take : (blocks : List Block) (i : ℕ) → AreDistinct blocks → AreDistinct (take i blocks)
distinct_take blocks i distinct p d lt =
    let below : (p < i) × (p < length blocks) = (omega (arith, lt, length-take i blocks), omega (arith, lt, length-take i blocks)) in
    rw (get_or-take i blocks p d below.0) (place_take blocks (get_or blocks p d).number p i (distinct p d below.1) below.0)

-- ONE BLOCK MORE
pub place_push : (blocks : List Block) (b : Block) (n : ℕ) → place_of (blocks ++ b ∷ []) n ≡ or_else (place_of blocks n) (cond (eqb b.number n) (Some (length blocks)) None)
place_push [] b n = refl
place_push (c ∷ blocks) b n =
    elim (cases_eq c.number n) [
      | inl own ↦ rw (eq-eqb c.number n own) refl
      | inr ne ↦ rw (ne_eqb c.number n ne) (ap (option_map suc) (place_push blocks b n) ∙ step (place_of blocks n) (eqb b.number n) (length blocks))
    ]
  where
    step : (o : Option ℕ) (t : Bool) (k : ℕ) → option_map suc (or_else o (cond t (Some k) None)) ≡ or_else (option_map suc o) (cond t (Some (suc k)) None)
    step None true k = refl
    step None false k = refl
    step (Some x) t k = refl

block_push : (blocks : List Block) (m n : ℕ) → block_in (blocks ++ empty_block m ∷ []) n ≡ block_in blocks n
block_push [] m n = elim (cases_Bool (eqb m n)) [ inl e ↦ rw e refl | inr e ↦ rw e refl ]
block_push (c ∷ blocks) m n =
    elim (cases_eq c.number n) [
      | inl own ↦ rw (eq-eqb c.number n own) refl
      | inr ne ↦ rw (ne_eqb c.number n ne) (block_push blocks m n)
    ]

pub finish_push : (blocks : List Block) (m t : ℕ) → finish_in (blocks ++ empty_block m ∷ []) t ≡ finish_in blocks t
finish_push blocks m t = ap (λ (x : Finishes). finish_at x (t % BLOCK)) (block_push blocks m (t / BLOCK))

-- a new number is found after the others
pub place_new : (blocks : List Block) (m : ℕ) → place_of blocks m ≡ None → place_of (blocks ++ empty_block m ∷ []) m ≡ Some (length blocks)
place_new blocks m none =
    place_push blocks (empty_block m) m ∙ (ap (λ o. or_else o (cond (eqb m m) (Some (length blocks)) None)) none ∙ ap (λ t. cond t (Some (length blocks)) None) (eq-eqb m m refl))

pub distinct_push : (blocks : List Block) (m : ℕ) → AreDistinct blocks → place_of blocks m ≡ None → AreDistinct (blocks ++ empty_block m ∷ [])
distinct_push blocks m distinct none p d lt =
    elim (cases_lt p (length blocks)) [
      | inl below ↦
          rw (get_or_append_left blocks (empty_block m ∷ []) d p below)
          (place_push blocks (empty_block m) (get_or blocks p d).number ∙ ap (λ o. or_else o (cond (eqb m (get_or blocks p d).number) (Some (length blocks)) None)) (distinct p d below))
      | inr behind ↦
          (let last : p ≡ length blocks = omega (arith, lt, behind, length-append blocks (empty_block m ∷ [])) in
          rw (get_or_push blocks (empty_block m) d p (sym last)) (place_new blocks m none ∙ ap Some (sym last)))
    ]

-- an index that keeps all places but that of a new number
module _ (blocks : List Block) (number : ℕ) (old new : BlockIndex) (distinct : AreDistinct blocks) (index : IsIndexOf blocks old) (none : place_of blocks number ≡ None)
    (sized : length new.places.items ≡ length new.tags.items) (keeps : (n p : ℕ) → n ≢ number → IsKept old n p → IsKept new n p) where
  kept_before : (p : ℕ) (d : Block) → p < length blocks → IsKept new (get_or blocks p d).number p
  kept_before p d lt =
      keeps (get_or blocks p d).number p
      (λ e. absurd (let clash : Some p ≡ None = sym (distinct p d lt) ∙ (ap (place_of blocks) e ∙ none) in cc))
      (index.kept p d lt)

  pub index_kept : IsIndexOf blocks new
  index_kept = record { kept = kept_before; sized = sized }

  pub index_push : (b : Block) → b.number ≡ number → IsKept new number (length blocks) → IsIndexOf (blocks ++ b ∷ []) new
  index_push b own put = record {
    kept = λ p d lt.
        elim (cases_lt p (length blocks)) [
          | inl below ↦ rw (get_or_append_left blocks (b ∷ []) d p below) (kept_before p d below)
          | inr behind ↦
              (let last : p ≡ length blocks = omega (arith, lt, behind, length-append blocks (b ∷ [])) in
              rw (get_or_push blocks b d p (sym last), own, last) put)
        ];
    sized = sized;
  }

-- ONE BLOCK CHANGED
module _ (blocks : List Block) (p : ℕ) (b : Block) where
  pub place_set : (d : Block) (n : ℕ) → b.number ≡ (get_or blocks p d).number → place_of (set blocks p b) n ≡ place_of blocks n
  place_set d n same = places blocks p same
    where
      places : (bs : List Block) (i : ℕ) → b.number ≡ (get_or bs i d).number → place_of (set bs i b) n ≡ place_of bs n
      places [] i same = refl
      places (c ∷ bs) zero same = ap (λ k. cond (eqb k n) (Some 0) (option_map suc (place_of bs n))) same
      places (c ∷ bs) (suc i) same = ap (λ o. cond (eqb c.number n) (Some 0) (option_map suc o)) (places bs i same)

  pub block_set_other : (d : Block) (n : ℕ) → b.number ≡ (get_or blocks p d).number → b.number ≢ n → block_in (set blocks p b) n ≡ block_in blocks n
  block_set_other d n same ne = of blocks p same
    where
      of : (bs : List Block) (i : ℕ) → b.number ≡ (get_or bs i d).number → block_in (set bs i b) n ≡ block_in bs n
      of [] i same = refl
      of (c ∷ bs) zero same = rw (ne_eqb b.number n ne, ne_eqb c.number n (λ e. ne (same ∙ e))) refl
      of (c ∷ bs) (suc i) same = ap (λ (x : Finishes). cond (eqb c.number n) c.finishes x) (of bs i same)

  pub distinct_set : (e : Block) → b.number ≡ (get_or blocks p e).number → p < length blocks → AreDistinct blocks → AreDistinct (set blocks p b)
  distinct_set e same within distinct q d lt =
      let Q : Block → Type 0 = λ x. place_of (set blocks p b) x.number ≡ Some q in
      elim (cases_eq q p) [
        | inl here ↦
            subst Q (sym (get_or-set_at blocks p q b d here within))
            (place_set e b.number same ∙ (ap (place_of blocks) same ∙ (distinct p e within ∙ ap Some (sym here))))
        | inr ne ↦
            subst Q (sym (get_or-set_other blocks p q b d ne))
            (place_set e (get_or blocks q d).number same ∙ distinct q d (omega (arith, lt, length-set blocks p b)))
      ]

  pub index_set : (e : Block) (index : BlockIndex) → b.number ≡ (get_or blocks p e).number → p < length blocks → IsIndexOf blocks index → IsIndexOf (set blocks p b) index
  index_set e index same within is = record {
    kept = λ q d lt.
        let Q : Block → Type 0 = λ x. IsKept index x.number q in
        elim (cases_eq q p) [
          | inl here ↦
              subst Q (sym (get_or-set_at blocks p q b d here within))
              (subst (λ n. IsKept index n q) (sym same) (subst (λ i. IsKept index (get_or blocks p e).number i) (sym here) (is.kept p e within)))
          | inr ne ↦ subst Q (sym (get_or-set_other blocks p q b d ne)) (is.kept q d (omega (arith, lt, length-set blocks p b)))
        ];
    sized = is.sized;
  }

-- how one more transaction has finished is noted in its block
same_place : (tx t : ℕ) → tx / BLOCK ≡ t / BLOCK → eqb (tx % BLOCK) (t % BLOCK) ≡ eqb tx t
same_place tx t e =
    elim (cases_eq tx t) [
      | inl same ↦ eq-eqb (tx % BLOCK) (t % BLOCK) (ap (λ n. n % BLOCK) same) ∙ sym (eq-eqb tx t same)
      | inr ne ↦ ne_eqb (tx % BLOCK) (t % BLOCK) (λ r. ne (omega (arith, r, e))) ∙ sym (ne_eqb tx t ne)
    ]

pub finish_noted : (blocks : List Block) (p tx : ℕ) (finish : Finish) (d after : Block) → place_of blocks (tx / BLOCK) ≡ Some p → after.number ≡ (get_or blocks p d).number
    → IsNoted (get_or blocks p d).finishes (tx % BLOCK) finish after.finishes → (t : ℕ) → finish_in (set blocks p after) t ≡ cond (eqb tx t) (Some finish) (finish_in blocks t)
finish_noted blocks p tx finish d after is same noted t =
    let at = place_is blocks (tx / BLOCK) p is in
    let read = λ (x : Finishes). finish_at x (t % BLOCK) in
    elim (cases_eq (tx / BLOCK) (t / BLOCK)) [
      | inl e ↦
          (let here : place_of (set blocks p after) (t / BLOCK) ≡ Some p = place_set blocks p after d (t / BLOCK) same ∙ (ap (place_of blocks) (sym e) ∙ is) in
          let put : (get_or (set blocks p after) p d).finishes ≡ after.finishes = ap (λ (b : Block). b.finishes) (get_or-set_at blocks p p after d refl at.within) in
          let new : block_in (set blocks p after) (t / BLOCK) ≡ after.finishes = (place_is (set blocks p after) (t / BLOCK) p here).finishes d ∙ put in
          let old : block_in blocks (t / BLOCK) ≡ (get_or blocks p d).finishes = ap (block_in blocks) (sym e) ∙ at.finishes d in
          ap read new
          ∙ (noted (t % BLOCK) (omega arith)
          ∙ (ap (λ b. cond b (Some finish) (read (get_or blocks p d).finishes)) (same_place tx t e) ∙ ap (λ (x : Finishes). cond (eqb tx t) (Some finish) (read x)) (sym old))))
      | inr ne ↦
          ap read (block_set_other blocks p after d (t / BLOCK) same (λ e. ne (sym (at.number d) ∙ (sym same ∙ e))))
          ∙ sym (ap (λ b. cond b (Some finish) (finish_in blocks t)) (ne_eqb tx t (λ e. ne (ap (λ n. n / BLOCK) e))))
    ]
