-- Rolling back: what comes first, and what is left after it.
use Rattle.std.proofs.Common.{ℕ, suc, ◌≡◌, ◌≢◌, ◌<◌, ◌≤◌, true, false, cond, List, [], ◌∷◌, ◌++◌, refl, sym, ap, ap₂, ◌∙◌, subst, inl, inr, arith, eq-eqb, ne_eqb, eqb-true, eqb}
use Rattle.std.specs.Prelude.{flat_map}
use Rattle.std.proofs.lemmas.Bool.{cases_eq, false≢true, or_cases, or_left}
use Rattle.log_laws.specs.Records.{UpdateRecord, History, last_lsn}
use Rattle.log_laws.specs.Tail.{Finish, Undo, updates_where, is_stacked, is_lowest, is_among, is_empty, undo_of}
use Rattle.log_laws.proofs.Stacks.{Falls, Falls-among, IsUpdateOf}
use Rattle.log_laws.proofs.Filters.{lowest_below, lowest_on_top, not_among, Each, Leading, leading, first_update_gone}

-- the stacks have descending LSNs of updates of their transactions
pub record AreStacks (stack : ℕ → List ℕ) (log : History) : Type 0 where
  pub falls : (t : ℕ) → Falls (suc (last_lsn log)) (stack t)
  pub found : (t n : ℕ) → is_among n (stack t) ≡ true → IsUpdateOf t log n

-- the first update is on top of its transaction's stack
pub record OnTop (stack : ℕ → List ℕ) (p : ℕ × UpdateRecord) : Type 0 where
  pub below : List ℕ
  pub top : stack p.1.tx ≡ p.0 ∷ below
  pub falls : Falls p.0 below

-- the first update to undo is on top of its stack, since it is the newest
pub on_top : (stack : ℕ → List ℕ) (log : History) → AreStacks stack log → (p : ℕ × UpdateRecord) (ps : List (ℕ × UpdateRecord)) → updates_where (is_stacked stack) log ≡ p ∷ ps → OnTop stack p
on_top stack log s p ps first = by_stack (stack p.1.tx) refl
  where
    leads : Leading (is_stacked stack) log p ps
    leads = leading (is_stacked stack) log p ps first

    by_stack : (ns : List ℕ) → stack p.1.tx ≡ ns → OnTop stack p
    by_stack [] e = absurd (let f : false ≡ true = sym (ap (is_among p.0) e) ∙ leads.passes in false≢true f)
    by_stack (m ∷ ms) e =
        (let h : is_among p.0 (m ∷ ms) ≡ true = sym (ap (is_among p.0) e) ∙ leads.passes in
        let falls : Falls (suc (last_lsn log)) (m ∷ ms) = subst (λ ns. Falls (suc (last_lsn log)) ns) e (s.falls p.1.tx) in
        let top : is_among m (stack p.1.tx) ≡ true = ap (is_among m) e ∙ or_left (eqb m m) (is_among m ms) (eq-eqb m m refl) in
        let (u, found, own) = s.found p.1.tx m top in
        let le : m ≤ p.0 = leads.highest m u found (ap (λ x. is_among m (stack x)) own ∙ top) in
        let same : p.0 ≡ m =
        elim (or_cases (eqb p.0 m) (is_among p.0 ms) h) [
          | inl i ↦ eqb-true p.0 m i
          | inr i ↦ absurd (let lt : p.0 < m = Falls-among m p.0 ms falls.1 i in omega arith)
        ] in
        record { below = ms; top = e ∙ ap (λ x. x ∷ ms) (sym same); falls = subst (λ x. Falls x ms) (sym same) falls.1 })

-- the first update is taken off its stack
module _ (stack after : ℕ → List ℕ) (log : History) (p : ℕ × UpdateRecord) (ps : List (ℕ × UpdateRecord)) (first : updates_where (is_stacked stack) log ≡ p ∷ ps) (o : OnTop stack p)
    (own : after p.1.tx ≡ o.below) (other : (t : ℕ) → t ≢ p.1.tx → after t ≡ stack t) where
  others_stay : (m : ℕ) (w : UpdateRecord) → m ≢ p.0 → is_stacked after m w ≡ is_stacked stack m w
  others_stay m w n =
      elim (cases_eq w.tx p.1.tx) [
        | inl e ↦
            (let e' : eqb m p.0 ≡ false = ne_eqb m p.0 n in
            let x : is_among m (p.0 ∷ o.below) ≡ is_among m o.below = rw e' in
            ap (λ t. is_among m (after t)) e ∙ ap (is_among m) own ∙ sym x ∙ sym (ap (is_among m) o.top) ∙ sym (ap (λ t. is_among m (stack t)) e))
        | inr d ↦ ap (is_among m) (other w.tx d)
      ]

  pub others_left : updates_where (is_stacked after) log ≡ ps
  others_left = first_update_gone (is_stacked stack) (is_stacked after) log p ps first others_stay (ap (is_among p.0) own ∙ not_among p.0 o.below o.falls)

  same_lowest : (m : ℕ) (t : ℕ) → m ≢ p.0 → is_lowest m (after t) ≡ is_lowest m (stack t)
  same_lowest m t n =
      elim (cases_eq t p.1.tx) [
        | inl e ↦ ap (λ x. is_lowest m (after x)) e ∙ ap (is_lowest m) own ∙ sym (lowest_below m p.0 o.below n) ∙ sym (ap (is_lowest m) o.top) ∙ sym (ap (λ x. is_lowest m (stack x)) e)
        | inr d ↦ ap (is_lowest m) (other t d)
      ]

  same_undos : (xs : List (ℕ × UpdateRecord)) → Each (λ n u. n < p.0) xs → flat_map (undo_of after) xs ≡ flat_map (undo_of stack) xs
  same_undos [] e = refl
  same_undos (x ∷ xs) e =
      ap₂ (λ b ys. (Undo x.1 ∷ (cond b (Finish x.1.tx ∷ []) [])) ++ ys) (same_lowest x.0 x.1.tx (λ i. omega (arith, i, e.0))) (same_undos xs e.1)

  -- the CLR is first, followed by an end if no lower update is left, and then by the rest
  pub taken_off : flat_map (undo_of stack) (updates_where (is_stacked stack) log)
      ≡ Undo p.1 ∷ (cond (is_empty o.below) (Finish p.1.tx ∷ []) [] ++ flat_map (undo_of after) (updates_where (is_stacked after) log))
  taken_off =
      ap (flat_map (undo_of stack)) first
      ∙ ap₂ (λ b ys. Undo p.1 ∷ (cond b (Finish p.1.tx ∷ []) [] ++ ys)) (ap (is_lowest p.0) o.top ∙ lowest_on_top p.0 o.below o.falls)
      (sym (ap (flat_map (undo_of after)) others_left ∙ same_undos ps (leading (is_stacked stack) log p ps first).above))
