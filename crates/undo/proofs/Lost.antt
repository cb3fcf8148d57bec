-- The losers of a table: some of its entries, in the order of the table.
use Rattle.std.proofs.Common.{ℕ, suc, Bor, map, ◌≡◌, ◌≤◌, true, false, cond, List, [], ◌∷◌, ◌++◌, append-nil, Some, None, sym, ap, ◌∙◌, arith, eqb, inl, inr}
use Rattle.std.proofs.lemmas.Bool.{cases_Bool}
use Rattle.std.proofs.lemmas.List.Elements.{filter-append}
use Rattle.std.proofs.lemmas.List.{map_push}
use Rattle.std.specs.Map.Iter.{deref_pair}
use Rattle.wal.specs.declared.record.Entry.{Entry}
use Rattle.wal.specs.Content.{entry_of}
use Rattle.log_laws.specs.Records.{TableEntry}
use Rattle.log_laws.specs.Undo.{entry_for, is_lost, lost_in}
use Rattle.wal.proofs.Entries.{Rise}

-- one more entry
pub one_lost : (es : List TableEntry) (e : TableEntry) → is_lost e ≡ true → lost_in (es ++ e ∷ []) ≡ lost_in es ++ e ∷ []
one_lost es e i = filter-append is_lost es (e ∷ []) ∙ ap (λ c. lost_in es ++ cond c (e ∷ []) []) i

pub none_lost : (es : List TableEntry) (e : TableEntry) → is_lost e ≡ false → lost_in (es ++ e ∷ []) ≡ lost_in es
none_lost es e i = filter-append is_lost es (e ∷ []) ∙ ap (λ c. lost_in es ++ cond c (e ∷ []) []) i ∙ append-nil (lost_in es)

-- those before an entry and those after it
pub lost_about : (done rest : List TableEntry) (e : TableEntry) → is_lost e ≡ true → lost_in (done ++ e ∷ rest) ≡ lost_in done ++ e ∷ lost_in rest
lost_about done rest e i = filter-append is_lost done (e ∷ rest) ∙ ap (λ c. lost_in done ++ cond c (e ∷ lost_in rest) (lost_in rest)) i

-- numbers that ascend from one bound on ascend from a smaller one on
rise_from : (a b : ℕ) (es : List TableEntry) → a ≤ b → Rise b es → Rise a es
rise_from a b [] le h = tt
rise_from a b (e ∷ es) le h = (omega (arith, le, h.0), h.1)

pub lost_rise : (b : ℕ) (es : List TableEntry) → Rise b es → Rise b (lost_in es)
lost_rise b [] h = tt
lost_rise b (e ∷ es) h =
    elim (cases_Bool (is_lost e)) [
      | inl i ↦ rw i (h.0, lost_rise (suc e.tx) es h.1)
      | inr i ↦ rw i (rise_from b (suc e.tx) (lost_in es) (omega (arith, h.0)) (lost_rise (suc e.tx) es h.1))
    ]

-- a loser's entry is found among them
pub lost_found : (t : ℕ) (e : TableEntry) (es : List TableEntry) → entry_for t es ≡ Some e → is_lost e ≡ true → entry_for t (lost_in es) ≡ Some e
lost_found t e [] found i = found
lost_found t e (x ∷ es) found i =
    elim (cases_Bool (eqb x.tx t)) [
      | inl own ↦
          (let f : Some x ≡ Some e = sym (ap (λ c. cond c (Some x) (entry_for t es)) own) ∙ found in
          let same : x ≡ e = cc in
          ap (λ c. entry_for t (cond c (x ∷ lost_in es) (lost_in es))) (ap is_lost same ∙ i) ∙ ap (λ c. cond c (Some x) (entry_for t (lost_in es))) own ∙ f)
      | inr other ↦
          (let rest = lost_found t e es (sym (ap (λ c. cond c (Some x) (entry_for t es)) other) ∙ found) i in
          elim (cases_Bool (is_lost x)) [
            | inl j ↦ ap (λ c. entry_for t (cond c (x ∷ lost_in es) (lost_in es))) j ∙ ap (λ c. cond c (Some x) (entry_for t (lost_in es))) other ∙ rest
            | inr j ↦ ap (λ c. entry_for t (cond c (x ∷ lost_in es) (lost_in es))) j ∙ rest
          ])
    ]

-- a transaction without an entry has none among them
pub lost_none : (t : ℕ) (es : List TableEntry) → entry_for t es ≡ None → entry_for t (lost_in es) ≡ None
lost_none t [] none = none
lost_none t (x ∷ es) none =
    elim (cases_Bool (eqb x.tx t)) [
      | inl own ↦ absurd (let f : Some x ≡ None = sym (ap (λ c. cond c (Some x) (entry_for t es)) own) ∙ none in cc)
      | inr other ↦
          (let rest = lost_none t es (sym (ap (λ c. cond c (Some x) (entry_for t es)) other) ∙ none) in
          elim (cases_Bool (is_lost x)) [
            | inl j ↦ ap (λ c. entry_for t (cond c (x ∷ lost_in es) (lost_in es))) j ∙ ap (λ c. cond c (Some x) (entry_for t (lost_in es))) other ∙ rest
            | inr j ↦ ap (λ c. entry_for t (cond c (x ∷ lost_in es) (lost_in es))) j ∙ rest
          ])
    ]

-- the entries of the turns so far, and of one more turn
pub one_more : (yielded : List (Bor ℕ × Bor Entry)) (tx : Bor ℕ) (entry : Bor Entry)
    → map entry_of (map deref_pair (yielded ++ (tx, entry) ∷ [])) ≡ map entry_of (map deref_pair yielded) ++ entry_of (tx.now, entry.now) ∷ []
one_more yielded tx entry = ap (map entry_of) (map_push deref_pair yielded (tx, entry)) ∙ map_push entry_of (map deref_pair yielded) (tx.now, entry.now)
