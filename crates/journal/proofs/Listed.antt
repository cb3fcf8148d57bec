-- What the tables of a checkpoint list is true.
use Rattle.std.proofs.Common.{◌≡◌, ◌≢◌, ◌<◌, ◌≤◌, ◌+◌, ℕ, zero, suc, true, false, not, List, [], ◌∷◌, ◌++◌, length, get_or, map, Option, Some, None, refl, sym, ap, ap₂, ◌∙◌, inl, inr, arith, eqb, eq-eqb, ne_eqb, eqb-true}
use Rattle.std.specs.Prelude.{All, flat_map, ⊤}
use Rattle.std.specs.List.Sorted.{IsStrictlySortedBy}
use Rattle.std.specs.Map.{lookup, keys_of}
use Rattle.std.specs.Ordering.{is_eq, nat_cmp}
use Rattle.std.proofs.lemmas.Bool.{cases_Bool, both_ways, and_from, not_from_false, eqb-false}
use Rattle.std.proofs.lemmas.List.Elements.{All-nil, All-cons}
use Rattle.std.proofs.lemmas.Map.Keys.{sorted_tail, below_from_sorted}
use Rattle.wal.specs.Content.{entry_of}
use Rattle.log_laws.specs.Records.{TableEntry, tx_in, History}
use Rattle.log_laws.specs.Meaning.{is_of, has, finished, is_unfinished, last_of}
use Rattle.log_laws.specs.Redo.{rec_lsn_of}
use Rattle.log_laws.specs.Checkpoint.{true_entry, true_table, IsTrueEntry, Lists}
use Rattle.wal.proofs.Entries.{is_eq-nat_cmp}
use Rattle.log_laws.proofs.Rising.{RisesFrom, rises_rising, rises_more}
use Rattle.log_laws.proofs.Holders.{unfinished_has, unfinished_open}
use Rattle.log_laws.proofs.TrueTable.{table_is}
use Rattle.log_laws.proofs.Histories.{has_none, has_some}
use Rattle.journal.specs.Transactions.{Transaction}
use Rattle.journal.specs.PageStates.{PageState}
use Rattle.journal.specs.Transactions.{IsTransaction}
use Rattle.journal.specs.Listed.{listed, listed_from, listed_page}

-- ENTRIES IN ORDER
abbrev pub Row : Type 0
Row = ℕ × Transaction

abbrev pub at : ℕ → List Row → Option Transaction
at t es = lookup (λ k. is_eq (nat_cmp t k)) es

abbrev pub table : List Row → List TableEntry
table es = map entry_of (flat_map listed es)

abbrev pub Heads : ℕ → List Row → Type 0
Heads b [] = ⊤
Heads b (e ∷ es) = b ≤ e.0

heads_behind : (e : Row) (es : List Row) → IsStrictlySortedBy nat_cmp (keys_of (e ∷ es)) → Heads (e.0 + 1) es
heads_behind e [] s = tt
heads_behind e (f ∷ es) s =
    let lt : e.0 < f.0 = below_from_sorted (keys_of (e ∷ f ∷ es)) 0 1 0 s (omega arith) (omega arith) in
    omega (arith, lt)

sorted_behind : (e : Row) (es : List Row) → IsStrictlySortedBy nat_cmp (keys_of (e ∷ es)) → IsStrictlySortedBy nat_cmp (keys_of es)
sorted_behind e es s = sorted_tail nat_cmp e.0 (keys_of es) s

pub rises : (b : ℕ) (es : List Row) → IsStrictlySortedBy nat_cmp (keys_of es) → Heads b es → RisesFrom b (map tx_in (table es))
rises b [] s h = tt
rises b (e ∷ es) s h =
    let rest : RisesFrom (e.0 + 1) (map tx_in (table es)) = rises (e.0 + 1) es (sorted_behind e es s) (heads_behind e es s) in
    elim (cases_Bool (eqb e.1.entry.last 0)) [
      | inl z ↦ rw z (rises_more b (e.0 + 1) (map tx_in (table es)) (omega (arith, h)) rest)
      | inr n ↦ rw n (h, rest)
    ]

-- what is found has a number from there on
found_above : (b t : ℕ) (x : Transaction) (es : List Row) → IsStrictlySortedBy nat_cmp (keys_of es) → Heads b es → at t es ≡ Some x → b ≤ t
found_above b t x [] s h f = absurd (cc)
found_above b t x (e ∷ es) s h f =
    elim (cases_Bool (eqb t e.0)) [
      | inl i ↦ (let same : t ≡ e.0 = eqb-true t e.0 i in omega (arith, same, h))
      | inr i ↦
          (let j : is_eq (nat_cmp t e.0) ≡ false = is_eq-nat_cmp t e.0 ∙ i in
          let behind = found_above (e.0 + 1) t x es (sorted_behind e es s) (heads_behind e es s) (rw j at f) in
          omega (arith, behind, h))
    ]

-- TRUE ENTRIES
true_of : (log : History) (t : ℕ) (x : Transaction) → IsTransaction log t x → eqb x.entry.last 0 ≡ false → IsTrueEntry log (entry_of (t, x.entry))
true_of log t x h some =
    let begun : has (is_of t) log ≡ true = has_some t log (λ z. eqb-false x.entry.last 0 some (h.last ∙ z)) in (
      and_from (has (is_of t) log) (not (finished t log)) begun (not_from_false (finished t log) h.unfinished),
      ap (λ s. record { tx = t; state = s; last = x.entry.last; undo_next = x.entry.undo_next }) h.state
          ∙ ap₂ (λ l u. record { tx = t; state = (true_entry log t).state; last = l; undo_next = u }) h.last h.undo_next,
    )

pub entries_true : (log : History) (es : List Row) → IsStrictlySortedBy nat_cmp (keys_of es) → ((t : ℕ) (x : Transaction) → at t es ≡ Some x → IsTransaction log t x) → All (IsTrueEntry log) (table es)
entries_true log [] s h = All-nil (IsTrueEntry log)
entries_true log (e ∷ es) s h =
    let own : at e.0 (e ∷ es) ≡ Some e.1 = (let i : is_eq (nat_cmp e.0 e.0) ≡ true = is_eq-nat_cmp e.0 e.0 ∙ eq-eqb e.0 e.0 refl in rw i refl) in
    let rest : All (IsTrueEntry log) (table es) =
    entries_true log es (sorted_behind e es s)
    (λ t x f.
    let above = found_above (e.0 + 1) t x es (sorted_behind e es s) (heads_behind e es s) f in
    let i : is_eq (nat_cmp t e.0) ≡ false = is_eq-nat_cmp t e.0 ∙ ne_eqb t e.0 (λ z. omega (arith, z, above)) in
    h t x (rw i f)) in
    elim (cases_Bool (eqb e.1.entry.last 0)) [
      | inl z ↦ rw z rest
      | inr n ↦ rw n (All-cons (IsTrueEntry log) (entry_of (e.0, e.1.entry)) (table es) (true_of log e.0 e.1 (h e.0 e.1 own) n) rest)
    ]

-- EACH ONE
there : (t : ℕ) (x : Transaction) (es : List Row) → at t es ≡ Some x → eqb x.entry.last 0 ≡ false → Lists (table es) t
there t x [] f n = absurd (cc)
there t x (e ∷ es) f n =
    elim (cases_Bool (eqb t e.0)) [
      | inl i ↦
          (let j : is_eq (nat_cmp t e.0) ≡ true = is_eq-nat_cmp t e.0 ∙ i in
          let g : Some e.1 ≡ Some x = rw j at f in
          let same : e.1 ≡ x = cc in
          let m : eqb e.1.entry.last 0 ≡ false = ap (λ (y : Transaction). eqb y.entry.last 0) same ∙ n in
          rw m (zero, entry_of (e.0, e.1.entry), refl, sym (eqb-true t e.0 i)))
      | inr i ↦
          (let j : is_eq (nat_cmp t e.0) ≡ false = is_eq-nat_cmp t e.0 ∙ i in
          let l : Lists (table es) t = there t x es (rw j at f) n in
          elim (cases_Bool (eqb e.1.entry.last 0)) [
            | inl z ↦ rw z l
            | inr m ↦ rw m (suc l.0, l.1, l.2, l.3)
          ])
    ]

pub transactions_true : (log : History) (es : List Row) → IsStrictlySortedBy nat_cmp (keys_of es) → ((t : ℕ) (x : Transaction) → at t es ≡ Some x → IsTransaction log t x)
    → ((t : ℕ) → at t es ≡ None → has (is_of t) log ≡ true → finished t log ≡ true) → table es ≡ true_table log
transactions_true log es s each others =
    table_is log (table es) (rises_rising 0 (map tx_in (table es)) (rises 0 es s (heads es))) (entries_true log es s each)
    (λ t live. by_kept t live (at t es) refl)
  where
    heads : (fs : List Row) → Heads 0 fs
    heads [] = tt
    heads (f ∷ fs) = omega arith

    by_kept : (t : ℕ) → is_unfinished t log ≡ true → (o : Option Transaction) → at t es ≡ o → Lists (table es) t
    by_kept t live None e = absurd (both_ways (finished t log) (unfinished_open t log live) (others t e (unfinished_has t log live)))
    by_kept t live (Some x) e =
        elim (cases_Bool (eqb x.entry.last 0)) [
          | inl z ↦
              absurd (let none : last_of t log ≡ 0 = sym (each t x e).last ∙ eqb-true x.entry.last 0 z in
              both_ways (has (is_of t) log) (has_none t log none) (unfinished_has t log live))
          | inr n ↦ there t x es e n
        ]

-- DIRTY PAGES, whose numbers ascend
abbrev pub CountFrom : ℕ → List PageState → Type 0
CountFrom b ps = (k : ℕ) (d : PageState) → k < length ps → (get_or ps k d).page.number ≡ b + k

pub count_behind : (b : ℕ) (p : PageState) (ps : List PageState) → CountFrom b (p ∷ ps) → CountFrom (b + 1) ps
count_behind b p ps h k d lt = h (suc k) d (omega arith) ∙ omega arith

pub first_number : (b : ℕ) (p : PageState) (ps : List PageState) → CountFrom b (p ∷ ps) → p.page.number ≡ b
first_number b p ps h = h 0 p (omega arith) ∙ omega arith

-- an entry of another page
skip : (number page : ℕ) (o : Option ℕ) (rest : List (ℕ × ℕ)) → number ≢ page → rec_lsn_of page (listed_from number o ++ rest) ≡ rec_lsn_of page rest
skip number page None rest n = refl
skip number page (Some r) rest n = (let e : eqb number page ≡ false = ne_eqb number page n in rw e refl)

none_below : (b page : ℕ) (ps : List PageState) → CountFrom b ps → page < b → rec_lsn_of page (flat_map listed_page ps) ≡ None
none_below b page [] h lt = refl
none_below b page (p ∷ ps) h lt =
    let number = first_number b p ps h in
    skip p.page.number page p.rec_lsn (flat_map listed_page ps) (λ e. omega (arith, e, number, lt))
    ∙ none_below (b + 1) page ps (count_behind b p ps h) (omega (arith, lt))

here : (number : ℕ) (o : Option ℕ) (rest : List (ℕ × ℕ)) → rec_lsn_of number rest ≡ None → rec_lsn_of number (listed_from number o ++ rest) ≡ o
here number None rest e = e
here number (Some r) rest e = (let i : eqb number number ≡ true = eq-eqb number number refl in rw i refl)

rec_lsn_from : (b : ℕ) (ps : List PageState) → CountFrom b ps → (k : ℕ) (d : PageState) → k < length ps → rec_lsn_of (b + k) (flat_map listed_page ps) ≡ (get_or ps k d).rec_lsn
rec_lsn_from b [] h k d lt = absurd (omega (arith, lt))
rec_lsn_from b (p ∷ ps) h zero d lt =
    let number = first_number b p ps h in
    let same : b + 0 ≡ p.page.number = omega (arith, number) in
    ap (λ n. rec_lsn_of n (flat_map listed_page (p ∷ ps))) same
    ∙ here p.page.number p.rec_lsn (flat_map listed_page ps) (none_below (b + 1) p.page.number ps (count_behind b p ps h) (omega (arith, number)))
rec_lsn_from b (p ∷ ps) h (suc k) d lt =
    let number = first_number b p ps h in
    skip p.page.number (b + suc k) p.rec_lsn (flat_map listed_page ps) (λ e. omega (arith, e, number))
    ∙ ap (λ n. rec_lsn_of n (flat_map listed_page ps)) (omega arith)
    ∙ rec_lsn_from (b + 1) ps (count_behind b p ps h) k d (omega (arith, lt))

pub rec_lsns_are : (ps : List PageState) → ((k : ℕ) (d : PageState) → k < length ps → (get_or ps k d).page.number ≡ k) → (page : ℕ) (d : PageState) → page < length ps → rec_lsn_of page (flat_map listed_page ps) ≡ (get_or ps page d).rec_lsn
rec_lsns_are ps h page d lt =
    ap (λ n. rec_lsn_of n (flat_map listed_page ps)) (omega arith)
    ∙ rec_lsn_from 0 ps (λ k d lt. h k d lt ∙ omega arith) page d lt

-- they are pages of the store
named_from : (b count : ℕ) (ps : List PageState) → CountFrom b ps → b + length ps ≤ count → All (λ (d : ℕ × ℕ). d.0 < count) (flat_map listed_page ps)
named_from b count [] h le = All-nil (λ (d : ℕ × ℕ). d.0 < count)
named_from b count (p ∷ ps) h le = by_rec_lsn p.rec_lsn (named_from (b + 1) count ps (count_behind b p ps h) (omega (arith, le)))
  where
    by_rec_lsn : (o : Option ℕ) → All (λ (d : ℕ × ℕ). d.0 < count) (flat_map listed_page ps) → All (λ (d : ℕ × ℕ). d.0 < count) (listed_from p.page.number o ++ flat_map listed_page ps)
    by_rec_lsn None rest = rest
    by_rec_lsn (Some r) rest =
        (let low : p.page.number < count = (let number = first_number b p ps h in omega (arith, number, le)) in
        All-cons (λ (d : ℕ × ℕ). d.0 < count) (p.page.number, r) (flat_map listed_page ps) low rest)

pub dirty_named : (count : ℕ) (ps : List PageState) → ((k : ℕ) (d : PageState) → k < length ps → (get_or ps k d).page.number ≡ k) → length ps ≤ count → All (λ (d : ℕ × ℕ). d.0 < count) (flat_map listed_page ps)
dirty_named count ps h le = named_from 0 count ps (λ k d lt. h k d lt ∙ omega arith) (omega (arith, le))
