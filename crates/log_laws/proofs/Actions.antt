-- The actions of a rollback: their transactions, and what is written of them.
use Rattle.std.proofs.Common.{ℕ, suc, zero, ◌≡◌, ◌+◌, ◌<◌, ◌≤◌, Bool, true, cond, ◌||◌, List, [], ◌∷◌, ◌++◌, map, refl, sym, ap, ap₂, ◌∙◌, inl, inr, arith, eq-eqb, eqb-true, eqb}
use Rattle.std.specs.Prelude.{filter, flat_map, ⊤}
use Rattle.std.proofs.lemmas.Bool.{cases_Bool, cases_eq, false≢true, or_cases, or_left, or_right, cond_both, both_ways, false_from_ne_true}
use Rattle.log_laws.specs.Records.{UpdateRecord, Update, History, start, ◌▸◌, last_lsn}
use Rattle.log_laws.specs.Meaning.{is_of, has, is_loser}
use Rattle.log_laws.specs.Tail.{Action, Finish, Undo, tx_for, record_for, records_for, numbers_from, above_all, transactions_of, losers_of, left_of, updates_where, is_stacked, is_lowest, is_among, is_empty, undo_of, rollback, left_to_do}
use Rattle.log_laws.proofs.Filters.{Each, tx_below}
use Rattle.log_laws.proofs.Steps.{left_loser}

-- MEMBERS
among_filter : (p : ℕ → Bool) (t : ℕ) (xs : List ℕ) → is_among t (filter p xs) ≡ true → p t ≡ true
among_filter p t [] h = absurd (false≢true h)
among_filter p t (x ∷ xs) h =
    elim (cases_Bool (p x)) [
      | inl e ↦
          (let h' : (eqb t x || is_among t (filter p xs)) ≡ true = rw e at h in
          elim (or_cases (eqb t x) (is_among t (filter p xs)) h') [
            | inl i ↦ ap p (eqb-true t x i) ∙ e
            | inr i ↦ among_filter p t xs i
          ])
      | inr e ↦ among_filter p t xs (rw e at h)
    ]

filter_among : (p : ℕ → Bool) (t : ℕ) (xs : List ℕ) → is_among t xs ≡ true → p t ≡ true → is_among t (filter p xs) ≡ true
filter_among p t [] h g = h
filter_among p t (x ∷ xs) h g =
    elim (or_cases (eqb t x) (is_among t xs) h) [
      | inl i ↦
          (let e : p x ≡ true = ap p (sym (eqb-true t x i)) ∙ g in
          rw e (or_left (eqb t x) (is_among t (filter p xs)) i))
      | inr i ↦
          cond_both (p x) (x ∷ filter p xs) (filter p xs) (λ ys. is_among t ys ≡ true)
          (λ _. or_right (eqb t x) (is_among t (filter p xs)) (filter_among p t xs i g))
          (λ _. filter_among p t xs i g)
    ]

-- a number of the range is in the list of them
numbers_among : (n k t : ℕ) → n ≤ t → t < n + k → is_among t (numbers_from n k) ≡ true
numbers_among n zero t a b = absurd (omega arith)
numbers_among n (suc k) t a b =
    elim (cases_eq t n) [
      | inl e ↦ or_left (eqb t n) (is_among t (numbers_from (suc n) k)) (eq-eqb t n e)
      | inr d ↦ or_right (eqb t n) (is_among t (numbers_from (suc n) k)) (numbers_among (suc n) k t (omega (arith, d)) (omega arith))
    ]

-- if only transactions of the log are chosen, exactly those are listed
chosen_among : (p : ℕ → Bool) (log : History) (t : ℕ) → has (is_of t) log ≡ true → p t ≡ true → is_among t (transactions_of p log) ≡ true
chosen_among p log t h e = filter_among p t (numbers_from 0 (above_all log)) (numbers_among 0 (above_all log) t (omega arith) (omega (arith, tx_below t log h))) e

pub among_chosen : (p : ℕ → Bool) (log : History) (t : ℕ) → is_among t (transactions_of p log) ≡ true → p t ≡ true
among_chosen p log t h = among_filter p t (numbers_from 0 (above_all log)) h

pub among_is : (p : ℕ → Bool) (log : History) → ((t : ℕ) → p t ≡ true → has (is_of t) log ≡ true) → (t : ℕ) → is_among t (transactions_of p log) ≡ p t
among_is p log of_log t =
    elim (cases_Bool (p t)) [
      | inl l ↦ chosen_among p log t (of_log t l) l ∙ sym l
      | inr l ↦ false_from_ne_true (is_among t (transactions_of p log)) (λ a. both_ways (p t) l (among_chosen p log t a)) ∙ sym l
    ]

-- ACTIONS
-- each action is of such a transaction
abbrev pub AllFor : (ℕ → Type 0) → List Action → Type 0
AllFor P [] = ⊤
AllFor P (a ∷ actions) = P (tx_for a) × AllFor P actions

-- what is written depends on the last records of the transactions concerned
pub records_for_same : (f g : ℕ → ℕ) (lsn : ℕ) (actions : List Action) → AllFor (λ t. f t ≡ g t) actions → records_for f lsn actions ≡ records_for g lsn actions
records_for_same f g lsn [] h = refl
records_for_same f g lsn (a ∷ actions) h =
    ap₂ (λ r rs. r ∷ rs) (first a h.0)
    (records_for_same (λ t. cond (eqb (tx_for a) t) lsn (f t)) (λ t. cond (eqb (tx_for a) t) lsn (g t)) (suc lsn) actions (later actions h.1))
  where
    first : (b : Action) → f (tx_for b) ≡ g (tx_for b) → record_for f b ≡ record_for g b
    first (Finish t) e = ap (λ n. record_for (λ _. n) (Finish t)) e
    first (Undo u) e = ap (λ n. record_for (λ _. n) (Undo u)) e

    later : (bs : List Action) → AllFor (λ t. f t ≡ g t) bs → AllFor (λ t. cond (eqb (tx_for a) t) lsn (f t) ≡ cond (eqb (tx_for a) t) lsn (g t)) bs
    later [] k = tt
    later (b ∷ bs) k = (ap (cond (eqb (tx_for a) (tx_for b)) lsn) k.0, later bs k.1)

-- the chosen updates pass the test
pub updates_pass : (p : ℕ → UpdateRecord → Bool) (log : History) → Each (λ n u. p n u ≡ true) (updates_where p log)
updates_pass p (start _) = tt
updates_pass p (log ▸ Update u) =
    cond_both (p (suc (last_lsn log)) u) ((suc (last_lsn log), u) ∷ updates_where p log) (updates_where p log) (λ xs. Each (λ n w. p n w ≡ true) xs) (λ e. (e, updates_pass p log)) (λ _. updates_pass p log)
updates_pass p (log ▸ _) = updates_pass p log

AllFor-append : (P : ℕ → Type 0) (acts bs : List Action) → AllFor P acts → AllFor P bs → AllFor P (acts ++ bs)
AllFor-append P [] bs h g = g
AllFor-append P (a ∷ acts) bs h g = (h.0, AllFor-append P acts bs h.1 g)

module _ (P : ℕ → Type 0) (losers : List ℕ) (stack : ℕ → List ℕ) (each : (t : ℕ) → is_among t losers ≡ true → P t) (stacked : (t n : ℕ) → is_among n (stack t) ≡ true → P t) where
  of_ends : (p : ℕ → Bool) (ts : List ℕ) → ((t : ℕ) → is_among t ts ≡ true → P t) → AllFor P (map Finish (filter p ts))
  of_ends p [] h = tt
  of_ends p (t ∷ ts) h =
      let rest : AllFor P (map Finish (filter p ts)) = of_ends p ts (λ x i. h x (or_right (eqb x t) (is_among x ts) i)) in
      cond_both (p t) (t ∷ filter p ts) (filter p ts) (λ xs. AllFor P (map Finish xs)) (λ _. (h t (or_left (eqb t t) (is_among t ts) (eq-eqb t t refl)), rest)) (λ _. rest)

  pub of_undos : (xs : List (ℕ × UpdateRecord)) → Each (λ n u. is_among n (stack u.tx) ≡ true) xs → AllFor P (flat_map (undo_of stack) xs)
  of_undos [] h = tt
  of_undos (x ∷ xs) h =
      let own : P x.1.tx = stacked x.1.tx x.0 h.0 in (
        own,
        AllFor-append P (cond (is_lowest x.0 (stack x.1.tx)) (Finish x.1.tx ∷ []) []) (flat_map (undo_of stack) xs)
            (cond_both (is_lowest x.0 (stack x.1.tx)) (Finish x.1.tx ∷ []) [] (λ acts. AllFor P acts) (λ _. (own, tt)) (λ _. tt)) (of_undos xs h.1),
      )

  -- a rollback is of its losers only
  pub of_rollback : (log : History) → AllFor P (rollback losers stack log)
  of_rollback log =
      AllFor-append P (map Finish (filter (λ t. is_empty (stack t)) losers)) (flat_map (undo_of stack) (updates_where (is_stacked stack) log))
      (of_ends (λ t. is_empty (stack t)) losers each) (of_undos (updates_where (is_stacked stack) log) (updates_pass (is_stacked stack) log))

-- what is left to do is of losers only
pub left_is_of_losers : (P : ℕ → Type 0) (log : History) → ((t : ℕ) → is_loser t log ≡ true → P t) → AllFor P (left_to_do log)
left_is_of_losers P log h =
    of_rollback P (losers_of log) (left_of log) (λ t i. h t (among_chosen (λ x. is_loser x log) log t i)) (λ t n i. h t (left_loser log t n i)) log
