-- As many transactions end in the tail as there are losers.
use Rattle.std.proofs.Common.{ℕ, suc, zero, ◌≡◌, ◌≢◌, ◌+◌, ◌<◌, ◌≤◌, Bool, true, false, List, [], ◌∷◌, length, refl, sym, ap, ◌∙◌, subst, inl, inr, arith}
use Rattle.std.specs.Prelude.{filter}
use Rattle.std.proofs.lemmas.Bool.{cases_Bool, cases_eq}
use Rattle.log_laws.specs.Records.{UpdateRecord, History, ◌▸◌, last_lsn, history}
use Rattle.log_laws.specs.Meaning.{no_base, is_loser, last_of}
use Rattle.log_laws.specs.Tail.{Action, Finish, Undo, tx_for, records_for, is_end, numbers_from, above_all, losers_of, left_to_do, tail}
use Rattle.log_laws.specs.Theorems.{LosersEnd}
use Rattle.log_laws.proofs.Filters.{numbers_same, tx_below, above_all_same}
use Rattle.log_laws.proofs.Steps.{next, next_record, loser_has, loser_after_end, gone_after_end, losers_after_clr}
use Rattle.log_laws.proofs.Cuts.{tail_first, no_loser}
use Rattle.log_laws.proofs.Actions.{AllFor, left_is_of_losers}

-- NUMBERS THAT PASS A TEST
-- if none passes
none_pass : (p : ℕ → Bool) (xs : List ℕ) → ((x : ℕ) → p x ≡ false) → filter p xs ≡ []
none_pass p [] h = refl
none_pass p (x ∷ xs) h = rw (h x) (none_pass p xs h)

-- if one of them no longer passes, there is one less
one_less : (p q : ℕ → Bool) (n k t : ℕ) → ((x : ℕ) → x ≢ t → q x ≡ p x) → p t ≡ true → q t ≡ false → n ≤ t → t < n + k
    → length (filter p (numbers_from n k)) ≡ suc (length (filter q (numbers_from n k)))
one_less p q n zero t h on off a b = absurd (omega arith)
one_less p q n (suc k) t h on off a b =
    elim (cases_eq n t) [
      | inl j ↦
          (let e : p n ≡ true = ap p j ∙ on in
          let f : q n ≡ false = ap q j ∙ off in
          rw (e, f) (ap (λ (xs : List ℕ). suc (length xs)) (sym (numbers_same p q (suc n) k (λ x o. h x (λ z. omega (arith, j)))))))
      | inr j ↦
          (let rest = one_less p q (suc n) k t h on off (omega (arith, j)) (omega arith) in
          elim (cases_Bool (p n)) [
            | inl i ↦ (let f : q n ≡ true = h n j ∙ i in rw (i, f) (ap suc rest))
            | inr i ↦ (let f : q n ≡ false = h n j ∙ i in rw (i, f) rest)
          ])
    ]

-- THE LOSERS, after one more record of the tail
losers_without : (log : History) (t : ℕ) → is_loser t log ≡ true → length (losers_of log) ≡ suc (length (losers_of (log ▸ next_record log (Finish t))))
losers_without log t l =
    let after : History = log ▸ next_record log (Finish t) in
    one_less (λ x. is_loser x log) (λ x. is_loser x after) 0 (above_all log) t (loser_after_end log t) l (gone_after_end log t) (omega arith) (omega (arith, tx_below t log (loser_has t log l)))
    ∙ ap (λ b. suc (length (filter (λ x. is_loser x after) (numbers_from 0 b)))) (sym (above_all_same log (next_record log (Finish t)) (loser_has t log l)))

losers_with : (log : History) (u : UpdateRecord) → is_loser u.tx log ≡ true → losers_of (log ▸ next_record log (Undo u)) ≡ losers_of log
losers_with log u l =
    let after : History = log ▸ next_record log (Undo u) in
    ap (λ b. filter (λ x. is_loser x after) (numbers_from 0 b)) (above_all_same log (next_record log (Undo u)) (loser_has u.tx log l))
    ∙ numbers_same (λ x. is_loser x log) (λ x. is_loser x after) 0 (above_all log) (λ x o. losers_after_clr log u l x)

-- THE ENDS, by recursion on what is left to do
ends_by : (actions : List Action) (log : History) → left_to_do log ≡ actions → length (filter is_end (tail log)) ≡ length (losers_of log)
ends_by [] log e =
    let t : tail log ≡ [] = ap (records_for (λ x. last_of x log) (suc (last_lsn log))) e in
    ap (λ rs. length (filter is_end rs)) t ∙ sym (ap length (none_pass (λ x. is_loser x log) (numbers_from 0 (above_all log)) (no_loser log t)))
ends_by (a ∷ actions) log e =
    let own : is_loser (tx_for a) log ≡ true = (subst (λ xs. AllFor (λ t. is_loser t log ≡ true) xs) e (left_is_of_losers (λ t. is_loser t log ≡ true) log (λ t h. h))).0 in
    ap (λ rs. length (filter is_end rs)) (tail_first log a actions e) ∙ by_action a own (ends_by actions (log ▸ next_record log a) (next no_base log a actions e).rest)
  where
    by_action : (b : Action) → is_loser (tx_for b) log ≡ true → length (filter is_end (tail (log ▸ next_record log b))) ≡ length (losers_of (log ▸ next_record log b))
        → length (filter is_end (next_record log b ∷ tail (log ▸ next_record log b))) ≡ length (losers_of log)
    by_action (Finish t) l rest = ap suc rest ∙ sym (losers_without log t l)
    by_action (Undo u) l rest = rest ∙ ap length (losers_with log u l)

pub losers_end : LosersEnd
losers_end base log h = ends_by (left_to_do (history log)) (history log) refl
