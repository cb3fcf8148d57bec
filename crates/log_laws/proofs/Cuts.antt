-- The log with a prefix of its tail, and with the whole tail.
use Rattle.std.proofs.Common.{ℕ, suc, zero, ◌≡◌, Bool, cond, ap₂, true, false, List, [], ◌∷◌, ◌++◌, length, take, drop, map, refl, sym, ap, ◌∙◌, subst, arith, eq-eqb, eqb}
use Rattle.std.specs.Prelude.{flat_map}
use Rattle.std.proofs.lemmas.List.{take_all, drop_all}
use Rattle.std.proofs.lemmas.Bool.{both_ways, and_from, or_left}
use Rattle.log_laws.specs.Records.{UpdateRecord, LogRecord, History, last_lsn, ◌▸◌, ◌▸▸◌}
use Rattle.log_laws.specs.Meaning.{BasePages, no_base, in_doubt, is_loser, last_of, winners, replay}
use Rattle.log_laws.specs.Laws.{IsLawful}
use Rattle.log_laws.specs.Tail.{Action, Finish, Undo, tx_for, records_for, above_all, left_of, updates_where, is_stacked, is_among, is_empty, undo_of, left_to_do, tail}
use Rattle.log_laws.proofs.Filters.{no_number, tx_below, no_update}
use Rattle.log_laws.proofs.Restored.{replay_is_winners}
use Rattle.log_laws.proofs.Steps.{next, next_record, is_idle, idle_of, left_to_do_is, left_stacks, loser_has}

-- the last records, after one more record
last_after : (log : History) (a : Action) → ◌≡◌ {A = ℕ → ℕ} (λ t. cond (eqb (tx_for a) t) (suc (last_lsn log)) (last_of t log)) (λ t. last_of t (log ▸ next_record log a))
last_after log (Finish t) = refl
last_after log (Undo u) = refl

-- the tail is the next record, and then the tail of the log with it
pub tail_first : (log : History) (a : Action) (actions : List Action) → left_to_do log ≡ a ∷ actions → tail log ≡ next_record log a ∷ tail (log ▸ next_record log a)
tail_first log a actions e =
    ap (records_for (λ t. last_of t log) (suc (last_lsn log))) e
    ∙ ap₂ (λ last xs. next_record log a ∷ records_for last (suc (suc (last_lsn log))) xs) (last_after log a) (sym (next no_base log a actions e).rest)

-- a prefix of the tail keeps the laws, the transactions in doubt and the winners, and leaves the rest of the tail to be written
pub record CutOf (base : BasePages) (log : History) (k : ℕ) : Type 0 where
  pub lawful : IsLawful base (log ▸▸ take k (tail log))
  pub rest : tail (log ▸▸ take k (tail log)) ≡ drop k (tail log)
  pub same_doubt : (t : ℕ) → in_doubt t (log ▸▸ take k (tail log)) ≡ in_doubt t log
  pub same : (page slot : ℕ) → winners base (log ▸▸ take k (tail log)) page slot ≡ winners base log page slot

abbrev CutBy : (base : BasePages) → History → ℕ → List LogRecord → Type 0
CutBy base log k records =
    IsLawful base (log ▸▸ take k records) × (tail (log ▸▸ take k records) ≡ drop k records) × ((t : ℕ) → in_doubt t (log ▸▸ take k records) ≡ in_doubt t log)
    × ((page slot : ℕ) → winners base (log ▸▸ take k records) page slot ≡ winners base log page slot)

-- by recursion on how much of the tail is there
cut_by : (base : BasePages) (k : ℕ) (log : History) → IsLawful base log → CutBy base log k (tail log)
cut_by base zero log h = (h, refl, λ t. refl, λ page slot. refl)
cut_by base (suc k) log h =
    by_left (left_to_do log) refl (λ a. cut_by base k (log ▸ next_record log a))
  where
    by_left : (actions : List Action) → left_to_do log ≡ actions → ((a : Action) → IsLawful base (log ▸ next_record log a) → CutBy base (log ▸ next_record log a) k (tail (log ▸ next_record log a))) → CutBy base log (suc k) (tail log)
    by_left [] e ih =
        (let t : tail log ≡ [] = ap (records_for (λ t. last_of t log) (suc (last_lsn log))) e in
        subst (CutBy base log (suc k)) (sym t) (h, t, λ x. refl, λ page slot. refl))
    by_left (a ∷ actions) e ih =
        (let n = next base log a actions e in
        let c = ih a (h, n.obeys) in
        subst (CutBy base log (suc k)) (sym (tail_first log a actions e)) (c.0, c.1, λ t. c.2 t ∙ n.same_doubt t, λ page slot. c.3 page slot ∙ n.same page slot))

pub cut_of : (base : BasePages) (log : History) (k : ℕ) → IsLawful base log → CutOf base log k
cut_of base log k h = (let c = cut_by base k log h in record { lawful = c.0; rest = c.1; same_doubt = c.2; same = c.3 })

-- THE WHOLE TAIL
pub whole_lawful : (base : BasePages) (log : History) → IsLawful base log → IsLawful base (log ▸▸ tail log)
whole_lawful base log h = subst (λ rs. IsLawful base (log ▸▸ rs)) (take_all (length (tail log)) (tail log) (omega arith)) (cut_of base log (length (tail log)) h).lawful

-- after its tail a log has none
pub whole_tail : (base : BasePages) (log : History) → IsLawful base log → tail (log ▸▸ tail log) ≡ []
whole_tail base log h =
    ap (λ rs. tail (log ▸▸ rs)) (sym (take_all (length (tail log)) (tail log) (omega arith)))
    ∙ (cut_of base log (length (tail log)) h).rest
    ∙ drop_all (length (tail log)) (tail log) (omega arith)

pub whole_doubt : (base : BasePages) (log : History) → IsLawful base log → (t : ℕ) → in_doubt t (log ▸▸ tail log) ≡ in_doubt t log
whole_doubt base log h t =
    ap (λ rs. in_doubt t (log ▸▸ rs)) (sym (take_all (length (tail log)) (tail log) (omega arith)))
    ∙ (cut_of base log (length (tail log)) h).same_doubt t

pub whole_winners : (base : BasePages) (log : History) → IsLawful base log → (page slot : ℕ) → winners base (log ▸▸ tail log) page slot ≡ winners base log page slot
whole_winners base log h page slot =
    ap (λ rs. winners base (log ▸▸ rs) page slot) (sym (take_all (length (tail log)) (tail log) (omega arith)))
    ∙ (cut_of base log (length (tail log)) h).same page slot

-- if the tail is empty there is no loser
no_action : (log : History) → tail log ≡ [] → left_to_do log ≡ []
no_action log e = by_left (left_to_do log) refl
  where
    by_left : (actions : List Action) → left_to_do log ≡ actions → left_to_do log ≡ []
    by_left [] i = i
    by_left (a ∷ actions) i =
        absurd (let e' : tail log ≡ next_record log a ∷ tail (log ▸ next_record log a) = tail_first log a actions i in cc)

both_empty : (ts : List ℕ) (ps : List (ℕ × UpdateRecord)) (stack : ℕ → List ℕ) → map Finish ts ++ flat_map (undo_of stack) ps ≡ [] → (ts ≡ []) × (ps ≡ [])
both_empty [] [] stack e = (refl, refl)
both_empty [] (p ∷ ps) stack e = absurd (cc)
both_empty (t ∷ ts) ps stack e = absurd (cc)

pub no_loser : (log : History) → tail log ≡ [] → (t : ℕ) → is_loser t log ≡ false
no_loser log e t = by_test (is_loser t log) refl
  where
    parts : (idle_of log ≡ []) × (updates_where (is_stacked (left_of log)) log ≡ [])
    parts = both_empty (idle_of log) (updates_where (is_stacked (left_of log)) log) (left_of log) (sym (left_to_do_is log) ∙ no_action log e)

    by_left : is_loser t log ≡ true → (ns : List ℕ) → left_of log t ≡ ns → ⊥
    by_left l [] i =
        (let off : is_idle log t ≡ false = no_number (is_idle log) 0 (above_all log) t parts.0 (omega arith) (omega (arith, tx_below t log (loser_has t log l))) in
        both_ways (is_idle log t) off (and_from (is_loser t log) (is_empty (left_of log t)) l (ap is_empty i)))
    by_left l (m ∷ ms) i =
        (let top : is_among m (left_of log t) ≡ true = ap (is_among m) i ∙ or_left (eqb m m) (is_among m ms) (eq-eqb m m refl) in
        let (u, found, own) = (left_stacks log).found t m top in
        both_ways (is_stacked (left_of log) m u) (no_update (is_stacked (left_of log)) log m u parts.1 found) (ap (λ x. is_among m (left_of log x)) own ∙ top))

    by_test : (b : Bool) → is_loser t log ≡ b → is_loser t log ≡ false
    by_test true i = absurd (by_left i (left_of log t) refl)
    by_test false i = i

-- THE RESTART'S LOG
pub replay_of_whole : (base : BasePages) (log : History) → IsLawful base log → (page slot : ℕ) → replay base (log ▸▸ tail log) page slot ≡ winners base log page slot
replay_of_whole base log h page slot =
    replay_is_winners base (log ▸▸ tail log) (whole_lawful base log h) (no_loser (log ▸▸ tail log) (whole_tail base log h)) page slot ∙ whole_winners base log h page slot
