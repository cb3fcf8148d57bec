-- The tail, one record at a time: each keeps the log lawful, and leaves the rest of the tail to be written.
use Rattle.std.proofs.Common.{ℕ, suc, ◌≡◌, ◌≢◌, Bool, true, false, cond, ◌||◌, ◌&&◌, not, List, [], ◌∷◌, ◌++◌, drop, map, refl, sym, ap, ap₂, ◌∙◌, subst, inl, inr, arith, eq-eqb, ne_eqb, eqb-true, eqb}
use mathlib.Core.Path.{fun_ext}
use Rattle.std.specs.Prelude.{filter, flat_map}
use Rattle.std.proofs.lemmas.Bool.{cases_Bool, cases_eq, false≢true, or_left, or_right, or_from, or_parts, and_parts, and_left, and_right, not-true, not_from_true}
use Rattle.log_laws.specs.Records.{UpdateRecord, LogRecord, History, ◌▸◌, last_lsn}
use Rattle.log_laws.specs.Meaning.{BasePages, is_of, has, is_unfinished, in_doubt, is_winner, is_loser, finished, committed, ended, aborted, prepared, pending, last_of, winners}
use Rattle.log_laws.specs.Laws.{Obeys}
use Rattle.log_laws.specs.Tail.{Action, Finish, Undo, record_for, numbers_from, above_all, losers_of, left_of, updates_where, is_stacked, is_among, is_empty, undo_of, left_to_do}
use Rattle.log_laws.proofs.Stacks.{Falls, pending_falls, pending_found, IsUpdateOf}
use Rattle.log_laws.proofs.Filters.{first_number, first_number_gone, one_number, tx_below, above_all_same, Leading, leading}
use Rattle.log_laws.proofs.Rollback.{AreStacks, OnTop, on_top, taken_off}
use Rattle.log_laws.proofs.Holders.{unfinished_has, unfinished_open}
use Rattle.log_laws.proofs.Restored.{effects_more}

-- the record of an action, after the log
abbrev pub next_record : History → Action → LogRecord
next_record log a = record_for (λ t. last_of t log) a

-- FILTERS OF FILTERS
pub filter-filter : (p q : ℕ → Bool) (xs : List ℕ) → filter p (filter q xs) ≡ filter (λ x. q x && p x) xs
filter-filter p q [] = refl
filter-filter p q (x ∷ xs) =
    elim (cases_Bool (q x)) [
      | inl e ↦ rw e (ap (λ ys. cond (p x) (x ∷ ys) ys) (filter-filter p q xs))
      | inr e ↦ rw e (filter-filter p q xs)
    ]

-- LOSERS
-- a loser is unfinished, and not in doubt
pub loser_has : (t : ℕ) (log : History) → is_loser t log ≡ true → has (is_of t) log ≡ true
loser_has t log h = unfinished_has t log (and_parts (is_unfinished t log) (not (in_doubt t log)) h).0

pub loser_open : (t : ℕ) (log : History) → is_loser t log ≡ true → finished t log ≡ false
loser_open t log h = unfinished_open t log (and_parts (is_unfinished t log) (not (in_doubt t log)) h).0

loser_sure : (t : ℕ) (log : History) → is_loser t log ≡ true → in_doubt t log ≡ false
loser_sure t log h = not-true (in_doubt t log) (and_parts (is_unfinished t log) (not (in_doubt t log)) h).1

-- so it is not a winner
loser_not_winner : (t : ℕ) (log : History) → is_loser t log ≡ true → is_winner log t ≡ false
loser_not_winner t log h = or_from (committed t log) (in_doubt t log) (or_parts (committed t log) (ended t log) (loser_open t log h)).0 (loser_sure t log h)

nothing_in : (ns : List ℕ) → is_empty ns ≡ true → ns ≡ []
nothing_in [] e = refl
nothing_in (n ∷ ns) e = absurd (false≢true e)

-- a loser with nothing pending
abbrev pub is_idle : History → ℕ → Bool
is_idle log t = is_loser t log && is_empty (left_of log t)

abbrev pub idle_of : History → List ℕ
idle_of log = filter (is_idle log) (numbers_from 0 (above_all log))

-- the losers with an empty stack, in one filter
idle_is : (log : History) → filter (λ t. is_empty (left_of log t)) (losers_of log) ≡ idle_of log
idle_is log = filter-filter (λ t. is_empty (left_of log t)) (λ t. is_loser t log) (numbers_from 0 (above_all log))

abbrev pub undos_of : History → List Action
undos_of log = flat_map (undo_of (left_of log)) (updates_where (is_stacked (left_of log)) log)

-- first the ends, then the CLRs
pub left_to_do_is : (log : History) → left_to_do log ≡ map Finish (idle_of log) ++ undos_of log
left_to_do_is log = ap (λ ts. map Finish ts ++ undos_of log) (idle_is log)

-- what losers have left are stacks
left_falls : (log : History) (t : ℕ) → Falls (suc (last_lsn log)) (left_of log t)
left_falls log t =
    elim (cases_Bool (is_loser t log)) [
      | inl e ↦ rw e (pending_falls t log)
      | inr e ↦ rw e tt
    ]

left_found : (log : History) (t n : ℕ) → is_among n (left_of log t) ≡ true → IsUpdateOf t log n
left_found log t n h =
    elim (cases_Bool (is_loser t log)) [
      | inl e ↦ pending_found t log n (rw e at h)
      | inr e ↦ absurd (let f : false ≡ true = rw e at h in false≢true f)
    ]

pub left_stacks : (log : History) → AreStacks (left_of log) log
left_stacks log = record { falls = left_falls log; found = left_found log }

-- only losers have something left
pub left_loser : (log : History) (t n : ℕ) → is_among n (left_of log t) ≡ true → is_loser t log ≡ true
left_loser log t n h =
    elim (cases_Bool (is_loser t log)) [
      | inl e ↦ e
      | inr e ↦ absurd (let f : false ≡ true = rw e at h in false≢true f)
    ]

pub left_pending : (log : History) (t : ℕ) → is_loser t log ≡ true → left_of log t ≡ pending t log
left_pending log t e = rw e

-- what one record of the tail does
pub record Next (base : BasePages) (log : History) (a : Action) (actions : List Action) : Type 0 where
  pub obeys : Obeys base log (next_record log a)
  pub rest : left_to_do (log ▸ next_record log a) ≡ actions
  pub same_doubt : (t : ℕ) → in_doubt t (log ▸ next_record log a) ≡ in_doubt t log
  pub same : (page slot : ℕ) → winners base (log ▸ next_record log a) page slot ≡ winners base log page slot

-- THE LOSERS AFTER ONE MORE RECORD
-- a record of the tail makes no transaction prepared or aborted: which are in doubt, and which are losers, depends on which are unfinished
abbrev doubt_by : ℕ → History → Bool → Bool
doubt_by t log unfinished = unfinished && (prepared t log && not (aborted t log))

abbrev loser_by : ℕ → History → Bool → Bool
loser_by t log unfinished = unfinished && not (doubt_by t log unfinished)

-- an end takes only its own transaction from the unfinished ones
unfinished_after_end : (log : History) (t x : ℕ) → x ≢ t → is_unfinished x (log ▸ next_record log (Finish t)) ≡ is_unfinished x log
unfinished_after_end log t x n = (let e : eqb t x ≡ false = ne_eqb t x (λ i. n (sym i)) in rw e)

finished_after_end : (log : History) (t : ℕ) → is_unfinished t (log ▸ next_record log (Finish t)) ≡ false
finished_after_end log t =
    let after : History = log ▸ next_record log (Finish t) in
    let f : finished t after ≡ true = or_right (committed t log) (eqb t t || ended t log) (or_left (eqb t t) (ended t log) (eq-eqb t t refl)) in
    and_right (eqb t t || has (is_of t) log) (not (finished t after)) (not_from_true (finished t after) f)

pub loser_after_end : (log : History) (t x : ℕ) → x ≢ t → is_loser x (log ▸ next_record log (Finish t)) ≡ is_loser x log
loser_after_end log t x n = ap (loser_by x log) (unfinished_after_end log t x n)

pub gone_after_end : (log : History) (t : ℕ) → is_loser t (log ▸ next_record log (Finish t)) ≡ false
gone_after_end log t = ap (loser_by t log) (finished_after_end log t)

-- the end of a loser does not change which are in doubt
doubt_after_end : (log : History) (t : ℕ) → is_loser t log ≡ true → (x : ℕ) → in_doubt x (log ▸ next_record log (Finish t)) ≡ in_doubt x log
doubt_after_end log t l x =
    elim (cases_eq x t) [
      | inl e ↦
          subst (λ y. in_doubt y (log ▸ next_record log (Finish t)) ≡ in_doubt y log) (sym e)
          (ap (doubt_by t log) (finished_after_end log t) ∙ sym (loser_sure t log l))
      | inr n ↦ ap (doubt_by x log) (unfinished_after_end log t x n)
    ]

-- a CLR of a loser changes none of it
unfinished_after_clr : (log : History) (u : UpdateRecord) → is_loser u.tx log ≡ true → (t : ℕ) → is_unfinished t (log ▸ next_record log (Undo u)) ≡ is_unfinished t log
unfinished_after_clr log u l t =
    elim (cases_Bool (eqb u.tx t)) [
      | inl e ↦
          (let h : has (is_of t) log ≡ true = ap (λ x. has (is_of x) log) (sym (eqb-true u.tx t e)) ∙ loser_has u.tx log l in
          rw (e, h))
      | inr e ↦ rw e
    ]

pub losers_after_clr : (log : History) (u : UpdateRecord) → is_loser u.tx log ≡ true → (t : ℕ) → is_loser t (log ▸ next_record log (Undo u)) ≡ is_loser t log
losers_after_clr log u l t = ap (loser_by t log) (unfinished_after_clr log u l t)

doubt_after_clr : (log : History) (u : UpdateRecord) → is_loser u.tx log ≡ true → (t : ℕ) → in_doubt t (log ▸ next_record log (Undo u)) ≡ in_doubt t log
doubt_after_clr log u l t = ap (doubt_by t log) (unfinished_after_clr log u l t)

-- THE END OF A LOSER WITH NOTHING PENDING
module _ (base : BasePages) (log : History) (t : ℕ) (ts : List ℕ) (first : idle_of log ≡ t ∷ ts) where
  abbrev end : LogRecord
  end = next_record log (Finish t)

  idle_first : is_idle log t ≡ true
  idle_first = (first_number (is_idle log) 0 (above_all log) t ts first).1

  idle_loser : is_loser t log ≡ true
  idle_loser = (and_parts (is_loser t log) (is_empty (left_of log t)) idle_first).0

  idle_empty : left_of log t ≡ []
  idle_empty = nothing_in (left_of log t) (and_parts (is_loser t log) (is_empty (left_of log t)) idle_first).1

  end_obeys : Obeys base log end
  end_obeys =
      record {
        chain = refl;
        finish = ((or_parts (committed t log) (ended t log) (loser_open t log idle_loser)).1, loser_sure t log idle_loser);
        compensation = λ _. sym (left_pending log t idle_loser) ∙ idle_empty;
        before = tt;
        strict = tt;
      }

  left_after_end : left_of (log ▸ end) ≡ left_of log
  left_after_end =
      fun_ext (λ x. elim (cases_eq x t) [
        | inl e ↦
            (let a : left_of (log ▸ end) t ≡ [] = ap (λ b. cond b (pending t log) []) (gone_after_end log t) in
            ap (left_of (log ▸ end)) e ∙ a ∙ sym idle_empty ∙ sym (ap (left_of log) e))
        | inr n ↦ ap (λ b. cond b (pending x log) []) (loser_after_end log t x n)
      ])

  idle_after_end : idle_of (log ▸ end) ≡ ts
  idle_after_end =
      ap (λ b. filter (is_idle (log ▸ end)) (numbers_from 0 b)) (above_all_same log end (loser_has t log idle_loser))
      ∙ first_number_gone (is_idle log) (is_idle (log ▸ end)) 0 (above_all log) t ts first
      (λ x n. ap₂ (λ b s. b && is_empty (s x)) (loser_after_end log t x n) left_after_end)
      (and_left (is_loser t (log ▸ end)) (is_empty (left_of (log ▸ end) t)) (gone_after_end log t))

  pub next_end : Next base log (Finish t) (map Finish ts ++ undos_of log)
  next_end =
      record {
        obeys = end_obeys;
        rest =
            left_to_do_is (log ▸ end)
            ∙ ap₂ (λ xs s. map Finish xs ++ flat_map (undo_of s) (updates_where (is_stacked s) log)) idle_after_end left_after_end;
        same_doubt = doubt_after_end log t idle_loser;
        same = λ page slot. effects_more base (is_winner (log ▸ end)) (is_winner log) log end page slot (λ x. ap (λ b. committed x log || b) (doubt_after_end log t idle_loser x)) refl;
      }

-- THE CLR OF THE LARGEST PENDING UPDATE
module _ (base : BasePages) (log : History) (p : ℕ × UpdateRecord) (ps : List (ℕ × UpdateRecord)) (first : updates_where (is_stacked (left_of log)) log ≡ p ∷ ps) (o : OnTop (left_of log) p) (none_idle : idle_of log ≡ []) where
  abbrev clr : LogRecord
  clr = next_record log (Undo p.1)

  clr_leads : Leading (is_stacked (left_of log)) log p ps
  clr_leads = leading (is_stacked (left_of log)) log p ps first

  clr_loser : is_loser p.1.tx log ≡ true
  clr_loser = left_loser log p.1.tx p.0 clr_leads.passes

  clr_top : pending p.1.tx log ≡ p.0 ∷ o.below
  clr_top = sym (left_pending log p.1.tx clr_loser) ∙ o.top

  clr_obeys : Obeys base log clr
  clr_obeys =
      record {
        chain = refl;
        finish = (loser_open p.1.tx log clr_loser, loser_sure p.1.tx log clr_loser);
        compensation = record { lsn = p.0; below = o.below; update = p.1; newest = clr_top; found = clr_leads.found; page = refl; slot = refl; image = refl; undo_next = refl };
        before = tt;
        strict = tt;
      }

  -- the losers stay
  clr_losers : (t : ℕ) → is_loser t (log ▸ clr) ≡ is_loser t log
  clr_losers t = losers_after_clr log p.1 clr_loser t

  clr_own : left_of (log ▸ clr) p.1.tx ≡ o.below
  clr_own =
      let e : pending p.1.tx (log ▸ clr) ≡ drop 1 (pending p.1.tx log) = rw (eq-eqb p.1.tx p.1.tx refl) in
      left_pending (log ▸ clr) p.1.tx (clr_losers p.1.tx ∙ clr_loser) ∙ e ∙ ap (drop 1) clr_top

  clr_other : (t : ℕ) → t ≢ p.1.tx → left_of (log ▸ clr) t ≡ left_of log t
  clr_other t n =
      let e : eqb p.1.tx t ≡ false = ne_eqb p.1.tx t (λ i. n (sym i)) in
      let s : pending t (log ▸ clr) ≡ pending t log = rw e in
      ap₂ (λ b ns. cond b ns []) (clr_losers t) s

  clr_idle : idle_of (log ▸ clr) ≡ cond (is_empty o.below) (p.1.tx ∷ []) []
  clr_idle =
      ap (λ b. filter (is_idle (log ▸ clr)) (numbers_from 0 b)) (above_all_same log clr (loser_has p.1.tx log clr_loser))
      ∙ one_number (is_idle log) (is_idle (log ▸ clr)) 0 (above_all log) p.1.tx none_idle
      (λ t n. ap₂ (λ a b. a && is_empty b) (clr_losers t) (clr_other t n))
      (omega arith) (omega (arith, tx_below p.1.tx log (loser_has p.1.tx log clr_loser)))
      ∙ ap₂ (λ a b. cond (a && is_empty b) (p.1.tx ∷ []) []) (clr_losers p.1.tx ∙ clr_loser) clr_own

  ends_of : (b : Bool) → map Finish (cond b (p.1.tx ∷ []) []) ≡ cond b (Finish p.1.tx ∷ []) []
  ends_of true = refl
  ends_of false = refl

  abbrev pub after_clr : List Action
  after_clr = cond (is_empty o.below) (Finish p.1.tx ∷ []) [] ++ flat_map (undo_of (left_of (log ▸ clr))) (updates_where (is_stacked (left_of (log ▸ clr))) log)

  pub undos_first : undos_of log ≡ Undo p.1 ∷ after_clr
  undos_first = taken_off (left_of log) (left_of (log ▸ clr)) log p ps first o clr_own clr_other

  pub next_clr : Next base log (Undo p.1) after_clr
  next_clr =
      record {
        obeys = clr_obeys;
        rest = left_to_do_is (log ▸ clr) ∙ ap (λ xs. xs ++ undos_of (log ▸ clr)) (ap (map Finish) clr_idle ∙ ends_of (is_empty o.below));
        same_doubt = doubt_after_clr log p.1 clr_loser;
        same = λ page slot. effects_more base (is_winner (log ▸ clr)) (is_winner log) log clr page slot (λ t. ap (λ b. committed t log || b) (doubt_after_clr log p.1 clr_loser t))
            (and_right (eqb p.1.page page && eqb p.1.slot slot) (is_winner log p.1.tx) (loser_not_winner p.1.tx log clr_loser));
      }

-- WHATEVER COMES NEXT
pub next : (base : BasePages) (log : History) (a : Action) (actions : List Action) → left_to_do log ≡ a ∷ actions → Next base log a actions
next base log a actions e = by_idle (idle_of log) refl (updates_where (is_stacked (left_of log)) log) refl
  where
    todo : map Finish (idle_of log) ++ undos_of log ≡ a ∷ actions
    todo = sym (left_to_do_is log) ∙ e

    by_idle : (ts : List ℕ) → idle_of log ≡ ts → (ps : List (ℕ × UpdateRecord)) → updates_where (is_stacked (left_of log)) log ≡ ps → Next base log a actions
    by_idle (t ∷ ts) i ps u =
        (let e' : Finish t ∷ (map Finish ts ++ undos_of log) ≡ a ∷ actions = sym (ap (λ xs. map Finish xs ++ undos_of log) i) ∙ todo in
        let j : Finish t ≡ a = cc in
        let k : map Finish ts ++ undos_of log ≡ actions = cc in
        subst (λ x. Next base log x actions) j (subst (λ xs. Next base log (Finish t) xs) k (next_end base log t ts i)))
    by_idle [] i (p ∷ ps) u =
        (let o = on_top (left_of log) log (left_stacks log) p ps u in
        let e' : Undo p.1 ∷ after_clr base log p ps u o i ≡ a ∷ actions = sym (undos_first base log p ps u o i) ∙ sym (ap (λ xs. map Finish xs ++ undos_of log) i) ∙ todo in
        let j : Undo p.1 ≡ a = cc in
        let k : after_clr base log p ps u o i ≡ actions = cc in
        subst (λ x. Next base log x actions) j (subst (λ xs. Next base log (Undo p.1) xs) k (next_clr base log p ps u o i)))
    by_idle [] i [] u =
        absurd (let e' : [] ≡ a ∷ actions = sym (ap₂ (λ xs ys. map Finish xs ++ flat_map (undo_of (left_of log)) ys) i u) ∙ todo in cc)
