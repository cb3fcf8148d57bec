-- Where losers wait: how high, which measures what is left to undo; and no transaction at two LSNs.
use Rattle.std.proofs.Common.{ℕ, suc, ◌≡◌, ◌≢◌, ◌<◌, ◌≤◌, cond, eqb, eq-eqb, ne_eqb, eqb-true, List, [], ◌∷◌, max, Some, None, refl, sym, ap, ◌∙◌, inl, inr, arith}
use Rattle.std.proofs.lemmas.Bool.{cases_Bool, cases_eq}
use Rattle.std.specs.Map.{lookup}
use Rattle.std.specs.Prelude.{Option}
use Rattle.log_laws.specs.Records.{TableEntry, LogRecord, LogContent, Update, History}
use Rattle.undo.specs.declared.losers.Loser.{Loser}
use Rattle.undo.specs.declared.losers.Rollback.{Rollback}
use Rattle.undo.specs.Turns.{Waiting, Taken}
use Rattle.undo.specs.Rollback.{walk_from, IsUpdateAt, loser_at, WaitBelow, AreOthers, WaitOnce, Resolved, AreUpdates, RollbackInvariant}

-- one above the largest LSN at which a loser waits, 0 if no loser waits
abbrev pub height : List (ℕ × Loser) → ℕ
height [] = 0
height (e ∷ entries) = max (suc e.0) (height entries)

pub height_least : (b : ℕ) (entries : List (ℕ × Loser)) → ((n : ℕ) (l : Loser) → lookup (eqb n) entries ≡ Some l → n < b) → height entries ≤ b
height_least b [] h = omega arith
height_least b (e ∷ entries) h =
    let top : e.0 < b = h e.0 e.1 (ap (λ c. cond c (Some e.1) (lookup (eqb e.0) entries)) (eq-eqb e.0 e.0 refl)) in
    let rest : height entries ≤ b =
    height_least b entries
    (λ n l f. elim (cases_Bool (eqb n e.0)) [
      | inl i ↦ omega (arith, top, eqb-true n e.0 i)
      | inr i ↦ h n l (ap (λ c. cond c (Some e.1) (lookup (eqb n) entries)) i ∙ f)
    ]) in
    omega arith

pub height_above : (n : ℕ) (l : Loser) (entries : List (ℕ × Loser)) → lookup (eqb n) entries ≡ Some l → n < height entries
height_above n l [] f = absurd (cc)
height_above n l (e ∷ entries) f =
    elim (cases_Bool (eqb n e.0)) [
      | inl i ↦ omega (arith, eqb-true n e.0 i)
      | inr i ↦
          (let g = height_above n l entries (sym (ap (λ c. cond c (Some e.1) (lookup (eqb n) entries)) i) ∙ f) in
          omega (arith, g))
    ]

-- ONE IS TAKEN
-- those that are left are below it
pub left_below : (update_lsn : ℕ) (l : Loser) (old new : Waiting) → Taken update_lsn l old new → WaitBelow update_lsn new
left_below update_lsn l old new taken n m e =
    let apart : n ≢ update_lsn = λ i. (let f : None ≡ Some m = sym taken.gone ∙ ap new (sym i) ∙ e in cc) in
    omega (arith, apart, taken.newest n m (sym (taken.others n apart) ∙ e))

-- and those that are left wait at updates
pub taken_updates : (log : LogContent) (update_lsn : ℕ) (l : Loser) (old new : Rollback) → Taken update_lsn l (loser_at old) (loser_at new) → AreUpdates log old → AreUpdates log new
taken_updates log update_lsn l old new taken updates n m e =
    let apart : n ≢ update_lsn = λ i. (let f : None ≡ Some m = sym taken.gone ∙ ap (loser_at new) (sym i) ∙ e in cc) in
    updates n m (sym (taken.others n apart) ∙ e)

-- they are other transactions, if none waited twice
pub taken_others : (update_lsn : ℕ) (l : Loser) (old new : Waiting) → Taken update_lsn l old new → WaitOnce old → AreOthers l.tx new
taken_others update_lsn l old new taken once n m e same =
    let apart : n ≢ update_lsn = λ i. (let f : None ≡ Some m = sym taken.gone ∙ ap new (sym i) ∙ e in cc) in
    apart (once n update_lsn m l (sym (taken.others n apart) ∙ e) taken.there same)

-- and still none waits twice
pub taken_once : (update_lsn : ℕ) (l : Loser) (old new : Waiting) → Taken update_lsn l old new → WaitOnce old → WaitOnce new
taken_once update_lsn l old new taken once n m k j e f same =
    let before : (q : ℕ) (x : Loser) → new q ≡ Some x → old q ≡ Some x =
    λ q x g. sym (taken.others q (λ i. (let h : None ≡ Some x = sym taken.gone ∙ ap new (sym i) ∙ g in cc))) ∙ g in
    once n m k j (before n k e) (before m j f) same

-- ONE MORE WAITS
-- an update has one transaction
same_transaction : (log : History) (t s n : ℕ) → IsUpdateAt log t n → IsUpdateAt log s n → t ≡ s
same_transaction log t s n x y =
    let f : Some (Update x.update) ≡ Some (Update y.update) = sym x.found ∙ y.found in
    let same : x.update ≡ y.update = cc in
    sym x.own ∙ ap (λ u. u.tx) same ∙ y.own

-- so no loser waits at an update of a transaction that does not wait
pub nobody_there : (log : History) (t n : ℕ) (at : Waiting) → IsUpdateAt log t n → ((m : ℕ) (l : Loser) → at m ≡ Some l → IsUpdateAt log l.tx m) → AreOthers t at → at n ≡ None
nobody_there log t n at here updates others = by_place (at n) refl
  where
    by_place : (o : Option Loser) → at n ≡ o → at n ≡ None
    by_place None e = e
    by_place (Some l) e = absurd (others n l e (same_transaction log l.tx t n (updates n l e) here))

-- after a loser that did not wait has been resolved, none waits twice
pub resolved_once : (log : History) (l : Loser) (from lsn : ℕ) (old new : Waiting) (before after : List LogRecord) → Resolved log l from lsn old new before after
    → AreOthers l.tx old → WaitOnce old → WaitOnce new
resolved_once log l from lsn old new before after (inl s) others once n m k j e f same = once n m k j (sym (s.waiting n) ∙ e) (sym (s.waiting m) ∙ f) same
resolved_once log l from lsn old new before after (inr s) others once n m k j e f same =
    elim (cases_eq n s.update_lsn) [
      | inl a ↦
          elim (cases_eq m s.update_lsn) [
            | inl b ↦ a ∙ sym b
            | inr b ↦ absurd (others m j (was m j b f) (sym same ∙ sym (own n k a e)))
          ]
      | inr a ↦
          elim (cases_eq m s.update_lsn) [
            | inl b ↦ absurd (others n k (was n k a e) (same ∙ sym (own m j b f)))
            | inr b ↦ once n m k j (was n k a e) (was m j b f) same
          ]
    ]
  where
    was : (q : ℕ) (x : Loser) → q ≢ s.update_lsn → new q ≡ Some x → old q ≡ Some x
    was q x d g = sym (s.waiting q ∙ ap (λ c. cond c (Some l) (old q)) (ne_eqb s.update_lsn q (λ i. d (sym i)))) ∙ g

    own : (q : ℕ) (x : Loser) → q ≡ s.update_lsn → new q ≡ Some x → l.tx ≡ x.tx
    own q x i g =
        let f : Some l ≡ Some x = sym (s.waiting q ∙ ap (λ c. cond c (Some l) (old q)) (eq-eqb s.update_lsn q (sym i))) ∙ g in
        let same : l ≡ x = cc in
        ap (λ y. y.tx) same

-- a transaction waits at the newest update that is left to it
pub rolling_once : (log : History) (losers : List TableEntry) (count : ℕ) (at : Waiting) (appended : List LogRecord) → RollbackInvariant log losers count at appended → WaitOnce at
rolling_once log losers count at appended r n m k j e f same =
    let v = r.waits n k e in
    let w = r.waits m j f in
    let tops : n ∷ (walk_from log k.tx n v.is_update.update.prev).met ≡ m ∷ (walk_from log j.tx m w.is_update.update.prev).met = sym v.left_is ∙ ap r.left same ∙ w.left_is in
    cc
