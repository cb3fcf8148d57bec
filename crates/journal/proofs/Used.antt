-- What is kept in the arrays, after each change of them.
use Rattle.std.proofs.Common.{◌≡◌, ◌≢◌, ◌<◌, ◌≤◌, ◌+◌, ◌-◌, ℕ, zero, suc, false, cond, List, [], ◌∷◌, ◌++◌, length, get_or, set, take, drop, min, Option, Some, None, refl, sym, ap, subst, ◌∙◌, inl, inr, arith, eqb}
use Rattle.std.specs.Prelude.{All, filter}
use Rattle.std.specs.List.{remove}
use Rattle.std.proofs.lemmas.Bool.{cases_eq, cases_lt, cases_order, eqb-false}
use Rattle.std.proofs.lemmas.List.{get_or-set_same, get_or-set_other, length-set, get_or-drop, drop_all, length_push, length-drop, get_or_default}
use Rattle.std.proofs.lemmas.List.Elements.{All-nil, All-cons, All-push, All-set, All-filter, All-append, All-take, All-drop}
use Rattle.journal.specs.declared.entries.TransactionEntry.{TransactionEntry}
use Rattle.journal.specs.declared.entries.PendingEntry.{PendingEntry}
use Rattle.journal.specs.Transactions.{Transaction, Changes, HasUpdated, HasUndone, HasChangedState, IsNewest}
use Rattle.journal.specs.Arrays.{update_of, state_of, pending_of, kept_of, Ascends, is_live, left_from, NoneBy, AreUsed, updated, undone, in_state, without_owner}
use Rattle.journal.proofs.Tables.{standing, rises_at, table_set, table_remove, All-remove, kept_at, kept_set, kept_none, kept_where, kept_remove, kept_pending, live_at}
use Rattle.journal.proofs.Stacks.{pending_push, pending_push_other, pending_left, none_left, newest_is, undone_own, undone_other}

-- LISTS
pub take_set : {X : Type 0} (n : ℕ) (xs : List X) (i : ℕ) (a : X) → i < n → take n (set xs i a) ≡ set (take n xs) i a
take_set zero xs i a lt = absurd (omega (arith, lt))
take_set (suc n) [] i a lt = refl
take_set (suc n) (x ∷ xs) zero a lt = refl
take_set (suc n) (x ∷ xs) (suc i) a lt = ap (λ ys. x ∷ ys) (take_set n xs i a (omega (arith, lt)))

none_push : (t b : ℕ) (ps : List PendingEntry) (p : PendingEntry) → p.tx ≢ t → NoneBy t (drop b ps) → NoneBy t (drop b (ps ++ p ∷ []))
none_push t zero ps p n h = All-push (λ (q : PendingEntry). q.tx ≢ t) ps p h n
none_push t (suc b) [] p n h = (let e : drop b [] ≡ [] = drop_all {X = PendingEntry} b [] (omega arith) in subst (NoneBy t) (sym e) (All-nil (λ (q : PendingEntry). q.tx ≢ t)))
none_push t (suc b) (q ∷ ps) p n h = none_push t b ps p n h

none_set : (t b : ℕ) (ps : List PendingEntry) (i : ℕ) (p : PendingEntry) → p.tx ≢ t → NoneBy t (drop b ps) → NoneBy t (drop b (set ps i p))
none_set t zero ps i p n h = All-set (λ (q : PendingEntry). q.tx ≢ t) ps i p n h
none_set t (suc b) [] i p n h = h
none_set t (suc b) (q ∷ ps) zero p n h = h
none_set t (suc b) (q ∷ ps) (suc i) p n h = none_set t b ps i p n h

-- DIFFERENT NUMBERS
pub apart : (es : List TransactionEntry) → Ascends es → (i j : ℕ) (d : TransactionEntry) → i < length es → j < length es → i ≢ j → (get_or es i d).tx ≢ (get_or es j d).tx
apart es h i j d li lj n e =
    elim (cases_order i j) [
      | inl same ↦ n same
      | inr rest ↦
          elim rest [
            | inl lt ↦ (let less = rises_at es h i j d lt lj in omega (arith, less, e))
            | inr lt ↦ (let less = rises_at es h j i d lt li in omega (arith, less, e))
          ]
    ]

-- ONE ENTRY is changed, and its number stays
module _ (next : ℕ) (es : List TransactionEntry) (ps : List PendingEntry) (h : AreUsed next es ps) (i : ℕ) (d : TransactionEntry) (lt : i < length es) (tx : ℕ) (own : (get_or es i d).tx ≡ tx) where
  abbrev here : TransactionEntry
  here = get_or es i d

  pub was : kept_of es ps tx ≡ Some (standing here ps)
  was = kept_at es ps i d tx h.table.rising lt own

  pub some : 0 < tx
  some = (let low : 0 < here.tx = h.table.some i d lt in omega (arith, low, own))

  -- what is listed is below the next number, if what is kept is
  module _ (e : TransactionEntry) (same : e.tx ≡ here.tx) where
    put_at : get_or (set es i e) i d ≡ e
    put_at = get_or-set_same es i e d lt

    room : i < length (set es i e)
    room = omega (arith, lt, length-set es i e)

    rising : Ascends (set es i e)
    rising = (table_set es i d e lt same h.table).rising

    pub now : (qs : List PendingEntry) → kept_of (set es i e) qs tx ≡ Some (standing e qs)
    now qs = kept_at (set es i e) qs i d tx rising room (ap (λ (f : TransactionEntry). f.tx) put_at ∙ same ∙ own) ∙ ap (λ (f : TransactionEntry). Some (standing f qs)) put_at

    pub others_same : (qs : List PendingEntry) (t : ℕ) → eqb tx t ≡ false → pending_of t qs ≡ pending_of t ps → kept_of (set es i e) qs t ≡ kept_of es ps t
    others_same qs t off pending = kept_set es qs i d e t lt same (λ z. eqb-false tx t off (sym own ∙ sym same ∙ sym z)) ∙ kept_pending es ps qs t pending

    -- the same holds for the places before which the updates are
    pub below_set : (qs : List PendingEntry) → NoneBy tx (drop e.below qs) → ((f : TransactionEntry) → 0 < f.tx → f.tx ≢ tx → NoneBy f.tx (drop f.below ps) → NoneBy f.tx (drop f.below qs))
        → All (λ (f : TransactionEntry). NoneBy f.tx (drop f.below qs)) (set es i e)
    below_set qs ours others k f l =
        let within : k < length es = omega (arith, l, length-set es i e) in
        elim (cases_eq k i) [
          | inl z ↦
              (let at : get_or (set es i e) k f ≡ e = ap (λ j. get_or (set es i e) j f) z ∙ get_or-set_same es i e f lt in
              let mine : NoneBy e.tx (drop e.below qs) = subst (λ n. NoneBy n (drop e.below qs)) (sym (same ∙ own)) ours in
              subst (λ (x : TransactionEntry). NoneBy x.tx (drop x.below qs)) (sym at) mine)
          | inr z ↦
              (let at : get_or (set es i e) k f ≡ get_or es k f = get_or-set_other es i k e f z in
              let mine : get_or es i f ≡ here = get_or_default es i f d lt in
              let far : (get_or es k f).tx ≢ tx = λ x. apart es h.table.rising k i f within lt z (x ∙ sym own ∙ ap (λ (y : TransactionEntry). y.tx) (sym mine)) in
              subst (λ (x : TransactionEntry). NoneBy x.tx (drop x.below qs)) (sym at) (others (get_or es k f) (h.table.some k f within) far (h.below k f within)))
        ]

  -- ITS STATE CHANGES
  module _ (state lsn : ℕ) where
    abbrev new : TransactionEntry
    new = in_state here state lsn

    pub turns : Changes (kept_of es ps) (kept_of (set es i new) ps) tx (HasChangedState (state_of state) lsn)
    turns =
        record {
          own = λ x e.
              (let found : Some (standing here ps) ≡ Some x = sym was ∙ e in
              let same : standing here ps ≡ x = cc in
              (standing new ps, now new refl ps, subst (λ y. HasChangedState (state_of state) lsn y (standing new ps)) same (refl, refl)));
          others = λ t off. others_same new refl ps t off refl;
        }

    pub turned_used : AreUsed next (set es i new) ps
    turned_used =
        record {
          table = table_set es i d new lt refl h.table;
          known = h.known;
          below = below_set new refl ps (subst (λ n. NoneBy n (drop here.below ps)) own (h.below i d lt)) (λ f positive far none. none);
        }

  -- UPDATED: the update is at the end
  module _ (p : PendingEntry) (its : p.tx ≡ tx) (small : tx < next) where
    abbrev raised : TransactionEntry
    raised = updated here p.lsn (length ps + 1)

    abbrev more : List PendingEntry
    more = ps ++ p ∷ []

    pub updates_used : AreUsed next (set es i raised) more
    updates_used =
        record {
          table = table_set es i d raised lt refl h.table;
          known = All-push (λ (q : PendingEntry). q.tx < next) ps p h.known (omega (arith, its, small));
          below = below_set raised refl more
              (let none : drop (length ps + 1) more ≡ [] = drop_all (length ps + 1) more (omega (arith, length_push ps p)) in subst (NoneBy tx) (sym none) (All-nil (λ (q : PendingEntry). q.tx ≢ tx)))
              (λ f positive far none. none_push f.tx f.below ps p (λ z. far (sym z ∙ its)) none);
        }

    pub updates_changes : Changes (kept_of es ps) (kept_of (set es i raised) more) tx (HasUpdated (update_of p))
    updates_changes =
        record {
          own = λ x e.
              (let found : Some (standing here ps) ≡ Some x = sym was ∙ e in
              let same : standing here ps ≡ x = cc in
              let top : pending_of here.tx more ≡ pending_of here.tx ps ++ update_of p ∷ [] = pending_push here.tx ps p (its ∙ sym own) in
              (standing raised more, now raised refl more, subst (λ y. HasUpdated (update_of p) y (standing raised more)) same (refl, top)));
          others = λ t off. others_same raised refl more t off (pending_push_other t ps p (λ z. eqb-false tx t off (sym its ∙ z)));
        }

  -- UNDONE: its newest update is given to transaction 0
  module _ (top : ℕ) (q : PendingEntry) (within : top < length ps) (its : (get_or ps top q).tx ≡ tx) (none : NoneBy tx (drop (suc top) ps)) where
    abbrev gone : List PendingEntry
    gone = set ps top (without_owner (get_or ps top q))

    pub newest_one : IsNewest (standing here ps).pending (Some (update_of (get_or ps top q)))
    newest_one = subst (λ n. pending_of n ps ≡ take (length (pending_of n ps) - 1) (pending_of n ps) ++ update_of (get_or ps top q) ∷ []) (sym own) (newest_is tx ps top q within its none)

    module _ (lsn undo_next : ℕ) where
      abbrev lowered : TransactionEntry
      lowered = undone here lsn undo_next top

      pub undoes_changes : Changes (kept_of es ps) (kept_of (set es i lowered) gone) tx (HasUndone lsn undo_next)
      undoes_changes =
          record {
            own = λ x e.
                (let found : Some (standing here ps) ≡ Some x = sym was ∙ e in
                let same : standing here ps ≡ x = cc in
                let less : pending_of here.tx gone ≡ take (length (pending_of here.tx ps) - 1) (pending_of here.tx ps) =
                subst (λ n. pending_of n gone ≡ take (length (pending_of n ps) - 1) (pending_of n ps)) (sym own) (undone_own tx ps top q within its none some) in
                (standing lowered gone, now lowered refl gone, subst (λ y. HasUndone lsn undo_next y (standing lowered gone)) same (refl, less)));
            others = λ t off.
                elim (cases_eq t 0) [
                  | inl z ↦ kept_set es gone i d lowered t lt refl (λ y. eqb-false tx t off (sym own ∙ sym y)) ∙ nothing t z gone ∙ sym (nothing t z ps)
                  | inr z ↦ others_same lowered refl gone t off (undone_other tx ps top q within its none t (omega (arith, z)) (eqb-false tx t off))
                ];
          }
        where
          nothing : (t : ℕ) → t ≡ 0 → (qs : List PendingEntry) → kept_of es qs t ≡ None
          nothing t z qs = kept_none es qs t (λ k f l y. (let low : 0 < (get_or es k f).tx = h.table.some k f l in omega (arith, low, y, z)))

      pub undoes_used : 0 < next → AreUsed next (set es i lowered) gone
      undoes_used first =
          record {
            table = table_set es i d lowered lt refl h.table;
            known = All-set (λ (p : PendingEntry). p.tx < next) ps top (without_owner (get_or ps top q)) first h.known;
            below = below_set lowered refl gone
                (let at : drop top gone ≡ without_owner (get_or ps top q) ∷ drop (suc top) ps = split top ps (without_owner (get_or ps top q)) within in
                subst (NoneBy tx) (sym at) (All-cons (λ (p : PendingEntry). p.tx ≢ tx) (without_owner (get_or ps top q)) (drop (suc top) ps) (λ z. omega (arith, z, some)) none))
                (λ f positive far free. none_set f.tx f.below ps top (without_owner (get_or ps top q)) (λ z. omega (arith, z, positive)) free);
          }
        where
          split : (n : ℕ) (xs : List PendingEntry) (x : PendingEntry) → n < length xs → drop n (set xs n x) ≡ x ∷ drop (suc n) xs
          split n [] x l = absurd (omega (arith, l))
          split zero (y ∷ xs) x l = refl
          split (suc n) (y ∷ xs) x l = split n xs x (omega (arith, l))

  -- FINISHED
  pub gone_used : AreUsed next (remove es i) ps
  gone_used =
      record {
        table = table_remove es i lt h.table;
        known = h.known;
        below = All-remove (λ (f : TransactionEntry). NoneBy f.tx (drop f.below ps)) es i h.below;
      }

  pub gone_kept : (t : ℕ) → kept_of (remove es i) ps t ≡ cond (eqb tx t) None (kept_of es ps t)
  gone_kept t = kept_remove es ps i d tx h.table.rising lt own t

-- WHAT IS NOT NEEDED is removed, from a place on
pub All-left : (P : PendingEntry → Type 0) (ps : List PendingEntry) → All P ps → (es : List TransactionEntry) (from : ℕ) → All P (left_from es from ps)
All-left P ps h es from =
    All-append P (take from ps) (filter (is_live es) (drop from ps)) (All-take P from ps h) (All-filter (is_live es) P (drop from ps) (All-drop P from ps h))

module _ (next : ℕ) (es : List TransactionEntry) (ps : List PendingEntry) (h : AreUsed next es ps) (from : ℕ) where
  abbrev left : List PendingEntry
  left = left_from es from ps

  pub left_used : AreUsed next es left
  left_used =
      record {
        table = h.table;
        known = All-left (λ (p : PendingEntry). p.tx < next) ps h.known es from;
        below = λ k f l. none_left (is_live es) (get_or es k f).tx (get_or es k f).below from ps (h.below k f l);
      }

  pub left_kept : (t : ℕ) → kept_of es left t ≡ kept_of es ps t
  left_kept t = by_kept (kept_of es ps t) refl
    where
      blank : TransactionEntry
      blank = record { last = 0; undo_next = 0; below = 0; tx = 0; state = 0 }

      by_left : (o : Option Transaction) → kept_of es left t ≡ o → kept_of es ps t ≡ None → o ≡ None
      by_left None f e = refl
      by_left (Some x) f e =
          (let at = kept_where es left t x f in
          let there = kept_at es ps at.0 blank t h.table.rising at.1 (at.2 blank) in
          absurd (let i : None ≡ Some (standing (get_or es at.0 blank) ps) = sym e ∙ there in cc))

      by_kept : (o : Option Transaction) → kept_of es ps t ≡ o → kept_of es left t ≡ kept_of es ps t
      by_kept None e = by_left (kept_of es left t) refl e ∙ sym e
      by_kept (Some x) e =
          (let at = kept_where es ps t x e in
          kept_pending es ps left t (pending_left (is_live es) t (λ p own. live_at es at.0 blank p at.1 (at.2 blank ∙ sym own)) from ps))

-- THE NEWEST of a transaction's updates is searched for before its place
module _ (next : ℕ) (es : List TransactionEntry) (ps : List PendingEntry) (h : AreUsed next es ps) (i : ℕ) (d : TransactionEntry) (lt : i < length es) (tx : ℕ) (own : (get_or es i d).tx ≡ tx)
    (from top : ℕ) (q : PendingEntry) (from_is : from ≡ min (get_or es i d).below (length ps)) (above : (k : ℕ) → top < k → k < from → (get_or ps k q).tx ≢ tx) where
  pub none_behind : NoneBy tx (drop (suc top) ps)
  none_behind k e l =
      let room : suc top + k < length ps = omega (arith, l, length-drop (suc top) ps) in
      let at : get_or (drop (suc top) ps) k e ≡ get_or ps (suc top + k) q = get_or-drop (suc top) ps k e ∙ get_or_default ps (suc top + k) e q room in
      let other : (get_or ps (suc top + k) q).tx ≢ tx =
      elim (cases_lt (suc top + k) from) [
        | inl less ↦ above (suc top + k) (omega arith) less
        | inr ge ↦
            (let b : ℕ = (get_or es i d).below in
            let far : b ≤ suc top + k = omega (arith, ge, from_is, room) in
            let rest : suc top + k - b < length (drop b ps) = omega (arith, room, length-drop b ps, far) in
            let none = h.below i d lt (suc top + k - b) q rest in
            let moved : get_or (drop b ps) (suc top + k - b) q ≡ get_or ps (suc top + k) q = get_or-drop b ps (suc top + k - b) q ∙ ap (λ n. get_or ps n q) (omega (arith, far)) in
            λ z. none (ap (λ (p : PendingEntry). p.tx) moved ∙ z ∙ sym own))
      ] in
      λ z. other (ap (λ (p : PendingEntry). p.tx) (sym at) ∙ z)
