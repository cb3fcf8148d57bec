-- In a lawful log, what undoing the holder's pending updates leaves in a cell is what the committed transactions leave there.
use mathlib.Core.Path.{fun_ext}
use Rattle.std.proofs.Common.{ℕ, suc, ◌≡◌, ◌≢◌, Bool, true, false, cond, ◌||◌, ◌&&◌, not, List, [], ◌∷◌, drop, Option, Some, None, refl, sym, ap, ap₂, ◌∙◌, subst, inl, inr, arith, eq-eqb, ne_eqb, eqb-true, eqb}
use Rattle.std.proofs.lemmas.Bool.{not_from_false, true_from_ne_false, cases_Bool, cases_eq, eqb-false, or_cases, or_left, or_right, or_parts, both_ways, and_parts, and_from, and_left, and_right, false_from_ne_true, cond-true, cond-false}
use Rattle.std.proofs.Math.Bool.{or-false}
use Rattle.page.specs.Image.{Image}
use Rattle.log_laws.specs.Records.{UpdateRecord, CompensationRecord, PlainRecord, LogRecord, Update, Compensation, Commit, End, History, start, ◌▸◌, last_lsn, record_at}
use Rattle.log_laws.specs.Meaning.{BasePages, Cells, pending, finished, committed, ended, is_of, is_commit_of, touches, writes, image_of, has, replay, effects, owner, is_owned_by, is_owned_among, effects_of, is_winner, winners, in_doubt, is_unfinished, is_loser, prepared, aborted}
use Rattle.log_laws.specs.Laws.{Obeys, IsLawful, Compensates}
use Rattle.log_laws.specs.Tail.{is_among}
use Rattle.log_laws.proofs.Histories.{record_last, record_older, record_more}
use Rattle.log_laws.proofs.Stacks.{pending_found, pending_falls, IsUpdateOf, Falls, Falls-more}
use Rattle.log_laws.proofs.Holders.{unfinished_open, holder, release, release_keeps, release_other, held, holds, found_has, compensated_touches}

-- EFFECTS OF CHOSEN RECORDS
-- one choice is as good as another that agrees on the records in the cell
pub effects_same : (f g : ℕ → LogRecord → Bool) (state : Cells) (log : History) (page slot : ℕ) → ((n : ℕ) (x : LogRecord) → record_at log n ≡ Some x → writes page slot x ≡ true → f n x ≡ g n x) → effects f state log page slot ≡ effects g state log page slot
effects_same f g state (start _) page slot h = refl
effects_same f g state (log ▸ r) page slot h =
    let older : effects f state log page slot ≡ effects g state log page slot = effects_same f g state log page slot (λ n x e w. h n x (record_more log r n x e) w) in
    elim (cases_Bool (writes page slot r)) [
      | inl w ↦ (let i : f (suc (last_lsn log)) r ≡ g (suc (last_lsn log)) r = h (suc (last_lsn log)) r (record_last log r) w in rw (w, i, older))
      | inr w ↦ rw (w, older)
    ]

-- which transactions count in a cell depends on those that have touched it
effects_touched : (base : BasePages) (f g : ℕ → Bool) (log : History) (page slot : ℕ) → ((t : ℕ) → touches t page slot log ≡ true → f t ≡ g t) → effects_of f base.cells log page slot ≡ effects_of g base.cells log page slot
effects_touched base f g log page slot h =
    effects_same (λ _ x. is_owned_among f (owner x)) (λ _ x. is_owned_among g (owner x)) base.cells log page slot (λ n x e w. by_owner n x e w (owner x) refl)
  where
    by_owner : (n : ℕ) (x : LogRecord) → record_at log n ≡ Some x → writes page slot x ≡ true → (o : Option ℕ) → owner x ≡ o → is_owned_among f o ≡ is_owned_among g o
    by_owner n x e w None i = refl
    by_owner n x e w (Some t) i =
        h t (found_has (λ r. is_of t r && writes page slot r) log n x e (and_from (is_of t x) (writes page slot x) (ap (is_owned_by t) i ∙ eq-eqb t t refl) w))

-- if the holder counts, the newest of all records does
effects_of_holder : (base : BasePages) (chosen : ℕ → Bool) (log : History) (page slot t : ℕ) → holder page slot log ≡ Some t → chosen t ≡ true → effects_of chosen base.cells log page slot ≡ replay base log page slot
effects_of_holder base chosen (start _) page slot t e h = absurd (cc)
effects_of_holder base chosen (log ▸ Update u) page slot t e h =
    elim (cases_Bool (eqb u.page page && eqb u.slot slot)) [
      | inl on ↦
          (let e' : Some u.tx ≡ Some t = rw on at e in
          let i : u.tx ≡ t = cc in
          let own : chosen u.tx ≡ true = ap chosen i ∙ h in
          rw (on, own))
      | inr on ↦ rw on (effects_of_holder base chosen log page slot t (rw on at e) h)
    ]
effects_of_holder base chosen (log ▸ Compensation c) page slot t e h =
    elim (cases_Bool (eqb c.page page && eqb c.slot slot)) [
      | inl on ↦
          (let e' : Some c.tx ≡ Some t = rw on at e in
          let i : c.tx ≡ t = cc in
          let own : chosen c.tx ≡ true = ap chosen i ∙ h in
          rw (on, own))
      | inr on ↦ rw on (effects_of_holder base chosen log page slot t (rw on at e) h)
    ]
effects_of_holder base chosen (log ▸ Commit s) page slot t e h = effects_of_holder base chosen log page slot t (release_keeps s.tx t (holder page slot log) e).1 h
effects_of_holder base chosen (log ▸ End s) page slot t e h = effects_of_holder base chosen log page slot t (release_keeps s.tx t (holder page slot log) e).1 h
effects_of_holder base chosen (log ▸ r) page slot t e h = effects_of_holder base chosen log page slot t e h

-- a record that does not count, if the same transactions count with it
pub effects_more : (base : BasePages) (f g : ℕ → Bool) (log : History) (r : LogRecord) (page slot : ℕ) → ((t : ℕ) → f t ≡ g t) → (writes page slot r && is_owned_among g (owner r)) ≡ false
    → effects_of f base.cells (log ▸ r) page slot ≡ effects_of g base.cells log page slot
effects_more base f g log r page slot same e =
    ap (λ h. effects_of h base.cells (log ▸ r) page slot) (fun_ext same)
    ∙ cond-false (writes page slot r && is_owned_among g (owner r)) (image_of r) (effects_of g base.cells log page slot) e

-- UNDOING
abbrev pub undo_at : Option LogRecord → ℕ → ℕ → Image → Image
undo_at None page slot v = v
undo_at (Some (Update u)) page slot v = cond (eqb u.page page && eqb u.slot slot) u.before v
undo_at (Some _) page slot v = v

-- what undoing these updates, in this order, leaves in the cell
abbrev pub undone : History → ℕ → ℕ → List ℕ → Image → Image
undone log page slot [] v = v
undone log page slot (n ∷ ns) v = undone log page slot ns (undo_at (record_at log n) page slot v)

-- a longer log changes nothing
undone_more : (log : History) (r : LogRecord) (page slot : ℕ) (ns : List ℕ) (v : Image) → Falls (suc (last_lsn log)) ns → undone (log ▸ r) page slot ns v ≡ undone log page slot ns v
undone_more log r page slot [] v f = refl
undone_more log r page slot (n ∷ ns) v f =
    let e : record_at (log ▸ r) n ≡ record_at log n = record_older log r n (omega (arith, f.0)) in
    ap (λ x. undone (log ▸ r) page slot ns (undo_at x page slot v)) e
    ∙ undone_more log r page slot ns (undo_at (record_at log n) page slot v) (Falls-more n (suc (last_lsn log)) ns (omega (arith, f.0)) f.1)

-- undoing those of a transaction that hasn't touched the cell leaves it
undone_untouched : (log : History) (page slot t : ℕ) → touches t page slot log ≡ false → (ns : List ℕ) (v : Image) → ((n : ℕ) → is_among n ns ≡ true → IsUpdateOf t log n) → undone log page slot ns v ≡ v
undone_untouched log page slot t w [] v each = refl
undone_untouched log page slot t w (n ∷ ns) v each =
    let (u, found, own) = each n (or_left (eqb n n) (is_among n ns) (eq-eqb n n refl)) in
    let off : (eqb u.page page && eqb u.slot slot) ≡ false =
    false_from_ne_true (eqb u.page page && eqb u.slot slot)
    (λ on. both_ways (touches t page slot log) w (found_has (λ r. is_of t r && writes page slot r) log n (Update u) found (and_from (eqb u.tx t) (eqb u.page page && eqb u.slot slot) (eq-eqb u.tx t own) on))) in
    let e : undo_at (record_at log n) page slot v ≡ v = ap (λ x. undo_at x page slot v) found ∙ rw off in
    ap (undone log page slot ns) e ∙ undone_untouched log page slot t w ns v (λ m i. each m (or_right (eqb m n) (is_among m ns) i))

abbrev restored_by : (base : BasePages) → Option ℕ → ℕ → ℕ → History → Image
restored_by base None page slot log = replay base log page slot
restored_by base (Some t) page slot log = undone log page slot (pending t log) (replay base log page slot)

-- what is in the cell after its holder is rolled back
abbrev pub restored : (base : BasePages) → ℕ → ℕ → History → Image
restored base page slot log = restored_by base (holder page slot log) page slot log

-- THE COMMITTED
-- what only the committed transactions leave in the cells
abbrev pub kept : (base : BasePages) → History → Cells
kept base log = effects_of (λ t. committed t log) base.cells log

-- a record that is not a commit and does not count
kept_more : (base : BasePages) (log : History) (r : LogRecord) (page slot : ℕ) → ((t : ℕ) → is_commit_of t r ≡ false) → (writes page slot r && is_owned_among (λ t. committed t log) (owner r)) ≡ false → kept base (log ▸ r) page slot ≡ kept base log page slot
kept_more base log r page slot h e = effects_more base (λ t. committed t (log ▸ r)) (λ t. committed t log) log r page slot (λ t. ap (λ b. b || committed t log) (h t)) e

-- what the rollback of a transaction that may update the cell would restore in it
module _ (base : BasePages) (log : History) (h : IsLawful base log) (page slot : ℕ) (ih : restored base page slot log ≡ kept base log page slot) where
  own_by : (t : ℕ) → finished t log ≡ false → ((other : ℕ) → other ≢ t → touches other page slot log ≡ true → finished other log ≡ true) → (o : Option ℕ) → holder page slot log ≡ o → undone log page slot (pending t log) (replay base log page slot) ≡ kept base log page slot
  own_by t f strict None e =
      undone_untouched log page slot t
      (false_from_ne_true (touches t page slot log) (λ w. (let e' : holder page slot log ≡ Some t = holds base log h page slot t w f in cc)))
      (pending t log) (replay base log page slot) (pending_found t log)
      ∙ ap (λ o. restored_by base o page slot log) (sym e) ∙ ih
  own_by t f strict (Some g) e =
      elim (cases_eq g t) [
        | inl i ↦ ap (λ x. restored_by base x page slot log) (ap Some (sym i) ∙ sym e) ∙ ih
        | inr n ↦ (let k = held base log h page slot g e in absurd (both_ways (finished g log) k.0 (strict g n k.1)))
      ]

  restored_update_on : (u : UpdateRecord) → Obeys base log (Update u) → (eqb u.page page && eqb u.slot slot) ≡ true → restored base page slot (log ▸ Update u) ≡ kept base (log ▸ Update u) page slot
  restored_update_on u o on =
      let k = suc (last_lsn log) in
      let (p, s) = and_parts (eqb u.page page) (eqb u.slot slot) on in
      let at_cell : (f : ℕ → ℕ → Image) → f u.page u.slot ≡ f page slot = λ f. ap₂ f (eqb-true u.page page p) (eqb-true u.slot slot s) in
      let holder_is : holder page slot (log ▸ Update u) ≡ Some u.tx = rw on in
      let pending_is : pending u.tx (log ▸ Update u) ≡ suc (last_lsn log) ∷ pending u.tx log = rw (eq-eqb u.tx u.tx refl) in
      let value_is : replay base (log ▸ Update u) page slot ≡ u.after = rw on in
      let undo_is : undo_at (record_at (log ▸ Update u) (suc (last_lsn log))) page slot u.after ≡ u.before = ap (λ x. undo_at x page slot u.after) (record_last log (Update u)) ∙ rw on in
      ap (λ x. restored_by base x page slot (log ▸ Update u)) holder_is
      ∙ ap₂ (λ ns v. undone (log ▸ Update u) page slot ns v) pending_is value_is
      ∙ ap (undone (log ▸ Update u) page slot (pending u.tx log)) undo_is
      ∙ undone_more log (Update u) page slot (pending u.tx log) u.before (pending_falls u.tx log)
      ∙ ap (undone log page slot (pending u.tx log)) (o.before ∙ at_cell (replay base log))
      ∙ own_by u.tx o.finish.0 (λ other n w. o.strict other n (ap₂ (λ x y. touches other x y log) (eqb-true u.page page p) (eqb-true u.slot slot s) ∙ w)) (holder page slot log) refl
      ∙ sym (kept_more base log (Update u) page slot (λ _. refl) (and_right (eqb u.page page && eqb u.slot slot) (committed u.tx log) (or_parts (committed u.tx log) (ended u.tx log) o.finish.0).0))

  -- a record that changes neither the holder nor the value
  restored_same : (r : LogRecord) → holder page slot (log ▸ r) ≡ holder page slot log → replay base (log ▸ r) page slot ≡ replay base log page slot
      → ((t : ℕ) → holder page slot log ≡ Some t → (v : Image) → undone (log ▸ r) page slot (pending t (log ▸ r)) v ≡ undone log page slot (pending t log) v)
      → kept base (log ▸ r) page slot ≡ kept base log page slot → restored base page slot (log ▸ r) ≡ kept base (log ▸ r) page slot
  restored_same r holder_is value_is undone_is kept_is =
      ap (λ x. restored_by base x page slot (log ▸ r)) holder_is ∙ by_holder (holder page slot log) refl ∙ ih ∙ sym kept_is
    where
      by_holder : (o : Option ℕ) → holder page slot log ≡ o → restored_by base o page slot (log ▸ r) ≡ restored_by base o page slot log
      by_holder None e = value_is
      by_holder (Some t) e = ap (undone (log ▸ r) page slot (pending t (log ▸ r))) value_is ∙ undone_is t e (replay base log page slot)

  undone_plain : (r : LogRecord) (t : ℕ) → pending t (log ▸ r) ≡ pending t log → (v : Image) → undone (log ▸ r) page slot (pending t (log ▸ r)) v ≡ undone log page slot (pending t log) v
  undone_plain r t e v = ap (λ ns. undone (log ▸ r) page slot ns v) e ∙ undone_more log r page slot (pending t log) v (pending_falls t log)

  restored_update_off : (u : UpdateRecord) → Obeys base log (Update u) → (eqb u.page page && eqb u.slot slot) ≡ false → restored base page slot (log ▸ Update u) ≡ kept base (log ▸ Update u) page slot
  restored_update_off u o off =
      restored_same (Update u) (rw off) (rw off)
      (λ t _ v. elim (cases_Bool (eqb u.tx t)) [
        | inl e ↦
            (let pending_is : pending t (log ▸ Update u) ≡ suc (last_lsn log) ∷ pending t log = rw e in
            let undo_is : undo_at (record_at (log ▸ Update u) (suc (last_lsn log))) page slot v ≡ v = ap (λ x. undo_at x page slot v) (record_last log (Update u)) ∙ rw off in
            ap (λ ns. undone (log ▸ Update u) page slot ns v) pending_is
            ∙ ap (undone (log ▸ Update u) page slot (pending t log)) undo_is
            ∙ undone_more log (Update u) page slot (pending t log) v (pending_falls t log))
        | inr e ↦ undone_plain (Update u) t (rw e) v
      ])
      (kept_more base log (Update u) page slot (λ _. refl) (and_left (eqb u.page page && eqb u.slot slot) (committed u.tx log) off))

  -- the update that a CLR undoes is in its cell
  same_cell : (c : CompensationRecord) (k : Compensates log c) → (eqb k.update.page page && eqb k.update.slot slot) ≡ (eqb c.page page && eqb c.slot slot)
  same_cell c k = ap₂ (λ x y. eqb x page && eqb y slot) (sym k.page) (sym k.slot)

  below_falls : (c : CompensationRecord) (k : Compensates log c) → Falls (suc (last_lsn log)) k.below
  below_falls c k =
      let f : Falls (suc (last_lsn log)) (k.lsn ∷ k.below) = subst (λ ns. Falls (suc (last_lsn log)) ns) k.newest (pending_falls c.tx log) in
      Falls-more k.lsn (suc (last_lsn log)) k.below (omega (arith, f.0)) f.1

  pending_less : (c : CompensationRecord) (k : Compensates log c) → pending c.tx (log ▸ Compensation c) ≡ k.below
  pending_less c k =
      let e : pending c.tx (log ▸ Compensation c) ≡ drop 1 (pending c.tx log) = rw (eq-eqb c.tx c.tx refl) in
      e ∙ ap (drop 1) k.newest

  -- undoing it first
  undone_first : (c : CompensationRecord) (k : Compensates log c) (v w : Image) → undo_at (Some (Update k.update)) page slot v ≡ w → undone log page slot (pending c.tx log) v ≡ undone log page slot k.below w
  undone_first c k v w e =
      ap (λ ns. undone log page slot ns v) k.newest ∙ ap (undone log page slot k.below) (ap (λ x. undo_at x page slot v) k.found ∙ e)

  restored_compensation_on : (c : CompensationRecord) → Obeys base log (Compensation c) → (eqb c.page page && eqb c.slot slot) ≡ true → restored base page slot (log ▸ Compensation c) ≡ kept base (log ▸ Compensation c) page slot
  restored_compensation_on c o on =
      let k = o.compensation in
      let (p, s) = and_parts (eqb c.page page) (eqb c.slot slot) on in
      let touched : touches c.tx page slot log ≡ true = sym (ap₂ (λ x y. touches c.tx x y log) (eqb-true c.page page p) (eqb-true c.slot slot s)) ∙ compensated_touches log c k in
      let held_by : holder page slot log ≡ Some c.tx = holds base log h page slot c.tx touched o.finish.0 in
      let holder_is : holder page slot (log ▸ Compensation c) ≡ Some c.tx = rw on in
      let value_is : replay base (log ▸ Compensation c) page slot ≡ c.image = rw on in
      let undo_is : undo_at (Some (Update k.update)) page slot (replay base log page slot) ≡ c.image = cond-true (eqb k.update.page page && eqb k.update.slot slot) k.update.before (replay base log page slot) (same_cell c k ∙ on) ∙ sym k.image in
      ap (λ x. restored_by base x page slot (log ▸ Compensation c)) holder_is
      ∙ ap₂ (λ ns v. undone (log ▸ Compensation c) page slot ns v) (pending_less c k) value_is
      ∙ undone_more log (Compensation c) page slot k.below c.image (below_falls c k)
      ∙ sym (undone_first c k (replay base log page slot) c.image undo_is)
      ∙ ap (λ x. restored_by base x page slot log) (sym held_by)
      ∙ ih
      ∙ sym (kept_more base log (Compensation c) page slot (λ _. refl) (and_right (eqb c.page page && eqb c.slot slot) (committed c.tx log) (or_parts (committed c.tx log) (ended c.tx log) o.finish.0).0))

  restored_compensation_off : (c : CompensationRecord) → Obeys base log (Compensation c) → (eqb c.page page && eqb c.slot slot) ≡ false → restored base page slot (log ▸ Compensation c) ≡ kept base (log ▸ Compensation c) page slot
  restored_compensation_off c o off =
      let k = o.compensation in
      restored_same (Compensation c) (rw off) (rw off)
      (λ t _ v. elim (cases_Bool (eqb c.tx t)) [
        | inl e ↦
            subst (λ x. undone (log ▸ Compensation c) page slot (pending x (log ▸ Compensation c)) v ≡ undone log page slot (pending x log) v) (eqb-true c.tx t e)
            (ap (λ ns. undone (log ▸ Compensation c) page slot ns v) (pending_less c k)
            ∙ undone_more log (Compensation c) page slot k.below v (below_falls c k)
            ∙ sym (undone_first c k v v (cond-false (eqb k.update.page page && eqb k.update.slot slot) k.update.before v (same_cell c k ∙ off))))
        | inr e ↦ undone_plain (Compensation c) t (rw e) v
      ])
      (kept_more base log (Compensation c) page slot (λ _. refl) (and_left (eqb c.page page && eqb c.slot slot) (committed c.tx log) off))

  -- a commit makes its transaction's records count: the newest record of a cell that it holds is its own, and in other cells it has none
  restored_commit : (s : PlainRecord) → Obeys base log (Commit s) → restored base page slot (log ▸ Commit s) ≡ kept base (log ▸ Commit s) page slot
  restored_commit s o = by_holder (holder page slot log) refl
    where
      untouched : (holder page slot log ≡ Some s.tx → ⊥) → (t : ℕ) → touches t page slot log ≡ true → eqb s.tx t ≡ false
      untouched n t w = ne_eqb s.tx t (λ i. n (holds base log h page slot s.tx (ap (λ x. touches x page slot log) i ∙ w) o.finish.0))

      unchanged : (holder page slot log ≡ Some s.tx → ⊥) → kept base (log ▸ Commit s) page slot ≡ kept base log page slot
      unchanged n = effects_touched base (λ t. committed t (log ▸ Commit s)) (λ t. committed t log) log page slot (λ t w. ap (λ b. b || committed t log) (untouched n t w))

      by_holder : (o : Option ℕ) → holder page slot log ≡ o → restored base page slot (log ▸ Commit s) ≡ kept base (log ▸ Commit s) page slot
      by_holder None e =
          restored_same (Commit s) (ap (release s.tx) e ∙ sym e) refl (λ t _ v. undone_plain (Commit s) t refl v) (unchanged (λ e'. cc))
      by_holder (Some t) e =
          elim (cases_Bool (eqb s.tx t)) [
            | inl i ↦
                (let holder_is : holder page slot (log ▸ Commit s) ≡ None = ap (release s.tx) e ∙ rw i in
                let e' : holder page slot log ≡ Some s.tx = e ∙ ap Some (sym (eqb-true s.tx t i)) in
                ap (λ x. restored_by base x page slot (log ▸ Commit s)) holder_is ∙ sym (effects_of_holder base (λ x. committed x (log ▸ Commit s)) log page slot s.tx e' (or_left (eqb s.tx s.tx) (committed s.tx log) (eq-eqb s.tx s.tx refl))))
            | inr i ↦
                restored_same (Commit s) (release_other s.tx t (holder page slot log) i e ∙ sym e) refl (λ t _ v. undone_plain (Commit s) t refl v)
                (unchanged (λ e'. (let j : t ≡ s.tx = cc in eqb-false s.tx t i (sym j))))
          ]

  restored_end : (s : PlainRecord) → Obeys base log (End s) → restored base page slot (log ▸ End s) ≡ kept base (log ▸ End s) page slot
  restored_end s o = by_holder (holder page slot log) refl
    where
      unchanged : kept base (log ▸ End s) page slot ≡ kept base log page slot
      unchanged = kept_more base log (End s) page slot (λ _. refl) refl

      by_holder : (o : Option ℕ) → holder page slot log ≡ o → restored base page slot (log ▸ End s) ≡ kept base (log ▸ End s) page slot
      by_holder None e = restored_same (End s) (ap (release s.tx) e ∙ sym e) refl (λ t _ v. undone_plain (End s) t refl v) unchanged
      by_holder (Some t) e =
          elim (cases_Bool (eqb s.tx t)) [
            | inl i ↦
                (let j : s.tx ≡ t = eqb-true s.tx t i in
                let open_still : committed s.tx log ≡ false = ap (λ x. committed x log) j ∙ (or_parts (committed t log) (ended t log) (held base log h page slot t e).0).0 in
                let nothing : pending t log ≡ [] = ap (λ x. pending x log) (sym j) ∙ o.compensation open_still in
                let holder_is : holder page slot (log ▸ End s) ≡ None = ap (release s.tx) e ∙ rw i in
                ap (λ x. restored_by base x page slot (log ▸ End s)) holder_is
                ∙ sym (ap (λ ns. undone log page slot ns (replay base log page slot)) nothing)
                ∙ ap (λ x. restored_by base x page slot log) (sym e) ∙ ih ∙ sym unchanged)
            | inr i ↦ restored_same (End s) (release_other s.tx t (holder page slot log) i e ∙ sym e) refl (λ t _ v. undone_plain (End s) t refl v) unchanged
          ]

-- after the holder of a cell is rolled back, the cell has what the committed transactions leave there
pub restored_is_kept : (base : BasePages) (log : History) → IsLawful base log → (page slot : ℕ) → restored base page slot log ≡ kept base log page slot
restored_is_kept base (start _) h page slot = refl
restored_is_kept base (log ▸ Update u) h page slot =
    elim (cases_Bool (eqb u.page page && eqb u.slot slot)) [
      | inl on ↦ restored_update_on base log h.0 page slot (restored_is_kept base log h.0 page slot) u h.1 on
      | inr off ↦ restored_update_off base log h.0 page slot (restored_is_kept base log h.0 page slot) u h.1 off
    ]
restored_is_kept base (log ▸ Compensation c) h page slot =
    elim (cases_Bool (eqb c.page page && eqb c.slot slot)) [
      | inl on ↦ restored_compensation_on base log h.0 page slot (restored_is_kept base log h.0 page slot) c h.1 on
      | inr off ↦ restored_compensation_off base log h.0 page slot (restored_is_kept base log h.0 page slot) c h.1 off
    ]
restored_is_kept base (log ▸ Commit s) h page slot = restored_commit base log h.0 page slot (restored_is_kept base log h.0 page slot) s h.1
restored_is_kept base (log ▸ End s) h page slot = restored_end base log h.0 page slot (restored_is_kept base log h.0 page slot) s h.1
restored_is_kept base (log ▸ r) h page slot =
    restored_same base log h.0 page slot (restored_is_kept base log h.0 page slot) r refl refl (λ t _ v. undone_plain base log h.0 page slot (restored_is_kept base log h.0 page slot) r t refl v) (kept_more base log r page slot (λ _. refl) refl)

-- a transaction that touched a cell has a record
pub touches_has : (t page slot : ℕ) (log : History) → touches t page slot log ≡ true → has (is_of t) log ≡ true
touches_has t page slot (start _) w = w
touches_has t page slot (log ▸ r) w =
    elim (or_cases (is_of t r && writes page slot r) (touches t page slot log) w) [
      | inl i ↦ or_left (is_of t r) (has (is_of t) log) (and_parts (is_of t r) (writes page slot r) i).0
      | inr i ↦ or_right (is_of t r) (has (is_of t) log) (touches_has t page slot log i)
    ]

-- THE WINNERS
-- a transaction in doubt has not finished
doubt_open : (t : ℕ) (log : History) → in_doubt t log ≡ true → finished t log ≡ false
doubt_open t log d = unfinished_open t log (and_parts (is_unfinished t log) (prepared t log && not (aborted t log)) d).0

-- if no transaction in doubt has touched a cell, the committed ones are the winners there
winners_kept : (base : BasePages) (log : History) (page slot : ℕ) → ((t : ℕ) → touches t page slot log ≡ true → in_doubt t log ≡ false) → winners base log page slot ≡ kept base log page slot
winners_kept base log page slot h =
    effects_touched base (is_winner log) (λ t. committed t log) log page slot (λ t w. ap (λ b. committed t log || b) (h t w) ∙ or-false (committed t log))

-- if a transaction in doubt holds the cell, the newest record there is a winner's
winners_held : (base : BasePages) (log : History) (page slot t : ℕ) → holder page slot log ≡ Some t → in_doubt t log ≡ true → winners base log page slot ≡ replay base log page slot
winners_held base log page slot t e d = effects_of_holder base (is_winner log) log page slot t e (or_right (committed t log) (in_doubt t log) d)

-- so if no transaction is a loser, the cell has what the winners leave there
pub replay_is_winners : (base : BasePages) (log : History) → IsLawful base log → ((t : ℕ) → is_loser t log ≡ false) → (page slot : ℕ) → replay base log page slot ≡ winners base log page slot
replay_is_winners base log h none page slot = by_holder (holder page slot log) refl
  where
    by_holder : (o : Option ℕ) → holder page slot log ≡ o → replay base log page slot ≡ winners base log page slot
    by_holder None e =
        ap (λ x. restored_by base x page slot log) (sym e) ∙ restored_is_kept base log h page slot
        ∙ sym (winners_kept base log page slot (λ t w. false_from_ne_true (in_doubt t log) (λ d. (let e' : holder page slot log ≡ Some t = holds base log h page slot t w (doubt_open t log d) in cc))))
    by_holder (Some t) e =
        (let k = held base log h page slot t e in
        let unfinished : is_unfinished t log ≡ true = and_from (has (is_of t) log) (not (finished t log)) (touches_has t page slot log k.1) (not_from_false (finished t log) k.0) in
        let doubt : in_doubt t log ≡ true =
        true_from_ne_false (in_doubt t log) (λ d. both_ways (is_loser t log) (none t) (and_from (is_unfinished t log) (not (in_doubt t log)) unfinished (not_from_false (in_doubt t log) d))) in
        sym (winners_held base log page slot t e doubt))
