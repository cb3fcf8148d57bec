-- Analysis of a lawful log: what is true at the checkpoint, and then record by record.
use Rattle.std.proofs.Common.{ℕ, suc, ◌≡◌, ◌≤◌, Bool, true, false, cond, ◌||◌, not, List, [], ◌∷◌, Option, Some, None, refl, sym, ap, ap₂, ◌∙◌, subst, inl, inr, eqb-true, eqb, ltb}
use Rattle.std.proofs.lemmas.Bool.{cases_Bool, or_parts, or_left, or_right, both_ways, and_right, and_left, ltb-false, and_from, not_from_false, not_from_true}
use Rattle.log_laws.proofs.Histories.{last_other}
use Rattle.log_laws.specs.declared.state.State.TheVariants.{Active}
use Rattle.log_laws.specs.Records.{TableEntry, LogRecord, Update, Compensation, Commit, Abort, End, Prepare, History, start, ◌▸◌, last_lsn, first}
use Rattle.log_laws.specs.Meaning.{BasePages, state_by, state_at, is_of, is_abort_of, is_prepare_of, has, aborted, prepared, committed, ended, finished, is_unfinished, last_of, undo_next_of}
use Rattle.log_laws.specs.Laws.{IsLawful, Obeys}
use Rattle.log_laws.specs.Checkpoint.{true_entry}
use Rattle.analysis.specs.Tables.{finishes, work_since, finished_since, undo_next_in, told_in, is_aborting, state_in_work, entry_by, base_since, analysed_entry}
use Rattle.tables.specs.Lawful.{unfinished_entry}
use Rattle.analysis.proofs.Scanned.{state_by-state}
use Rattle.log_laws.specs.Undo.{is_prepared}

-- the last of the work, otherwise the base's
abbrev last_in_work : List (ℕ × LogRecord) → Option TableEntry → ℕ
last_in_work [] None = 0
last_in_work [] (Some e) = e.last
last_in_work (x ∷ work) base = x.0

-- whether there is an entry
abbrev is_listed : List (ℕ × LogRecord) → Option TableEntry → Bool
is_listed [] None = false
is_listed [] (Some e) = true
is_listed (x ∷ work) base = true

-- what is known of the work and the base so far
pub record Known (t : ℕ) (log : History) (work : List (ℕ × LogRecord)) (base : Option TableEntry) : Type 0 where
  pub gone : finished t log ≡ true → (work ≡ []) × (base ≡ None)
  pub state : finished t log ≡ false → state_in_work t work base ≡ state_at t log
  pub undo_next : finished t log ≡ false → undo_next_in work base ≡ undo_next_of t log
  pub last : finished t log ≡ false → last_in_work work base ≡ last_of t log
  pub listed : finished t log ≡ false → is_listed work base ≡ has (is_of t) log
  pub own : (e : TableEntry) → base ≡ Some e → e.tx ≡ t

-- ABSENT TRANSACTIONS
pub record Absent (t : ℕ) (log : History) : Type 0 where
  pub state : state_at t log ≡ Active
  pub undo_next : undo_next_of t log ≡ 0
  pub last : last_of t log ≡ 0

-- a transaction without a record
absent : (t : ℕ) (log : History) → has (is_of t) log ≡ false → Absent t log
absent t (start _) h = record { state = refl; undo_next = refl; last = refl }
absent t (log ▸ Update u) h =
    let (a, b) = or_parts (eqb u.tx t) (has (is_of t) log) h in
    let k = absent t log b in
    record { state = k.state; undo_next = rw a k.undo_next; last = rw a k.last }
absent t (log ▸ Compensation c) h =
    let (a, b) = or_parts (eqb c.tx t) (has (is_of t) log) h in
    let k = absent t log b in
    record { state = k.state; undo_next = rw a k.undo_next; last = rw a k.last }
absent t (log ▸ Abort s) h =
    let (a, b) = or_parts (eqb s.tx t) (has (is_of t) log) h in
    let k = absent t log b in
    record { state = rw a k.state; undo_next = k.undo_next; last = rw a k.last }
absent t (log ▸ Prepare s) h =
    let (a, b) = or_parts (eqb s.tx t) (has (is_of t) log) h in
    let k = absent t log b in
    record { state = rw a k.state; undo_next = k.undo_next; last = rw a k.last }
absent t (log ▸ r) h =
    let (a, b) = or_parts (is_of t r) (has (is_of t) log) h in
    let k = absent t log b in
    record { state = k.state; undo_next = k.undo_next; last = last_other t log r a ∙ k.last }

-- THE STATE
aborting_is : (aborts prepares : Bool) → is_aborting (state_by aborts prepares) ≡ aborts
aborting_is true prepares = refl
aborting_is false true = refl
aborting_is false false = refl

-- two pairs with the same state have the same state after one more record
same_state : (a p b q aborts prepares : Bool) → state_by a p ≡ state_by b q → state_by (aborts || a) (prepares || p) ≡ state_by (aborts || b) (prepares || q)
same_state a p b q true prepares e = refl
same_state a p b q false true e = ap (λ x. state_by x true) (sym (aborting_is a p) ∙ ap is_aborting e ∙ aborting_is b q)
same_state a p b q false false e = e

-- AT THE CHECKPOINT
unfinished_is : (t : ℕ) (log : History) → finished t log ≡ false → is_unfinished t log ≡ has (is_of t) log
unfinished_is t log f =
    let n : not (finished t log) ≡ true = not_from_false (finished t log) f in
    elim (cases_Bool (has (is_of t) log)) [
      | inl e ↦ and_from (has (is_of t) log) (not (finished t log)) e n ∙ sym e
      | inr e ↦ and_left (has (is_of t) log) (not (finished t log)) e ∙ sym e
    ]

not_unfinished : (t : ℕ) (log : History) → finished t log ≡ true → is_unfinished t log ≡ false
not_unfinished t log f = and_right (has (is_of t) log) (not (finished t log)) (not_from_true (finished t log) f)

entry_if : (t : ℕ) (log : History) (b : Bool) → is_unfinished t log ≡ b → unfinished_entry log t ≡ cond b (Some (true_entry log t)) None
entry_if t log b e = ap (λ x. cond x (Some (true_entry log t)) None) e

at_checkpoint : (t : ℕ) (log : History) → Known t log [] (unfinished_entry log t)
at_checkpoint t log = by_has (has (is_of t) log) refl (finished t log) refl
  where
    by_has : (b : Bool) → has (is_of t) log ≡ b → (f : Bool) → finished t log ≡ f → Known t log [] (unfinished_entry log t)
    by_has b e true f =
        (let n : unfinished_entry log t ≡ None = entry_if t log false (not_unfinished t log f) in
        subst (λ o. Known t log [] o) (sym n)
        (record {
          gone = λ _. (refl, refl);
          state = λ g. absurd (both_ways (finished t log) g f);
          undo_next = λ g. absurd (both_ways (finished t log) g f);
          last = λ g. absurd (both_ways (finished t log) g f);
          listed = λ g. absurd (both_ways (finished t log) g f);
          own = λ x i. absurd (cc);
        }))
    by_has true e false f =
        (let n : unfinished_entry log t ≡ Some (true_entry log t) = entry_if t log true (unfinished_is t log f ∙ e) in
        subst (λ o. Known t log [] o) (sym n)
        (record {
          gone = λ g. absurd (both_ways (finished t log) f g);
          state = λ _. state_by-state (state_at t log);
          undo_next = λ _. refl;
          last = λ _. refl;
          listed = λ _. sym e;
          own = λ x i. (let j : true_entry log t ≡ x = cc in ap (λ y. y.tx) (sym j));
        }))
    by_has false e false f =
        (let n : unfinished_entry log t ≡ None = entry_if t log false (unfinished_is t log f ∙ e) in
        let k = absent t log e in
        subst (λ o. Known t log [] o) (sym n)
        (record {
          gone = λ g. absurd (both_ways (finished t log) f g);
          state = λ _. sym k.state;
          undo_next = λ _. sym k.undo_next;
          last = λ _. sym k.last;
          listed = λ _. sym e;
          own = λ x i. absurd (cc);
        }))

-- ONE MORE RECORD
-- a record that is not of t
Known-other : (t : ℕ) (log : History) (r : LogRecord) (work : List (ℕ × LogRecord)) (base : Option TableEntry)
    → finished t (log ▸ r) ≡ finished t log → state_at t (log ▸ r) ≡ state_at t log → undo_next_of t (log ▸ r) ≡ undo_next_of t log → is_of t r ≡ false
    → Known t log work base → Known t (log ▸ r) work base
Known-other t log r work base f s u o k =
    let l : last_of t (log ▸ r) ≡ last_of t log = rw o in
    let h : has (is_of t) (log ▸ r) ≡ has (is_of t) log = rw o in
    record {
      gone = λ g. k.gone (sym f ∙ g);
      state = λ g. k.state (sym f ∙ g) ∙ sym s;
      undo_next = λ g. k.undo_next (sym f ∙ g) ∙ sym u;
      last = λ g. k.last (sym f ∙ g) ∙ sym l;
      listed = λ g. k.listed (sym f ∙ g) ∙ sym h;
      own = k.own;
    }

-- one that finishes t
Known-finished : (t : ℕ) (log : History) → finished t log ≡ true → Known t log [] None
Known-finished t log f =
    record {
      gone = λ _. (refl, refl);
      state = λ g. absurd (both_ways (finished t log) g f);
      undo_next = λ g. absurd (both_ways (finished t log) g f);
      last = λ g. absurd (both_ways (finished t log) g f);
      listed = λ g. absurd (both_ways (finished t log) g f);
      own = λ x i. absurd (cc);
    }

-- a record that continues the work of t
Known-work : (t : ℕ) (log : History) (r : LogRecord) (work : List (ℕ × LogRecord)) (base : Option TableEntry)
    → finished t (log ▸ r) ≡ false → is_of t r ≡ true
    → state_in_work t ((suc (last_lsn log), r) ∷ work) base ≡ state_at t (log ▸ r)
    → undo_next_in ((suc (last_lsn log), r) ∷ work) base ≡ undo_next_of t (log ▸ r)
    → ((e : TableEntry) → base ≡ Some e → e.tx ≡ t) → Known t (log ▸ r) ((suc (last_lsn log), r) ∷ work) base
Known-work t log r work base f o s u own =
    let l : last_of t (log ▸ r) ≡ suc (last_lsn log) = rw o in
    record {
      gone = λ g. absurd (both_ways (finished t (log ▸ r)) f g);
      state = λ _. s;
      undo_next = λ _. u;
      last = λ _. sym l;
      listed = λ _. sym (or_left (is_of t r) (has (is_of t) log) o);
      own = own;
    }

-- what analysis knows after m
abbrev KnownAt : ℕ → ℕ → Option TableEntry → History → Type 0
KnownAt t m base log = Known t log (work_since t m log) (base_since t m base log)

module _ (over : BasePages) (t m : ℕ) (base : Option TableEntry) (log : History) (behind : ltb (last_lsn log) m ≡ false) (k : KnownAt t m base log) where
  -- a record of another transaction, or of none
  other_next : (r : LogRecord) → finished t (log ▸ r) ≡ finished t log → state_at t (log ▸ r) ≡ state_at t log → undo_next_of t (log ▸ r) ≡ undo_next_of t log → is_of t r ≡ false
      → work_since t m (log ▸ r) ≡ work_since t m log → base_since t m base (log ▸ r) ≡ base_since t m base log → KnownAt t m base (log ▸ r)
  other_next r f s u o w b =
      subst (λ x. Known t (log ▸ r) x (base_since t m base (log ▸ r))) (sym w)
      (subst (λ x. Known t (log ▸ r) (work_since t m log) x) (sym b) (Known-other t log r (work_since t m log) (base_since t m base log) f s u o k))

  -- a record that continues the work of t
  work_next : (r : LogRecord) → finished t (log ▸ r) ≡ false → is_of t r ≡ true
      → finished t log ≡ false
      → undo_next_of t (log ▸ r) ≡ undo_next_in ((suc (last_lsn log), r) ∷ work_since t m log) (base_since t m base log)
      → work_since t m (log ▸ r) ≡ (suc (last_lsn log), r) ∷ work_since t m log → base_since t m base (log ▸ r) ≡ base_since t m base log → KnownAt t m base (log ▸ r)
  work_next r f o still u w b =
      let work = work_since t m log in
      let old = base_since t m base log in
      let s : state_in_work t ((suc (last_lsn log), r) ∷ work) old ≡ state_at t (log ▸ r) =
      same_state (told_in (is_abort_of t) is_aborting work old) (told_in (is_prepare_of t) is_prepared work old) (aborted t log) (prepared t log) (is_abort_of t r) (is_prepare_of t r) (k.state still) in
      subst (λ x. Known t (log ▸ r) x (base_since t m base (log ▸ r))) (sym w)
      (subst (λ x. Known t (log ▸ r) ((suc (last_lsn log), r) ∷ work_since t m log) x) (sym b)
      (Known-work t log r work old f o s (sym u) k.own))

  -- one that finishes t
  finish_next : (r : LogRecord) → finished t (log ▸ r) ≡ true → work_since t m (log ▸ r) ≡ [] → base_since t m base (log ▸ r) ≡ None → KnownAt t m base (log ▸ r)
  finish_next r f w b =
      subst (λ x. Known t (log ▸ r) x (base_since t m base (log ▸ r))) (sym w) (subst (λ x. Known t (log ▸ r) [] x) (sym b) (Known-finished t (log ▸ r) f))

  pub next_known : (r : LogRecord) → Obeys over log r → KnownAt t m base (log ▸ r)
  next_known (Update u) o =
      elim (cases_Bool (eqb u.tx t)) [
        | inl e ↦
            (let open_still : finished t log ≡ false = ap (λ x. finished x log) (sym (eqb-true u.tx t e)) ∙ o.finish.0 in
            work_next (Update u) open_still e open_still (rw e) (rw (behind, e)) (rw behind))
        | inr e ↦ other_next (Update u) refl refl (rw e) e (rw (behind, e)) (rw behind)
      ]
  next_known (Compensation c) o =
      elim (cases_Bool (eqb c.tx t)) [
        | inl e ↦
            (let open_still : finished t log ≡ false = ap (λ x. finished x log) (sym (eqb-true c.tx t e)) ∙ o.finish.0 in
            work_next (Compensation c) open_still e open_still (rw e) (rw (behind, e)) (rw behind))
        | inr e ↦ other_next (Compensation c) refl refl (rw e) e (rw (behind, e)) (rw behind)
      ]
  next_known (Commit s) o =
      elim (cases_Bool (eqb s.tx t)) [
        | inl e ↦ finish_next (Commit s) (or_left (eqb s.tx t || committed t log) (ended t log) (or_left (eqb s.tx t) (committed t log) e)) (rw (behind, e)) (rw (behind, e))
        | inr e ↦ other_next (Commit s) (rw e) refl refl e (rw (behind, e)) (rw (behind, e))
      ]
  next_known (Abort s) o =
      elim (cases_Bool (eqb s.tx t)) [
        | inl e ↦
            (let open_still : finished t log ≡ false = ap (λ x. finished x log) (sym (eqb-true s.tx t e)) ∙ o.finish.0 in
            work_next (Abort s) open_still e open_still (sym (k.undo_next open_still)) (rw (behind, e)) (rw behind))
        | inr e ↦ other_next (Abort s) refl (rw e) refl e (rw (behind, e)) (rw behind)
      ]
  next_known (Prepare s) o =
      elim (cases_Bool (eqb s.tx t)) [
        | inl e ↦
            (let open_still : finished t log ≡ false = ap (λ x. finished x log) (sym (eqb-true s.tx t e)) ∙ o.finish.0 in
            work_next (Prepare s) open_still e open_still (sym (k.undo_next open_still)) (rw (behind, e)) (rw behind))
        | inr e ↦ other_next (Prepare s) refl (rw e) refl e (rw (behind, e)) (rw behind)
      ]
  next_known (End s) o =
      elim (cases_Bool (eqb s.tx t)) [
        | inl e ↦ finish_next (End s) (or_right (committed t log) (eqb s.tx t || ended t log) (or_left (eqb s.tx t) (ended t log) e)) (rw (behind, e)) (rw (behind, e))
        | inr e ↦ other_next (End s) (rw e) refl refl e (rw (behind, e)) (rw (behind, e))
      ]
  next_known r o = other_next r refl refl refl refl (rw behind) (rw behind)

known_after : (over : BasePages) (t m : ℕ) (log : History) → IsLawful over log → m ≤ last_lsn log → KnownAt t m (unfinished_entry (first m log) t) log
known_after over t m (start b) h l = at_checkpoint t (start b)
known_after over t m (log ▸ r) h l =
    elim (cases_Bool (ltb (last_lsn log) m)) [
      | inl i ↦
          (let w : work_since t m (log ▸ r) ≡ [] = ap (λ b. cond (b || (finishes t r)) [] (cond (is_of t r) ((suc (last_lsn log), r) ∷ work_since t m log) (work_since t m log))) i in
          let f : first m (log ▸ r) ≡ log ▸ r = ap (λ b. cond b (log ▸ r) (first m log)) i in
          let s : finished_since t m (log ▸ r) ≡ false = rw i in
          let b : base_since t m (unfinished_entry (first m (log ▸ r)) t) (log ▸ r) ≡ unfinished_entry (log ▸ r) t =
          ap (λ x. cond x None (unfinished_entry (first m (log ▸ r)) t)) s ∙ ap (λ x. unfinished_entry x t) f in
          subst (λ x. Known t (log ▸ r) x (base_since t m (unfinished_entry (first m (log ▸ r)) t) (log ▸ r))) (sym w) (subst (λ x. Known t (log ▸ r) [] x) (sym b) (at_checkpoint t (log ▸ r))))
      | inr i ↦
          (let f : first m (log ▸ r) ≡ first m log = ap (λ b. cond b (log ▸ r) (first m log)) i in
          subst (λ x. KnownAt t m (unfinished_entry x t) (log ▸ r)) (sym f)
          (next_known over t m (unfinished_entry (first m log) t) log i (known_after over t m log h.0 (ltb-false (last_lsn log) m i)) r h.1))
    ]

-- WHAT IS KNOWN IS THE ENTRY
entry_is : (t : ℕ) (log : History) (work : List (ℕ × LogRecord)) (base : Option TableEntry) → Known t log work base → entry_by t work base ≡ unfinished_entry log t
entry_is t log work base k = by_finished (finished t log) refl
  where
    by_work : (w : List (ℕ × LogRecord)) (b : Option TableEntry) → Known t log w b → finished t log ≡ false → entry_by t w b ≡ unfinished_entry log t
    by_work [] None n f = sym (entry_if t log false (unfinished_is t log f ∙ sym (n.listed f)))
    by_work [] (Some e) n f =
        (let s : e.state ≡ state_at t log = sym (state_by-state e.state) ∙ n.state f in
        let o : e.tx ≡ t = n.own e refl in
        let u : e.undo_next ≡ undo_next_of t log = n.undo_next f in
        let l : e.last ≡ last_of t log = n.last f in
        let x : ◌≡◌ {A = TableEntry} (record { tx = e.tx; state = e.state; last = e.last; undo_next = e.undo_next }) (true_entry log t) = cc in
        ap (λ y. Some y) x ∙ sym (entry_if t log true (unfinished_is t log f ∙ sym (n.listed f))))
    by_work (x ∷ w) b n f =
        (let s : state_in_work t (x ∷ w) b ≡ state_at t log = n.state f in
        let u : undo_next_in (x ∷ w) b ≡ undo_next_of t log = n.undo_next f in
        let l : x.0 ≡ last_of t log = n.last f in
        let y : ◌≡◌ {A = TableEntry} (record { tx = t; state = state_in_work t (x ∷ w) b; last = x.0; undo_next = undo_next_in (x ∷ w) b }) (true_entry log t) = cc in
        ap (λ z. Some z) y ∙ sym (entry_if t log true (unfinished_is t log f ∙ sym (n.listed f))))

    by_finished : (b : Bool) → finished t log ≡ b → entry_by t work base ≡ unfinished_entry log t
    by_finished true f = (let g = k.gone f in ap₂ (λ w b. entry_by t w b) g.0 g.1 ∙ sym (entry_if t log false (not_unfinished t log f)))
    by_finished false f = by_work work base k f

-- From what is true at m, analysis finds what is true at the end.
pub analysis_is_true : (over : BasePages) (log : History) (t m : ℕ) → IsLawful over log → m ≤ last_lsn log → analysed_entry t m (unfinished_entry (first m log) t) log ≡ unfinished_entry log t
analysis_is_true over log t m h l = entry_is t log (work_since t m log) (base_since t m (unfinished_entry (first m log) t) log) (known_after over t m log h l)
