-- What has to be known of a stretch of the log.
use Rattle.std.proofs.Common.{ℕ, suc, ◌≡◌, Bool, true, false, ◌||◌, cond, eqb, ltb, eqb-true, ne_eqb, List, [], ◌∷◌, Option, Some, None, refl, sym, ap, ap₂, ◌∙◌, arith, inl, inr}
use Rattle.std.specs.Prelude.{⊤}
use Rattle.std.proofs.Math.Bool.{or_assoc}
use Rattle.std.proofs.lemmas.Bool.{cases_Bool, cond_both}
use Rattle.log_laws.specs.declared.state.State.{State}
use Rattle.log_laws.specs.Records.{TableEntry, LogRecord, Update, Compensation, History, start, ◌▸◌, last_lsn}
use Rattle.log_laws.specs.Meaning.{state_by, is_of, is_abort_of, is_prepare_of}
use Rattle.log_laws.specs.Tail.{is_among}
use Rattle.log_laws.specs.Undo.{is_prepared}
use Rattle.analysis.specs.Tables.{finishes, work_since, finished_since, undo_next_in, told_in, is_aborting, state_in_work, entry_by, analysed_entry, entry_at}
use Rattle.analysis.specs.Steps.{state_in, undo_next_of_entry}
use Rattle.analysis.specs.Stretch.{state_joined, base_left, entry_joined, entry_behind, undoes_last, StretchesAreDescribed}
use Rattle.analysis.proofs.Scanned.{saying}
use Rattle.analysis.proofs.Stretches.{nothing_undo_next, left_state}

-- THE STATE
-- in the work, or of the base
told_split : (such : LogRecord → Bool) (in_such : State → Bool) (work : List (ℕ × LogRecord)) (base : Option TableEntry)
    → told_in such in_such work base ≡ (told_in such in_such work None || told_in such in_such [] base)
told_split such in_such [] base = refl
told_split such in_such ((lsn, r) ∷ work) base =
    ap (λ b. such r || b) (told_split such in_such work base) ∙ sym (or_assoc (such r) (told_in such in_such work None) (told_in such in_such [] base))

states_joined : (t : ℕ) (aborts prepares : Bool) (base : Option TableEntry)
    → state_joined (state_by aborts prepares) (state_in base) ≡ state_by (aborts || told_in (is_abort_of t) is_aborting [] base) (prepares || told_in (is_prepare_of t) is_prepared [] base)
states_joined t true prepares base = refl
states_joined t false true None = refl
states_joined t false true (Some e) = refl
states_joined t false false None = refl
states_joined t false false (Some e) = refl

state_split : (t : ℕ) (work : List (ℕ × LogRecord)) (base : Option TableEntry) → state_joined (state_in_work t work None) (state_in base) ≡ state_in_work t work base
state_split t work base =
    states_joined t (told_in (is_abort_of t) is_aborting work None) (told_in (is_prepare_of t) is_prepared work None) base
    ∙ ap₂ state_by (sym (told_split (is_abort_of t) is_aborting work base)) (sym (told_split (is_prepare_of t) is_prepared work base))

-- THE UNDO-NEXT
-- no record of the work has the LSN 0
abbrev HaveLsns : List (ℕ × LogRecord) → Type 0
HaveLsns [] = ⊤
HaveLsns ((lsn, r) ∷ work) = (eqb lsn 0 ≡ false) × HaveLsns work

have_lsns : (t : ℕ) (log : History) → HaveLsns (work_since t 0 log)
have_lsns t (start _) = tt
have_lsns t (log ▸ r) =
    cond_both (ltb (last_lsn log) 0 || finishes t r) [] (cond (is_of t r) ((suc (last_lsn log), r) ∷ work_since t 0 log) (work_since t 0 log)) HaveLsns
    (λ _. tt)
    (λ _. cond_both (is_of t r) ((suc (last_lsn log), r) ∷ work_since t 0 log) (work_since t 0 log) HaveLsns
    (λ _. (ne_eqb (suc (last_lsn log)) 0 (λ e. omega (arith, e)), have_lsns t log))
    (λ _. have_lsns t log))

undo_next_split : (work : List (ℕ × LogRecord)) (base : Option TableEntry) → HaveLsns work
    → cond (eqb (undo_next_in work None) 0) (undo_next_of_entry (base_left false (undoes_last work) base)) (undo_next_in work None) ≡ undo_next_in work base
undo_next_split [] None h = refl
undo_next_split [] (Some e) h = refl
undo_next_split ((lsn, Update u) ∷ work) base h = ap (λ b. cond b (undo_next_of_entry (base_left false (undoes_last work) base)) lsn) h.0
undo_next_split ((lsn, Compensation c) ∷ work) base h =
    elim (cases_Bool (eqb c.undo_next 0)) [
      | inl i ↦ rw i (nothing_undo_next base ∙ sym (eqb-true c.undo_next 0 i))
      | inr i ↦ rw i refl
    ]
undo_next_split ((lsn, r) ∷ work) base h = undo_next_split work base h.1

zero_stays : (n : ℕ) → cond (eqb n 0) 0 n ≡ n
zero_stays n =
    elim (cases_Bool (eqb n 0)) [
      | inl i ↦ rw i (sym (eqb-true n 0 i))
      | inr i ↦ rw i refl
    ]

-- THE ENTRY, if the transaction did not finish in the stretch, and if it did
joined_work : (t : ℕ) (work : List (ℕ × LogRecord)) (base : Option TableEntry) → HaveLsns work → entry_joined t (entry_by t work None) (base_left false (undoes_last work) base) ≡ entry_by t work base
joined_work t [] base h = refl
joined_work t (x ∷ work) base h =
    let left : state_in (base_left false (undoes_last (x ∷ work)) base) ≡ state_in base = sym (left_state false (undoes_last (x ∷ work)) base) ∙ left_state false false base in
    ap₂ (λ s n. saying t s x.0 n) (ap (state_joined (state_in_work t (x ∷ work) None)) left ∙ state_split t (x ∷ work) base) (undo_next_split (x ∷ work) base h)

joined_none : (t : ℕ) (work : List (ℕ × LogRecord)) → entry_joined t (entry_by t work None) None ≡ entry_by t work None
joined_none t [] = refl
joined_none t (x ∷ work) = ap₂ (λ s n. saying t s x.0 n) (state_split t (x ∷ work) None) (zero_stays (undo_next_in (x ∷ work) None))

pub stretches_are_described : StretchesAreDescribed
stretches_are_described log stretch has t base = by_finished (finished_since t 0 log) refl
  where
    by_finished : (f : Bool) → finished_since t 0 log ≡ f → entry_behind t stretch base ≡ analysed_entry t 0 base log
    by_finished true e =
        (let work = work_since t 0 log in
        let own : entry_at t stretch.entries ≡ entry_by t work None = has.entries t ∙ ap (λ f. entry_by t work (cond f None None)) e in
        ap₂ (λ o f. entry_joined t o (base_left f (is_among t stretch.undone) base)) own (has.finished t ∙ e)
        ∙ joined_none t work ∙ sym (ap (λ f. entry_by t work (cond f None base)) e))
    by_finished false e =
        (let work = work_since t 0 log in
        let own : entry_at t stretch.entries ≡ entry_by t work None = has.entries t ∙ ap (λ f. entry_by t work (cond f None None)) e in
        ap₂ (entry_joined t) own (ap₂ (λ f u. base_left f u base) (has.finished t ∙ e) (has.undone t e))
        ∙ joined_work t work base (have_lsns t log) ∙ sym (ap (λ f. entry_by t work (cond f None base)) e))
