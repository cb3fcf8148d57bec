-- One more record, looked at.
use Rattle.std.proofs.Common.{ℕ, suc, ◌≡◌, ◌+◌, ◌≤◌, Bool, true, false, ◌||◌, cond, eqb, ltb, leb, List, [], ◌∷◌, Option, Some, None, refl, sym, ap, ap₂, ◌∙◌, arith, inl, inr, max}
use Rattle.std.proofs.lemmas.Bool.{cases_Bool, le-ltb, lt-ltb, le-leb, lt-leb}
use Rattle.log_laws.specs.declared.state.State.{State}
use Rattle.log_laws.specs.declared.state.State.TheVariants.{Active, Prepared, Aborting}
use Rattle.log_laws.specs.Records.{TableEntry, LogRecord, Update, Abort, Prepare, CheckpointBegin, CheckpointEnd, History, start, ◌▸◌, first, last_lsn, base_lsn}
use Rattle.log_laws.specs.Meaning.{state_by, is_of, is_abort_of, is_prepare_of, is_on}
use Rattle.log_laws.specs.Undo.{is_prepared}
use Rattle.log_laws.specs.Checkpoint.{or_else}
use Rattle.analysis.specs.Tables.{work_since, finished_since, base_since, undo_next_in, told_in, is_aborting, state_in_work, entry_by, analysed_entry, first_behind, analysed_rec_lsn}
use Rattle.analysis.specs.Steps.{prepared_from, state_in, undo_next_of_entry, entry_after, rec_lsn_after, entry_seen}
use Rattle.wal.specs.declared.glance.Glance.{Glance}
use Rattle.wal.specs.Glances.{glance_of}
use Rattle.log_laws.proofs.Histories.{base_within, size_of_first_le, base_of_first}

-- what the entry has as state and undo-next
pub state_by-state : (s : State) → state_by (is_aborting s) (is_prepared s) ≡ s
state_by-state Active = refl
state_by-state Prepared = refl
state_by-state Aborting = refl

pub state_in-entry : (t : ℕ) (work : List (ℕ × LogRecord)) (base : Option TableEntry) → state_in (entry_by t work base) ≡ state_in_work t work base
state_in-entry t [] None = refl
state_in-entry t [] (Some e) = sym (state_by-state e.state)
state_in-entry t (x ∷ work) base = refl

pub undo_next-entry : (t : ℕ) (work : List (ℕ × LogRecord)) (base : Option TableEntry) → undo_next_of_entry (entry_by t work base) ≡ undo_next_in work base
undo_next-entry t [] None = refl
undo_next-entry t [] (Some e) = refl
undo_next-entry t (x ∷ work) base = refl

-- an entry with these fields
abbrev pub saying : ℕ → State → ℕ → ℕ → Option TableEntry
saying t s lsn n = Some (record { tx = t; state = s; last = lsn; undo_next = n })

-- after a prepare
prepared_by : (aborts prepares : Bool) → prepared_from (state_by aborts prepares) ≡ state_by aborts true
prepared_by true prepares = refl
prepared_by false true = refl
prepared_by false false = refl

-- ONE MORE RECORD, after m
pub entry_more : (t m : ℕ) (base : Option TableEntry) (log : History) (r : LogRecord) → m ≤ last_lsn log
    → analysed_entry t m base (log ▸ r) ≡ entry_after (suc (last_lsn log)) r t (analysed_entry t m base log)
entry_more t m base log CheckpointBegin le = (let behind : ltb (last_lsn log) m ≡ false = le-ltb _ _ le in rw behind refl)
entry_more t m base log (CheckpointEnd begin transactions dirty) le = (let behind : ltb (last_lsn log) m ≡ false = le-ltb _ _ le in rw behind refl)
entry_more t m base log (Abort s) le =
    let behind : ltb (last_lsn log) m ≡ false = le-ltb _ _ le in
    let work = work_since t m log in
    let b = base_since t m base log in
    elim (cases_Bool (eqb s.tx t)) [
      | inl e ↦
          (let state : state_in_work t ((suc (last_lsn log), Abort s) ∷ work) b ≡ Aborting =
          ap (λ a. state_by (a || told_in (is_abort_of t) is_aborting work b) (told_in (is_prepare_of t) is_prepared work b)) e in
          rw (behind, e) (ap₂ (λ s n. saying t s (suc (last_lsn log)) n) state (sym (undo_next-entry t work b))))
      | inr e ↦ rw (behind, e) refl
    ]
entry_more t m base log (Prepare s) le =
    let behind : ltb (last_lsn log) m ≡ false = le-ltb _ _ le in
    let work = work_since t m log in
    let b = base_since t m base log in
    let aborts = told_in (is_abort_of t) is_aborting work b in
    let prepares = told_in (is_prepare_of t) is_prepared work b in
    elim (cases_Bool (eqb s.tx t)) [
      | inl e ↦
          (let state : state_in_work t ((suc (last_lsn log), Prepare s) ∷ work) b ≡ prepared_from (state_in (entry_by t work b)) =
          ap (λ p. state_by aborts (p || prepares)) e ∙ sym (prepared_by aborts prepares) ∙ ap prepared_from (sym (state_in-entry t work b)) in
          rw (behind, e) (ap₂ (λ s n. saying t s (suc (last_lsn log)) n) state (sym (undo_next-entry t work b))))
      | inr e ↦ rw (behind, e) refl
    ]
entry_more t m base log r le =
    let behind : ltb (last_lsn log) m ≡ false = le-ltb _ _ le in
    let work = work_since t m log in
    let b = base_since t m base log in
    elim (cases_Bool (is_of t r)) [
      | inl e ↦
          (let same : entry_after (suc (last_lsn log)) r t (saying t (state_in_work t work b) 0 (undo_next_in work b)) ≡ entry_after (suc (last_lsn log)) r t (saying t (state_in (entry_by t work b)) 0 (undo_next_of_entry (entry_by t work b))) =
          ap₂ (λ s n. entry_after (suc (last_lsn log)) r t (saying t s 0 n)) (sym (state_in-entry t work b)) (sym (undo_next-entry t work b)) in
          rw (behind, e) (rw e at same))
      | inr e ↦ rw (behind, e) refl
    ]

pub or_else-assoc : {A : Type 0} (a b c : Option A) → or_else a (or_else b c) ≡ or_else (or_else a b) c
or_else-assoc None b c = refl
or_else-assoc (Some x) b c = refl

pub rec_lsn_more : (page m : ℕ) (base : Option ℕ) (log : History) (r : LogRecord) → m ≤ last_lsn log
    → analysed_rec_lsn page m base (log ▸ r) ≡ rec_lsn_after (suc (last_lsn log)) r page (analysed_rec_lsn page m base log)
rec_lsn_more page m base log r le =
    let behind : leb m (last_lsn log) ≡ true = le-leb _ _ le in
    rw behind (or_else-assoc base (first_behind m page log) (cond (is_on page r) (Some (suc (last_lsn log))) None))

-- NO RECORD after m
pub work_none : (t m : ℕ) (log : History) → last_lsn log ≤ max m (base_lsn log) → work_since t m log ≡ []
work_none t m (start _) le = refl
work_none t m (log ▸ r) le = (let e : ltb (last_lsn log) m ≡ true = lt-ltb _ _ (omega (arith, le, base_within log)) in rw e refl)

finished_none : (t m : ℕ) (log : History) → last_lsn log ≤ max m (base_lsn log) → finished_since t m log ≡ false
finished_none t m (start _) le = refl
finished_none t m (log ▸ r) le = (let e : ltb (last_lsn log) m ≡ true = lt-ltb _ _ (omega (arith, le, base_within log)) in rw e refl)

pub entry_none : (t m : ℕ) (base : Option TableEntry) (log : History) → last_lsn log ≤ max m (base_lsn log) → analysed_entry t m base log ≡ base
entry_none t m base log le = rw (work_none t m log le, finished_none t m log le) refl

behind_none : (m page : ℕ) (log : History) → last_lsn log ≤ max m (base_lsn log) → first_behind m page log ≡ None
behind_none m page (start _) le = refl
behind_none m page (log ▸ r) le =
    let older = behind_none m page log (omega (arith, le, base_within log)) in
    let e : leb m (last_lsn log) ≡ false = lt-leb m (last_lsn log) (omega (arith, le, base_within log)) in
    rw (older, e) refl

pub or_else-none : (a : Option ℕ) → or_else a None ≡ a
or_else-none None = refl
or_else-none (Some x) = refl

pub rec_lsn_none : (page m : ℕ) (base : Option ℕ) (log : History) → last_lsn log ≤ max m (base_lsn log) → analysed_rec_lsn page m base log ≡ base
rec_lsn_none page m base log le = rw (behind_none m page log le) (or_else-none base)

-- FROM RECORD TO RECORD of a list
pub entry_next : (t m : ℕ) (base old new : Option TableEntry) (log : History) (r : LogRecord) (lsn : ℕ) → m ≤ last_lsn log → last_lsn log + 1 ≡ lsn
    → old ≡ analysed_entry t m base log → new ≡ entry_after lsn r t old → new ≡ analysed_entry t m base (log ▸ r)
entry_next t m base old new log r lsn le at before after =
    after ∙ ap₂ (λ n o. entry_after n r t o) (sym at ∙ omega arith) before ∙ sym (entry_more t m base log r le)

pub rec_lsn_next : (page m : ℕ) (base old new : Option ℕ) (log : History) (r : LogRecord) (lsn : ℕ) → m ≤ last_lsn log → last_lsn log + 1 ≡ lsn
    → old ≡ analysed_rec_lsn page m base log → new ≡ rec_lsn_after lsn r page old → new ≡ analysed_rec_lsn page m base (log ▸ r)
rec_lsn_next page m base old new log r lsn le at before after =
    after ∙ ap₂ (λ n o. rec_lsn_after n r page o) (sym at ∙ omega arith) before ∙ sym (rec_lsn_more page m base log r le)

-- AT A GLANCE
pub entry_glanced : (lsn t : ℕ) (r : LogRecord) (g : Glance) (old new : Option TableEntry) → g ≡ glance_of r → new ≡ entry_seen lsn g t old → new ≡ entry_after lsn r t old
entry_glanced lsn t r g old new is e = e ∙ (ap (λ x. entry_seen lsn x t old) is ∙ same r)
  where
    same : (r : LogRecord) → entry_seen lsn (glance_of r) t old ≡ entry_after lsn r t old
    same (Update u) = refl
    same r = refl

-- after the master there is no record yet
pub at_first : (page m from : ℕ) (base : Option ℕ) (log : History) → base_lsn log ≤ from → from ≡ max m (base_lsn log) → base ≡ analysed_rec_lsn page m base (first from log)
at_first page m from base log le is =
    sym (rec_lsn_none page m base (first from log) (omega (arith, is, size_of_first_le from log le, base_of_first from log)))
