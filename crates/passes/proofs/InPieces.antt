-- A restart in pieces: the faults of its parts are its faults.
use Rattle.std.proofs.Common.{Option, Some, ◌≡◌, ◌≤◌, ◌<◌, ◌-◌, ◌++◌, ℕ, List, All, length, take, get_or, refl, sym, ap, ◌∙◌, subst, inl, inr, arith, length-append, length-take}
use Rattle.std.proofs.lemmas.List.{append-nil, nil_from_length}
use Rattle.wal.specs.Reads.{Reads, log_text}
use Rattle.wal.proofs.Whole.{one_reading}
use Rattle.pieces.specs.declared.mark.Mark.{Mark}
use Rattle.passes.specs.Marks.{AreMarks, AreInReach, AreFound, LogCause}
use Rattle.passes.proofs.ReadForward.{is_whole}
use Rattle.passes.proofs.Reached.{marked_last}
use Rattle.page.specs.declared.fault.Fault.{Fault}
use Rattle.page.specs.declared.fault.Fault.TheVariants.{NoResource, PageAheadOfLog}
use Rattle.page.specs.declared.page.Page.{Page}
use Rattle.page.specs.Store.{StoreContent, AreNumbered}
use Rattle.changes.specs.declared.pages.Pages.{Ghosts as Pages}
use Rattle.log_laws.specs.Records.{LogContent, history, last_lsn}
use Rattle.log_laws.specs.Meaning.{BasePages}
use Rattle.log_laws.specs.Store.{Lawful}
use Rattle.tables.specs.Lawful.{AreTrue}
use Rattle.tables.specs.Tables.{TablesContent}
use Rattle.analysis.specs.Tables.{AreTablesOf, with_dirty}
use Rattle.redo.specs.Redone.{RedoneContent, AreWorkers, RepeatsHistory, redone_page}
use Rattle.restart.specs.declared.outcome.UndoOutcome.{UndoOutcome}
use Rattle.restart.specs.Outcome.{outcome_with}
use Rattle.restart.specs.Restart.{AheadFault, NoneAhead, IsRedone, Restarts, Restores, store_with}
use Rattle.restart.proofs.Restored.{base_alone, redo_alone, changed_numbered}
use Rattle.restart.proofs.Causes.{base_fault, redo_fault}
use Rattle.passes.specs.declared.fault.PassFault.{PassFault}
use Rattle.passes.specs.declared.fault.PassFault.TheVariants as fault
use Rattle.passes.specs.Marks.{IsResource}
use Rattle.passes.specs.Tables.{TablesCause}
use Rattle.passes.specs.Redoing.{RedoCause}
use Rattle.passes.specs.Calls.{TextCause, FindsMarks}
use Rattle.passes.specs.InPieces.{ReadsAsLog, InPiecesCause, RestartCause, ShowRedone, ForStore, StopsForward}
use Rattle.passes.proofs.Nexts.{log_alone}

-- one worker is a number that redo may have
one : AreWorkers 1
one = (omega arith, omega arith)

pub memory_alone : (e : Fault) → e ≡ NoResource → IsResource (fault.Fault e)
memory_alone e same = inr (ap (λ x. fault.Fault x) same)

module _ (whole : LogContent) (before : StoreContent) where
  pub ahead_fault : (e : Fault) → AheadFault whole before.pages e → RestartCause whole before (fault.Fault e)
  ahead_fault (PageAheadOfLog number) cause = cause
  ahead_fault e cause = absurd cause

  pub resource_fault : (e : PassFault) → IsResource e → RestartCause whole before e
  resource_fault e (inl failed) = subst (RestartCause whole before) (sym failed) tt
  resource_fault e (inr none) = subst (RestartCause whole before) (sym none) tt

  pub tables_fault : NoneAhead whole before → (e : PassFault) → TablesCause before.master whole e → RestartCause whole before e
  tables_fault none fault.Failed cause = tt
  tables_fault none (fault.Fault e) cause = base_fault whole before none e cause

  pub redo_fault_in_pieces : NoneAhead whole before → (tables : TablesContent) → AreTablesOf whole before.master tables → (e : PassFault) → RedoCause whole (length before.pages) tables.redo_lsn e → RestartCause whole before e
  redo_fault_in_pieces none tables are fault.Failed cause = tt
  redo_fault_in_pieces none tables are (fault.Fault e) cause = redo_fault whole before none tables are 1 e one cause

  -- on a lawful log and its store
  module _ (base : BasePages) (lawful : Lawful base whole before) where
    pub tables_alone : (e : PassFault) → TablesCause before.master whole e → IsResource e
    tables_alone fault.Failed cause = inl refl
    tables_alone (fault.Fault e) cause = memory_alone e (base_alone base whole before lawful e cause)

    pub redo_alone_in_pieces : (redo_lsn : ℕ) (e : PassFault) → RedoCause whole (length before.pages) redo_lsn e → IsResource e
    redo_alone_in_pieces redo_lsn fault.Failed cause = inl refl
    redo_alone_in_pieces redo_lsn (fault.Fault e) cause = memory_alone e (redo_alone base whole before lawful redo_lsn 1 e one cause)

-- WHAT REDO LEAVES for undo
pub none_ahead : (whole : LogContent) (before : StoreContent) (lent : List Page) (end : ℕ) → lent ≡ before.pages → end ≡ last_lsn (history whole) → All (λ (page : Page). page.lsn ≤ end) lent → NoneAhead whole before
none_ahead whole before lent end stored at each =
    subst (λ n. All (λ (page : Page). page.lsn ≤ n) before.pages) at (subst (λ (ps : List Page). All (λ (page : Page). page.lsn ≤ end) ps) stored each)

pub is_redone : (whole : LogContent) (before : StoreContent) (tables : TablesContent) (redone : RedoneContent) → NoneAhead whole before → AreTablesOf whole before.master tables → RepeatsHistory whole tables before.pages redone
    → IsRedone whole before tables redone
is_redone whole before tables redone none are repeats = record { are = are; none_ahead = none; exist = repeats.exist; redone_pages = repeats.pages; applied = repeats.applied }

-- on pages that show it
pub shows_redone : {P : Type 0} (pages : Pages P) (whole : LogContent) (before : StoreContent) (stored : List Page) (tables : TablesContent) (dirty : List (ℕ × ℕ)) (applied : ℕ) (new : P) → NoneAhead whole before
    → AreTablesOf whole before.master (with_dirty dirty tables) → ((base : BasePages) → Lawful base whole before → AreTrue whole before (with_dirty dirty tables))
    → AreNumbered before.pages → (redone : List Page) → pages.shows new stored redone → RepeatsHistory whole (with_dirty dirty tables) before.pages (record { pages = redone; applied = applied })
    → ShowRedone pages whole before stored tables applied new
shows_redone pages whole before stored tables dirty applied new none are truth numbered redone shown repeats = (
  dirty,
  redone,
  shown,
  subst AreNumbered (sym repeats.pages) (changed_numbered (redone_page whole (with_dirty dirty tables)) before.pages (λ page. refl) numbered),
  is_redone whole before (with_dirty dirty tables) _ none are repeats,
  truth,
)

-- WHAT UNDO LEAVES, if redo began at the same LSN
module _ {P : Type 0} (pages : Pages P) where
  pub restart_from : (whole : LogContent) (before : StoreContent) (stored : List Page) (new : P) (m n applied : ℕ) (x : UndoOutcome) → m ≡ n
      → ((after : List Page) × pages.shows new stored after × Restarts whole before (outcome_with (store_with before after) n applied (history whole) x))
      → (after : List Page) × pages.shows new stored after × Restarts whole before (outcome_with (store_with before after) m applied (history whole) x)
  restart_from whole before stored new m n applied x same (after, shown, is) =
      (after, shown, subst (λ k. Restarts whole before (outcome_with (store_with before after) k applied (history whole) x)) (sym same) is)

  pub restored_from : (base : BasePages) (whole : LogContent) (before : StoreContent) (stored : List Page) (new : P) (m n applied : ℕ) (x : UndoOutcome) → m ≡ n
      → ((after : List Page) × pages.shows new stored after × Restores base whole before (outcome_with (store_with before after) n applied (history whole) x))
      → (after : List Page) × pages.shows new stored after × Restores base whole before (outcome_with (store_with before after) m applied (history whole) x)
  restored_from base whole before stored new m n applied x same (after, shown, is) =
      (after, shown, subst (λ k. Restores base whole before (outcome_with (store_with before after) k applied (history whole) x)) (sym same) is)

-- THE MARKS are those of each log that the bytes read as, since there is only one
pub same_marks : (text : List ℕ) (room torn left : ℕ) (marks : List Mark) (whole : LogContent) → AreFound text room marks left → Reads text whole torn → AreMarks text whole marks
same_marks text room torn left marks whole found reads = subst (λ w. AreMarks text w marks) (one_reading text found.whole whole left torn found.reads reads).0 found.are

-- the last mark is where the log's bytes end
pub found_read : (text : List ℕ) (room torn : ℕ) (marks : List Mark) (end : Mark) → 0 < length marks → ((d : Mark) → end ≡ get_or marks (length marks - 1) d) → AreFound text room marks torn → ReadsAsLog text end.offset torn
found_read text room torn marks end some at found =
    let own = marked_last text marks end some at found.are.each in
    let last : last_lsn (history found.whole) ≤ end.lsn = omega (arith, found.are.last end, ap (λ (m : Mark). m.lsn) (at end)) in
    let same : own.0 ≡ found.whole = is_whole text found.whole own.0 torn end found.reads own.1 last in
    let reads : Reads (take end.offset text) found.whole 0 = subst (λ w. Reads (take end.offset text) w 0) same own.1.reads in
    let kept : take end.offset text ≡ log_text found.whole =
    reads.text ∙ ap (λ (t : List ℕ). log_text found.whole ++ t) (nil_from_length reads.tail reads.torn_count) ∙ append-nil (log_text found.whole) in
    record {
      whole = found.whole;
      reads = found.reads;
      kept_is = kept;
      size = omega (
        arith,
        ap (λ (t : List ℕ). length t) kept,
        length-take end.offset text,
        own.1.within,
        ap (λ (t : List ℕ). length t) found.reads.text,
        length-append (log_text found.whole) found.reads.tail,
        found.reads.torn_count,
      );
    }

-- THE ERRORS of a restart on the log that the bytes read as
pub in_pieces_fault : (text : List ℕ) (whole : LogContent) (torn : ℕ) (before : StoreContent) → Reads text whole torn → (e : PassFault) → RestartCause whole before e → InPiecesCause text before e
in_pieces_fault text whole torn before reads fault.Failed cause = tt
in_pieces_fault text whole torn before reads (fault.Fault e) cause = inr (whole, torn, reads, cause)

pub text_fault : (text : List ℕ) (before : StoreContent) (e : PassFault) → LogCause text e → InPiecesCause text before e
text_fault text before fault.Failed cause = tt
text_fault text before (fault.Fault e) cause = inl cause

-- WHAT STOPS analysis and redo: a fault of the bytes
module _ {P : Type 0} (pages : Pages P) (held : Option (List ℕ)) where
  pub stops_at_text : (master : ℕ) (old : P) (e : PassFault) → TextCause held e → StopsForward pages held master old e
  stops_at_text master old e cause = record {
    lawful = λ base text whole torn is reads before stored named numbered shows lawful. log_alone text whole torn reads e (cause text is);
    cause = λ text is before stored named numbered shows. text_fault text before e (cause text is);
  }

  -- or, when the marks are found, an error of a restart on the log and the store, which is a lack of a resource if both are lawful
  pub stops_for : (room master : ℕ) (old : P) (marks : List Mark) (torn : ℕ) → FindsMarks held room marks torn → (e : PassFault)
      → ((text : List ℕ) (whole : LogContent) (left : ℕ) → held ≡ Some text → Reads text whole left → AreMarks text whole marks → AreInReach room marks
      → ForStore pages old master (λ before stored. RestartCause whole before e × ((base : BasePages) → Lawful base whole before → IsResource e))) → StopsForward pages held master old e
  stops_for room master old marks torn found e why = record {
    lawful = λ base text whole left is reads before stored named numbered shows lawful.
        let all = found text is in
        (why text whole left is reads (same_marks text room left torn marks whole all reads) all.reach before stored named numbered shows).1 base lawful;
    cause = λ text is before stored named numbered shows.
        let all = found text is in
        in_pieces_fault text all.whole torn before all.reads e (why text all.whole torn is all.reads all.are all.reach before stored named numbered shows).0;
  }
