use Rattle.std.proofs.Common.{length, refl, sym, ◌∙◌, subst}
use Rattle.std.proofs.lemmas.Result.{err_from_is_err_and}
use Rattle.analysis.specs.Tables.{AreTablesOf}
use Rattle.restart.specs.Restart.{NoneAhead}
use Rattle.restart.proofs.Restored.{ahead_alone}
use Rattle.passes.specs.declared.fault.PassFault.TheVariants as fault
use Rattle.passes.specs.Marks.{AreInReach}
use Rattle.passes.specs.Redoing.{RedoCause}
use Rattle.passes.specs.Tables.{TablesCause}
use Rattle.passes.proofs.Calls.{still}
use Rattle.passes.proofs.InPieces.{none_ahead, shows_redone, ahead_fault, tables_alone, tables_fault, redo_alone_in_pieces, redo_fault_in_pieces, memory_alone, same_marks, stops_for, stops_at_text}
use Rattle.passes.proofs.in_pieces.go_by_passes.Goals as goal

pub returns-in_err-marks-clause-fault : goal.returns-in_err-marks-clause-fault
returns-in_err-marks-clause-fault g c =
    let exit = err_from_is_err_and c.from_residual.result c.from_residual.ensures.1 in
    rw (exit.1, exit.2) (stops_at_text g.P.Pages (g.S.Reread.text c.args.source.now) c.args.master c.args.pages.now c.in_err-marks.field-0.0 c.in_err-marks.ensures.fault)

pub returns-in_err-check_lsns-clause-fault : goal.returns-in_err-check_lsns-clause-fault
returns-in_err-check_lsns-clause-fault g c =
    let exit = err_from_is_err_and c.from_residual-in_err-check_lsns.result c.from_residual-in_err-check_lsns.ensures.1 in
    let e = c.in_err-check_lsns.field-0.0 in
    rw (exit.1, exit.2)
    (stops_for g.P.Pages (g.S.Reread.text c.args.source.now) (length c.args.room.now) c.args.master c.args.pages.now c.in_ok-marks.marks c.in_ok-marks.torn c.in_ok-marks.ensures.found (fault.Fault e)
    (λ text whole torn is reads are reach before stored master numbered shows.
    let cause = c.in_err-check_lsns.ensures.fault stored before.pages shows numbered whole (sym (c.end.ensures.last text whole are)) in
    (ahead_fault whole before e cause, λ base lawful. memory_alone e (ahead_alone base whole before lawful e cause))))

pub returns-in_err-tables-clause-fault : goal.returns-in_err-tables-clause-fault
returns-in_err-tables-clause-fault g c =
    let exit = err_from_is_err_and c.from_residual-in_err-tables.result c.from_residual-in_err-tables.ensures.1 in
    let e = c.in_err-tables.field-0.0 in
    rw (exit.1, exit.2)
    (stops_for g.P.Pages (g.S.Reread.text c.args.source.now) (length c.args.room.now) c.args.master c.args.pages.now c.in_ok-marks.marks c.in_ok-marks.torn c.in_ok-marks.ensures.found e
    (λ text whole torn is reads are reach before stored master numbered shows.
    let none : NoneAhead whole before = none_ahead whole before before.pages c.end.result.lsn refl (c.end.ensures.last text whole are) (c.in_ok-check_lsns.ensures.ok stored before.pages shows) in
    let cause = subst (λ m. TablesCause m whole e) (sym master) (c.in_err-tables.ensures.fault text whole torn (still c.in_ok-marks.ensures.source is) reads are) in
    (tables_fault whole before none e cause, λ base lawful. tables_alone whole before base lawful e cause)))

pub returns-in_err-applied-clause-fault : goal.returns-in_err-applied-clause-fault
returns-in_err-applied-clause-fault g c =
    let exit = err_from_is_err_and c.from_residual-in_err-applied.result c.from_residual-in_err-applied.ensures.1 in
    let e = c.in_err-applied.field-0.0 in
    let tables = c.in_ok-tables.tables in
    rw (exit.1, exit.2)
    (stops_for g.P.Pages (g.S.Reread.text c.args.source.now) (length c.args.room.now) c.args.master c.args.pages.now c.in_ok-marks.marks c.in_ok-marks.torn c.in_ok-marks.ensures.found e
    (λ text whole torn is reads marks reach before stored master numbered shows.
    let now = still c.in_ok-marks.ensures.source is in
    let none : NoneAhead whole before = none_ahead whole before before.pages c.end.result.lsn refl (c.end.ensures.last text whole marks) (c.in_ok-check_lsns.ensures.ok stored before.pages shows) in
    let are : AreTablesOf whole before.master tables = subst (λ m. AreTablesOf whole m tables) (sym master) (c.in_ok-tables.ensures.tables text whole torn now reads marks) in
    let cause : RedoCause whole (length before.pages) tables.redo_lsn e =
    c.in_err-applied.ensures.fault text whole torn (still c.in_ok-tables.ensures.source now) reads marks
    (subst (λ n. AreInReach n c.in_ok-marks.marks) (sym (c.tables_in_pieces.auto.room ∙ c.find_marks.auto.room)) reach) stored before.pages numbered shows in
    (redo_fault_in_pieces whole before none tables are e cause, λ base lawful. redo_alone_in_pieces whole before base lawful tables.redo_lsn e cause)))

pub returns-clause-answer : goal.returns-clause-answer
returns-clause-answer g c = record {
  redone = λ text whole torn is reads before stored master numbered shows.
      let tables = c.in_ok-tables.tables in
      let now = still c.in_ok-marks.ensures.source is in
      let marks = same_marks text (length c.args.room.now) torn c.in_ok-marks.torn c.in_ok-marks.marks whole (c.in_ok-marks.ensures.found text is) reads in
      let none : NoneAhead whole before = none_ahead whole before before.pages c.end.result.lsn refl (c.end.ensures.last text whole marks) (c.in_ok-check_lsns.ensures.ok stored before.pages shows) in
      let are : AreTablesOf whole before.master tables = subst (λ m. AreTablesOf whole m tables) (sym master) (c.in_ok-tables.ensures.tables text whole torn now reads marks) in
      let (redone, shown, repeats) = c.in_ok-applied.ensures.redone text whole torn (still c.in_ok-tables.ensures.source now) reads marks stored before.pages numbered shows in
      shows_redone g.P.Pages whole before stored tables tables.dirty c.in_ok-applied.applied c.redo_in_pieces.new.pages none are (λ base lawful. c.in_ok-tables.ensures.lawful text whole torn now reads marks base before lawful master) numbered redone shown repeats;
  no_transaction_0 = c.in_ok-tables.ensures.no_transaction_0;
  numbered = c.in_ok-applied.ensures.numbered;
}
