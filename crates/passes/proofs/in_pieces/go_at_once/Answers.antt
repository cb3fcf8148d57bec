use Rattle.std.proofs.Common.{length, refl, sym, subst}
use Rattle.std.proofs.lemmas.Result.{err_from_is_err_and, IfOk-at_ok, IfErr-at_err}
use Rattle.log_laws.specs.Records.{history, last_lsn}
use Rattle.analysis.specs.Fresh.{AreFreshTables}
use Rattle.analysis.specs.Tables.{AreTablesOf, with_dirty}
use Rattle.redo.specs.Redone.{RedoFault}
use Rattle.restart.specs.Restart.{NoneAhead}
use Rattle.restart.proofs.Restored.{ahead_alone}
use Rattle.passes.specs.declared.fault.PassFault.TheVariants as fault
use Rattle.passes.specs.Listing.{AreTalliedByAll}
use Rattle.passes.specs.Marks.{IsResource, AreInReach}
use Rattle.passes.proofs.Calls.{still}
use Rattle.passes.proofs.InPieces.{none_ahead, shows_redone, ahead_fault, redo_alone_in_pieces, redo_fault_in_pieces, resource_fault, memory_alone, same_marks, stops_for, stops_at_text}
use Rattle.passes.proofs.Listing.{repeats_by_found}
use Rattle.passes.proofs.in_pieces.go_at_once.Goals as goal

pub returns-in_err-read-clause-fault : goal.returns-in_err-read-clause-fault
returns-in_err-read-clause-fault g c =
    let exit = err_from_is_err_and c.from_residual.result c.from_residual.ensures.1 in
    rw (exit.1, exit.2) (stops_at_text g.P.Pages (g.S.Reread.text c.args.source.now) 0 c.args.pages.now c.in_err-read.field-0.0 c.in_err-read.ensures.fault)

pub returns-in_err-check_lsns-clause-fault : goal.returns-in_err-check_lsns-clause-fault
returns-in_err-check_lsns-clause-fault g c =
    let exit = err_from_is_err_and c.from_residual-in_err-check_lsns.result c.from_residual-in_err-check_lsns.ensures.1 in
    let e = c.in_err-check_lsns.field-0.0 in
    rw (exit.1, exit.2)
    (stops_for g.P.Pages (g.S.Reread.text c.args.source.now) (length c.args.room.now) 0 c.args.pages.now c.in_ok-read.read.marks c.in_ok-read.read.torn c.in_ok-read.ensures.found (fault.Fault e)
    (λ text whole torn is reads are reach before stored master numbered shows.
    let cause = c.in_err-check_lsns.ensures.fault stored before.pages shows numbered whole (sym (c.end.ensures.last text whole are)) in
    (ahead_fault whole before e cause, λ base lawful. memory_alone e (ahead_alone base whole before lawful e cause))))

pub returns-in_err-tallies-clause-fault : goal.returns-in_err-tallies-clause-fault
returns-in_err-tallies-clause-fault g c =
    let exit = err_from_is_err_and c.from_residual-in_err-tallies.result c.from_residual-in_err-tallies.ensures.1 in
    let e = c.in_err-tallies.field-0.0 in
    let tables = c.in_ok-read.read.tables in
    rw (exit.1, exit.2)
    (stops_for g.P.Pages (g.S.Reread.text c.args.source.now) (length c.args.room.now) 0 c.args.pages.now c.in_ok-read.read.marks c.in_ok-read.read.torn c.in_ok-read.ensures.found (fault.Fault e)
    (λ text whole torn is reads marks reach before stored master numbered shows.
    let none : NoneAhead whole before = none_ahead whole before before.pages c.end.result.lsn refl (c.end.ensures.last text whole marks) (c.in_ok-check_lsns.ensures.ok stored before.pages shows) in
    let fresh : AreFreshTables whole tables = c.in_ok-read.ensures.tables text whole torn is reads in
    let found = with_dirty fresh.dirty tables in
    let are : AreTablesOf whole before.master found = subst (λ m. AreTablesOf whole m found) (sym master) fresh.are in
    let cause : RedoFault whole (length before.pages) tables.redo_lsn 1 e =
    IfErr-at_err (RedoFault whole (length before.pages) tables.redo_lsn 1) c.in_err-tallies.was (c.in_ok-read.ensures.refused text whole torn is reads stored before.pages numbered shows) in
    (redo_fault_in_pieces whole before none found are (fault.Fault e) cause, λ base lawful. redo_alone_in_pieces whole before base lawful tables.redo_lsn (fault.Fault e) cause)))

pub returns-in_err-applied-clause-fault : goal.returns-in_err-applied-clause-fault
returns-in_err-applied-clause-fault g c =
    let exit = err_from_is_err_and c.from_residual-in_err-applied.result c.from_residual-in_err-applied.ensures.1 in
    let e = c.in_err-applied.field-0.0 in
    rw (exit.1, exit.2)
    (stops_for g.P.Pages (g.S.Reread.text c.args.source.now) (length c.args.room.now) 0 c.args.pages.now c.in_ok-read.read.marks c.in_ok-read.read.torn c.in_ok-read.ensures.found e
    (λ text whole torn is reads are reach before stored master numbered shows.
    let tallied = IfOk-at_ok (AreTalliedByAll whole before.pages (last_lsn (history whole))) c.in_ok-tallies.was (c.in_ok-read.ensures.tallied text whole torn is reads stored before.pages numbered shows) in
    let alone : IsResource e = c.in_err-applied.ensures.fault text whole torn (still c.in_ok-read.ensures.source is) reads are (subst (λ n. AreInReach n c.in_ok-read.read.marks) (sym c.read_forward.auto.room) reach) tallied.tallied.upto in
    (resource_fault whole before e alone, λ base lawful. alone)))

pub returns-clause-answer : goal.returns-clause-answer
returns-clause-answer g c = record {
  redone = λ text whole torn is reads before stored master numbered shows.
      let tables = c.in_ok-read.read.tables in
      let marks = same_marks text (length c.args.room.now) torn c.in_ok-read.read.torn c.in_ok-read.read.marks whole (c.in_ok-read.ensures.found text is) reads in
      let none : NoneAhead whole before = none_ahead whole before before.pages c.end.result.lsn refl (c.end.ensures.last text whole marks) (c.in_ok-check_lsns.ensures.ok stored before.pages shows) in
      let fresh : AreFreshTables whole tables = c.in_ok-read.ensures.tables text whole torn is reads in
      let found = with_dirty fresh.dirty tables in
      let are : AreTablesOf whole before.master found = subst (λ m. AreTablesOf whole m found) (sym master) fresh.are in
      let tallied = IfOk-at_ok (AreTalliedByAll whole before.pages (last_lsn (history whole))) c.in_ok-tallies.was (c.in_ok-read.ensures.tallied text whole torn is reads stored before.pages numbered shows) in
      let (redone, shown, repeats) = c.in_ok-applied.ensures.redone text whole torn (still c.in_ok-read.ensures.source is) reads marks tallied.listed before.pages stored tallied.tallied shows in
      shows_redone g.P.Pages whole before stored tables fresh.dirty c.in_ok-applied.applied c.end_redo.new.pages none are (λ base lawful. fresh.truth base before lawful master) numbered redone shown
      (repeats_by_found whole found fresh.are tallied.listed (length before.pages) tallied.each before.pages _ refl numbered repeats);
  no_transaction_0 = c.in_ok-read.ensures.no_transaction_0;
  numbered = c.in_ok-applied.ensures.numbered;
}
