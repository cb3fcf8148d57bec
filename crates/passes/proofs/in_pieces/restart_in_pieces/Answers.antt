use Rattle.std.proofs.Common.{length, sym, ap, subst}
use Rattle.std.proofs.lemmas.Result.{err_from_is_err_and}
use Rattle.tables.specs.Tables.{TablesContent}
use Rattle.undo.proofs.Lost.{lost_none}
use Rattle.changes.proofs.Numbered.{stay_more}
use Rattle.passes.specs.declared.fault.PassFault.TheVariants as fault
use Rattle.passes.specs.Marks.{AreInReach}
use Rattle.passes.proofs.InPieces.{same_marks, found_read, in_pieces_fault, resource_fault, memory_alone, restart_from, restored_from}
use Rattle.passes.proofs.Calls.{still}
use Rattle.passes.proofs.in_pieces.restart_in_pieces.Goals as goal

pub returns-in_err-forward-clause-lawful : goal.returns-in_err-forward-clause-lawful
returns-in_err-forward-clause-lawful g c = λ text whole torn base is reads before stored master numbered shows lawful.
    let exit = err_from_is_err_and c.from_residual.result c.from_residual.ensures.1 in
    rw (exit.1, exit.2) (c.in_err-forward.ensures.fault.lawful base text whole torn is reads before stored master numbered shows lawful)

pub returns-in_err-forward-clause-fault : goal.returns-in_err-forward-clause-fault
returns-in_err-forward-clause-fault g c =
    let exit = err_from_is_err_and c.from_residual.result c.from_residual.ensures.1 in
    rw (exit.1, exit.2) c.in_err-forward.ensures.fault.cause

pub returns-in_err-gathered-clause-lawful : goal.returns-in_err-gathered-clause-lawful
returns-in_err-gathered-clause-lawful g c = λ text whole torn base is reads before stored master numbered shows lawful.
    let exit = err_from_is_err_and c.from_residual-in_err-gathered.result c.from_residual-in_err-gathered.ensures.1 in
    let found = c.in_ok-forward.ensures.found text is in
    let marks = same_marks text (length c.args.room.now) torn c.in_ok-forward.forward.torn c.in_ok-forward.forward.marks whole found reads in
    let now = still c.in_ok-forward.ensures.source is in
    rw (exit.1, exit.2)
    (c.in_err-gathered.ensures.fault text whole torn now reads marks (subst (λ n. AreInReach n c.in_ok-forward.forward.marks) (sym c.go_forward.auto.room) found.reach))

pub returns-in_err-gathered-clause-fault : goal.returns-in_err-gathered-clause-fault
returns-in_err-gathered-clause-fault g c =
    let exit = err_from_is_err_and c.from_residual-in_err-gathered.result c.from_residual-in_err-gathered.ensures.1 in
    rw (exit.1, exit.2)
    (λ text is before stored master numbered shows.
    let found = c.in_ok-forward.ensures.found text is in
    let torn = c.in_ok-forward.forward.torn in
    let e = c.in_err-gathered.field-0.0 in
    let now = still c.in_ok-forward.ensures.source is in
    in_pieces_fault text found.whole torn before found.reads e
    (resource_fault found.whole before e
    (c.in_err-gathered.ensures.fault text found.whole torn now found.reads found.are (subst (λ n. AreInReach n c.in_ok-forward.forward.marks) (sym c.go_forward.auto.room) found.reach))))

pub roll_back_on-requires : goal.roll_back_on-requires
roll_back_on-requires g c = record { no_transaction_0 = lost_none 0 c.in_ok-forward.forward.tables.transactions c.in_ok-forward.ensures.answer.no_transaction_0 }

pub returns-in_err-outcome-clause-lawful : goal.returns-in_err-outcome-clause-lawful
returns-in_err-outcome-clause-lawful g c = λ text whole torn base is reads before stored master numbered shows lawful.
    let exit = err_from_is_err_and c.from_residual-in_err-outcome.result c.from_residual-in_err-outcome.ensures.1 in
    let found = c.in_ok-forward.ensures.found text is in
    let marks = same_marks text (length c.args.room.now) torn c.in_ok-forward.forward.torn c.in_ok-forward.forward.marks whole found reads in
    let now = still c.in_ok-forward.ensures.source is in
    let gathered = c.in_ok-gathered.ensures.gathered text whole torn now reads marks in
    let redone = c.in_ok-forward.ensures.answer.redone text whole torn is reads before stored master numbered shows in
    rw (exit.1, exit.2)
    (memory_alone c.in_err-outcome.field-0.0
    (c.in_err-outcome.ensures.lawful whole before redone.0 stored redone.1 c.in_ok-forward.forward.applied gathered redone.3 redone.2 redone.4 base lawful numbered (redone.5 base lawful)))

pub returns-in_err-outcome-clause-fault : goal.returns-in_err-outcome-clause-fault
returns-in_err-outcome-clause-fault g c =
    let exit = err_from_is_err_and c.from_residual-in_err-outcome.result c.from_residual-in_err-outcome.ensures.1 in
    rw (exit.1, exit.2)
    (λ text is before stored master numbered shows.
    let found = c.in_ok-forward.ensures.found text is in
    let torn = c.in_ok-forward.forward.torn in
    let now = still c.in_ok-forward.ensures.source is in
    let gathered = c.in_ok-gathered.ensures.gathered text found.whole torn now found.reads found.are in
    let redone = c.in_ok-forward.ensures.answer.redone text found.whole torn is found.reads before stored master numbered shows in
    in_pieces_fault text found.whole torn before found.reads (fault.Fault c.in_err-outcome.field-0.0)
    (c.in_err-outcome.ensures.fault found.whole before redone.0 stored redone.1 c.in_ok-forward.forward.applied gathered redone.3 redone.2 redone.4))

pub returns-clause-lawful : goal.returns-clause-lawful
returns-clause-lawful g c = λ text whole torn base is reads before stored master numbered shows lawful.
    let found = c.in_ok-forward.ensures.found text is in
    let marks = same_marks text (length c.args.room.now) torn c.in_ok-forward.forward.torn c.in_ok-forward.forward.marks whole found reads in
    let now = still c.in_ok-forward.ensures.source is in
    let gathered = c.in_ok-gathered.ensures.gathered text whole torn now reads marks in
    let redone = c.in_ok-forward.ensures.answer.redone text whole torn is reads before stored master numbered shows in
    let begins = ap (λ (t : TablesContent). t.redo_lsn) c.tables.view_is in
    let restored = c.in_ok-outcome.ensures.restores whole before redone.0 stored redone.1 c.in_ok-forward.forward.applied gathered redone.3 redone.2 redone.4 base lawful numbered (redone.5 base lawful) in
    restored_from g.P.Pages base whole before stored c.roll_back_on.new.pages c.tables.inside.redo_lsn c.in_ok-forward.forward.tables.redo_lsn c.in_ok-forward.forward.applied c.in_ok-outcome.outcome begins restored

pub returns-clause-reads : goal.returns-clause-reads
returns-clause-reads g c = λ text is.
    found_read text (length c.args.room.now) c.in_ok-forward.forward.torn c.in_ok-forward.forward.marks c.end.result c.end.ensures.some c.end.ensures.end (c.in_ok-forward.ensures.found text is)

pub returns-clause-restarts : goal.returns-clause-restarts
returns-clause-restarts g c = λ text whole torn is reads before stored master numbered shows.
    let found = c.in_ok-forward.ensures.found text is in
    let marks = same_marks text (length c.args.room.now) torn c.in_ok-forward.forward.torn c.in_ok-forward.forward.marks whole found reads in
    let now = still c.in_ok-forward.ensures.source is in
    let gathered = c.in_ok-gathered.ensures.gathered text whole torn now reads marks in
    let redone = c.in_ok-forward.ensures.answer.redone text whole torn is reads before stored master numbered shows in
    let begins = ap (λ (t : TablesContent). t.redo_lsn) c.tables.view_is in
    restart_from g.P.Pages whole before stored c.roll_back_on.new.pages c.tables.inside.redo_lsn c.in_ok-forward.forward.tables.redo_lsn c.in_ok-forward.forward.applied c.in_ok-outcome.outcome begins
    (c.in_ok-outcome.ensures.restarts whole before redone.0 stored redone.1 c.in_ok-forward.forward.applied gathered redone.3 redone.2 redone.4)

pub returns-clause-numbered : goal.returns-clause-numbered
returns-clause-numbered g c = stay_more g.P.Pages c.args.pages.now c.go_forward.new.pages c.roll_back_on.new.pages c.in_ok-forward.ensures.answer.numbered c.in_ok-outcome.ensures.numbered

pub returns-clause-alike : goal.returns-clause-alike
returns-clause-alike g c = λ text whole torn is reads.
    let found = c.in_ok-forward.ensures.found text is in
    let marks = same_marks text (length c.args.room.now) torn c.in_ok-forward.forward.torn c.in_ok-forward.forward.marks whole found reads in
    let now = still c.in_ok-forward.ensures.source is in
    let gathered = c.in_ok-gathered.ensures.gathered text whole torn now reads marks in
    record { base = gathered.base; last = gathered.last; records = c.in_ok-outcome.ensures.alike whole gathered }
