use Rattle.recovery.proofs.ByPieces.{once_read}
use Rattle.recovery.proofs.first_reading.check_log.Goals as goal

pub returns-clause-reads : goal.returns-clause-reads
returns-clause-reads g c = λ text is.
    let found = c.in-Ok.ensures.found text is in
    (found.whole, _, found.reads)

pub returns-in-Err-clause-read : goal.returns-in-Err-clause-read
returns-in-Err-clause-read g c = once_read (g.L.Reread.text c.args.log.now) (g.L.Reread.text c.find_marks.new.source) _ c.fault_after.result c.find_marks.ensures.source.same c.fault_after.ensures.read
