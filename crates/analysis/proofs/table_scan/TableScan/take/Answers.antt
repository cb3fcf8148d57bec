use Rattle.std.proofs.Common.{arith}
use Rattle.analysis.proofs.BothTables.{analysed_over, analysed_next, still_no_0}
use Rattle.analysis.proofs.table_scan.TableScan.take.Goals as goal

pub returns-then-lsn-master-clause-goes_on : goal.returns-then-lsn-master-clause-goes_on
returns-then-lsn-master-clause-goes_on c = λ whole log r is fits at analysed.
    analysed_over c.args.master c.args.lsn whole log r c.args.self.now c.if-lsn-master.true at analysed

pub returns-clause-goes_on : goal.returns-clause-goes_on
returns-clause-goes_on c = λ whole log r is fits at analysed.
    analysed_next c.args.lsn c.args.glance c.args.self.now c.note.new.self c.in_ok-note.ensures.entries c.args.master whole log r (omega (arith, c.if-lsn-master.false))
    c.in_ok-note.ensures.pages is at analysed

pub returns-clause-no_transaction_0 : goal.returns-clause-no_transaction_0
returns-clause-no_transaction_0 c = λ none.
    let (r, is, fits) = c.requires.seen in
    still_no_0 c.args.lsn c.args.glance c.args.self.now c.note.new.self c.in_ok-note.ensures.entries r is fits none
