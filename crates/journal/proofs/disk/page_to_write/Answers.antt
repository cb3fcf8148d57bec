use Rattle.std.proofs.Common.{arith}
use Rattle.journal.proofs.Journals.{no_page, page_lsn}
use Rattle.journal.proofs.disk.page_to_write.Goals as goal

pub returns-then-lsn-head-clause-refused : goal.returns-then-lsn-head-clause-refused
returns-then-lsn-head-clause-refused c = λ base run ts ps h.
    let p = page_lsn base run c.args.head.now ts c.args.pages.now ps h c.args.number no_page c.if-number-pages.false in
    (p.1, c.if-lsn-head.true)

pub returns-clause-ahead : goal.returns-clause-ahead
returns-clause-ahead c = λ base run ts ps h.
    let p = page_lsn base run c.args.head.now ts c.args.pages.now ps h c.args.number no_page c.if-number-pages.false in
    (p.0, omega (arith, p.1, c.if-lsn-head.false))
