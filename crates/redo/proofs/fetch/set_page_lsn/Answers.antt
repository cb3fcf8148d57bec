use Rattle.std.proofs.Common.{arith}
use Rattle.changes.proofs.Numbered.{lsn_numbered}
use Rattle.redo.proofs.fetch.set_page_lsn.Goals as goal

pub returns-clause-numbered : goal.returns-clause-numbered
returns-clause-numbered g c =
    lsn_numbered g.P.Pages c.args.pages.now c.set_lsn.new.self c.args.number (λ stored shown shows. omega (arith, c.requires.page, g.met.P.Pages.counted c.args.pages.now stored shown shows)) c.lsn.result c.set_lsn.ensures.set
