use Rattle.std.proofs.Common.{Some}
use Rattle.analysis.proofs.Maps.{rec_lsn-changed, page_put}
use Rattle.analysis.proofs.base.put_page.Goals as goal

pub returns-clause-ok : goal.returns-clause-ok
returns-clause-ok c = λ behind p.
    let page = c.entry-page.result.0 in
    let rec_lsn = c.entry-page.result.1 in
    let old = c.args.map.now.entries in
    let new = c.insert.new.self.entries in
    page_put p c.args.place page rec_lsn c.args.table.now old new c.requires (c.entry-page.ensures (page, rec_lsn)) behind
    (rec_lsn-changed p page old new (Some rec_lsn) (c.in_ok-insert.ensures.updates.0 p))
