use Rattle.analysis.proofs.Rising.{pages_rise}
use Rattle.analysis.proofs.dirty.analyse_pages.Goals as goal

pub returns-clause-pages : goal.returns-clause-pages
returns-clause-pages c =
    let base = c.in_ok-dirty.ensures.found in
    c.in_ok-redo_lsn.ensures.pages base.transactions base.dirty base.base base.pages_are (pages_rise c.list_pages.new.dirty.entries c.iter-in_order.ensures.ordered)
