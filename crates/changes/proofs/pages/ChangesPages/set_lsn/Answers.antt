use Rattle.std.proofs.Common.{List, length, get_or, set, ap, subst, sym, ◌∙◌}
use Rattle.std.proofs.lemmas.List.{length-set}
use Rattle.changes.specs.Changes.{PageChange, unchanged, lsn_in, page_lsn}
use Rattle.changes.specs.Pages.{ShowsChanges}
use Rattle.changes.proofs.Shown.{shown_wide, lsn_shows}
use Rattle.changes.proofs.pages.ChangesPages.set_lsn.Goals as goal

pub returns-clause-count : goal.returns-clause-count
returns-clause-count c = ap length (c.set_lsn.ensures (unchanged 0)) ∙ length-set c.args.self.now c.args.page (lsn_in c.args.lsn (get_or c.args.self.now c.args.page (unchanged 0)))

pub returns-clause-set : goal.returns-clause-set
returns-clause-set c = λ stored shown d shows.
    subst (λ (cs : List PageChange). ShowsChanges cs stored (set shown c.args.page (page_lsn c.args.lsn (get_or shown c.args.page d)))) (sym (c.set_lsn.ensures (unchanged 0)))
    (lsn_shows c.args.self.now c.args.page c.args.lsn (unchanged 0) stored shown d c.requires shows)

pub returns-clause-wide : goal.returns-clause-wide
returns-clause-wide c = λ stored shown d shows. shown_wide c.args.self.now c.args.page stored shown d c.requires shows
