use Rattle.std.proofs.Common.{List, length, get_or, set, ap, subst, sym, ◌∙◌}
use Rattle.std.proofs.lemmas.List.{length-set}
use Rattle.changes.specs.Changes.{PageChange, unchanged, put_in, page_put}
use Rattle.changes.specs.Pages.{ShowsChanges}
use Rattle.changes.proofs.Shown.{shown_wide, put_shows, either, on_ok}
use Rattle.changes.proofs.pages.ChangesPages.put.Goals as goal

pub returns-clause-count : goal.returns-clause-count
returns-clause-count c =
    either c.put.result c.put.ensures.put c.put.ensures.same (λ put. ap length (put (unchanged 0)) ∙ length-set c.args.self.now c.args.page (put_in c.args.slot c.args.lsn c.args.value (get_or c.args.self.now c.args.page (unchanged 0)))) (λ same. ap length same)

pub returns-clause-put : goal.returns-clause-put
returns-clause-put c = on_ok c.put.result c.put.ensures.put (λ put stored shown d shows.
    subst (λ (cs : List PageChange). ShowsChanges cs stored (set shown c.args.page (page_put c.args.slot c.args.lsn c.args.value (get_or shown c.args.page d)))) (sym (put (unchanged 0)))
    (put_shows c.args.self.now c.args.page c.args.slot c.args.lsn c.args.value (unchanged 0) stored shown d c.requires.page c.requires.slot shows))

pub returns-clause-wide : goal.returns-clause-wide
returns-clause-wide c = λ stored shown d shows. shown_wide c.args.self.now c.args.page stored shown d c.requires.page shows
