use Rattle.std.proofs.Common.{sym, ap, ◌∙◌, arith}
use Rattle.page.specs.declared.page.Page.{Page}
use Rattle.changes.specs.Changes.{unchanged}
use Rattle.changes.proofs.Shown.{shown_wide}
use Rattle.changes.proofs.pages.ChangesPages.lsn.Goals as goal

pub returns-clause-lsn : goal.returns-clause-lsn
returns-clause-lsn c = λ stored shown d shows.
    c.lsn.ensures (unchanged 0) ∙ sym (ap (λ (p : Page). p.lsn) (shows.changed.each c.args.page (unchanged 0) d (omega (arith, c.requires, shows.count))))

pub returns-clause-wide : goal.returns-clause-wide
returns-clause-wide c = λ stored shown d shows. shown_wide c.args.self.now c.args.page stored shown d c.requires shows
