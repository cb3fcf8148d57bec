use Rattle.std.proofs.Common.{ne_eqb, ap, ◌∙◌, arith}
use Rattle.analysis.specs.Steps.{entry_seen}
use Rattle.analysis.specs.Stretch.{Stretch, entry_behind}
use Rattle.analysis.proofs.Stretches.{found_more, describes_more}
use Rattle.analysis.proofs.stretch_scan.StretchScan.note.Goals as goal

pub returns-clause-entries : goal.returns-clause-entries
returns-clause-entries c = λ t base.
    let inside = c.self.inside in
    let old : Stretch = record { entries = inside.scan; finished = inside.finished.items; undone = inside.undone.items } in
    let new : Stretch = record { entries = c.note.new.self; finished = c.list_transaction.new.finished.items; undone = c.list_transaction.new.undone.items } in
    found_more c.args.lsn t c.args.glance old new base (ne_eqb c.args.lsn 0 (λ e. omega (arith, e, c.requires)))
    (c.in_ok-note.ensures.entries t) (c.in_ok-list_transaction.ensures.finished t) (c.in_ok-list_transaction.ensures.undone t)
    ∙ ap (λ s. entry_seen c.args.lsn c.args.glance t (entry_behind t s base)) c.self.view_is

pub returns-clause-describes : goal.returns-clause-describes
returns-clause-describes c =
    let new : Stretch = record { entries = c.note.new.self; finished = c.list_transaction.new.finished.items; undone = c.list_transaction.new.undone.items } in
    describes_more c.args.lsn c.args.glance c.args.self.now new (returns-clause-entries c)
