use Rattle.std.proofs.Common.{List, set, map, sym, ap, ◌∙◌, arith}
use Rattle.std.proofs.lemmas.List.{map-set}
use Rattle.journal.specs.declared.entries.PageEntry.{PageEntry}
use Rattle.journal.specs.PageStates.{PageState, written}
use Rattle.journal.specs.Arrays.{page_state_of}
use Rattle.journal.proofs.Held.{held_at}
use Rattle.journal.proofs.Journals.{no_page, page_lsn, told_is}
use Rattle.journal.proofs.disk.page_written.Goals as goal

pub returns-then-lsn-pages-clause-refused : goal.returns-then-lsn-pages-clause-refused
returns-then-lsn-pages-clause-refused c = λ base run head ts ps h.
    let p = page_lsn base run head ts c.args.pages.now ps h c.args.number no_page c.if-number-pages.false in
    omega (arith, p.1, c.if-lsn-pages.true)

pub returns-clause-ok : goal.returns-clause-ok
returns-clause-ok c = λ base run head ts ps h. told_is base run head ts c.args.pages.now ps h c.args.number c.args.lsn c.mark_written.new.self c.if-number-pages.false c.if-lsn-pages.false c.mark_written.ensures

pub returns-clause-noted : goal.returns-clause-noted
returns-clause-noted c = λ d.
    let ps : List PageEntry = c.args.pages.now in
    map-set page_state_of ps c.args.number c.mark_written.new.self
    ∙ ap (λ (h : PageState). set (map page_state_of ps) c.args.number h)
    (c.mark_written.ensures ∙ ap (λ (h : PageState). written h c.args.lsn) (sym (held_at ps c.args.number no_page d c.if-number-pages.false)))
