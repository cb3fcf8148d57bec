use Rattle.std.proofs.Common.{◌≡◌, ◌≤◌, inl, inr, ap, ◌∙◌, arith, max}
use Rattle.log_laws.specs.Records.{history, last_lsn, base_lsn}
use Rattle.log_laws.specs.Redo.{rec_lsn_of}
use Rattle.log_laws.proofs.Histories.{first_all}
use Rattle.analysis.specs.Tables.{analysed_rec_lsn}
use Rattle.analysis.proofs.Scanned.{at_first}
use Rattle.analysis.proofs.Passing.{rec_lsn_on}
use Rattle.analysis.proofs.page_scan.PageScan.pass.Goals as goal

pub returns-clause-pages : goal.returns-clause-pages
returns-clause-pages c = λ page.
    let log = history c.args.piece.now in
    let m = c.args.master in
    let base = rec_lsn_of page c.args.self.now in
    let from : c.max-from.result ≡ max m (base_lsn log) = c.max-from.ensures ∙ ap (max m) c.base.ensures.is in
    let upto = c.in_ok-scan_pages.field-0 in
    let to_the_end : last_lsn log ≤ upto =
    elim c.in_ok-scan_pages.ensures.whole [
      | inl le ↦ le
      | inr some ↦ absurd (let none = some.1 in cc)
    ] in
    c.in_ok-scan_pages.ensures.pages page m base (omega (arith, from))
    (ap (rec_lsn_of page) c.self.view_is ∙ at_first page m c.max-from.result base log (omega (arith, from)) from)
    ∙ ap (analysed_rec_lsn page m base) (first_all upto log to_the_end)

pub returns-clause-goes_on : goal.returns-clause-goes_on
returns-clause-goes_on c = λ page base log at before.
    rec_lsn_on page c.args.master base (rec_lsn_of page c.args.self.now) (rec_lsn_of page c.scan_pages.new.dirty.entries) log c.args.piece.now at before (returns-clause-pages c page)
