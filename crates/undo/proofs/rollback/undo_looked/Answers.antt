use Rattle.std.proofs.Common.{◌≡◌, List, map, sym, ap, ◌∙◌, subst}
use Rattle.std.proofs.lemmas.Result.{err_from_is_err_and}
use Rattle.wal.specs.Content.{content}
use Rattle.log_laws.specs.Records.{LogRecord, history}
use Rattle.undo.specs.Appended.{appended_records}
use Rattle.undo.specs.Undone.{RolledBack}
use Rattle.undo.proofs.Told.{told_writable}
use Rattle.undo.proofs.rollback.undo_looked.Goals as goal

pub returns-in_err-pages-clause-lawful : goal.returns-in_err-pages-clause-lawful
returns-in_err-pages-clause-lawful c = λ crash.
    let exit = err_from_is_err_and c.from_residual.result c.from_residual.ensures.1 in
    rw (exit.1, exit.2) (c.in_err-pages.ensures.lawful crash)

-- the full records are those of the compact form
same : (c : goal.After-drop-appended-2) → map content c.in_ok-records.records.items ≡ appended_records (history c.args.log.now) c.in_ok-pages.appended.items
same c = c.in_ok-records.ensures.ok ∙ ap (appended_records (history c.args.log.now)) c.deref.ensures.value

pub returns-clause-rolled_back : goal.returns-clause-rolled_back
returns-clause-rolled_back c =
    subst (λ (rs : List LogRecord). RolledBack c.args.log.now c.args.tables.now c.args.pages.items c.in_ok-pages.pages.items rs) (sym (same c))
    c.in_ok-pages.ensures.rolled_back.rolled_back

pub returns-clause-writable : goal.returns-clause-writable
returns-clause-writable c = λ counted.
    told_writable c.args.log.now c.in_ok-pages.appended.items c.in_ok-records.records.items (same c) (c.in_ok-pages.ensures.rolled_back.writable counted)

pub returns-clause-tail : goal.returns-clause-tail
returns-clause-tail c = λ crash. same c ∙ c.in_ok-pages.ensures.tail crash
