use Rattle.std.proofs.Common.{◌≡◌, ◌∙◌, [], sym, subst, inr, length}
use Rattle.std.proofs.lemmas.Option.{same_Some}
use Rattle.std.proofs.lemmas.Result.{err_from_is_err_and}
use Rattle.page.specs.Store.{StoreContent}
use Rattle.analysis.specs.Tables.{ServesRedo}
use Rattle.restart.specs.Restart.{RedoesPages, ForwardFault}
use Rattle.restart.proofs.Served.{served}
use Rattle.restart.proofs.forward.fn.side_by_side.redo.Goals as goal

pub returns-in_err-redone-in-Some : goal.returns-in_err-redone-in-Some
returns-in_err-redone-in-Some g c =
    let exit = err_from_is_err_and c.from_residual-in_err-redone-in-Some.result c.from_residual-in_err-redone-in-Some.ensures.1 in
    let log = c.captures.log.now in
    let store : StoreContent = c.in-Some.store in
    let tables = c.in_ok-tables-in-Some.tables in
    let fault = c.in_err-redone-in-Some.field-0.0 in
    let count : c.len.result ≡ length c.store.inside.pages.items = c.len.ensures ∙ c.store.inside.pages.ok.0 in
    let serves : ServesRedo log store.master (length store.pages) tables.dirty tables.redo_lsn =
    subst (λ (s : StoreContent). ServesRedo log s.master (length s.pages) tables.dirty tables.redo_lsn) c.store.view_is (subst (λ n. ServesRedo log c.store.inside.master n tables.dirty tables.redo_lsn) count c.in_ok-tables-in-Some.ensures.pages) in
    let cause : ForwardFault log store c.captures.workers fault = inr (record { transactions = []; dirty = serves.whole; redo_lsn = tables.redo_lsn }, serves.are, c.in_err-redone-in-Some.ensures.fault) in
    record {
      redone = λ before given. rw exit.1 tt;
      fault = λ before given. rw (exit.1, exit.2) (subst (λ (s : StoreContent). ForwardFault log s c.captures.workers fault) (same_Some _ _ (sym c.in-Some.is ∙ (c.take.ensures.value ∙ given))) cause);
    }

pub returns : goal.returns
returns g c =
    let log = c.captures.log.now in
    let store : StoreContent = c.in-Some.store in
    let tables = c.in_ok-tables-in-Some.tables in
    let made = c.in_ok-redone-in-Some.ensures.redone in
    let count : c.len.result ≡ length c.store.inside.pages.items = c.len.ensures ∙ c.store.inside.pages.ok.0 in
    let serves : ServesRedo log store.master (length store.pages) tables.dirty tables.redo_lsn =
    subst (λ (s : StoreContent). ServesRedo log s.master (length s.pages) tables.dirty tables.redo_lsn) c.store.view_is (subst (λ n. ServesRedo log c.store.inside.master n tables.dirty tables.redo_lsn) count c.in_ok-tables-in-Some.ensures.pages) in
    let redone : RedoesPages log store tables c.in_ok-redone-in-Some.redone = record {
      are = served log store.master (length store.pages) tables.dirty tables.redo_lsn serves made.exist;
      exist = made.exist;
      redone_pages = made.pages;
      applied = made.applied;
    } in
    record {
      redone = λ before given. subst (λ (s : StoreContent). RedoesPages log s tables c.in_ok-redone-in-Some.redone) (same_Some _ _ (sym c.in-Some.is ∙ (c.take.ensures.value ∙ given))) redone;
      fault = λ before given. tt;
    }
