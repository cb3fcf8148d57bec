use Rattle.std.proofs.Common.{List, subst}
use Rattle.std.proofs.lemmas.Result.{err_from_is_err_and}
use Rattle.page.specs.declared.page.Page.{Page}
use Rattle.log_laws.specs.Records.{history}
use Rattle.tables.specs.Tables.{losers_in}
use Rattle.undo.proofs.Placed.{rolling_once}
use Rattle.undo.proofs.rollback.undo_on.Goals as goal

pub returns-in_err-rollback-clause-fault : goal.returns-in_err-rollback-clause-fault
returns-in_err-rollback-clause-fault g c =
    let p = err_from_is_err_and c.from_residual.result c.from_residual.ensures.1 in
    rw (p.1, p.2) (c.in_err-rollback.ensures.fault (g.P.Pages.count c.args.pages.now))

pub undo_all-requires-clause-updates : goal.undo_all-requires-clause-updates
undo_all-requires-clause-updates g c = λ n l e. ((c.in_ok-rollback.ensures.ok 0).left.waits n l e).is_update

pub undo_all-requires-clause-once : goal.undo_all-requires-clause-once
undo_all-requires-clause-once g c = rolling_once (history c.args.log.now) (losers_in c.args.tables.now) 0 _ _ (c.in_ok-rollback.ensures.ok 0).left

pub returns-clause-pages : goal.returns-clause-pages
returns-clause-pages g c = λ stored given numbered shows.
    c.in_ok-undo_all.ensures.put stored given numbered (subst (λ (pages : List Page). g.P.Pages.shows c.args.pages.now stored pages) (c.in_ok-rollback.ensures.pages given) shows)

pub returns-clause-told : goal.returns-clause-told
returns-clause-told g c = c.in_ok-undo_all.ensures.told (c.in_ok-rollback.ensures.ok 0).updates

pub returns-clause-writable : goal.returns-clause-writable
returns-clause-writable g c = λ none. c.in_ok-undo_all.ensures.writable ((c.in_ok-rollback.ensures.ok 0).writable none)

pub returns-in_err-undo_all-clause-fault : goal.returns-in_err-undo_all-clause-fault
returns-in_err-undo_all-clause-fault g c =
    let p = err_from_is_err_and c.from_residual-in_err-undo_all.result c.from_residual-in_err-undo_all.ensures.1 in
    rw (p.1, p.2) (c.in_err-undo_all.ensures.fault c.args.tables.now (c.in_ok-rollback.ensures.ok (g.P.Pages.count c.args.pages.now)))

pub returns-clause-rolled_back : goal.returns-clause-rolled_back
returns-clause-rolled_back g c = c.in_ok-undo_all.ensures.undoes c.args.tables.now (c.in_ok-rollback.ensures.ok (g.P.Pages.count c.args.pages.now))
