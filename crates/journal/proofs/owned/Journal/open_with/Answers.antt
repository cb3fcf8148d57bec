use Rattle.std.proofs.lemmas.List.{with_items_is, places}
use Rattle.std.proofs.lemmas.Result.{err_from_is_err_and}
use Rattle.std.proofs.Common.{rules, ◌≡◌, [], length, subst, arith}
use Rattle.page.specs.declared.profile.TheConstants.{TRANSACTIONS}
use Rattle.journal.specs.Runs.{Run, opened}
use Rattle.journal.specs.Opened.{OwnOpenRefused}
use Rattle.journal.proofs.Kept.{keeps, keeps_now, frames_none, enough_room}
use Rattle.journal.proofs.OwnRefused.{own_open}
use Rattle.journal.proofs.owned.Journal.open_with.Goals as goal

pub returns-clause-ok : goal.returns-clause-ok
returns-clause-ok c = λ base may.
    let run : Run = opened c.args.log.now c.args.store.now in
    let h = c.in_ok-head.ensures.ok base may in
    let last = h.holds.last_is in
    let ts_is = with_items_is c.in_ok-transactions.transactions c.open.new.transactions (search (rules, places)) in
    let pages_is = with_items_is c.in_ok-pages.pages c.open.new.pages (search (rules, places)) in
    let ps_is = with_items_is c.in_ok-pending.pending c.open.new.pending (search (rules, places)) in
    let count : length c.open.new.pending ≡ c.args.room = search (rules, places) in
    keeps_now base run c.in_ok-head.head _ _ _ _ _ _ [] c.in_ok-head.head.last c.in_ok-rollback.rollback ts_is pages_is ps_is
    (keeps base run c.in_ok-head.head c.open.new.transactions c.open.new.pages c.open.new.pending [] c.in_ok-head.head.last c.in_ok-rollback.rollback h
    (omega (arith, last)) (omega arith) (frames_none run c.in_ok-head.head.last last)
    (enough_room _ _ _ _ _ c.args.room c.in_ok-rollback.rollback h.arrays.used h.arrays.few h.arrays.room h.arrays.pending_room count c.in_ok-rollback.ensures.rollback))

pub returns-in_err-head-clause-refused : goal.returns-in_err-head-clause-refused
returns-in_err-head-clause-refused c =
    let exit = err_from_is_err_and c.from_residual-in_err-head.result c.from_residual-in_err-head.ensures.1 in
    let size : length c.deref_mut-2.result.now ≡ length c.args.store.now.pages = search (rules, places) in
    let table : length c.deref_mut.result.now ≡ TRANSACTIONS = search (rules, places) in
    let room : length c.deref_mut-3.result.now ≡ c.args.room = search (rules, places) in
    rw (exit.1, exit.2) (λ base may.
    subst (λ n. OwnOpenRefused c.args.log.now c.args.store.now n c.in_err-head.field-0.0) room
    (own_open c.args.log.now c.args.store.now _ _ _ c.in_err-head.field-0.0 table size (c.in_err-head.ensures.refused base may)))
