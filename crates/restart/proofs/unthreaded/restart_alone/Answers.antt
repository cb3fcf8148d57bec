use Rattle.std.proofs.Common.{rules, ℕ, ◌≡◌, ◌≤◌, List, All, refl, sym, ap, subst}
use Rattle.std.proofs.lemmas.Result.{err_from_is_err_and}
use Rattle.page.specs.declared.page.Page.{Page}
use Rattle.page.specs.Store.{StoreContent, AreNumbered}
use Rattle.redo.specs.Redone.{redone_page}
use Rattle.undo.proofs.Lost.{lost_none}
use Rattle.restart.specs.Restart.{AheadFault}
use Rattle.restart.proofs.Causes.{ahead_fault}
use Rattle.restart.proofs.Restored.{ahead_alone, changed_numbered}
use Rattle.restart.proofs.Whole.{gathered_of_itself}
use Rattle.restart.proofs.unthreaded.restart_alone.Goals as goal

-- a page of the store is ahead of the log
ahead : (c : goal.After-drop-store-inside) → AheadFault c.args.log.now c.args.store.pages c.in_err-check_lsns.field-0.0
ahead c =
    let pages = c.store.inside.pages.items in
    subst (λ (ps : List Page). AheadFault c.args.log.now ps c.in_err-check_lsns.field-0.0) (ap (λ (s : StoreContent). s.pages) c.store.view_is)
    (c.in_err-check_lsns.ensures.fault pages pages refl c.store.invariant c.args.log.now (sym c.last.ensures))

pub returns-in_err-check_lsns-clause-lawful : goal.returns-in_err-check_lsns-clause-lawful
returns-in_err-check_lsns-clause-lawful c = λ base lawful.
    let exit = err_from_is_err_and c.from_residual.result c.from_residual.ensures.1 in
    rw (exit.1, exit.2) (ahead_alone base c.args.log.now c.args.store lawful c.in_err-check_lsns.field-0.0 (ahead c))

pub returns-in_err-check_lsns-clause-fault : goal.returns-in_err-check_lsns-clause-fault
returns-in_err-check_lsns-clause-fault c =
    let exit = err_from_is_err_and c.from_residual.result c.from_residual.ensures.1 in
    rw (exit.1, exit.2) (ahead_fault c.args.log.now c.args.store c.in_err-check_lsns.field-0.0 (ahead c))

pub forward_alone-requires : goal.forward_alone-requires
forward_alone-requires c =
    let pages = c.store.inside.pages.items in
    let stored : pages ≡ c.args.store.pages = ap (λ (s : StoreContent). s.pages) c.store.view_is in (
      search rules,
      subst (λ (n : ℕ). All (λ (page : Page). page.lsn ≤ n) c.args.store.pages) c.last.ensures (subst (All (λ (page : Page). page.lsn ≤ c.last.result)) stored (c.in_ok-check_lsns.ensures.ok pages pages refl)),
    )

pub returns-in_err-tables-clause-lawful : goal.returns-in_err-tables-clause-lawful
returns-in_err-tables-clause-lawful c = λ base lawful.
    let exit = err_from_is_err_and c.from_residual-in_err-tables.result c.from_residual-in_err-tables.ensures.1 in
    rw (exit.1, exit.2) (c.in_err-tables.ensures.lawful base lawful)

pub roll_back-requires-clause-numbered : goal.roll_back-requires-clause-numbered
roll_back-requires-clause-numbered c =
    let numbered : AreNumbered c.args.store.pages = subst AreNumbered (ap (λ (s : StoreContent). s.pages) c.store.view_is) c.store.invariant in
    subst AreNumbered (sym c.in_ok-tables.ensures.redone.redone_pages) (changed_numbered (redone_page c.args.log.now c.in_ok-tables.tables) c.args.store.pages (λ page. refl) numbered)

pub roll_back-requires-clause-no_transaction_0 : goal.roll_back-requires-clause-no_transaction_0
roll_back-requires-clause-no_transaction_0 c = lost_none 0 c.in_ok-tables.tables.transactions c.in_ok-tables.ensures.no_transaction_0

pub returns-clause-lawful : goal.returns-clause-lawful
returns-clause-lawful c = λ base lawful.
    let kept : c.store.inside.master ≡ c.args.store.master = ap (λ (s : StoreContent). s.master) c.store.view_is in
    let numbered : AreNumbered c.args.store.pages = subst AreNumbered (ap (λ (s : StoreContent). s.pages) c.store.view_is) c.store.invariant in
    c.roll_back.ensures.lawful c.args.log.now base c.args.store (gathered_of_itself _ _) lawful numbered (sym kept) (c.in_ok-tables.ensures.lawful base lawful) c.in_ok-tables.ensures.redone

pub returns-clause-restarts : goal.returns-clause-restarts
returns-clause-restarts c = c.roll_back.ensures.restarts c.args.log.now c.args.store (gathered_of_itself _ _) (sym (ap (λ (s : StoreContent). s.master) c.store.view_is)) c.in_ok-tables.ensures.redone

pub returns-clause-fault : goal.returns-clause-fault
returns-clause-fault c = c.roll_back.ensures.fault c.args.log.now c.args.store (gathered_of_itself _ _) c.in_ok-tables.ensures.redone
