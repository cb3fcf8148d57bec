use Rattle.std.proofs.Common.{ℕ, ◌≡◌, ◌≤◌, List, All, refl, sym, ap, subst, inr}
use Rattle.std.proofs.lemmas.Result.{err_from_is_err_and, IfErr-weaker}
use Rattle.page.specs.declared.page.Page.{Page}
use Rattle.page.specs.Store.{StoreContent, AreNumbered}
use Rattle.redo.specs.Redone.{redone_page}
use Rattle.undo.proofs.Lost.{lost_none}
use Rattle.restart.specs.Restart.{AheadFault, NoneAhead}
use Rattle.restart.proofs.Causes.{ahead_fault}
use Rattle.restart.proofs.Restored.{ahead_alone, changed_numbered}
use Rattle.restart.proofs.Whole.{gathered_of_itself}
use Rattle.restart.proofs.passes.restart_in_place.Given.{Over}
use Rattle.restart.proofs.passes.restart_in_place.Goals as goal

-- a page of the store is ahead of the log
ahead : (g : Over) (c : goal.After-drop-store-inside-in_err-check_lsns g) → AheadFault c.args.log.now c.args.store.pages c.in_err-check_lsns.field-0.0
ahead g c =
    let pages = c.store.inside.pages.items in
    subst (λ (ps : List Page). AheadFault c.args.log.now ps c.in_err-check_lsns.field-0.0) (ap (λ (s : StoreContent). s.pages) c.store.view_is)
    (c.in_err-check_lsns.ensures.fault pages pages refl c.store.invariant c.args.log.now (sym c.last.ensures))

pub returns-in_err-check_lsns-clause-lawful : goal.returns-in_err-check_lsns-clause-lawful
returns-in_err-check_lsns-clause-lawful g c = λ base lawful fit.
    let exit = err_from_is_err_and c.from_residual-in_err-check_lsns.result c.from_residual-in_err-check_lsns.ensures.1 in
    rw (exit.1, exit.2) (ahead_alone base c.args.log.now c.args.store lawful c.in_err-check_lsns.field-0.0 (ahead g c))

pub returns-in_err-check_lsns-clause-fault : goal.returns-in_err-check_lsns-clause-fault
returns-in_err-check_lsns-clause-fault g c =
    let exit = err_from_is_err_and c.from_residual-in_err-check_lsns.result c.from_residual-in_err-check_lsns.ensures.1 in
    rw (exit.1, exit.2) (inr (c.in_ok-check_settings.ensures.ok, ahead_fault c.args.log.now c.args.store c.in_err-check_lsns.field-0.0 (ahead g c)))

pub go_forward-requires-clause-none_ahead : goal.go_forward-requires-clause-none_ahead
go_forward-requires-clause-none_ahead g c =
    let pages = c.store.inside.pages.items in
    let stored : pages ≡ c.args.store.pages = ap (λ (s : StoreContent). s.pages) c.store.view_is in
    let none_ahead : NoneAhead c.args.log.now c.args.store =
    subst (λ (n : ℕ). All (λ (page : Page). page.lsn ≤ n) c.args.store.pages) c.last.ensures (subst (All (λ (page : Page). page.lsn ≤ c.last.result)) stored (c.in_ok-check_lsns.ensures.ok pages pages refl)) in
    λ lifetimes lives. none_ahead

pub returns-in_err-tables-clause-lawful : goal.returns-in_err-tables-clause-lawful
returns-in_err-tables-clause-lawful g c = λ base lawful fit.
    let exit = err_from_is_err_and c.from_residual-in_err-tables.result c.from_residual-in_err-tables.ensures.1 in
    rw (exit.1, exit.2) (c.in_err-tables.ensures.lawful base lawful)

pub returns-in_err-tables-clause-fault : goal.returns-in_err-tables-clause-fault
returns-in_err-tables-clause-fault g c =
    let exit = err_from_is_err_and c.from_residual-in_err-tables.result c.from_residual-in_err-tables.ensures.1 in
    rw (exit.1, exit.2) (inr (c.in_ok-check_settings.ensures.ok, c.in_err-tables.ensures.fault))

pub roll_back-requires-clause-numbered : goal.roll_back-requires-clause-numbered
roll_back-requires-clause-numbered g c =
    let numbered : AreNumbered c.args.store.pages = subst AreNumbered (ap (λ (s : StoreContent). s.pages) c.store.view_is) c.store.invariant in
    subst AreNumbered (sym c.in_ok-tables.ensures.redone.redone_pages) (changed_numbered (redone_page c.args.log.now c.in_ok-tables.tables) c.args.store.pages (λ page. refl) numbered)

pub roll_back-requires-clause-no_transaction_0 : goal.roll_back-requires-clause-no_transaction_0
roll_back-requires-clause-no_transaction_0 g c = lost_none 0 c.in_ok-tables.tables.transactions c.in_ok-tables.ensures.no_transaction_0

pub returns-clause-lawful : goal.returns-clause-lawful
returns-clause-lawful g c = λ base lawful fit.
    let kept : c.store.inside.master ≡ c.args.store.master = ap (λ (s : StoreContent). s.master) c.store.view_is in
    let numbered : AreNumbered c.args.store.pages = subst AreNumbered (ap (λ (s : StoreContent). s.pages) c.store.view_is) c.store.invariant in
    c.roll_back.ensures.lawful c.args.log.now base c.args.store (gathered_of_itself _ _) lawful numbered (sym kept) (c.in_ok-tables.ensures.lawful base lawful) c.in_ok-tables.ensures.redone

pub returns-clause-restarts : goal.returns-clause-restarts
returns-clause-restarts g c = c.roll_back.ensures.restarts c.args.log.now c.args.store (gathered_of_itself _ _) (sym (ap (λ (s : StoreContent). s.master) c.store.view_is)) c.in_ok-tables.ensures.redone

pub returns-clause-fault : goal.returns-clause-fault
returns-clause-fault g c =
    IfErr-weaker c.roll_back.result _ _ (λ e h. inr (c.in_ok-check_settings.ensures.ok, h)) (c.roll_back.ensures.fault c.args.log.now c.args.store (gathered_of_itself _ _) c.in_ok-tables.ensures.redone)
