use Rattle.std.proofs.Common.{◌≡◌, ◌∙◌, [], map, length, ap, subst, inr, arith}
use Rattle.std.proofs.lemmas.Result.{err_from_is_err_and}
use Rattle.page.specs.Store.{StoreContent}
use Rattle.wal.specs.Content.{entry_of}
use Rattle.log_laws.specs.Records.{history}
use Rattle.analysis.specs.Tables.{AreTransactionsOf, BaseFault, ServesRedo}
use Rattle.analysis.proofs.Halves.{both_halves}
use Rattle.redo.specs.Redone.{AreWorkers}
use Rattle.restart.proofs.Restored.{base_alone, pages_alone}
use Rattle.restart.proofs.Served.{served}
use Rattle.restart.proofs.Causes.{base_fault, pages_fault}
use Rattle.restart.proofs.forward.forward_alone.Goals as goal

-- one worker is a number that redo may have
one : AreWorkers 1
one = (omega arith, omega arith)

pub returns-in_err-transactions-clause-lawful : goal.returns-in_err-transactions-clause-lawful
returns-in_err-transactions-clause-lawful g c = λ base lawful.
    let exit = err_from_is_err_and c.from_residual.result c.from_residual.ensures.1 in
    let fault = c.in_err-transactions.field-0.0 in
    rw (exit.1, exit.2)
    (base_alone base c.args.log.now c.args.store lawful fault
    (subst (λ m. BaseFault m (history c.args.log.now) fault) (ap (λ (s : StoreContent). s.master) c.store.view_is) c.in_err-transactions.ensures.fault))

pub returns-in_err-transactions-clause-fault : goal.returns-in_err-transactions-clause-fault
returns-in_err-transactions-clause-fault g c =
    let exit = err_from_is_err_and c.from_residual.result c.from_residual.ensures.1 in
    let fault = c.in_err-transactions.field-0.0 in
    rw (exit.1, exit.2)
    (base_fault c.args.log.now c.args.store c.requires fault
    (subst (λ m. BaseFault m (history c.args.log.now) fault) (ap (λ (s : StoreContent). s.master) c.store.view_is) c.in_err-transactions.ensures.fault))

pub returns-in_err-pages-clause-lawful : goal.returns-in_err-pages-clause-lawful
returns-in_err-pages-clause-lawful g c = λ base lawful.
    let exit = err_from_is_err_and c.from_residual-in_err-pages.result c.from_residual-in_err-pages.ensures.1 in
    let fault = c.in_err-pages.field-0.0 in
    rw (exit.1, exit.2)
    (base_alone base c.args.log.now c.args.store lawful fault
    (subst (λ m. BaseFault m (history c.args.log.now) fault) (ap (λ (s : StoreContent). s.master) c.store.view_is) c.in_err-pages.ensures.fault))

pub returns-in_err-pages-clause-fault : goal.returns-in_err-pages-clause-fault
returns-in_err-pages-clause-fault g c =
    let exit = err_from_is_err_and c.from_residual-in_err-pages.result c.from_residual-in_err-pages.ensures.1 in
    let fault = c.in_err-pages.field-0.0 in
    rw (exit.1, exit.2)
    (base_fault c.args.log.now c.args.store c.requires fault
    (subst (λ m. BaseFault m (history c.args.log.now) fault) (ap (λ (s : StoreContent). s.master) c.store.view_is) c.in_err-pages.ensures.fault))

pub returns-in_err-redone-clause-lawful : goal.returns-in_err-redone-clause-lawful
returns-in_err-redone-clause-lawful g c = λ base lawful.
    let exit = err_from_is_err_and c.from_residual-in_err-redone.result c.from_residual-in_err-redone.ensures.1 in
    let tables = c.in_ok-pages.pages in
    let count : c.len.result ≡ length c.store.inside.pages.items = c.len.ensures ∙ c.store.inside.pages.ok.0 in
    let serves : ServesRedo c.args.log.now c.args.store.master (length c.args.store.pages) tables.dirty tables.redo_lsn =
    subst (λ (s : StoreContent). ServesRedo c.args.log.now s.master (length s.pages) tables.dirty tables.redo_lsn) c.store.view_is (subst (λ n. ServesRedo c.args.log.now c.store.inside.master n tables.dirty tables.redo_lsn) count c.in_ok-pages.ensures.pages) in
    rw (exit.1, exit.2)
    (pages_alone base c.args.log.now c.args.store lawful 1 c.in_err-redone.field-0.0 one
    (inr (record { transactions = []; dirty = serves.whole; redo_lsn = tables.redo_lsn }, serves.are, c.in_err-redone.ensures.fault)))

pub returns-in_err-redone-clause-fault : goal.returns-in_err-redone-clause-fault
returns-in_err-redone-clause-fault g c =
    let exit = err_from_is_err_and c.from_residual-in_err-redone.result c.from_residual-in_err-redone.ensures.1 in
    let found = map entry_of c.in_ok-transactions.transactions.entries in
    let some : AreTransactionsOf c.args.log.now c.args.store.master found = subst (λ m. AreTransactionsOf c.args.log.now m found) (ap (λ (s : StoreContent). s.master) c.store.view_is) c.in_ok-transactions.ensures.transactions in
    let tables = c.in_ok-pages.pages in
    let count : c.len.result ≡ length c.store.inside.pages.items = c.len.ensures ∙ c.store.inside.pages.ok.0 in
    let serves : ServesRedo c.args.log.now c.args.store.master (length c.args.store.pages) tables.dirty tables.redo_lsn =
    subst (λ (s : StoreContent). ServesRedo c.args.log.now s.master (length s.pages) tables.dirty tables.redo_lsn) c.store.view_is (subst (λ n. ServesRedo c.args.log.now c.store.inside.master n tables.dirty tables.redo_lsn) count c.in_ok-pages.ensures.pages) in
    rw (exit.1, exit.2)
    (pages_fault c.args.log.now c.args.store c.requires found some 1 c.in_err-redone.field-0.0 one
    (inr (record { transactions = []; dirty = serves.whole; redo_lsn = tables.redo_lsn }, serves.are, c.in_err-redone.ensures.fault)))

pub returns-clause-redone : goal.returns-clause-redone
returns-clause-redone g c =
    let found = map entry_of c.in_ok-transactions.transactions.entries in
    let some : AreTransactionsOf c.args.log.now c.args.store.master found = subst (λ m. AreTransactionsOf c.args.log.now m found) (ap (λ (s : StoreContent). s.master) c.store.view_is) c.in_ok-transactions.ensures.transactions in
    let tables = c.in_ok-pages.pages in
    let count : c.len.result ≡ length c.store.inside.pages.items = c.len.ensures ∙ c.store.inside.pages.ok.0 in
    let serves : ServesRedo c.args.log.now c.args.store.master (length c.args.store.pages) tables.dirty tables.redo_lsn =
    subst (λ (s : StoreContent). ServesRedo c.args.log.now s.master (length s.pages) tables.dirty tables.redo_lsn) c.store.view_is (subst (λ n. ServesRedo c.args.log.now c.store.inside.master n tables.dirty tables.redo_lsn) count c.in_ok-pages.ensures.pages) in
    let made = c.in_ok-redone.ensures.redone in
    rw c.join_tables.ensures.parts
    (record {
      are = both_halves c.args.log.now c.args.store.master found tables some (served c.args.log.now c.args.store.master (length c.args.store.pages) tables.dirty tables.redo_lsn serves made.exist);
      none_ahead = c.requires;
      exist = made.exist;
      redone_pages = made.pages;
      applied = made.applied;
    })

pub returns-clause-lawful : goal.returns-clause-lawful
returns-clause-lawful g c = λ base lawful.
    let found = map entry_of c.in_ok-transactions.transactions.entries in
    let some : AreTransactionsOf c.args.log.now c.args.store.master found = subst (λ m. AreTransactionsOf c.args.log.now m found) (ap (λ (s : StoreContent). s.master) c.store.view_is) c.in_ok-transactions.ensures.transactions in
    let tables = c.in_ok-pages.pages in
    let count : c.len.result ≡ length c.store.inside.pages.items = c.len.ensures ∙ c.store.inside.pages.ok.0 in
    let serves : ServesRedo c.args.log.now c.args.store.master (length c.args.store.pages) tables.dirty tables.redo_lsn =
    subst (λ (s : StoreContent). ServesRedo c.args.log.now s.master (length s.pages) tables.dirty tables.redo_lsn) c.store.view_is (subst (λ n. ServesRedo c.args.log.now c.store.inside.master n tables.dirty tables.redo_lsn) count c.in_ok-pages.ensures.pages) in
    c.join_tables.ensures.lawful base c.args.log.now c.args.store lawful some
    (served c.args.log.now c.args.store.master (length c.args.store.pages) tables.dirty tables.redo_lsn serves c.in_ok-redone.ensures.redone.exist)
