use Rattle.std.proofs.Common.{map}
use Rattle.std.proofs.lemmas.Result.{err_from_is_err_and, IfOk-at_ok, IfErr-at_err}
use Rattle.wal.specs.Content.{entry_of}
use Rattle.log_laws.specs.Records.{history}
use Rattle.analysis.specs.Tables.{AreTransactionsOf, BaseFault}
use Rattle.analysis.proofs.Halves.{both_halves}
use Rattle.restart.specs.Restart.{RedoesPages, ForwardFault}
use Rattle.restart.proofs.Restored.{base_alone, pages_alone}
use Rattle.restart.proofs.Causes.{base_fault, pages_fault}
use Rattle.restart.proofs.forward.go_forward.Goals as goal

pub returns-in_err-transactions-clause-lawful : goal.returns-in_err-transactions-clause-lawful
returns-in_err-transactions-clause-lawful g c = λ base lawful.
    let exit = err_from_is_err_and c.from_residual.result c.from_residual.ensures.1 in
    rw (exit.1, exit.2)
    (base_alone base c.args.log.now c.args.store lawful c.in_err-transactions.field-0.0
    (IfErr-at_err (BaseFault c.args.store.master (history c.args.log.now)) c.in_err-transactions.was c.side_by_side-transactions.ensures.no_base))

pub returns-in_err-transactions-clause-fault : goal.returns-in_err-transactions-clause-fault
returns-in_err-transactions-clause-fault g c =
    let exit = err_from_is_err_and c.from_residual.result c.from_residual.ensures.1 in
    rw (exit.1, exit.2)
    (base_fault c.args.log.now c.args.store c.requires.none_ahead c.in_err-transactions.field-0.0
    (IfErr-at_err (BaseFault c.args.store.master (history c.args.log.now)) c.in_err-transactions.was c.side_by_side-transactions.ensures.no_base))

pub returns-in_err-pages-clause-lawful : goal.returns-in_err-pages-clause-lawful
returns-in_err-pages-clause-lawful g c = λ base lawful.
    let exit = err_from_is_err_and c.from_residual-in_err-pages.result c.from_residual-in_err-pages.ensures.1 in
    rw (exit.1, exit.2)
    (pages_alone base c.args.log.now c.args.store lawful c.args.workers c.in_err-pages.field-0.0 c.requires.settings.fit
    (IfErr-at_err (ForwardFault c.args.log.now c.args.store c.args.workers) c.in_err-pages.was c.side_by_side-transactions.ensures.fault))

pub returns-in_err-pages-clause-fault : goal.returns-in_err-pages-clause-fault
returns-in_err-pages-clause-fault g c =
    let exit = err_from_is_err_and c.from_residual-in_err-pages.result c.from_residual-in_err-pages.ensures.1 in
    let found = map entry_of c.in_ok-transactions.transactions.entries in
    let some : AreTransactionsOf c.args.log.now c.args.store.master found =
    IfOk-at_ok (λ found. AreTransactionsOf c.args.log.now c.args.store.master (map entry_of found.entries)) c.in_ok-transactions.was c.side_by_side-transactions.ensures.transactions in
    rw (exit.1, exit.2)
    (pages_fault c.args.log.now c.args.store c.requires.none_ahead found some c.args.workers c.in_err-pages.field-0.0 c.requires.settings.fit
    (IfErr-at_err (ForwardFault c.args.log.now c.args.store c.args.workers) c.in_err-pages.was c.side_by_side-transactions.ensures.fault))

pub returns-clause-redone : goal.returns-clause-redone
returns-clause-redone g c =
    let found = map entry_of c.in_ok-transactions.transactions.entries in
    let some : AreTransactionsOf c.args.log.now c.args.store.master found =
    IfOk-at_ok (λ found. AreTransactionsOf c.args.log.now c.args.store.master (map entry_of found.entries)) c.in_ok-transactions.was c.side_by_side-transactions.ensures.transactions in
    let made : RedoesPages c.args.log.now c.args.store c.in_ok-pages.pages c.in_ok-pages.redone =
    IfOk-at_ok (λ x. RedoesPages c.args.log.now c.args.store x.0 x.1) c.in_ok-pages.was c.side_by_side-transactions.ensures.redone in
    rw c.join_tables.ensures.parts
    (record {
      are = both_halves c.args.log.now c.args.store.master found c.in_ok-pages.pages some made.are;
      none_ahead = c.requires.none_ahead;
      exist = made.exist;
      redone_pages = made.redone_pages;
      applied = made.applied;
    })

pub returns-clause-lawful : goal.returns-clause-lawful
returns-clause-lawful g c = λ base lawful.
    c.join_tables.ensures.lawful base c.args.log.now c.args.store lawful
    (IfOk-at_ok (λ found. AreTransactionsOf c.args.log.now c.args.store.master (map entry_of found.entries)) c.in_ok-transactions.was c.side_by_side-transactions.ensures.transactions)
    (IfOk-at_ok (λ x. RedoesPages c.args.log.now c.args.store x.0 x.1) c.in_ok-pages.was c.side_by_side-transactions.ensures.redone).are
