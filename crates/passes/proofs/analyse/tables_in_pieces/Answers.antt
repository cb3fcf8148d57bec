use Rattle.std.proofs.Common.{◌≡◌, ℕ, List, Some, subst, sym}
use Rattle.std.proofs.lemmas.Result.{err_from_is_err_and}
use Rattle.log_laws.specs.Records.{LogContent, history, last_lsn}
use Rattle.wal.specs.Reads.{Reads}
use Rattle.analysis.specs.Passing.{HasAnalysed}
use Rattle.passes.specs.Marks.{AreMarks}
use Rattle.passes.proofs.ReadForward.{none_at, comes_before}
use Rattle.passes.specs.Tables.{TablesCause}
use Rattle.passes.specs.contracts.analyse.AnalysisPass.TheImpl.{ghosts}
use Rattle.passes.proofs.Nexts.{memory_cause}
use Rattle.passes.proofs.Calls.{still}
use Rattle.passes.proofs.Passes.{stops_as}
use Rattle.passes.proofs.analyse.tables_in_pieces.Given.{Over}
use Rattle.passes.proofs.analyse.tables_in_pieces.Goals as goal

pub returns-in_err-transactions-clause-fault : goal.returns-in_err-transactions-clause-fault
returns-in_err-transactions-clause-fault g c =
    let exit = err_from_is_err_and c.from_residual.result c.from_residual.ensures.1 in
    rw (exit.1, exit.2)
    (λ text whole torn is reads are.
    let own = c.at-from.ensures.is_mark text whole are in
    c.in_err-transactions.ensures.fault text whole own.0 torn is reads (c.end-end.ensures.last text whole are) own.1
    (none_at text whole own.0 torn c.place_before.result c.args.master c.at-from.result c.args.marks.now reads are own.1 c.at-from.ensures.at c.place_before.ensures.before))

pub returns-in_err-pass_to_end-clause-fault : goal.returns-in_err-pass_to_end-clause-fault
returns-in_err-pass_to_end-clause-fault g c =
    let exit = err_from_is_err_and c.from_residual-in_err-pass_to_end.result c.from_residual-in_err-pass_to_end.ensures.1 in
    let e = c.in_err-pass_to_end.field-0.0 in
    rw (exit.1, exit.2)
    (λ text whole torn is reads are.
    let own = c.at-from.ensures.is_mark text whole are in
    stops_as ghosts (record { tables = c.in_ok-tables.tables; master = c.args.master }) whole own.0 (TablesCause c.args.master whole) tt (λ x alone. memory_cause c.args.master whole x alone) e
    (c.in_err-pass_to_end.ensures.fault text whole own.0 torn (still c.in_ok-transactions.ensures.source is) reads (c.end-end.ensures.last text whole are) own.1))

-- what both scans have found when all pieces are read
analysed : (g : Over) (c : goal.In_ok-tables-2 g) (text : List ℕ) (whole : LogContent) (torn : ℕ) → g.S.Reread.text c.args.source.now ≡ Some text → Reads text whole torn → AreMarks text whole c.args.marks.now
    → HasAnalysed c.args.master (history whole) (history whole) c.pass_to_end.new.pass.tables
analysed g c text whole torn is reads are =
    let own = c.at-from.ensures.is_mark text whole are in
    let end : c.end-end.result.lsn ≡ last_lsn (history whole) = c.end-end.ensures.last text whole are in
    (c.in_ok-pass_to_end.ensures.passed text whole own.0 torn (still c.in_ok-transactions.ensures.source is) reads end own.1).1 (history whole)
    (c.in_ok-tables.ensures.begun c.args.master (history whole) (history own.0)
    (c.in_ok-transactions.ensures.base text whole own.0 torn is reads end own.1
    (none_at text whole own.0 torn c.place_before.result c.args.master c.at-from.result c.args.marks.now reads are own.1 c.at-from.ensures.at c.place_before.ensures.before))
    (comes_before text whole own.0 torn c.place_before.result c.args.master c.at-from.result c.args.marks.now reads are own.1 c.at-from.ensures.at c.place_before.ensures.before))

pub returns-clause-tables : goal.returns-clause-tables
returns-clause-tables g c = λ text whole torn is reads are.
    c.in_ok-tables-2.ensures.tables whole c.args.master (sym (c.first-base.ensures.base text whole are)) (analysed g c text whole torn is reads are)

pub returns-clause-lawful : goal.returns-clause-lawful
returns-clause-lawful g c = λ text whole torn is reads are over store lawful named.
    c.in_ok-tables-2.ensures.lawful over whole store lawful (sym (c.first-base.ensures.base text whole are))
    (subst (λ m. HasAnalysed m (history whole) (history whole) c.pass_to_end.new.pass.tables) (sym named) (analysed g c text whole torn is reads are))
