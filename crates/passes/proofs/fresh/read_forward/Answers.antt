use Rattle.std.proofs.Common.{◌≡◌, ◌-◌, ℕ, List, Some, get_or, length, sym, ap, subst, arith, ◌∙◌}
use Rattle.std.proofs.lemmas.Result.{err_from_is_err_and}
use Rattle.log_laws.specs.Records.{LogContent, lsn_before, start, ◌▸▸◌, history, last_lsn, base_lsn}
use Rattle.wal.specs.Reads.{Reads}
use Rattle.wal.proofs.Whole.{one_reading}
use Rattle.analysis.specs.Fresh.{HasFound}
use Rattle.passes.specs.Calls.{ForLog}
use Rattle.passes.specs.Listing.{IsTalliedTo}
use Rattle.passes.specs.Redoing.{ForShown}
use Rattle.passes.proofs.Calls.{still}
use Rattle.passes.proofs.Finding.{found_at_end}
use Rattle.passes.proofs.FirstReading.{starts_at}
use Rattle.passes.proofs.OneReading.{tallied_if_ok, refused_if_err, count_if_ok}
use Rattle.passes.proofs.Passes.{log_from_first}
use Rattle.passes.proofs.Reached.{keeps_on as device_keeps}
use Rattle.passes.proofs.ReadOn.{first_marked, joins_more, keeps_on, read_after_more}
use Rattle.passes.specs.ReadOn.{KeepsMarks}
use Rattle.passes.specs.contracts.fresh.ForwardScanPass.TheImpl.{ghosts}
use Rattle.passes.proofs.fresh.read_forward.Given.{Over}
use Rattle.passes.proofs.fresh.read_forward.Goals as goal

pub returns-in_err-read_by_workers-clause-fault : goal.returns-in_err-read_by_workers-clause-fault
returns-in_err-read_by_workers-clause-fault g c =
    let exit = err_from_is_err_and c.from_residual-in_err-read_by_workers.result c.from_residual-in_err-read_by_workers.ensures.1 in
    rw (exit.1, exit.2)
    (λ text is.
    let begins = c.in_ok-marks.ensures.first text is in
    c.in_err-read_by_workers.ensures.fault text begins.2.0 (still c.in_ok-marks.ensures.source is) (first_marked text begins.0 c.in_ok-marks.marks begins.1 begins.2))

pub returns-in_err-torn-clause-fault : goal.returns-in_err-torn-clause-fault
returns-in_err-torn-clause-fault g c =
    let exit = err_from_is_err_and c.from_residual-in_err-torn.result c.from_residual-in_err-torn.ensures.1 in
    rw (exit.1, exit.2)
    (λ text is.
    let begins = c.in_ok-marks.ensures.first text is in
    let now = c.in_ok-read_by_workers.ensures.analysed text begins.2.0 (still c.in_ok-marks.ensures.source is) (first_marked text begins.0 c.in_ok-marks.marks begins.1 begins.2) in
    log_from_first ghosts (λ x alone. alone) text c.in_err-torn.field-0.0
    (c.in_err-torn.ensures.fault text now.0 (still c.in_ok-read_by_workers.ensures.source (still c.in_ok-marks.ensures.source is)) now.1))

-- the log's base LSN
based : (g : Over) (c : goal.In_ok-tables g) (text : List ℕ) (whole : LogContent) (torn : ℕ) → g.S.Reread.text c.args.source.now ≡ Some text → Reads text whole torn → base_lsn (history whole) ≡ c.end.result.lsn
based g c text whole torn is reads =
    let begins = c.in_ok-marks.ensures.first text is in
    starts_at text whole begins.2.0 torn begins.0 reads begins.2.1 begins.2.2
    ∙ sym (ap (λ m. m.lsn) (c.end.ensures.end begins.0 ∙ ap (λ ms. get_or ms (length ms - 1) begins.0) begins.1))

-- what analysis has found at the log's end
analysed : (g : Over) (c : goal.In_ok-tables g) (text : List ℕ) (whole : LogContent) (torn : ℕ) → g.S.Reread.text c.args.source.now ≡ Some text → Reads text whole torn
    → HasFound (history whole) c.read_to_end.new.scan.pass.tables
analysed g c text whole torn is reads =
    let begins = c.in_ok-marks.ensures.first text is in
    let still_is = still c.in_ok-marks.ensures.source is in
    let now = c.in_ok-read_by_workers.ensures.analysed text begins.2.0 still_is (first_marked text begins.0 c.in_ok-marks.marks begins.1 begins.2) in
    let read = c.in_ok-torn.ensures.passed text now.0 (still c.in_ok-read_by_workers.ensures.source still_is) now.1 in
    let scan = c.in_ok-pass.pass.tables in
    let end = sym (one_reading text whole read.0 torn c.in_ok-torn.torn reads read.2).0 in
    subst (λ (l : LogContent). HasFound (history l) c.read_to_end.new.scan.pass.tables) end
    (read.3.0
    (now.2 whole torn reads
    (subst (λ h. HasFound h scan) (sym (ap (λ rs. start (lsn_before begins.2.0.begins) ▸▸ rs) begins.2.1)) (c.in_ok-pass.ensures.analysed (lsn_before begins.2.0.begins)))))

-- what redo has found
tallied : (g : Over) (c : goal.In_ok-tables g)
    → ForLog (g.S.Reread.text c.args.source.now) (λ whole. ForShown g.P.Pages c.args.pages.now (λ stored shown. IsTalliedTo whole shown (last_lsn (history whole)) c.read_to_end.new.scan.pass))
tallied g c text whole torn is reads stored shown numbered shows =
    let begins = c.in_ok-marks.ensures.first text is in
    let still_is = still c.in_ok-marks.ensures.source is in
    let now = c.in_ok-read_by_workers.ensures.passed stored shown numbered shows text begins.2.0 still_is (first_marked text begins.0 c.in_ok-marks.marks begins.1 begins.2) in
    let read = c.in_ok-torn.ensures.passed text now.0 (still c.in_ok-read_by_workers.ensures.source still_is) now.1 in
    let at = based g c text whole torn is reads in
    let end = sym (one_reading text whole read.0 torn c.in_ok-torn.torn reads read.2).0 in
    let first = subst (λ n. IsTalliedTo whole shown n c.in_ok-pass.pass) (sym at ∙ starts_at text whole begins.2.0 torn begins.0 reads begins.2.1 begins.2.2 ∙ begins.2.2.lsn) (c.in_ok-pass.ensures.tallied stored shown numbered shows whole at) in
    let middle = (now.2 whole torn reads).1 first in
    subst (λ (l : LogContent). IsTalliedTo l shown (last_lsn (history l)) c.read_to_end.new.scan.pass) end
    (read.3.1 shown (subst (λ (l : LogContent). IsTalliedTo l shown (last_lsn (history now.0)) c.read_by_workers.new.scan.pass) (sym end) middle))

pub returns-clause-found : goal.returns-clause-found
returns-clause-found g c = λ text is.
    let size = length c.args.room.now in
    let begins = c.in_ok-marks.ensures.first text is in
    let still_is = still c.in_ok-marks.ensures.source is in
    let now = c.in_ok-read_by_workers.ensures.analysed text begins.2.0 still_is (first_marked text begins.0 c.in_ok-marks.marks begins.1 begins.2) in
    let read = c.in_ok-torn.ensures.passed text now.0 (still c.in_ok-read_by_workers.ensures.source still_is) now.1 in
    let now_marks = c.read_to_end.new.scan.marks in
    let kept = subst (λ n. KeepsMarks n c.in_ok-marks.marks now_marks) c.begin_marks.auto.room (keeps_on (omega (arith, c.read_by_workers.auto.room)) c.in_ok-read_by_workers.ensures.marks c.in_ok-torn.ensures.marks) in
    found_at_end text size c.in_ok-torn.torn begins.0 c.in_ok-marks.marks now_marks read.0 begins.1 begins.2 kept read.1 read.2

pub returns-clause-tables : goal.returns-clause-tables
returns-clause-tables g c = λ text whole torn is reads. c.in_ok-tables.ensures.tables whole (analysed g c text whole torn is reads)

pub returns-clause-no_transaction_0 : goal.returns-clause-no_transaction_0
returns-clause-no_transaction_0 g c =
    c.in_ok-tables.ensures.no_transaction_0 (c.in_ok-torn.ensures.keeps.1 (c.in_ok-read_by_workers.ensures.keeps.no_transaction_0 c.in_ok-pass.ensures.no_transaction_0))

pub returns-clause-tallied : goal.returns-clause-tallied
returns-clause-tallied g c = λ text whole torn is reads stored shown numbered shows.
    let scan = c.read_to_end.new.scan.pass in
    tallied_if_ok whole shown (last_lsn (history whole)) scan.fault scan.tallies (tallied g c text whole torn is reads stored shown numbered shows) c.in_ok-tables.tallies c.in_ok-tables.ensures.tallies

pub returns-clause-count : goal.returns-clause-count
returns-clause-count g c =
    let scan = c.read_to_end.new.scan.pass in
    count_if_ok scan.fault scan.tallies (g.P.Pages.count c.args.pages.now) (c.in_ok-torn.ensures.keeps.0 ∙ c.in_ok-read_by_workers.ensures.keeps.count ∙ c.in_ok-pass.ensures.count) c.in_ok-tables.tallies c.in_ok-tables.ensures.tallies

pub returns-clause-refused : goal.returns-clause-refused
returns-clause-refused g c = λ text whole torn is reads stored shown numbered shows.
    let scan = c.read_to_end.new.scan.pass in
    refused_if_err whole shown (last_lsn (history whole)) scan.fault scan.tallies (tallied g c text whole torn is reads stored shown numbered shows) c.in_ok-tables.tables
    (c.in_ok-tables.ensures.tables whole (analysed g c text whole torn is reads)) c.in_ok-tables.tallies c.in_ok-tables.ensures.refused

pub returns-clause-read : goal.returns-clause-read
returns-clause-read g c =
    let held = g.S.Reread.text c.args.source.now in
    let begun = g.S.Reread.text c.begin_marks.new.source in
    let now = g.S.Reread.text c.read_by_workers.new.source in
    let far = g.S.Reread.read_to c.begin_marks.new.source in
    let later = g.S.Reread.read_to c.read_by_workers.new.source in
    let marks = c.in_ok-marks.marks in
    read_after_more held now far later (g.S.Reread.read_to c.read_to_end.new.source) marks c.read_by_workers.new.scan.marks
    (device_keeps held begun now c.in_ok-marks.ensures.source.same c.in_ok-read_by_workers.ensures.source.same)
    (joins_more held begun far far later marks marks c.read_by_workers.new.scan.marks c.in_ok-marks.ensures.source.same (λ reach. reach) c.in_ok-read_by_workers.ensures.reach)
    c.in_ok-torn.ensures.read c.in_ok-marks.ensures.reach
