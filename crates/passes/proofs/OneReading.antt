-- One forward reading of a log without a checkpoint.
use Rattle.std.proofs.Common.{◌≡◌, ℕ, ◌+◌, List, Option, Some, None, false, length, sym, ap, ◌∙◌, subst, arith}
use Rattle.std.specs.Prelude.{is_some, IfOk, IfErr}
use Rattle.std.specs.declared.result.Result.TheVariants.{Ok, Err}
use Rattle.std.specs.declared.result.Result.{Result}
use Rattle.page.specs.declared.fault.Fault.{Fault}
use Rattle.page.specs.declared.page.Page.{Page}
use Rattle.page.specs.Store.{AreNumbered}
use Rattle.log_laws.specs.Records.{LogContent, history, last_lsn, base_lsn}
use Rattle.log_laws.proofs.Histories.{base_within}
use Rattle.tables.specs.Tables.{TablesContent}
use Rattle.analysis.specs.Fresh.{AreFreshTables}
use Rattle.analysis.specs.Tables.{with_dirty}
use Rattle.redo.specs.Inputs.{input_over}
use Rattle.redo.specs.Counted.{AreCounted}
use Rattle.redo.specs.Passing.{TalliesSoFar, ListEach}
use Rattle.redo.specs.Redone.{RedoFault}
use Rattle.redo.proofs.Stretches.{skipped_from}
use Rattle.redo.proofs.Passing.{tables_of_all, all_listed}
use Rattle.passes.specs.Listing.{AreTalliedByAll, TalliedOrRefused}
use Rattle.passes.proofs.Listing.{fault_by_found}
use Rattle.passes.proofs.Redoing.{tallied_first}

-- THE TALLIES
-- before the first record
pub tallied_all_first : (whole : LogContent) (images : List Page) (base : ℕ) (scan : TalliesSoFar) → AreNumbered images → scan.redo_lsn ≡ base + 1 → scan.upto ≡ base → base_lsn (history whole) ≡ base
    → ((tables : TablesContent) → ListEach (length images) (base + 1) tables → AreCounted (input_over whole images tables) base scan.tallies) → AreTalliedByAll whole images base scan
tallied_all_first whole images base scan numbered from upto at up =
    let within = base_within (history whole) in
    let listed : TablesContent = tables_of_all (length images) (base + 1) in
    let each : ListEach (length images) (base + 1) listed = all_listed (length images) (base + 1) in
    record {
      listed = listed;
      each = subst (λ n. ListEach (length images) (n + 1) listed) (sym at) each;
      tallied = tallied_first whole images listed base base scan numbered from (omega (arith, upto)) (sym at) (omega arith) (omega (arith, at, within)) (omega (arith, at, skipped_from (base_lsn (history whole)) listed.redo_lsn (last_lsn (history whole)) within)) (up listed each);
    }

pub none_missing : (whole : LogContent) (images : List Page) (lsn : ℕ) (missing : Option Fault) (scan : TalliesSoFar) → is_some missing ≡ false → TalliedOrRefused whole images lsn missing scan → AreTalliedByAll whole images lsn scan
none_missing whole images lsn None scan none before = before
none_missing whole images lsn (Some e) scan none before = absurd cc

-- WHAT IS LEFT: the tallies if no page was missing, otherwise the fault
module _ (whole : LogContent) (images : List Page) (lsn : ℕ) (missing : Option Fault) (scan : TalliesSoFar) (tallied : TalliedOrRefused whole images lsn missing scan) where
  pub tallied_if_ok : (left : Result TalliesSoFar Fault) → IfOk left (λ t. (missing ≡ None) × (t ≡ scan)) → IfOk left (AreTalliedByAll whole images lsn)
  tallied_if_ok (Ok t) own = subst (AreTalliedByAll whole images lsn) (sym own.1) (subst (λ m. TalliedOrRefused whole images lsn m scan) own.0 tallied)
  tallied_if_ok (Err e) own = tt

  pub refused_if_err : (tables : TablesContent) → AreFreshTables whole tables → (left : Result TalliesSoFar Fault) → IfErr left (λ e. missing ≡ Some e) → IfErr left (RedoFault whole (length images) tables.redo_lsn 1)
  refused_if_err tables fresh (Ok t) own = tt
  refused_if_err tables fresh (Err e) own = fault_by_found whole (with_dirty fresh.dirty tables) fresh.are (length images) e (subst (λ m. TalliedOrRefused whole images lsn m scan) own tallied)

pub count_if_ok : (missing : Option Fault) (scan : TalliesSoFar) (count : ℕ) → length scan.tallies ≡ count → (left : Result TalliesSoFar Fault) → IfOk left (λ t. (missing ≡ None) × (t ≡ scan)) → IfOk left (λ t. length t.tallies ≡ count)
count_if_ok missing scan count is (Ok t) own = ap (λ (s : TalliesSoFar). length s.tallies) own.1 ∙ is
count_if_ok missing scan count is (Err e) own = tt
