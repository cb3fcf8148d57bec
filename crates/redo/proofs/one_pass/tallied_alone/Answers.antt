use Rattle.std.proofs.Common.{◌≡◌, ◌+◌, ◌≤◌, ◌<◌, All, List, length, sym, ap, subst, arith}
use Rattle.std.proofs.lemmas.Result.{err_from_is_err_and}
use Rattle.page.specs.Store.{StoreContent, AreNumbered}
use Rattle.log_laws.specs.Records.{history, last_lsn, base_lsn}
use Rattle.log_laws.proofs.Histories.{behind, base_within}
use Rattle.redo.specs.declared.tally.Tally.{Tally}
use Rattle.redo.specs.Inputs.{InputContent, input_over}
use Rattle.redo.specs.Routes.{ExistWithin, skipped_in}
use Rattle.redo.specs.Changes.{NamesBelow}
use Rattle.redo.specs.OnePass.{AreUpTo}
use Rattle.redo.proofs.Reading.{written_back}
use Rattle.redo.proofs.Stretches.{skipped_from, skipped_within}
use Rattle.redo.proofs.Noting.{exist_more, refused}
use Rattle.redo.proofs.Causes.{exist_looked}
use Rattle.redo.proofs.OnePass.{few, one_more, alone_fault, all_tallied_alone}
use Rattle.redo.proofs.one_pass.tallied_alone.Goals as goal

pub count_next-requires-clause-few : goal.count_next-requires-clause-few
count_next-requires-clause-few c =
    let input : InputContent = input_over c.args.log.now c.args.store.now.pages c.args.tables.now in
    let log = history input.log in
    let numbered : AreNumbered input.images = subst AreNumbered (ap (λ (s : StoreContent). s.pages) c.store.view_is) c.store.invariant in
    let last : c.last-last.result ≡ last_lsn log = c.last-last.ensures in
    let from : base_lsn log ≤ c.loop-lsn.lsn = omega (arith, c.skipped-lsn.ensures, c.loop-lsn.auto.lsn, skipped_from (base_lsn log) input.redo_lsn (last_lsn log) (base_within log)) in
    subst (All (λ (t : Tally). t.applied ≤ c.loop-lsn.lsn)) (sym c.deref_mut.ensures.value)
    (few input numbered c.loop-lsn.lsn c.loop-lsn.tallies.items c.loop-lsn.invariant.0 from (omega (arith, c.loop-lsn-test.true, last)))

pub returns-in_err-count_next-clause-fault : goal.returns-in_err-count_next-clause-fault
returns-in_err-count_next-clause-fault c =
    let exit = err_from_is_err_and c.from_residual-in_err-count_next.result c.from_residual-in_err-count_next.ensures.1 in
    let input : InputContent = input_over c.args.log.now c.args.store.now.pages c.args.tables.now in
    let log = history input.log in
    let lsn = c.loop-lsn.lsn in
    let up : AreUpTo input lsn c.deref_mut.result.now = subst (AreUpTo input lsn) (sym c.deref_mut.ensures.value) c.loop-lsn.invariant.0 in
    let last : c.last-last.result ≡ last_lsn log = c.last-last.ensures in
    let low = skipped_from (base_lsn log) input.redo_lsn (last_lsn log) (base_within log) in
    let le : skipped_in input ≤ lsn = omega (arith, c.skipped-lsn.ensures, c.loop-lsn.auto.lsn) in
    let lt : lsn < last_lsn log = omega (arith, c.loop-lsn-test.true, last) in
    let found = behind log lsn (omega (arith, low, le)) lt in
    let fault = c.in_err-count_next.field-0.0 in
    rw (exit.1, exit.2)
    (alone_fault input (last_lsn log) 1 fault (omega arith, omega arith)
    (refused input (skipped_in input) lsn found.entry low le lt found.there (length c.deref_mut.result.now) (last_lsn log) fault up.count lt c.loop-lsn.invariant.1 (c.in_err-count_next.ensures.fault found.entry found.there)))

pub loop-lsn-preserved : goal.loop-lsn-preserved
loop-lsn-preserved c =
    let input : InputContent = input_over c.args.log.now c.args.store.now.pages c.args.tables.now in
    let log = history input.log in
    let lsn = c.loop-lsn.lsn in
    let lent = c.deref_mut.result.now in
    let new = c.count_next.new.tallies in
    let up : AreUpTo input lsn lent = subst (AreUpTo input lsn) (sym c.deref_mut.ensures.value) c.loop-lsn.invariant.0 in
    let numbered : AreNumbered input.images = subst AreNumbered (ap (λ (s : StoreContent). s.pages) c.store.view_is) c.store.invariant in
    let last : c.last-last.result ≡ last_lsn log = c.last-last.ensures in
    let low = skipped_from (base_lsn log) input.redo_lsn (last_lsn log) (base_within log) in
    let le : skipped_in input ≤ lsn = omega (arith, c.skipped-lsn.ensures, c.loop-lsn.auto.lsn) in
    let lt : lsn < last_lsn log = omega (arith, c.loop-lsn-test.true, last) in
    let found = behind log lsn (omega (arith, low, le)) lt in
    let below : NamesBelow (length input.images) found.entry = subst (λ n. NamesBelow n found.entry) up.count (c.in_ok-count_next.ensures.exists found.entry found.there) in
    let count : length new ≡ c.loop-lsn.tallies.len = omega (arith, c.in_ok-count_next.ensures.count, ap (λ (ts : List Tally). length ts) c.deref_mut.ensures.value, c.loop-lsn.tallies.ok.0) in (
      subst (AreUpTo input (lsn + 1)) (sym (written_back c.loop-lsn.tallies.len c.loop-lsn.tallies.items new count))
          (one_more input numbered lsn lent up new (omega (arith, low, le)) lt c.in_ok-count_next.ensures.count c.in_ok-count_next.ensures.each),
      exist_more input (skipped_in input) lsn found.entry low le lt found.there below c.loop-lsn.invariant.1,
    )

pub returns-clause-tallied : goal.returns-clause-tallied
returns-clause-tallied c =
    let input : InputContent = input_over c.args.log.now c.args.store.now.pages c.args.tables.now in
    let numbered : AreNumbered input.images = subst AreNumbered (ap (λ (s : StoreContent). s.pages) c.store.view_is) c.store.invariant in
    let last : c.last-last.result ≡ last_lsn (history input.log) = c.last-last.ensures in
    all_tallied_alone input numbered c.loop-lsn.lsn c.loop-lsn.tallies.items c.loop-lsn.invariant.0 (omega (arith, c.loop-lsn-test.false, last))

pub returns-clause-exist : goal.returns-clause-exist
returns-clause-exist c =
    let input : InputContent = input_over c.args.log.now c.args.store.now.pages c.args.tables.now in
    let last : c.last-last.result ≡ last_lsn (history input.log) = c.last-last.ensures in
    let end : c.loop-lsn.lsn ≡ last_lsn (history input.log) = omega (arith, c.loop-lsn-test.false, c.loop-lsn.auto.lsn-end, last, c.skipped-lsn.ensures, skipped_within (base_lsn (history input.log)) input.redo_lsn (last_lsn (history input.log)) (base_within (history input.log))) in
    exist_looked input (subst (ExistWithin input.log (length input.images) (skipped_in input)) end c.loop-lsn.invariant.1)
