use Rattle.std.proofs.Common.{◌≡◌, sum, map, sym, ap, subst, ◌∙◌, arith}
use Rattle.std.specs.List.{sum_by}
use Rattle.page.specs.Store.{AreNumbered}
use Rattle.log_laws.specs.Records.{history}
use Rattle.log_laws.proofs.Histories.{size_of_log}
use Rattle.redo.specs.declared.tally.Tally.{Tally}
use Rattle.redo.specs.Inputs.{InputContent, input_over}
use Rattle.redo.specs.Redone.{applied_to}
use Rattle.redo.proofs.Gathered.{pages_back, total_is}
use Rattle.redo.proofs.Totals.{applied_once}
use Rattle.redo.proofs.rounds.redo_in_rounds.Goals as goal

pub total-applied-requires : goal.total-applied-requires
total-applied-requires g c =
    let log = c.args.log.now in
    let tables = c.args.tables.now in
    let images = c.args.store.pages in
    let input : InputContent = input_over log images tables in
    let stored : c.store.inside.pages.items ≡ images = ap (λ s. s.pages) c.store.view_is in
    let told : sum_by (λ (t : Tally). t.applied) c.deref.result.now ≡ sum (map (applied_to log tables) images) = total_is input c.in_ok-tallies.tallies.items c.in_ok-tallies.ensures.tallied c.deref.result.now c.deref.ensures.value in
    let few = applied_once tables.dirty tables.redo_lsn (history log) images (subst AreNumbered stored c.store.invariant) in
    omega (arith, few, told, size_of_log log, c.last-last.ensures, c.last-last.type_inv)

pub returns-clause-redone : goal.returns-clause-redone
returns-clause-redone g c =
    let input : InputContent = input_over c.args.log.now c.args.store.pages c.args.tables.now in
    let all = c.in_ok-tallies.ensures.tallied in
    let stored = c.store.inside.pages in
    record {
      pages = pages_back input c.in_ok-tallies.tallies.items all stored.len stored.items c.deref_mut.result.now c.finish_pages.new.pages c.deref-2.result.now (ap (λ s. s.pages) c.store.view_is) (sym stored.ok.0) c.deref_mut.ensures.value
          c.deref-2.ensures.value c.finish_pages.ensures.count c.finish_pages.ensures.each;
      applied = c.total-applied.ensures ∙ total_is input c.in_ok-tallies.tallies.items all c.deref.result.now c.deref.ensures.value;
      exist = c.in_ok-tallies.ensures.exist;
    }
