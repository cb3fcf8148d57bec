use Rattle.std.proofs.Common.{◌≡◌, refl, Some, ◌<◌, ◌++◌, ◌∷◌, [], List, ap, subst, sym, get_or, length, ◌∙◌, arith, length-append}
use Rattle.redo.specs.declared.tally.Tally.{Tally}
use Rattle.redo.specs.Passing.{IsBegunIn, AreScanned}
use Rattle.redo.specs.Placed.{untouched}
use Rattle.redo.proofs.OnePass.{each_more}
use Rattle.redo.proofs.Passing.{kept_on, scanned_more}
use Rattle.redo.proofs.tally_table.begin_each_listed.Goals as goal

pub loop-number-preserved : goal.loop-number-preserved
loop-number-preserved g c =
    let number = c.loop-number.number in
    let old = c.loop-number.tallies in
    let tally = untouched number c.lsn_of.result (Some c.args.first) in
    let before = c.loop-number.invariant in
    let below : number < g.P.Pages.count c.args.pages.now = omega (arith, c.loop-number-test.true, c.in_ok-count.ensures.count) in
    let items : c.push.new.self ≡ old ++ tally ∷ [] = c.in_ok-push.ensures.added in
    record {
      count = ap (λ (ts : List Tally). length ts) items ∙ omega (arith, length-append old (tally ∷ []), before.count);
      scanned = λ redo_lsn. subst (AreScanned redo_lsn 0 0) (sym items) (scanned_more redo_lsn old tally (sym before.count) refl refl (before.scanned redo_lsn));
      begun = λ stored shown tables shows numbered each k t lt.
          subst (λ (ts : List Tally). IsBegunIn shown tables k (get_or ts k t)) (sym items)
          (each_more (IsBegunIn shown tables) number old tally before.count (before.begun stored shown tables shows numbered each) (c.lsn_of.ensures stored shown tables (Some c.args.first) shows numbered (each.pages number below)) k t lt);
    }

pub returns-clause-begun : goal.returns-clause-begun
returns-clause-begun g c = λ stored shown tables shows numbered listed.
    let before = c.loop-number.invariant in
    let count : c.loop-number.number ≡ length shown =
    omega (arith, c.loop-number-test.false, c.loop-number.auto.number-end, c.in_ok-count.ensures.count, g.met.P.Pages.counted c.args.pages.now stored shown shows) in
    record { count = before.count ∙ count; each = λ k t lt. before.begun stored shown tables shows numbered listed k t (omega (arith, lt, count)) }

pub returns-clause-scanned : goal.returns-clause-scanned
returns-clause-scanned g c = λ redo_lsn base. kept_on redo_lsn base c.loop-number.tallies (c.loop-number.invariant.scanned redo_lsn)
