use Rattle.std.proofs.Common.{◌≡◌, List, Some, None, length, get_or, set, refl, sym, ◌∙◌, ap, arith}
use Rattle.std.proofs.lemmas.List.{length-set}
use Rattle.log_laws.specs.Meaning.{cell_of}
use Rattle.redo.specs.Changes.{counted, counted_by}
use Rattle.redo.specs.Placed.{untouched}
use Rattle.redo.specs.declared.tally.Tally.{Tally}
use Rattle.redo.proofs.Replay.{page_of_cell}
use Rattle.redo.proofs.OnePass.{placed}
use Rattle.redo.proofs.Counted.{counted_each}
use Rattle.redo.proofs.Passing.{numbered_on, few_on, lasts_on, later_on}
use Rattle.redo.proofs.tally_table.count_seen.Goals as goal

pub returns-then-number-len-clause-fault : goal.returns-then-number-len-clause-fault
returns-then-number-len-clause-fault c = λ r seen. (
  refl,
  λ below. omega (arith, below c.in-Some.page (page_of_cell r c.in-Some.page c.in-Some.slot (sym (c.in-Some.ensures r seen))), c.if-number-len.true, c.len.ensures),
)

pub returns-clause-count : goal.returns-clause-count
returns-clause-count c =
    let any = untouched 0 0 None in
    ap (λ (ts : List Tally). length ts) (c.in_ok-count.ensures.counted any) ∙ length-set c.args.tallies.now c.in-Some.page (counted c.args.redo_lsn c.args.lsn c.in-Some.slot (get_or c.args.tallies.now c.in-Some.page any))

pub returns-clause-numbered : goal.returns-clause-numbered
returns-clause-numbered c = numbered_on c.args.redo_lsn c.args.lsn c.in-Some.slot c.in-Some.page c.args.tallies.now c.count.new.self (omega (arith, c.if-number-len.false, c.len.ensures)) c.in_ok-count.ensures.counted c.requires.numbered

pub returns-clause-few : goal.returns-clause-few
returns-clause-few c = λ most. few_on c.args.redo_lsn c.args.lsn c.in-Some.slot c.in-Some.page c.args.tallies.now c.count.new.self (omega (arith, c.if-number-len.false, c.len.ensures)) c.in_ok-count.ensures.counted most

pub returns-clause-lasts : goal.returns-clause-lasts
returns-clause-lasts c = lasts_on c.args.redo_lsn c.args.lsn c.in-Some.slot c.in-Some.page c.args.tallies.now c.count.new.self (omega (arith, c.if-number-len.false, c.len.ensures)) c.in_ok-count.ensures.counted

pub returns-clause-later : goal.returns-clause-later
returns-clause-later c = later_on c.args.redo_lsn c.args.lsn c.in-Some.slot c.in-Some.page c.args.tallies.now c.count.new.self (omega (arith, c.if-number-len.false, c.len.ensures)) c.in_ok-count.ensures.counted c.requires.later

pub returns-clause-each : goal.returns-clause-each
returns-clause-each c = λ input r k t same seen there lt.
    let cell : cell_of r ≡ Some (c.in-Some.page, c.in-Some.slot) = sym (c.in-Some.ensures r seen) in
    placed input c.args.lsn c.in-Some.page c.in-Some.slot r c.args.tallies.now c.count.new.self there cell (omega (arith, c.if-number-len.false, c.len.ensures)) c.requires.numbered
    (λ d. c.in_ok-count.ensures.counted d ∙ ap (λ n. set c.args.tallies.now c.in-Some.page (counted n c.args.lsn c.in-Some.slot (get_or c.args.tallies.now c.in-Some.page d))) (sym same)) k t lt

pub returns-clause-counted : goal.returns-clause-counted
returns-clause-counted c = λ r k t seen lt.
    let cell : cell_of r ≡ Some (c.in-Some.page, c.in-Some.slot) = sym (c.in-Some.ensures r seen) in
    counted_each c.args.redo_lsn c.args.lsn c.in-Some.page c.in-Some.slot c.args.tallies.now c.count.new.self (omega (arith, c.if-number-len.false, c.len.ensures)) c.requires.numbered c.in_ok-count.ensures.counted k t lt
    ∙ ap (λ o. counted_by c.args.redo_lsn c.args.lsn o (get_or c.args.tallies.now k t)) (sym cell)
