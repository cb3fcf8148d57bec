use Rattle.std.proofs.Common.{◌<◌, ◌≤◌, ◌∙◌, [], length, get_or, sym, below_more, arith}
use Rattle.std.proofs.lemmas.Option.{slice_get-get_or}
use Rattle.page.specs.declared.page.Page.{Page}
use Rattle.restart.proofs.passes.check_lsns.Goals as goal

blank : Page
blank = record { number = 0; lsn = 0; slots = [] }

pub loop-number-preserved : goal.loop-number-preserved
loop-number-preserved g c = λ stored shown shows k d lt.
    below_more (λ k. (get_or shown k d).lsn ≤ c.args.last) c.loop-number.number (λ k lt. c.loop-number.invariant stored shown shows k d lt)
    (omega (arith, c.if-lsn-last.false, c.lsn.ensures.lsn stored shown d shows)) k lt

pub returns-then-lsn-last-clause-fault : goal.returns-then-lsn-last-clause-fault
returns-then-lsn-last-clause-fault g c = λ stored shown shows numbered log at.
    let place = c.loop-number.number in
    let within : place < length shown = omega (arith, c.loop-number-test.true, c.len-number-end.ensures, g.met.P.Pages.counted c.args.pages.now stored shown shows) in
    record {
      place = place;
      page = get_or shown place blank;
      there = slice_get-get_or shown place blank within;
      numbered = c.in-Ok.ensures.1 ∙ sym (numbered.at_place place blank within);
      ahead = omega (arith, at, c.if-lsn-last.true, c.lsn.ensures.lsn stored shown blank shows);
      before = λ k d lt. omega (arith, at, c.loop-number.invariant stored shown shows k d lt);
    }

pub returns-clause-ok : goal.returns-clause-ok
returns-clause-ok g c = λ stored shown shows k d lt.
    c.loop-number.invariant stored shown shows k d (omega (arith, lt, c.loop-number-test.false, c.len-number-end.ensures, g.met.P.Pages.counted c.args.pages.now stored shown shows))
