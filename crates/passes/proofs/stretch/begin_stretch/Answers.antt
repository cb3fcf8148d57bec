use Rattle.std.proofs.Common.{◌+◌, subst, arith}
use Rattle.log_laws.specs.Records.{history, last_lsn}
use Rattle.redo.specs.Passing.{ListEach}
use Rattle.passes.proofs.Stretches.{since_none, tallied_begun}
use Rattle.passes.proofs.stretch.begin_stretch.Goals as goal

pub returns-clause-begun : goal.returns-clause-begun
returns-clause-begun g c =
    let scan = c.in_ok-begin_listed.ensures in
    record {
      found = λ before at. since_none before c.begin.result (c.begin.ensures.begun (last_lsn (history before)));
      tallied = λ stored shown numbered shows whole before within at.
          let count = g.met.P.Pages.counted c.args.pages.now stored shown shows in
          tallied_begun whole before shown c.args.lsn c.in_ok-begin_listed.field-0 numbered at scan.redo_lsn scan.upto
          (λ tables each. scan.ahead stored shown shows numbered (omega arith) whole tables within (subst (λ n. ListEach n (c.args.lsn + 1) tables) count each));
      upto = scan.upto;
      base = scan.base;
      count = scan.count;
      no_transaction_0 = c.begin.ensures.no_transaction_0;
    }
