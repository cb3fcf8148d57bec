use Rattle.std.proofs.Common.{◌<◌, refl, ap, ◌∙◌, arith}
use Rattle.std.proofs.lemmas.Result.{err_from_is_err_and}
use Rattle.journal.specs.JournalState.{JournalState}
use Rattle.journal.proofs.Rolled.{begins_rolled, undo_refused, look_refused, rolled_more, rolled_ends, all_rolled, rest_joined}
use Rattle.journal.proofs.owned.Journal.roll_back_to.Goals as goal

pub loop-init : goal.loop-init
loop-init c = record {
  rolls = λ base run k. begins_rolled base run c.args.tx c.args.savepoint c.in_ok-newest.newest c.args.self.now k (c.in_ok-newest.ensures.free base run k) (c.in_ok-newest.ensures.newest base run k);
  rest = record { written = refl; taken = refl; next = refl };
  others = λ base run k t other. refl;
}

pub returns-then-newest-savepoint-clause-ok : goal.returns-then-newest-savepoint-clause-ok
returns-then-newest-savepoint-clause-ok c = λ base run k. rolled_ends base run c.args.tx c.args.savepoint c.loop.counter c.loop.newest c.loop.self (c.loop.invariant.rolls base run k) c.if-newest-savepoint.true

pub returns-in_err-undo_last-clause-kept : goal.returns-in_err-undo_last-clause-kept
returns-in_err-undo_last-clause-kept c =
    let exit = err_from_is_err_and c.from_residual-in_err-undo_last.result c.from_residual-in_err-undo_last.ensures.1 in
    rw exit.1 (λ base run k.
    let h = c.loop.invariant.rolls base run k in
    absurd (undo_refused base run c.args.tx c.args.savepoint c.loop.counter c.loop.newest c.loop.self c.loop.self h (omega (arith, c.if-newest-savepoint.false)) c.in_err-undo_last.field-0.0 (c.in_err-undo_last.ensures.refused base h.then h.kept)))

pub returns-in_err-undo_last-clause-refused : goal.returns-in_err-undo_last-clause-refused
returns-in_err-undo_last-clause-refused c =
    let exit = err_from_is_err_and c.from_residual-in_err-undo_last.result c.from_residual-in_err-undo_last.ensures.1 in
    rw (exit.1, exit.2) (λ base run k.
    let h = c.loop.invariant.rolls base run k in
    absurd (undo_refused base run c.args.tx c.args.savepoint c.loop.counter c.loop.newest c.loop.self c.loop.self h (omega (arith, c.if-newest-savepoint.false)) c.in_err-undo_last.field-0.0 (c.in_err-undo_last.ensures.refused base h.then h.kept)))

pub returns-in_err-newest-2-clause-kept : goal.returns-in_err-newest-2-clause-kept
returns-in_err-newest-2-clause-kept c =
    let exit = err_from_is_err_and c.from_residual-in_err-newest-2.result c.from_residual-in_err-newest-2.ensures.1 in
    rw exit.1 (λ base run k.
    let h = c.loop.invariant.rolls base run k in
    let above : c.args.savepoint < c.loop.newest = omega (arith, c.if-newest-savepoint.false) in
    let u = c.in_ok-undo_last.ensures.ok base h.then h.kept in
    absurd (look_refused base run c.args.tx c.args.savepoint c.loop.counter c.loop.newest c.loop.self c.undo_last.new.self h above u.0 u.1 u.2 c.in_err-newest-2.field-0.0 (c.in_err-newest-2.ensures.refused base _ u.2)))

pub returns-in_err-newest-2-clause-refused : goal.returns-in_err-newest-2-clause-refused
returns-in_err-newest-2-clause-refused c =
    let exit = err_from_is_err_and c.from_residual-in_err-newest-2.result c.from_residual-in_err-newest-2.ensures.1 in
    rw (exit.1, exit.2) (λ base run k.
    let h = c.loop.invariant.rolls base run k in
    let above : c.args.savepoint < c.loop.newest = omega (arith, c.if-newest-savepoint.false) in
    let u = c.in_ok-undo_last.ensures.ok base h.then h.kept in
    absurd (look_refused base run c.args.tx c.args.savepoint c.loop.counter c.loop.newest c.loop.self c.undo_last.new.self h above u.0 u.1 u.2 c.in_err-newest-2.field-0.0 (c.in_err-newest-2.ensures.refused base _ u.2)))

pub loop-preserved : goal.loop-preserved
loop-preserved c = record {
  rolls = λ base run k.
      let h = c.loop.invariant.rolls base run k in
      let above : c.args.savepoint < c.loop.newest = omega (arith, c.if-newest-savepoint.false) in
      let u = c.in_ok-undo_last.ensures.ok base h.then h.kept in
      rolled_more base run c.args.tx c.args.savepoint c.loop.counter c.loop.newest c.loop.self c.undo_last.new.self h above u.0 u.1 u.2 c.in_ok-newest-2.newest (c.in_ok-newest-2.ensures.newest base _ u.2);
  rest = rest_joined c.args.self.now c.loop.self c.undo_last.new.self c.loop.invariant.rest c.undo_last.ensures.rest;
  others = λ base run k t other.
      let h = c.loop.invariant.rolls base run k in
      c.in_ok-undo_last.ensures.others base h.then h.kept t other ∙ c.loop.invariant.others base run k t other;
}

pub returns-then-newest-savepoint-clause-rest : goal.returns-then-newest-savepoint-clause-rest
returns-then-newest-savepoint-clause-rest c = c.loop.invariant.rest

pub returns-then-newest-savepoint-clause-others : goal.returns-then-newest-savepoint-clause-others
returns-then-newest-savepoint-clause-others c = c.loop.invariant.others

pub returns-in_err-undo_last-clause-rest : goal.returns-in_err-undo_last-clause-rest
returns-in_err-undo_last-clause-rest c = rest_joined c.args.self.now c.loop.self c.undo_last.new.self c.loop.invariant.rest c.undo_last.ensures.rest

pub returns-in_err-newest-2-clause-rest : goal.returns-in_err-newest-2-clause-rest
returns-in_err-newest-2-clause-rest c = rest_joined c.args.self.now c.loop.self c.undo_last.new.self c.loop.invariant.rest c.undo_last.ensures.rest

pub returns-clause-rest : goal.returns-clause-rest
returns-clause-rest c = c.loop.invariant.rest

pub returns-clause-others : goal.returns-clause-others
returns-clause-others c = c.loop.invariant.others

pub returns-clause-ok : goal.returns-clause-ok
returns-clause-ok c = λ base run k.
    let h = c.loop.invariant.rolls base run k in
    let few = c.in_ok-newest.ensures.few base run k in
    let most = ap (λ (v : JournalState). v.head.pending) c.self.view_is in
    rolled_ends base run c.args.tx c.args.savepoint c.loop.counter c.loop.newest c.loop.self h
    (all_rolled base run c.args.tx c.args.savepoint c.loop.counter c.loop.newest c.loop.self h (omega (arith, few, most, c.loop-test.false)))
