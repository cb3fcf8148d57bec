use Rattle.std.proofs.Common.{◌+◌, ◌<◌, sym, subst, arith}
use Rattle.std.proofs.Math.Nat.{mod-lt}
use Rattle.analysis.proofs.Keeping.{IsBackTo, back_none, back_put}
use Rattle.analysis.proofs.kept.put_back.Goals.{in-Some+in_ok-put, in_default}
use Rattle.analysis.specs.declared.kept.TheConstants.{PLACES}
use Rattle.analysis.proofs.kept.put_back.Goals as goal

pub loop-place-preserved : goal.loop-place-preserved
loop-place-preserved c =
    let first = c.args.transactions.now.entries in
    let now = c.loop-place.transactions.entries in
    elim c.match-kept-place.branch [
      | in-Some+in_ok-put w ↦
          subst (λ m. IsBackTo (c.loop-place.place + 1) c.args.kept.now first m.entries) (sym w.transactions-is)
          (back_put c.loop-place.place c.args.kept.now first now w.put.new.transactions.entries (w.in-Some.tx, w.in-Some.entry) c.requires w.in-Some.is w.in_ok-put.ensures.ok c.loop-place.invariant)
      | in_default w ↦
          subst (λ m. IsBackTo (c.loop-place.place + 1) c.args.kept.now first m.entries) (sym w.transactions-is)
          (back_none c.loop-place.place c.args.kept.now first now w.in_default.is c.loop-place.invariant)
    ]

pub returns-clause-ok : goal.returns-clause-ok
returns-clause-ok c = λ t.
    let some : 0 < PLACES = omega arith in
    c.loop-place.invariant.back t (let lt = mod-lt t some in omega (arith, lt, c.loop-place-test.false))
