use Rattle.std.proofs.Common.{◌∷◌, [], Ok, sym, ap, subst, ◌∙◌}
use Rattle.std.proofs.lemmas.List.Elements.{All-nil, All-head, All-rest, All-push, All-same}
use Rattle.wal.specs.Stretches.{IsStretch, IfStretch}
use Rattle.wal.proofs.stretch.all_of.Goals as goal

pub loop-result-init : goal.loop-result-init
loop-result-init c = (
  All-same (IfStretch c.args.bytes.now) c.into_iter-result-iterator.result.rest.items c.args.results.items c.into_iter-result-iterator.ensures.into_iter_gives.0 c.requires,
  All-same (IsStretch c.args.bytes.now) c.new-stretches.result.items [] c.new-stretches.ensures.items (All-nil (IsStretch c.args.bytes.now)),
)

pub loop-result-preserved-in-Continue-branch-3 : goal.loop-result-preserved-in-Continue-branch-3
loop-result-preserved-in-Continue-branch-3 c =
    let before = c.loop-result.invariant in
    let all = All-same (IfStretch c.args.bytes.now) (c.in-Some.result ∷ c.next.new.self.rest.items) c.loop-result.result-iterator.rest.items (sym c.in-Some.ensures.steps.0) before.0 in
    let one = subst (IfStretch c.args.bytes.now) (c.in_ok-stretch.was ∙ ap Ok c.in-Some-2.is) (All-head (IfStretch c.args.bytes.now) c.in-Some.result c.next.new.self.rest.items all) in (
      All-rest (IfStretch c.args.bytes.now) c.in-Some.result c.next.new.self.rest.items c.loop-result.result-iterator.rest.items c.in-Some.ensures.steps.0 before.0,
      rw c.in_ok-push.ensures.items (All-push (IsStretch c.args.bytes.now) c.loop-result.stretches.items c.in-Some-2.stretch before.1 one),
    )

pub loop-result-preserved : goal.loop-result-preserved
loop-result-preserved c = (
  All-rest (IfStretch c.args.bytes.now) c.in-Some.result c.next.new.self.rest.items c.loop-result.result-iterator.rest.items c.in-Some.ensures.steps.0 c.loop-result.invariant.0,
  c.loop-result.invariant.1,
)

pub returns-clause-each : goal.returns-clause-each
returns-clause-each c = c.loop-result.invariant.1
