use Rattle.std.proofs.Common.{◌∷◌, sym, ◌∙◌}
use Rattle.std.proofs.lemmas.List.Elements.{All-head, All-rest, All-same}
use Rattle.wal.specs.Stretches.{IsStretch}
use Rattle.wal.proofs.Stretches.{read_to_end}
use Rattle.wal.proofs.joining.join_stretches.Goals as goal

pub loop-stretch-init : goal.loop-stretch-init
loop-stretch-init c = (
  All-same (IsStretch c.args.bytes.now) c.into_iter-stretch-iterator.result.rest.items c.args.stretches.items c.into_iter-stretch-iterator.ensures.into_iter_gives.0 c.requires.each,
  c.none-known.ensures.frames c.args.bytes.now c.requires.begin,
  c.none-known.ensures.begins.0,
  c.none-known.ensures.begins.1,
)

pub read_on-requires : goal.read_on-requires
read_on-requires c = record { known = c.loop-stretch.invariant.1 }

pub take_stretch-requires-clause-next : goal.take_stretch-requires-clause-next
take_stretch-requires-clause-next c =
    All-head (IsStretch c.args.bytes.now) c.in-Some.stretch c.next.new.self.rest.items
    (All-same (IsStretch c.args.bytes.now) (c.in-Some.stretch ∷ c.next.new.self.rest.items) c.loop-stretch.stretch-iterator.rest.items (sym c.in-Some.ensures.steps.0) c.loop-stretch.invariant.0)

pub loop-stretch-preserved : goal.loop-stretch-preserved
loop-stretch-preserved c = (
  All-rest (IsStretch c.args.bytes.now) c.in-Some.stretch c.next.new.self.rest.items c.loop-stretch.stretch-iterator.rest.items c.in-Some.ensures.steps.0 c.loop-stretch.invariant.0,
  c.in_ok-known-2.ensures.frames,
  c.in_ok-known-2.ensures.begins.0 ∙ c.in_ok-known.ensures.begins.0 ∙ c.loop-stretch.invariant.2,
  c.in_ok-known-2.ensures.begins.1 ∙ c.in_ok-known.ensures.begins.1 ∙ c.loop-stretch.invariant.3,
)

pub read_on-requires-2 : goal.read_on-requires-2
read_on-requires-2 c = record { known = c.loop-stretch.invariant.1 }

pub returns-clause-end : goal.returns-clause-end
returns-clause-end c = read_to_end c.args.bytes.now c.read_on-2.result c.read_on-2.ensures.end
