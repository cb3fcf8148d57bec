use Rattle.std.proofs.Common.{◌∷◌, All, length, sym, subst, arith}
use Rattle.std.proofs.lemmas.List.Elements.{All-head, All-rest, All-same}
use Rattle.std.proofs.lemmas.Result.{err_from_is_err_and}
use Rattle.passes.specs.declared.stretch.Stretch.{Stretch}
use Rattle.passes.specs.Stretches.{IfRead, IsFitIn, IsFoundOf, IsStretchOf, SpansMarks}
use Rattle.passes.proofs.Calls.{still, reads_on}
use Rattle.passes.proofs.ReadOn.{keeps_on}
use Rattle.passes.proofs.Stretches.{finds_stretch, joins_stretch, keeps_scan, reads_stretch}
use Rattle.passes.proofs.rounds.take_all.Goals as goal

pub take_stretch-requires-clause-fit : goal.take_stretch-requires-clause-fit
take_stretch-requires-clause-fit g c κs within =
    let inv = c.loop-stretch.invariant in
    let stretch = c.in-Some.stretch in
    let left = c.loop-stretch.stretch-iterator.rest.items in
    let steps = c.in-Some.ensures.steps.0 in
    let P = IfRead (IsFitIn (length c.args.room.now) (length c.args.scan.now.pass.tallies.tallies)) in
    let own = All-head P stretch c.next.new.self.rest.items (All-same P (stretch ∷ c.next.new.self.rest.items) left (sym steps) inv.fit) in
    subst (λ n. IfRead (IsFitIn n (length c.loop-stretch.scan.pass.tallies.tallies)) stretch) (sym inv.room) (subst (λ n. IfRead (IsFitIn (length c.args.room.now) n) stretch) (sym inv.keeps.count) own)

pub loop-stretch-preserved : goal.loop-stretch-preserved
loop-stretch-preserved g c =
    let inv = c.loop-stretch.invariant in
    let more = c.in_ok-take_stretch.ensures in
    let stretch = c.in-Some.stretch in
    let rest = c.next.new.self.rest.items in
    let left = c.loop-stretch.stretch-iterator.rest.items in
    let steps = c.in-Some.ensures.steps.0 in
    let held = g.S.Reread.text c.args.source.now in
    let now = g.S.Reread.text c.loop-stretch.source in
    let old = c.args.scan.now in
    let between = c.loop-stretch.scan in
    let new = c.take_stretch.new.scan in
    let head : (P : Stretch → Type 0) → All P left → P stretch = λ P all. All-head P stretch rest (All-same P (stretch ∷ rest) left (sym steps) all) in
    record {
      room = omega (arith, c.take_stretch.auto.room, inv.room);
      fit = All-rest (IfRead (IsFitIn (length c.args.room.now) (length old.pass.tallies.tallies))) stretch rest left steps inv.fit;
      found = All-rest (IfRead (IsFoundOf held)) stretch rest left steps inv.found;
      span = All-rest (SpansMarks held) stretch rest left steps inv.span;
      source = reads_on inv.source more.source;
      ready = more.ready;
      keeps = keeps_scan inv.keeps more.keeps;
      marks = keeps_on (omega (arith, inv.room)) inv.marks more.marks;
      analysed = finds_stretch held now old between new (λ text is. still inv.source is) stretch (head (IfRead (IsFoundOf held)) inv.found) inv.analysed more.analysed;
      passed = λ images all.
          let so_far = inv.passed images all in
          let holds = IfRead (IsStretchOf held images) in
          (reads_stretch held now old between new (λ text is. still inv.source is) images stretch (head holds so_far.1) so_far.0 more.passed, All-rest holds stretch rest left steps so_far.1);
      reach =
          joins_stretch held now (g.S.Reread.read_to c.args.source.now) (g.S.Reread.read_to c.loop-stretch.source) (g.S.Reread.read_to c.take_stretch.new.source) old.marks between.marks new.marks stretch inv.source.same
          (head (SpansMarks held) inv.span) inv.reach more.reach;
    }

pub returns-in_err-take_stretch-clause-fault : goal.returns-in_err-take_stretch-clause-fault
returns-in_err-take_stretch-clause-fault g c =
    let exit = err_from_is_err_and c.from_residual.result c.from_residual.ensures.1 in
    let inv = c.loop-stretch.invariant in
    rw (exit.1, exit.2) (λ text log is at. let now = inv.analysed text log is at in c.in_err-take_stretch.ensures.fault text now.0 (still inv.source is) now.1)

pub returns-clause-passed : goal.returns-clause-passed
returns-clause-passed g c = λ images all. (c.loop-stretch.invariant.passed images all).0
