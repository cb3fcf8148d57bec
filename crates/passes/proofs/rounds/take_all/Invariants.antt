use Rattle.std.proofs.Common.{◌≡◌, ◌≤◌, All, List, length}
use Rattle.page.specs.declared.page.Page.{Page}
use Rattle.passes.specs.Calls.{HasReadOn}
use Rattle.passes.specs.ReadOn.{IsReadyAfter, JoinsMarks, KeepsMarks, ReadsOn}
use Rattle.passes.specs.declared.fresh.ForwardScan.{ForwardScan}
use Rattle.passes.specs.Stretches.{AreFit, ForEachRead, IsFoundOf, IsStretchOf, SpansMarks, FindsBetween, KeepsScan, ScansFor}
use Rattle.passes.proofs.rounds.take_all.Given as goal

abbrev pub invariant-loop-stretch : goal.invariant-loop-stretch
invariant-loop-stretch g l =
    record {
      room : length l.room ≡ length l.fn.room;
      fit : AreFit (length l.fn.room) (length l.fn.scan.pass.tallies.tallies) l.stretch-iterator.rest.items;
      found : ForEachRead (IsFoundOf (g.S.Reread.text l.fn.source)) l.stretch-iterator.rest.items;
      span : All (SpansMarks (g.S.Reread.text l.fn.source)) l.stretch-iterator.rest.items;
      source : HasReadOn g.S.Reread.text g.S.Source.failures g.S.Reread.read_to l.fn.source l.source;
      ready : IsReadyAfter (λ (x : ForwardScan) lsn. x.tallies.upto ≤ lsn) l.scan;
      keeps : KeepsScan l.fn.scan.pass l.scan.pass;
      marks : KeepsMarks (length l.fn.room) l.fn.scan.marks l.scan.marks;
      analysed : ReadsOn FindsBetween (g.S.Reread.text l.fn.source) l.fn.scan l.scan;
      passed : (images : List Page) → ForEachRead (IsStretchOf (g.S.Reread.text l.fn.source) images) l.fn.stretches.items
          → ReadsOn (ScansFor images) (g.S.Reread.text l.fn.source) l.fn.scan l.scan × ForEachRead (IsStretchOf (g.S.Reread.text l.fn.source) images) l.stretch-iterator.rest.items;
      reach : JoinsMarks g.S.Reread.text g.S.Reread.read_to l.fn.source l.source l.fn.scan l.scan;
    }
