use Rattle.std.proofs.Common.{◌≡◌, ◌≤◌, length}
use Rattle.passes.specs.Calls.{HasReadOn}
use Rattle.passes.specs.ReadOn.{IsReadyAfter, JoinsMarks, KeepsMarks, ReadsOn}
use Rattle.passes.specs.declared.fresh.ForwardScan.{ForwardScan}
use Rattle.passes.specs.Stretches.{FindsBetween, KeepsScan, ReadsShown}
use Rattle.passes.proofs.rounds.read_by_workers.Given as goal

abbrev pub invariant-loop : goal.invariant-loop
invariant-loop g l =
    record {
      room : length l.room ≡ length l.fn.room;
      source : HasReadOn g.S.Reread.text g.S.Source.failures g.S.Reread.read_to l.fn.source l.source;
      ready : IsReadyAfter (λ (x : ForwardScan) lsn. x.tallies.upto ≤ lsn) l.scan;
      keeps : KeepsScan l.fn.scan.pass l.scan.pass;
      marks : KeepsMarks (length l.fn.room) l.fn.scan.marks l.scan.marks;
      analysed : ReadsOn FindsBetween (g.S.Reread.text l.fn.source) l.fn.scan l.scan;
      passed : ReadsShown g.P.Pages l.fn.pages (g.S.Reread.text l.fn.source) l.fn.scan l.scan;
      reach : JoinsMarks g.S.Reread.text g.S.Reread.read_to l.fn.source l.source l.fn.scan l.scan;
    }
