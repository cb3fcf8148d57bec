use Rattle.std.proofs.Common.{◌-◌, ◌≡◌, ◌≤◌, length}
use Rattle.changes.specs.Numbered.{StayNumbered}
use Rattle.passes.specs.Redoing.{FetchesAll}
use Rattle.passes.specs.Calls.{HasReadOn}
use Rattle.passes.proofs.repeat.fetch_in_pieces.Given as goal

abbrev pub invariant-loop-taken : goal.invariant-loop-taken
invariant-loop-taken g l =
    record {
      within : l.taken ≤ length l.wanted;
      room : length l.room ≡ length l.fn.room;
      source : HasReadOn g.S.Reread.text g.S.Source.failures g.S.Reread.read_to l.fn.source l.source;
      count : g.P.Pages.count l.pages ≡ g.P.Pages.count l.fn.pages;
      numbered : StayNumbered g.P.Pages l.fn.pages l.pages;
      fetched : FetchesAll g.P.Pages (g.S.Reread.text l.fn.source) l.marks l.wanted l.fn.pages l.pages l.taken;
    }

abbrev pub decreases-loop-taken : goal.decreases-loop-taken
decreases-loop-taken g l = length l.wanted - l.taken
