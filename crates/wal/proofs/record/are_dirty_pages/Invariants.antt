use Rattle.wal.specs.Spelling.{FitsDirty}
use Rattle.wal.proofs.Rising.{Looked}
use Rattle.wal.proofs.record.are_dirty_pages.Given as goal

abbrev pub invariant-loop-page : goal.invariant-loop-page
invariant-loop-page l = Looked (λ x. x.0) FitsDirty l.entries l.page-index l.low
