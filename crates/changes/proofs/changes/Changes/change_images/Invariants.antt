use Rattle.changes.proofs.ChangedImages.{ChangedSoFar, GoodSoFar}
use Rattle.changes.proofs.changes.Changes.change_images.Given as goal

abbrev pub invariant-loop-number : goal.invariant-loop-number
invariant-loop-number l = record {
  changed : ChangedSoFar l.self l.first l.fn.images l.number l.images;
  good : GoodSoFar l.self l.first l.fn.images l.number;
}
