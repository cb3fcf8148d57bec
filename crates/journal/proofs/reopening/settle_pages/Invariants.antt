use Rattle.std.proofs.Common.{◌≡◌, length, take, drop, map}
use Rattle.std.specs.Prelude.{All}
use Rattle.journal.specs.PageStates.{clean, IsCurrentSoFar}
use Rattle.journal.specs.Arrays.{page_state_of}
use Rattle.journal.proofs.reopening.settle_pages.Given as goal

abbrev pub invariant-loop-place : goal.invariant-loop-place
invariant-loop-place l = record {
  size : length l.pages ≡ length l.initial.pages;
  current : All (IsCurrentSoFar l.base) (map page_state_of (take l.place l.initial.pages));
  done : map page_state_of (take l.place l.pages) ≡ map clean (map page_state_of (take l.place l.initial.pages));
  rest : drop l.place l.pages ≡ drop l.place l.initial.pages;
}
