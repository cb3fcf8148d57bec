use Rattle.std.proofs.Common.{◌≡◌, ℕ, ◌<◌, ◌≤◌, length, get_or}
use Rattle.page.specs.declared.page.Page.{Page}
use Rattle.log_laws.specs.Records.{history}
use Rattle.redo.specs.Changes.{finished_page}
use Rattle.redo.specs.declared.tally.Tally.{Tally}
use Rattle.redo.proofs.finish.finish_alone.Given as goal

abbrev pub invariant-loop-number : goal.invariant-loop-number
invariant-loop-number l =
    (length l.pages ≡ length l.fn.pages)
    × ((k : ℕ) (t : Tally) (image : Page) → k < l.number → get_or l.pages k image ≡ finished_page (history l.log) (get_or l.tallies k t) (get_or l.fn.pages k image))
    × ((k : ℕ) (image : Page) → l.number ≤ k → get_or l.pages k image ≡ get_or l.fn.pages k image)
