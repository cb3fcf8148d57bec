use Rattle.std.proofs.Common.{◌≡◌, ◌+◌, [], All, vec_len}
use Rattle.redo.specs.Parts.{IsReady}
use Rattle.redo.proofs.crew.deal.Given as goal

abbrev pub invariant-loop-home : goal.invariant-loop-home
invariant-loop-home l =
    (l.rest.board ≡ l.board)
    × (l.rest.places + l.home ≡ l.workers)
    × (l.rest.drawn ≡ [])
    × (vec_len l.crew ≡ l.home)
    × All (IsReady l.board) l.crew.items
