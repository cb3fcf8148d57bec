use Rattle.std.proofs.Common.{sym, ap, ◌∙◌, arith}
use Rattle.board.proofs.Stopping.{sees_stop}
use Rattle.board.proofs.board.Board.is_stopped.Goals as goal

pub load-requires : goal.load-requires
load-requires c =
    let board = ap (λ h. h.board) c.seat.view_is ∙ (c.requires.board ∙ sym c.self.view_is) in
    let ranges = ap (λ q. q.ranges) c.self.invariant.same_plan in (
      ap (λ b. b.table) board,
      (let b = c.self.invariant.words in omega arith),
      rw ranges (sees_stop c.self.inside.table.shared.key _ _ c.seat.inside.token.me (let a = c.seat.invariant.some_place in let b = c.seat.invariant.same_places in omega arith)),
    )
