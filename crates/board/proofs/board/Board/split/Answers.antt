use Rattle.std.proofs.Common.{sym, ap, ◌∙◌, arith}
use Rattle.board.proofs.Places.{splits}
use Rattle.board.proofs.board.Board.split.Goals as goal

pub split_seat-other-requires : goal.split_seat-other-requires
split_seat-other-requires c =
    let board = ap (λ h. h.board) c.seat.view_is ∙ (c.requires.board ∙ sym c.self.view_is) in (
      ap (λ b. b.table) board,
      (let b = c.self.invariant.words in let d = c.self.invariant.sized in omega arith),
      splits c.self.inside.table.shared.key _ c.seat.inside.token.me.0 (let a = ap (λ h. h.places) c.seat.view_is in let b = c.requires.places in omega arith),
    )
