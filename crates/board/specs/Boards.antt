-- What a board shows of its table (own).
use Rattle.std.specs.Prelude.{◌≡◌, ◌+◌, ◌<◌, ◌≤◌}
use Rattle.board.specs.declared.board.Board.TheInside.{Inside}
use Rattle.board.specs.Drawn.{BoardId}
use Rattle.board.specs.declared.sizes.TheConstants.{SEATS, PARTS}

-- what contracts see of a board
abbrev pub board_of : Inside → BoardId
board_of b =
    let p = b.table.shared.key in
    record { table = b.table.shared.table_id; parts = p.parts; ranges = p.ranges; seats = p.seats }

-- the sizes are those of the rule, and there is a word for each range and one more
pub record IsBoard (b : Inside) : Type 0 where
  pub same_plan : b.plan ≡ b.table.shared.key
  pub words : b.table.shared.table_id.words ≡ b.plan.ranges + 1
  pub no_slot : b.table.shared.table_id.slots ≡ 0
  pub sized : (b.plan.parts ≤ PARTS) × (0 < b.plan.ranges) × (b.plan.ranges ≤ SEATS) × (b.plan.seats ≤ SEATS)
