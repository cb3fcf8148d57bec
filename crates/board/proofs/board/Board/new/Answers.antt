use Rattle.std.proofs.Common.{◌+◌, refl, arith}
use Rattle.std.proofs.Common.{take}
use Rattle.board.proofs.Places.{opens}
use Rattle.board.proofs.Seats.{first_seat, no_step}
use Rattle.board.specs.declared.sizes.TheConstants.{SEATS}
use Rattle.board.proofs.board.Board.new.Goals as goal

pub invariant_of-seat : goal.invariant_of-seat
invariant_of-seat c = first_seat c.in_ok-table.token c.args.seats (record { parts = c.args.parts; ranges = c.args.ranges; seats = c.args.seats }) c.no_ends.result c.in_ok-table.ensures.4 refl (omega (arith, c.requires.seats)) (omega (arith, c.requires.seats)) c.no_ends.ensures

pub of_words-requires : goal.of_words-requires
of_words-requires c = opens (record { parts = c.args.parts; ranges = c.args.ranges; seats = c.args.seats }) (take (c.args.ranges + 1) c.no_steps-words.result) (c.requires.parts, c.requires.ranges.0, c.requires.ranges.1, c.requires.seats.1)
    (no_step (SEATS + 1) (c.args.ranges + 1) c.no_steps-words.result (omega (arith, c.requires.ranges)) c.no_steps-words.ensures).0
    (no_step (SEATS + 1) (c.args.ranges + 1) c.no_steps-words.result (omega (arith, c.requires.ranges)) c.no_steps-words.ensures).1
