-- What a seat shows of its token, and how its fields agree with it (own).
use Rattle.std.specs.Prelude.{◌≡◌, ◌↔◌, ℕ, ◌<◌, ◌≤◌, true, false, [], slice_index_or}
use Rattle.board.specs.declared.seat.Seat.TheInside.{Inside}
use Rattle.board.specs.Drawn.{SeatState}
use Rattle.board.specs.Claims.{times}
use Rattle.board.specs.declared.sizes.TheConstants.{SEATS}

-- what contracts see of a seat: the view of its token
abbrev pub state_of : Inside → SeatState
state_of s =
    let v = s.token.me.0 in
    record {
      board = record { table = s.token.table_id; parts = v.plan.parts; ranges = v.plan.ranges; seats = v.plan.seats };
      places = v.places;
      drawn = v.drawn;
      ended = v.ended;
      stopped = v.stopped;
      told = v.told;
    }

-- the fields agree with the token, whose numbers are distinct and below `parts`
pub record IsSeat (s : Inside) : Type 0 where
  pub no_slot : s.token.me.1 ≡ []
  pub some_place : 0 < s.places
  pub few_places : s.places ≤ SEATS
  pub same_places : s.places ≡ s.token.me.0.places
  pub distinct : (x : ℕ) → times x s.token.me.0.drawn ≤ 1
  pub below : (x : ℕ) → 0 < times x s.token.me.0.drawn → x < s.token.me.0.plan.parts
  pub ended : (r : ℕ) → r < SEATS → (slice_index_or s.ended r false ≡ true) ↔ (0 < times r s.token.me.0.ended)
