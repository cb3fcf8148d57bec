use Rattle.std.proofs.Common.{arith}
use Rattle.wal.proofs.laws.numbers_of_a_log.Goals as goal

pub returns : goal.returns
returns c = record {
  lengths_fit = omega arith;
  frames_fit = omega arith;
}
