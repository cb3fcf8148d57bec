use Rattle.std.proofs.Common.{arith}
use Rattle.page.proofs.laws.numbers_of_the_profile.Goals as goal

pub returns : goal.returns
returns c = record {
  cells_fit = omega arith;
  offsets_fit = omega arith;
  slots_fit = omega arith;
  pages_fit = omega arith;
  counts_fit = omega arith;
  store_fits = omega arith;
}
