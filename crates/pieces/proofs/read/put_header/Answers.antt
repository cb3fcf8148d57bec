use Rattle.std.proofs.Common.{length, ap, arith}
use Rattle.std.proofs.lemmas.List.{length-take}
use Rattle.wal.specs.declared.sizes.TheConstants.{BASED_HEADER_BYTES}
use Rattle.pieces.proofs.read.put_header.Goals as goal

pub copy_from_slice-requires : goal.copy_from_slice-requires
copy_from_slice-requires c = omega (arith, length-take BASED_HEADER_BYTES c.args.room.now, c.requires, ap length c.based_header.ensures)
