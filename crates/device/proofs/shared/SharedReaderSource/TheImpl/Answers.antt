use Rattle.device.proofs.Pieces.{reads_unknown}
use Rattle.device.proofs.shared.SharedReaderSource.TheImpl.Goals as goal

pub read-tells : goal.read-tells
read-tells g c = record { bound = c.ensures.bound; bytes = reads_unknown c.result c.new.buffer.now; cause = c.ensures.cause }
