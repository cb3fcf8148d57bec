use Rattle.std.proofs.Common.{subst, sym}
use Rattle.wal.specs.Reads.{Cause}
use Rattle.pieces.proofs.Pieces.{goes_on, cause_in, cause_within}
use Rattle.pieces.proofs.piece.piece_log.Goals as goal

pub returns-in-Ok-clause-goes_on : goal.returns-in-Ok-clause-goes_on
returns-in-Ok-clause-goes_on c = λ text before count mark piece_is.
    goes_on text before c.args.mark mark c.args.bytes.now count c.requires.low piece_is c.in-Ok.read.0 c.in-Ok.read.1 c.in-Ok.ensures.found

pub moved-requires : goal.moved-requires
moved-requires c = cause_within c.args.bytes.now c.in-Err.fault c.args.mark.offset c.requires.room c.in-Err.ensures.fault

pub returns-in-Err-clause-fault : goal.returns-in-Err-clause-fault
returns-in-Err-clause-fault c = λ text before count mark piece_is.
    subst (Cause text) (sym c.moved.ensures) (cause_in text before c.args.mark mark c.args.bytes.now count c.requires.low piece_is c.in-Err.fault c.in-Err.ensures.fault)
