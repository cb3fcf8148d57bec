-- Bytes that are written in two pieces.
use Rattle.std.proofs.Common.{ℕ, List, ◌++◌, Option, Some, None, sym, subst, arith, length-append}
use Rattle.std.proofs.lemmas.List.{take-append-le}
use Rattle.std.specs.Io.KnownBytes.{Appends, Keeps}
use Rattle.device.specs.Transfer.{TookBeginning, Flushes}

-- a prefix of the first piece is a prefix of both
pub begins_longer : (before after : Option (List ℕ)) (front back : List ℕ) → TookBeginning before after front → TookBeginning before after (front ++ back)
begins_longer before after front back (count, within, taken) =
    (count, omega (arith, within, length-append front back), subst (Appends before after) (sym (take-append-le count front back within)) taken)

-- a flush is a flush of all since the last one
pub flushes_since : (a b after taken : Option (List ℕ)) → Keeps a b → Flushes b after taken → Flushes a after taken
flushes_since None b after taken kept flushed = tt
flushes_since (Some x) None after taken kept flushed = absurd kept
flushes_since (Some x) (Some y) after taken kept flushed = flushed
