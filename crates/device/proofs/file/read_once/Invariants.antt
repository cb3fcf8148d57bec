-- No byte was read by the tries so far.
use Rattle.std.specs.Io.KnownBytes.{Keeps}
use Rattle.device.proofs.file.read_once.Given as goal

abbrev pub invariant-loop : goal.invariant-loop
invariant-loop g l = Keeps (g.F.Read.remaining l.initial.file) (g.F.Read.remaining l.file)
