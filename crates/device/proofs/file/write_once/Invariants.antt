-- No byte was written by the tries so far.
use Rattle.std.specs.Io.KnownBytes.{Keeps}
use Rattle.device.proofs.file.write_once.Given as goal

abbrev pub invariant-loop : goal.invariant-loop
invariant-loop g l = Keeps (g.F.Write.contents l.initial.file) (g.F.Write.contents l.file)
