use Rattle.page.proofs.Writing.{Directed}
use Rattle.page.proofs.image.put_directory.Given as goal

abbrev pub invariant-loop-i : goal.invariant-loop-i
invariant-loop-i l = Directed l.slots l.i l.place l.entries
