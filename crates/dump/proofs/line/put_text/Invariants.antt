use Rattle.std.proofs.Common.{◌≡◌, ◌+◌, ◌++◌, take}
use Rattle.dump.proofs.line.put_text.Given as goal

abbrev pub invariant-loop-place : goal.invariant-loop-place
invariant-loop-place l = take (l.at + l.place) l.buffer ≡ take l.at l.fn.buffer ++ take l.place l.text
