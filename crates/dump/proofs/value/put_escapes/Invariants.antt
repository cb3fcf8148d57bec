use Rattle.std.proofs.Common.{◌≡◌, ◌+◌, ◌*◌, ◌≤◌, ◌++◌, take}
use Rattle.std.specs.List.{flat_map}
use Rattle.dump.specs.Values.{escaped}
use Rattle.dump.proofs.value.put_escapes.Given as goal

abbrev pub invariant-loop-byte : goal.invariant-loop-byte
invariant-loop-byte l = record {
  room : l.end ≤ l.at + 6 * l.byte-index;
  text : take l.end l.buffer ≡ take l.at l.fn.buffer ++ flat_map (escaped l.style) (take l.byte-index l.bytes);
}
