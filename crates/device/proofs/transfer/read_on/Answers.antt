use Rattle.std.proofs.Common.{rules, ◌≡◌, take, ap, ◌∙◌}
use Rattle.std.proofs.lemmas.List.{with_items_is, places}
use Rattle.device.proofs.Pieces.{behind_by}
use Rattle.device.proofs.transfer.read_on.Goals as goal

pub returns-then-count-eq0-clause-read : goal.returns-then-count-eq0-clause-read
returns-then-count-eq0-clause-read g c =
    let same = with_items_is c.make_room.new.bytes c.read_behind.new.bytes (search (rules, places)) in
    let new = c.read_behind.new.bytes in
    let front : take c.loop-source.filled new ≡ take c.loop-source.filled c.make_room.new.bytes.items = c.read_behind.ensures.front ∙ ap (take c.loop-source.filled) c.deref_mut.ensures.value in
    let read = behind_by _ _ _ _ c.loop-source.bytes.items c.make_room.new.bytes.items new c.loop-source.filled c.in_ok-count.count c.make_room.ensures.front front c.loop-source.invariant.2 (search rules) in
    rw c.truncate.ensures.items (rw same read)

pub loop-source-preserved : goal.loop-source-preserved
loop-source-preserved g c =
    let same = with_items_is c.make_room.new.bytes c.read_behind.new.bytes (search (rules, places)) in
    let new = c.read_behind.new.bytes in
    let front : take c.loop-source.filled new ≡ take c.loop-source.filled c.make_room.new.bytes.items = c.read_behind.ensures.front ∙ ap (take c.loop-source.filled) c.deref_mut.ensures.value in
    (search (rules, places), search rules, rw same (behind_by _ _ _ _ c.loop-source.bytes.items c.make_room.new.bytes.items new c.loop-source.filled c.in_ok-count.count c.make_room.ensures.front front c.loop-source.invariant.2 (search rules)))
