use Rattle.std.proofs.Common.{◌≡◌, ◌+◌, ◌-◌, ◌++◌, suc, length, take, ap, ◌∙◌, arith, length-take, length-drop}
use Rattle.std.specs.List.{flat_map}
use Rattle.dump.specs.Values.{escaped}
use Rattle.dump.proofs.Writes.{escaped_more}
use Rattle.dump.proofs.value.put_escapes.Goals as goal

pub loop-byte-preserved : goal.loop-byte-preserved
loop-byte-preserved c =
    let i = c.loop-byte.byte-index in
    let style = c.args.style in
    let next : suc i ≡ i + 1 = omega arith in
    let long : length c.copy_from_slice.new.self ≡ 8 = omega (arith, c.copy_from_slice.ensures.len, c.loop-byte.invariant.room, simp (length-take, length-drop) at c.copy_from_slice.ensures.len) in
    record {
      room = omega (arith, c.loop-byte.invariant.room, c.escape_of-escape.ensures.short);
      text = escaped_more style c.loop-byte.end (c.loop-byte.end + 8 - c.loop-byte.end) c.loop-byte.buffer c.escape_of-escape.result.now c.copy_from_slice.new.self (take c.args.at c.args.buffer.now) c.args.bytes.now i
          c.escape_of-escape.ensures c.copy_from_slice.ensures.after long (omega (arith, c.loop-byte.invariant.room)) c.loop-byte.invariant.text (omega arith)
          ∙ ap (λ n. take c.args.at c.args.buffer.now ++ flat_map (escaped style) (take n c.args.bytes.now)) next;
    }
