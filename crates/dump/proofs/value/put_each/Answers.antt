use Rattle.std.proofs.Common.{◌+◌, ◌-◌, ◌++◌, ◌∙◌, length, take, drop, arith, ap, ap₂, sym, append_assoc}
use Rattle.std.proofs.lemmas.Slice.{take-put_mid}
use Rattle.std.specs.List.{flat_map}
use Rattle.dump.specs.Values.{escaped}
use Rattle.dump.proofs.Texts.{plain_stay}
use Rattle.dump.proofs.value.put_each.Goals as goal

pub returns-clause-text : goal.returns-clause-text
returns-clause-text c =
    let old = c.args.buffer.now in
    let at = c.args.at in
    let bytes = c.args.bytes.now in
    let count = c.plain_in_front.result in
    let each = flat_map (escaped c.args.style) in
    let copied = c.copy_from_slice.ensures.after ∙ c.split_at.ensures.front in
    let end = at + length c.split_at.result.0.now in
    let front = take-put_mid at (end - at) old c.copy_from_slice.new.self end (omega (arith, ap length c.copy_from_slice.ensures.after)) (omega arith) in
    c.put_escapes.ensures.text ∙ ap₂ (λ x y. x ++ each y) (front ∙ ap (λ x. take at old ++ x) copied) c.split_at.ensures.back
    ∙ append_assoc (take at old) (take count bytes) (each (drop count bytes))
    ∙ ap (λ x. take at old ++ x) (sym (plain_stay c.args.style bytes count c.plain_in_front.ensures.plain))
