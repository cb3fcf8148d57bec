use Rattle.std.proofs.Common.{◌≡◌, ◌-◌, ◌++◌, List, ℕ, length, take, drop, refl, ap, ◌∙◌, arith, take_all, length-take, length-drop}
use Rattle.held_store.proofs.Blocks.{zeros, filled_parts, part_of_image}
use Rattle.held_store.proofs.images.fill_from.Goals as goal

pub returns : goal.returns
returns c =
    let kept : List ℕ = c.args.kept.now in
    let buffer : List ℕ = c.args.buffer.now in
    let place = c.min.result in
    let count = c.min-count.result in
    let rest : List ℕ = take (length kept - place) (drop place kept) in
    let whole : rest ≡ drop place kept = take_all (length kept - place) (drop place kept) (omega (arith, length-drop place kept)) in
    let front = c.copy_from_slice.new.self in
    let short : length front ≡ count = omega (arith, c.copy_from_slice.ensures.len, length-take count buffer, c.min-count.ensures) in
    filled_parts count (length buffer) front c.fill.new.self buffer short refl (omega (arith, c.min-count.ensures)) (c.fill.ensures.after (λ y e. e))
    ∙ ap (λ (t : List ℕ). t ++ zeros (length buffer - count)) c.copy_from_slice.ensures.after
    ∙ part_of_image c.args.start (length buffer) count kept rest c.requires.room c.requires.kept (whole ∙ ap (λ k. drop k kept) c.min.ensures) c.min-count.ensures
