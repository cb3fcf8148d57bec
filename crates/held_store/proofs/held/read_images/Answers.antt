use Rattle.std.proofs.Common.{rules, ◌≡◌, ◌+◌, ◌∙◌, ◌++◌, ◌≤◌, List, ℕ, take, length, sym, ap, subst, arith, length-take}
use Rattle.std.proofs.KnownBytes.{Consumes-trans}
use Rattle.std.specs.Io.KnownBytes.{Consumes}
use Rattle.held_store.specs.Images.{images_text, Grows}
use Rattle.held_store.proofs.Bytes.{grown_bytes, whole_room}
use Rattle.held_store.proofs.held.read_images.Goals as goal

pub returns-then-count-lt-PIECE-clause-read : goal.returns-then-count-lt-PIECE-clause-read
returns-then-count-lt-PIECE-clause-read g c =
    let before = images_text c.loop.images in
    let after = images_text c.extend.new.self in
    let buffer : List ℕ = c.read_full.new.buffer in
    let count = c.in_ok-count.count in
    let all : c.deref.result.now ≡ buffer = c.deref.ensures.value ∙ whole_room c.loop.room.len buffer c.loop.room.items (omega arith) (omega (arith, c.read_full.auto.buffer, c.deref_mut.ensures.len)) in
    let bytes : List ℕ = take count c.deref.result.now in
    let grown : Grows before bytes after = search rules in
    let read : Consumes (g.S.Source.left c.loop.source) (g.S.Source.left c.read_full.new.source) (take count buffer) = search rules in
    let short : count ≤ length buffer = search rules in
    let sum : c.in_ok-size.size ≡ c.loop.size + count = search rules in
    let size : c.in_ok-size.size ≡ length before + length bytes = omega (arith, sum, short, c.loop.invariant.size, length-take count c.deref.result.now, ap (λ (t : List ℕ). length t) all) in
    let is : take c.in_ok-size.size after ≡ before ++ take count buffer = grown_bytes c.in_ok-size.size before bytes after grown size ∙ ap (λ (t : List ℕ). before ++ take count t) all in
    subst (Consumes (g.S.Source.left c.args.source.now) (g.S.Source.left c.read_full.new.source)) (sym is) (Consumes-trans _ _ _ before (take count buffer) c.loop.invariant.read read)
