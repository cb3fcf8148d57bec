use Rattle.std.proofs.Common.{rules, ◌≡◌, ◌+◌, ◌≤◌, List, ℕ, take, length, IfSome, sym, subst, arith}
use Rattle.std.specs.Io.KnownBytes.{Consumes}
use Rattle.held_store.specs.Images.{images_text}
use Rattle.held_store.proofs.Bytes.{all_held}
use Rattle.held_store.proofs.held.HeldStore.read.Goals as goal

pub returns-clause-gave : goal.returns-clause-gave
returns-clause-gave g c =
    let header : List ℕ = c.read_full.new.buffer in
    let count = c.in_ok-count.count in
    let first : Consumes (g.S.Source.left c.args.source.now) (g.S.Source.left c.read_full.new.source) (take count header) = search rules in
    let short : count ≤ length header = search rules in
    let whole : count ≡ length header = omega (arith, short, c.read_full.auto.buffer, c.if-count-lt-STORE_HEADER_BYTES.false) in
    let sum : c.in_ok-size.size ≡ c.in_ok-images.more + count = search rules in
    subst (λ (t : List ℕ). IfSome (g.S.Source.left c.args.source.now) (λ left. t ≡ left)) (sym c.new-2.ensures.text)
    (all_held _ _ _ header (images_text c.in_ok-images.images) count c.in_ok-images.more c.in_ok-size.size whole sum first c.in_ok-images.ensures.read c.in_ok-images.ensures.end)
