use Rattle.std.proofs.Common.{◌≡◌, ℕ, false, ap, ◌∙◌, arith, rules}
use Rattle.audit.specs.BlockIndex.{hash_of, home_of, tag_of, has_at, bucket_of, IsEntry}
use Rattle.audit.proofs.BlockIndex.{not_in_bucket, no_bucket, none_of_others, looked_up}
use Rattle.audit.proofs.block_index.BlockIndex.get.Goals.{then-home-len+in_default+else-has_room, else-home-len}
use Rattle.audit.proofs.block_index.BlockIndex.get.Goals as goal

pub returns-then-has_room : goal.returns-then-has_room
returns-then-has_room c =
    let blocks = c.args.blocks.now in
    let index = c.args.self.now in
    let home : ℕ = c.home-home.result in
    let home_is : home ≡ bucket_of index (hash_of c.args.number) = c.home-home.ensures ∙ (ap (λ h. home_of h c.len.result) c.hash-hash.ensures ∙ ap (home_of (hash_of c.args.number)) (omega (arith, c.len.ensures))) in
    none_of_others blocks index c.args.number home home_is (search rules) (omega (arith, c.if-home-len.true, c.len-2.ensures)) c.requires.index
    (not_in_bucket blocks index c.args.number home home_is c.tag.result (c.tag.ensures ∙ ap tag_of c.hash-hash.ensures) c.in_default.ensures.none)

pub returns : goal.returns
returns c =
    let blocks = c.args.blocks.now in
    let index = c.args.self.now in
    let home : ℕ = c.home-home.result in
    let home_is : home ≡ bucket_of index (hash_of c.args.number) = c.home-home.ensures ∙ (ap (λ h. home_of h c.len.result) c.hash-hash.ensures ∙ ap (home_of (hash_of c.args.number)) (omega (arith, c.len.ensures))) in
    let none : (p k : ℕ) → IsEntry index c.args.number p k → has_at blocks c.args.number p ≡ false =
    elim c.if-home-len.branch [
      | then-home-len+in_default+else-has_room w ↦ not_in_bucket blocks index c.args.number home home_is w.tag.result (w.tag.ensures ∙ ap tag_of c.hash-hash.ensures) w.in_default.ensures.none
      | else-home-len w ↦ no_bucket blocks index c.args.number home home_is (omega (arith, w.if-home-len.false, c.len-2.ensures))
    ] in
    looked_up blocks index c.args.number c.other.result c.requires.distinct c.requires.index none c.other.ensures.found c.other.ensures.none
