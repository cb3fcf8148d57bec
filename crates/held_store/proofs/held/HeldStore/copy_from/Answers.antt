use Rattle.std.proofs.Common.{rules, false, ◌≡◌, ◌<◌, ◌≤◌, ◌+◌, ◌-◌, ℕ, List, length, take, drop, ◌∙◌, arith, length-take}
use Rattle.std.proofs.lemmas.List.{take-take}
use Rattle.std.specs.Bool.{◌==◌}
use Rattle.page.specs.declared.sizes.TheConstants.{STORE_HEADER_BYTES}
use Rattle.held_store.specs.Images.{images_text}
use Rattle.held_store.proofs.Bytes.{part_of_images, part_of_header}
use Rattle.held_store.proofs.held.HeldStore.copy_from.Goals as goal

pub returns-in-Some-clause-bytes : goal.returns-in-Some-clause-bytes
returns-in-Some-clause-bytes c =
    let buffer : List ℕ = c.args.buffer.now in
    let count = c.min-count.result in
    let came : List ℕ = c.copy_from.new.buffer in
    let room : length came ≡ count = omega (arith, c.copy_from.auto.buffer, length-take count buffer, c.min-count.ensures) in
    let long : length c.args.self.now.header ≡ STORE_HEADER_BYTES = search rules in
    let empty : false ≡ (length (take count buffer) == 0) = c.if-is_empty.ensures in
    let some : 0 < length (take count buffer) = search rules in
    let le : c.copy_from.result ≤ length came = c.copy_from.ensures.within in
    let end : c.args.offset + c.copy_from.result ≤ c.args.self.now.size = omega (arith, some, room, le, length-take count buffer, c.min-count.ensures, c.saturating_sub.ensures) in
    part_of_images c.args.self.now.header (images_text c.args.self.now.images) came (drop count buffer) c.args.self.now.size c.args.offset c.in-Some.place c.copy_from.result
    long c.in-Some.ensures.0 c.in-Some.ensures.1 end le c.copy_from.ensures.bytes

pub returns-in-None-clause-bytes : goal.returns-in-None-clause-bytes
returns-in-None-clause-bytes c =
    let header : List ℕ = c.args.self.now.header in
    let buffer : List ℕ = c.args.buffer.now in
    let offset = c.args.offset in
    let count = c.min-count.result in
    let came : List ℕ = c.copy_front.new.buffer in
    let room : length came ≡ count = omega (arith, c.copy_front.auto.buffer, length-take count buffer, c.min-count.ensures) in
    let long : length header ≡ STORE_HEADER_BYTES = search rules in
    let n = c.copy_front.result in
    let short : n ≤ STORE_HEADER_BYTES - offset = omega (arith, c.copy_front.ensures.within, length-take (STORE_HEADER_BYTES - offset) (drop offset header)) in
    let bytes : take n came ≡ take n (drop offset header) = c.copy_front.ensures.bytes ∙ take-take n (STORE_HEADER_BYTES - offset) (drop offset header) short in
    let empty : false ≡ (length (take count buffer) == 0) = c.if-is_empty.ensures in
    let some : 0 < length (take count buffer) = search rules in
    let le : n ≤ length came = c.copy_front.ensures.within.1 in
    let end : offset + n ≤ c.args.self.now.size = omega (arith, some, room, le, length-take count buffer, c.min-count.ensures, c.saturating_sub.ensures) in
    part_of_header header (images_text c.args.self.now.images) came (drop count buffer) c.args.self.now.size offset n (omega (arith, long, c.in-None.ensures)) (omega (arith, short, long, c.in-None.ensures)) end le bytes
