use Rattle.std.proofs.Common.{◌≡◌, ◌+◌, ◌-◌, ℕ, List, [], ◌∷◌, ◌++◌, length, refl, subst, arith, length-append}
use Rattle.std.specs.Int.{w32, w64, to_be_bytes}
use Rattle.log_laws.specs.Records.{UpdateRecord, LogRecord, Update}
use Rattle.wal.specs.Spelling.{image, plain, body}
use Rattle.journal.specs.Arrays.{image_of}
use Rattle.journal.specs.Writing.{Begins}
use Rattle.journal.proofs.framing.put_update.Goals as goal

pub returns-clause-written : goal.returns-clause-written
returns-clause-written c =
    let b : List ℕ = c.args.out.now in
    let u : UpdateRecord = record { tx = c.args.tx; prev = c.args.prev; page = c.args.page; slot = c.args.slot; before = image_of c.args.before.now; after = image_of c.args.after.now } in
    let r : LogRecord = Update u in
    let size : ℕ = c.update_size-size.result - 4 in
    let cell : List ℕ = to_be_bytes w32 u.page ++ u.slot ∷ [] in
    let head : List ℕ = (to_be_bytes w32 size ++ (1 ∷ to_be_bytes w64 c.args.lsn)) ++ (plain (record { tx = u.tx; prev = u.prev }) ++ cell) in
    let first : Begins head b c.put.new.out = subst (λ t. Begins t b c.put.new.out) c.with_cell.ensures (c.put.ensures [] b refl refl) in
    let second = c.put_image.ensures head b refl first in
    let long : length (head ++ image u.before) ≡ 30 + c.frame_len.result = omega (arith, c.frame_len.ensures.length) in
    let third = c.put_image-2.ensures (head ++ image u.before) b long second in
    let e : size ≡ length (body r c.args.lsn) = omega (arith, c.update_size-size.ensures.size, length-append (image u.before) (image u.after)) in
    record {
      holds = subst (λ n. Begins (to_be_bytes w32 n ++ body r c.args.lsn) b c.put_image-2.new.out) e third;
      size_is = omega (arith, e, c.update_size-size.ensures.size);
    }
