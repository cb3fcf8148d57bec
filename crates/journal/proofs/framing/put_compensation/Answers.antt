use Rattle.std.proofs.Common.{◌≡◌, ◌-◌, ℕ, List, [], ◌∷◌, ◌++◌, length, refl, subst, arith}
use Rattle.std.specs.Int.{w32, w64, to_be_bytes}
use Rattle.log_laws.specs.Records.{CompensationRecord, LogRecord, Compensation}
use Rattle.wal.specs.Spelling.{plain, body}
use Rattle.journal.specs.Arrays.{image_of}
use Rattle.journal.specs.Writing.{Begins}
use Rattle.journal.proofs.framing.put_compensation.Goals as goal

pub returns-clause-written : goal.returns-clause-written
returns-clause-written c =
    let b : List ℕ = c.args.out.now in
    let u : CompensationRecord = record { tx = c.args.tx; prev = c.args.prev; page = c.args.page; slot = c.args.slot; undo_next = c.args.undo_next; image = image_of c.args.restored.now } in
    let r : LogRecord = Compensation u in
    let size : ℕ = c.compensation_size-size.result - 4 in
    let cell : List ℕ = to_be_bytes w32 u.page ++ u.slot ∷ [] in
    let head : List ℕ = (to_be_bytes w32 size ++ (2 ∷ to_be_bytes w64 c.args.lsn)) ++ (plain (record { tx = u.tx; prev = u.prev }) ++ cell) in
    let next : List ℕ = to_be_bytes w64 u.undo_next in
    let first : Begins head b c.put.new.out = subst (λ t. Begins t b c.put.new.out) c.with_cell.ensures (c.put.ensures [] b refl refl) in
    let second : Begins (head ++ next) b c.put-2.new.out = subst (λ t. Begins (head ++ t) b c.put-2.new.out) c.to_be_bytes.ensures (c.put-2.ensures head b refl first) in
    let third = c.put_image.ensures (head ++ next) b refl second in
    let e : size ≡ length (body r c.args.lsn) = omega (arith, c.compensation_size-size.ensures.size) in
    record {
      holds = subst (λ n. Begins (to_be_bytes w32 n ++ body r c.args.lsn) b c.put_image.new.out) e third;
      size_is = omega (arith, e, c.compensation_size-size.ensures.size);
    }
