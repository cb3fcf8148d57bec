use Rattle.std.proofs.Common.{ℕ, List, [], ◌∷◌, ◌++◌, length, refl, ap, subst}
use Rattle.std.specs.Int.{w32, w64, to_be_bytes}
use Rattle.log_laws.specs.Records.{PlainRecord}
use Rattle.wal.specs.Spelling.{plain}
use Rattle.journal.specs.Writing.{Begins}
use Rattle.journal.proofs.Written.{plain_is}
use Rattle.journal.proofs.framing.put_plain.Goals as goal

pub returns-clause-written : goal.returns-clause-written
returns-clause-written c = λ r k.
    let b : List ℕ = c.args.out.now in
    let p : PlainRecord = record { tx = c.args.tx; prev = c.args.prev } in
    let head : List ℕ = (to_be_bytes w32 21 ++ (c.args.kind ∷ to_be_bytes w64 c.args.lsn)) ++ plain p in
    let first : Begins head b c.put.new.out = subst (λ t. Begins t b c.put.new.out) c.with_plain.ensures (c.put.ensures [] b refl refl) in
    let e = plain_is r c.args.kind c.args.lsn p k in
    record {
      holds = subst (λ t. Begins t b c.put.new.out) e first;
      size_is = ap length e;
    }
