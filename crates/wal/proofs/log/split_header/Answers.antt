use Rattle.std.proofs.Common.{◌≡◌, ◌+◌, length, take, Some, sym, ap, ◌∙◌, arith}
use Rattle.std.proofs.lemmas.List.{length-take}
use Rattle.wal.specs.Headers.{header_bytes, start_at}
use Rattle.wal.proofs.Stretches.{header_alone, header_within, room_behind}
use Rattle.wal.proofs.log.split_header.Goals as goal

pub split_at-requires : goal.split_at-requires
split_at-requires c = omega (arith, c.header_bytes.ensures, header_within c.args.bytes.now c.in-Some.begins (λ i. omega (arith, c.type_inv.bytes i)) (sym c.start_at.ensures ∙ c.in-Some.is))

pub overflow_add-base : goal.overflow_add-base
overflow_add-base c = omega (arith, c.base.ensures, room_behind c.in-Some.begins c.args.bytes.now (λ i. omega (arith, c.type_inv.bytes i)) (sym c.start_at.ensures ∙ c.in-Some.is))

pub returns-clause-front : goal.returns-clause-front
returns-clause-front c =
    let begins = c.in-Some.begins in
    let bytes = c.args.bytes.now in
    let starts : start_at bytes ≡ Some begins = sym c.start_at.ensures ∙ c.in-Some.is in
    let is : c.split_at.result.0.now ≡ take (header_bytes begins) bytes = c.split_at.ensures.front ∙ ap (λ n. take n bytes) c.header_bytes.ensures in
    let len : length c.split_at.result.0.now ≡ header_bytes begins = omega (arith, ap length is, length-take (header_bytes begins) bytes, header_within bytes begins (λ i. omega (arith, c.type_inv.bytes i)) starts) in
    record {
      first = record {
        starts = ap start_at is ∙ header_alone bytes begins (λ i. omega (arith, c.type_inv.bytes i)) starts;
        frames = c.none-none.ensures.frames c.split_at.result.0.now (omega arith);
        begin = c.none-none.ensures.begins.1 ∙ len;
        lsn = c.none-none.ensures.begins.0 ∙ ap (λ n. n + 1) c.base.ensures;
      };
      whole = c.none-none.ensures.empty.1;
    }

pub none-none-requires : goal.none-none-requires
none-none-requires c = omega (arith, c.base.ensures, room_behind c.in-Some.begins c.args.bytes.now (λ i. omega (arith, c.type_inv.bytes i)) (sym c.start_at.ensures ∙ c.in-Some.is))
