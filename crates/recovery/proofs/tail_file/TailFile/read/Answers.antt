use Rattle.std.proofs.Common.{sym, ap, ◌∙◌, arith}
use Rattle.std.specs.Int.{w64, to_be_bytes}
use Rattle.recovery.proofs.TailFiles.{parts_of, read_again, is_file, same_bytes, other_bytes}
use Rattle.recovery.proofs.tail_file.TailFile.read.Goals as goal

pub returns-then-bytes-clause-whole : goal.returns-then-bytes-clause-whole
returns-then-bytes-clause-whole c = λ log kept end cut frames l k e t is.
    let parts = parts_of log kept end cut frames c.args.bytes.now is in
    let long = parts.long in
    absurd (omega (arith, long, c.if-bytes.true))

pub returns-then-ne-clause-whole : goal.returns-then-ne-clause-whole
returns-then-ne-clause-whole c = λ log kept end cut frames l k e t is.
    let front = c.split_at.result.0.now in
    let sum = c.split_at.result.1.now in
    let head = c.split_at-2.result.0.now in
    let rest = c.split_at-2.result.1.now in
    let both = read_again log kept end cut frames c.args.bytes.now front sum head rest c.number_at.result c.number_at-2.result c.number_at-3.result c.number_at-4.result l k e t is
    c.split_at.ensures.front c.split_at.ensures.back c.split_at-2.ensures.front c.split_at-2.ensures.back c.number_at.ensures c.number_at-2.ensures c.number_at-3.ensures c.number_at-4.ensures in
    absurd (other_bytes head c.as_slice.result.now c.if-ne.ensures (both.0 ∙ sym c.head.ensures ∙ sym c.as_slice.ensures))

pub returns-then-ne-2-clause-whole : goal.returns-then-ne-2-clause-whole
returns-then-ne-2-clause-whole c = λ log kept end cut frames l k e t is.
    let front = c.split_at.result.0.now in
    let sum = c.split_at.result.1.now in
    let head = c.split_at-2.result.0.now in
    let rest = c.split_at-2.result.1.now in
    let both = read_again log kept end cut frames c.args.bytes.now front sum head rest c.number_at.result c.number_at-2.result c.number_at-3.result c.number_at-4.result l k e t is
    c.split_at.ensures.front c.split_at.ensures.back c.split_at-2.ensures.front c.split_at-2.ensures.back c.number_at.ensures c.number_at-2.ensures c.number_at-3.ensures c.number_at-4.ensures in
    let sum_is = c.to_be_bytes.ensures ∙ ap (to_be_bytes w64) c.sum.ensures in
    absurd (other_bytes sum c.as_slice-2.result.now c.if-ne-2.ensures (both.1 ∙ sym sum_is ∙ sym c.as_slice-2.ensures))

pub returns-clause-found : goal.returns-clause-found
returns-clause-found c =
    let front = c.split_at.result.0.now in
    let sum = c.split_at.result.1.now in
    let head = c.split_at-2.result.0.now in
    let rest = c.split_at-2.result.1.now in
    let sum_is = c.to_be_bytes.ensures ∙ ap (to_be_bytes w64) c.sum.ensures in
    is_file c.args.bytes.now front sum head rest c.number_at.result c.number_at-2.result c.number_at-3.result c.number_at-4.result _
    c.split_at.ensures.front c.split_at.ensures.back c.split_at-2.ensures.front c.split_at-2.ensures.back
    (same_bytes head c.as_slice.result.now c.if-ne.ensures ∙ c.as_slice.ensures ∙ c.head.ensures)
    (same_bytes sum c.as_slice-2.result.now c.if-ne-2.ensures ∙ c.as_slice-2.ensures ∙ sum_is)
