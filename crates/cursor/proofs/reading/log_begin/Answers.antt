use Rattle.std.proofs.Common.{sym, ◌∙◌, arith}
use Rattle.wal.proofs.Headers.{no_start}
use Rattle.cursor.proofs.Marks.{begins_there}
use Rattle.cursor.proofs.reading.log_begin.Goals as goal

pub returns-in_default-clause-fault : goal.returns-in_default-clause-fault
returns-in_default-clause-fault c = no_start c.args.bytes.now (sym c.start_at.ensures ∙ c.in_default.is)

pub returns-clause-begin : goal.returns-clause-begin
returns-clause-begin c =
    begins_there c.args.bytes.now c.in-Some.begins c.base.result c.header_bytes.result (λ i. omega (arith, c.type_inv.bytes i)) (sym c.start_at.ensures ∙ c.in-Some.is) c.base.ensures c.header_bytes.ensures
