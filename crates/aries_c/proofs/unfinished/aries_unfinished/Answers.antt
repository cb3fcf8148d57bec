use Rattle.std.proofs.Common.{map, arith}
use Rattle.std.proofs.lemmas.List.{length-map}
use Rattle.wal.specs.Content.{entry_of}
use Rattle.aries_c.proofs.unfinished.aries_unfinished.Goals as goal

pub returns-clause-entries : goal.returns-clause-entries
returns-clause-entries c = λ done. (
  record {
    read = c.in-Ok.log;
    torn = c.in-Ok.field-0-1;
    reads = c.in-Ok.ensures.found;
    last = c.last.ensures;
    highest = c.highest_in.ensures;
    entries = map entry_of c.in-Ok-analyse_transactions.found.entries;
    found = c.in-Ok-analyse_transactions.ensures.transactions;
    count = omega (arith, c.len.ensures.len, length-map c.in-Ok-analyse_transactions.found.entries entry_of);
  },
  c.fill_unfinished.ensures,
)
