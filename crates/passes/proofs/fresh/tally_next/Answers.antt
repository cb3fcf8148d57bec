use Rattle.std.proofs.Common.{sym, ◌∙◌}
use Rattle.passes.proofs.OneReading.{none_missing}
use Rattle.passes.proofs.NextRecord.{tallied_next, refused_next}
use Rattle.passes.proofs.fresh.tally_next.Goals as goal

pub returns-in-Ok-clause-tallied : goal.returns-in-Ok-clause-tallied
returns-in-Ok-clause-tallied c = λ whole piece images own seen before.
    let noted = c.in-Ok.ensures in
    let tallied = none_missing whole images c.args.lsn c.args.fault c.args.tallies.now (sym c.is_some.ensures ∙ c.if-is_some.false) before in
    tallied_next whole piece images c.args.lsn c.args.glance c.args.tallies.now own seen tallied c.take.new.self noted.redo_lsn noted.upto noted.goes_on noted.exists

pub returns-in-Err-clause-tallied : goal.returns-in-Err-clause-tallied
returns-in-Err-clause-tallied c = λ whole piece images own seen before.
    let tallied = none_missing whole images c.args.lsn c.args.fault c.args.tallies.now (sym c.is_some.ensures ∙ c.if-is_some.false) before in
    refused_next whole piece images c.args.lsn c.args.glance c.args.tallies.now own seen tallied c.in-Err.fault c.in-Err.ensures.fault
