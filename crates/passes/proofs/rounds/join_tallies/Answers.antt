use Rattle.std.proofs.Common.{sym, ◌∙◌}
use Rattle.passes.proofs.OneReading.{none_missing}
use Rattle.log_laws.specs.Records.{history, last_lsn}
use Rattle.passes.proofs.Stretches.{refused_stays, tallies_joined}
use Rattle.passes.proofs.rounds.join_tallies.Goals as goal

pub returns-then-is_some-clause-joined : goal.returns-then-is_some-clause-joined
returns-then-is_some-clause-joined c = λ whole before after images within rises later so_far.
    refused_stays whole images (last_lsn (history before)) (last_lsn (history after)) c.args.fault c.args.tallies.now c.args.tallies.now (sym c.is_some.ensures ∙ c.if-is_some.true) so_far

pub returns-in-Ok-clause-joined : goal.returns-in-Ok-clause-joined
returns-in-Ok-clause-joined c = λ whole before after images within rises later so_far.
    let tallied = none_missing whole images (last_lsn (history before)) c.args.fault c.args.tallies.now (sym c.is_some.ensures ∙ c.if-is_some.false) so_far in
    tallies_joined whole before after images c.args.tallies.now c.args.later c.join.new.self within rises later tallied c.in-Ok.ensures.joined c.in-Ok.ensures.redo_lsn c.in-Ok.ensures.upto
