use Rattle.passes.proofs.Stretches.{since_joined, since_rises}
use Rattle.passes.proofs.rounds.join_scan.Goals as goal

pub returns-clause-joined : goal.returns-clause-joined
returns-clause-joined c = λ whole before after within since. (
  λ found. since_joined before after c.args.later.tables c.args.scan.now.tables c.join.new.self c.in_ok-join.ensures.goes_on since found,
  λ images later so_far. c.join_tallies-scan.ensures.joined whole before after images within (since_rises before after c.args.later.tables since) later so_far,
)
