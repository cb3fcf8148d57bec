use Rattle.std.proofs.Common.{map}
use Rattle.wal.specs.Content.{content}
use Rattle.undo.proofs.Chains.{gathered_last, gathered_base, none_kept}
use Rattle.undo.proofs.gathered.Gathered.none.Goals as goal

pub returns-clause-base : goal.returns-clause-base
returns-clause-base c = gathered_base c.args.base c.args.count c.new.result.entries (map content c.new-2.result.items)

pub returns-clause-last : goal.returns-clause-last
returns-clause-last c = gathered_last c.args.base c.args.count c.new.result.entries (map content c.new-2.result.items)

pub returns-clause-none : goal.returns-clause-none
returns-clause-none c = λ lsn. none_kept c.args.base c.args.count lsn c.new.result.entries (map content c.new-2.result.items) c.new.ensures.empty
