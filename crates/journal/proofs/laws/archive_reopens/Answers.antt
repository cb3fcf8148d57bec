use Rattle.journal.proofs.Archive.{archive_reopens}
use Rattle.journal.proofs.laws.archive_reopens.Goals as goal

pub returns : goal.returns
returns c = archive_reopens
