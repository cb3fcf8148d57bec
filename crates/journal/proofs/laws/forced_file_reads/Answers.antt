use Rattle.journal.proofs.Files.{forced_file_reads}
use Rattle.journal.proofs.laws.forced_file_reads.Goals as goal

pub returns : goal.returns
returns c = forced_file_reads
