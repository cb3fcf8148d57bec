use Rattle.journal.proofs.Files.{file_reads}
use Rattle.journal.proofs.laws.file_reads.Goals as goal

pub returns : goal.returns
returns c = file_reads
