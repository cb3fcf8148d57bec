use Rattle.log_laws.proofs.Lists.{lawful_by_record}
use Rattle.log_laws.proofs.laws.lawful_by_record.Goals as goal

pub returns : goal.returns
returns c = lawful_by_record
