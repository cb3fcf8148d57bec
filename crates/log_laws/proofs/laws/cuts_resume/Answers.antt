use Rattle.log_laws.proofs.Lists.{cuts_resume}
use Rattle.log_laws.proofs.laws.cuts_resume.Goals as goal

pub returns : goal.returns
returns c = cuts_resume
