use Rattle.std.proofs.Common.{subst}
use Rattle.recovery.specs.LogText.{text_of, IsKnown}
use Rattle.recovery.proofs.LogTexts.{no_log}
use Rattle.recovery.proofs.log_text.decode.Goals as goal

pub returns-in-Fault : goal.returns-in-Fault
returns-in-Fault g c = no_log (text_of c.args.text.now) c.in-Fault.fault (subst (IsKnown c.args.text.now) c.in-Fault.is c.requires.is)
