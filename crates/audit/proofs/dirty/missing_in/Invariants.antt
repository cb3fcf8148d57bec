use Rattle.log_laws.specs.Records.{history, first}
use Rattle.audit.specs.Dirty.{KeepsMissing}
use Rattle.audit.proofs.dirty.missing_in.Given as goal

abbrev pub invariant-loop-lsn : goal.invariant-loop-lsn
invariant-loop-lsn l = KeepsMissing l.pages (first l.lsn (history l.log)) l.missing.items
