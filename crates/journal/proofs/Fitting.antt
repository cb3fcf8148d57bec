-- The records of a run can be written.
use Rattle.std.proofs.lemmas.List.Elements.{All-from_recursion}
use Rattle.log_laws.specs.Records.{EachRecord}
use Rattle.log_laws.specs.Meaning.{BasePages}
use Rattle.wal.specs.Spelling.{Fits}
use Rattle.log_laws.proofs.Histories.{each_found}
use Rattle.log_laws.proofs.Appended.{each_more}
use Rattle.journal.specs.Runs.{Run, opened, appended, reported, log_of, IsRun}

pub each_fits : (base : BasePages) (run : Run) → IsRun base run → EachRecord Fits (log_of run)
each_fits base (opened log store) h = each_found Fits log (All-from_recursion Fits log.records h.fit)
each_fits base (appended run r) h = each_more Fits (log_of run) r (each_fits base run h.0) h.1.fits
each_fits base (reported run page page_lsn) h = each_fits base run h
