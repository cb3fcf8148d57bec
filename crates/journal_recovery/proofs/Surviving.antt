-- What an engine left is lawful, and its recovery is that of a survivor.
use Rattle.std.proofs.Common.{List, ℕ}
use Rattle.log_laws.specs.Meaning.{BasePages}
use Rattle.recovery.specs.Recovery.{AreLawful, Recovered}
use Rattle.recovery.specs.Text.{ReportContent}
use Rattle.journal.specs.Traces.{Trace, left_log, HasForced}
use Rattle.journal.specs.Lives.{Lasts}
use Rattle.journal.proofs.Lives.{lasts}
use Rattle.journal.proofs.Files.{forced_file_reads}
use Rattle.journal_recovery.specs.Left.{IsLeft, IsSurvivor}

module _ (base : BasePages) (t : Trace) (log store : List ℕ) (left : IsLeft base t log store) where
  -- the log's file reads as the log up to an LSN
  abbrev pub read : HasForced t log
  read = forced_file_reads base t log left.runs left.keeps left.file

  pub all_lasts : Lasts base t read.lsn left.there
  all_lasts = lasts base t read.lsn left.there left.runs left.keeps read.some read.within left.is_there

  abbrev pub bytes : AreLawful base log store
  bytes = record { decoded = record { read = left_log t read.lsn; torn = read.torn; before = left.there; reads = read.reads; spells = left.spells }; lawful = all_lasts.survives.recovers.lawful }

  pub survivor : (new_log new_store : List ℕ) (report : ReportContent) → Recovered base (left_log t read.lsn) left.there new_log new_store report
      → IsSurvivor base t left.there log new_log new_store report
  survivor new_log new_store report recovered =
      record { lsn = read.lsn; torn = read.torn; some = read.some; within = read.within; reads = read.reads; lasts = all_lasts; recovered = recovered }
