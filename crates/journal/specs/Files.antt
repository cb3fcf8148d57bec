-- The file of a log, and what is there after a crash (own).
use Rattle.std.specs.Prelude.{◌≡◌, ◌≤◌, ℕ, List, ◌++◌, length}
use Rattle.log_laws.specs.Records.{history, up_to, last_lsn}
use Rattle.log_laws.specs.Meaning.{BasePages}
use Rattle.wal.specs.Reads.{Reads, log_text}
use Rattle.journal.specs.Runs.{Run, log_before, content_of, log_of, IsRun}

-- the bytes are a beginning of the log's text, not shorter than the text of the log at the opening
pub record IsLogFile (run : Run) (bytes : List ℕ) : Type 0 where
  pub missing : List ℕ
  pub text : log_text (content_of run) ≡ bytes ++ missing
  pub long : length (log_text (log_before run)) ≤ length bytes

-- the bytes read as the log up to an LSN, and a torn tail
pub record HasUpTo (run : Run) (bytes : List ℕ) : Type 0 where
  pub lsn : ℕ
  pub torn : ℕ
  pub some : last_lsn (history (log_before run)) ≤ lsn
  pub within : lsn ≤ last_lsn (log_of run)
  pub reads : Reads bytes (up_to lsn (content_of run)) torn

-- At whatever byte the file ends, it reads as the log up to an LSN, and a torn tail.
abbrev pub FileReads : Type 0
FileReads = (base : BasePages) (run : Run) (bytes : List ℕ) → IsRun base run → IsLogFile run bytes → HasUpTo run bytes
