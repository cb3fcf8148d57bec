-- Some records of a log that undo looked at, and the whole log: what is appended and what is reported are the same by both.
use Rattle.std.proofs.Common.{◌≡◌, ◌+◌, ℕ, List, All, length, refl, ap, subst, ◌∙◌, arith}
use Rattle.log_laws.specs.Records.{LogContent, history, last_lsn}
use Rattle.wal.specs.Reads.{spellings}
use Rattle.wal.specs.Spelling.{Fits}
use Rattle.log_laws.proofs.Histories.{size_of_log, base_of_log}
use Rattle.undo.specs.declared.appended.Appended.{Appended}
use Rattle.undo.specs.Appended.{appended_records, AreFit}
use Rattle.undo.proofs.Told.{told_fit}
use Rattle.restart.specs.Outcome.{OutcomeContent}
use Rattle.passes.specs.InPieces.{AreAlike}
use Rattle.recovery.specs.Recovery.{report_of}

-- a log is like itself
pub same_log : (log : LogContent) (appended : List Appended) → AreAlike log log appended
same_log log appended = record { base = refl; last = refl; records = refl }

module _ (whole some : LogContent) (appended : List Appended) (alike : AreAlike whole some appended) where
  -- they count the same records
  same_count : length some.records ≡ length whole.records
  same_count = omega (arith, alike.base, alike.last, size_of_log some, size_of_log whole, base_of_log some, base_of_log whole)

  -- what is appended has an encoding, and the same one
  pub alike_fit : AreFit some appended → All Fits (appended_records (history whole) appended)
  alike_fit fit = subst (All Fits) alike.records (told_fit some appended fit)

  pub alike_frames : spellings (last_lsn (history some) + 1) (appended_records (history some) appended) ≡ spellings (last_lsn (history whole) + 1) (appended_records (history whole) appended)
  alike_frames = ap (λ n. spellings (n + 1) (appended_records (history some) appended)) alike.last ∙ ap (spellings (last_lsn (history whole) + 1)) alike.records

  -- and the report is the same
  pub alike_report : (torn : ℕ) (x : OutcomeContent) → report_of some torn x ≡ report_of whole torn x
  alike_report torn x = ap (λ n. record {
    records = n;
    torn = torn;
    redo_from = x.redo_from;
    redone = x.redone;
    losers = x.losers;
    compensated = x.compensated;
    ended = x.ended;
    pages = length x.store.pages;
    in_doubt = x.in_doubt;
  }) same_count
