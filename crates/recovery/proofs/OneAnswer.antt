-- Two recoveries of the same bytes are the same: both read one log and one store, which have one outcome.
use Rattle.std.proofs.Common.{◌≡◌, refl, List, length, sym, ap, ap₂, ◌∙◌, subst}
use Rattle.page.specs.Store.{StoreContent}
use Rattle.page.specs.File.{store_text}
use Rattle.page.specs.Laws.{OneStoreSpelling}
use Rattle.wal.specs.Reads.{OneReading, log_text}
use Rattle.log_laws.specs.Records.{LogRecord, LogContent, ◌⧺◌}
use Rattle.restart.specs.Restart.{Restarts}
use Rattle.recovery.specs.Recovery.{report_of}
use Rattle.restart.specs.OneAnswer.{OneOutcome}
use Rattle.recovery.specs.OneAnswer.{OneRecovery}

pub one_recovery : OneReading → OneStoreSpelling → OneOutcome → OneRecovery
one_recovery reading spelling outcome log store new_log other_log new_store other_store report other a b =
    let read = reading log a.decoded.read b.decoded.read a.decoded.torn b.decoded.torn a.decoded.reads b.decoded.reads in
    let before : a.decoded.before ≡ b.decoded.before = spelling store a.decoded.before b.decoded.before a.decoded.spells b.decoded.spells in
    let restarts = subst (λ rs. Restarts rs a.decoded.before b.outcome) (sym read.0) (subst (λ s. Restarts b.decoded.read s b.outcome) (sym before) b.restarts) in
    let same = outcome a.decoded.read a.decoded.before a.outcome b.outcome a.restarts restarts in
    let x = a.outcome in
    let y = b.outcome in
    let records : length a.decoded.read.records ≡ length b.decoded.read.records = ap (λ (l : LogContent). length l.records) read.0 in
    let pages : length x.store.pages ≡ length y.store.pages = ap (λ (s : StoreContent). length s.pages) same.store in
    let told : report_of a.decoded.read a.decoded.torn x ≡ report_of b.decoded.read b.decoded.torn y =
    rw (records, read.1, same.redo_from, same.redone, same.losers, same.compensated, same.ended, pages, same.in_doubt) refl in
    record {
      log = a.log_is ∙ (ap₂ (λ (l : LogContent) (more : List LogRecord). log_text (l ⧺ more)) read.0 same.appended ∙ sym b.log_is);
      store = a.store_is ∙ (ap store_text same.store ∙ sym b.store_is);
      told = a.report_is ∙ (told ∙ sym b.report_is);
    }
