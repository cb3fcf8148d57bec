-- What is made of a restart: the frames of what it appends, and its report.
use Rattle.std.proofs.Common.{◌≡◌, ℕ, ◌-◌, ◌*◌, ◌^◌, ◌<◌, ◌≤◌, ◌++◌, List, arith, length, take, refl, sym, ap, ◌∙◌, subst, ◌+◌, length-append}
use Rattle.std.proofs.lemmas.List.{length-map}
use Rattle.page.specs.Store.{StoreContent}
use Rattle.page.specs.File.{SpellsStore, store_text}
use Rattle.log_laws.specs.Records.{LogRecord, LogContent, ◌⧺◌, last_lsn, history, lsn_before}
use Rattle.log_laws.specs.Meaning.{BasePages, in_doubt}
use Rattle.wal.specs.Headers.{header_of}
use Rattle.log_laws.specs.Tail.{with_tail, tail_of}
use Rattle.wal.specs.Reads.{Reads, spellings, log_text}
use Rattle.undo.specs.declared.appended.Appended.{Appended}
use Rattle.undo.specs.Appended.{AreFit, appended_records, record_of}
use Rattle.restart.specs.Outcome.{OutcomeContent}
use Rattle.restart.specs.Restart.{IsSettled, Restarts, Restores}
use Rattle.passes.specs.InPieces.{AreAlike}
use Rattle.recovery.specs.Text.{ReportContent}
use Rattle.recovery.specs.Recovery.{Recovers, Recovered, report_of, appended_frames}
use Rattle.recovery.proofs.TailLength.{tail_short}
use Rattle.recovery.proofs.Alike.{alike_fit, alike_frames, alike_report}
use Rattle.recovery.proofs.Bytes.{kept_text, text_extended}
use Rattle.recovery.proofs.Resuming.{reads_extended}

-- `some` are the records that undo looked at, of the whole log; `told` is what is appended, by these
module _ (whole some : LogContent) (told : List Appended) (torn : ℕ) (log_bytes frames : List ℕ) (report : ReportContent) (outcome : OutcomeContent)
    (alike : AreAlike whole some told) (reads_log : Reads log_bytes whole torn) (appended_is : outcome.appended ≡ appended_records (history whole) told) (frames_are : frames ≡ appended_frames some told)
    (report_is : report ≡ report_of some torn outcome) (writable : AreFit some told) (room : last_lsn (history some) + length told < 2 ^ 64) where
  abbrev bytes : List ℕ
  bytes = take (length log_bytes - report.torn) log_bytes ++ frames

  log_is : bytes ≡ log_text (whole ⧺ appended_records (history whole) told)
  log_is =
      let kept : take (length log_bytes - report.torn) log_bytes ≡ log_text whole = ap (λ (r : ReportContent). take (length log_bytes - r.torn) log_bytes) report_is ∙ kept_text log_bytes whole torn reads_log in
      text_extended whole (appended_records (history whole) told) (take (length log_bytes - report.torn) log_bytes) frames (last_lsn (history whole) + 1) kept refl (frames_are ∙ alike_frames whole some told alike)

  reads_new : Reads bytes (whole ⧺ appended_records (history whole) told) 0
  reads_new =
      let few : last_lsn (history whole) + length (appended_records (history whole) told) < 2 ^ 64 = omega (arith, room, alike.last, length-map told (record_of (history whole))) in
      reads_extended bytes whole (appended_records (history whole) told) log_is reads_log.starts reads_log.each (alike_fit whole some told alike writable) few

  told_report : report ≡ report_of whole torn outcome
  told_report = report_is ∙ alike_report whole some told alike torn outcome

  pub recovers_by : (store : List ℕ) (before : StoreContent) → SpellsStore store before → Restarts whole before outcome → Recovers log_bytes store (take (length log_bytes - report.torn) log_bytes ++ frames) (store_text outcome.store) report
  recovers_by store before spells restarts = record {
    decoded = record { read = whole; torn = torn; before = before; reads = reads_log; spells = spells };
    outcome = outcome;
    restarts = restarts;
    log_is = log_is ∙ ap (λ (rs : List LogRecord). log_text (whole ⧺ rs)) (sym appended_is);
    reads = subst (λ (rs : List LogRecord). Reads bytes (whole ⧺ rs) 0) (sym appended_is) reads_new;
    store_is = refl;
    report_is = told_report;
  }

  module _ (base : BasePages) (before : StoreContent) (restored : Restores base whole before outcome) where
    is_tail : appended_records (history whole) told ≡ tail_of whole
    is_tail = sym appended_is ∙ restored.appended

    pub recovered_by : Recovered base whole before (take (length log_bytes - report.torn) log_bytes ++ frames) (store_text outcome.store) report
    recovered_by = record {
      log_is = log_is ∙ ap (λ (rs : List LogRecord). log_text (whole ⧺ rs)) is_tail;
      reads = subst (λ (rs : List LogRecord). Reads bytes (whole ⧺ rs) 0) is_tail reads_new;
      store_is = ap store_text restored.store;
      settled = subst (λ s. IsSettled base (with_tail whole) s) restored.store (subst (λ (rs : List LogRecord). IsSettled base (whole ⧺ rs) outcome.store) restored.appended restored.settled);
      losers_are = ap (λ (r : ReportContent). r.losers) report_is ∙ restored.losers;
      in_doubt_are = ap (λ (r : ReportContent). r.in_doubt) report_is ∙ restored.in_doubt_are;
      still_in_doubt = λ t. sym (ap (λ (rs : List LogRecord). in_doubt t (history (whole ⧺ rs))) restored.appended) ∙ restored.still_in_doubt t;
      ended_are = ap (λ (r : ReportContent). r.ended) report_is ∙ restored.ended;
      redoes = record {
        tables = restored.redoes.tables;
        are = restored.redoes.are;
        begins = ap (λ (r : ReportContent). r.redo_from) report_is ∙ restored.redoes.begins;
        applies = ap (λ (r : ReportContent). r.redone) report_is ∙ restored.redoes.applies;
      };
      compensated_are = ap (λ (r : ReportContent). r.compensated) report_is ∙ restored.compensated;
    }

    pub short_by : length frames ≤ 2 * length log_bytes
    short_by =
        let tail : frames ≡ spellings (last_lsn (history whole) + 1) (tail_of whole) = frames_are ∙ alike_frames whole some told alike ∙ ap (spellings (last_lsn (history whole) + 1)) is_tail in
        omega (
          arith,
          ap (λ (xs : List ℕ). length xs) tail,
          tail_short whole (last_lsn (history whole) + 1),
          ap (λ (xs : List ℕ). length xs) reads_log.text,
          length-append (log_text whole) reads_log.tail,
          length-append (header_of whole.begins) (spellings (lsn_before whole.begins + 1) whole.records),
        )
