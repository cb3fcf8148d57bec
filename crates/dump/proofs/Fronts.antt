-- The log before a damaged frame.
use Rattle.std.proofs.Common.{ℕ, ◌≡◌, ◌+◌, ◌≤◌, List, [], ◌++◌, Some, None, length, take, refl, sym, ap, ◌∙◌, inl, Ok, Err, arith, append_assoc, append-nil, length-append}
use Rattle.std.proofs.lemmas.List.{take_at}
use Rattle.page.specs.declared.fault.Fault.{Fault}
use Rattle.page.specs.declared.fault.Fault.TheVariants.{NoResource, BadLength, BadRecord, BadLsn}
use Rattle.log_laws.specs.Records.{LogContent, lsn_before}
use Rattle.wal.specs.Headers.{header_bytes, header_of}
use Rattle.wal.specs.Frames.{Gives}
use Rattle.wal.specs.Reads.{Reads, Cause, HasFaultBehind, spellings, log_text}
use Rattle.log_laws.proofs.Histories.{size_of_log}
use Rattle.dump.specs.LogLines.{fault_at}
use Rattle.wal.proofs.Headers.{header_length}

-- frames followed by a fault: the bytes up to the fault are a log
pub record Front (bytes : List ℕ) (offset : ℕ) : Type 0 where
  pub log : LogContent
  pub reads : Reads (take offset bytes) log 0
  pub within : offset ≤ length bytes

front_of : (bytes : List ℕ) (e : Fault) (offset : ℕ) (h : HasFaultBehind bytes e) → offset ≡ header_bytes h.begins + length (spellings (lsn_before h.begins + 1) h.behind.records) → Front bytes offset
front_of bytes e offset h is =
    let header = header_of h.begins in
    let frames = spellings (lsn_before h.begins + 1) h.behind.records in
    let log : LogContent = record { begins = h.begins; records = h.behind.records } in
    let text : bytes ≡ log_text log ++ h.behind.rest = h.front ∙ ap (λ b. header ++ b) h.behind.text ∙ sym (append_assoc header frames h.behind.rest) in
    let size : length (log_text log) ≡ offset = omega (arith, length-append header frames, header_length h.begins, is) in
    let front : take offset bytes ≡ log_text log = ap (take offset) text ∙ take_at (log_text log) h.behind.rest offset size in
    record {
      log = log;
      reads = record {
        tail = [];
        text = front ∙ sym (append-nil (log_text log));
        torn_tail = inl (omega arith);
        torn_count = refl;
        starts = h.starts;
        each = h.behind.each;
        few = omega (arith, size_of_log log, h.behind.few);
      };
      within = omega (arith, size, ap length text, length-append (log_text log) h.behind.rest);
    }

pub front : (bytes : List ℕ) (e : Fault) (offset : ℕ) → Cause bytes e → fault_at e ≡ Some offset → Front bytes offset
front bytes (BadLength place) offset h is =
    let same : place ≡ offset = cc in
    front_of bytes (BadLength place) offset h (sym same ∙ h.behind.fault.0)
front bytes (BadRecord place) offset h is =
    let same : place ≡ offset = cc in
    front_of bytes (BadRecord place) offset h (sym same ∙ h.behind.fault.0)
front bytes (BadLsn place) offset h is =
    let same : place ≡ offset = cc in
    front_of bytes (BadLsn place) offset h (sym same ∙ h.behind.fault.0)
front bytes e offset h is =
    let no : ◌≡◌ {A = _} None (Some offset) = is in
    cc

-- a reading that has to give a log, gives it, or memory was refused
pub given_log : (given expected : LogContent × ℕ) → Gives (λ x. x) (Ok given) (Ok expected) → expected ≡ given
given_log given expected is = cc

pub given_fault : (e : Fault) (expected : LogContent × ℕ) → Gives (λ x. x) (Err e) (Ok expected) → e ≡ NoResource
given_fault NoResource expected is = refl
given_fault e expected is = cc
