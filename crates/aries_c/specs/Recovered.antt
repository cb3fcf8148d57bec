-- What C gets of a recovery (own).
use Rattle.std.specs.Prelude.{◌≡◌, ℕ, ◌+◌, ◌-◌, ◌*◌, ◌<◌, ◌≤◌, ◌⊎◌, List, ◌++◌, length, take}
use Rattle.page.specs.File.{store_text}
use Rattle.log_laws.specs.Meaning.{BasePages}
use Rattle.wal.specs.Reads.{log_text}
use Rattle.log_laws.specs.Store.{store_out}
use Rattle.log_laws.specs.Tail.{with_tail}
use Rattle.recovery.specs.Text.{ReportContent}
use Rattle.recovery.specs.Recovery.{Recovers, Recovered as AreRecovered, AreLawful, AreCut}
use Rattle.aries_c.specs.declared.fault.Fault.{Fault as Told}
use Rattle.aries_c.specs.declared.recovered.Recovered.{Recovered}
use Rattle.aries_c.specs.Fault.{OnDone}

-- the new log: what is kept of the log, followed by the tail
abbrev pub log_in_buffers : (log tail : List ℕ) → Recovered → List ℕ
log_in_buffers log tail made = take (length log - made.torn) log ++ take made.tail_length tail

abbrev pub new_store : (out_store : List ℕ) → Recovered → List ℕ
new_store out_store made = take made.store_length out_store

-- the report, with this list of the transactions in doubt
abbrev pub report_told : Recovered → (in_doubt : List ℕ) → ReportContent
report_told made in_doubt = record {
  records = made.records;
  torn = made.torn;
  redo_from = made.redo_from;
  redone = made.redone;
  losers = made.losers;
  compensated = made.compensated;
  ended = made.ended;
  pages = made.pages;
  in_doubt = in_doubt;
}

-- C gets the numbers of a recovery of these bytes: its report, and how long its tail, its store and its list of transactions in doubt are
pub record TellsLengths (log store : List ℕ) (made : Recovered) : Type 0 where
  pub log_made : List ℕ
  pub store_made : List ℕ
  pub in_doubt : List ℕ
  pub recovers : Recovers log store log_made store_made (report_told made in_doubt)
  pub tail_is : length log_made ≡ length log - made.torn + made.tail_length
  pub store_is : length store_made ≡ made.store_length
  pub in_doubt_is : length in_doubt ≡ made.in_doubt

-- a buffer is too short for them
abbrev pub IsShort : Recovered → (tail out_store in_doubt : List ℕ) → Type 0
IsShort made tail out_store in_doubt = (length tail < made.tail_length) ⊎ ((length out_store < made.store_length) ⊎ (length in_doubt < made.in_doubt))

-- THE RESULT. If the call succeeded, C gets a recovery of these bytes.
abbrev pub RecoversIn : (log store tail out_store in_doubt : List ℕ) → Recovered → Told → Type 0
RecoversIn log store tail out_store in_doubt made told =
    OnDone told (Recovers log store (log_in_buffers log tail made) (new_store out_store made) (report_told made (take made.in_doubt in_doubt)))

-- LAWFUL BYTES. What holds of the bytes of a log and its store if they are lawful over some base pages.
abbrev pub IfLawful : (log store : List ℕ) → Type 0 → Type 0
IfLawful log store Holds = (base : BasePages) → AreLawful base log store → Holds

-- if they are lawful over any base pages, and the call succeeded, C gets what a recovery of them restores
abbrev pub RestoresIn : (log store tail out_store in_doubt : List ℕ) → Recovered → Told → Type 0
RestoresIn log store tail out_store in_doubt made told = (base : BasePages) (bytes : AreLawful base log store)
    → OnDone told (AreRecovered base bytes.decoded.read bytes.decoded.before
    (log_in_buffers log tail made) (new_store out_store made) (report_told made (take made.in_doubt in_doubt)))

-- the tail takes at most twice the bytes of the log
abbrev pub HasShortTail : (log : List ℕ) → Recovered → Type 0
HasShortTail log made = made.tail_length ≤ 2 * length log

-- AFTER AN INTERRUPTION of a recovery, which may have left these bytes: if the call succeeded, C gets the log that it would have made
abbrev pub ResumesLog : (log store tail : List ℕ) → Recovered → Told → Type 0
ResumesLog log store tail made told = (base : BasePages) (bytes : AreCut base log store)
    → OnDone told (log_in_buffers log tail made ≡ log_text (with_tail bytes.first.decoded.read))

-- and the store that it would have made
abbrev pub ResumesStore : (log store out_store : List ℕ) → Recovered → Told → Type 0
ResumesStore log store out_store made told = (base : BasePages) (bytes : AreCut base log store)
    → OnDone told (new_store out_store made ≡ store_text (store_out base bytes.first.decoded.read bytes.first.decoded.before))
