-- What contracts know of a source that several threads read at once (own).
use Rattle.std.specs.Prelude.{◌≡◌, ℕ, List, ◌<◌, ◌≤◌, ◌⊎◌, length, IfOk, IfSome, Result}
use Rattle.std.specs.declared.option.Option.{Option}
use Rattle.device.specs.Reread.{EndsBy, Reaches, ReadsFrom}
use Rattle.device.specs.declared.shared.Span.{Span}
use Rattle.device.specs.declared.shared.SharedReader.{SharedReader}

-- the offset of the first byte of a span
abbrev pub span_from : Span → ℕ
span_from span = span.from

-- the offset after its last byte
abbrev pub span_to : Span → ℕ
span_to span = span.to

-- the source that a reader reads
abbrev pub reader_source : {S : Type 0} → SharedReader S → S
reader_source reader = reader.source.now

-- the offset at which it was begun
abbrev pub reader_from : {S : Type 0} → SharedReader S → ℕ
reader_from reader = reader.from

-- how far it has read from there without a gap
abbrev pub reader_read_to : {S : Type 0} → SharedReader S → ℕ
reader_read_to reader = reader.read_to

-- the offset from which its next plain read continues
abbrev pub reader_place : {S : Type 0} → SharedReader S → ℕ
reader_place reader = reader.at

-- how often it failed
abbrev pub reader_failures : {S : Type 0} → SharedReader S → ℕ
reader_failures reader = reader.failures.count

-- HOW FAR a device is read without a gap, if its bytes are known, after it counted those of a span as read
-- to the end of the span, if that begins where the device was read to, or before
abbrev pub CountsSpan : {D : Type 0} → (text : D → Option (List ℕ)) → (read_to : D → ℕ) → (old new : D) → (span : Span) → Type 0
CountsSpan text read_to old new span = IfSome (text old) (λ _. span_from span ≤ read_to old → span_to span ≤ read_to new)

-- no further than before, or than to the end of such a span
abbrev pub CountsNoMore : {D : Type 0} → (text : D → Option (List ℕ)) → (read_to : D → ℕ) → (old new : D) → (span : Span) → Type 0
CountsNoMore text read_to old new span = IfSome (text old)
    (λ _. (read_to new ≡ read_to old) ⊎ ((span_from span ≤ read_to old) × (read_to new ≡ span_to span)))

-- A READ gives bytes of the device from an offset on, and none only if there are none
abbrev pub GivesFrom : {E : Type 0} → (text : Option (List ℕ)) → (offset : ℕ) → Result ℕ E → (buffer : List ℕ) → Type 0
GivesFrom text offset result buffer = IfOk result (λ count. ReadsFrom text offset count buffer)

abbrev pub EndsIfNone : {E : Type 0} → (text : Option (List ℕ)) → (offset : ℕ) → Result ℕ E → (buffer : List ℕ) → Type 0
EndsIfNone text offset result buffer = IfOk result (λ count. count ≡ 0 → 0 < length buffer → EndsBy text offset)

-- a reader gives and ends so, by the bytes of its source
module _ {S E : Type 0} (text : S → Option (List ℕ)) where
  abbrev pub ReaderGives : SharedReader S → (offset : ℕ) → Result ℕ E → (buffer : List ℕ) → Type 0
  ReaderGives reader offset result buffer = GivesFrom (text (reader_source reader)) offset result buffer

  abbrev pub ReaderEnds : SharedReader S → (offset : ℕ) → Result ℕ E → (buffer : List ℕ) → Type 0
  ReaderEnds reader offset result buffer = EndsIfNone (text (reader_source reader)) offset result buffer

  -- and this is how far it has then read without a gap
  abbrev pub ReaderReaches : (old new : SharedReader S) → (offset : ℕ) → Result ℕ E → Type 0
  ReaderReaches old new offset result = Reaches (text (reader_source old)) (reader_read_to old) (reader_read_to new) offset result

-- whatever the bytes are
abbrev pub ReachesInAny : {S E : Type 0} → (old new : SharedReader S) → (offset : ℕ) → Result ℕ E → Type 0
ReachesInAny old new offset result = (text : Option (List ℕ)) → Reaches text (reader_read_to old) (reader_read_to new) offset result
