-- What contracts know of the devices over files (own).
use Rattle.std.specs.Prelude.{◌≡◌, ℕ, List, Some, IfSome, OnOk, Result}
use Rattle.std.specs.declared.option.Option.{Option}
use Rattle.std.specs.Io.KnownBytes.{ReadConsumes, WriteAppends}
use Rattle.device.specs.declared.file.FileSource.{FileSource}
use Rattle.device.specs.declared.file.FileSink.{FileSink}
use Rattle.device.specs.declared.file.FileLog.{FileLog}
use Rattle.device.specs.declared.shared_file.SharedFileSource.{SharedFileSource}

-- the file that is read
abbrev pub read_file : {F : Type 0} → FileSource F → F
read_file source = source.file

-- how often it failed
abbrev pub read_failures : {F : Type 0} → FileSource F → ℕ
read_failures source = source.failures.count

-- the source of its own, of a file that other threads read too
abbrev pub own_source : {F : Type 0} → SharedFileSource F → FileSource F
own_source source = source.source

-- how often it failed
abbrev pub own_failures : {F : Type 0} → SharedFileSource F → ℕ
own_failures source = read_failures (own_source source)

-- if a read succeeded, the file was at the offset before it, if its position is known, and gave these bytes from there
abbrev pub ReadsThere : {F E : Type 0} → (position : F → Option ℕ) → (remaining : F → Option (List ℕ)) → (before after : F) → (offset : ℕ)
    → Result ℕ E → (buffer : List ℕ) → Type 0
ReadsThere {F} position remaining before after offset result buffer = OnOk result ((there : F)
    × IfSome (position before) (λ _. position there ≡ Some offset) × ReadConsumes (remaining there) (remaining after) result buffer)

-- the same of the file that such a source reads
abbrev pub OwnReads : {F E : Type 0} → (position : F → Option ℕ) → (remaining : F → Option (List ℕ)) → (before after : SharedFileSource F) → (offset : ℕ)
    → Result ℕ E → (buffer : List ℕ) → Type 0
OwnReads position remaining before after = ReadsThere position remaining (read_file (own_source before)) (read_file (own_source after))

-- the file that is written
abbrev pub written_file : {F : Type 0} → FileSink F → F
written_file sink = sink.file

-- how often it failed
abbrev pub write_failures : {F : Type 0} → FileSink F → ℕ
write_failures sink = sink.failures.count

-- the file of a log that is continued
abbrev pub log_file : {F : Type 0} → FileLog F → F
log_file log = log.sink.file

-- a write to it appended to its file the bytes that it says it took
abbrev pub AppendsToLog : {F E : Type 0} → (contents : F → Option (List ℕ)) → (before after : FileLog F) → Result ℕ E → List ℕ → Type 0
AppendsToLog contents before after result bytes = WriteAppends (contents (log_file before)) (contents (log_file after)) result bytes

-- how often it failed
abbrev pub log_failures : {F : Type 0} → FileLog F → ℕ
log_failures log = log.sink.failures.count
