-- What contracts know of the devices over memory (own).
use Rattle.std.specs.Prelude.{ℕ, List}
use Rattle.device.specs.declared.memory.MemorySource.{MemorySource}
use Rattle.device.specs.declared.memory.MemorySink.{MemorySink}
use Rattle.device.specs.declared.memory.SharedBytes.{SharedBytes}
use Rattle.device.specs.Kept.{bytes_taken as kept_taken, bytes_flushed as kept_flushed}

-- the bytes that are left to be read
abbrev pub bytes_left : MemorySource → List ℕ
bytes_left source = source.rest.now

-- all bytes that threads read at once
abbrev pub bytes_shared : SharedBytes → List ℕ
bytes_shared source = source.bytes.now

-- all bytes that the source holds
abbrev pub bytes_held : MemorySource → List ℕ
bytes_held source = bytes_shared source.shared

-- the bytes taken so far
abbrev pub bytes_taken : MemorySink → List ℕ
bytes_taken sink = kept_taken sink.kept

-- those of them that are flushed
abbrev pub bytes_flushed : MemorySink → List ℕ
bytes_flushed sink = kept_flushed sink.kept

-- how often memory was refused
abbrev pub failures_met : MemorySink → ℕ
failures_met sink = sink.failures.count
