-- What contracts know of the devices for tests (own).
use Rattle.std.specs.Prelude.{ℕ, List}
use Rattle.device.specs.declared.slow.SlowSource.{SlowSource}
use Rattle.device.specs.declared.slow.SlowSink.{SlowSink}
use Rattle.device.specs.declared.slow.SlowBytes.{SlowBytes}
use Rattle.device.specs.Kept.{bytes_taken as kept_taken, bytes_flushed as kept_flushed}

-- the bytes that are left to be read
abbrev pub bytes_left : SlowSource → List ℕ
bytes_left source = source.rest.now

-- all bytes that threads read at once
abbrev pub bytes_shared : SlowBytes → List ℕ
bytes_shared source = source.bytes.now

-- all bytes that the source holds
abbrev pub bytes_held : SlowSource → List ℕ
bytes_held source = bytes_shared source.shared

-- how many of them are read at offsets, without a gap
abbrev pub bytes_joined : SlowSource → ℕ
bytes_joined source = source.read_to

-- the bytes taken so far
abbrev pub bytes_taken : SlowSink → List ℕ
bytes_taken sink = kept_taken sink.kept

-- those of them that are flushed
abbrev pub bytes_flushed : SlowSink → List ℕ
bytes_flushed sink = kept_flushed sink.kept

-- how often it failed in reading
abbrev pub read_failures : SlowSource → ℕ
read_failures source = source.failures.count

-- how often it failed in writing
abbrev pub write_failures : SlowSink → ℕ
write_failures sink = sink.failures.count
