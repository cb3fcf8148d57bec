-- What contracts know after all of a device is read, written or flushed (own).
use Rattle.std.specs.Prelude.{◌≡◌, ℕ, List, ◌≤◌, ◌++◌, length, take, IfSome}
use Rattle.std.specs.declared.option.Option.{Option}
use Rattle.std.specs.Io.KnownBytes.{Appends, Consumes}
use Rattle.device.specs.declared.transfer.ReadFault.{ReadFault}
use Rattle.device.specs.declared.transfer.ReadFault.TheVariants.{Failed, NoMemory}

-- how often the device failed in a read that returned this fault
abbrev pub failures_of : ReadFault → ℕ
failures_of Failed = 1
failures_of NoMemory = 0

-- a prefix of the bytes that were left has been read
abbrev pub ReadBeginning : Option (List ℕ) → Option (List ℕ) → Type 0
ReadBeginning old new = (bytes : List ℕ) × Consumes old new bytes

-- the bytes are these in front, followed by what was read
abbrev pub ReadBehind : (old new : Option (List ℕ)) → (front bytes : List ℕ) → Type 0
ReadBehind old new front bytes = (rest : List ℕ) × (bytes ≡ front ++ rest) × Consumes old new rest

-- a prefix of these bytes has been taken
abbrev pub TookBeginning : Option (List ℕ) → Option (List ℕ) → List ℕ → Type 0
TookBeginning old new bytes = (count : ℕ) × (count ≤ length bytes) × Appends old new (take count bytes)

-- if the flushed bytes of a device were known, they are now all that it has taken
abbrev pub Flushes : (before after taken : Option (List ℕ)) → Type 0
Flushes before after taken = IfSome before (λ _. after ≡ taken)
