-- What C gets of a fault (own).
use Rattle.std.specs.Prelude.{◌≡◌, ◌≢◌, ◌<◌, ◌^◌, ◌⊎◌, ℕ, ⊤}
use Rattle.page.specs.Fault.{number_of}
use Rattle.page.specs.declared.fault.Fault.{Fault}
use Rattle.page.specs.declared.fault.Fault.TheVariants.{NoResource, ReadLog, ReadStore, WriteLog, WriteStore, BadLogHeader, BadLength, BadRecord, BadLsn, BadStoreHeader, StoreSize, BadPage, BadMaster, NoSuchPage, PageAheadOfLog, BrokenChain, BadParting, BadWorkers, Chain, AfterFinish, WrongCompensation, BeforeImage, DirtyWrite, EndTooEarly, PageImage, TransactionTable, DirtyTable, BadBase}
use Rattle.aries_c.specs.declared.fault.Fault.{Fault as Told}
use Rattle.aries_c.specs.declared.fault.TheConstants.{NO_ROOM, NOT_WRITABLE}

-- the place that a fault carries, 0 if it carries none
abbrev pub place_of : Fault → ℕ
place_of NoResource = 0
place_of ReadLog = 0
place_of ReadStore = 0
place_of WriteLog = 0
place_of WriteStore = 0
place_of BadLogHeader = 0
place_of (BadLength offset) = offset
place_of (BadRecord offset) = offset
place_of (BadLsn offset) = offset
place_of BadStoreHeader = 0
place_of StoreSize = 0
place_of (BadPage number) = number
place_of BadMaster = 0
place_of (NoSuchPage lsn) = lsn
place_of (PageAheadOfLog number) = number
place_of (BrokenChain lsn) = lsn
place_of BadParting = 0
place_of BadWorkers = 0
place_of (Chain lsn) = lsn
place_of (AfterFinish lsn) = lsn
place_of (WrongCompensation lsn) = lsn
place_of (BeforeImage lsn) = lsn
place_of (DirtyWrite lsn) = lsn
place_of (EndTooEarly lsn) = lsn
place_of (PageImage number) = number
place_of TransactionTable = 0
place_of (DirtyTable number) = number
place_of BadBase = 0

-- the fault, for C
abbrev pub told_of : Fault → Told
told_of fault = record { number = number_of fault; place = place_of fault }

-- C gets a fault of which this holds
abbrev pub Tells : (Fault → Type 0) → Told → Type 0
Tells Holds told = (fault : Fault) × Holds fault × (told ≡ told_of fault)

-- WHAT IS NOT A FAULT OF THE LIBRARY
-- the call succeeded
abbrev pub done : Told
done = record { number = 0; place = 0 }

-- memory was refused
abbrev pub no_memory : Told
no_memory = record { number = 1; place = 0 }

-- a buffer is too short
abbrev pub no_room : Told
no_room = record { number = 64; place = 0 }

-- what is named has no encoding, or is not there
abbrev pub not_writable : Told
not_writable = record { number = 65; place = 0 }

-- the call has no error except a lack of memory
abbrev pub IsOnlyMemory : Told → Type 0
IsOnlyMemory told = (told ≡ done) ⊎ (told ≡ no_memory)

-- the call has no error except a lack of memory and a buffer that is too short
abbrev pub IsOnlyMemoryOrRoom : Told → Type 0
IsOnlyMemoryOrRoom told = (told ≡ done) ⊎ ((told ≡ no_memory) ⊎ (told ≡ no_room))

-- memory was refused, or what is named is not writable, and this holds
abbrev pub IsMemoryOrNotWritable : Type 0 → Told → Type 0
IsMemoryOrNotWritable Holds told = (told ≡ no_memory) ⊎ ((told ≡ not_writable) × Holds)

-- a buffer is too short, what is named is not there, or C gets a fault of which this holds
abbrev pub TellsOrRefuses : (Fault → Type 0) → Told → Type 0
TellsOrRefuses Holds told = (told ≡ no_room) ⊎ ((told ≡ not_writable) ⊎ Tells Holds told)

-- BY THE NUMBER THAT A CALL RETURNS
-- what holds if it succeeded
abbrev pub OnDone : Told → Type 0 → Type 0
OnDone told Holds = told.number ≡ 0 → Holds

-- if it failed
abbrev pub OnFailed : Told → Type 0 → Type 0
OnFailed told Holds = told.number ≢ 0 → Holds

-- if a buffer is too short
abbrev pub OnNoRoom : Told → Type 0 → Type 0
OnNoRoom told Holds = told.number ≡ NO_ROOM → Holds

-- if it failed for another reason
abbrev pub OnOtherFailure : Told → Type 0 → Type 0
OnOtherFailure told Holds = told.number ≢ 0 → told.number ≢ NO_ROOM → Holds

-- if what is named has no encoding, or is not there
abbrev pub OnNotWritable : Told → Type 0 → Type 0
OnNotWritable told Holds = told.number ≡ NOT_WRITABLE → Holds

-- if it succeeded, or a buffer is too short
abbrev pub OnMade : Told → Type 0 → Type 0
OnMade told Holds = (told.number ≡ 0) ⊎ (told.number ≡ NO_ROOM) → Holds

-- BY ITS PLACE
-- no place
abbrev pub IsBare : Fault → Type 0
IsBare NoResource = ⊤
IsBare ReadLog = ⊤
IsBare ReadStore = ⊤
IsBare WriteLog = ⊤
IsBare WriteStore = ⊤
IsBare BadLogHeader = ⊤
IsBare BadStoreHeader = ⊤
IsBare StoreSize = ⊤
IsBare BadMaster = ⊤
IsBare BadParting = ⊤
IsBare BadWorkers = ⊤
IsBare TransactionTable = ⊤
IsBare BadBase = ⊤
IsBare fault = ⊥

-- a page
abbrev pub IsOfPage : Fault → Type 0
IsOfPage (BadPage number) = number < 2 ^ 32
IsOfPage (PageAheadOfLog number) = number < 2 ^ 32
IsOfPage (PageImage number) = number < 2 ^ 32
IsOfPage (DirtyTable number) = number < 2 ^ 32
IsOfPage fault = ⊥

-- an offset or an LSN
abbrev pub IsAtLsn : Fault → Type 0
IsAtLsn (BadLength offset) = ⊤
IsAtLsn (BadRecord offset) = ⊤
IsAtLsn (BadLsn offset) = ⊤
IsAtLsn (NoSuchPage lsn) = ⊤
IsAtLsn (BrokenChain lsn) = ⊤
IsAtLsn (Chain lsn) = ⊤
IsAtLsn (AfterFinish lsn) = ⊤
IsAtLsn (WrongCompensation lsn) = ⊤
IsAtLsn (BeforeImage lsn) = ⊤
IsAtLsn (DirtyWrite lsn) = ⊤
IsAtLsn (EndTooEarly lsn) = ⊤
IsAtLsn fault = ⊥

-- a fault of the library, whose page is a number of 32 bits
abbrev pub IsFault : Fault → Type 0
IsFault fault = IsBare fault ⊎ (IsAtLsn fault ⊎ IsOfPage fault)

-- C gives the fault of this number and, unless it is one without a place, of this place
abbrev pub NamesFault : Told → Type 0
NamesFault told = (fault : Fault) × (number_of fault ≡ told.number) × (¬ IsBare fault → told_of fault ≡ told)

-- C gives no fault of the library
abbrev pub NamesNoFault : Told → Type 0
NamesNoFault told = (fault : Fault) → IsFault fault → told ≢ told_of fault
