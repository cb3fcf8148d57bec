-- The numbers of the faults (own).
use Rattle.std.specs.Prelude.{ℕ}
use Rattle.page.specs.declared.fault.Fault.{Fault}
use Rattle.page.specs.declared.fault.Fault.TheVariants.{NoResource, ReadLog, ReadStore, WriteLog, WriteStore, BadLogHeader, BadLength, BadRecord, BadLsn, BadStoreHeader, StoreSize, BadPage, BadMaster, NoSuchPage, PageAheadOfLog, BrokenChain, BadParting, BadWorkers, Chain, AfterFinish, WrongCompensation, BeforeImage, DirtyWrite, EndTooEarly, PageImage, TransactionTable, DirtyTable, BadBase}

abbrev pub number_of : Fault → ℕ
number_of NoResource = 1
number_of ReadLog = 2
number_of ReadStore = 3
number_of WriteLog = 4
number_of WriteStore = 5
number_of BadLogHeader = 6
number_of (BadLength offset) = 7
number_of (BadRecord offset) = 8
number_of (BadLsn offset) = 9
number_of BadStoreHeader = 10
number_of StoreSize = 11
number_of (BadPage number) = 12
number_of BadMaster = 13
number_of (NoSuchPage lsn) = 14
number_of (PageAheadOfLog number) = 15
number_of (BrokenChain lsn) = 16
number_of BadParting = 17
number_of BadWorkers = 18
number_of (Chain lsn) = 20
number_of (AfterFinish lsn) = 21
number_of (WrongCompensation lsn) = 22
number_of (BeforeImage lsn) = 23
number_of (DirtyWrite lsn) = 24
number_of (EndTooEarly lsn) = 25
number_of (PageImage number) = 26
number_of TransactionTable = 27
number_of (DirtyTable number) = 28
number_of BadBase = 29
