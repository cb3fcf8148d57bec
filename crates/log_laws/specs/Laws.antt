-- The laws that each record keeps after the log before it: the laws of ARIES in normal running.
use Rattle.std.specs.Prelude.{◌≡◌, ◌≢◌, ℕ, List, [], ◌∷◌, Some, IfSome, true, false, ⊤}
use Rattle.log_laws.specs.Records.{UpdateRecord, CompensationRecord, LogRecord, Update, Compensation, Commit, Abort, End, Prepare, CheckpointBegin, CheckpointEnd, History, start, ◌▸◌, record_at}
use Rattle.log_laws.specs.Meaning.{BasePages, owner, prev_of, committed, aborted, ended, finished, prepared, in_doubt, replay, touches, pending, last_of}

-- CHAIN. PrevLSN is the LSN of the transaction's last record before it, or 0 if there is none. ARIES, section 4.1.
abbrev pub ChainLaw : History → LogRecord → Type 0
ChainLaw log r = IfSome (owner r) (λ t. prev_of r ≡ last_of t log)

-- FINISH. Nothing follows an end, only an end follows a commit, only CLRs and an end follow an abort, only a commit or an abort follows a
-- prepare. ARIES, sections 5.2 and 5.3; that the end after a commit is optional is own.
abbrev pub FinishLaw : History → LogRecord → Type 0
FinishLaw log (Update u) = (finished u.tx log ≡ false) × (aborted u.tx log ≡ false) × (prepared u.tx log ≡ false)
FinishLaw log (Compensation c) = (finished c.tx log ≡ false) × (in_doubt c.tx log ≡ false)
FinishLaw log (Commit s) = (finished s.tx log ≡ false) × (aborted s.tx log ≡ false)
FinishLaw log (Abort s) = (finished s.tx log ≡ false) × (aborted s.tx log ≡ false)
FinishLaw log (End s) = (ended s.tx log ≡ false) × (in_doubt s.tx log ≡ false)
FinishLaw log (Prepare s) = (finished s.tx log ≡ false) × (aborted s.tx log ≡ false) × (prepared s.tx log ≡ false)
FinishLaw log CheckpointBegin = ⊤
FinishLaw log (CheckpointEnd begin transactions dirty) = ⊤

-- the CLR undoes the newest pending update of its transaction: it names the cell of the update, brings back its before image, and points to
-- its PrevLSN
pub record Compensates (log : History) (c : CompensationRecord) : Type 0 where
  pub lsn : ℕ
  pub below : List ℕ
  pub update : UpdateRecord
  pub newest : pending c.tx log ≡ lsn ∷ below
  pub found : record_at log lsn ≡ Some (Update update)
  pub page : c.page ≡ update.page
  pub slot : c.slot ≡ update.slot
  pub image : c.image ≡ update.before
  pub undo_next : c.undo_next ≡ update.prev

-- COMPENSATION. A CLR undoes the newest pending update; at an end without a commit none is left. ARIES, sections 5.2 and 6.3.
abbrev pub CompensationLaw : History → LogRecord → Type 0
CompensationLaw log (Compensation c) = Compensates log c
CompensationLaw log (End s) = committed s.tx log ≡ false → pending s.tx log ≡ []
CompensationLaw log _ = ⊤

-- BEFORE. A before image is what the log so far leaves in the cell, over the base pages. ARIES, section 4.1 (undo information).
abbrev pub BeforeLaw : BasePages → History → LogRecord → Type 0
BeforeLaw base log (Update u) = u.before ≡ replay base log u.page u.slot
BeforeLaw base log _ = ⊤

-- STRICTNESS. No transaction updates a cell in which another unfinished transaction has an update or a CLR. ARIES, section 1.2 (locks held
-- to the end), here as a law of the log: own.
abbrev pub Strictness : History → LogRecord → Type 0
Strictness log (Update u) = (other : ℕ) → other ≢ u.tx → touches other u.page u.slot log ≡ true → finished other log ≡ true
Strictness log _ = ⊤

pub record Obeys (base : BasePages) (log : History) (r : LogRecord) : Type 0 where
  pub chain : ChainLaw log r
  pub finish : FinishLaw log r
  pub compensation : CompensationLaw log r
  pub before : BeforeLaw base log r
  pub strict : Strictness log r

-- LAWFUL LOG over base pages. Each record obeys the laws after the log before it.
abbrev pub IsLawful : BasePages → History → Type 0
IsLawful base (start _) = ⊤
IsLawful base (log ▸ r) = IsLawful base log × Obeys base log r
