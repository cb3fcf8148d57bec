-- A recovery of bytes: what was read, what is written, and its errors.
use Rattle.std.proofs.Common.{ℕ, ◌≡◌, ◌+◌, ◌-◌, List, [], ◌∷◌, ◌++◌, length, take, Result, Ok, Err, refl, sym, subst, ap, ap₂, ◌∙◌, arith, inl, inr, append_assoc, append-nil, ◌%◌}
use Rattle.std.proofs.lemmas.List.{take_at, length-append}
use Rattle.std.proofs.lemmas.List.FromFn.{length-map-range_with_len}
use Rattle.page.specs.Store.{StoreContent}
use Rattle.page.specs.declared.fault.Fault.{Fault}
use Rattle.page.specs.declared.fault.Fault.TheVariants.{NoResource, BadWorkers, BadParting}
use Rattle.page.specs.File.{StoreFault}
use Rattle.log_laws.proofs.Histories.{size_of_log}
use Rattle.log_laws.specs.Records.{LogRecord, LogContent, last_lsn, history, ◌⧺◌, lsn_before}
use Rattle.wal.specs.Frames.{Gives}
use Rattle.wal.specs.Reads.{Reads, spellings, log_text}
use Rattle.wal.specs.Spelling.{frame}
use Rattle.log_laws.specs.Meaning.{BasePages}
use Rattle.log_laws.specs.Store.{Lawful}
use Rattle.wal.proofs.CutBytes.{spellings-append}
use Rattle.redo.specs.Parting.{PartingContent, by_number}
use Rattle.restart.specs.declared.options.Options.{Options}
use Rattle.restart.specs.Restart.{AreSettings, InputFault, RestartFault}
use Rattle.recovery.specs.Recovery.{Decoded, ReadsAs, AreLawful, RecoveryCause}
use Rattle.restart.specs.Options.{AreInRange}
use Rattle.restart.proofs.Causes.{settings_hold}
use Rattle.wal.specs.Headers.{header_of}

-- WHAT WAS READ
-- the log without its torn tail
pub kept_text : (bytes : List ℕ) (read : LogContent) (torn : ℕ) → Reads bytes read torn → take (length bytes - torn) bytes ≡ log_text read
kept_text bytes read torn reads =
    let len : length bytes ≡ length (log_text read) + torn = ap length reads.text ∙ omega (arith, length-append (log_text read) reads.tail, reads.torn_count) in
    let front : length bytes - torn ≡ length (log_text read) = omega (arith, len) in
    ap₂ (λ n (b : List ℕ). take n b) front reads.text ∙ take_at (log_text read) reads.tail (length (log_text read)) refl

-- what was read of lawful bytes is lawful
pub is_lawful : {base : BasePages} {log store : List ℕ} (bytes : AreLawful base log store) (read : LogContent) (before : StoreContent) → read ≡ bytes.decoded.read → before ≡ bytes.decoded.before → Lawful base read before
is_lawful {base} bytes read before e f = subst (λ l. Lawful base l before) (sym e) (subst (Lawful base bytes.decoded.read) (sym f) bytes.lawful)

-- what is there is read, unless memory is refused
pub read_alone : {X Y : Type 0} (view : X → Y) (e : Fault) (y : Y) → Gives view (Err e) (Ok y) → e ≡ NoResource
read_alone view NoResource y gives = refl
read_alone view e y gives = absurd (cc)

pub read_same : {X : Type 0} (x y : X) → Gives (λ (z : X). z) (Ok x) (Ok y) → x ≡ y
read_same x y gives = cc

-- a result of a reader of logs
pub none_read : (log : List ℕ) (answer : Result (LogContent × ℕ) Fault) (e : Fault) (read : LogContent) (torn : ℕ) → answer ≡ Err e → ReadsAs log answer → Reads log read torn → e ≡ NoResource
none_read log answer e read torn was reads spelled =
    read_alone (λ x. x) e (read, torn) (subst (λ a. Gives (λ x. x) a (Ok (read, torn))) was (reads.only read torn spelled))

pub one_read : (log : List ℕ) (answer : Result (LogContent × ℕ) Fault) (x : LogContent × ℕ) (read : LogContent) (torn : ℕ) → answer ≡ Ok x → ReadsAs log answer → Reads log read torn → x ≡ (read, torn)
one_read log answer x read torn was reads spelled =
    read_same x (read, torn) (subst (λ a. Gives (λ x. x) a (Ok (read, torn))) was (reads.only read torn spelled))

-- WHAT IS WRITTEN
-- one more frame
pub spellings_push : (out new : List ℕ) (lsn next : ℕ) (xs : List LogRecord) (x : LogRecord) → next ≡ lsn + length xs → out ≡ spellings lsn xs → new ≡ out ++ frame x next → new ≡ spellings lsn (xs ++ x ∷ [])
spellings_push out new lsn next xs x at before after =
    after ∙ ap₂ (λ (o : List ℕ) n. o ++ frame x n) before at
    ∙ sym (spellings-append lsn xs (x ∷ []) ∙ ap (λ (s : List ℕ). spellings lsn xs ++ s) (append-nil (frame x (lsn + length xs))))

-- the bytes of a log, followed by the frames of more records
pub text_extended : (log : LogContent) (more : List LogRecord) (kept frames : List ℕ) (lsn : ℕ) → kept ≡ log_text log → lsn ≡ last_lsn (history log) + 1 → frames ≡ spellings lsn more → kept ++ frames ≡ log_text (log ⧺ more)
text_extended log more kept frames lsn front at behind =
    let first = lsn_before log.begins + 1 in
    ap₂ (λ (k : List ℕ) (f : List ℕ). k ++ f) front (behind ∙ ap (λ n. spellings n more) (at ∙ omega (arith, size_of_log log)))
    ∙ append_assoc (header_of log.begins) (spellings first log.records) (spellings (first + length log.records) more)
    ∙ ap (λ (s : List ℕ). header_of log.begins ++ s) (sym (spellings-append first log.records more))

-- the pages of a partition by number
pub dealt_by_number : (pages parts : ℕ) (part_of : List ℕ) → part_of ≡ by_number pages parts → length part_of ≡ pages
dealt_by_number pages parts part_of is = ap length is ∙ length-map-range_with_len (λ page. page % parts) 0 pages

-- an error of the store's bytes, if those of the log are read
pub store_cause : (log store : List ℕ) (options : Options) (e : Fault) → AreInRange options → (read : LogContent) (torn : ℕ) → Reads log read torn → StoreFault store e → RecoveryCause log store options e
store_cause log store options NoResource range read torn reads h = tt
store_cause log store options BadWorkers range read torn reads h = absurd h
store_cause log store options BadParting range read torn reads h = absurd h
store_cause log store options e range read torn reads h = (range, inr (inl (read, torn, reads, h)))

-- THE ERRORS
-- if a restart has an error of its input, the recovery has it
pub input_cause : (log store : List ℕ) (options : Options) (e : Fault) → AreInRange options → (decoded : Decoded log store) → InputFault decoded.read decoded.before e → RecoveryCause log store options e
input_cause log store options NoResource range decoded h = tt
input_cause log store options BadWorkers range decoded h = absurd h.1.holds
input_cause log store options BadParting range decoded h = absurd h.1.holds
input_cause log store options e range decoded h = (range, inr (inr (decoded, h)))

-- an error of the restart is an error of the recovery
pub restart_cause : (log store : List ℕ) (options : Options) (parting : PartingContent) (e : Fault) → AreInRange options → (decoded : Decoded log store) → AreSettings (length decoded.before.pages) parting options.workers
    → RestartFault decoded.read decoded.before parting options.workers e → RecoveryCause log store options e
restart_cause log store options parting e range decoded fit (inl h) = absurd (settings_hold (length decoded.before.pages) parting options.workers e fit h)
restart_cause log store options parting e range decoded fit (inr h) = input_cause log store options e range decoded h.1
