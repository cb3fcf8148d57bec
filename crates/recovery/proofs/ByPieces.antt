-- A log that is read in pieces: what is read again of it, and its errors.
use Rattle.std.proofs.Common.{ℕ, ◌≡◌, ◌≤◌, ◌+◌, ◌-◌, ◌^◌, List, length, take, drop, Option, Some, None, Result, Ok, Err, refl, sym, ap, subst, ◌∙◌, inl, inr, arith, length-take}
use Rattle.std.proofs.lemmas.List.{drop-take}
use Rattle.std.specs.Prelude.{IfSome}
use Rattle.std.specs.Io.KnownBytes.{Keeps}
use Rattle.device.specs.Reread.{EndsBy, IsReadThrough, ReachesTo}
use Rattle.page.specs.declared.fault.Fault.{Fault}
use Rattle.page.specs.declared.fault.Fault.TheVariants.{NoResource, ReadLog, ReadStore, WriteLog, WriteStore, BadWorkers, BadParting}
use Rattle.page.specs.declared.page.Page.{Page}
use Rattle.page.specs.Store.{StoreContent}
use Rattle.page.specs.File.{SpellsStore}
use Rattle.wal.specs.Reads.{Cause as LogFault}
use Rattle.passes.specs.declared.fault.PassFault.{PassFault}
use Rattle.passes.specs.declared.fault.PassFault.TheVariants as pass
use Rattle.passes.specs.Marks.{IsResource}
use Rattle.passes.specs.InPieces.{InPiecesCause}
use Rattle.restart.specs.declared.options.Options.{Options}
use Rattle.restart.specs.Options.{AreInRange}
use Rattle.restart.specs.Restart.{store_with}
use Rattle.recovery.specs.Recovery.{RecoveryCause}
use Rattle.recovery.specs.Devices.{FailsOnlyWith, IsFaultOf, SourcesGave, DeviceCause, IsResourceOrDevice}
use Rattle.recovery.specs.TailFile.{end_of}
use Rattle.recovery.specs.ByPieces.{IsLogRead, OnceLogRead, LogComesFirst, fault_of, ReadingCause}
use Rattle.recovery.proofs.Bytes.{input_cause}
use Rattle.recovery.proofs.Delivered.{device_cause, is_resource}
use Rattle.recovery.specs.declared.tail_file.TheConstants.{END_BYTES}

-- WHAT IS KNOWN OF A DEVICE
pub at_some : {A : Type 0} (P : A → Type 0) (o : Option A) (x : A) → o ≡ Some x → IfSome o P → P x
at_some P o x e h = subst (λ y. IfSome y P) e h

-- the end of what is kept, read again
pub end_again : (kept offset : ℕ) (text : List ℕ) → offset ≡ kept - END_BYTES → kept ≤ length text → take (kept - offset) (drop offset text) ≡ end_of (take kept text)
end_again kept offset text at within =
    let all : offset + (kept - offset) ≡ kept = omega (arith, at) in
    let long : length (take kept text) - END_BYTES ≡ offset = omega (arith, length-take kept text, within, at) in
    sym (drop-take offset (kept - offset) text) ∙ ap (λ n. drop offset (take n text)) all ∙ sym (ap (λ n. drop n (take kept text)) long)

-- FAILURES of a log's device
pub failed : {U : Type 0} (s : Result U Fault) (a b c : ℕ) → s ≡ Err ReadLog → b ≡ a → c ≡ b + 1 → FailsOnlyWith ReadLog s a c
failed s a b c is before after = record { blamed = λ _. omega (arith, before, after); innocent = λ other. absurd (other is) }

pub ok_is_no_fault : {U : Type 0} (x : U) (e : Fault) → Ok x ≡ Err e → ⊥
ok_is_no_fault x e is = absurd cc

pub none_failed : {U : Type 0} (x : U) (a c : ℕ) → c ≡ a → FailsOnlyWith ReadLog (Ok x) a c
none_failed x a c same = record { blamed = λ is. absurd (ok_is_no_fault x ReadLog is); innocent = λ _. same }

-- ERRORS
-- lack of memory, or the log's device
pub resource_of_log : (e : PassFault) → IsResource e → IsFaultOf ReadLog (fault_of e)
resource_of_log e (inl failed) = subst (λ x. IsFaultOf ReadLog (fault_of x)) (sym failed) (inr refl)
resource_of_log e (inr none) = subst (λ x. IsFaultOf ReadLog (fault_of x)) (sym none) (inl refl)

-- an error of the log's bytes
pub log_cause : (log store : List ℕ) (options : Options) (e : Fault) → AreInRange options → LogFault log e → RecoveryCause log store options e
log_cause log store options NoResource range h = tt
log_cause log store options BadWorkers range h = absurd h.behind.fault
log_cause log store options BadParting range h = absurd h.behind.fault
log_cause log store options e range h = (range, inl h)

-- an error of a restart in pieces
pub reading_cause : (log store : List ℕ) (options : Options) (before : StoreContent) (e : PassFault) → SpellsStore store before → AreInRange options → InPiecesCause log before e → ReadingCause log store options (fault_of e)
reading_cause log store options before pass.Failed spells range h = inl refl
reading_cause log store options before (pass.Fault ReadLog) spells range h = inr tt
reading_cause log store options before (pass.Fault ReadStore) spells range h = inr tt
reading_cause log store options before (pass.Fault WriteLog) spells range h = inr tt
reading_cause log store options before (pass.Fault WriteStore) spells range h = inr tt
reading_cause log store options before (pass.Fault e) spells range (inl cause) = inr (log_cause log store options e range cause)
reading_cause log store options before (pass.Fault e) spells range (inr (whole, torn, reads, cause)) =
    inr (input_cause log store options e range (record { read = whole; torn = torn; before = before; reads = reads; spells = spells }) cause)

pub of_log : (e : Fault) → IsFaultOf ReadLog e → IsResourceOrDevice e
of_log e (inl none) = is_resource e none
of_log e (inr failed) = subst IsResourceOrDevice (sym failed) tt

pub by_device : (store_left : Option (List ℕ)) (options : Options) (log store : List ℕ) (e : Fault) → SourcesGave (Some log) store_left log store → ReadingCause log store options e → DeviceCause (Some log) store_left options e
by_device store_left options log store e read (inl failed) = subst (DeviceCause (Some log) store_left options) (sym failed) tt
by_device store_left options log store e read (inr cause) = device_cause (Some log) store_left options log store e read cause

-- THE LOG is read to its end before a fault is returned
pub comes_first : (log_read : Type 0) (e : Fault) → OnceLogRead log_read e → LogComesFirst log_read e
comes_first log_read BadWorkers h = tt
comes_first log_read BadParting h = tt
comes_first log_read e h = h

pub comes_read : (log_read : Type 0) (e : Fault) → log_read → LogComesFirst log_read e
comes_read log_read NoResource h = tt
comes_read log_read ReadLog h = tt
comes_read log_read BadWorkers h = tt
comes_read log_read BadParting h = tt
comes_read log_read e h = h

-- all of a log is read if its device held the same before
pub log_read : (before now : Option (List ℕ)) (m : ℕ) → Keeps before now → IsLogRead now m → IsLogRead before m
log_read None now m kept read = tt
log_read (Some held) None m kept read = absurd kept
log_read (Some held) (Some same) m kept (inl all) = inl (omega (arith, all, ap (λ (bytes : List ℕ). length bytes) kept))
log_read (Some held) (Some same) m kept (inr most) = inr most

pub once_read : (before now : Option (List ℕ)) (m : ℕ) (e : Fault) → Keeps before now → OnceLogRead (IsLogRead now m) e → OnceLogRead (IsLogRead before m) e
once_read before now m NoResource kept h = tt
once_read before now m ReadLog kept h = tt
once_read before now m e kept h = log_read before now m kept h

-- by a reading to the end
pub log_read_through : (text : Option (List ℕ)) (m : ℕ) → IsReadThrough text m → IsLogRead text m
log_read_through None m read = tt
log_read_through (Some held) m read = inl read

-- by the last bytes, or by as many as no device holds
pub log_read_all : (before now : Option (List ℕ)) (m offset : ℕ) → Keeps before now → ReachesTo before offset m → EndsBy now offset → IsLogRead before m
log_read_all None now m offset kept far end = tt
log_read_all (Some held) None m offset kept far end = absurd kept
log_read_all (Some held) (Some same) m offset kept far end = inl (omega (arith, far, end, ap (λ (bytes : List ℕ). length bytes) kept))

pub log_read_most : (text : Option (List ℕ)) (m offset : ℕ) → 2 ^ 63 ≤ offset → ReachesTo text offset m → IsLogRead text m
log_read_most None m offset many far = tt
log_read_most (Some held) m offset many far = inr (omega (arith, many, far))

-- A STORE with other pages
pub store_same : (before : StoreContent) (m : ℕ) (after items : List Page) → before.master ≡ m → after ≡ items → store_with before after ≡ record { master = m; pages = items }
store_same before m after items em ea = rw (em, ea) refl
