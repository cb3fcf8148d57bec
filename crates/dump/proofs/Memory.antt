-- What is printed if memory is refused.
use Rattle.std.proofs.Common.{◌≡◌, ◌∙◌, ℕ, List, Option, Some, None, length, take, inl, inr, refl, sym, subst, take_all, Result, Ok, Err, IfErr, arith, ◌≤◌}
use Rattle.std.specs.Io.KnownBytes.{Appends, Keeps}
use Rattle.page.specs.declared.fault.Fault.TheVariants.{NoResource}
use Rattle.log_laws.specs.Records.{LogContent}
use Rattle.wal.specs.Reads.{Reads}
use Rattle.dump.specs.declared.style.Style.{Style}
use Rattle.dump.specs.declared.choice.Choice.{Choice}
use Rattle.dump.specs.declared.stop.Stop.{Stop}
use Rattle.dump.specs.declared.stop.Stop.TheVariants as stop
use Rattle.dump.specs.LogLines.{PrintsBeginning, IfMemory, IsNoFault, ListsToFault, PrintsFirstLines}

pub if_memory_weaker : (P Q : Type 0) (e : Stop) → (P → Q) → IfMemory e P → IfMemory e Q
if_memory_weaker P Q (stop.Fault NoResource) weaker p = weaker p
if_memory_weaker P Q e weaker p = tt

-- the first lines of a log are the first lines of its bytes
begins_bytes : (style : Style) (choice : Choice) (bytes : List ℕ) (old new : Option (List ℕ)) (log : LogContent) (torn : ℕ)
    → Reads bytes log torn → PrintsBeginning style choice log old new → PrintsFirstLines style choice bytes old new
begins_bytes style choice bytes old new log torn reads (inl kept) = inl kept
begins_bytes style choice bytes old new log torn reads (inr lines) =
    inr (length bytes, log, torn, subst (λ (bs : List ℕ). Reads bs log torn) (sym (take_all (length bytes) bytes (omega arith))) reads, lines)

listed_so_far : (style : Style) (choice : Choice) (bytes : List ℕ) (old new : Option (List ℕ)) (log : LogContent) (torn : ℕ) (e : Stop)
    → Reads bytes log torn → IsNoFault e → IfMemory e (PrintsBeginning style choice log old new) → ListsToFault style choice bytes old new e
listed_so_far style choice bytes old new log torn (stop.Print error) reads is so_far = tt
listed_so_far style choice bytes old new log torn (stop.Fault e) reads is so_far =
    subst (λ e. IfMemory (stop.Fault e) (PrintsBeginning style choice log old new) → ListsToFault style choice bytes old new (stop.Fault e)) (sym is)
    (λ begins. begins_bytes style choice bytes old new log torn reads begins) so_far

-- a log that was read is listed to its end, or up to where memory was refused or a print failed
pub listed_by : {A : Type 0} (style : Style) (choice : Choice) (bytes : List ℕ) (old new : Option (List ℕ)) (log : LogContent) (torn : ℕ) (result : Result A Stop)
    → Reads bytes log torn → IfErr result IsNoFault → IfErr result (λ e. IfMemory e (PrintsBeginning style choice log old new))
    → IfErr result (ListsToFault style choice bytes old new)
listed_by style choice bytes old new log torn (Ok x) reads is so_far = tt
listed_by style choice bytes old new log torn (Err e) reads is so_far = listed_so_far style choice bytes old new log torn e reads is so_far
