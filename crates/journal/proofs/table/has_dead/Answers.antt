use Rattle.std.proofs.Common.{◌≡◌, ◌<◌, ℕ, List, length, get_or, Option, Some, None, true, false, sym, ◌∙◌}
use Rattle.std.specs.Prelude.{IfSome, is_some}
use Rattle.std.proofs.lemmas.Bool.{false≢true}
use Rattle.journal.specs.declared.entries.TransactionEntry.{TransactionEntry}
use Rattle.journal.specs.declared.entries.PendingEntry.{PendingEntry}
use Rattle.journal.specs.Arrays.{IsTable, is_live, AllLive}
use Rattle.journal.proofs.Journals.{no_update}
use Rattle.journal.proofs.table.has_dead.Goals as goal

dead_one : (es : List TransactionEntry) (ps : List PendingEntry) (o : Option ℕ) → IfSome o (λ i. i < length ps) → IfSome o (λ i. IsTable es → (d : PendingEntry) → is_live es (get_or ps i d) ≡ false)
    → is_some o ≡ true → IsTable es → AllLive es ps → ⊥
dead_one es ps None within dead e table live = false≢true e
dead_one es ps (Some i) within dead e table live = false≢true (sym (dead table no_update) ∙ live i no_update within)

pub returns : goal.returns
returns c = λ yes table live. dead_one c.args.entries.now c.args.pending.now c.first_dead.result c.first_dead.ensures.within c.first_dead.ensures.dead (sym c.is_some.ensures ∙ yes) table live
