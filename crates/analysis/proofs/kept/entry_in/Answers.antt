use Rattle.std.proofs.Common.{◌≡◌, ◌%◌, refl, sym, ap, ◌∙◌}
use Rattle.std.specs.Prelude.{option_map}
use Rattle.wal.specs.Content.{entry_of}
use Rattle.wal.proofs.Entries.{entry_for-lookup}
use Rattle.analysis.specs.Tables.{entry_at}
use Rattle.analysis.specs.Steps.{state_in, undo_next_of_entry, held_entry}
use Rattle.analysis.proofs.Keeping.{held_none, held_other}
use Rattle.analysis.proofs.kept.entry_in.Goals.{in-Some+else-own-tx, in_default}
use Rattle.analysis.specs.declared.kept.TheConstants.{PLACES}
use Rattle.analysis.proofs.kept.entry_in.Goals as goal

in_table_some : (c : goal.After-result-1) → held_entry c.args.tx c.args.kept.now c.args.transactions.now.entries ≡ entry_at c.args.tx c.args.transactions.now.entries
in_table_some c =
    elim c.match-kept-tx.branch [
      | in-Some+else-own-tx w ↦ held_other c.args.tx c.args.kept.now c.args.transactions.now.entries (c.args.tx % PLACES) (w.in-Some.own, w.in-Some.entry) refl w.in-Some.is (λ e. w.if-own-tx.false (sym e))
      | in_default w ↦ held_none c.args.tx c.args.kept.now c.args.transactions.now.entries (c.args.tx % PLACES) refl w.in_default.is
    ]

in_table_none : (c : goal.In-None) → held_entry c.args.tx c.args.kept.now c.args.transactions.now.entries ≡ entry_at c.args.tx c.args.transactions.now.entries
in_table_none c =
    elim c.match-kept-tx.branch [
      | in-Some+else-own-tx w ↦ held_other c.args.tx c.args.kept.now c.args.transactions.now.entries (c.args.tx % PLACES) (w.in-Some.own, w.in-Some.entry) refl w.in-Some.is (λ e. w.if-own-tx.false (sym e))
      | in_default w ↦ held_none c.args.tx c.args.kept.now c.args.transactions.now.entries (c.args.tx % PLACES) refl w.in_default.is
    ]

pub returns-in-Some-get-clause-state : goal.returns-in-Some-get-clause-state
returns-in-Some-get-clause-state c =
    sym (ap state_in (in_table_some c ∙ entry_for-lookup c.args.tx c.args.transactions.now.entries ∙ ap (option_map (λ e. entry_of (c.args.tx, e))) (sym c.in-Some-get.ensures.value)))

pub returns-in-Some-get-clause-undo_next : goal.returns-in-Some-get-clause-undo_next
returns-in-Some-get-clause-undo_next c =
    sym (ap undo_next_of_entry (in_table_some c ∙ entry_for-lookup c.args.tx c.args.transactions.now.entries ∙ ap (option_map (λ e. entry_of (c.args.tx, e))) (sym c.in-Some-get.ensures.value)))

pub returns-in-None-clause-state : goal.returns-in-None-clause-state
returns-in-None-clause-state c =
    sym (ap state_in (in_table_none c ∙ entry_for-lookup c.args.tx c.args.transactions.now.entries ∙ ap (option_map (λ e. entry_of (c.args.tx, e))) (sym c.in-None.ensures.value)))

pub returns-in-None-clause-undo_next : goal.returns-in-None-clause-undo_next
returns-in-None-clause-undo_next c =
    sym (ap undo_next_of_entry (in_table_none c ∙ entry_for-lookup c.args.tx c.args.transactions.now.entries ∙ ap (option_map (λ e. entry_of (c.args.tx, e))) (sym c.in-None.ensures.value)))
