use Rattle.std.proofs.Common.{◌≡◌, ◌%◌, refl, sym, ap, ◌∙◌}
use Rattle.std.specs.Prelude.{option_map}
use Rattle.wal.specs.Content.{entry_of}
use Rattle.wal.proofs.Entries.{entry_for-lookup}
use Rattle.analysis.specs.Tables.{entry_at}
use Rattle.analysis.specs.Steps.{held_entry}
use Rattle.analysis.specs.declared.kept.TheConstants.{PLACES}
use Rattle.analysis.proofs.Keeping.{held_none, held_other}
use Rattle.analysis.proofs.stretch_join.held.Goals.{in-Some+else-own-tx, in_default}
use Rattle.analysis.proofs.stretch_join.held.Goals as goal

pub returns-in-Some-get : goal.returns-in-Some-get
returns-in-Some-get c =
    let in_table : held_entry c.args.tx c.args.kept.now c.args.table.now.entries ≡ entry_at c.args.tx c.args.table.now.entries =
    elim c.match-kept-tx.branch [
      | in-Some+else-own-tx w ↦ held_other c.args.tx c.args.kept.now c.args.table.now.entries (c.args.tx % PLACES) (w.in-Some.own, w.in-Some.entry) refl w.in-Some.is (λ e. w.if-own-tx.false (sym e))
      | in_default w ↦ held_none c.args.tx c.args.kept.now c.args.table.now.entries (c.args.tx % PLACES) refl w.in_default.is
    ] in
    in_table ∙ entry_for-lookup c.args.tx c.args.table.now.entries ∙ ap (option_map (λ e. entry_of (c.args.tx, e))) (sym c.in-Some-get.ensures.value)

pub returns-in-None : goal.returns-in-None
returns-in-None c =
    let in_table : held_entry c.args.tx c.args.kept.now c.args.table.now.entries ≡ entry_at c.args.tx c.args.table.now.entries =
    elim c.match-kept-tx.branch [
      | in-Some+else-own-tx w ↦ held_other c.args.tx c.args.kept.now c.args.table.now.entries (c.args.tx % PLACES) (w.in-Some.own, w.in-Some.entry) refl w.in-Some.is (λ e. w.if-own-tx.false (sym e))
      | in_default w ↦ held_none c.args.tx c.args.kept.now c.args.table.now.entries (c.args.tx % PLACES) refl w.in_default.is
    ] in
    in_table ∙ entry_for-lookup c.args.tx c.args.table.now.entries ∙ ap (option_map (λ e. entry_of (c.args.tx, e))) (sym c.in-None.ensures.value)
