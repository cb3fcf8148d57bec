use Rattle.std.proofs.Common.{ℕ, List, cond, sym, ap, ap₂, ◌∙◌}
use Rattle.log_laws.specs.Tail.{is_among}
use Rattle.analysis.specs.Tables.{entry_at}
use Rattle.analysis.specs.Stretch.{with_nothing_to_undo, base_left, entry_joined, entry_behind}
use Rattle.analysis.proofs.Stretches.{left_then, stretches_go_on}
use Rattle.analysis.proofs.transaction_scan.TransactionScan.join.Goals as goal

pub returns-clause-entries : goal.returns-clause-entries
returns-clause-entries c = λ t.
    let inside = c.stretch.inside in
    let first = entry_at t c.args.self.now in
    let finished : List ℕ = c.deref.result.now in
    let undone : List ℕ = c.deref-2.result.now in
    c.in_ok-join_entries.ensures.entries t
    ∙ ap₂ (entry_joined t) (c.in_ok-entries.ensures.entries t)
    (c.in_ok-clear_undo_next_of_all.ensures.entries t ∙ ap (λ o. cond (is_among t undone) (with_nothing_to_undo o) o) (c.remove_all.ensures t) ∙ left_then (is_among t finished) (is_among t undone) first)
    ∙ ap₂ (λ (fs us : List ℕ). entry_joined t (entry_at t inside.scan) (base_left (is_among t fs) (is_among t us) first)) c.deref.ensures.value c.deref-2.ensures.value
    ∙ ap (λ s. entry_behind t s first) c.stretch.view_is

pub returns-clause-goes_on : goal.returns-clause-goes_on
returns-clause-goes_on c = λ t m base log records le describes before.
    returns-clause-entries c t ∙ ap (entry_behind t c.args.stretch) before ∙ sym (stretches_go_on t m base log records c.args.stretch le describes)
