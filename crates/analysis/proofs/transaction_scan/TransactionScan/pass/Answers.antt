use Rattle.std.proofs.Common.{◌≡◌, ℕ, ◌++◌, ◌+◌, ◌≤◌, sym, ap, ◌∙◌, arith, max}
use Rattle.log_laws.specs.Records.{history, last_lsn, first, base_lsn}
use Rattle.log_laws.proofs.Histories.{size_of_first, size_of_first_le, first_all, base_of_first}
use Rattle.analysis.specs.Tables.{entry_at, analysed_entry}
use Rattle.analysis.specs.Steps.{entry_after, held_entry, those_kept}
use Rattle.analysis.proofs.Scanned.{entry_none, entry_next, entry_glanced}
use Rattle.analysis.proofs.Keeping.{held_is}
use Rattle.analysis.proofs.Numbers.{none_noted}
use Rattle.analysis.proofs.Passing.{entry_on}
use Rattle.analysis.proofs.transaction_scan.TransactionScan.pass.Goals as goal

pub loop-lsn-init : goal.loop-lsn-init
loop-lsn-init c =
    let log = history c.args.piece.now in
    let before = first c.max-from.result log in
    let short : last_lsn before ≤ max c.args.master (base_lsn before) =
    omega (arith, size_of_first_le c.max-from.result log (omega (arith, c.base.ensures.is, c.max-from.ensures)), base_of_first c.max-from.result log, c.base.ensures.is, c.max-from.ensures) in
    let held : (t : ℕ) → held_entry t c.self.inside.kept c.self.inside.transactions.entries ≡ entry_at t c.args.self.now =
    λ t. sym (held_is t c.self.inside.kept c.self.inside.transactions.entries c.self.invariant.0) ∙ ap (entry_at t) c.self.view_is in (
      λ t. held t ∙ sym (entry_none t c.args.master (entry_at t c.args.self.now) before short),
      λ none. held 0 ∙ none,
      c.self.invariant.0,
      c.self.invariant.1,
    )

pub loop-lsn-preserved : goal.loop-lsn-preserved
loop-lsn-preserved c =
    let seen = c.glance_after-glance.ensures in
    let r = seen.entry in
    let g = c.glance_after-glance.result in
    let lsn = c.loop-lsn.lsn + 1 in
    let log = first c.loop-lsn.lsn (history c.args.piece.now) in
    let n : last_lsn log ≡ c.loop-lsn.lsn = size_of_first c.loop-lsn.lsn (history c.args.piece.now) (omega (arith, c.base.ensures.is, c.max-from.ensures)) (omega arith) in
    let le : c.args.master ≤ last_lsn log = omega (arith, n, c.max-from.ensures) in
    let at : last_lsn log + 1 ≡ lsn = omega (arith, n) in (
      λ t. entry_next t c.args.master (entry_at t c.args.self.now) _ _ log r lsn le at (c.loop-lsn.invariant.0 t) (entry_glanced lsn t r g _ _ seen.seen_of (c.in_ok-note_transaction.ensures.ok t))
          ∙ ap (analysed_entry t c.args.master (entry_at t c.args.self.now)) (sym seen.next),
      λ none. entry_glanced lsn 0 r g _ _ seen.seen_of (c.in_ok-note_transaction.ensures.ok 0) ∙ ap (entry_after lsn r 0) (c.loop-lsn.invariant.1 none)
          ∙ none_noted lsn r seen.fits,
      c.in_ok-note_transaction.ensures.kept,
      c.in_ok-note_transaction.ensures.highest,
    )

pub returns-clause-entries : goal.returns-clause-entries
returns-clause-entries c =
    let whole = first_all c.loop-lsn.lsn (history c.args.piece.now) (omega (arith, c.loop-lsn-test.false, c.last-lsn-end.ensures)) in
    let now = c.loop-lsn.self-inside in
    λ t. held_is t now.kept now.transactions.entries c.loop-lsn.invariant.2 ∙ c.loop-lsn.invariant.0 t ∙ ap (analysed_entry t c.args.master (entry_at t c.args.self.now)) whole

pub returns-clause-goes_on : goal.returns-clause-goes_on
returns-clause-goes_on c = λ t base log at before.
    let now = c.loop-lsn.self-inside in
    entry_on t c.args.master base (entry_at t c.args.self.now) (entry_at t (those_kept now.kept ++ now.transactions.entries)) log c.args.piece.now at before (returns-clause-entries c t)

pub returns-clause-no_transaction_0 : goal.returns-clause-no_transaction_0
returns-clause-no_transaction_0 c = λ none.
    let now = c.loop-lsn.self-inside in
    held_is 0 now.kept now.transactions.entries c.loop-lsn.invariant.2 ∙ c.loop-lsn.invariant.1 none
