use Rattle.std.proofs.Common.{inl, inr}
use Rattle.std.proofs.lemmas.Result.{err_from_is_err_and, IfOk-at_ok, IfOk-weaker, IfErr-weaker, MatchResult-at_ok}
use Rattle.page.specs.Lsns.{SpellsLsns}
use Rattle.wal.proofs.Causes.{no_fault_of_a_log}
use Rattle.recovery.proofs.by_pieces.make.Goals as goal

pub returns-in_err-check_log-in-Err-clause-lawful : goal.returns-in_err-check_log-in-Err-clause-lawful
returns-in_err-check_log-in-Err-clause-lawful g c = λ base text store bytes is decodes.
    let exit = err_from_is_err_and c.from_residual.result c.from_residual.ensures.1 in
    rw (exit.1, exit.2)
    (elim (c.in_err-check_log-in-Err.ensures.fault text is) [
      | inl failed ↦ inr failed
      | inr cause ↦ inl (no_fault_of_a_log text bytes.decoded.read bytes.decoded.torn bytes.decoded.reads c.in_err-check_log-in-Err.field-0.0 cause)
    ])

pub returns-in-Ok-clause-lawful : goal.returns-in-Ok-clause-lawful
returns-in-Ok-clause-lawful g c = λ base text store bytes is decodes.
    c.make_from.ensures.lawful base text store bytes is (MatchResult-at_ok _ _ _ c.in-Ok.is (decodes.only bytes.decoded.before bytes.decoded.spells))

pub returns-in-Ok-clause-answer : goal.returns-in-Ok-clause-answer
returns-in-Ok-clause-answer g c = IfOk-weaker c.make_from.result _ _ (λ x of text store is decodes.
    let (before, spells, are) = IfOk-at_ok (SpellsLsns store) c.in-Ok.is decodes.found in
    record { before = before; spells = spells; recovers = of text store before is spells are }) c.make_from.ensures.answer

pub returns-in-Ok-clause-few : goal.returns-in-Ok-clause-few
returns-in-Ok-clause-few g c = IfOk-weaker c.make_from.result _ _ (λ x few text decodes. few text (IfOk-at_ok (SpellsLsns text) c.in-Ok.is decodes.found)) c.make_from.ensures.few

pub returns-in-Ok-clause-fault : goal.returns-in-Ok-clause-fault
returns-in-Ok-clause-fault g c = IfErr-weaker c.make_from.result _ _ (λ e fault text store options is decodes range. fault text store options is (IfOk-at_ok (SpellsLsns store) c.in-Ok.is decodes.found) range) c.make_from.ensures.fault
