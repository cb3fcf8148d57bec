use Rattle.std.proofs.Common.{◌≡◌, option_map, eq-eqb, eqb-true, true, false, sym, subst, ◌∙◌, inl, inr}
use Rattle.std.specs.Prelude.{IsTrue, ◌↔◌}
use Rattle.std.proofs.lemmas.Bool.{both_ways, or_cases, or_parts}
use Rattle.log_laws.specs.Records.{CompensationRecord}
use Rattle.log_laws.specs.Meaning.{committed, ended, finished}
use Rattle.audit.specs.Standings.{newest_of}
use Rattle.audit.proofs.Deciding.{HasUndone, clr_decided, end_decided}
use Rattle.audit.proofs.decide.keeps_compensation.Goals as goal

pub returns-in-Compensation : goal.returns-in-Compensation
returns-in-Compensation c =
    rw c.in-Compensation.is
    (λ so_far links begins len h law.
    let r : CompensationRecord = record { tx = c.in-Compensation.tx; prev = c.in-Compensation.prev; page = c.in-Compensation.page; slot = c.in-Compensation.slot; undo_next = c.in-Compensation.undo_next; image = option_map (λ s. s.now) c.in-Compensation.image } in
    let decided = clr_decided c.args.log.now so_far links r c.args.standing begins len h law in
    let undoes : IsTrue c.undoes_at.result ↔ HasUndone c.args.log.now r (newest_of c.args.standing) =
    subst (λ n. IsTrue c.undoes_at.result ↔ HasUndone c.args.log.now r n) c.newest.ensures c.undoes_at.ensures in
    (λ t. decided.0 (undoes.0 t), λ k. undoes.1 (decided.1 k)))

pub returns-then-is_finished : goal.returns-then-is_finished
returns-then-is_finished c =
    rw c.in-End.is
    (λ so_far links begins len h law.
    let done : finished c.in-End.tx so_far ≡ true = sym (c.is_finished.ensures c.in-End.tx so_far links h) ∙ c.if-is_finished.true in (
      λ t unfinished.
          elim (or_cases (committed c.in-End.tx so_far) (ended c.in-End.tx so_far) done) [
            | inl i ↦ absurd (both_ways (committed c.in-End.tx so_far) unfinished i)
            | inr i ↦ absurd (both_ways (ended c.in-End.tx so_far) law.0 i)
          ],
      λ k. c.if-is_finished.true,
    ))

pub returns-else-is_finished : goal.returns-else-is_finished
returns-else-is_finished c =
    rw c.in-End.is
    (λ so_far links begins len h law.
    let unfinished : finished c.in-End.tx so_far ≡ false = sym (c.is_finished.ensures c.in-End.tx so_far links h) ∙ c.if-is_finished.false in
    let decided = end_decided links c.in-End.tx so_far c.args.standing h unfinished in (
      λ t n. decided.0 (sym c.newest-else-is_finished.ensures ∙ eqb-true c.newest-else-is_finished.result 0 t),
      λ k. eq-eqb c.newest-else-is_finished.result 0 (c.newest-else-is_finished.ensures ∙ decided.1 (k (or_parts (committed c.in-End.tx so_far) (ended c.in-End.tx so_far) unfinished).0)),
    ))
