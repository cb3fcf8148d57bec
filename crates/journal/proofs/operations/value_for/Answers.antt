use Rattle.std.proofs.Common.{refl, sym, ◌∙◌, arith}
use Rattle.std.proofs.lemmas.List.{length-map}
use Rattle.journal.specs.Arrays.{page_state_of}
use Rattle.journal.proofs.Held.{unless_some}
use Rattle.journal.proofs.operations.value_for.Goals as goal

pub returns-then-is_other-clause-err : goal.returns-then-is_other-clause-err
returns-then-is_other-clause-err c = λ ps t.
    let is = c.if-is_other.ensures.held refl ps t in
    let cell = c.in_ok-image.ensures in
    let there = cell.page in (
      is.1,
      is.2,
      omega (arith, there, length-map c.args.pages.now page_state_of),
      cell.slot,
      λ d. sym (cell.writer d) ∙ unless_some c.in_ok-image.writer is.0,
    )
