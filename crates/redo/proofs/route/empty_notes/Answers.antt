use Rattle.std.proofs.Common.{◌≡◌, List, [], ◌∷◌, ◌++◌, length, ap, ◌∙◌, arith, length-append}
use Rattle.redo.specs.declared.note.Note.{Note}
use Rattle.redo.specs.Notes.{notes_at}
use Rattle.redo.proofs.Notes.{none_more}
use Rattle.redo.proofs.route.empty_notes.Goals as goal

pub loop-preserved : goal.loop-preserved
loop-preserved c =
    let pushed : c.push.new.self.items ≡ c.loop.lists.items ++ [] ∷ [] = c.in_ok-push.ensures.items ∙ ap (λ (notes : List Note). c.loop.lists.items ++ notes ∷ []) c.in_ok-with_capacity.ensures.empty in (
      ap length pushed ∙ (length-append c.loop.lists.items ([] ∷ []) ∙ omega (arith, c.loop.invariant.0)),
      (λ part. ap (λ lists. notes_at lists part) pushed ∙ none_more c.loop.lists.items c.loop.invariant.1 part),
    )
