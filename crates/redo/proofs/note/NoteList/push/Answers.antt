use Rattle.std.proofs.Common.{[], ◌∷◌, ◌++◌, ap, ap₂, ◌∙◌}
use Rattle.redo.specs.Notes.{notes_of}
use Rattle.redo.proofs.Notes.{note_there, notes_push}
use Rattle.redo.proofs.note.NoteList.push.Goals as goal

pub returns-in-Ok-clause-ok : goal.returns-in-Ok-clause-ok
returns-in-Ok-clause-ok c =
    let lsns = c.self.inside.lsns.items in
    let cells = c.self.inside.cells.items in
    ap₂ notes_of c.in-Ok.ensures.items c.in_ok-push.ensures.items
    ∙ (notes_push lsns cells c.args.note.lsn _ c.self.invariant
    ∙ (ap (λ n. notes_of lsns cells ++ n ∷ []) (note_there c.args.note c.requires.slot) ∙ ap (λ ns. ns ++ c.args.note ∷ []) c.self.view_is))
