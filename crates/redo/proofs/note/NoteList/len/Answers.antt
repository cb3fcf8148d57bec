use Rattle.std.proofs.Common.{List, length, sym, ap, ◌∙◌}
use Rattle.redo.specs.declared.note.Note.{Note}
use Rattle.redo.proofs.Notes.{notes_count}
use Rattle.redo.proofs.note.NoteList.len.Goals as goal

pub returns : goal.returns
returns c =
    c.len.ensures ∙ (c.self.inside.lsns.ok.0 ∙ (sym (notes_count c.self.inside.lsns.items c.self.inside.cells.items c.self.invariant) ∙ ap (λ (ns : List Note). length ns) c.self.view_is))
