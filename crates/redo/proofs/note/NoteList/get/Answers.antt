use Rattle.std.proofs.Common.{◌<◌, List, length, get_or, sym, ap, ap₂, ◌∙◌, arith}
use Rattle.redo.specs.declared.note.Note.{Note}
use Rattle.redo.specs.Notes.{note_of}
use Rattle.redo.proofs.Notes.{notes_count, notes_get}
use Rattle.redo.proofs.note.NoteList.get.Goals as goal

pub index-cell-requires : goal.index-cell-requires
index-cell-requires c = omega (arith, c.requires, notes_count c.self.inside.lsns.items c.self.inside.cells.items c.self.invariant, ap (λ (ns : List Note). length ns) c.self.view_is)

pub index-requires : goal.index-requires
index-requires c = omega (arith, c.requires, notes_count c.self.inside.lsns.items c.self.inside.cells.items c.self.invariant, ap (λ (ns : List Note). length ns) c.self.view_is)

pub returns : goal.returns
returns c =
    let lsns = c.self.inside.lsns.items in
    let cells = c.self.inside.cells.items in
    let lsn = c.index.result.now in
    let cell = c.index-cell.result.now in
    let note = note_of lsn cell in
    let below : c.args.index < length lsns = omega (arith, c.requires, notes_count lsns cells c.self.invariant, ap (λ (ns : List Note). length ns) c.self.view_is) in
    ap₂ note_of c.index.ensures c.index-cell.ensures
    ∙ (sym (notes_get lsns cells c.args.index lsn cell note below c.self.invariant) ∙ ap (λ (ns : List Note). get_or ns c.args.index note) c.self.view_is)
