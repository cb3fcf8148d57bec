use Rattle.std.proofs.Common.{List, [], set, map, sym, ap, ◌∙◌}
use Rattle.std.proofs.lemmas.List.{map-set}
use Rattle.journal.specs.declared.entries.PageEntry.{PageEntry}
use Rattle.journal.specs.PageStates.{PageState, changed}
use Rattle.journal.specs.Arrays.{image_of, page_state_of}
use Rattle.journal.proofs.Held.{held_at}
use Rattle.journal.proofs.page_entry.change_cell.Goals as goal

pub returns : goal.returns
returns c = λ d.
    let ps : List PageEntry = c.args.pages.now in
    let blank : PageEntry = record { page = record { lsn = 0; number = 0; slots = [] }; rec_lsn = 0; writers = [] } in
    map-set page_state_of ps c.args.page c.change.new.self
    ∙ ap (λ (h : PageState). set (map page_state_of ps) c.args.page h)
    (c.change.ensures ∙ ap (λ (h : PageState). changed h c.args.tx c.args.slot (image_of c.args.image.now) c.args.lsn) (sym (held_at ps c.args.page blank d c.requires.page)))
