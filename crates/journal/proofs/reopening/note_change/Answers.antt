use Rattle.std.proofs.Common.{ℕ, List, [], Option, set, map, sym, ap, ap₂, ◌∙◌}
use Rattle.std.proofs.lemmas.List.{map-set}
use Rattle.log_laws.specs.Meaning.{owner}
use Rattle.wal.specs.Content.{shown}
use Rattle.journal.specs.declared.entries.PageEntry.{PageEntry}
use Rattle.journal.specs.PageStates.{PageState, noted_change, writers_after}
use Rattle.journal.specs.Arrays.{page_state_of}
use Rattle.journal.proofs.Held.{held_at}
use Rattle.journal.proofs.reopening.note_change.Goals as goal

pub returns-then-change-pages : goal.returns-then-change-pages
returns-then-change-pages c = λ blank.
    let ps : List PageEntry = c.args.pages.now in
    let i : ℕ = c.in-Some.change.page in
    let lsn : ℕ = c.args.lsn in
    let no_page : PageEntry = record { page = record { lsn = 0; number = 0; slots = [] }; rec_lsn = 0; writers = [] } in
    map-set page_state_of ps i c.write.new.self
    ∙ ap (λ (p : PageState). set (map page_state_of ps) i p) (c.write.ensures ∙ ap₂ (λ (p : PageState) (o : Option ℕ). noted_change p c.in-Some.change.slot o lsn) (sym (held_at ps i no_page blank c.if-change-pages.true)) c.number_in.ensures)
    ∙ ap (λ o. writers_after blank (map page_state_of ps) o (owner (shown c.args.view.now)) lsn) c.in-Some.ensures
