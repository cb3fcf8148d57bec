use Rattle.std.proofs.Common.{◌≡◌, ◌++◌, List, Some, map, sym, ap, ◌∙◌, subst}
use Rattle.std.proofs.lemmas.List.{map-append}
use Rattle.redo.specs.Changes.{RedoPage}
use Rattle.redo.specs.Parts.{HasRedoPage, resolved}
use Rattle.redo.proofs.Gathered.{has_left, has_right}
use Rattle.redo.proofs.part.redo_part.Goals as goal

-- the pages of the part, after those that were there
behind : (c : goal.After-drop-counted-2) → map (resolved c.args.parted.now.input) c.append.new.self.items ≡ map (resolved c.args.parted.now.input) c.args.tallies.now.items ++ map (resolved c.args.parted.now.input) c.in_ok-counted.counted.items
behind c = ap (map (resolved c.args.parted.now.input)) c.in_ok-append.ensures.items ∙ map-append (resolved c.args.parted.now.input) c.args.tallies.now.items c.in_ok-counted.counted.items

pub returns-clause-kept : goal.returns-clause-kept
returns-clause-kept c = λ other has page given.
    subst (λ (ps : List RedoPage). HasRedoPage ps page) (sym (behind c)) (has_left (map (resolved c.args.parted.now.input) c.args.tallies.now.items) _ page (has page given))

pub returns-clause-added : goal.returns-clause-added
returns-clause-added c = λ page given.
    subst (λ (ps : List RedoPage). HasRedoPage ps page) (sym (behind c)) (has_right (map (resolved c.args.parted.now.input) c.args.tallies.now.items) _ page (c.in_ok-counted.ensures.all page (given ∙ ap Some (sym c.part.ensures))))
