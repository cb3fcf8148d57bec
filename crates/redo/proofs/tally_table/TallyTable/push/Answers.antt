use Rattle.std.proofs.Common.{◌≡◌, ◌++◌, ◌∷◌, [], List, cond, length, ap, ◌∙◌, arith}
use Rattle.std.proofs.lemmas.List.{length-map}
use Rattle.redo.specs.declared.tally.Tally.{Tally}
use Rattle.redo.specs.Placed.{untouched, tally_of, tallies_of}
use Rattle.redo.proofs.Placed.{tallies_page}
use Rattle.redo.proofs.tally_table.TallyTable.push.Goals as goal

pub returns-clause-added : goal.returns-clause-added
returns-clause-added c =
    let inside = c.self.inside in
    let kept = inside.kept.items in
    let rec_lsns = inside.rec_lsns.items in
    let pages = inside.pages.items in
    let count : c.args.number ≡ length pages = omega (arith, c.requires, ap (λ (ts : List Tally). length ts) c.self.view_is, length-map pages (tally_of kept rec_lsns)) in
    let all = pages ++ record { number = c.args.number; place = 0; lsn = c.args.lsn; applied = 0 } ∷ [] in
    ap (tallies_of kept c.push.new.self.items) (c.push-2.ensures.items ∙ ap (λ b. cond b all pages) c.if-is_err.ensures.negation)
    ∙ ap (λ os. tallies_of kept os all) c.in_ok-push.ensures.items
    ∙ tallies_page kept rec_lsns pages c.args.number c.args.lsn c.args.rec_lsn c.self.invariant count
    ∙ ap (λ ts. ts ++ untouched c.args.number c.args.lsn c.args.rec_lsn ∷ []) c.self.view_is
