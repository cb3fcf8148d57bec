use Rattle.std.proofs.Common.{◌⊎◌, List, ℕ, Contains, sym, ap, ◌∙◌, subst}
use Rattle.std.specs.Prelude.{◌↔◌}
use Rattle.redo.specs.declared.tally.Tally.{Tally}
use Rattle.redo.specs.Wanted.{IsLastIn}
use Rattle.redo.proofs.Placed.{is_placed, its_tally, its_lasts}
use Rattle.redo.proofs.tally_table.TallyTable.want.Goals as goal

pub returns-clause-each : goal.returns-clause-each
returns-clause-each c = λ w t.
    let inside = c.self.inside in
    let kept = inside.kept.items in
    let rec_lsns = inside.rec_lsns.items in
    let pages = inside.pages.items in
    let page = c.index-page.result.now in
    let lasts = c.index.result.now in
    let old = c.args.wanted.now.items in
    let new = c.want_slots.new.wanted.items in
    let placed = is_placed kept rec_lsns pages c.args.self.now c.args.number page c.self.view_is c.self.invariant c.requires c.index-page.ensures in
    let same = ap (λ (x : Tally). x.lasts) (its_tally kept rec_lsns pages c.args.self.now c.args.number page c.self.view_is c.self.invariant c.requires c.index-page.ensures t)
    ∙ its_lasts kept rec_lsns pages c.args.self.now c.args.number page c.self.view_is c.self.invariant c.requires c.index-page.ensures c.if-page-eq0.false lasts
    ∙ sym c.index.ensures in
    subst (λ (xs : List ℕ). Contains new w ↔ (Contains old w ⊎ IsLastIn c.args.number xs w)) (sym same)
    (subst (λ n. Contains new w ↔ (Contains old w ⊎ IsLastIn n lasts w)) placed.number (c.in_ok-want_slots.ensures.each w))
