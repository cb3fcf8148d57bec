use Rattle.std.proofs.Common.{◌+◌, ◌<◌, set, sym, ap, ◌∙◌, subst, arith}
use Rattle.redo.specs.declared.tally.Tally.{Tally}
use Rattle.redo.specs.Placed.{ArePlaced, tallies_of, tally_of, kept_first}
use Rattle.redo.proofs.Placed.{in_pages, its_tally, first_placed, first_tallies, counted_tallies}
use Rattle.log_laws.specs.Redo.{is_redone}
use Rattle.redo.proofs.tally_table.TallyTable.count.Goals as goal

pub count_first-requires-clause-room : goal.count_first-requires-clause-room
count_first-requires-clause-room c =
    let inside = c.self.inside in
    let page = c.index_mut-page.result.now in
    let tally = tally_of inside.kept.items inside.rec_lsns.items page in
    subst (λ (t : Tally). t.applied + 1 < 18446744073709551616) (its_tally inside.kept.items inside.rec_lsns.items inside.pages.items c.args.self.now c.args.number page c.self.view_is c.self.invariant c.requires.page c.index_mut-page.ensures.value tally)
    (c.requires.room c.args.number tally c.requires.page)

pub invariant_of-self-then-page-eq0 : goal.invariant_of-self-then-page-eq0
invariant_of-self-then-page-eq0 c =
    let inside = c.self.inside in
    let kept = inside.kept.items in
    let rec_lsns = inside.rec_lsns.items in
    let pages = inside.pages.items in
    let page = c.index_mut-page.result.now in
    let number = c.args.number in
    let first = c.in_ok-count_first.ensures in
    let lacks = is_redone c.index-rec_lsn.result.now c.args.redo_lsn page.lsn c.args.lsn in
    let new = kept_first lacks c.args.lsn c.args.slot kept in
    subst (λ ks. ArePlaced ks rec_lsns (set pages number c.count_first.new.page)) (sym first.kept)
    (subst (λ p. ArePlaced new rec_lsns (set pages number p)) (sym first.page)
    (first_placed kept rec_lsns pages c.args.self.now number page c.self.view_is c.self.invariant c.requires.page c.index_mut-page.ensures.value c.if-page-eq0.true c.args.redo_lsn c.args.lsn c.args.slot lacks))

pub returns-then-page-eq0-clause-counted : goal.returns-then-page-eq0-clause-counted
returns-then-page-eq0-clause-counted c = λ t.
    let inside = c.self.inside in
    let kept = inside.kept.items in
    let rec_lsns = inside.rec_lsns.items in
    let pages = inside.pages.items in
    let page = c.index_mut-page.result.now in
    let number = c.args.number in
    let first = c.in_ok-count_first.ensures in
    let new = kept_first (is_redone c.index-rec_lsn.result.now c.args.redo_lsn page.lsn c.args.lsn) c.args.lsn c.args.slot kept in
    let lt = in_pages kept rec_lsns pages c.args.self.now number page c.self.view_is c.self.invariant c.requires.page c.index_mut-page.ensures.value in
    ap (λ ks. tallies_of ks rec_lsns (set pages number c.count_first.new.page)) first.kept
    ∙ ap (λ p. tallies_of new rec_lsns (set pages number p)) first.page
    ∙ first_tallies kept rec_lsns pages c.args.self.now number page c.self.view_is c.self.invariant c.requires.page c.index_mut-page.ensures.value c.if-page-eq0.true c.args.redo_lsn c.args.lsn c.args.slot
    c.index-rec_lsn.result.now t c.index-rec_lsn.ensures (omega (arith, lt, c.self.invariant.count))

pub overflow_add-page : goal.overflow_add-page
overflow_add-page c =
    let inside = c.self.inside in
    let page = c.index_mut-page.result.now in
    let tally = tally_of inside.kept.items inside.rec_lsns.items page in
    let room : page.applied + 1 < 18446744073709551616 =
    subst (λ (t : Tally). t.applied + 1 < 18446744073709551616) (its_tally inside.kept.items inside.rec_lsns.items inside.pages.items c.args.self.now c.args.number page c.self.view_is c.self.invariant c.requires.page c.index_mut-page.ensures.value tally)
    (c.requires.room c.args.number tally c.requires.page) in
    search (arith, room)

pub returns-clause-counted : goal.returns-clause-counted
returns-clause-counted c = λ t.
    let inside = c.self.inside in
    counted_tallies inside.kept.items inside.rec_lsns.items inside.pages.items c.args.self.now c.args.number c.index_mut-page.result.now c.self.view_is c.self.invariant c.requires.page c.index_mut-page.ensures.value c.if-page-eq0.false
    c.args.redo_lsn c.args.lsn c.args.slot c.index_mut.result.now c.index_mut.ensures.value t (c.requires.later c.args.number t c.requires.page)
