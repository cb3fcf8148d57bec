use Rattle.std.proofs.Common.{◌≡◌, ◌+◌, ◌<◌, ◌&&◌, not, eqb, false, true, get_or, set, refl, sym, ap, ap₂, ◌∙◌, subst, arith, eq-eqb}
use Rattle.std.proofs.lemmas.Bool.{and_right}
use Rattle.std.proofs.lemmas.List.{set-get_or}
use Rattle.log_laws.specs.Redo.{is_redone}
use Rattle.redo.specs.declared.tally.Tally.{Tally}
use Rattle.redo.specs.Placed.{ArePlaced, tallies_of, tally_of}
use Rattle.redo.specs.Joined.{joined, kept_joined}
use Rattle.redo.proofs.Placed.{in_pages, is_placed, its_tally, its_rec_lsn, its_lasts, joined_placed, joined_tallies, joined_kept}
use Rattle.redo.proofs.tally_table.TallyTable.join.Goals as goal

pub returns-then-other-eq0-clause-joined : goal.returns-then-other-eq0-clause-joined
returns-then-other-eq0-clause-joined c = λ t.
    let rest = c.later.inside in
    let other = c.index-other.result.now in
    let number = c.args.number in
    let old = get_or c.args.self.now number t in
    let later = get_or c.args.later.now number t in
    let placed = is_placed rest.kept.items rest.rec_lsns.items rest.pages.items c.args.later.now number other c.later.view_is c.later.invariant c.requires.later c.index-other.ensures in
    let tally = its_tally rest.kept.items rest.rec_lsns.items rest.pages.items c.args.later.now number other c.later.view_is c.later.invariant c.requires.later c.index-other.ensures t in
    let none : later.applied ≡ 0 = ap (λ (x : Tally). x.applied) tally ∙ placed.idle c.if-other-eq0.true in
    joined_kept c.args.redo_lsn number c.args.self.now t later (ap (λ b. not b && is_redone old.rec_lsn c.args.redo_lsn old.lsn later.lsn) (eq-eqb later.applied 0 none))

pub returns-then-not-is_redone-clause-joined : goal.returns-then-not-is_redone-clause-joined
returns-then-not-is_redone-clause-joined c = λ t.
    let inside = c.self.inside in
    let kept = inside.kept.items in
    let rec_lsns = inside.rec_lsns.items in
    let pages = inside.pages.items in
    let rest = c.later.inside in
    let page = c.index_mut-page.result.now in
    let other = c.index-other.result.now in
    let number = c.args.number in
    let redo_lsn = c.args.redo_lsn in
    let later = get_or c.args.later.now number t in
    let lt = in_pages kept rec_lsns pages c.args.self.now number page c.self.view_is c.self.invariant c.requires.page c.index_mut-page.ensures.value in
    let tally = its_tally kept rec_lsns pages c.args.self.now number page c.self.view_is c.self.invariant c.requires.page c.index_mut-page.ensures.value t in
    let listed = its_rec_lsn kept rec_lsns pages c.args.self.now number page c.self.view_is c.self.invariant c.requires.page c.index_mut-page.ensures.value c.index.result.now c.index.ensures (omega (arith, lt, c.self.invariant.count)) in
    let lsn : later.lsn ≡ other.lsn = ap (λ (x : Tally). x.lsn) (its_tally rest.kept.items rest.rec_lsns.items rest.pages.items c.args.later.now number other c.later.view_is c.later.invariant c.requires.later c.index-other.ensures t) in
    let had : is_redone (get_or c.args.self.now number t).rec_lsn redo_lsn (get_or c.args.self.now number t).lsn later.lsn ≡ false =
    ap₂ (λ (x : Tally) l. is_redone x.rec_lsn redo_lsn x.lsn l) tally lsn ∙ ap (λ o. is_redone o redo_lsn page.lsn other.lsn) listed ∙ sym c.is_redone.ensures ∙ c.if-not-is_redone.true in
    ap (tallies_of kept rec_lsns) (ap (set pages number) c.index_mut-page.ensures.value ∙ set-get_or pages number page) ∙ c.self.view_is
    ∙ joined_kept redo_lsn number c.args.self.now t later (ap (λ b. not (eqb later.applied 0) && b) had ∙ and_right (not (eqb later.applied 0)) false refl)

pub overflow_add-page : goal.overflow_add-page
overflow_add-page c =
    let inside = c.self.inside in
    let rest = c.later.inside in
    let number = c.args.number in
    let page = c.index_mut-page.result.now in
    let other = c.index-other.result.now in
    let tally = tally_of inside.kept.items inside.rec_lsns.items page in
    let one = ap (λ (x : Tally). x.applied) (its_tally inside.kept.items inside.rec_lsns.items inside.pages.items c.args.self.now number page c.self.view_is c.self.invariant c.requires.page c.index_mut-page.ensures.value tally) in
    let two = ap (λ (x : Tally). x.applied) (its_tally rest.kept.items rest.rec_lsns.items rest.pages.items c.args.later.now number other c.later.view_is c.later.invariant c.requires.later c.index-other.ensures tally) in
    let room : page.applied + other.applied < 18446744073709551616 = omega (arith, c.requires.room tally, one, two) in
    search (arith, room)

pub invariant_of-self-2 : goal.invariant_of-self-2
invariant_of-self-2 c =
    let inside = c.self.inside in
    let kept = inside.kept.items in
    let rec_lsns = inside.rec_lsns.items in
    let pages = inside.pages.items in
    let rest = c.later.inside in
    let page = c.index_mut-page.result.now in
    let other = c.index-other.result.now in
    let number = c.args.number in
    let lasts = c.index-lasts.result.now in
    let later = tally_of rest.kept.items rest.rec_lsns.items other in
    let placed = is_placed rest.kept.items rest.rec_lsns.items rest.pages.items c.args.later.now number other c.later.view_is c.later.invariant c.requires.later c.index-other.ensures in
    let are_lasts = its_lasts rest.kept.items rest.rec_lsns.items rest.pages.items c.args.later.now number other c.later.view_is c.later.invariant c.requires.later c.index-other.ensures c.if-other-eq0.false lasts ∙ sym c.index-lasts.ensures in
    subst (λ ks. ArePlaced ks rec_lsns (set pages number (record { number = page.number; place = c.in_ok-page.field-0; lsn = other.lsn; applied = page.applied + other.applied }))) (sym c.in_ok-page.ensures.kept)
    (subst (λ p. ArePlaced (kept_joined page.place lasts kept) rec_lsns (set pages number (record { number = page.number; place = p; lsn = other.lsn; applied = page.applied + other.applied }))) (sym c.in_ok-page.ensures.place)
    (joined_placed kept rec_lsns pages c.args.self.now number page c.self.view_is c.self.invariant c.requires.page c.index_mut-page.ensures.value later lasts are_lasts c.in_ok-page.ensures.slots (placed.touched c.if-other-eq0.false)))

pub returns-clause-joined : goal.returns-clause-joined
returns-clause-joined c = λ t.
    let inside = c.self.inside in
    let kept = inside.kept.items in
    let rec_lsns = inside.rec_lsns.items in
    let pages = inside.pages.items in
    let rest = c.later.inside in
    let page = c.index_mut-page.result.now in
    let other = c.index-other.result.now in
    let number = c.args.number in
    let lasts = c.index-lasts.result.now in
    let later = tally_of rest.kept.items rest.rec_lsns.items other in
    let placed = is_placed rest.kept.items rest.rec_lsns.items rest.pages.items c.args.later.now number other c.later.view_is c.later.invariant c.requires.later c.index-other.ensures in
    let are_lasts = its_lasts rest.kept.items rest.rec_lsns.items rest.pages.items c.args.later.now number other c.later.view_is c.later.invariant c.requires.later c.index-other.ensures c.if-other-eq0.false lasts ∙ sym c.index-lasts.ensures in
    let lt = in_pages kept rec_lsns pages c.args.self.now number page c.self.view_is c.self.invariant c.requires.page c.index_mut-page.ensures.value in
    let lacks : is_redone c.index.result.now c.args.redo_lsn page.lsn other.lsn ≡ true = sym c.is_redone.ensures ∙ c.if-not-is_redone.false in
    ap (λ ks. tallies_of ks rec_lsns (set pages number (record { number = page.number; place = c.in_ok-page.field-0; lsn = other.lsn; applied = page.applied + other.applied }))) c.in_ok-page.ensures.kept
    ∙ ap (λ p. tallies_of (kept_joined page.place lasts kept) rec_lsns (set pages number (record { number = page.number; place = p; lsn = other.lsn; applied = page.applied + other.applied }))) c.in_ok-page.ensures.place
    ∙ joined_tallies kept rec_lsns pages c.args.self.now number page c.self.view_is c.self.invariant c.requires.page c.index_mut-page.ensures.value later lasts are_lasts c.in_ok-page.ensures.slots (placed.touched c.if-other-eq0.false)
    c.args.redo_lsn c.index.result.now t c.index.ensures (omega (arith, lt, c.self.invariant.count)) lacks
    ∙ ap (λ x. set c.args.self.now number (joined c.args.redo_lsn (get_or c.args.self.now number t) x))
    (sym (its_tally rest.kept.items rest.rec_lsns.items rest.pages.items c.args.later.now number other c.later.view_is c.later.invariant c.requires.later c.index-other.ensures t))
