use Rattle.std.proofs.Common.{◌≡◌, ◌<◌, ◌≤◌, length, get_or, sym, ap, ◌∙◌, subst, arith}
use Rattle.redo.specs.Passing.{TalliesSoFar, AreScanned}
use Rattle.redo.specs.Joined.{joined, JoinsStretches, JoinsPages}
use Rattle.std.proofs.lemmas.Result.{on_ok_weaker}
use Rattle.redo.proofs.Joining.{joined_few, scanned_joined, all_joined}
use Rattle.redo.proofs.tally_scan.TallyScan.join.Goals as goal

pub join_each-joined-requires-clause-room : goal.join_each-joined-requires-clause-room
join_each-joined-requires-clause-room c = λ k lt t.
    let old = c.self.inside in
    let rest = c.later.inside in
    let le : old.upto ≤ rest.base = omega (arith, c.requires.upto, ap (λ (s : TalliesSoFar). s.upto) c.self.view_is, ap (λ (s : TalliesSoFar). s.base) c.later.view_is) in
    let pages : length rest.tallies ≡ length old.tallies = ap (λ (s : TalliesSoFar). length s.tallies) c.later.view_is ∙ c.requires.pages ∙ sym (ap (λ (s : TalliesSoFar). length s.tallies) c.self.view_is) in
    let fits : c.upto-upto.result < 18446744073709551616 = search arith in
    let same : c.upto-upto.result ≡ rest.upto = c.upto-upto.ensures ∙ sym (ap (λ (s : TalliesSoFar). s.upto) c.later.view_is) in
    omega (arith, joined_few old.redo_lsn old.base old.upto rest.redo_lsn rest.base rest.upto old.tallies rest.tallies c.self.invariant c.later.invariant le pages k t lt, fits, same)

pub invariant_of-self : goal.invariant_of-self
invariant_of-self c =
    let old = c.self.inside in
    let rest = c.later.inside in
    let le : old.upto ≤ rest.base = omega (arith, c.requires.upto, ap (λ (s : TalliesSoFar). s.upto) c.self.view_is, ap (λ (s : TalliesSoFar). s.base) c.later.view_is) in
    let pages : length rest.tallies ≡ length old.tallies = ap (λ (s : TalliesSoFar). length s.tallies) c.later.view_is ∙ c.requires.pages ∙ sym (ap (λ (s : TalliesSoFar). length s.tallies) c.self.view_is) in
    let same : c.upto-upto.result ≡ rest.upto = c.upto-upto.ensures ∙ sym (ap (λ (s : TalliesSoFar). s.upto) c.later.view_is) in
    subst (λ n. AreScanned old.redo_lsn old.base n c.join_each-joined.new.tallies) (sym same)
    (scanned_joined old.redo_lsn old.base old.upto rest.redo_lsn rest.base rest.upto old.tallies rest.tallies c.self.invariant c.later.invariant le pages c.join_each-joined.new.tallies c.join_each-joined.ensures.count
    c.join_each-joined.ensures.each)

pub returns-clause-each : goal.returns-clause-each
returns-clause-each c =
    let new = c.join_each-joined.new.tallies in
    let old : TalliesSoFar = record { tallies = c.self.inside.tallies; redo_lsn = c.self.inside.redo_lsn; base = c.self.inside.base; upto = c.self.inside.upto } in
    let view : TalliesSoFar = record { tallies = new; redo_lsn = c.self.inside.redo_lsn; base = c.self.inside.base; upto = c.upto-upto.result } in
    subst (λ (s : TalliesSoFar). JoinsPages s c.args.later.now view) c.self.view_is
    (subst (λ (s : TalliesSoFar). JoinsPages old s view) c.later.view_is c.join_each-joined.ensures.each)

pub returns-clause-joined : goal.returns-clause-joined
returns-clause-joined c =
    let new = c.join_each-joined.new.tallies in
    let old : TalliesSoFar = record { tallies = c.self.inside.tallies; redo_lsn = c.self.inside.redo_lsn; base = c.self.inside.base; upto = c.self.inside.upto } in
    let view : TalliesSoFar = record { tallies = new; redo_lsn = c.self.inside.redo_lsn; base = c.self.inside.base; upto = c.upto-upto.result } in
    on_ok_weaker c.join_each-joined.result
    (λ each.
    subst (λ (s : TalliesSoFar). JoinsStretches s c.args.later.now view) c.self.view_is
    (subst (λ (s : TalliesSoFar). JoinsStretches old s view) c.later.view_is
    (λ log images tables others from to same on le front end.
    all_joined log images tables others from to c.self.inside.tallies c.later.inside.tallies new on le front end c.join_each-joined.ensures.count
    (λ k t lt. each k t lt ∙ ap (λ n. joined n (get_or c.self.inside.tallies k t) (get_or c.later.inside.tallies k t)) (sym same)))))
    c.join_each-joined.ensures.joined
