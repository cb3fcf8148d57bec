use Rattle.std.proofs.Common.{◌-◌, length, get_or, ap, ◌∙◌, subst, arith}
use Rattle.std.specs.Prelude.{IfSome}
use Rattle.log_laws.specs.Records.{last_lsn, history}
use Rattle.pieces.specs.declared.mark.Mark.{Mark}
use Rattle.passes.specs.Stretches.{HasFoundSince, AreTalliedAfter, IsFoundOf, IsStretchOf, FindsBetween, ScansFor}
use Rattle.passes.proofs.ReadOn.{joined_last}
use Rattle.passes.proofs.Stretches.{stretch_joined}
use Rattle.passes.proofs.rounds.join_stretch.Goals as goal

some : Mark
some = record { lsn = 0; offset = 0 }

pub join_scan-requires-clause-upto : goal.join_scan-requires-clause-upto
join_scan-requires-clause-upto g c = omega (arith, c.requires.ready some, c.requires.fit.base some, ap (λ (m : Mark). m.lsn) (c.requires.next some))

pub returns-clause-ready : goal.returns-clause-ready
returns-clause-ready g c = λ d.
    let marks = c.args.scan.now.marks in
    let later = c.args.found.reading.marks in
    omega (
      arith,
      c.in_ok-join_scan.ensures.upto,
      c.requires.fit.ready d,
      ap (λ (m : Mark). m.lsn) (ap (λ ms. get_or ms (length ms - 1) d) c.in_ok-append.ensures.appended ∙ joined_last marks later c.requires.some c.append.ensures.some c.requires.next d),
    )

pub returns-clause-keeps : goal.returns-clause-keeps
returns-clause-keeps g c = c.in_ok-join_scan.ensures.keeps c.requires.fit.no_transaction_0

pub returns-clause-marks : goal.returns-clause-marks
returns-clause-marks g c = (c.append.ensures.some, c.in_ok-append.ensures.appended)

pub returns-clause-analysed : goal.returns-clause-analysed
returns-clause-analysed g c = λ read.
    let later = c.args.found.reading.pass in
    stretch_joined FindsBetween (g.S.Reread.text c.args.source.now) c.args.scan.now (record { marks = c.append.new.self; pass = c.join_scan.new.scan }) c.args.found (λ whole before after. HasFoundSince before after later.tables)
    c.requires.some c.append.ensures.some c.requires.next c.in_ok-append.ensures.appended
    (λ whole before after within own. (c.in_ok-join_scan.ensures.joined whole before after within own).0)
    (subst (λ o. IfSome o (λ x. IsFoundOf (g.S.Reread.text c.args.source.now) c.args.found)) c.requires.read read)

pub returns-clause-passed : goal.returns-clause-passed
returns-clause-passed g c = λ images read.
    let later = c.args.found.reading.pass in
    stretch_joined (ScansFor images) (g.S.Reread.text c.args.source.now) c.args.scan.now (record { marks = c.append.new.self; pass = c.join_scan.new.scan }) c.args.found
    (λ whole before after. HasFoundSince before after later.tables × AreTalliedAfter whole before images (last_lsn (history after)) later.tallies)
    c.requires.some c.append.ensures.some c.requires.next c.in_ok-append.ensures.appended
    (λ whole before after within own. (let joins = c.in_ok-join_scan.ensures.joined whole before after within own.0 in (joins.0, λ so_far. joins.1 images own.1 so_far)))
    (subst (λ o. IfSome o (λ x. IsStretchOf (g.S.Reread.text c.args.source.now) images c.args.found)) c.requires.read read)
