use Rattle.std.proofs.Common.{cond, eq-eqb, ne_eqb, sym, ap, subst}
use Rattle.log_laws.specs.Records.{start, ◌▸▸◌, last_lsn}
use Rattle.analysis.specs.Fresh.{FreshTables, HasFound, FoundStretch, HasFoundIn}
use Rattle.analysis.proofs.Fresh.{stretch_joined}
use Rattle.analysis.proofs.fresh_scan.FreshScan.join.Goals as goal

pub returns-then-self-eq0-clause-goes_on : goal.returns-then-self-eq0-clause-goes_on
returns-then-self-eq0-clause-goes_on c = λ log records told found.
    let later : FoundStretch = record { stretch = c.later.inside.stretch; first_change = c.later.inside.first_change } in
    let old : FreshTables = record { entries = c.self.inside.transactions; first_change = c.self.inside.first_change } in
    let new : FreshTables = record { entries = c.join.new.self; first_change = later.first_change } in
    stretch_joined later old new c.in_ok-join.ensures.goes_on (sym (ap (λ b. cond b later.first_change old.first_change) (eq-eqb old.first_change 0 c.if-self-eq0.true))) log records
    (subst (HasFoundIn (start (last_lsn log) ▸▸ records)) (sym c.later.view_is) told) (subst (HasFound log) (sym c.self.view_is) found)

pub returns-else-self-eq0-clause-goes_on : goal.returns-else-self-eq0-clause-goes_on
returns-else-self-eq0-clause-goes_on c = λ log records told found.
    let later : FoundStretch = record { stretch = c.later.inside.stretch; first_change = c.later.inside.first_change } in
    let old : FreshTables = record { entries = c.self.inside.transactions; first_change = c.self.inside.first_change } in
    let new : FreshTables = record { entries = c.join.new.self; first_change = old.first_change } in
    stretch_joined later old new c.in_ok-join.ensures.goes_on (sym (ap (λ b. cond b later.first_change old.first_change) (ne_eqb old.first_change 0 c.if-self-eq0.false))) log records
    (subst (HasFoundIn (start (last_lsn log) ▸▸ records)) (sym c.later.view_is) told) (subst (HasFound log) (sym c.self.view_is) found)
