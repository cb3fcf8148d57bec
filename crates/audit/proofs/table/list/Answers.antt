use Rattle.std.proofs.Common.{◌≡◌, ◌||◌, Bool, true, false, cond, refl, ◌∙◌, ap}
use Rattle.std.specs.Ordering.{nat_cmp}
use Rattle.std.specs.BTreeSet.{contains}
use Rattle.wal.proofs.Entries.{is_eq-nat_cmp}
use Rattle.audit.proofs.table.list.Goals as goal

or_cond : (b x : Bool) → cond b true x ≡ (b || x)
or_cond true x = refl
or_cond false x = refl

pub returns-clause-ok : goal.returns-clause-ok
returns-clause-ok c = λ t.
    let had : Bool = contains nat_cmp c.args.listed.now t in
    c.in_ok-insert.ensures.updates.0 t ∙ (ap (λ b. cond b true had) (is_eq-nat_cmp c.args.tx t) ∙ or_cond _ had)
