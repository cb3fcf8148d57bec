use Rattle.std.proofs.Common.{ℕ, List, length, refl, sym, ap, subst, arith}
use Rattle.log_laws.specs.Records.{start}
use Rattle.audit.specs.Statuses.{IsStatusOf, unknown}
use Rattle.audit.specs.Standings.{IsStandingOf}
use Rattle.audit.proofs.audit_state.AuditState.start.Goals as goal

none_known : (links : List ℕ) (t base : ℕ) → IsStatusOf links t (start base) unknown
none_known links t base = record { unfinished = refl; last = refl; undo_next = refl; aborted = refl; prepared = refl; pending = refl }

pub returns-clause-ok : goal.returns-clause-ok
returns-clause-ok c = record {
  base = refl;
  links = omega (arith, ap length c.new.ensures.items);
  stands = λ t. subst (λ s. IsStandingOf c.new.result.items t (start c.args.lsn) s) (sym (c.start.ensures t)) (none_known c.new.result.items t c.args.lsn);
  cells = c.in_ok-cells.ensures.ok c.args.lsn;
}
