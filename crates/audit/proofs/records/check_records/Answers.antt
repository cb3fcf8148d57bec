use Rattle.std.proofs.Common.{Bool, ◌≡◌, sym, subst, arith}
use Rattle.std.specs.Prelude.{IfSome, IsTrue, ◌↔◌}
use Rattle.log_laws.proofs.Histories.{first_at_base, first_all}
use Rattle.log_laws.specs.Records.{History, start, history, first}
use Rattle.log_laws.specs.Checkpoint.{true_table}
use Rattle.log_laws.specs.Pages.{base_pages}
use Rattle.audit.specs.FirstFault.{AreSound}
use Rattle.audit.specs.Statuses.{IsTop}
use Rattle.audit.specs.Standings.{newest_of, standing_in}
use Rattle.audit.specs.Passing.{IsAuditStateOf}
use Rattle.audit.proofs.Noting.{is_top}
use Rattle.audit.proofs.Passing.{if_some}
use Rattle.audit.proofs.records.check_records.Goals.{then-lsn-master+in_ok-is_true, else-lsn-master}
use Rattle.audit.proofs.records.check_records.Goals as goal

pub check_next-requires-clause-top : goal.check_next-requires-clause-top
check_next-requires-clause-top c = λ t.
    let so_far = first c.loop-lsn.lsn (history c.args.log.now) in
    let state = c.loop-lsn.invariant.state in
    subst (λ b. IsTop b c.loop-lsn.audit_state.links.items (newest_of (standing_in c.loop-lsn.audit_state.standings t))) (sym state.base)
    (is_top c.loop-lsn.audit_state.links.items t so_far (standing_in c.loop-lsn.audit_state.standings t) (state.stands t))

pub returns-in-Err-clause-err : goal.returns-in-Err-clause-err
returns-in-Err-clause-err c = c.in-Err.ensures.err (base_pages c.args.base.now) c.loop-lsn.invariant.sound c.loop-lsn.invariant.state

pub loop-lsn-init : goal.loop-lsn-init
loop-lsn-init c =
    let log = history c.args.log.now in
    let base = base_pages c.args.base.now in
    let none : first c.base-begins.result log ≡ start c.base-begins.result = first_at_base log c.base-begins.result c.base-begins.ensures.is in
    record {
      sound = subst (AreSound base c.args.count) (sym none) (record { lawful = tt; named = λ lsn r there. absurd cc });
      state = subst (λ (h : History). IsAuditStateOf base c.args.count h c.in_ok-audit_state.audit_state) (sym none) c.in_ok-audit_state.ensures.ok;
      table = λ le. if_some c.args.transactions (λ t begins. absurd (omega (arith, begins.0, le, c.base-begins.ensures.is))) c.requires.begins;
    }

pub loop-lsn-preserved : goal.loop-lsn-preserved
loop-lsn-preserved c =
    let log = history c.args.log.now in
    let kept = c.in_default.ensures.ok (base_pages c.args.base.now) c.loop-lsn.invariant.sound c.loop-lsn.invariant.state in
    let told = λ (yes : Bool). IfSome c.args.transactions (λ t. IsTrue yes ↔ t.now ≡ true_table (first c.args.master log)) in
    record {
      sound = kept.0;
      state = kept.1;
      table = λ le.
          elim c.if-lsn-master.branch [
            | then-lsn-master+in_ok-is_true w ↦
                subst told (sym w.is_true-is)
                (if_some c.args.transactions
                (λ t known.
                let state = subst (λ n. IsAuditStateOf (base_pages c.args.base.now) c.args.count (first n log) c.check_next.new.audit_state) w.if-lsn-master.true kept.1 in
                known (first c.args.master log) c.check_next.new.audit_state.links.items state.stands)
                w.in_ok-is_true.ensures.ok)
            | else-lsn-master w ↦ subst told (sym w.is_true-is) (c.loop-lsn.invariant.table (omega (arith, le, w.if-lsn-master.false)))
          ];
    }

pub returns-clause-ok : goal.returns-clause-ok
returns-clause-ok c =
    subst (AreSound (base_pages c.args.base.now) c.args.count) (first_all c.loop-lsn.lsn (history c.args.log.now) (omega (arith, c.loop-lsn-test.false, c.last-lsn-end.ensures))) c.loop-lsn.invariant.sound
