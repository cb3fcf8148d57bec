use Rattle.std.proofs.Common.{ap, ◌∙◌, inl, inr, arith}
use Rattle.log_laws.specs.Records.{lsn_before, LogContent, history}
use Rattle.log_laws.proofs.Histories.{record_none, base_of_log}
use Rattle.wal.proofs.Places.{numbered}
use Rattle.wal.proofs.log.Log.number_of.Goals.{then-lsn-base-via-then-lsn-base, then-lsn-base-via-else-lsn-base+then-lsn-last}
use Rattle.wal.proofs.log.Log.number_of.Goals as goal

pub returns-then-lsn-base-clause-none : goal.returns-then-lsn-base-clause-none
returns-then-lsn-base-clause-none c =
    let log = c.args.self.now in
    let begun = ap (λ (l : LogContent). lsn_before l.begins) c.self.view_is in
    elim c.then-lsn-base.branch [
      | then-lsn-base-via-then-lsn-base w ↦ record_none (history log) c.args.lsn (inl (omega (arith, w.if-lsn-base.true, c.base-base.ensures, base_of_log log, begun)))
      | then-lsn-base-via-else-lsn-base+then-lsn-last w ↦ record_none (history log) c.args.lsn (inr (omega (arith, w.if-lsn-last.true, w.last.ensures)))
    ]

pub returns-clause-some : goal.returns-clause-some
returns-clause-some c =
    let at = numbered c.args.self.now c.base-base.result c.args.lsn (c.base-base.ensures ∙ ap (λ (l : LogContent). lsn_before l.begins) c.self.view_is) (omega (arith, c.if-lsn-base.false)) (omega (arith, c.if-lsn-last.false, c.last.ensures)) in
    (at.within, at.there)
