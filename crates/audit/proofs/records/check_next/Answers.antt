use Rattle.std.proofs.Common.{◌≡◌, ◌+◌, sym, subst, arith, length}
use Rattle.log_laws.proofs.Histories.{size_of_first}
use Rattle.log_laws.specs.Records.{History, history, last_lsn, first}
use Rattle.wal.specs.Content.{shown}
use Rattle.audit.specs.Passing.{IsAuditStateOf}
use Rattle.audit.proofs.Noting.{has_cell}
use Rattle.audit.proofs.Passing.{on_ok, begins_first, sound_more, record_fault}
use Rattle.audit.proofs.records.check_next.Goals as goal

pub returns-in-Err-clause-err : goal.returns-in-Err-clause-err
returns-in-Err-clause-err c = λ base sound state.
    let so_far : History = first c.args.lsn (history c.args.log.now) in
    let at : last_lsn so_far + 1 ≡ c.args.lsn + 1 = omega (arith, size_of_first c.args.lsn (history c.args.log.now) c.requires.from (omega arith)) in
    record_fault base c.args.count (history c.args.log.now) c.in-Err.fault
    (record {
      lsn = c.args.lsn;
      entry = shown c.after-view.result;
      there = c.after-view.ensures.there;
      before = sound;
      broken = c.in-Err.ensures.err base so_far at (begins_first c.args.log.now c.args.lsn c.requires.from) sound.lawful state;
    })

pub note-requires-clause-cell : goal.note-requires-clause-cell
note-requires-clause-cell c = has_cell c.args.count (length c.args.audit_state.now.cells.items) (shown c.after-view.result) c.requires.size c.in_default.ensures.named c.after-view.ensures.fits

pub returns-clause-ok : goal.returns-clause-ok
returns-clause-ok c =
    on_ok c.note.result
    (λ noted base sound state.
    let so_far : History = first c.args.lsn (history c.args.log.now) in
    let at : last_lsn so_far + 1 ≡ c.args.lsn + 1 = omega (arith, size_of_first c.args.lsn (history c.args.log.now) c.requires.from (omega arith)) in
    let obeys = c.in_default.ensures.ok base so_far at (begins_first c.args.log.now c.args.lsn c.requires.from) sound.lawful state in
    let named = c.in_default.ensures.named in (
      sound_more base c.args.count (history c.args.log.now) c.args.lsn (shown c.after-view.result) c.after-view.ensures.next sound named obeys,
      subst (λ (h : History). IsAuditStateOf base c.args.count h c.note.new.self) (sym c.after-view.ensures.next) (noted base c.args.count so_far at named obeys.finish state),
    ))
    c.note.ensures.ok
