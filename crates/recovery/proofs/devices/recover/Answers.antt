use Rattle.std.proofs.Common.{refl, inl, inr}
use Rattle.std.proofs.lemmas.Result.{err_from_is_err_and}
use Rattle.page.specs.declared.fault.Fault.TheVariants.{ReadLog, ReadStore, WriteLog, WriteStore}
use Rattle.page.specs.File.{store_text}
use Rattle.recovery.specs.Recovery.{log_with}
use Rattle.recovery.proofs.Delivered.{blamed_on, makes, recovered, nothing_out, left_out, cut_lawful, completed}
use Rattle.recovery.proofs.Resuming.{leaves_cut}
use Rattle.recovery.proofs.devices.recover.Goals as goal

pub returns-in_err-text-clause-lawful : goal.returns-in_err-text-clause-lawful
returns-in_err-text-clause-lawful g c =
    let exit = err_from_is_err_and c.from_residual-in_err-text.result c.from_residual-in_err-text.ensures.1 in
    rw (exit.1, exit.2) c.in_err-text.ensures.lawful

pub returns-in_err-text-clause-interrupted : goal.returns-in_err-text-clause-interrupted
returns-in_err-text-clause-interrupted g c = λ base log store tells_log tells_store range bytes.
    let exit = err_from_is_err_and c.from_residual-in_err-text.result c.from_residual-in_err-text.ensures.1 in
    rw (exit.1, exit.2) (c.in_err-text.ensures.lawful base log store tells_log tells_store range (cut_lawful bytes))

pub returns-in_err-text-clause-cause : goal.returns-in_err-text-clause-cause
returns-in_err-text-clause-cause g c =
    let exit = err_from_is_err_and c.from_residual-in_err-text.result c.from_residual-in_err-text.ensures.1 in
    rw (exit.1, exit.2) c.in_err-text.ensures.cause

pub returns-in_err-text-clause-out : goal.returns-in_err-text-clause-out
returns-in_err-text-clause-out g c =
    let exit = err_from_is_err_and c.from_residual-in_err-text.result c.from_residual-in_err-text.ensures.1 in
    rw (exit.1, exit.2) (nothing_out g.LW.Sink c.args.out_log.now g.SW.Sink c.args.out_store.now _ _ c.in_err-text.field-0.0 c.in_err-text.ensures.no_sink)

pub returns-in_err-text-clause-log_source : goal.returns-in_err-text-clause-log_source
returns-in_err-text-clause-log_source g c =
    let exit = err_from_is_err_and c.from_residual-in_err-text.result c.from_residual-in_err-text.ensures.1 in
    rw (exit.1, exit.2) (blamed_on ReadLog c.in_err-text.field-0.0 _ _ _ _ refl refl c.in_err-text.ensures.log_source)

pub returns-in_err-text-clause-store_source : goal.returns-in_err-text-clause-store_source
returns-in_err-text-clause-store_source g c =
    let exit = err_from_is_err_and c.from_residual-in_err-text.result c.from_residual-in_err-text.ensures.1 in
    rw (exit.1, exit.2) (blamed_on ReadStore c.in_err-text.field-0.0 _ _ _ _ refl refl c.in_err-text.ensures.store_source)

pub returns-in_err-write_both-clause-out : goal.returns-in_err-write_both-clause-out
returns-in_err-write_both-clause-out g c =
    let exit = err_from_is_err_and c.from_residual-in_err-write_both.result c.from_residual-in_err-write_both.ensures.1 in
    let made = makes c.in_ok-text.text c.in_ok-text.remade c.kept_of-kept.result c.kept_of-kept.ensures c.in_ok-text.ensures.made in
    rw (exit.1, exit.2) (left_out g.LW.Sink c.args.out_log.now c.write_both.new.log g.SW.Sink c.args.out_store.now c.write_both.new.store made c.in_err-write_both.field-0.0 c.in_err-write_both.ensures.fault)

pub returns-in_err-write_both-clause-log_out_first : goal.returns-in_err-write_both-clause-log_out_first
returns-in_err-write_both-clause-log_out_first g c =
    let made = makes c.in_ok-text.text c.in_ok-text.remade c.kept_of-kept.result c.kept_of-kept.ensures c.in_ok-text.ensures.made in
    elim c.write_both.ensures.log_first [
      | inl same ↦ inl same
      | inr out ↦ inr (made, out)
    ]

pub returns-in_err-write_both-clause-resumable : goal.returns-in_err-write_both-clause-resumable
returns-in_err-write_both-clause-resumable g c = λ base log store tells_log tells_store range bytes.
    let exit = err_from_is_err_and c.from_residual-in_err-write_both.result c.from_residual-in_err-write_both.ensures.1 in
    let remade = c.in_ok-text.remade in
    let new = log_with c.kept_of-kept.result remade in
    let recovers = recovered c.in_ok-text.text remade c.kept_of-kept.result c.kept_of-kept.ensures (record { base = base; log = log; store = store; bytes = bytes }) (c.in_ok-text.ensures.lawful base log store tells_log tells_store range bytes) in
    rw (exit.1, exit.2) (leaves_cut bytes new recovers.reads g.LW.Sink c.args.out_log.now c.write_both.new.log g.SW.Sink c.args.out_store.now c.write_both.new.store (store_text remade.store) c.in_err-write_both.field-0.0 c.in_err-write_both.ensures.fault)

pub returns-in_err-write_both-clause-log_sink : goal.returns-in_err-write_both-clause-log_sink
returns-in_err-write_both-clause-log_sink g c =
    let exit = err_from_is_err_and c.from_residual-in_err-write_both.result c.from_residual-in_err-write_both.ensures.1 in
    rw (exit.1, exit.2) (blamed_on WriteLog c.in_err-write_both.field-0.0 _ _ _ _ refl refl c.in_err-write_both.ensures.log_sink)

pub returns-in_err-write_both-clause-store_sink : goal.returns-in_err-write_both-clause-store_sink
returns-in_err-write_both-clause-store_sink g c =
    let exit = err_from_is_err_and c.from_residual-in_err-write_both.result c.from_residual-in_err-write_both.ensures.1 in
    rw (exit.1, exit.2) (blamed_on WriteStore c.in_err-write_both.field-0.0 _ _ _ _ refl refl c.in_err-write_both.ensures.store_sink)

pub returns-in_err-write_both-clause-read_first : goal.returns-in_err-write_both-clause-read_first
returns-in_err-write_both-clause-read_first g c = inr c.in_ok-text.ensures.end

pub returns-clause-read_first : goal.returns-clause-read_first
returns-clause-read_first g c = inr c.in_ok-text.ensures.end

pub returns-clause-lawful : goal.returns-clause-lawful
returns-clause-lawful g c = λ base log store tells_log tells_store range bytes.
    let remade = c.in_ok-text.remade in
    record {
      new_log = log_with c.kept_of-kept.result remade;
      new_store = store_text remade.store;
      recovered = recovered c.in_ok-text.text remade c.kept_of-kept.result c.kept_of-kept.ensures (record { base = base; log = log; store = store; bytes = bytes }) (c.in_ok-text.ensures.lawful base log store tells_log tells_store range bytes);
      log_out = c.in_ok-write_both.ensures.log_out.out;
      store_out = c.in_ok-write_both.ensures.store_out.out;
    }

pub returns-clause-interrupted : goal.returns-clause-interrupted
returns-clause-interrupted g c = λ base log store tells_log tells_store range bytes.
    completed bytes _ _ _ _ _ _ _ (returns-clause-lawful g c base log store tells_log tells_store range (cut_lawful bytes))

pub returns-clause-answer : goal.returns-clause-answer
returns-clause-answer g c =
    let made = makes c.in_ok-text.text c.in_ok-text.remade c.kept_of-kept.result c.kept_of-kept.ensures c.in_ok-text.ensures.made in
    record { made = made; report_is = refl; log_out = c.in_ok-write_both.ensures.log_out.out; store_out = c.in_ok-write_both.ensures.store_out.out }

pub returns-clause-log_out_first : goal.returns-clause-log_out_first
returns-clause-log_out_first g c =
    let made = makes c.in_ok-text.text c.in_ok-text.remade c.kept_of-kept.result c.kept_of-kept.ensures c.in_ok-text.ensures.made in
    inr (made, c.in_ok-write_both.ensures.log_out)
