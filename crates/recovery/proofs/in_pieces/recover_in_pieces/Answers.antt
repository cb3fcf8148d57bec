use Rattle.std.proofs.Common.{refl, inl, inr}
use Rattle.std.proofs.KnownBytes.{Keeps-refl}
use Rattle.std.proofs.lemmas.Result.{err_from_is_err_and}
use Rattle.device.proofs.Reach.{read_still}
use Rattle.passes.proofs.Reached.{still_told}
use Rattle.recovery.specs.ByPieces.{store_made}
use Rattle.recovery.proofs.ByPieces.{comes_first, comes_read, log_read_through}
use Rattle.recovery.proofs.Delivered.{cut_lawful}
use Rattle.recovery.proofs.StoreAgain.{again_at}
use Rattle.recovery.proofs.NewLogs.{all_completed, log_device, log_left, log_resource, prepared, restored, resumable, store_device, store_left, store_resource}
use Rattle.recovery.proofs.in_pieces.recover_in_pieces.Goals as goal

pub returns-in_err-made-clause-lawful : goal.returns-in_err-made-clause-lawful
returns-in_err-made-clause-lawful g c =
    let exit = err_from_is_err_and c.from_residual-in_err-made.result c.from_residual-in_err-made.ensures.1 in
    rw (exit.1, exit.2) (λ base log store is tells range bytes.
    c.in_err-made.ensures.lawful base log store is tells bytes)

pub returns-in_err-made-clause-interrupted : goal.returns-in_err-made-clause-interrupted
returns-in_err-made-clause-interrupted g c =
    let exit = err_from_is_err_and c.from_residual-in_err-made.result c.from_residual-in_err-made.ensures.1 in
    rw (exit.1, exit.2) (λ base log store is tells range bytes.
    c.in_err-made.ensures.lawful base log store is tells (cut_lawful bytes))

pub returns-in_err-made-clause-cause : goal.returns-in_err-made-clause-cause
returns-in_err-made-clause-cause g c =
    let exit = err_from_is_err_and c.from_residual-in_err-made.result c.from_residual-in_err-made.ensures.1 in
    rw (exit.1, exit.2) (c.in_err-made.ensures.cause c.args.options.now c.in_ok-check_options.ensures.ok)

pub returns-in_err-write-clause-lawful : goal.returns-in_err-write-clause-lawful
returns-in_err-write-clause-lawful g c =
    let exit = err_from_is_err_and c.from_residual-in_err-write.result c.from_residual-in_err-write.ensures.1 in
    rw (exit.1, exit.2) (λ base log store is tells range bytes.
    let m = c.in_ok-made.ensures.answer log store is tells in
    let still = still_told (g.LR.Reread.text c.args.log.now) (g.LR.Reread.text c.read_and_make.new.log) log c.in_ok-made.ensures.log_same is in
    let one = c.in_err-write.ensures.fault log still m.measures in
    log_resource c.in_err-write.field-0.0 one)

pub returns-in_err-write-clause-interrupted : goal.returns-in_err-write-clause-interrupted
returns-in_err-write-clause-interrupted g c =
    let exit = err_from_is_err_and c.from_residual-in_err-write.result c.from_residual-in_err-write.ensures.1 in
    rw (exit.1, exit.2) (λ base log store is tells range bytes.
    let m = c.in_ok-made.ensures.answer log store is tells in
    let still = still_told (g.LR.Reread.text c.args.log.now) (g.LR.Reread.text c.read_and_make.new.log) log c.in_ok-made.ensures.log_same is in
    let one = c.in_err-write.ensures.fault log still m.measures in
    log_resource c.in_err-write.field-0.0 one)

pub returns-in_err-write-clause-resumable : goal.returns-in_err-write-clause-resumable
returns-in_err-write-clause-resumable g c =
    let exit = err_from_is_err_and c.from_residual-in_err-write.result c.from_residual-in_err-write.ensures.1 in
    rw (exit.1, exit.2) (λ base log store is tells range bytes.
    let m = c.in_ok-made.ensures.answer log store is tells in
    let still = still_told (g.LR.Reread.text c.args.log.now) (g.LR.Reread.text c.read_and_make.new.log) log c.in_ok-made.ensures.log_same is in
    inr (resumable log store c.in_ok-made.made m bytes g.N.NewLog c.args.new_log.now c.write.new.self c.in_err-write.field-0.0 (inl (c.in_err-write.ensures.left log still m.measures))))

pub returns-in_err-write-clause-cause : goal.returns-in_err-write-clause-cause
returns-in_err-write-clause-cause g c =
    let exit = err_from_is_err_and c.from_residual-in_err-write.result c.from_residual-in_err-write.ensures.1 in
    rw (exit.1, exit.2) (λ log store is tells.
    let m = c.in_ok-made.ensures.answer log store is tells in
    let still = still_told (g.LR.Reread.text c.args.log.now) (g.LR.Reread.text c.read_and_make.new.log) log c.in_ok-made.ensures.log_same is in
    let one = c.in_err-write.ensures.fault log still m.measures in
    log_device c.in_err-write.field-0.0 _ _ c.args.options.now one)

pub returns-in_err-write-clause-left : goal.returns-in_err-write-clause-left
returns-in_err-write-clause-left g c =
    let exit = err_from_is_err_and c.from_residual-in_err-write.result c.from_residual-in_err-write.ensures.1 in
    rw (exit.1, exit.2) (λ log store is tells.
    let m = c.in_ok-made.ensures.answer log store is tells in
    let still = still_told (g.LR.Reread.text c.args.log.now) (g.LR.Reread.text c.read_and_make.new.log) log c.in_ok-made.ensures.log_same is in
    let one = c.in_err-write.ensures.fault log still m.measures in
    log_left g.N.NewLog c.args.new_log.now c.write.new.self g.SW.Sink c.args.out_store.now c.args.out_store.now (prepared log store c.in_ok-made.made m) c.in_err-write.field-0.0 one (c.in_err-write.ensures.left log still m.measures) (Keeps-refl (g.SW.Sink.taken c.args.out_store.now)))

pub returns-in_err-write-clause-guarded_first : goal.returns-in_err-write-clause-guarded_first
returns-in_err-write-clause-guarded_first g c = λ log store is tells.
    let m = c.in_ok-made.ensures.answer log store is tells in
    let still = still_told (g.LR.Reread.text c.args.log.now) (g.LR.Reread.text c.read_and_make.new.log) log c.in_ok-made.ensures.log_same is in
    elim c.write.ensures.guards [
      | inl same ↦ inl same
      | inr guards ↦ inr (prepared log store c.in_ok-made.made m, guards log still m.measures)
    ]

pub returns-in_err-write_changed-clause-lawful : goal.returns-in_err-write_changed-clause-lawful
returns-in_err-write_changed-clause-lawful g c =
    let exit = err_from_is_err_and c.from_residual-in_err-write_changed.result c.from_residual-in_err-write_changed.ensures.1 in
    rw (exit.1, exit.2) (λ base log store is tells range bytes.
    let m = c.in_ok-made.ensures.answer log store is tells in
    let again = still_told (g.SR.Reread.text c.args.store.now) (g.SR.Reread.text c.read_and_make.new.store) store c.in_ok-made.ensures.store_same tells in
    let (after, shown, recovers) = m.remakes.recovers in
    let at = again_at _ store m.remakes.before again m.remakes.spells in
    let one = c.in_err-write_changed.ensures.fault m.remakes.before after at m.remakes.spells.fits shown in
    store_resource c.in_err-write_changed.field-0.0 one)

pub returns-in_err-write_changed-clause-interrupted : goal.returns-in_err-write_changed-clause-interrupted
returns-in_err-write_changed-clause-interrupted g c =
    let exit = err_from_is_err_and c.from_residual-in_err-write_changed.result c.from_residual-in_err-write_changed.ensures.1 in
    rw (exit.1, exit.2) (λ base log store is tells range bytes.
    let m = c.in_ok-made.ensures.answer log store is tells in
    let again = still_told (g.SR.Reread.text c.args.store.now) (g.SR.Reread.text c.read_and_make.new.store) store c.in_ok-made.ensures.store_same tells in
    let (after, shown, recovers) = m.remakes.recovers in
    let at = again_at _ store m.remakes.before again m.remakes.spells in
    let one = c.in_err-write_changed.ensures.fault m.remakes.before after at m.remakes.spells.fits shown in
    store_resource c.in_err-write_changed.field-0.0 one)

pub returns-in_err-write_changed-clause-resumable : goal.returns-in_err-write_changed-clause-resumable
returns-in_err-write_changed-clause-resumable g c =
    let exit = err_from_is_err_and c.from_residual-in_err-write_changed.result c.from_residual-in_err-write_changed.ensures.1 in
    rw (exit.1, exit.2) (λ base log store is tells range bytes.
    let m = c.in_ok-made.ensures.answer log store is tells in
    let still = still_told (g.LR.Reread.text c.args.log.now) (g.LR.Reread.text c.read_and_make.new.log) log c.in_ok-made.ensures.log_same is in
    inr (resumable log store c.in_ok-made.made m bytes g.N.NewLog c.args.new_log.now c.write.new.self c.in_err-write_changed.field-0.0 (inr (c.in_ok-write.ensures.out log still m.measures))))

pub returns-in_err-write_changed-clause-cause : goal.returns-in_err-write_changed-clause-cause
returns-in_err-write_changed-clause-cause g c =
    let exit = err_from_is_err_and c.from_residual-in_err-write_changed.result c.from_residual-in_err-write_changed.ensures.1 in
    rw (exit.1, exit.2) (λ log store is tells.
    let m = c.in_ok-made.ensures.answer log store is tells in
    let again = still_told (g.SR.Reread.text c.args.store.now) (g.SR.Reread.text c.read_and_make.new.store) store c.in_ok-made.ensures.store_same tells in
    let (after, shown, recovers) = m.remakes.recovers in
    let at = again_at _ store m.remakes.before again m.remakes.spells in
    let one = c.in_err-write_changed.ensures.fault m.remakes.before after at m.remakes.spells.fits shown in
    store_device c.in_err-write_changed.field-0.0 _ _ c.args.options.now one)

pub returns-in_err-write_changed-clause-left : goal.returns-in_err-write_changed-clause-left
returns-in_err-write_changed-clause-left g c =
    let exit = err_from_is_err_and c.from_residual-in_err-write_changed.result c.from_residual-in_err-write_changed.ensures.1 in
    rw (exit.1, exit.2) (λ log store is tells.
    let m = c.in_ok-made.ensures.answer log store is tells in
    let still = still_told (g.LR.Reread.text c.args.log.now) (g.LR.Reread.text c.read_and_make.new.log) log c.in_ok-made.ensures.log_same is in
    let held = c.in_ok-write.ensures.out log still m.measures in
    let again = still_told (g.SR.Reread.text c.args.store.now) (g.SR.Reread.text c.read_and_make.new.store) store c.in_ok-made.ensures.store_same tells in
    let (after, shown, recovers) = m.remakes.recovers in
    let at = again_at _ store m.remakes.before again m.remakes.spells in
    let one = c.in_err-write_changed.ensures.fault m.remakes.before after at m.remakes.spells.fits shown in
    store_left g.N.NewLog c.args.new_log.now c.write.new.self g.SW.Sink c.args.out_store.now c.write_changed.new.out (prepared log store c.in_ok-made.made m) c.in_err-write_changed.field-0.0 one held
    (c.in_err-write_changed.ensures.part m.remakes.before after at m.remakes.spells.fits shown))

pub returns-in_err-write_changed-clause-guarded_first : goal.returns-in_err-write_changed-clause-guarded_first
returns-in_err-write_changed-clause-guarded_first g c = λ log store is tells.
    let m = c.in_ok-made.ensures.answer log store is tells in
    let still = still_told (g.LR.Reread.text c.args.log.now) (g.LR.Reread.text c.read_and_make.new.log) log c.in_ok-made.ensures.log_same is in
    elim c.write.ensures.guards [
      | inl same ↦ inl same
      | inr guards ↦ inr (prepared log store c.in_ok-made.made m, guards log still m.measures)
    ]

pub returns-in_err-write_changed-clause-log_out_first : goal.returns-in_err-write_changed-clause-log_out_first
returns-in_err-write_changed-clause-log_out_first g c = λ log store is tells.
    let m = c.in_ok-made.ensures.answer log store is tells in
    let still = still_told (g.LR.Reread.text c.args.log.now) (g.LR.Reread.text c.read_and_make.new.log) log c.in_ok-made.ensures.log_same is in
    inr (prepared log store c.in_ok-made.made m, c.in_ok-write.ensures.out log still m.measures)

pub returns-clause-lawful : goal.returns-clause-lawful
returns-clause-lawful g c = λ base log store is tells range bytes.
    let m = c.in_ok-made.ensures.answer log store is tells in
    let still = still_told (g.LR.Reread.text c.args.log.now) (g.LR.Reread.text c.read_and_make.new.log) log c.in_ok-made.ensures.log_same is in
    let again = still_told (g.SR.Reread.text c.args.store.now) (g.SR.Reread.text c.read_and_make.new.store) store c.in_ok-made.ensures.store_same tells in
    let (after, shown, recovered) = m.restores base bytes in
    let before = bytes.decoded.before in
    record {
      kept = c.in_ok-made.made.log.kept;
      frames = c.in_ok-made.made.log.frames.items;
      new_store = store_made c.in_ok-made.made after;
      recovered = restored log store c.in_ok-made.made m bytes;
      log_out = c.in_ok-write.ensures.out log still m.measures;
      store_out = (c.in_ok-write_changed.ensures.all before after (again_at _ store before again bytes.decoded.spells) bytes.decoded.spells.fits shown).out;
    }

pub returns-clause-interrupted : goal.returns-clause-interrupted
returns-clause-interrupted g c = λ base log store is tells range bytes.
    all_completed g.N.NewLog c.args.new_log.now c.write.new.self g.SW.Sink c.args.out_store.now c.write_changed.new.out bytes _ (returns-clause-lawful g c base log store is tells range (cut_lawful bytes))

pub returns-clause-answer : goal.returns-clause-answer
returns-clause-answer g c = λ log store is tells.
    let m = c.in_ok-made.ensures.answer log store is tells in
    let still = still_told (g.LR.Reread.text c.args.log.now) (g.LR.Reread.text c.read_and_make.new.log) log c.in_ok-made.ensures.log_same is in
    let again = still_told (g.SR.Reread.text c.args.store.now) (g.SR.Reread.text c.read_and_make.new.store) store c.in_ok-made.ensures.store_same tells in
    let (after, shown, recovers) = m.remakes.recovers in
    let at = again_at _ store m.remakes.before again m.remakes.spells in
    record {
      made = prepared log store c.in_ok-made.made m;
      report_is = refl;
      log_out = c.in_ok-write.ensures.out log still m.measures;
      store_out = (c.in_ok-write_changed.ensures.all m.remakes.before after at m.remakes.spells.fits shown).out;
    }

pub returns-clause-guarded_first : goal.returns-clause-guarded_first
returns-clause-guarded_first g c = λ log store is tells.
    let m = c.in_ok-made.ensures.answer log store is tells in
    let still = still_told (g.LR.Reread.text c.args.log.now) (g.LR.Reread.text c.read_and_make.new.log) log c.in_ok-made.ensures.log_same is in
    elim c.write.ensures.guards [
      | inl same ↦ inl same
      | inr guards ↦ inr (prepared log store c.in_ok-made.made m, guards log still m.measures)
    ]

pub returns-clause-log_out_first : goal.returns-clause-log_out_first
returns-clause-log_out_first g c = λ log store is tells.
    let m = c.in_ok-made.ensures.answer log store is tells in
    let still = still_told (g.LR.Reread.text c.args.log.now) (g.LR.Reread.text c.read_and_make.new.log) log c.in_ok-made.ensures.log_same is in
    inr (prepared log store c.in_ok-made.made m, c.in_ok-write.ensures.out log still m.measures)

-- THE LOG is read to its end before anything is written
pub returns-in_err-made-clause-log_read : goal.returns-in_err-made-clause-log_read
returns-in_err-made-clause-log_read g c =
    let exit = err_from_is_err_and c.from_residual-in_err-made.result c.from_residual-in_err-made.ensures.1 in
    rw (exit.1, exit.2) (comes_first _ c.in_err-made.field-0.0 c.in_err-made.ensures.log_read)

pub returns-in_err-write-clause-log_read : goal.returns-in_err-write-clause-log_read
returns-in_err-write-clause-log_read g c =
    let exit = err_from_is_err_and c.from_residual-in_err-write.result c.from_residual-in_err-write.ensures.1 in
    rw (exit.1, exit.2) (comes_read _ c.in_err-write.field-0.0 (log_read_through _ _ (read_still (g.LR.Reread.text c.args.log.now) (g.LR.Reread.text c.read_and_make.new.log) _ _ c.in_ok-made.ensures.log_same c.in_ok-made.ensures.log_end c.write.ensures.log_grows)))

pub returns-in_err-write_changed-clause-log_read : goal.returns-in_err-write_changed-clause-log_read
returns-in_err-write_changed-clause-log_read g c =
    let exit = err_from_is_err_and c.from_residual-in_err-write_changed.result c.from_residual-in_err-write_changed.ensures.1 in
    rw (exit.1, exit.2) (comes_read _ c.in_err-write_changed.field-0.0 (log_read_through _ _ (read_still (g.LR.Reread.text c.args.log.now) (g.LR.Reread.text c.read_and_make.new.log) _ _ c.in_ok-made.ensures.log_same c.in_ok-made.ensures.log_end c.write.ensures.log_grows)))

pub returns-in_err-write-clause-log_read_first : goal.returns-in_err-write-clause-log_read_first
returns-in_err-write-clause-log_read_first g c = inr (read_still (g.LR.Reread.text c.args.log.now) (g.LR.Reread.text c.read_and_make.new.log) _ _ c.in_ok-made.ensures.log_same c.in_ok-made.ensures.log_end c.write.ensures.log_grows)

pub returns-in_err-write_changed-clause-log_read_first : goal.returns-in_err-write_changed-clause-log_read_first
returns-in_err-write_changed-clause-log_read_first g c = inr (read_still (g.LR.Reread.text c.args.log.now) (g.LR.Reread.text c.read_and_make.new.log) _ _ c.in_ok-made.ensures.log_same c.in_ok-made.ensures.log_end c.write.ensures.log_grows)

pub returns-clause-log_read_first : goal.returns-clause-log_read_first
returns-clause-log_read_first g c = inr (read_still (g.LR.Reread.text c.args.log.now) (g.LR.Reread.text c.read_and_make.new.log) _ _ c.in_ok-made.ensures.log_same c.in_ok-made.ensures.log_end c.write.ensures.log_grows)
