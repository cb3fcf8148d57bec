use Rattle.std.proofs.Common.{ℕ, ◌+◌, ◌<◌, ◌≤◌, ◌∙◌, refl, subst, length, arith}
use Rattle.std.proofs.lemmas.Result.{err_from_is_err_and}
use Rattle.log_laws.specs.Records.{LogContent, history, base_lsn}
use Rattle.log_laws.proofs.Histories.{size_of_log, base_of_log}
use Rattle.tables.specs.Tables.{TablesContent, losers_in}
use Rattle.undo.specs.declared.losers.Loser.{Loser}
use Rattle.undo.specs.declared.losers.Rollback.{Rollback}
use Rattle.undo.specs.Appended.{appended_records}
use Rattle.undo.specs.declared.turns.Turns.{Turns}
use Rattle.undo.specs.Turns.{turns_of, turn_at, Taken}
use Rattle.undo.specs.Rollback.{loser_at, IsRolling, IsTaken, UndoesAt, StopsUndo}
use Rattle.undo.proofs.Placed.{height, height_least, height_above, left_below, taken_updates, taken_others, taken_once}
use Rattle.undo.proofs.Rolling.{update_above, all_appended, all_end, all_exist}
use Rattle.undo.proofs.Few.{height_within, turn_few}
use Rattle.undo.proofs.losers.Rollback.undo_all.Given.{Over}
use Rattle.undo.proofs.losers.Rollback.undo_all.Goals as goal

-- the rollback without the loser that was taken
abbrev left : Rollback → Turns → Rollback
left r waiting = record { waiting = waiting; appended = r.appended }

pub loop-update_lsn-init : goal.loop-update_lsn-init
loop-update_lsn-init g c =
    record {
      updates = c.requires.updates;
      once = c.requires.once;
      told = λ have. have;
      writable = λ fit. fit;
      count = refl;
      rolls = λ tables rolling. rolling;
      put = λ stored given numbered shows. shows;
      few = omega (arith, height_within (history c.args.log.now) (turns_of c.args.self.now.waiting) c.requires.updates, size_of_log c.args.log.now, base_of_log c.args.log.now);
    }

pub undo_at-requires-clause-update : goal.undo_at-requires-clause-update
undo_at-requires-clause-update g c = c.loop-update_lsn.invariant.updates c.in-Some.update_lsn c.in-Some.loser c.in-Some.ensures.taken.there

pub undo_at-requires-clause-updates : goal.undo_at-requires-clause-updates
undo_at-requires-clause-updates g c = taken_updates c.args.log.now c.in-Some.update_lsn c.in-Some.loser c.loop-update_lsn.self (left c.loop-update_lsn.self c.take_newest.new.self) c.in-Some.ensures.taken c.loop-update_lsn.invariant.updates

pub undo_at-requires-clause-others : goal.undo_at-requires-clause-others
undo_at-requires-clause-others g c = taken_others c.in-Some.update_lsn c.in-Some.loser _ _ c.in-Some.ensures.taken c.loop-update_lsn.invariant.once

pub undo_at-requires-clause-room : goal.undo_at-requires-clause-room
undo_at-requires-clause-room g c = omega (arith, c.loop-update_lsn.invariant.few, c.requires.room, c.loop-update_lsn.self.appended.ok.0, c.args.self.now.appended.ok.0)

-- the loser is taken from a rollback in progress
taken : (log : LogContent) (tables : TablesContent) (count update_lsn : ℕ) (l : Loser) (old : Rollback) (waiting : Turns) → Taken update_lsn l (loser_at old) (turn_at waiting)
    → IsRolling log tables count old → IsTaken log tables count update_lsn l (left old waiting)
taken log tables count update_lsn l old waiting is_taken rolling = record { before = old.waiting; rolling = rolling; taken = is_taken }

pub returns-in_err-undo_at-clause-fault : goal.returns-in_err-undo_at-clause-fault
returns-in_err-undo_at-clause-fault g c =
    let exit = err_from_is_err_and c.from_residual.result c.from_residual.ensures.1 in
    let inv = c.loop-update_lsn.invariant in
    let fault = subst (λ n. StopsUndo c.args.log.now n c.in-Some.update_lsn c.in-Some.loser (left c.loop-update_lsn.self c.take_newest.new.self) c.in_err-undo_at.field-0.0) inv.count c.in_err-undo_at.ensures.fault in
    rw (exit.1, exit.2) (λ tables rolling. fault tables (taken c.args.log.now tables _ c.in-Some.update_lsn c.in-Some.loser c.loop-update_lsn.self c.take_newest.new.self c.in-Some.ensures.taken (inv.rolls tables rolling)))

-- the LSN that is taken is below the height, and at or above the height after it
above : (g : Over) (c : goal.In_ok-undo_at g) → c.in-Some.update_lsn < height (turns_of c.loop-update_lsn.self.waiting)
above g c = height_above c.in-Some.update_lsn c.in-Some.loser (turns_of c.loop-update_lsn.self.waiting) c.in-Some.ensures.taken.there

below : (g : Over) (c : goal.In_ok-undo_at g) → height (turns_of c.undo_at.new.self.waiting) ≤ c.in-Some.update_lsn
below g c = height_least c.in-Some.update_lsn (turns_of c.undo_at.new.self.waiting) (c.in_ok-undo_at.ensures.falls (left_below c.in-Some.update_lsn c.in-Some.loser _ _ c.in-Some.ensures.taken))

pub loop-update_lsn-smaller : goal.loop-update_lsn-smaller
loop-update_lsn-smaller g c = omega (arith, above g c, below g c)

pub loop-update_lsn-preserved : goal.loop-update_lsn-preserved
loop-update_lsn-preserved g c =
    let done = c.in_ok-undo_at.ensures in
    let few : length c.undo_at.new.self.appended.items ≤ length c.loop-update_lsn.self.appended.items + 2 = omega (arith, done.few) in
    record {
      updates = done.updates (taken_updates c.args.log.now c.in-Some.update_lsn c.in-Some.loser c.loop-update_lsn.self (left c.loop-update_lsn.self c.take_newest.new.self) c.in-Some.ensures.taken c.loop-update_lsn.invariant.updates);
      once = done.once (taken_once c.in-Some.update_lsn c.in-Some.loser _ _ c.in-Some.ensures.taken c.loop-update_lsn.invariant.once);
      told = λ have. done.told (c.loop-update_lsn.invariant.told have);
      writable = λ fit. done.writable (c.loop-update_lsn.invariant.writable fit);
      count = done.count ∙ c.loop-update_lsn.invariant.count;
      rolls = λ tables rolling.
          subst (λ n. UndoesAt c.args.log.now n c.in-Some.update_lsn c.in-Some.loser (left c.loop-update_lsn.self c.take_newest.new.self) c.undo_at.new.self) c.loop-update_lsn.invariant.count done.undoes tables
          (taken c.args.log.now tables _ c.in-Some.update_lsn c.in-Some.loser c.loop-update_lsn.self c.take_newest.new.self c.in-Some.ensures.taken (c.loop-update_lsn.invariant.rolls tables rolling));
      put = λ stored given numbered shows. done.put stored given numbered (c.loop-update_lsn.invariant.put stored given numbered shows);
      few =
          turn_few (base_lsn (history c.args.log.now)) c.in-Some.update_lsn (height (turns_of c.loop-update_lsn.self.waiting)) (height (turns_of c.undo_at.new.self.waiting)) (length c.loop-update_lsn.self.appended.items) (length c.undo_at.new.self.appended.items) _
          (update_above (history c.args.log.now) c.in-Some.loser.tx c.in-Some.update_lsn (c.loop-update_lsn.invariant.updates c.in-Some.update_lsn c.in-Some.loser c.in-Some.ensures.taken.there))
          (above g c) (below g c) few c.loop-update_lsn.invariant.few;
    }

pub returns-clause-undoes : goal.returns-clause-undoes
returns-clause-undoes g c = λ tables rolling.
    let log = history c.args.log.now in
    let losers = losers_in tables in
    let count = g.P.Pages.count c.args.pages.now in
    let rollback = c.loop-update_lsn.self in
    let at = loser_at rollback in
    let records = appended_records log rollback.appended.items in
    let rolls = c.loop-update_lsn.invariant.rolls tables rolling in
    record {
      appended_are = all_appended log losers count at records rolls.left c.in_default.ensures.nobody;
      no_bad_hop = all_end log losers count at records rolls.left c.in_default.ensures.nobody;
      met_exist = all_exist log losers count at records rolls.left c.in_default.ensures.nobody;
      exist = rolls.exist;
      updates = rolls.updates;
      writable = rolls.writable;
    }

pub returns-clause-few : goal.returns-clause-few
returns-clause-few g c = omega (arith, c.loop-update_lsn.invariant.few)
