-- What the first round has seen, in the words of redo's contract.
use Rattle.std.proofs.Common.{◌≡◌, ℕ, zero, suc, ◌<◌, ◌≤◌, List, Some, length, refl, subst, arith}
use Rattle.page.specs.declared.fault.Fault.{Fault}
use Rattle.page.specs.declared.fault.Fault.TheVariants.{NoResource, NoSuchPage}
use Rattle.log_laws.specs.Records.{LogRecord, history, record_at, last_lsn, LogContent, base_lsn}
use Rattle.log_laws.proofs.Histories.{record_within, base_within, record_above}
use Rattle.redo.specs.declared.route.Route.{Route}
use Rattle.redo.specs.Inputs.{InputContent}
use Rattle.redo.specs.Parted.{PartedContent}
use Rattle.redo.specs.Routes.{skipped, skipped_in, ExistWithin, IsMissing, RoundFault, AreRoutes}
use Rattle.redo.specs.Redone.{AreWorkers, IsLookedAt, AllExist, IsFirstMissing, RedoFault}
use Rattle.redo.proofs.Stretches.{boundary_last, skipped_within, skipped_some}
use Rattle.redo.proofs.Routes.{all_exist}

-- what is not skipped is looked at
pub looked_at : (base redo_lsn len lsn : ℕ) → skipped base redo_lsn len < lsn → lsn ≤ len → IsLookedAt redo_lsn lsn
looked_at base zero len lsn past within = absurd (let e : skipped base 0 len ≡ len = refl in omega arith)
looked_at base (suc n) len lsn past within = let e = skipped_some base n len in ((λ z. omega arith), omega arith)

-- and what is looked at is not skipped
not_skipped : (base redo_lsn len lsn : ℕ) → IsLookedAt redo_lsn lsn → base < lsn → lsn ≤ len → skipped base redo_lsn len < lsn
not_skipped base zero len lsn h above within = absurd (h.0 refl)
not_skipped base (suc n) len lsn h above within = let from = h.1 in let e = skipped_some base n len in omega arith

in_log : (log : LogContent) (lsn : ℕ) (r : LogRecord) → record_at (history log) lsn ≡ Some r → lsn ≤ last_lsn (history log)
in_log log lsn r e = record_within (history log) lsn r e

-- if all exist that are not skipped, all exist that are looked at
pub exist_from : (log : LogContent) (count redo_lsn : ℕ) → ExistWithin log count (skipped (base_lsn (history log)) redo_lsn (last_lsn (history log))) (last_lsn (history log)) → AllExist log count redo_lsn
exist_from log count redo_lsn exist lsn r looked found =
    let within = in_log log lsn r found in
    exist lsn r (not_skipped (base_lsn (history log)) redo_lsn (last_lsn (history log)) lsn looked (record_above (history log) lsn r found) within) within found

pub exist_looked : (input : InputContent) → ExistWithin input.log (length input.images) (skipped_in input) (last_lsn (history input.log)) → AllExist input.log (length input.images) input.redo_lsn
exist_looked input exist = exist_from input.log (length input.images) input.redo_lsn exist

-- and the first that is missing of those not skipped is the first of those looked at
pub first_missing : (log : LogContent) (count redo_lsn lsn : ℕ) → IsMissing log count (skipped (base_lsn (history log)) redo_lsn (last_lsn (history log))) lsn → IsFirstMissing log count redo_lsn lsn
first_missing log count redo_lsn lsn m =
    let within = in_log log lsn m.entry m.there in
    record {
      entry = m.entry;
      looked_at = looked_at (base_lsn (history log)) redo_lsn (last_lsn (history log)) lsn m.past within;
      there = m.there;
      beyond = m.beyond;
      before = λ k r looked less found. m.before k r (not_skipped (base_lsn (history log)) redo_lsn (last_lsn (history log)) k looked (record_above (history log) k r found) (in_log log k r found)) (omega arith) found;
    }

pub exist_all : (parted : PartedContent) (routes : List Route) → AreRoutes parted routes → AllExist parted.input.log (length parted.input.images) parted.input.redo_lsn
exist_all parted routes are =
    let len = last_lsn (history parted.input.log) in
    let last = boundary_last (skipped_in parted.input) len (length routes) (skipped_within (base_lsn (history parted.input.log)) parted.input.redo_lsn len (base_within (history parted.input.log))) are.some in
    exist_looked parted.input (subst (ExistWithin parted.input.log (length parted.input.images) (skipped_in parted.input)) last (all_exist parted routes are))

pub round_fault : (input : InputContent) (workers : ℕ) (e : Fault) → AreWorkers workers → RoundFault input e → RedoFault input.log (length input.images) input.redo_lsn workers e
round_fault input workers NoResource fit cause = tt
round_fault input workers (NoSuchPage lsn) fit m = (fit, first_missing input.log (length input.images) input.redo_lsn lsn m)
round_fault input workers e fit cause = absurd cause
