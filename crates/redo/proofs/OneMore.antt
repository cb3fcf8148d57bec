-- One record of a log that is given by itself: the tallies with it, and what is known of the records so far.
use Rattle.std.proofs.Common.{◌≡◌, ℕ, ◌+◌, ◌-◌, ◌<◌, ◌≤◌, List, Some, length, get_or, sym, ap, ◌∙◌, subst, inl, inr, arith}
use Rattle.std.proofs.lemmas.Bool.{cases_lt}
use Rattle.std.proofs.lemmas.Option.{same_Some}
use Rattle.page.specs.declared.fault.Fault.{Fault}
use Rattle.page.specs.declared.fault.Fault.TheVariants.{NoResource, NoSuchPage}
use Rattle.wal.specs.declared.glance.Glance.{Glance}
use Rattle.wal.specs.Glances.{glance_of, IsGlanceBehind}
use Rattle.log_laws.specs.Records.{LogRecord, LogContent, history, record_at, last_lsn, base_lsn}
use Rattle.log_laws.proofs.Histories.{record_above, record_within}
use Rattle.redo.specs.declared.tally.Tally.{Tally}
use Rattle.redo.specs.Inputs.{InputContent}
use Rattle.redo.specs.Changes.{NamesBelow, advance}
use Rattle.redo.specs.Routes.{NoteFault, skipped, skipped_in}
use Rattle.redo.specs.Redone.{IsLookedAt, ExistBelow, IsFirstMissing, RedoFault}
use Rattle.redo.specs.Parts.{resolved, image_at}
use Rattle.redo.specs.OnePass.{AreUpTo}
use Rattle.redo.specs.Passing.{IsPieceFor, IsRecordFor}
use Rattle.redo.proofs.Causes.{looked_at}
use Rattle.redo.proofs.Replay.{skips_none}
use Rattle.redo.proofs.OnePass.{one_more}

-- THE TALLIES
-- a record counted for its page, by its own LSN
pub counted_up : (input : InputContent) (redo_lsn lsn : ℕ) (glance : Glance) (tallies new : List Tally) → IsRecordFor input redo_lsn lsn glance → length new ≡ length tallies
    → ((r : LogRecord) (k : ℕ) (t : Tally) → glance ≡ glance_of r → record_at (history input.log) lsn ≡ Some r → k < length tallies
    → resolved input (get_or new k t) ≡ advance input.redo_lsn lsn r (resolved input (get_or tallies k t)))
    → AreUpTo input (lsn - 1) tallies → AreUpTo input lsn new
counted_up input redo_lsn lsn glance tallies new own count each up =
    let log = history input.log in
    let above = record_above log lsn own.entry own.there in
    let within = record_within log lsn own.entry own.there in
    let next : lsn - 1 + 1 ≡ lsn = omega (arith, above) in
    subst (λ n. AreUpTo input n new) next
    (one_more input own.numbered (lsn - 1) tallies up new (omega (arith, above)) (omega (arith, above, within)) count
    (λ r k t found lt.
    let there : record_at log lsn ≡ Some r = ap (record_at log) (sym next) ∙ found in
    let seen : glance ≡ glance_of r = own.seen_of ∙ ap glance_of (same_Some _ _ (sym own.there ∙ there)) in
    subst (λ n. resolved input (get_or new k t) ≡ advance input.redo_lsn n r (resolved input (get_or tallies k t))) (sym next) (each r k t seen there lt)))

-- a record that redo does not look at changes nothing
pub passed_over : (input : InputContent) (redo_lsn lsn : ℕ) (glance : Glance) (tallies : List Tally) → IsRecordFor input redo_lsn (lsn + 1) glance → (IsLookedAt redo_lsn (lsn + 1) → ⊥)
    → AreUpTo input lsn tallies → AreUpTo input (lsn + 1) tallies
passed_over input redo_lsn lsn glance tallies own front up =
    let log = history input.log in
    let within = record_within log (lsn + 1) own.entry own.there in
    let skipped_too : lsn + 1 ≤ skipped (base_lsn log) redo_lsn (last_lsn log) =
    elim (cases_lt (skipped (base_lsn log) redo_lsn (last_lsn log)) (lsn + 1)) [
      | inl past ↦ absurd (front (looked_at (base_lsn log) redo_lsn (last_lsn log) (lsn + 1) past within))
      | inr le ↦ le
    ] in
    let skips : lsn + 1 ≤ skipped_in input = subst (λ n. lsn + 1 ≤ skipped (base_lsn log) n (last_lsn log)) (sym own.from) skipped_too in
    record {
      count = up.count;
      each = λ k t lt.
          up.each k t lt
          ∙ (skips_none input (image_at input.images k) lsn (omega (arith, skips)) (omega (arith, within))
          ∙ sym (skips_none input (image_at input.images k) (lsn + 1) skips within));
    }

module _ (input : InputContent) (redo_lsn lsn : ℕ) (glance : Glance) (piece : LogContent) (own : IsPieceFor input redo_lsn piece) (seen : IsGlanceBehind (history piece) lsn glance) where
  -- a record of a piece is one of the whole log
  pub record_of_piece : IsRecordFor input redo_lsn (lsn + 1) glance
  record_of_piece = record {
    numbered = own.numbered;
    from = own.from;
    entry = seen.entry;
    there = sym (own.piece_of.each (lsn + 1) (record_above (history piece) (lsn + 1) seen.entry seen.there) (record_within (history piece) (lsn + 1) seen.entry seen.there)) ∙ seen.there;
    seen_of = seen.seen_of;
  }

-- THE RECORDS that redo looks at are on pages below the count, up to one
module _ (whole : LogContent) (count redo_lsn lsn : ℕ) (r : LogRecord) (there : record_at (history whole) lsn ≡ Some r) (before : ExistBelow whole count redo_lsn lsn) where
  -- one that is not is the first that is missing
  pub missing_at : IsLookedAt redo_lsn lsn → (NamesBelow count r → ⊥) → IsFirstMissing whole count redo_lsn lsn
  missing_at looked beyond = record { entry = r; looked_at = looked; there = there; beyond = beyond; before = before }

  -- and redo returns its error
  pub refused_at : (e : Fault) → IsLookedAt redo_lsn lsn → NoteFault count lsn r e → RedoFault whole count redo_lsn 1 e
  refused_at NoResource looked cause = tt
  refused_at (NoSuchPage n) looked cause = ((omega arith, omega arith), subst (IsFirstMissing whole count redo_lsn) (sym cause.0) (missing_at looked cause.1))
  refused_at e looked cause = absurd cause
