-- Redo by a log that is read in pieces.
use Rattle.std.proofs.Common.{◌≡◌, ℕ, zero, suc, ◌+◌, ◌-◌, ◌<◌, ◌≤◌, ◌⊎◌, List, All, length, drop, get_or, refl, sym, ap, ◌∙◌, subst, inl, inr, arith}
use Rattle.std.proofs.lemmas.Bool.{cases_lt}
use Rattle.std.proofs.lemmas.List.{get_or-drop, get_or_default, length-drop}
use Rattle.std.specs.List.Sorted.{IsNonDecreasingBy}
use Rattle.page.specs.declared.page.Page.{Page}
use Rattle.page.specs.Store.{AreNumbered}
use Rattle.log_laws.specs.Records.{LogContent, History, start, history, first, last_lsn, base_lsn}
use Rattle.log_laws.specs.Redo.{rec_lsn_of}
use Rattle.wal.specs.Reads.{Reads}
use Rattle.log_laws.proofs.Histories.{base_of_first, first_at_base, record_above, record_within, size_of_first_le}
use Rattle.tables.specs.Tables.{TablesContent}
use Rattle.pieces.specs.declared.mark.Mark.{Mark}
use Rattle.pieces.specs.Pieces.{IsMark}
use Rattle.redo.specs.declared.wanted.Wanted.{Wanted}
use Rattle.redo.specs.Inputs.{InputContent, input_over}
use Rattle.redo.specs.Parts.{redo_page_in, image_at}
use Rattle.redo.specs.Routes.{skipped}
use Rattle.redo.specs.Counted.{is_applied, lasts_in, AreCounted}
use Rattle.redo.specs.Passing.{TalliesSoFar}
use Rattle.redo.specs.Redone.{IsLookedAt, AllExist, ExistBelow}
use Rattle.redo.proofs.Counted.{none_lasts}
use Rattle.redo.proofs.LastRecords.{in_slot}
use Rattle.redo.proofs.Stretches.{skipped_some}
use Rattle.redo.proofs.Replay.{skips_none}
use Rattle.passes.proofs.ReadForward.{mark_within}
use Rattle.passes.specs.declared.fault.PassFault.{PassFault}
use Rattle.passes.specs.Calls.{IsRoom}
use Rattle.passes.specs.Marks.{IsResource, AreMarks, AreInReach, Reaches}
use Rattle.passes.specs.Redoing.{RedoCause, AreTalliedUpTo}
use Rattle.wal.specs.declared.sizes.TheConstants.{BASED_HEADER_BYTES}

-- WHERE REDO BEGINS
-- redo looks at no record up to the LSN that it skips
pub before_redo : (base redo_lsn last lsn : ℕ) → lsn ≤ last → (lsn ≡ base) ⊎ (lsn < redo_lsn) → 0 < redo_lsn → lsn ≤ skipped base redo_lsn last
before_redo base zero last lsn le either_way some = absurd (omega (arith, some))
before_redo base (suc n) last lsn le (inl at) some = omega (arith, skipped_some base n last, at)
before_redo base (suc n) last lsn le (inr less) some = omega (arith, skipped_some base n last, less, le)

none_looked_at : (base redo_lsn last lsn : ℕ) → lsn ≤ skipped base redo_lsn last → base < lsn → IsLookedAt redo_lsn lsn → ⊥
none_looked_at base zero last lsn le above looked = absurd (looked.0 refl)
none_looked_at base (suc n) last lsn le above looked = omega (arith, le, skipped_some base n last, above, looked.1)

pub exist_before : (whole : LogContent) (count redo_lsn lsn : ℕ) → lsn ≤ skipped (base_lsn (history whole)) redo_lsn (last_lsn (history whole)) → ExistBelow whole count redo_lsn (lsn + 1)
exist_before whole count redo_lsn lsn le k r looked below found =
    absurd (none_looked_at (base_lsn (history whole)) redo_lsn (last_lsn (history whole)) k (omega (arith, le, below)) (record_above (history whole) k r found) looked)

pub tallied_first : (whole : LogContent) (images : List Page) (tables : TablesContent) (base lsn : ℕ) (scan : TalliesSoFar) → AreNumbered images → scan.redo_lsn ≡ tables.redo_lsn → scan.upto ≤ lsn → base ≡ base_lsn (history whole) → base ≤ lsn
    → lsn ≤ last_lsn (history whole) → lsn ≤ skipped (base_lsn (history whole)) tables.redo_lsn (last_lsn (history whole)) → AreCounted (input_over whole images tables) base scan.tallies
    → AreTalliedUpTo whole images tables lsn scan
tallied_first whole images tables base lsn scan numbered from upto at low within before up =
    let input : InputContent = input_over whole images tables in
    record {
      numbered = numbered;
      from = sym from;
      upto = upto;
      tallied = record {
        redone = record {
          count = up.redone.count;
          each = λ k t lt.
              up.redone.each k t lt
              ∙ (ap (λ h. redo_page_in input h (image_at images k)) (first_at_base (history whole) base at ∙ ap (λ n. start n) at)
              ∙ sym (skips_none input (image_at images k) lsn before within));
        };
        lasts = λ k t lt.
            let image = image_at images k in
            let of : History → List ℕ = lasts_in (is_applied tables.dirty tables.redo_lsn image) image.number in
            let front = first lsn (history whole) in
            let begins : base_lsn front ≡ base_lsn (history whole) = base_of_first lsn (history whole) in
            up.lasts k t lt
            ∙ (ap of (first_at_base (history whole) base at ∙ ap (λ n. start n) (at ∙ sym begins))
            ∙ sym (none_lasts (rec_lsn_of image.number tables.dirty) tables.redo_lsn image front
            (λ n above upto. none_looked_at (base_lsn (history whole)) tables.redo_lsn (last_lsn (history whole)) n (omega (arith, upto, size_of_first_le lsn (history whole) (omega (arith, at, low)), before)) (omega (arith, above, begins)))));
      };
      exist = exist_before whole (length images) tables.redo_lsn lsn before;
    }

-- at the mark from which the log is read
pub tallied_from : (text : List ℕ) (whole before : LogContent) (torn : ℕ) (images : List Page) (tables : TablesContent) (base : ℕ) (from : Mark) (scan : TalliesSoFar) → AreNumbered images → Reads text whole torn → IsMark text before from
    → base ≡ base_lsn (history whole) → scan.redo_lsn ≡ tables.redo_lsn → scan.upto ≡ base → from.lsn ≤ skipped (base_lsn (history whole)) tables.redo_lsn (last_lsn (history whole)) → AreCounted (input_over whole images tables) base scan.tallies
    → AreTalliedUpTo whole images tables (last_lsn (history before)) scan
tallied_from text whole before torn images tables base from scan numbered reads own at redo_lsn upto skips up =
    let within = mark_within text whole before torn from reads own in
    subst (λ n. AreTalliedUpTo whole images tables n scan) own.lsn
    (tallied_first whole images tables base from.lsn scan numbered redo_lsn (omega (arith, upto, at, within.0)) at (omega (arith, at, within.0)) within.1 skips up)

-- at the end of the log
pub exist_all : (whole : LogContent) (count redo_lsn : ℕ) → ExistBelow whole count redo_lsn (last_lsn (history whole) + 1) → AllExist whole count redo_lsn
exist_all whole count redo_lsn below lsn r looked found = below lsn r looked (omega (arith, record_within (history whole) lsn r found)) found

-- THE ERRORS
pub resource_cause : (whole : LogContent) (count redo_lsn : ℕ) (e : PassFault) → IsResource e → RedoCause whole count redo_lsn e
resource_cause whole count redo_lsn e (inl failed) = subst (RedoCause whole count redo_lsn) (sym failed) tt
resource_cause whole count redo_lsn e (inr refused) = subst (RedoCause whole count redo_lsn) (sym refused) tt

-- FETCHING
-- the piece after the last mark before a record reaches the record, if the room is in reach
pub reaches_next : (text : List ℕ) (whole : LogContent) (marks : List Mark) (asked room place : ℕ) (mark : Mark) (lsn : ℕ) → room ≡ asked → IsRoom asked → AreMarks text whole marks → AreInReach asked marks
    → ((d : Mark) → mark ≡ get_or marks place d) → place < length marks → ((d : Mark) → place + 1 < length marks → lsn ≤ (get_or marks (place + 1) d).lsn) → lsn ≤ last_lsn (history whole)
    → Reaches text (mark.offset + room - BASED_HEADER_BYTES) lsn
reaches_next text whole marks asked room place mark lsn same wide are reach is lt next within =
    elim (cases_lt (place + 1) (length marks)) [
      | inl more ↦
          (let later = are.each (place + 1) mark more in (
            later.0,
            get_or marks (place + 1) mark,
            later.1,
            omega (arith, same, reach place mark more, ap (λ (m : Mark). m.offset) (is mark)),
            next mark more,
          ))
      | inr end ↦
          (let own = are.each place mark lt in
          let at : place ≡ length marks - 1 = omega (arith, lt, end) in (
            own.0,
            mark,
            subst (IsMark text own.0) (sym (is mark)) own.1,
            omega (arith, same, wide.takes),
            omega (arith, within, ap (λ (m : Mark). m.lsn) (is mark), ap (λ k. (get_or marks k mark).lsn) at, are.last mark),
          ))
    ]

-- and no record of the log before that mark is among those that are wanted from there on
pub all_ahead : (text : List ℕ) (whole : LogContent) (marks : List Mark) (place taken : ℕ) (mark : Mark) (wanted : List Wanted) → AreMarks text whole marks → ((d : Mark) → mark ≡ get_or marks place d)
    → IsNonDecreasingBy (λ (w : Wanted). w.lsn) wanted → taken < length wanted → ((d : Mark) → (place ≡ 0) ⊎ ((get_or marks place d).lsn < (get_or wanted taken (in_slot 0 0 0)).lsn))
    → All (λ (w : Wanted). w.lsn ≤ mark.lsn → w.lsn ≤ base_lsn (history whole)) (drop taken wanted)
all_ahead text whole marks place taken mark wanted are is rising lt before k d less le =
    elim (before mark) [
      | inl first ↦ omega (arith, le, ap (λ (m : Mark). m.lsn) (is mark), ap (λ n. (get_or marks n mark).lsn) first, are.first mark)
      | inr front ↦
          (let within : taken + k < length wanted = omega (arith, less, length-drop taken wanted) in
          absurd (omega (
            arith,
            le,
            front,
            ap (λ (m : Mark). m.lsn) (is mark),
            rising taken (taken + k) d (omega arith) within,
            ap (λ (w : Wanted). w.lsn) (get_or-drop taken wanted k d),
            ap (λ (w : Wanted). w.lsn) (get_or_default wanted taken d (in_slot 0 0 0) lt),
          )))
    ]
