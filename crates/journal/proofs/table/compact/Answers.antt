use Rattle.std.proofs.Common.{◌≡◌, ◌<◌, ℕ, Bool, List, [], length, get_or, rules, refl, sym, ◌∙◌, arith}
use Rattle.std.proofs.lemmas.List.{get_or_default, length-set}
use Rattle.std.proofs.lemmas.List.Filters.{FiltersInPlace, FiltersInPlace-more_set, FiltersInPlace-more_no}
use Rattle.journal.specs.declared.entries.PendingEntry.{PendingEntry}
use Rattle.journal.specs.Arrays.{is_live}
use Rattle.journal.proofs.table.compact.Goals.{then-is_listed, else-is_listed}
use Rattle.journal.proofs.table.compact.Goals as goal

abbrev pub blank : PendingEntry
blank = record { lsn = 0; prev = 0; tx = 0; page = 0; slot = 0; before = record { length = 0; bytes = [] } }

none_in_place : (p : PendingEntry → Bool) (xs : List PendingEntry) → FiltersInPlace p xs xs 0 0
none_in_place p xs = search rules

pub loop-place-init : goal.loop-place-init
loop-place-init c =
    let xs : List PendingEntry = c.args.pending.now in
    record {
      behind = omega arith;
      long = refl;
      filters = λ t dead.
          FiltersInPlace-more_no {x = get_or xs 0 blank} (none_in_place (is_live c.args.entries.now) xs) c.requires (dead blank) (get_or_default xs 0 blank (get_or xs 0 blank) c.requires);
    }

pub loop-place-preserved : goal.loop-place-preserved
loop-place-preserved c =
    let i : ℕ = c.loop-place.place in
    let ys : List PendingEntry = c.loop-place.pending in
    let x : PendingEntry = get_or ys i blank in
    let here : i < length ys = omega (arith, c.loop-place-test.true, c.loop-place.invariant.long) in
    let own : x ≡ get_or ys i x = get_or_default ys i blank x here in
    elim c.if-is_listed.branch [
      | then-is_listed w ↦
          rw (w.pending-is, w.kept-is)
          (record {
            behind = omega (arith, c.loop-place.invariant.behind);
            long = length-set ys c.loop-place.kept x ∙ c.loop-place.invariant.long;
            filters = λ t dead. FiltersInPlace-more_set (c.loop-place.invariant.filters t dead) here (sym (c.is_listed.ensures t x refl) ∙ w.if-is_listed.true) own;
          })
      | else-is_listed w ↦
          rw (w.pending-is, w.kept-is)
          (record {
            behind = omega (arith, c.loop-place.invariant.behind);
            long = c.loop-place.invariant.long;
            filters = λ t dead. FiltersInPlace-more_no (c.loop-place.invariant.filters t dead) here (sym (c.is_listed.ensures t x refl) ∙ w.if-is_listed.false) own;
          })
    ]
