-- What is known of a pass, and of the notes of each worker, while the records of a part are counted.
use Rattle.std.proofs.Common.{◌≡◌, ℕ, ◌+◌, ◌<◌, ◌≤◌, ◌^◌, List, All, map, length, get_or, sym, ap, ◌∙◌, subst, arith}
use Rattle.page.specs.Store.{AreNumbered}
use Rattle.page.specs.declared.page.Page.{Page}
use Rattle.log_laws.specs.Records.{LogContent, history, last_lsn, first, base_lsn}
use Rattle.redo.specs.declared.note.Note.{Note}
use Rattle.redo.specs.declared.input.PartedInput.TheInside.{Inside}
use Rattle.redo.specs.declared.route.Route.{Route}
use Rattle.redo.specs.Parted.{PartedContent, parted_of, IsParted}
use Rattle.redo.specs.Notes.{notes_at}
use Rattle.redo.specs.Changes.{on_part, lsns_where, lsn_in, IsNote}
use Rattle.redo.specs.Routes.{boundary_in, skipped_in, IsRoute, AreRoutes}
use Rattle.redo.proofs.Stretches.{boundary_next, boundary_within, skipped_within, skipped_from}
use Rattle.log_laws.proofs.Histories.{base_within}

-- what the workers look at agrees, and each record of its log has an LSN
pub record IsSound (parted : PartedContent) : Type 0 where
  pub numbered : AreNumbered parted.input.images
  pub dealt : length parted.parting.part_of ≡ length parted.input.images
  pub fits : last_lsn (history parted.input.log) < 2 ^ 64

pub sound : (p : Inside) (parted : PartedContent) (images : List Page) (log : LogContent) (last : ℕ) → AreNumbered images → images ≡ p.input.images → last ≡ last_lsn (history log) → log ≡ p.input.log → last < 2 ^ 64
    → parted_of p ≡ parted → IsParted p → IsSound parted
sound p parted images log last numbered own count same bound is dealt =
    subst IsSound is (record {
      numbered = subst AreNumbered own numbered;
      dealt = dealt;
      fits = omega (arith, count, bound, ap (λ (l : LogContent). last_lsn (history l)) same);
    })

-- these notes are those of one worker for a part: of the records on the part's pages in the worker's stretch of the log
pub record IsStretch (parted : PartedContent) (part from to : ℕ) (notes : List Note) : Type 0 where
  pub begun : base_lsn (history parted.input.log) ≤ from
  pub next : from ≤ to
  pub within : to ≤ last_lsn (history parted.input.log)
  pub lsns : map lsn_in notes ≡ lsns_where (on_part parted.parting.part_of part) from (first to (history parted.input.log))
  pub are : All (IsNote (history parted.input.log) parted.parting.place_of) notes

pub stretch : (parted : PartedContent) (routes : List Route) (part k : ℕ) (route : Route) (notes : List Note) → AreRoutes parted routes → part < parted.parting.parts → k < length routes
    → route ≡ get_or routes k route → notes ≡ notes_at route.lists.items part → IsStretch parted part (boundary_in parted.input (length routes) k) (boundary_in parted.input (length routes) (k + 1)) notes
stretch parted routes part k item notes are below lt is noted =
    let len = last_lsn (history parted.input.log) in
    let workers = length routes in
    let from = boundary_in parted.input workers k in
    let to = boundary_in parted.input workers (k + 1) in
    let route : IsRoute parted from to item = subst (IsRoute parted from to) (sym is) (are.each k item lt) in
    record {
      begun = omega (arith, skipped_from (base_lsn (history parted.input.log)) parted.input.redo_lsn len (base_within (history parted.input.log)));
      next = boundary_next (skipped_in parted.input) len workers k;
      within = boundary_within (skipped_in parted.input) len workers (k + 1) (skipped_within (base_lsn (history parted.input.log)) parted.input.redo_lsn len (base_within (history parted.input.log))) are.some (omega (arith, lt));
      lsns = ap (map lsn_in) noted ∙ route.lsns part below;
      are = subst (All (IsNote (history parted.input.log) parted.parting.place_of)) (sym noted) (route.notes part below);
    }
