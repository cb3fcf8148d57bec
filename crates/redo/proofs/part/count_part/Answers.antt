use Rattle.std.proofs.Common.{◌≡◌, ℕ, ◌+◌, ◌<◌, ◌^◌, List, All, map, length, sym, ap, ◌∙◌, subst, arith}
use Rattle.std.specs.List.{fold}
use Rattle.std.proofs.lemmas.List.{length-map}
use Rattle.log_laws.specs.Records.{history, last_lsn, first, base_lsn}
use Rattle.redo.specs.declared.tally.Tally.{Tally}
use Rattle.redo.specs.Changes.{RedoPage, on_part, lsns_where, step, lsn_in}
use Rattle.redo.specs.Routes.{boundary_in, skipped_in, Stands}
use Rattle.redo.specs.Parts.{IsUpTo, numbers_of, resolved}
use Rattle.redo.proofs.Reading.{written_back}
use Rattle.redo.proofs.Stretches.{boundary_first, boundary_last, skipped_within}
use Rattle.redo.proofs.Counting.{sound, stretch}
use Rattle.redo.proofs.Replay.{all_stand, all_room, further, begins}
use Rattle.redo.proofs.Parts.{all_done, all_there}
use Rattle.redo.proofs.part.count_part.Goals as goal
use Rattle.log_laws.proofs.Histories.{base_within}

pub loop-route-init : goal.loop-route-init
loop-route-init c =
    let parted = c.args.parted.now in
    let input = parted.input in
    let known = sound c.parted.inside parted _ _ c.last-last.result c.parted-inside.invariant (ap (λ p. p.input.images) c.parted-inside.view_is) c.last-last.ensures (ap (λ p. p.input.log) c.parted-inside.view_is) c.last-last.type_inv c.parted.view_is c.parted.invariant in
    let ps = map (resolved input) c.in_ok-tallies.tallies.items in
    subst (λ n. IsUpTo parted c.args.part n ps) (sym (boundary_first (skipped_in input) (last_lsn (history input.log)) (length c.args.routes.now)))
    (begins parted c.args.part known.numbered known.dealt known.fits ps c.in_ok-tallies.ensures.begun)

pub replay-requires-clause-stand : goal.replay-requires-clause-stand
replay-requires-clause-stand c =
    let parted = c.args.parted.now in
    let input = parted.input in
    let known = sound c.parted.inside parted _ _ c.last-last.result c.parted-inside.invariant (ap (λ p. p.input.images) c.parted-inside.view_is) c.last-last.ensures (ap (λ p. p.input.log) c.parted-inside.view_is) c.last-last.type_inv c.parted.view_is c.parted.invariant in
    let workers = length c.args.routes.now in
    let k = c.loop-route.route-index in
    let from = boundary_in input workers k in
    let to = boundary_in input workers (k + 1) in
    let notes = c.notes.result.now in
    let walked = stretch parted c.args.routes.now c.args.part k c.route-item.result notes c.requires.routes c.requires.part c.loop-route-test.true c.route-item.is c.notes.ensures in
    let ps = map (resolved input) c.loop-route.tallies.items in
    let lent : map (resolved input) c.deref_mut.result.now ≡ ps = ap (map (resolved input)) c.deref_mut.ensures.value in
    subst (λ (qs : List RedoPage). All (Stands (history input.log) parted.parting.place_of (numbers_of qs)) notes) (sym lent)
    (all_stand parted c.args.part known.numbered known.dealt known.fits from to ps notes (omega (arith, walked.begun, walked.next)) walked.within c.loop-route.invariant walked.lsns walked.are)

pub replay-requires-clause-room : goal.replay-requires-clause-room
replay-requires-clause-room c =
    let parted = c.args.parted.now in
    let input = parted.input in
    let known = sound c.parted.inside parted _ _ c.last-last.result c.parted-inside.invariant (ap (λ p. p.input.images) c.parted-inside.view_is) c.last-last.ensures (ap (λ p. p.input.log) c.parted-inside.view_is) c.last-last.type_inv c.parted.view_is c.parted.invariant in
    let workers = length c.args.routes.now in
    let k = c.loop-route.route-index in
    let from = boundary_in input workers k in
    let to = boundary_in input workers (k + 1) in
    let notes = c.notes.result.now in
    let walked = stretch parted c.args.routes.now c.args.part k c.route-item.result notes c.requires.routes c.requires.part c.loop-route-test.true c.route-item.is c.notes.ensures in
    let ps = map (resolved input) c.loop-route.tallies.items in
    let lent : map (resolved input) c.deref_mut.result.now ≡ ps = ap (map (resolved input)) c.deref_mut.ensures.value in
    let count : length (lsns_where (on_part parted.parting.part_of c.args.part) from (first to (history input.log))) ≡ length notes = sym (ap (λ (xs : List ℕ). length xs) walked.lsns) ∙ length-map notes lsn_in in
    subst (All (λ p. p.applied + length notes < 2 ^ 64)) (sym lent)
    (subst (λ n. All (λ p. p.applied + n < 2 ^ 64) ps) count
    (all_room parted c.args.part known.numbered known.dealt known.fits from to ps walked.begun walked.next walked.within c.loop-route.invariant))

pub loop-route-preserved : goal.loop-route-preserved
loop-route-preserved c =
    let parted = c.args.parted.now in
    let input = parted.input in
    let known = sound c.parted.inside parted _ _ c.last-last.result c.parted-inside.invariant (ap (λ p. p.input.images) c.parted-inside.view_is) c.last-last.ensures (ap (λ p. p.input.log) c.parted-inside.view_is) c.last-last.type_inv c.parted.view_is c.parted.invariant in
    let workers = length c.args.routes.now in
    let k = c.loop-route.route-index in
    let from = boundary_in input workers k in
    let to = boundary_in input workers (k + 1) in
    let notes = c.notes.result.now in
    let walked = stretch parted c.args.routes.now c.args.part k c.route-item.result notes c.requires.routes c.requires.part c.loop-route-test.true c.route-item.is c.notes.ensures in
    let ps = map (resolved input) c.loop-route.tallies.items in
    let lent : map (resolved input) c.deref_mut.result.now ≡ ps = ap (map (resolved input)) c.deref_mut.ensures.value in
    let log = (history input.log) in
    let run : List ℕ → RedoPage → RedoPage = λ xs p. fold (step log input.redo_lsn) p xs in
    let new = map (resolved input) c.replay.new.tallies in
    let replayed : new ≡ map (run (map lsn_in notes)) (map (resolved input) c.deref_mut.result.now) = c.replay.ensures in
    let is : new ≡ map (run (lsns_where (on_part parted.parting.part_of c.args.part) from (first to (history input.log)))) ps =
    replayed ∙ (ap (λ (xs : List ℕ). map (run xs) (map (resolved input) c.deref_mut.result.now)) walked.lsns ∙ ap (map (run (lsns_where (on_part parted.parting.part_of c.args.part) from (first to (history input.log))))) lent) in
    let count : length c.replay.new.tallies ≡ c.loop-route.tallies.len = omega (arith, ap (λ (qs : List RedoPage). length qs) replayed, length-map (map (resolved input) c.deref_mut.result.now) (run (map lsn_in notes)), length-map c.replay.new.tallies (resolved input), length-map c.deref_mut.result.now (resolved input), ap (λ (ts : List Tally). length ts) c.deref_mut.ensures.value, c.loop-route.tallies.ok.0) in
    subst (λ (ts : List Tally). IsUpTo parted c.args.part to (map (resolved input) ts)) (sym (written_back c.loop-route.tallies.len c.loop-route.tallies.items c.replay.new.tallies count))
    (further parted c.args.part known.numbered known.dealt known.fits from to ps new walked.begun walked.next walked.within c.loop-route.invariant is)

pub returns-clause-done : goal.returns-clause-done
returns-clause-done c =
    let parted = c.args.parted.now in
    let input = parted.input in
    let known = sound c.parted.inside parted _ _ c.last-last.result c.parted-inside.invariant (ap (λ p. p.input.images) c.parted-inside.view_is) c.last-last.ensures (ap (λ p. p.input.log) c.parted-inside.view_is) c.last-last.type_inv c.parted.view_is c.parted.invariant in
    let workers = length c.args.routes.now in
    let last : boundary_in input workers c.loop-route.route-index ≡ last_lsn (history input.log) =
    ap (boundary_in input workers) (omega (arith, c.loop-route.auto.route-index-end, c.loop-route-test.false))
    ∙ boundary_last (skipped_in input) (last_lsn (history input.log)) workers (skipped_within (base_lsn (history input.log)) input.redo_lsn (last_lsn (history input.log)) (base_within (history input.log))) c.requires.routes.some in
    let ps = map (resolved input) c.loop-route.tallies.items in
    all_done parted c.args.part known.numbered known.dealt known.fits ps (subst (λ n. IsUpTo parted c.args.part n ps) last c.loop-route.invariant)

pub returns-clause-all : goal.returns-clause-all
returns-clause-all c =
    let parted = c.args.parted.now in
    let input = parted.input in
    let known = sound c.parted.inside parted _ _ c.last-last.result c.parted-inside.invariant (ap (λ p. p.input.images) c.parted-inside.view_is) c.last-last.ensures (ap (λ p. p.input.log) c.parted-inside.view_is) c.last-last.type_inv c.parted.view_is c.parted.invariant in
    let ps = map (resolved input) c.loop-route.tallies.items in
    all_there parted c.args.part known.numbered known.dealt known.fits (boundary_in input (length c.args.routes.now) c.loop-route.route-index) ps c.loop-route.invariant
