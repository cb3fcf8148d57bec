use Rattle.std.proofs.Common.{◌≡◌, suc, ◌+◌, ◌-◌, ◌<◌, ◌≤◌, ◌^◌, All, map, length, refl, sym, ap, ◌∙◌, subst, arith}
use Rattle.std.specs.List.{fold}
use Rattle.std.proofs.lemmas.List.{length-map, get_or-map, take_all}
use Rattle.log_laws.specs.Records.{history}
use Rattle.redo.specs.Changes.{RedoPage, step, lsn_in}
use Rattle.redo.specs.Parts.{resolved}
use Rattle.redo.proofs.Parts.{step_numbers, step_room, fold_none, fold_next}
use Rattle.redo.proofs.part.replay.Goals as goal

pub loop-index-init : goal.loop-index-init
loop-index-init c =
    let all : length c.args.notes.now ≡ length c.args.notes.now - 0 = omega arith in (
      fold_none (history c.args.parted.now.input.log) c.args.parted.now.input.redo_lsn (map (resolved c.args.parted.now.input) c.args.tallies.now),
      refl,
      subst (λ n. All (λ p. p.applied + n < 2 ^ 64) (map (resolved c.args.parted.now.input) c.args.tallies.now)) all c.requires.room,
    )

pub loop-index-preserved : goal.loop-index-preserved
loop-index-preserved c =
    let input = c.args.parted.now.input in
    let log = (history input.log) in
    let redo_lsn = input.redo_lsn in
    let lsns = map lsn_in c.args.notes.now in
    let i = c.loop-index.index in
    let old = c.loop-index.invariant in
    let lt : i < length c.args.notes.now = omega (arith, c.loop-index-test.true, c.len-index-end.ensures) in
    let below : i < length lsns = omega (arith, lt, length-map c.args.notes.now lsn_in) in
    let is = c.redo_noted.ensures in
    let before = map (resolved input) c.loop-index.tallies in
    let after = map (resolved input) c.redo_noted.new.tallies in
    let left : length c.args.notes.now - i ≡ suc (length c.args.notes.now - (i + 1)) = omega (arith, lt) in (
      fold_next log redo_lsn lsns i _ (map (resolved input) c.args.tallies.now) before after below (ap lsn_in c.get.ensures ∙ sym (get_or-map lsn_in c.args.notes.now i c.get.result 0 lt)) old.0 is,
      ap (λ ps. map (λ (p : RedoPage). p.page.number) ps) is ∙ (step_numbers log redo_lsn _ before ∙ old.1),
      subst (All (λ p. p.applied + (length c.args.notes.now - (i + 1)) < 2 ^ 64)) (sym is)
          (step_room log redo_lsn _ (2 ^ 64) (length c.args.notes.now - (i + 1)) before (subst (λ n. All (λ p. p.applied + n < 2 ^ 64) before) left old.2)),
    )

pub returns : goal.returns
returns c =
    let input = c.args.parted.now.input in
    let lsns = map lsn_in c.args.notes.now in
    let end : length lsns ≤ c.loop-index.index = omega (arith, length-map c.args.notes.now lsn_in, c.loop-index-test.false, c.len-index-end.ensures) in
    c.loop-index.invariant.0 ∙ ap (λ xs. map (λ p. fold (step (history input.log) input.redo_lsn) p xs) (map (resolved input) c.args.tallies.now)) (take_all c.loop-index.index lsns end)
