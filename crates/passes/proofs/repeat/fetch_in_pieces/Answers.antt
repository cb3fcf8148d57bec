use Rattle.std.proofs.Common.{◌≡◌, ◌+◌, ◌-◌, ◌≤◌, ◌<◌, ◌∙◌, ◌⊎◌, All, length, take, drop, get_or, refl, sym, ap, subst, arith}
use Rattle.std.proofs.lemmas.Result.{err_from_is_err_and}
use Rattle.std.proofs.lemmas.List.{take_all, drop-drop, get_or-drop, get_or_default, length-drop}
use Rattle.std.proofs.lemmas.List.Elements.{All-drop}
use Rattle.log_laws.specs.Records.{history, base_lsn}
use Rattle.changes.proofs.Numbered.{stay_same, stay_more}
use Rattle.redo.specs.declared.wanted.Wanted.{Wanted}
use Rattle.redo.specs.Wanted.{IsWanted, ShowAllBut}
use Rattle.redo.proofs.LastRecords.{in_slot}
use Rattle.passes.specs.Marks.{Reaches}
use Rattle.passes.specs.Redoing.{FetchesImages}
use Rattle.passes.proofs.Calls.{still, read_none, reads_on}
use Rattle.passes.proofs.Redoing.{reaches_next, all_ahead}
use Rattle.wal.specs.declared.sizes.TheConstants.{BASED_HEADER_BYTES}
use Rattle.passes.proofs.repeat.fetch_in_pieces.Goals as goal

pub loop-taken-init : goal.loop-taken-init
loop-taken-init g c = record {
  within = omega arith;
  room = refl;
  source = read_none;
  count = refl;
  numbered = stay_same g.P.Pages c.args.pages.now;
  fetched = λ text whole torn is reads marks tallies images stored are begun. begun;
}

pub loop-taken-preserved : goal.loop-taken-preserved
loop-taken-preserved g c =
    let inv = c.loop-taken.invariant in
    let piece = c.in_ok-taken.ensures in
    let wanted = c.args.wanted.now in
    let taken = c.loop-taken.taken in
    let rest_is : take (length wanted - taken) (drop taken wanted) ≡ drop taken wanted = take_all (length wanted - taken) (drop taken wanted) (omega (arith, length-drop taken wanted)) in
    record {
      within = omega (arith, piece.within, length-drop taken wanted, inv.within);
      room = omega (arith, c.fetch_piece.auto.room, inv.room);
      source = reads_on inv.source piece.source;
      count = piece.count ∙ inv.count;
      numbered = stay_more g.P.Pages c.args.pages.now c.loop-taken.pages c.fetch_piece.new.pages inv.numbered piece.numbered;
      fetched = λ text whole torn is reads marks tallies images stored are begun.
          let own = c.at-mark.ensures.is_mark text whole marks in
          subst (λ ws. ShowAllBut g.P.Pages (history whole) tallies ws images stored c.fetch_piece.new.pages) (drop-drop c.in_ok-taken.field-0 taken wanted)
          (subst (λ ws. All (λ (w : Wanted). w.lsn ≤ c.at-mark.result.lsn → w.lsn ≤ base_lsn (history whole)) ws → FetchesImages g.P.Pages whole ws (drop c.in_ok-taken.field-0 ws) c.loop-taken.pages c.fetch_piece.new.pages) rest_is
          (piece.fetched text whole own.0 torn (still inv.source is) reads own.1)
          (all_ahead text whole c.args.marks.now c.place_before.result taken c.at-mark.result wanted marks c.at-mark.ensures.at c.requires.rising c.loop-taken-test.true
          (λ d. subst (λ (w : Wanted). (c.place_before.result ≡ 0) ⊎ ((get_or c.args.marks.now c.place_before.result d).lsn < w.lsn)) (get_or_default wanted taken _ _ c.loop-taken-test.true) (c.place_before.ensures.before d)))
          tallies images stored (All-drop (IsWanted tallies) taken wanted are) (inv.fetched text whole torn is reads marks tallies images stored are begun));
    }

pub returns-in_err-taken-clause-fault : goal.returns-in_err-taken-clause-fault
returns-in_err-taken-clause-fault g c =
    let inv = c.loop-taken.invariant in
    let wanted = c.args.wanted.now in
    let taken = c.loop-taken.taken in
    let exit = err_from_is_err_and c.from_residual.result c.from_residual.ensures.1 in
    rw (exit.1, exit.2)
    (λ text whole torn is reads marks reach within.
    let own = c.at-mark.ensures.is_mark text whole marks in
    let first = get_or wanted taken (in_slot 0 0 0) in
    let first_is : get_or (take (length wanted - taken) (drop taken wanted)) 0 (in_slot 0 0 0) ≡ first =
    ap (λ ws. get_or ws 0 (in_slot 0 0 0)) (take_all (length wanted - taken) (drop taken wanted) (omega (arith, length-drop taken wanted)))
    ∙ (get_or-drop taken wanted 0 (in_slot 0 0 0) ∙ ap (λ k. get_or wanted k (in_slot 0 0 0)) (omega arith)) in
    c.in_err-taken.ensures.fault (in_slot 0 0 0) text whole own.0 torn (still inv.source is) reads own.1
    (subst (λ (w : Wanted). Reaches text (c.at-mark.result.offset + length c.loop-taken.room - BASED_HEADER_BYTES) w.lsn) (sym first_is)
    (reaches_next text whole c.args.marks.now (length c.args.room.now) (length c.loop-taken.room) c.place_before.result c.at-mark.result first.lsn inv.room c.requires.room marks reach c.at-mark.ensures.at c.place_before.ensures.within
    c.place_before.ensures.next (omega (arith, c.if-wanted-taken.true, within)))))

pub returns-else-wanted-taken-clause-rest : goal.returns-else-wanted-taken-clause-rest
returns-else-wanted-taken-clause-rest g c = λ k d lt.
    let wanted = c.args.wanted.now in
    let taken = c.loop-taken.taken in
    let within : taken + k < length wanted = omega (arith, lt, length-drop taken wanted) in
    omega (
      arith,
      c.requires.rising taken (taken + k) d (omega arith) within,
      ap (λ (w : Wanted). w.lsn) (get_or-drop taken wanted k d),
      ap (λ (w : Wanted). w.lsn) (get_or_default wanted taken d (in_slot 0 0 0) c.loop-taken-test.true),
      c.if-wanted-taken.false,
    )
