use Rattle.std.proofs.Common.{ℕ, ◌-◌, ◌<◌, List, All, Contains, vec_len, length, map, sym, ◌∙◌, subst, inl, inr, arith}
use Rattle.std.proofs.lemmas.List.Elements.{All-take, Contains-append_left}
use Rattle.redo.specs.Inputs.{InputContent}
use Rattle.redo.specs.Parted.{PartedContent}
use Rattle.redo.specs.declared.crew.Share.{Share}
use Rattle.redo.specs.declared.tally.Tally.{Tally}
use Rattle.redo.specs.Parts.{IsBack, IsWhollyRedone, HasRedoPage, resolved}
use Rattle.redo.proofs.Reading.{popped, or_false}
use Rattle.redo.proofs.Gathered.{share_tallied, both_tallied, done_below}
use Rattle.redo.proofs.gather.gather.Goals as goal

pub loop-share-init : goal.loop-share-init
loop-share-init c =
    let parted : PartedContent = c.args.parted.now in
    let input : InputContent = parted.input in
    let board = c.args.board.now in
    let pop = c.in-Some.ensures in
    let share : Share = c.in-Some.last in
    let some_left : 0 < vec_len c.args.shares = c.requires.some in
    let back = popped (IsBack parted board) c.args.shares.items (vec_len c.args.shares) share c.requires.each c.args.shares.ok.0 some_left pop.value in
    let done : All (IsWhollyRedone input) (map (resolved input) c.deref.result.now) = subst (λ (ts : List Tally). All (IsWhollyRedone input) (map (resolved input) ts)) (sym c.deref.ensures.value) back.done in (
      back.at_board,
      (let a = pop.len in let b = back.one_place in omega arith),
      subst (All (IsBack parted board)) (sym pop.rest) (All-take (IsBack parted board) (vec_len c.args.shares - 1) c.args.shares.items c.requires.each),
      c.put_tallies.ensures.count ∙ c.requires.count,
      (λ stopped told.
          share_tallied parted board share c.put_tallies.new.tallies back stopped told
          (λ number has. c.put_tallies.ensures.put input done number (inr (subst (λ (ts : List Tally). HasRedoPage (map (resolved input) ts) number) (sym c.deref.ensures.value) has)))),
      back.ended,
    )

pub put_tallies-requires : goal.put_tallies-requires
put_tallies-requires c =
    let parted : PartedContent = c.args.parted.now in
    let input : InputContent = parted.input in
    let some_left : 0 < vec_len c.args.shares = c.requires.some in
    let back = popped (IsBack parted c.args.board.now) c.args.shares.items (vec_len c.args.shares) c.in-Some.last c.requires.each c.args.shares.ok.0 some_left c.in-Some.ensures.value in
    record { below = subst (All (λ t. t.number < length c.args.tallies.now)) (sym c.deref.ensures.value) (done_below input c.in-Some.last.tallies.items (length c.args.tallies.now) c.requires.count back.done) }

pub put_tallies-requires-in-Some-pop : goal.put_tallies-requires-in-Some-pop
put_tallies-requires-in-Some-pop c =
    let parted : PartedContent = c.args.parted.now in
    let input : InputContent = parted.input in
    let old = c.loop-share.invariant in
    let some_left : 0 < vec_len c.loop-share.shares = (let a = c.in-Some-pop.ensures.len in omega arith) in
    let back = popped (IsBack parted c.args.board.now) c.loop-share.shares.items (vec_len c.loop-share.shares) c.in-Some-pop.share old.2 c.loop-share.shares.ok.0 some_left c.in-Some-pop.ensures.value in
    record { below = subst (All (λ t. t.number < length c.loop-share.tallies)) (sym c.deref-in-Some-pop.ensures.value) (done_below input c.in-Some-pop.share.tallies.items (length c.loop-share.tallies) old.3 back.done) }

pub loop-share-preserved : goal.loop-share-preserved
loop-share-preserved c =
    let parted : PartedContent = c.args.parted.now in
    let input : InputContent = parted.input in
    let board = c.args.board.now in
    let old = c.loop-share.invariant in
    let pop = c.in-Some-pop.ensures in
    let share : Share = c.in-Some-pop.share in
    let some_left : 0 < vec_len c.loop-share.shares = (let a = pop.len in omega arith) in
    let back = popped (IsBack parted board) c.loop-share.shares.items (vec_len c.loop-share.shares) share old.2 c.loop-share.shares.ok.0 some_left pop.value in
    let done : All (IsWhollyRedone input) (map (resolved input) c.deref-in-Some-pop.result.now) = subst (λ (ts : List Tally). All (IsWhollyRedone input) (map (resolved input) ts)) (sym c.deref-in-Some-pop.ensures.value) back.done in
    let step = c.join-seat.ensures in
    let put = c.put_tallies-in-Some-pop.ensures in
    let tallies = c.put_tallies-in-Some-pop.new.tallies in (
      step.board,
      (let a = pop.len in let b = step.places in let d = back.one_place in let e = old.1 in omega arith),
      subst (All (IsBack parted board)) (sym pop.rest) (All-take (IsBack parted board) (vec_len c.loop-share.shares - 1) c.loop-share.shares.items old.2),
      put.count ∙ old.3,
      (λ not_stopped not_told.
          let s = or_false c.loop-share.seat.stopped share.seat.stopped (sym step.notes.0 ∙ not_stopped) in
          let t = or_false c.loop-share.seat.told share.seat.told (sym step.notes.1 ∙ not_told) in
          both_tallied parted tallies c.loop-share.seat.drawn share.seat.drawn c.join-seat.result.drawn step.drawn
          (λ number part given has. put.put input done number (inl (old.4 s.0 t.0 number part given has)))
          (share_tallied parted board share tallies back s.1 t.1 (λ number has. put.put input done number (inr (subst (λ (ts : List Tally). HasRedoPage (map (resolved input) ts) number) (sym c.deref-in-Some-pop.ensures.value) has))))),
      (λ not_stopped not_told.
          let s = or_false c.loop-share.seat.stopped share.seat.stopped (sym step.notes.0 ∙ not_stopped) in
          let t = or_false c.loop-share.seat.told share.seat.told (sym step.notes.1 ∙ not_told) in
          λ r within. subst (λ (l : List ℕ). Contains l r) (sym step.ended) (Contains-append_left c.loop-share.seat.ended share.seat.ended r (old.5 s.0 t.0 r within))),
    )
