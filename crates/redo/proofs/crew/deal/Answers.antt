use Rattle.std.proofs.Common.{rules, ◌≡◌, ◌<◌, [], ◌∷◌, ◌++◌, All, sym, ◌∙◌, subst, arith}
use Rattle.std.proofs.lemmas.List.Elements.{All-push}
use Rattle.redo.specs.declared.crew.Worker.{Worker}
use Rattle.redo.specs.Parts.{IsReady}
use Rattle.redo.proofs.Reading.{both_empty}
use Rattle.redo.proofs.crew.deal.Goals as goal

pub loop-home-preserved : goal.loop-home-preserved
loop-home-preserved c =
    let old = c.loop-home.invariant in
    let step = c.split-seat.ensures in
    let empty = both_empty c.split-seat.result.0.drawn c.split-seat.result.1.drawn (step.drawn ∙ old.2) in
    let worker : Worker = record { home = c.loop-home.home; seat = c.split-seat.result.0 } in
    let pushed : c.push.new.self.items ≡ c.loop-home.crew.items ++ worker ∷ [] = c.in_ok-push.ensures.items in
    let below : c.loop-home.home < c.args.board.now.ranges = (let a = c.requires.places in let b = c.loop-home-test.true in omega arith) in
    let ready : IsReady c.args.board.now worker = record { at_board = step.board.0; one_place = step.places.0; none_drawn = empty.0; home = below } in (
      step.board.1,
      (let a = old.1 in let b = step.places.1 in omega arith),
      empty.1,
      search rules,
      subst (All (IsReady c.args.board.now)) (sym pushed) (All-push (IsReady c.args.board.now) c.loop-home.crew.items worker old.4 ready),
    )
