use Rattle.std.proofs.Common.{◌≡◌, List, ℕ, take, drop, length, ap, sym, ◌∙◌, arith}
use Rattle.std.proofs.lemmas.List.{take_all}
use Rattle.recovery.specs.TailFile.{sum_on}
use Rattle.recovery.proofs.ByPieces.{at_some}
use Rattle.recovery.proofs.log_again.sum_piece.Goals as goal

pub returns-clause-sum : goal.returns-clause-sum
returns-clause-sum g c = λ text is.
    let count = c.in_ok-count.count in
    let room : List ℕ = c.read_from.new.buffer in
    let same : take count room ≡ take count (drop c.args.offset text) = at_some (λ (held : List ℕ). take count room ≡ take count (drop c.args.offset held)) (g.L.Reread.text c.args.log.now) text is c.in_ok-count.ensures.bytes in
    let all : count ≡ length c.args.room.now = omega (arith, c.in_ok-count.ensures.within, c.read_from.auto.buffer, c.if-count-room.false) in
    c.sum_on.ensures ∙ ap (sum_on c.args.sum) (sym (take_all count room (omega (arith, all, c.read_from.auto.buffer))) ∙ same ∙ ap (λ n. take n (drop c.args.offset text)) all)
