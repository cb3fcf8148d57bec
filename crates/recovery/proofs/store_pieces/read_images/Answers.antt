use Rattle.std.proofs.Common.{◌≡◌, ◌++◌, take, ap, ◌∙◌, arith, append_assoc}
use Rattle.std.proofs.KnownBytes.{Consumes-trans}
use Rattle.recovery.proofs.Decoded.{gave_all, decodes_by}
use Rattle.recovery.proofs.store_pieces.read_images.Goals as goal

pub returns-then-count-lt-PIECE-clause-read : goal.returns-then-count-lt-PIECE-clause-read
returns-then-count-lt-PIECE-clause-read g c =
    let (behind, is, read) = c.loop.invariant.3 in
    let piece = take c.in_ok-count.count c.read_piece.new.room in
    let same : c.take.new.self ≡ c.args.reader ++ (behind ++ piece) = c.take.ensures ∙ ap (λ l. l ++ piece) is ∙ append_assoc c.args.reader behind piece in (
      behind ++ piece,
      gave_all _ _ (behind ++ piece) (Consumes-trans _ _ _ behind piece read c.in_ok-count.ensures.read) (c.in_ok-count.ensures.end (omega (arith, c.if-count-lt-PIECE.true, c.loop.invariant.1))),
      decodes_by c.take.new.self (c.args.reader ++ (behind ++ piece)) c.finish-store.result same c.finish-store.ensures.found c.finish-store.ensures.only c.finish-store.ensures.fault,
    )
