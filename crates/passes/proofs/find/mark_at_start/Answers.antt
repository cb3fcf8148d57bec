use Rattle.std.proofs.Common.{◌≡◌, ◌++◌, ◌<◌, ◌≤◌, ◌+◌, ℕ, List, Option, Some, take, drop, length, arith, ◌∙◌, length-take}
use Rattle.std.proofs.lemmas.List.{take-append-le}
use Rattle.std.proofs.lemmas.Result.{err_from_is_err_and}
use Rattle.device.specs.Reread.{EndsBy, ReadsFrom}
use Rattle.device.proofs.Reach.{reach_below, reach_none, reach_on}
use Rattle.passes.proofs.Finding.{first_bytes}
use Rattle.passes.proofs.Reached.{keeps_same}
use Rattle.wal.specs.declared.sizes.TheConstants.{BASED_HEADER_BYTES}
use Rattle.passes.proofs.find.mark_at_start.Goals as goal

-- the room begins with the bytes that were read
front : (held : Option (List ℕ)) (text buffer rest : List ℕ) (count : ℕ) → held ≡ Some text → ReadsFrom held 0 count buffer → (count < BASED_HEADER_BYTES → EndsBy held (0 + count)) → count ≤ length buffer → length buffer ≤ BASED_HEADER_BYTES
    → take count (buffer ++ rest) ≡ take BASED_HEADER_BYTES text
front held text buffer rest count is reads ends within small =
    take-append-le count buffer rest within ∙ first_bytes held text buffer count is reads ends (omega (arith, within, small))

pub returns-in_err-mark-clause-fault : goal.returns-in_err-mark-clause-fault
returns-in_err-mark-clause-fault g c =
    let exit = err_from_is_err_and c.from_residual-in_err-mark.result c.from_residual-in_err-mark.ensures.1 in
    rw (exit.1, exit.2)
    (λ text is.
    let size : length c.read_full_at.new.buffer ≡ BASED_HEADER_BYTES = omega (arith, c.read_full_at.auto.buffer, length-take BASED_HEADER_BYTES c.args.room.now, c.requires.room.takes) in
    c.in_err-mark.ensures.fault text
    (front (g.S.Reread.text c.args.source.now) text c.read_full_at.new.buffer (drop BASED_HEADER_BYTES c.args.room.now) c.in_ok-count.count is c.in_ok-count.ensures.bytes (λ less. c.in_ok-count.ensures.end (omega (arith, less, size))) c.in_ok-count.ensures.within (omega (arith, size))))

pub returns-clause-mark : goal.returns-clause-mark
returns-clause-mark g c = λ text is.
    let size : length c.read_full_at.new.buffer ≡ BASED_HEADER_BYTES = omega (arith, c.read_full_at.auto.buffer, length-take BASED_HEADER_BYTES c.args.room.now, c.requires.room.takes) in
    c.in_ok-mark.ensures.mark text
    (front (g.S.Reread.text c.args.source.now) text c.read_full_at.new.buffer (drop BASED_HEADER_BYTES c.args.room.now) c.in_ok-count.count is c.in_ok-count.ensures.bytes (λ less. c.in_ok-count.ensures.end (omega (arith, less, size))) c.in_ok-count.ensures.within (omega (arith, size)))

pub returns-clause-reach : goal.returns-clause-reach
returns-clause-reach g c =
    let held = g.S.Reread.text c.args.source.now in
    let after = g.S.Reread.read_to c.read_full_at.new.source in
    reach_below held (0 + c.in_ok-count.count) c.in_ok-mark.mark.offset after (omega (arith, c.in_ok-mark.ensures.within, length-take c.in_ok-count.count (c.read_full_at.new.buffer ++ drop BASED_HEADER_BYTES c.args.room.now)))
    (reach_on held held (g.S.Reread.read_to c.args.source.now) after 0 c.in_ok-count.count (keeps_same held) (reach_none held (g.S.Reread.read_to c.args.source.now)) c.in_ok-count.ensures.joins)
