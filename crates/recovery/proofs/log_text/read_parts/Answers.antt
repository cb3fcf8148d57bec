use Rattle.std.proofs.Common.{◌≡◌, ◌++◌, List, ℕ, drop, take, ap, sym, ◌∙◌, arith, take-append-drop}
use Rattle.std.proofs.lemmas.List.{take_all}
use Rattle.std.proofs.lemmas.Result.{IfOk-at_ok}
use Rattle.std.specs.Io.KnownBytes.{Consumes}
use Rattle.recovery.proofs.LogTexts.{gave_both, at_ok}
use Rattle.recovery.proofs.log_text.read_parts.Goals as goal
use Rattle.wal.specs.declared.sizes.TheConstants.{LONGEST_FRAME}

pub returns-then-filled-lt-BASED_HEADER_BYTES-clause-gave : goal.returns-then-filled-lt-BASED_HEADER_BYTES-clause-gave
returns-then-filled-lt-BASED_HEADER_BYTES-clause-gave g c =
    let front = c.in_ok-front.front.items in
    let new = c.read_last.new.bytes.items in
    let filled = c.len-filled.result in
    let first : take filled new ≡ front = c.in_ok-read_last.ensures.front ∙ take_all filled front (omega (arith, c.len-filled.ensures, c.in_ok-front.front.ok.0)) in
    gave_both _ _ _ front (drop filled new) _
    (IfOk-at_ok (λ bytes. Consumes (g.S.Source.left c.args.source.now) (g.S.Source.left c.read_half-back.new.source) bytes.items) c.in_ok-front.was c.read_half-back.ensures.read)
    c.in_ok-read_last.ensures.read.read c.in_ok-read_last.ensures.end
    (c.text_in_one.ensures.text ∙ sym (take-append-drop filled new) ∙ ap (λ (t : List ℕ). t ++ drop filled new) first)

pub returns-clause-gave : goal.returns-clause-gave
returns-clause-gave g c =
    let front = c.in_ok-front.front.items in
    let came = at_ok _ c.in_ok-read.was c.first_beside_rest-first.ensures.read in
    gave_both _ _ _ front (drop LONGEST_FRAME c.first_beside_rest-first.new.back.items) _
    (IfOk-at_ok (λ bytes. Consumes (g.S.Source.left c.args.source.now) (g.S.Source.left c.read_half-back.new.source) bytes.items) c.in_ok-front.was c.read_half-back.ensures.read)
    came.read (at_ok _ c.in_ok-read.was c.first_beside_rest-first.ensures.end) c.text_in_parts.ensures.text
