use Rattle.std.proofs.Common.{◌≡◌, ◌<◌, ◌+◌, ℕ, List, length, get_or, drop, ap, arith}
use Rattle.std.proofs.lemmas.List.{get_or-drop, length-drop}
use Rattle.std.proofs.lemmas.List.Elements.{All-more}
use Rattle.journal.specs.declared.entries.TransactionEntry.{TransactionEntry}
use Rattle.journal.proofs.Tables.{rises_to}
use Rattle.journal.proofs.reopening.place_of.Goals as goal

abbrev pub blank : TransactionEntry
blank = record { last = 0; undo_next = 0; below = 0; tx = 0; state = 0 }

pub loop-place-preserved : goal.loop-place-preserved
loop-place-preserved c =
    All-more (λ (e : TransactionEntry). e.tx < c.args.tx) c.args.entries.now c.loop-place.place blank c.loop-place-test.true c.loop-place.invariant c.if-entries-place.false

pub returns-then-entries-place-clause-above : goal.returns-then-entries-place-clause-above
returns-then-entries-place-clause-above c = λ t k d l.
    let es : List TransactionEntry = c.args.entries.now in
    let i : ℕ = c.loop-place.place in
    let room : i + k < length es = omega (arith, l, length-drop i es) in
    let at : get_or (drop i es) k d ≡ get_or es (i + k) d = get_or-drop i es k d in
    let at_tx : (get_or (drop i es) k d).tx ≡ (get_or es (i + k) d).tx = ap (λ (e : TransactionEntry). e.tx) at in
    let le = rises_to es t.rising (i + k) i blank d (omega arith) room in
    omega (arith, le, at_tx, c.if-entries-place.true)
