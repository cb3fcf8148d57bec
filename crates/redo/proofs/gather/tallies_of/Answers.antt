use Rattle.std.proofs.Common.{◌≡◌, ℕ, ◌<◌, false, All, Contains, length, sym, ap, ◌∙◌, subst, arith}
use Rattle.redo.specs.Inputs.{InputContent}
use Rattle.redo.specs.Parted.{PartedContent}
use Rattle.redo.specs.Parting.{PartingContent}
use Rattle.redo.specs.Parts.{AreAllTallied}
use Rattle.redo.proofs.Reading.{written_back, untold}
use Rattle.redo.proofs.Gathered.{all_tallied}
use Rattle.redo.proofs.gather.tallies_of.Goals as goal

pub returns-clause-tallied : goal.returns-clause-tallied
returns-clause-tallied c =
    let parted : PartedContent = c.args.parted.now in
    let tallies = c.gather-seat.new.tallies in
    let seat = c.gather-seat.result in
    let gathered = c.gather-seat.ensures in
    let closed = c.close.ensures in
    let seen : c.parted.inside.input ≡ parted.input = ap (λ p. p.input) c.parted.view_is in
    let not_stopped : seat.stopped ≡ false = sym closed.stopped ∙ (sym c.stopped.ensures ∙ c.if-stopped.false) in
    let not_told : seat.told ≡ false = untold seat.stopped seat.told not_stopped closed.told in
    let dealt = subst (λ (p : PartedContent). length p.parting.part_of ≡ length p.input.images) c.parted.view_is c.parted.invariant in
    let below : All (λ part. part < parted.parting.parts) parted.parting.part_of = subst (λ (p : PartingContent). All (λ part. part < p.parts) p.part_of) (ap (λ p. p.parting.now) c.parted-inside.view_is ∙ ap (λ p. p.parting) c.parted.view_is) c.parts-parts.ensures.below in
    let drawn : (part : ℕ) → part < parted.parting.parts → Contains seat.drawn part = λ part less. closed.all (gathered.ended not_stopped not_told) part (omega (arith, less, c.requires.parts)) in
    let count : length tallies ≡ c.in_ok-tallies.tallies.len =
    omega (arith, gathered.count, c.in_ok-tallies.ensures.len, c.len.ensures, ap (λ (i : InputContent). length i.images) (ap (λ p. p.input) c.parted-inside.view_is ∙ seen)) in
    subst (AreAllTallied parted.input) (sym (written_back c.in_ok-tallies.tallies.len c.in_ok-tallies.tallies.items tallies count))
    (record { count = gathered.count; each = all_tallied parted tallies seat.drawn dealt below drawn (gathered.tallied not_stopped not_told) })
