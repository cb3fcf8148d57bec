use Rattle.std.proofs.Common.{ap, sym, ◌∙◌, option_map}
use Rattle.wal.specs.Reading.{entry_at, no_entry}
use Rattle.wal.proofs.Tables.{entry_at_place}
use Rattle.wal.proofs.view.entry_in.Goals as goal

pub returns : goal.returns
returns c =
    ap (λ o. option_map (λ x. x.0) o) (c.in_ok-tx.ensures ∙ ap entry_at c.split_at.ensures.back)
    ∙ sym (entry_at_place entry_at no_entry 21 c.args.count c.args.bytes.now c.args.place c.requires.table c.requires.place)
