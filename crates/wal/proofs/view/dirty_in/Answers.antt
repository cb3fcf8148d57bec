use Rattle.std.proofs.Common.{ap, sym, ◌∙◌, option_map}
use Rattle.wal.specs.Reading.{dirty_at}
use Rattle.wal.proofs.Tables.{entry_at_place}
use Rattle.wal.proofs.view.dirty_in.Goals as goal

pub returns : goal.returns
returns c =
    ap (λ o. option_map (λ x. x.0) o) (c.in_ok-page.ensures ∙ ap dirty_at c.split_at.ensures.back)
    ∙ sym (entry_at_place dirty_at (0, 0) 12 c.args.count c.args.bytes.now c.args.place c.requires.table c.requires.place)
