use Rattle.std.proofs.Common.{List, length, get_or, set, ap, ◌∙◌, arith}
use Rattle.changes.specs.Changes.{PageChange, lsn_in}
use Rattle.changes.specs.Parts.{put_at}
use Rattle.changes.proofs.Views.{count_by, lsn_set}
use Rattle.changes.proofs.changes.Changes.set_lsn.Goals as goal

pub index_mut-requires : goal.index_mut-requires
index_mut-requires c =
    let P = put_at c.self.inside.places.items c.self.inside.cells.items c.self.inside.values.items in
    omega (arith, c.requires, c.self.inside.lsns.ok.0, ap length c.self.view_is, count_by c.self.inside.lsns.items P)

pub returns : goal.returns
returns c = λ d.
    let P = put_at c.self.inside.places.items c.self.inside.cells.items c.self.inside.values.items in
    lsn_set c.self.inside.lsns.items P c.args.page c.args.lsn d (omega (arith, c.requires, ap length c.self.view_is, count_by c.self.inside.lsns.items P))
    ∙ ap (λ (cs : List PageChange). set cs c.args.page (lsn_in c.args.lsn (get_or cs c.args.page d))) c.self.view_is
