use Rattle.std.proofs.Common.{◌<◌, List, ◌∙◌, arith, sym, ap, length, get_or}
use Rattle.changes.specs.Changes.{PageChange}
use Rattle.changes.specs.Parts.{put_at}
use Rattle.changes.proofs.Views.{change_of, count_by}
use Rattle.std.proofs.lemmas.List.{get_or_default}
use Rattle.changes.proofs.changes.Changes.lsn.Goals as goal

pub index-requires : goal.index-requires
index-requires c = omega (arith, c.requires, c.self.inside.lsns.ok.0, ap length c.self.view_is, count_by c.self.inside.lsns.items (put_at c.self.inside.places.items c.self.inside.cells.items c.self.inside.values.items))

pub returns : goal.returns
returns c = λ d.
    let P = put_at c.self.inside.places.items c.self.inside.cells.items c.self.inside.values.items in
    let lt : c.args.number < length c.self.inside.lsns.items = omega (arith, c.requires, ap length c.self.view_is, count_by c.self.inside.lsns.items P) in
    c.index.ensures ∙ get_or_default c.self.inside.lsns.items c.args.number c.index.result.now 0 lt ∙ sym (ap (λ (cs : List PageChange). (get_or cs c.args.number d).lsn) (sym c.self.view_is) ∙ ap (λ x. x.lsn) (change_of c.self.inside.lsns.items P c.args.number d lt))
