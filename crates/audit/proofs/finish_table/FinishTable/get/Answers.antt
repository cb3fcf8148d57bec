use Rattle.std.proofs.Common.{◌≡◌, ◌∙◌, length, sym, ap, List, get_or, arith}
use Rattle.std.specs.Prelude.{◌/◌, ◌%◌}
use Rattle.audit.specs.declared.finishes.Finishes.{Finishes}
use Rattle.audit.specs.declared.finish_table.Block.{Block}
use Rattle.audit.specs.Finishes.{finish_at}
use Rattle.audit.proofs.FinishBits.{none_at}
use Rattle.audit.proofs.Finished.{place_is, none_is}
use Rattle.audit.specs.declared.finish_table.TheConstants.{BLOCK}
use Rattle.audit.proofs.finish_table.FinishTable.get.Goals as goal

pub index-requires : goal.index-requires
index-requires c =
    let at = place_is c.args.self.now (c.args.tx / BLOCK) c.in-Some.place (sym c.find.ensures ∙ c.in-Some.is) in
    omega (arith, at.within, ap (λ (bs : List Block). length bs) c.self.view_is)

pub returns-in-Some : goal.returns-in-Some
returns-in-Some c =
    let at = place_is c.args.self.now (c.args.tx / BLOCK) c.in-Some.place (sym c.find.ensures ∙ c.in-Some.is) in
    let b : Block = c.index.result.now in
    let here : b ≡ get_or c.args.self.now c.in-Some.place b = c.index.ensures ∙ ap (λ (bs : List Block). get_or bs c.in-Some.place b) c.self.view_is in
    c.get.ensures ∙ ap (λ (f : Finishes). finish_at f (c.args.tx % BLOCK)) (ap (λ (x : Block). x.finishes) here ∙ sym (at.finishes b))

pub returns-in-None : goal.returns-in-None
returns-in-None c =
    sym (ap (λ (f : Finishes). finish_at f (c.args.tx % BLOCK)) (none_is c.args.self.now (c.args.tx / BLOCK) (sym c.find.ensures ∙ c.in-None.is)) ∙ none_at (c.args.tx % BLOCK))
