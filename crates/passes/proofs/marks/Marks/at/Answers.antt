use Rattle.std.proofs.Common.{List, get_or, sym, ap, ◌∙◌, subst}
use Rattle.pieces.specs.declared.mark.Mark.{Mark}
use Rattle.passes.specs.Marks.{HasMark}
use Rattle.passes.proofs.marks.Marks.at.Goals as goal

pub returns-clause-is_mark : goal.returns-clause-is_mark
returns-clause-is_mark c = λ text whole are.
    subst (HasMark text) (sym (c.index.ensures ∙ ap (λ (ms : List Mark). get_or ms c.args.place c.index.result.now) c.self.view_is)) (are.each c.args.place c.index.result.now c.requires)
