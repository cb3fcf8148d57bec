use Rattle.std.proofs.Common.{ℕ, ◌≡◌, length, map, sym, ap, subst, ◌∙◌, arith}
use Rattle.std.proofs.lemmas.List.{take_all}
use Rattle.log_laws.specs.Records.{start, history, base_lsn}
use Rattle.log_laws.proofs.Histories.{first_none}
use Rattle.redo.specs.Parts.{redo_page_in, image_at}
use Rattle.redo.specs.Parting.{PartingContent, AreMembers}
use Rattle.redo.proofs.part.begin_part.Goals as goal
use Rattle.redo.specs.Changes.{RedoPage}

pub returns-clause-begun : goal.returns-clause-begun
returns-clause-begun c =
    let input = c.args.parted.now.input in
    let members = c.members-members.result.now in
    let at : ℕ → RedoPage = λ number. redo_page_in input (start (base_lsn (history input.log))) (image_at input.images number) in
    record {
      members = members;
      are = subst (λ (p : PartingContent). AreMembers p.part_of p.place_of c.args.part members) (ap (λ p. p.parting) c.parted.view_is) c.members-members.ensures.members;
      all = subst (λ (p : PartingContent). length p.place_of ≡ length p.part_of) (ap (λ p. p.parting) c.parted.view_is) c.members-members.ensures.all;
      redone = c.loop-number.invariant
          ∙ (ap (λ xs. map at xs) (take_all c.loop-number.number-index members (omega (arith, c.loop-number-test.false)))
          ∙ ap (λ h. map (λ number. redo_page_in input h (image_at input.images number)) members) (sym (first_none (history input.log))));
    }
