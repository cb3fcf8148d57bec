use Rattle.std.proofs.Common.{◌≡◌, ◌<◌, ◌++◌, ◌∷◌, [], ℕ, List, length, take, map, sym, ap, ap₂, ◌∙◌, arith}
use Rattle.page.specs.declared.profile.TheConstants.{SLOTS}
use Rattle.std.proofs.lemmas.List.{take_more_set, take_more, map_push, length-set, take_all}
use Rattle.std.proofs.lemmas.List.Elements.{All-set}
use Rattle.page.specs.Image.{Image as Content}
use Rattle.journal.specs.Arrays.{image_of, IsValid}
use Rattle.journal.proofs.entries.PageImage.of.Goals as goal

pub loop-i-preserved : goal.loop-i-preserved
loop-i-preserved c =
    let i : ℕ = c.loop-i.i in
    let slots : List Content = c.args.page.now.slots in
    let here : i < length c.loop-i.slots = omega (arith, c.loop-i-test.true, c.loop-i.invariant.size) in
    let there : i < length slots = omega (arith, c.loop-i-test.true, c.type_inv.slot-items) in
    record {
      size = length-set c.loop-i.slots i c.of.result ∙ c.loop-i.invariant.size;
      long = c.loop-i.invariant.long;
      valid = All-set IsValid c.loop-i.slots i c.of.result c.of.ensures.valid c.loop-i.invariant.valid;
      same = ap (map image_of) (take_more_set c.loop-i.slots i c.of.result here) ∙ map_push image_of (take i c.loop-i.slots) c.of.result
          ∙ ap₂ (λ (xs : List Content) (x : Content). xs ++ x ∷ []) c.loop-i.invariant.same c.of.ensures.image ∙ sym (take_more slots i c.slot-item.result there);
    }

pub returns-clause-page : goal.returns-clause-page
returns-clause-page c =
    let i : ℕ = c.loop-i.i in
    let full : i ≡ SLOTS = omega (arith, c.loop-i-test.false, c.loop-i.auto.i-end) in
    let slots : map image_of c.loop-i.slots ≡ c.args.page.now.slots =
    ap (map image_of) (sym (take_all i c.loop-i.slots (omega (arith, full, c.loop-i.invariant.size)))) ∙ c.loop-i.invariant.same ∙ take_all i c.args.page.now.slots (omega (arith, full, c.loop-i.invariant.long)) in
    ap (λ (xs : List Content). record { number = c.args.page.now.number; lsn = c.args.page.now.lsn; slots = xs }) slots
