use Rattle.std.proofs.Common.{◌-◌, ◌≡◌, ◌≤◌, ◌<◌, ◌∙◌, ap, subst, arith}
use Rattle.std.specs.Prelude.{IsTrue, ◌↔◌, option_map}
use Rattle.page.specs.Image.{Image}
use Rattle.audit.specs.declared.cell.Cell.{Cell}
use Rattle.page.specs.declared.profile.TheConstants.{SLOTS}
use Rattle.audit.proofs.decide.keeps_before.Goals as goal

pub returns-in-Update : goal.returns-in-Update
returns-in-Update c =
    rw c.in-Update.is
    (λ base so_far count cells named fits.
    let slot : c.in-Update.slot < SLOTS = let s : c.in-Update.slot ≤ SLOTS - 1 = fits.slot in omega arith in
    subst (λ (x : Image). IsTrue c.is_value.result ↔ (option_map (λ s. s.now) c.in-Update.before ≡ x))
    (ap (λ (x : Cell). x.image) (c.cell_at.ensures c.cell_at.result ∙ cells.each c.in-Update.page c.in-Update.slot c.cell_at.result named slot))
    c.is_value.ensures)
