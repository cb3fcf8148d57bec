use Rattle.std.proofs.Common.{◌-◌, ◌≡◌, ◌≤◌, ◌<◌, ◌∙◌, ℕ, Option, ap, subst, refl, arith, option_map}
use Rattle.std.specs.Prelude.{IsTrue, ◌↔◌}
use Rattle.log_laws.specs.Records.{UpdateRecord}
use Rattle.audit.specs.declared.cell.Cell.{Cell}
use Rattle.log_laws.specs.Meaning.{last_writer}
use Rattle.audit.specs.Unfinished.{unfinished_in}
use Rattle.audit.specs.Finished.{finish_in}
use Rattle.audit.specs.Passing.{IsFreeFor}
use Rattle.audit.proofs.Deciding.{free_strict, strict_free}
use Rattle.page.specs.declared.profile.TheConstants.{SLOTS}
use Rattle.audit.proofs.decide.keeps_strictness.Goals as goal

pub returns-in-Update : goal.returns-in-Update
returns-in-Update c =
    rw c.in-Update.is
    (λ base so_far links count lawful stands cells named fits.
    let slot : c.in-Update.slot < SLOTS = let s : c.in-Update.slot ≤ SLOTS - 1 = fits.slot in omega arith in
    let u : UpdateRecord = record { tx = c.in-Update.tx; prev = c.in-Update.prev; page = c.in-Update.page; slot = c.in-Update.slot; before = option_map (λ s. s.now) c.in-Update.before; after = option_map (λ s. s.now) c.in-Update.after } in
    let w : c.cell_at.result.writer ≡ last_writer c.in-Update.page c.in-Update.slot so_far =
    ap (λ (x : Cell). x.writer) (c.cell_at.ensures c.cell_at.result ∙ cells.each c.in-Update.page c.in-Update.slot c.cell_at.result named slot) in
    let is : IsTrue c.is_free_for.result ↔ IsFreeFor (unfinished_in c.args.standings.now.unfinished) (last_writer c.in-Update.page c.in-Update.slot so_far) c.in-Update.tx =
    subst (λ (o : Option ℕ). IsTrue c.is_free_for.result ↔ IsFreeFor (unfinished_in c.args.standings.now.unfinished) o c.in-Update.tx) w c.is_free_for.ensures in (
      λ t. free_strict base so_far lawful links (unfinished_in c.args.standings.now.unfinished) (finish_in c.args.standings.now.finished) stands u (last_writer u.page u.slot so_far) refl (is.0 t),
      λ s. is.1 (strict_free base so_far lawful links (unfinished_in c.args.standings.now.unfinished) (finish_in c.args.standings.now.finished) stands u (last_writer u.page u.slot so_far) refl s),
    ))
