use Rattle.std.proofs.Common.{◌≡◌, ℕ, List, [], ◌∷◌, ◌++◌, length, ap, sym, subst, ◌∙◌, arith, length-append, ◌+◌, ap₂}
use Rattle.log_laws.specs.Records.{LogRecord, ◌▸◌, last_lsn, base_lsn}
use Rattle.wal.specs.Content.{shown}
use Rattle.audit.specs.declared.cell.Cell.{Cell}
use Rattle.audit.specs.Statuses.{under}
use Rattle.audit.specs.Standings.{newest_of, standing_in, IsStandingOf}
use Rattle.audit.specs.Cells.{KeepsCells, cell_in, cells_after}
use Rattle.audit.proofs.Noting.{cells_noted}
use Rattle.audit.proofs.StandingAfter.{standings_after}
use Rattle.audit.proofs.Passing.{written_back}
use Rattle.audit.proofs.audit_state.AuditState.note.Goals as goal

pub returns-clause-ok : goal.returns-clause-ok
returns-clause-ok c = λ base count log at named law tells.
    let r : LogRecord = shown c.args.view.now in
    let links : List ℕ = c.args.self.now.links.items in
    let newest : ℕ = newest_of c.args.standing in
    let len : base_lsn log + length links ≡ last_lsn log = tells.links in
    let pushed : c.push.new.self.items ≡ links ++ newest ∷ [] = c.in_ok-push.ensures.items ∙ ap (λ n. links ++ n ∷ []) c.newest-newest.ensures in
    let below : c.below_top-below.result ≡ under (base_lsn log) links newest =
    c.below_top-below.ensures ∙ ap₂ (λ b xs. under b xs c.newest-newest.result) tells.base c.deref.ensures.value ∙ ap (under (base_lsn log) links) c.newest-newest.ensures in
    let all : (t : ℕ) → IsStandingOf (links ++ newest ∷ []) t (log ▸ r) (standing_in c.note.new.self t) =
    standings_after links log r c.args.lsn c.below_top-below.result (standing_in c.args.self.now.standings) (standing_in c.note.new.self) c.args.standing at len below law c.requires.standing c.in_ok-note.ensures.ok tells.stands in
    let wrote : c.note_cell.new.cells ≡ cells_after c.args.self.now.cells.items r = c.note_cell.ensures ∙ ap (λ (xs : List Cell). cells_after xs r) c.deref_mut.ensures.value in
    let len' : length c.args.self.now.cells.items ≡ c.args.self.now.cells.len = omega (arith, c.deref_mut.ensures.len, ap (λ (xs : List Cell). length xs) c.deref_mut.ensures.value) in
    let len'' : length c.note_cell.new.cells ≡ c.args.self.now.cells.len = omega (arith, c.note_cell.auto.cells, c.deref_mut.ensures.len) in
    let back = written_back c.args.self.now.cells.len c.args.self.now.cells.items c.note_cell.new.cells len' len'' in
    record {
      base = tells.base;
      links = omega (arith, ap length pushed, length-append links (newest ∷ []), len);
      stands = λ t. subst (λ xs. IsStandingOf xs t (log ▸ r) (standing_in c.note.new.self t)) (sym pushed) (all t);
      cells = subst (λ (xs : List Cell). KeepsCells count (cell_in base (log ▸ r)) xs) (sym (back ∙ wrote)) (cells_noted base count log c.args.self.now.cells.items r named c.requires.fits tells.cells);
    }
