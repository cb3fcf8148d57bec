use Rattle.std.proofs.Common.{◌≡◌, ◌+◌, ◌*◌, ◌-◌, ◌≤◌, length}
use Rattle.log_laws.specs.Records.{history, base_lsn}
use Rattle.tables.specs.Tables.{TablesContent}
use Rattle.undo.specs.Turns.{turns_of}
use Rattle.undo.specs.Rollback.{loser_at, WaitOnce, AreUpdates, StayTold, StayFit, PutsAllBack, IsRolling}
use Rattle.undo.proofs.Placed.{height}
use Rattle.undo.proofs.losers.Rollback.undo_all.Given as goal

abbrev pub invariant-loop-update_lsn : goal.invariant-loop-update_lsn
invariant-loop-update_lsn g l =
    record {
      updates : AreUpdates l.log l.self;
      once : WaitOnce (loser_at l.self);
      told : StayTold l.log l.fn.self l.self;
      writable : StayFit l.log l.fn.self l.self;
      count : g.P.Pages.count l.pages ≡ g.P.Pages.count l.fn.pages;
      rolls : (tables : TablesContent) → IsRolling l.log tables (g.P.Pages.count l.fn.pages) l.fn.self → IsRolling l.log tables (g.P.Pages.count l.fn.pages) l.self;
      put : PutsAllBack g.P.Pages l.log l.fn.self l.fn.pages l.self l.pages;
      few : length l.self.appended.items + 2 * (height (turns_of l.self.waiting) - 1 - base_lsn (history l.log)) ≤ length l.fn.self.appended.items + 2 * length l.log.records;
    }

abbrev pub decreases-loop-update_lsn : goal.decreases-loop-update_lsn
decreases-loop-update_lsn g l = height (turns_of l.self.waiting)
