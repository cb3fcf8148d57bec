use Rattle.page.specs.declared.page.Page.{Page}
use Rattle.std.proofs.Common.{List, All, ℕ, ◌≡◌, ◌-◌, length, refl, sym, ap, ◌∙◌, subst, arith}
use Rattle.std.proofs.lemmas.List.{length-map}
use Rattle.std.proofs.lemmas.Result.{err_from_is_err_and}
use Rattle.page.specs.Store.{StoreContent}
use Rattle.log_laws.specs.Records.{LogContent, history}
use Rattle.wal.specs.Content.{entry_of}
use Rattle.log_laws.specs.Meaning.{BasePages}
use Rattle.log_laws.specs.Store.{Lawful, NamesPages}
use Rattle.tables.specs.Lawful.{AreTrue}
use Rattle.tables.specs.Tables.{TablesContent, losers_in}
use Rattle.analysis.specs.Tables.{with_dirty}
use Rattle.redo.specs.Redone.{RedoneContent, redone_page}
use Rattle.undo.specs.Appended.{full_records, appended_records, HaveUpdates, RolledBackInBrief}
use Rattle.undo.specs.Rollback.{undone_pages}
use Rattle.undo.specs.Enough.{AreGathered}
use Rattle.undo.specs.Undone.{undone_page, MetExist, IsLawfulCrash, UndoFault}
use Rattle.undo.proofs.LawfulUndo.{tail_is, memory_alone}
use Rattle.undo.proofs.Sufficing.{gathered_suffices}
use Rattle.restart.specs.Outcome.{OutcomeContent, outcome_with}
use Rattle.restart.specs.Restart.{clrs_in, ends_in, store_with, IsRedone, RollsBack}
use Rattle.restart.proofs.Restored.{changed_numbered, restores}
use Rattle.restart.proofs.Causes.{undo_fault}
use Rattle.restart.proofs.passes.roll_back_on.Given.{Over}
use Rattle.restart.proofs.passes.roll_back_on.Goals as goal

-- redo made as many pages as there were
count : (log : LogContent) (before : StoreContent) (tables : TablesContent) (redone : RedoneContent) → IsRedone log before tables redone → length redone.pages ≡ length before.pages
count log before tables redone made = ap length made.redone_pages ∙ length-map before.pages (redone_page log tables)

-- redo of a lawful log and its store leaves the pages of a lawful crash
crash : (log : LogContent) (base : BasePages) (before : StoreContent) (tables : TablesContent) (redone : RedoneContent) → Lawful base log before → AreTrue log before tables → IsRedone log before tables redone
    → IsLawfulCrash log tables redone.pages
crash log base before tables redone lawful truth made = record { base = base; store = before; lawful = lawful; are_true = truth; as_many = count log before tables redone made }

pub returns-in_err-appended-clause-lawful : goal.returns-in_err-appended-clause-lawful
returns-in_err-appended-clause-lawful g c =
    let exit = err_from_is_err_and c.from_residual-in_err-appended.result c.from_residual-in_err-appended.ensures.1 in
    rw (exit.1, exit.2) (λ whole before dirty stored redone applied are at_numbers shows made base lawful numbered truth.
    let tables = with_dirty dirty c.args.tables.now in
    let fault = c.in_err-appended.field-0.0 in
    let there = subst (λ n. UndoFault (history c.args.log.now) (losers_in tables) n fault) (sym (g.met.P.Pages.counted c.args.pages.now stored redone shows)) c.in_err-appended.ensures.fault in
    memory_alone whole tables redone (crash whole base before tables (record { pages = redone; applied = applied }) lawful truth made) fault ((gathered_suffices whole c.args.log.now tables are).fault (length redone) fault there))

pub returns-in_err-appended-clause-fault : goal.returns-in_err-appended-clause-fault
returns-in_err-appended-clause-fault g c =
    let exit = err_from_is_err_and c.from_residual-in_err-appended.result c.from_residual-in_err-appended.ensures.1 in
    rw (exit.1, exit.2) (λ whole before dirty stored redone applied are at_numbers shows made.
    let tables = with_dirty dirty c.args.tables.now in
    let fault = c.in_err-appended.field-0.0 in
    let here = subst (λ n. UndoFault (history c.args.log.now) (losers_in tables) n fault) (sym (g.met.P.Pages.counted c.args.pages.now stored redone shows)) c.in_err-appended.ensures.fault in
    let there : UndoFault (history whole) (losers_in tables) (length before.pages) fault =
    subst (λ n. UndoFault (history whole) (losers_in tables) n fault) (count whole before tables (record { pages = redone; applied = applied }) made) ((gathered_suffices whole c.args.log.now tables are).fault (length redone) fault here) in
    undo_fault whole before made.none_ahead tables made.are fault made.exist there)

-- what undo made of these pages
module _ (g : Over) (c : goal.After-len-2 g) (dirty : List (ℕ × ℕ)) (stored redone : List Page) (shows : g.P.Pages.shows c.args.pages.now stored redone) where
  rolled : RolledBackInBrief c.args.log.now (with_dirty dirty c.args.tables.now) redone (undone_pages c.args.log.now c.in_ok-appended.appended.items redone) c.in_ok-appended.appended.items
  rolled =
      let done = c.in_ok-appended.ensures.rolled_back in
      let count = sym (g.met.P.Pages.counted c.args.pages.now stored redone shows) in
      record {
        rolled_back = record {
          appended_are = done.appended_are;
          pages_are = refl;
          no_bad_hop = done.no_bad_hop;
          met_exist = subst (λ n. MetExist (history c.args.log.now) (losers_in c.args.tables.now) n 0) count done.met_exist;
          exist = subst (λ n. All (NamesPages n) (full_records c.args.log.now c.in_ok-appended.appended.items)) count done.exist;
        };
        updates = done.updates;
        writable = done.writable;
      }

-- the outcome: the losers are rolled back on pages that redo made
module _ (g : Over) (c : goal.After-len-2 g) (dirty : List (ℕ × ℕ)) where
  abbrev found : TablesContent
  found = with_dirty dirty c.args.tables.now

  abbrev outcome : LogContent → StoreContent → List Page → ℕ → OutcomeContent
  outcome whole before after applied =
      outcome_with (store_with before after) c.args.tables.now.redo_lsn applied (history whole)
      (record {
        appended = c.in_ok-appended.appended;
        losers = c.len.result - c.len-2.result;
        in_doubt = c.in_ok-in_doubt.in_doubt;
        compensated = c.count_kinds-compensated.result.0;
        ended = c.count_kinds-compensated.result.1;
      })

  rolls_back : (whole : LogContent) (before : StoreContent) (redone after : List Page) (applied : ℕ) → AreGathered (history whole) (history c.args.log.now) (losers_in c.args.tables.now)
      → RolledBackInBrief c.args.log.now found redone after c.in_ok-appended.appended.items
      → RollsBack whole before.master found (record { pages = redone; applied = applied }) (outcome whole before after applied)
  rolls_back whole before redone after applied are rolled =
      let log = history whole in
      let back = (gathered_suffices whole c.args.log.now found are).rolled_back redone after c.in_ok-appended.appended.items rolled in
      let told : HaveUpdates whole c.deref.result.now = subst (HaveUpdates whole) (sym c.deref.ensures.value) back.updates in
      record {
        rolled_back = back.rolled_back;
        master_kept = refl;
        redo_from = refl;
        applied = refl;
        losers = omega (
          arith,
          c.in_ok-in_doubt.ensures.others,
          c.len.ensures.len,
          c.len-2.ensures,
          c.in_ok-in_doubt.in_doubt.ok.0,
          ap (λ (t : TablesContent). length t.transactions) c.tables.view_is,
          length-map c.tables.inside.transactions.entries entry_of,
        );
        in_doubt_are = c.in_ok-in_doubt.ensures.ok;
        compensated = c.count_kinds-compensated.ensures.clrs whole told ∙ ap (λ xs. clrs_in (appended_records log xs)) c.deref.ensures.value;
        ended = c.count_kinds-compensated.ensures.ends whole told ∙ ap (λ xs. ends_in (appended_records log xs)) c.deref.ensures.value;
      }

pub returns-clause-restores : goal.returns-clause-restores
returns-clause-restores g c = λ whole before dirty stored redone applied are at_numbers shows made base lawful numbered truth.
    let tables = with_dirty dirty c.args.tables.now in
    let after = undone_pages c.args.log.now c.in_ok-appended.appended.items redone in
    let content : RedoneContent = record { pages = redone; applied = applied } in
    let back = rolls_back g c dirty whole before redone after applied are (rolled g c dirty stored redone shows) in (
      after,
      c.in_ok-appended.ensures.pages stored redone at_numbers shows,
      restores base whole before lawful numbered tables truth content _ made back (back.rolled_back.appended_are ∙ tail_is whole tables redone (crash whole base before tables content lawful truth made)),
    )

pub returns-clause-restarts : goal.returns-clause-restarts
returns-clause-restarts g c = λ whole before dirty stored redone applied are at_numbers shows made.
    let after = undone_pages c.args.log.now c.in_ok-appended.appended.items redone in (
      after,
      c.in_ok-appended.ensures.pages stored redone at_numbers shows,
      record { tables = with_dirty dirty c.args.tables.now; redone = record { pages = redone; applied = applied }; is = made; rolls_back = rolls_back g c dirty whole before redone after applied are (rolled g c dirty stored redone shows) },
    )

pub returns-clause-alike : goal.returns-clause-alike
returns-clause-alike g c = λ whole are.
    (gathered_suffices whole c.args.log.now c.args.tables.now are).told c.in_ok-appended.appended.items c.in_ok-appended.ensures.told

pub returns-clause-numbered : goal.returns-clause-numbered
returns-clause-numbered g c = λ stored given shows at_numbers. (
  undone_pages c.args.log.now c.in_ok-appended.appended.items given,
  c.in_ok-appended.ensures.pages stored given at_numbers shows,
  changed_numbered (undone_page (history c.args.log.now) (appended_records (history c.args.log.now) c.in_ok-appended.appended.items)) given (λ page. refl) at_numbers,
)
