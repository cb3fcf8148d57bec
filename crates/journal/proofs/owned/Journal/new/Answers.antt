use Rattle.std.proofs.lemmas.List.{with_items_is, places}
use Rattle.std.proofs.lemmas.Result.{err_from_is_err_and}
use Rattle.std.proofs.Common.{rules, ◌≡◌, List, [], length, take, sym, subst, arith}
use Rattle.log_laws.specs.Pages.{base_pages}
use Rattle.journal.specs.declared.entries.PageEntry.{PageEntry}
use Rattle.journal.specs.Runs.{Run, opened, empty_log}
use Rattle.journal.specs.declared.owned.TheConstants.{PENDING}
use Rattle.journal.specs.JournalState.{Keeps}
use Rattle.journal.proofs.Kept.{keeps, frames_none, enough_room}
use Rattle.journal.proofs.OwnRefused.{own_new}
use Rattle.journal.proofs.owned.Journal.new.Goals as goal

pub invariant_of-result : goal.invariant_of-result
invariant_of-result c =
    let h = c.in_ok-head.ensures.ok [] [] in
    record {
      table = search (rules, places);
      transactions = omega (arith, h.arrays.room);
      some = search (rules, places);
      pending = omega (arith, h.arrays.pending_room);
      buffer = omega (arith, c.in_ok-rollback.ensures.enough);
    }

pub returns-clause-ok : goal.returns-clause-ok
returns-clause-ok c =
    let run : Run = opened (empty_log c.args.begins) c.args.store.now in
    let h = c.in_ok-head.ensures.ok c.in_ok-transactions.transactions.items c.in_ok-pending.pending.items in
    let last = h.holds.last_is in
    let pages_is = with_items_is c.in_ok-pages.pages c.new.new.pages (search (rules, places)) in
    let count : length c.in_ok-pending.pending.items ≡ PENDING = search (rules, places) in
    subst (λ (z : List PageEntry). Keeps (base_pages c.args.store.now.pages) run (record { head = c.in_ok-head.head; transactions = take c.in_ok-head.head.transactions c.in_ok-transactions.transactions.items; pages = z; pending = take c.in_ok-head.head.pending c.in_ok-pending.pending.items; frames = []; taken = c.in_ok-head.head.last; room = c.in_ok-rollback.rollback })) (sym pages_is)
    (keeps (base_pages c.args.store.now.pages) run c.in_ok-head.head c.in_ok-transactions.transactions.items c.new.new.pages c.in_ok-pending.pending.items [] c.in_ok-head.head.last c.in_ok-rollback.rollback h
    (omega (arith, last)) (omega arith) (frames_none run c.in_ok-head.head.last last)
    (enough_room _ _ _ _ _ PENDING c.in_ok-rollback.rollback h.arrays.used h.arrays.few h.arrays.room h.arrays.pending_room count c.in_ok-rollback.ensures.rollback))

pub returns-in_err-head-clause-refused : goal.returns-in_err-head-clause-refused
returns-in_err-head-clause-refused c =
    let exit = err_from_is_err_and c.from_residual-in_err-head.result c.from_residual-in_err-head.ensures.1 in
    let size : length c.deref_mut.result.now ≡ length c.args.store.now.pages = search (rules, places) in
    rw (exit.1, exit.2) (own_new c.args.begins c.args.store.now (length c.deref_mut.result.now) c.in_err-head.field-0.0 size c.in_err-head.ensures.err)
