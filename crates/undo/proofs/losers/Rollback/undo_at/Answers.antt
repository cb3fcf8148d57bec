use Rattle.std.proofs.Common.{◌+◌, ◌<◌, List, map, refl, subst, arith}
use Rattle.std.proofs.lemmas.List.{length-map}
use Rattle.std.proofs.lemmas.Result.{err_from_is_err_and, on_ok_weaker, IfErr-weaker}
use Rattle.page.specs.declared.page.Page.{Page}
use Rattle.log_laws.specs.Records.{history}
use Rattle.log_laws.proofs.Histories.{size_of_log, base_of_log}
use Rattle.tables.specs.Tables.{losers_in}
use Rattle.undo.specs.Appended.{record_of, appended_records}
use Rattle.undo.specs.Undone.{undone_page}
use Rattle.undo.specs.Turns.{turn_at}
use Rattle.undo.proofs.Rolling.{update_positive, update_within, undone_rolling, missing_page, broken_walk, pages_named, pages_kept}
use Rattle.undo.proofs.Placed.{resolved_once}
use Rattle.undo.proofs.Few.{one_more, resolved_few}
use Rattle.undo.proofs.losers.Rollback.undo_at.Goals as goal

pub overflow_add-lsn : goal.overflow_add-lsn
overflow_add-lsn g c = omega (arith, c.requires.room, c.next_lsn.ensures.next, c.next_lsn.ensures.low, c.next_lsn.ensures.room, c.len.ensures, size_of_log c.args.log.now, base_of_log c.args.log.now)

pub resolve-requires-clause-positive : goal.resolve-requires-clause-positive
resolve-requires-clause-positive g c = update_positive (history c.args.log.now) c.args.loser.tx c.args.update c.requires.update

pub resolve-requires-clause-within : goal.resolve-requires-clause-within
resolve-requires-clause-within g c = omega (arith, update_within (history c.args.log.now) c.args.loser.tx c.args.update c.requires.update, size_of_log c.args.log.now)

pub returns-in_err-prev-clause-fault : goal.returns-in_err-prev-clause-fault
returns-in_err-prev-clause-fault g c =
    let exit = err_from_is_err_and c.from_residual.result c.from_residual.ensures.1 in
    let log = history c.args.log.now in
    let before = appended_records log c.args.self.now.appended.items in
    rw (exit.1, exit.2)
    (λ tables at. missing_page log (losers_in tables) (g.P.Pages.count c.args.pages.now) (turn_at at.before) _ before c.args.update c.args.loser at.taken at.rolling.left c.in_err-prev.field-0.0 c.in_err-prev.ensures.fault)

pub returns-clause-undoes : goal.returns-clause-undoes
returns-clause-undoes g c =
    let log = history c.args.log.now in
    let count = g.P.Pages.count c.args.pages.now in
    let u = c.requires.update.update in
    let done = c.in_ok-prev.ensures.ok u c.requires.update.found in
    let exists = c.in_ok-prev.ensures.exists u c.requires.update.found in
    let some : 0 < c.args.loser.tx = subst (λ t. 0 < t) c.requires.update.own (c.in_ok-prev.ensures.counted u c.requires.update.found) in
    let before = appended_records log c.args.self.now.appended.items in
    let between = appended_records log c.compensate.new.appended.items in
    let after = appended_records log c.resolve.new.self.appended.items in
    on_ok_weaker c.resolve.result
    (λ resolves tables at.
    let rolling = at.rolling in
    record {
      left =
          undone_rolling log (losers_in tables) count (turn_at at.before) _ before c.args.update c.args.loser at.taken rolling.left u c.requires.update.found exists
          _ (c.next_lsn.result + c.len.result) c.in_ok-prev.prev between after
          (omega (arith, c.next_lsn.ensures.next, c.len.ensures, size_of_log c.args.log.now, length-map c.args.self.now.appended.items (record_of log), c.args.self.now.appended.ok.0))
          done.goes_on done.appended resolves.resolved;
      updates = resolves.updates (c.in_ok-prev.ensures.updates rolling.updates);
      exist = pages_named log count _ c.args.update c.in_ok-prev.prev _ _ u c.args.loser.last before between after exists done.appended resolves.resolved rolling.exist;
      writable = λ none. resolves.writable some (c.in_ok-prev.ensures.writable (rolling.writable none));
    })
    c.resolve.ensures.ok

pub returns-clause-put : goal.returns-clause-put
returns-clause-put g c =
    let log = history c.args.log.now in
    let between = appended_records log c.compensate.new.appended.items in
    let after = appended_records log c.resolve.new.self.appended.items in
    on_ok_weaker c.resolve.result
    (λ resolves stored given numbered shows.
    subst (λ (pages : List Page). g.P.Pages.shows c.compensate.new.pages stored pages)
    (pages_kept log _ c.args.update c.in_ok-prev.prev _ _ between after given (map (undone_page log between) given) resolves.resolved refl)
    (c.in_ok-prev.ensures.put stored given numbered shows))
    c.resolve.ensures.ok

pub returns-clause-fault : goal.returns-clause-fault
returns-clause-fault g c =
    let log = history c.args.log.now in
    let u = c.requires.update.update in
    let done = c.in_ok-prev.ensures.ok u c.requires.update.found in
    let before = appended_records log c.args.self.now.appended.items in
    IfErr-weaker c.resolve.result _ _
    (λ e h tables at.
    broken_walk log (losers_in tables) (g.P.Pages.count c.args.pages.now) (turn_at at.before) _ before c.args.update c.args.loser at.taken at.rolling.left u c.requires.update.found
    (c.in_ok-prev.ensures.exists u c.requires.update.found) c.in_ok-prev.prev done.goes_on e h)
    c.resolve.ensures.fault

pub returns-clause-once : goal.returns-clause-once
returns-clause-once g c =
    on_ok_weaker c.resolve.result
    (λ resolves. resolved_once (history c.args.log.now) _ c.args.update c.in_ok-prev.prev _ _ _ _ resolves.resolved c.requires.others)
    c.resolve.ensures.ok

pub returns-clause-few : goal.returns-clause-few
returns-clause-few g c =
    let log = history c.args.log.now in
    let done = c.in_ok-prev.ensures.ok c.requires.update.update c.requires.update.found in
    on_ok_weaker c.resolve.result
    (λ resolves.
    omega (
      arith,
      resolved_few log _ c.args.update c.in_ok-prev.prev _ _ (appended_records log c.compensate.new.appended.items) (appended_records log c.resolve.new.self.appended.items) resolves.resolved,
      one_more (appended_records log c.args.self.now.appended.items) (appended_records log c.compensate.new.appended.items) _ done.appended,
      length-map c.args.self.now.appended.items (record_of log),
      length-map c.compensate.new.appended.items (record_of log),
      length-map c.resolve.new.self.appended.items (record_of log),
    ))
    c.resolve.ensures.ok

pub returns-clause-told : goal.returns-clause-told
returns-clause-told g c = on_ok_weaker c.resolve.result (λ resolves have. resolves.updates (c.in_ok-prev.ensures.updates have)) c.resolve.ensures.ok

pub returns-clause-writable : goal.returns-clause-writable
returns-clause-writable g c =
    let u = c.requires.update.update in
    let some : 0 < c.args.loser.tx = subst (λ t. 0 < t) c.requires.update.own (c.in_ok-prev.ensures.counted u c.requires.update.found) in
    on_ok_weaker c.resolve.result (λ resolves fit. resolves.writable some (c.in_ok-prev.ensures.writable fit)) c.resolve.ensures.ok
