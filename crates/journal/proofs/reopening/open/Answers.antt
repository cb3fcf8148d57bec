use Rattle.std.proofs.Common.{◌≡◌, ◌≤◌, ◌+◌, ℕ, List, [], None, length, take, map, sym, ap, subst, ◌∙◌, arith}
use Rattle.std.proofs.lemmas.List.{length-take}
use Rattle.page.specs.declared.page.Page.{Page}
use Rattle.page.specs.Store.{StoreContent, AreNumbered}
use Rattle.log_laws.specs.Records.{LogRecord, History, start, ◌▸◌, history, first, last_lsn, base_lsn}
use Rattle.log_laws.specs.Laws.{IsLawful}
use Rattle.wal.specs.Content.{shown}
use Rattle.journal.specs.declared.entries.Head.{Head}
use Rattle.journal.specs.PageStates.{PageState, first_page_state, writers_after, HaveWriters, IsOneBehind, IsCurrentSoFar}
use Rattle.journal.specs.Opened.{unfinished_count}
use Rattle.journal.specs.Arrays.{page_state_of, kept_of}
use Rattle.journal.specs.Scan.{IsScan, NoteRefused}
use Rattle.journal.specs.Runs.{opened}
use Rattle.log_laws.specs.Meaning.{owner, change_of}
use Rattle.journal.specs.State.{Agrees, IsJournal}
use Rattle.log_laws.proofs.Histories.{first_at_base, first_all, size_of_first}
use Rattle.journal.proofs.Beginnings.{lawful_first}
use Rattle.std.specs.Prelude.{All}
use Rattle.std.proofs.lemmas.Result.{err_from_is_err_and}
use Rattle.journal.proofs.Counting.{note_kept, noted_refused, number_refused, one_behind, behind_refused, scan_count}
use Rattle.journal.proofs.Writers.{writers_none, writers_more, opened_stands, page_behind, all_up_to_date}
use Rattle.journal.proofs.Scanned.{scan_none}
use Rattle.journal.proofs.Owed.{owed_bound}
use Rattle.journal.proofs.reopening.open.Goals as goal
use Rattle.journal.proofs.reopening.open.Goals.{After-settle_pages}

pub loop-lsn-init : goal.loop-lsn-init
loop-lsn-init c =
    let b : ℕ = c.base-begins.result in
    let log : History = history c.args.log.now in
    let begins : first b log ≡ start b = first_at_base log b c.base-begins.ensures.is in
    let stored : c.deref.result.now ≡ c.args.store.now.pages = c.deref.ensures.value ∙ ap (λ (s : StoreContent). s.pages) c.store.view_is in
    let held : map page_state_of c.fill_pages.new.pages ≡ map first_page_state c.args.store.now.pages = c.fill_pages.ensures.held ∙ ap (λ (ps : List Page). map first_page_state ps) stored in
    record {
      count = omega arith;
      held = omega arith;
      scan = λ base h. subst (λ l. IsScan l 1 c.args.transactions.now 0 c.args.pending.now 0) (sym begins) (scan_none b c.args.transactions.now c.args.pending.now);
      pages =
          subst (λ l. HaveWriters l c.args.store.now.pages (map page_state_of c.fill_pages.new.pages)) (sym begins)
          (subst (HaveWriters (start b) c.args.store.now.pages) (sym held) (writers_none b c.args.store.now.pages));
    }

pub loop-lsn-preserved : goal.loop-lsn-preserved
loop-lsn-preserved c =
    let log : History = history c.args.log.now in
    let lsn : ℕ = c.loop-lsn.lsn in
    let so_far : History = first lsn log in
    let r : LogRecord = shown c.after-view.result in
    let next : first (lsn + 1) log ≡ so_far ▸ r = c.after-view.ensures.next in
    let from : base_lsn log ≤ lsn = omega (arith, c.base-begins.ensures.is, c.loop-lsn.auto.lsn) in
    let at : last_lsn so_far + 1 ≡ lsn + 1 = omega (arith, size_of_first lsn log from (omega (arith, c.loop-lsn-test.true, c.last-last.ensures))) in
    let blank : PageState = record { page = record { number = 0; lsn = 0; slots = [] }; writers = []; rec_lsn = None } in
    let wrote = c.note_change.ensures blank in
    record {
      count = omega (arith, c.in_ok-noted.ensures.count, c.note_record.auto.transactions);
      held = omega (arith, c.in_ok-noted.ensures.held, c.note_record.auto.pending);
      scan = λ base h.
          (let lawful : IsLawful base (so_far ▸ r) = subst (IsLawful base) next (lawful_first base (lsn + 1) log h.lawful.log) in
          let holds = c.in_ok-noted.ensures.ok base so_far c.loop-lsn.next at lawful.1 (c.loop-lsn.invariant.scan base h) in
          subst (λ l. IsScan l c.in_ok-next.next c.note_record.new.transactions c.in_ok-noted.noted.0 c.note_record.new.pending c.in_ok-noted.noted.1) (sym next)
          (subst (λ n. IsScan (so_far ▸ r) n c.note_record.new.transactions c.in_ok-noted.noted.0 c.note_record.new.pending c.in_ok-noted.noted.1) (sym c.in_ok-next.ensures.ok) holds));
      pages =
          subst (λ l. HaveWriters l c.args.store.now.pages (map page_state_of c.note_change.new.pages)) (sym next)
          (subst (HaveWriters (so_far ▸ r) c.args.store.now.pages) (sym (wrote ∙ ap (writers_after blank (map page_state_of c.loop-lsn.pages) (change_of r) (owner r)) (omega (arith, at))))
          (writers_more so_far r c.args.store.now.pages blank (map page_state_of c.loop-lsn.pages) c.after-view.ensures.fits c.loop-lsn.invariant.pages));
    }

pub returns-clause-ok : goal.returns-clause-ok
returns-clause-ok c = λ base h.
    let log : History = history c.args.log.now in
    let all : first c.loop-lsn.lsn log ≡ log = first_all c.loop-lsn.lsn log (omega (arith, c.loop-lsn-test.false, c.last-last.ensures)) in
    let scan : IsScan log c.loop-lsn.next c.loop-lsn.transactions c.loop-lsn.count c.loop-lsn.pending c.loop-lsn.held =
    subst (λ l. IsScan l c.loop-lsn.next c.loop-lsn.transactions c.loop-lsn.count c.loop-lsn.pending c.loop-lsn.held) all (c.loop-lsn.invariant.scan base h) in
    let pages : HaveWriters log c.args.store.now.pages (map page_state_of c.loop-lsn.pages) = subst (λ l. HaveWriters l c.args.store.now.pages (map page_state_of c.loop-lsn.pages)) all c.loop-lsn.invariant.pages in
    let head : ℕ → Head = λ n. record { last = n; written = n; transactions = c.loop-lsn.count; pending = c.loop-lsn.held; next = c.loop-lsn.next } in
    let made : IsJournal base (opened c.args.log.now c.args.store.now) (head (last_lsn log)) c.loop-lsn.transactions c.settle_pages.new.pages c.loop-lsn.pending =
    record {
      holds = subst (Agrees base (opened c.args.log.now c.args.store.now) (last_lsn log) c.loop-lsn.next (kept_of (take c.loop-lsn.count c.loop-lsn.transactions) (take c.loop-lsn.held c.loop-lsn.pending))) (sym c.in_ok-settle_pages.ensures.clean)
          (opened_stands base c.args.log.now c.args.store.now h c.loop-lsn.next (kept_of (take c.loop-lsn.count c.loop-lsn.transactions) (take c.loop-lsn.held c.loop-lsn.pending)) (map page_state_of c.loop-lsn.pages) scan.standing pages);
      arrays = record { room = c.loop-lsn.invariant.count; few = scan.few; pending_room = c.loop-lsn.invariant.held; some = scan.some; used = scan.used };
      reserve = (let b = owed_bound (take c.loop-lsn.count c.loop-lsn.transactions) (take c.loop-lsn.held c.loop-lsn.pending) scan.used.table.rising in omega (arith, b, length-take c.loop-lsn.count c.loop-lsn.transactions, length-take c.loop-lsn.held c.loop-lsn.pending, c.in_ok-reserve.ensures.ok, c.last-last.ensures));
    } in
    subst (λ n. IsJournal base (opened c.args.log.now c.args.store.now) (head n) c.loop-lsn.transactions c.settle_pages.new.pages c.loop-lsn.pending) (sym c.last-last.ensures) made

-- WHAT IS FOUND of the pages
pages_are : (c : After-settle_pages) → HaveWriters (history c.args.log.now) c.args.store.now.pages (map page_state_of c.loop-lsn.pages)
pages_are c =
    let log : History = history c.args.log.now in
    let all : first c.loop-lsn.lsn log ≡ log = first_all c.loop-lsn.lsn log (omega (arith, c.loop-lsn-test.false, c.last-last.ensures)) in
    subst (λ l. HaveWriters l c.args.store.now.pages (map page_state_of c.loop-lsn.pages)) all c.loop-lsn.invariant.pages

numbered_are : (c : After-settle_pages) → AreNumbered c.args.store.now.pages
numbered_are c = subst AreNumbered (ap (λ (s : StoreContent). s.pages) c.store.view_is) c.store.invariant

pub returns-in_err-noted-clause-behind : goal.returns-in_err-noted-clause-behind
returns-in_err-noted-clause-behind c =
    let exit = err_from_is_err_and c.from_residual-in_err-noted.result c.from_residual-in_err-noted.ensures.1 in
    rw (exit.1, exit.2) (note_kept (history c.args.log.now) c.args.store.now.pages c.in_err-noted.field-0.0 c.in_err-noted.ensures.kinds)

pub returns-in_err-settle_pages-clause-behind : goal.returns-in_err-settle_pages-clause-behind
returns-in_err-settle_pages-clause-behind c =
    let exit = err_from_is_err_and c.from_residual-in_err-settle_pages.result c.from_residual-in_err-settle_pages.ensures.1 in
    let p = (goal.at.returns-in_err-settle_pages-clause-behind c).After-settle_pages in
    let one = subst (λ b. IsOneBehind b (map page_state_of c.loop-lsn.pages) c.in_err-settle_pages.field-0.0) c.base-begins.ensures.is c.in_err-settle_pages.ensures.err in
    rw (exit.1, exit.2) (page_behind (history c.args.log.now) c.args.store.now.pages (map page_state_of c.loop-lsn.pages) (numbered_are p) (pages_are p) c.in_err-settle_pages.field-0.0 one)

pub returns-clause-current : goal.returns-clause-current
returns-clause-current c =
    let p = (goal.at.returns-clause-current c).After-settle_pages in
    all_up_to_date (history c.args.log.now) c.args.store.now.pages (map page_state_of c.loop-lsn.pages) (numbered_are p) (pages_are p)
    (subst (λ b. All (IsCurrentSoFar b) (map page_state_of c.loop-lsn.pages)) c.base-begins.ensures.is c.in_ok-settle_pages.ensures.current)

-- WHY IT IS REFUSED
pub returns-in_err-next-clause-refused : goal.returns-in_err-next-clause-refused
returns-in_err-next-clause-refused c =
    let exit = err_from_is_err_and c.from_residual.result c.from_residual.ensures.1 in
    rw (exit.1, exit.2, c.in_err-next.ensures.err)
    (λ base h. number_refused c.args.log.now c.args.store.now (length c.args.transactions.now) (length c.args.pages.now) (length c.args.pending.now) (c.loop-lsn.lsn + 1) (first c.loop-lsn.lsn (history c.args.log.now)) (shown c.after-view.result) c.after-view.ensures.next c.in_err-next.ensures.largest)

pub returns-in_err-noted-clause-refused : goal.returns-in_err-noted-clause-refused
returns-in_err-noted-clause-refused c =
    let exit = err_from_is_err_and c.from_residual-in_err-noted.result c.from_residual-in_err-noted.ensures.1 in
    let log : History = history c.args.log.now in
    let lsn : ℕ = c.loop-lsn.lsn in
    let so_far : History = first lsn log in
    let r : LogRecord = shown c.after-view.result in
    let next : first (lsn + 1) log ≡ so_far ▸ r = c.after-view.ensures.next in
    let from : base_lsn log ≤ lsn = omega (arith, c.base-begins.ensures.is, c.loop-lsn.auto.lsn) in
    let at : last_lsn so_far + 1 ≡ lsn + 1 = omega (arith, size_of_first lsn log from (omega (arith, c.loop-lsn-test.true, c.last-last.ensures))) in
    let long : length c.loop-lsn.transactions ≡ length c.args.transactions.now = c.loop-lsn.auto.transactions in
    let wide : length c.loop-lsn.pending ≡ length c.args.pending.now = c.loop-lsn.auto.pending in
    rw (exit.1, exit.2) (λ base h.
    let lawful : IsLawful base (so_far ▸ r) = subst (IsLawful base) next (lawful_first base (lsn + 1) log h.lawful.log) in
    let refused : NoteRefused (so_far ▸ r) (length c.loop-lsn.transactions) (length c.loop-lsn.pending) c.in_err-noted.field-0.0 = c.in_err-noted.ensures.err base so_far c.loop-lsn.next at lawful.1 (c.loop-lsn.invariant.scan base h) in
    noted_refused c.args.log.now c.args.store.now (length c.args.transactions.now) (length c.args.pages.now) (length c.args.pending.now) (lsn + 1) (so_far ▸ r) next c.in_err-noted.field-0.0
    (subst (λ n. NoteRefused (so_far ▸ r) n (length c.args.pending.now) c.in_err-noted.field-0.0) long (subst (λ n. NoteRefused (so_far ▸ r) (length c.loop-lsn.transactions) n c.in_err-noted.field-0.0) wide refused)))

pub returns-in_err-settle_pages-clause-refused : goal.returns-in_err-settle_pages-clause-refused
returns-in_err-settle_pages-clause-refused c =
    let exit = err_from_is_err_and c.from_residual-in_err-settle_pages.result c.from_residual-in_err-settle_pages.ensures.1 in
    let p = (goal.at.returns-in_err-settle_pages-clause-refused c).After-settle_pages in
    let one = subst (λ b. IsOneBehind b (map page_state_of c.loop-lsn.pages) c.in_err-settle_pages.field-0.0) c.base-begins.ensures.is c.in_err-settle_pages.ensures.err in
    rw (exit.1, exit.2) (λ base h.
    behind_refused c.args.log.now c.args.store.now (length c.args.transactions.now) (length c.args.pages.now) (length c.args.pending.now) base h c.in_err-settle_pages.field-0.0
    (one_behind (base_lsn (history c.args.log.now)) (map page_state_of c.loop-lsn.pages) c.in_err-settle_pages.field-0.0 one)
    (page_behind (history c.args.log.now) c.args.store.now.pages (map page_state_of c.loop-lsn.pages) (numbered_are p) (pages_are p) c.in_err-settle_pages.field-0.0 one))

pub returns-in_err-reserve-clause-refused : goal.returns-in_err-reserve-clause-refused
returns-in_err-reserve-clause-refused c =
    let exit = err_from_is_err_and c.from_residual-in_err-reserve.result c.from_residual-in_err-reserve.ensures.1 in
    let log : History = history c.args.log.now in
    let all : first c.loop-lsn.lsn log ≡ log = first_all c.loop-lsn.lsn log (omega (arith, c.loop-lsn-test.false, c.last-last.ensures)) in
    let wide : length c.loop-lsn.pending ≡ length c.args.pending.now = c.loop-lsn.auto.pending in
    rw (exit.1, exit.2, c.in_err-reserve.ensures.err) (λ base h.
    let scan : IsScan log c.loop-lsn.next c.loop-lsn.transactions c.loop-lsn.count c.loop-lsn.pending c.loop-lsn.held =
    subst (λ l. IsScan l c.loop-lsn.next c.loop-lsn.transactions c.loop-lsn.count c.loop-lsn.pending c.loop-lsn.held) all (c.loop-lsn.invariant.scan base h) in
    let few : c.loop-lsn.count ≤ unfinished_count log = scan_count log c.loop-lsn.next c.loop-lsn.transactions c.loop-lsn.count c.loop-lsn.pending c.loop-lsn.held c.loop-lsn.invariant.count scan in
    let full = c.in_err-reserve.ensures.full in
    omega (arith, few, full, wide, c.loop-lsn.invariant.held, c.last-last.ensures))
