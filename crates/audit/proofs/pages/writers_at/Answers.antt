use Rattle.std.proofs.lemmas.Bool.{cases_lt}
use Rattle.std.proofs.lemmas.List.{get_or-replicate, length-replicate}
use Rattle.std.proofs.Common.{◌*◌, ◌≡◌, ◌≤◌, ◌+◌, ◌++◌, [], take, drop, length, sym, ap, subst, ◌∙◌, arith, inl, inr, List, ℕ, get_or}
use Rattle.log_laws.proofs.Histories.{size_of_first, first_at_base}
use Rattle.log_laws.specs.Records.{History, LogRecord, history, last_lsn, ◌▸◌, first}
use Rattle.log_laws.specs.Meaning.{cell_of}
use Rattle.log_laws.specs.Store.{NamesPages}
use Rattle.audit.specs.Cells.{KeepsWriters}
use Rattle.audit.specs.Pages.{log_at, page_lsn, writers_after}
use Rattle.audit.proofs.Noting.{page_below, cell_below}
use Rattle.audit.proofs.Passing.{written_back}
use Rattle.page.specs.declared.page.Page.{Page}
use Rattle.audit.proofs.PageImages.{writers_noted, writers_all}
use Rattle.page.specs.declared.profile.TheConstants.{SLOTS}
use Rattle.audit.proofs.pages.writers_at.Goals as goal

pub note_writer-requires-clause-page : goal.note_writer-requires-clause-page
note_writer-requires-clause-page c =
    let seen = c.glance_after.ensures in
    page_below (length c.args.pages.now) seen.entry c.cell-cell.result (c.cell-cell.ensures seen.entry seen.seen_of) (c.requires.named (c.loop-lsn.lsn + 1) seen.entry seen.there)

pub note_writer-requires-clause-cell : goal.note_writer-requires-clause-cell
note_writer-requires-clause-cell c =
    let seen = c.glance_after.ensures in
    cell_below (length c.args.pages.now) (length c.deref_mut.result.now) seen.entry c.cell-cell.result (c.cell-cell.ensures seen.entry seen.seen_of)
    (ap length c.deref_mut.ensures.value ∙ c.loop-lsn.invariant.size_is) (c.requires.named (c.loop-lsn.lsn + 1) seen.entry seen.there) seen.fits

pub loop-lsn-preserved : goal.loop-lsn-preserved
loop-lsn-preserved c =
    let pages = c.args.pages.now in
    let so_far : History = first c.loop-lsn.lsn (history c.args.log.now) in
    let seen = c.glance_after.ensures in
    let r : LogRecord = seen.entry in
    let lsn : ℕ = c.loop-lsn.lsn + 1 in
    let at : last_lsn so_far + 1 ≡ lsn = omega (arith, size_of_first c.loop-lsn.lsn (history c.args.log.now) (omega (arith, c.base-base.ensures.is)) (omega arith)) in
    let named : NamesPages (length pages) r = c.requires.named lsn r seen.there in
    let len : length c.loop-lsn.writers.items ≡ c.loop-lsn.writers.len = omega (arith, c.deref_mut.ensures.len, ap length c.deref_mut.ensures.value) in
    let len' : length c.note_writer.new.writers ≡ c.loop-lsn.writers.len = omega (arith, c.note_writer.auto.writers, c.deref_mut.ensures.len) in
    let back = written_back c.loop-lsn.writers.len c.loop-lsn.writers.items c.note_writer.new.writers len len' in
    let wrote : c.note_writer.new.writers ≡ writers_after (page_lsn pages) c.loop-lsn.writers.items (cell_of r) lsn =
    c.note_writer.ensures ∙ ap (λ xs. writers_after (page_lsn pages) xs c.cell-cell.result lsn) c.deref_mut.ensures.value
    ∙ ap (λ cell. writers_after (page_lsn pages) c.loop-lsn.writers.items cell lsn) (c.cell-cell.ensures r seen.seen_of) in
    subst (λ (h : History). KeepsWriters (length pages) (log_at pages h) (take c.loop-lsn.writers.len (c.note_writer.new.writers ++ drop (length c.note_writer.new.writers) c.loop-lsn.writers.items))) (sym seen.next)
    (subst (λ xs. KeepsWriters (length pages) (log_at pages (so_far ▸ r)) xs) (sym (back ∙ wrote))
    (writers_noted pages so_far r lsn c.loop-lsn.writers.items at named seen.fits c.loop-lsn.invariant))

pub loop-lsn-init : goal.loop-lsn-init
loop-lsn-init c =
    subst (λ (h : History). KeepsWriters (length c.args.pages.now) (log_at c.args.pages.now h) c.in_ok-writers.writers.items) (sym (first_at_base (history c.args.log.now) c.base-base.result c.base-base.ensures.is))
    (record {
      size_is = ap length (c.in_ok-writers.ensures.items_if_clones_equal (λ y e. e)) ∙ length-replicate _ _;
      each = λ page slot d lt small.
          ap (λ (xs : List ℕ). get_or xs (SLOTS * page + slot) d) (c.in_ok-writers.ensures.items_if_clones_equal (λ y e. e))
          ∙ get_or-replicate (SLOTS * length c.args.pages.now) (SLOTS * page + slot) 0 d (omega (arith, lt, small));
    })

pub returns-clause-ok : goal.returns-clause-ok
returns-clause-ok c =
    let blank : Page = record { number = 0; lsn = 0; slots = [] } in
    let end : c.min-upto.result ≤ c.loop-lsn.lsn = c.loop-lsn-test.false in
    writers_all c.args.pages.now (history c.args.log.now) c.loop-lsn.lsn c.highest_in.result c.loop-lsn.writers.items (λ page lt. c.highest_in.ensures page blank lt)
    (elim (cases_lt c.highest_in.result c.last.result) [
      | inl under ↦ inr (omega (arith, under, end, c.min-upto.ensures))
      | inr over ↦ inl (omega (arith, over, end, c.min-upto.ensures, c.last.ensures))
    ])
    c.loop-lsn.invariant
