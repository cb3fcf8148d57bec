use Rattle.std.proofs.lemmas.List.{get_or-replicate, length-replicate}
use Rattle.std.proofs.Common.{◌≡◌, ◌+◌, ◌++◌, length, take, drop, sym, ap, subst, ◌∙◌, arith, List, ℕ, get_or}
use Rattle.log_laws.proofs.Histories.{size_of_first, first_at_base}
use Rattle.log_laws.specs.Records.{History, LogRecord, history, last_lsn, ◌▸◌, first}
use Rattle.log_laws.specs.Meaning.{cell_of}
use Rattle.log_laws.specs.Store.{NamesPages}
use Rattle.audit.specs.Pages.{page_lsn}
use Rattle.audit.specs.Dirty.{KeepsMissing, missing_after}
use Rattle.audit.proofs.Noting.{page_below}
use Rattle.audit.proofs.Passing.{written_back}
use Rattle.audit.proofs.Missing.{missing_more}
use Rattle.audit.proofs.dirty.missing_in.Goals as goal

pub note_missing-requires-clause-page : goal.note_missing-requires-clause-page
note_missing-requires-clause-page c =
    let seen = c.glance_after.ensures in
    page_below (length c.args.pages.now) seen.entry c.cell-cell.result (c.cell-cell.ensures seen.entry seen.seen_of) (c.requires.named (c.loop-lsn.lsn + 1) seen.entry seen.there)

pub loop-lsn-preserved : goal.loop-lsn-preserved
loop-lsn-preserved c =
    let so_far : History = first c.loop-lsn.lsn (history c.args.log.now) in
    let seen = c.glance_after.ensures in
    let r : LogRecord = seen.entry in
    let lsn : ℕ = c.loop-lsn.lsn + 1 in
    let at : last_lsn so_far + 1 ≡ lsn = omega (arith, size_of_first c.loop-lsn.lsn (history c.args.log.now) (omega (arith, c.base-base.ensures.is)) (omega arith)) in
    let named : NamesPages (length c.args.pages.now) r = c.requires.named lsn r seen.there in
    let len : length c.loop-lsn.missing.items ≡ c.loop-lsn.missing.len = omega (arith, c.deref_mut.ensures.len, ap length c.deref_mut.ensures.value) in
    let len' : length c.note_missing.new.missing ≡ c.loop-lsn.missing.len = omega (arith, c.note_missing.auto.missing, c.deref_mut.ensures.len) in
    let back = written_back c.loop-lsn.missing.len c.loop-lsn.missing.items c.note_missing.new.missing len len' in
    let wrote : c.note_missing.new.missing ≡ missing_after (page_lsn c.args.pages.now) c.loop-lsn.missing.items (cell_of r) lsn =
    c.note_missing.ensures ∙ ap (λ xs. missing_after (page_lsn c.args.pages.now) xs c.cell-cell.result lsn) c.deref_mut.ensures.value
    ∙ ap (λ cell. missing_after (page_lsn c.args.pages.now) c.loop-lsn.missing.items cell lsn) (c.cell-cell.ensures r seen.seen_of) in
    subst (λ (h : History). KeepsMissing c.args.pages.now h (take c.loop-lsn.missing.len (c.note_missing.new.missing ++ drop (length c.note_missing.new.missing) c.loop-lsn.missing.items))) (sym seen.next)
    (subst (λ xs. KeepsMissing c.args.pages.now (so_far ▸ r) xs) (sym (back ∙ wrote))
    (missing_more c.args.pages.now so_far r c.loop-lsn.missing.items lsn at named c.loop-lsn.invariant))

pub loop-lsn-init : goal.loop-lsn-init
loop-lsn-init c =
    subst (λ (h : History). KeepsMissing c.args.pages.now h c.in_ok-missing.missing.items) (sym (first_at_base (history c.args.log.now) c.base-base.result c.base-base.ensures.is))
    (record {
      size_is = ap length (c.in_ok-missing.ensures.items_if_clones_equal (λ y e. e)) ∙ length-replicate _ _;
      each = λ page lt. ap (λ (xs : List ℕ). get_or xs page 0) (c.in_ok-missing.ensures.items_if_clones_equal (λ y e. e)) ∙ get_or-replicate (length c.args.pages.now) page 0 0 lt;
    })
