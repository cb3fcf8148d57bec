use Rattle.std.proofs.Common.{ℕ, List, ◌++◌, length, take, get_or, sym, ap, ◌∙◌}
use Rattle.std.proofs.lemmas.List.{take_more, take_all}
use Rattle.std.specs.List.{flat_map}
use Rattle.std.specs.Int.{w32, to_be_bytes}
use Rattle.wal.specs.Spelling.{dirty_page}
use Rattle.wal.proofs.Keeping.{keeps_equal, keeps_is, keeps_then, table_more}
use Rattle.wal.proofs.field.put_dirties.Goals as goal

pub returns-in_err-extend_from_slice-clause-kept : goal.returns-in_err-extend_from_slice-clause-kept
returns-in_err-extend_from_slice-clause-kept g c = keeps_equal _ _ c.in_err-extend_from_slice.ensures.items

pub loop-page-init : goal.loop-page-init
loop-page-init g c = (
  keeps_is _ _ _ c.in_ok-extend_from_slice.ensures.items,
  c.in_ok-extend_from_slice.ensures.items ∙ ap (λ (x : List ℕ). c.args.out.now.items ++ x) c.to_be_bytes.ensures,
)

pub returns-in_err-put_dirty-clause-kept : goal.returns-in_err-put_dirty-clause-kept
returns-in_err-put_dirty-clause-kept g c = keeps_then _ _ _ c.loop-page.invariant.0 c.in_err-put_dirty.ensures.kept

pub loop-page-preserved : goal.loop-page-preserved
loop-page-preserved g c =
    let old : List ℕ = c.args.out.now.items in
    let entries : List (ℕ × ℕ) = c.args.entries.now in
    let index : ℕ = c.loop-page.page-index in
    let count : List ℕ = to_be_bytes w32 (length entries) in (
      keeps_then _ _ _ c.loop-page.invariant.0 c.in_ok-put_dirty.ensures.kept,
      table_more dirty_page old count c.loop-page.out.items c.put_dirty.new.out.items (take index entries) (get_or entries index (0, 0)) c.loop-page.invariant.1 c.in_ok-put_dirty.ensures.ok
          ∙ ap (λ (x : List (ℕ × ℕ)). old ++ (count ++ flat_map dirty_page x)) (sym (take_more entries index (0, 0) c.loop-page-test.true)),
    )

pub returns-clause-ok : goal.returns-clause-ok
returns-clause-ok g c =
    let entries : List (ℕ × ℕ) = c.args.entries.now in
    c.loop-page.invariant.1
    ∙ ap (λ (x : List (ℕ × ℕ)). c.args.out.now.items ++ (to_be_bytes w32 (length entries) ++ flat_map dirty_page x)) (take_all c.loop-page.page-index entries c.loop-page-test.false)

pub returns-clause-kept : goal.returns-clause-kept
returns-clause-kept g c = c.loop-page.invariant.0
