use Rattle.std.proofs.Common.{ℕ, List, [], ◌∷◌, ◌++◌, length, take, map, get_or, sym, ap, ◌∙◌}
use Rattle.std.proofs.lemmas.List.{take_more, take_all, map-append, length-map}
use Rattle.std.specs.List.{flat_map}
use Rattle.std.specs.Int.{w32, to_be_bytes}
use Rattle.log_laws.specs.declared.state.State.TheVariants.{Active}
use Rattle.log_laws.specs.Records.{TableEntry}
use Rattle.wal.specs.declared.record.Entry.{Entry}
use Rattle.wal.specs.Spelling.{entry as entry_text}
use Rattle.wal.specs.Content.{entry_of}
use Rattle.wal.proofs.Keeping.{keeps_equal, keeps_is, keeps_then, table_more}
use Rattle.wal.proofs.field.put_entries.Goals as goal

pub returns-in_err-extend_from_slice-clause-kept : goal.returns-in_err-extend_from_slice-clause-kept
returns-in_err-extend_from_slice-clause-kept g c = keeps_equal _ _ c.in_err-extend_from_slice.ensures.items

pub loop-tx-init : goal.loop-tx-init
loop-tx-init g c = (
  keeps_is _ _ _ c.in_ok-extend_from_slice.ensures.items,
  c.in_ok-extend_from_slice.ensures.items ∙ ap (λ (x : List ℕ). c.args.out.now.items ++ x) c.to_be_bytes.ensures,
)

pub returns-in_err-extend_from_slice-2-clause-kept : goal.returns-in_err-extend_from_slice-2-clause-kept
returns-in_err-extend_from_slice-2-clause-kept g c =
    keeps_then _ _ _ c.loop-tx.invariant.0 (keeps_equal _ _ c.in_err-extend_from_slice-2.ensures.items)

pub loop-tx-preserved : goal.loop-tx-preserved
loop-tx-preserved g c =
    let old : List ℕ = c.args.out.now.items in
    let mid : List ℕ = c.loop-tx.out.items in
    let entries : List (ℕ × Entry) = c.args.entries.now in
    let index : ℕ = c.loop-tx.tx-index in
    let count : List ℕ = to_be_bytes w32 (length entries) in
    let none : ℕ × Entry = (0, record { state = Active; last = 0; undo_next = 0 }) in (
      keeps_then _ _ _ c.loop-tx.invariant.0 (keeps_is _ _ _ c.in_ok-extend_from_slice-2.ensures.items),
      table_more entry_text old count mid c.extend_from_slice-in-loop-tx.new.self.items (map entry_of (take index entries)) (entry_of (get_or entries index none))
          c.loop-tx.invariant.1 (c.in_ok-extend_from_slice-2.ensures.items ∙ ap (λ (x : List ℕ). mid ++ x) c.entry_bytes.ensures)
          ∙ ap (λ (x : List TableEntry). old ++ (count ++ flat_map entry_text x))
          (sym (ap (map entry_of) (take_more entries index none c.loop-tx-test.true) ∙ map-append entry_of (take index entries) (get_or entries index none ∷ []))),
    )

pub returns-clause-ok : goal.returns-clause-ok
returns-clause-ok g c =
    let old : List ℕ = c.args.out.now.items in
    let entries : List (ℕ × Entry) = c.args.entries.now in
    c.loop-tx.invariant.1
    ∙ ap (λ (x : List (ℕ × Entry)). old ++ (to_be_bytes w32 (length entries) ++ flat_map entry_text (map entry_of x))) (take_all c.loop-tx.tx-index entries c.loop-tx-test.false)
    ∙ ap (λ (n : ℕ). old ++ (to_be_bytes w32 n ++ flat_map entry_text (map entry_of entries))) (sym (length-map entries entry_of))

pub returns-clause-kept : goal.returns-clause-kept
returns-clause-kept g c = c.loop-tx.invariant.0
