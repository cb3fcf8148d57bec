use Rattle.std.proofs.Common.{ℕ, List, [], ◌∷◌, ◌++◌, map, sym, ap, ◌∙◌}
use Rattle.std.proofs.lemmas.List.{append-nil}
use Rattle.std.specs.Int.{w32, w64, to_be_bytes}
use Rattle.wal.specs.Spelling.{image, entry, dirty_page, table}
use Rattle.wal.specs.Content.{entry_of}
use Rattle.wal.specs.Head.{head_text}
use Rattle.wal.proofs.Keeping.{keeps_equal, keeps_is, keeps_then, head_cell, head_three}
use Rattle.wal.proofs.frame.put_fields.Goals as goal

pub returns-in_ok-put_image-in-Update-2-clause-ok : goal.returns-in_ok-put_image-in-Update-2-clause-ok
returns-in_ok-put_image-in-Update-2-clause-ok g c =
    rw c.in-Update.is (head_cell c.args.out.now.items (head_text c.args.head) (to_be_bytes w32 c.in-Update.tx ++ to_be_bytes w64 c.in-Update.prev) (to_be_bytes w32 c.in-Update.page) (c.in-Update.slot ∷ []) (image c.in-Update.before) (image c.in-Update.after)
    _ _ _ (c.in_ok-extend_from_slice-in-Update.ensures.items ∙ ap (λ (x : List ℕ). c.args.out.now.items ++ x) c.with_cell.ensures) c.in_ok-put_image-in-Update.ensures.ok c.in_ok-put_image-in-Update-2.ensures.ok)

pub returns-in_ok-put_image-in-Compensation-clause-ok : goal.returns-in_ok-put_image-in-Compensation-clause-ok
returns-in_ok-put_image-in-Compensation-clause-ok g c =
    rw c.in-Compensation.is (head_cell c.args.out.now.items (head_text c.args.head) (to_be_bytes w32 c.in-Compensation.tx ++ to_be_bytes w64 c.in-Compensation.prev) (to_be_bytes w32 c.in-Compensation.page) (c.in-Compensation.slot ∷ []) (to_be_bytes w64 c.in-Compensation.undo_next) (image c.in-Compensation.image)
    _ _ _ (c.in_ok-extend_from_slice-in-Compensation.ensures.items ∙ ap (λ (x : List ℕ). c.args.out.now.items ++ x) c.with_cell-in-Compensation.ensures)
    (c.in_ok-extend_from_slice-in-Compensation-2.ensures.items ∙ ap (λ (x : List ℕ). c.extend_from_slice-in-Compensation.new.self.items ++ x) c.to_be_bytes.ensures) c.in_ok-put_image-in-Compensation.ensures.ok)

pub returns-in_ok-put_dirties-in-CheckpointEnd-clause-ok : goal.returns-in_ok-put_dirties-in-CheckpointEnd-clause-ok
returns-in_ok-put_dirties-in-CheckpointEnd-clause-ok g c =
    let old = c.args.out.now.items in
    let first = c.extend_from_slice-in-CheckpointEnd.new.self.items in
    let second = c.extend_from_slice-in-CheckpointEnd-2.new.self.items in
    let third = c.put_entries.new.out.items in
    rw c.in-CheckpointEnd.is (head_three old (head_text c.args.head) (to_be_bytes w64 c.in-CheckpointEnd.begin) (table entry (map entry_of c.in-CheckpointEnd.transactions.items)) (table dirty_page c.in-CheckpointEnd.dirty.items)
    first second third c.put_dirties.new.out.items
    (c.in_ok-extend_from_slice-in-CheckpointEnd.ensures.items ∙ ap (λ (x : List ℕ). old ++ x) c.bytes-in-CheckpointEnd.ensures)
    (c.in_ok-extend_from_slice-in-CheckpointEnd-2.ensures.items ∙ ap (λ (x : List ℕ). first ++ x) c.to_be_bytes-in-CheckpointEnd.ensures)
    (c.in_ok-put_entries-in-CheckpointEnd.ensures.ok ∙ ap (λ xs. second ++ table entry (map entry_of xs)) c.deref.ensures.value)
    (c.in_ok-put_dirties-in-CheckpointEnd.ensures.ok ∙ ap (λ xs. third ++ table dirty_page xs) c.deref-in-CheckpointEnd.ensures.value))

pub returns-in_err-extend_from_slice-in-Update-clause-kept : goal.returns-in_err-extend_from_slice-in-Update-clause-kept
returns-in_err-extend_from_slice-in-Update-clause-kept g c =
    keeps_equal _ _ c.in_err-extend_from_slice-in-Update.ensures.items

pub returns-in_err-extend_from_slice-in-Compensation-clause-kept : goal.returns-in_err-extend_from_slice-in-Compensation-clause-kept
returns-in_err-extend_from_slice-in-Compensation-clause-kept g c =
    keeps_equal _ _ c.in_err-extend_from_slice-in-Compensation.ensures.items

pub returns-in_err-extend_from_slice-in-Commit-clause-kept : goal.returns-in_err-extend_from_slice-in-Commit-clause-kept
returns-in_err-extend_from_slice-in-Commit-clause-kept g c =
    keeps_equal _ _ c.in_err-extend_from_slice-in-Commit.ensures.items

pub returns-in_err-extend_from_slice-in-Abort-clause-kept : goal.returns-in_err-extend_from_slice-in-Abort-clause-kept
returns-in_err-extend_from_slice-in-Abort-clause-kept g c =
    keeps_equal _ _ c.in_err-extend_from_slice-in-Abort.ensures.items

pub returns-in_err-extend_from_slice-in-End-clause-kept : goal.returns-in_err-extend_from_slice-in-End-clause-kept
returns-in_err-extend_from_slice-in-End-clause-kept g c =
    keeps_equal _ _ c.in_err-extend_from_slice-in-End.ensures.items

pub returns-in_err-extend_from_slice-in-Prepare-clause-kept : goal.returns-in_err-extend_from_slice-in-Prepare-clause-kept
returns-in_err-extend_from_slice-in-Prepare-clause-kept g c =
    keeps_equal _ _ c.in_err-extend_from_slice-in-Prepare.ensures.items

pub returns-in_err-extend_from_slice-in-CheckpointBegin-clause-kept : goal.returns-in_err-extend_from_slice-in-CheckpointBegin-clause-kept
returns-in_err-extend_from_slice-in-CheckpointBegin-clause-kept g c =
    keeps_equal _ _ c.in_err-extend_from_slice-in-CheckpointBegin.ensures.items

pub returns-in_err-extend_from_slice-in-CheckpointEnd-clause-kept : goal.returns-in_err-extend_from_slice-in-CheckpointEnd-clause-kept
returns-in_err-extend_from_slice-in-CheckpointEnd-clause-kept g c =
    keeps_equal _ _ c.in_err-extend_from_slice-in-CheckpointEnd.ensures.items

pub returns-in_ok-extend_from_slice-in-Commit-clause-kept : goal.returns-in_ok-extend_from_slice-in-Commit-clause-kept
returns-in_ok-extend_from_slice-in-Commit-clause-kept g c =
    keeps_is _ _ _ c.in_ok-extend_from_slice-in-Commit.ensures.items

pub returns-in_ok-extend_from_slice-in-Abort-clause-kept : goal.returns-in_ok-extend_from_slice-in-Abort-clause-kept
returns-in_ok-extend_from_slice-in-Abort-clause-kept g c =
    keeps_is _ _ _ c.in_ok-extend_from_slice-in-Abort.ensures.items

pub returns-in_ok-extend_from_slice-in-End-clause-kept : goal.returns-in_ok-extend_from_slice-in-End-clause-kept
returns-in_ok-extend_from_slice-in-End-clause-kept g c =
    keeps_is _ _ _ c.in_ok-extend_from_slice-in-End.ensures.items

pub returns-in_ok-extend_from_slice-in-Prepare-clause-kept : goal.returns-in_ok-extend_from_slice-in-Prepare-clause-kept
returns-in_ok-extend_from_slice-in-Prepare-clause-kept g c =
    keeps_is _ _ _ c.in_ok-extend_from_slice-in-Prepare.ensures.items

pub returns-in_ok-extend_from_slice-in-CheckpointBegin-clause-kept : goal.returns-in_ok-extend_from_slice-in-CheckpointBegin-clause-kept
returns-in_ok-extend_from_slice-in-CheckpointBegin-clause-kept g c =
    keeps_is _ _ _ c.in_ok-extend_from_slice-in-CheckpointBegin.ensures.items

pub returns-in_err-put_image-in-Update-clause-kept : goal.returns-in_err-put_image-in-Update-clause-kept
returns-in_err-put_image-in-Update-clause-kept g c =
    keeps_then _ _ _ (keeps_is _ _ _ c.in_ok-extend_from_slice-in-Update.ensures.items) c.in_err-put_image-in-Update.ensures.kept

pub returns-in_err-put_image-in-Update-2-clause-kept : goal.returns-in_err-put_image-in-Update-2-clause-kept
returns-in_err-put_image-in-Update-2-clause-kept g c =
    keeps_then _ _ _ (keeps_then _ _ _ (keeps_is _ _ _ c.in_ok-extend_from_slice-in-Update.ensures.items) c.in_ok-put_image-in-Update.ensures.kept) c.in_err-put_image-in-Update-2.ensures.kept

pub returns-in_ok-put_image-in-Update-2-clause-kept : goal.returns-in_ok-put_image-in-Update-2-clause-kept
returns-in_ok-put_image-in-Update-2-clause-kept g c =
    keeps_then _ _ _ (keeps_then _ _ _ (keeps_is _ _ _ c.in_ok-extend_from_slice-in-Update.ensures.items) c.in_ok-put_image-in-Update.ensures.kept) c.in_ok-put_image-in-Update-2.ensures.kept

pub returns-in_err-extend_from_slice-in-Compensation-2-clause-kept : goal.returns-in_err-extend_from_slice-in-Compensation-2-clause-kept
returns-in_err-extend_from_slice-in-Compensation-2-clause-kept g c =
    keeps_then _ _ _ (keeps_is _ _ _ c.in_ok-extend_from_slice-in-Compensation.ensures.items) (keeps_equal _ _ c.in_err-extend_from_slice-in-Compensation-2.ensures.items)

pub returns-in_err-put_image-in-Compensation-clause-kept : goal.returns-in_err-put_image-in-Compensation-clause-kept
returns-in_err-put_image-in-Compensation-clause-kept g c =
    keeps_then _ _ _ (keeps_then _ _ _ (keeps_is _ _ _ c.in_ok-extend_from_slice-in-Compensation.ensures.items) (keeps_is _ _ _ c.in_ok-extend_from_slice-in-Compensation-2.ensures.items)) c.in_err-put_image-in-Compensation.ensures.kept

pub returns-in_ok-put_image-in-Compensation-clause-kept : goal.returns-in_ok-put_image-in-Compensation-clause-kept
returns-in_ok-put_image-in-Compensation-clause-kept g c =
    keeps_then _ _ _ (keeps_then _ _ _ (keeps_is _ _ _ c.in_ok-extend_from_slice-in-Compensation.ensures.items) (keeps_is _ _ _ c.in_ok-extend_from_slice-in-Compensation-2.ensures.items)) c.in_ok-put_image-in-Compensation.ensures.kept

pub returns-in_err-extend_from_slice-in-CheckpointEnd-2-clause-kept : goal.returns-in_err-extend_from_slice-in-CheckpointEnd-2-clause-kept
returns-in_err-extend_from_slice-in-CheckpointEnd-2-clause-kept g c =
    keeps_then _ _ _ (keeps_is _ _ _ c.in_ok-extend_from_slice-in-CheckpointEnd.ensures.items) (keeps_equal _ _ c.in_err-extend_from_slice-in-CheckpointEnd-2.ensures.items)

pub returns-in_err-put_entries-in-CheckpointEnd-clause-kept : goal.returns-in_err-put_entries-in-CheckpointEnd-clause-kept
returns-in_err-put_entries-in-CheckpointEnd-clause-kept g c =
    keeps_then _ _ _ (keeps_then _ _ _ (keeps_is _ _ _ c.in_ok-extend_from_slice-in-CheckpointEnd.ensures.items) (keeps_is _ _ _ c.in_ok-extend_from_slice-in-CheckpointEnd-2.ensures.items)) c.in_err-put_entries-in-CheckpointEnd.ensures.kept

pub returns-in_err-put_dirties-in-CheckpointEnd-clause-kept : goal.returns-in_err-put_dirties-in-CheckpointEnd-clause-kept
returns-in_err-put_dirties-in-CheckpointEnd-clause-kept g c =
    keeps_then _ _ _ (keeps_then _ _ _ (keeps_then _ _ _ (keeps_is _ _ _ c.in_ok-extend_from_slice-in-CheckpointEnd.ensures.items) (keeps_is _ _ _ c.in_ok-extend_from_slice-in-CheckpointEnd-2.ensures.items)) c.in_ok-put_entries-in-CheckpointEnd.ensures.kept) c.in_err-put_dirties-in-CheckpointEnd.ensures.kept

pub returns-in_ok-put_dirties-in-CheckpointEnd-clause-kept : goal.returns-in_ok-put_dirties-in-CheckpointEnd-clause-kept
returns-in_ok-put_dirties-in-CheckpointEnd-clause-kept g c =
    keeps_then _ _ _ (keeps_then _ _ _ (keeps_then _ _ _ (keeps_is _ _ _ c.in_ok-extend_from_slice-in-CheckpointEnd.ensures.items) (keeps_is _ _ _ c.in_ok-extend_from_slice-in-CheckpointEnd-2.ensures.items)) c.in_ok-put_entries-in-CheckpointEnd.ensures.kept) c.in_ok-put_dirties-in-CheckpointEnd.ensures.kept

pub returns-in_ok-extend_from_slice-in-Commit-clause-ok : goal.returns-in_ok-extend_from_slice-in-Commit-clause-ok
returns-in_ok-extend_from_slice-in-Commit-clause-ok g c =
    rw c.in-Commit.is (c.in_ok-extend_from_slice-in-Commit.ensures.items ∙ ap (λ (x : List ℕ). c.args.out.now.items ++ x) c.with_plain.ensures)

pub returns-in_ok-extend_from_slice-in-Abort-clause-ok : goal.returns-in_ok-extend_from_slice-in-Abort-clause-ok
returns-in_ok-extend_from_slice-in-Abort-clause-ok g c =
    rw c.in-Abort.is (c.in_ok-extend_from_slice-in-Abort.ensures.items ∙ ap (λ (x : List ℕ). c.args.out.now.items ++ x) c.with_plain-in-Abort.ensures)

pub returns-in_ok-extend_from_slice-in-End-clause-ok : goal.returns-in_ok-extend_from_slice-in-End-clause-ok
returns-in_ok-extend_from_slice-in-End-clause-ok g c =
    rw c.in-End.is (c.in_ok-extend_from_slice-in-End.ensures.items ∙ ap (λ (x : List ℕ). c.args.out.now.items ++ x) c.with_plain-in-End.ensures)

pub returns-in_ok-extend_from_slice-in-Prepare-clause-ok : goal.returns-in_ok-extend_from_slice-in-Prepare-clause-ok
returns-in_ok-extend_from_slice-in-Prepare-clause-ok g c =
    rw c.in-Prepare.is (c.in_ok-extend_from_slice-in-Prepare.ensures.items ∙ ap (λ (x : List ℕ). c.args.out.now.items ++ x) c.with_plain-in-Prepare.ensures)

pub returns-in_ok-extend_from_slice-in-CheckpointBegin-clause-ok : goal.returns-in_ok-extend_from_slice-in-CheckpointBegin-clause-ok
returns-in_ok-extend_from_slice-in-CheckpointBegin-clause-ok g c =
    rw c.in-CheckpointBegin.is (c.in_ok-extend_from_slice-in-CheckpointBegin.ensures.items ∙ ap (λ (x : List ℕ). c.args.out.now.items ++ x) (c.bytes.ensures ∙ sym (append-nil (head_text c.args.head))))

pub put_image-requires : goal.put_image-requires
put_image-requires g c =
    (rw c.in-Update.is at c.requires).before

pub put_image-requires-in-Update : goal.put_image-requires-in-Update
put_image-requires-in-Update g c =
    (rw c.in-Update.is at c.requires).after

pub put_image-requires-in-Compensation : goal.put_image-requires-in-Compensation
put_image-requires-in-Compensation g c =
    (rw c.in-Compensation.is at c.requires).image
