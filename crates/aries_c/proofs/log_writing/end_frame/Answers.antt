use Rattle.std.proofs.Common.{◌≡◌, ◌∙◌, ℕ, List, sym, subst, inr, map}
use Rattle.std.proofs.lemmas.Result.{err_from_is_err_and}
use Rattle.log_laws.specs.Records.{TableEntry, CheckpointEnd}
use Rattle.wal.specs.Spelling.{Fits}
use Rattle.wal.specs.Content.{entry_of}
use Rattle.aries_c.specs.Tables.{told_entry, told_dirty}
use Rattle.aries_c.proofs.Places.{one_named}
use Rattle.aries_c.proofs.Entries.{one_entry, one_dirty}
use Rattle.aries_c.proofs.log_writing.end_frame.Goals as goal

pub returns-in_err-end-clause-err : goal.returns-in_err-end-clause-err
returns-in_err-end-clause-err c =
    let exit = err_from_is_err_and c.from_residual-in_err-end.result c.from_residual-in_err-end.ensures.1 in
    let entries : List TableEntry = map entry_of c.in_ok-entries_named.field-0.items in
    let pages : List (ℕ × ℕ) = c.in_ok-dirty_named.field-0.items in
    rw (exit.1, exit.2)
    (inr (
      c.in_err-end.ensures.err,
      λ text end.
          let same : end.0 ≡ entries = one_named told_entry one_entry end.0 entries (end.2 ∙ sym c.in_ok-entries_named.ensures.found) in
          let same_pages : end.1 ≡ pages = one_named told_dirty one_dirty end.1 pages (end.3 ∙ sym c.in_ok-dirty_named.ensures.found) in
          c.in_err-end.ensures.only
          (subst (λ (l : List TableEntry). Fits (CheckpointEnd c.args.begin l pages)) same (subst (λ (l : List (ℕ × ℕ)). Fits (CheckpointEnd c.args.begin end.0 l)) same_pages end.4)),
    ))
