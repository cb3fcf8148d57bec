-- The tallies with one more record.
use Rattle.std.proofs.Common.{◌≡◌, ℕ, ◌+◌, ◌≤◌, List, Some, length, inl, inr, ap, sym, ◌∙◌, subst, arith}
use Rattle.std.proofs.lemmas.Bool.{cases_eq}
use Rattle.std.proofs.lemmas.Option.{same_Some}
use Rattle.page.specs.declared.fault.Fault.{Fault}
use Rattle.page.specs.declared.page.Page.{Page}
use Rattle.wal.specs.declared.glance.Glance.{Glance}
use Rattle.wal.specs.Glances.{glance_of, IsGlanceBehind}
use Rattle.log_laws.specs.Records.{LogRecord, LogContent, history, base_lsn, record_at}
use Rattle.tables.specs.Pieces.{IsPieceOf}
use Rattle.tables.specs.Tables.{TablesContent}
use Rattle.redo.specs.Inputs.{InputContent, input_over}
use Rattle.redo.specs.Changes.{NamesBelow}
use Rattle.redo.specs.Routes.{NoteFault}
use Rattle.redo.specs.Counted.{AreCounted}
use Rattle.redo.specs.Passing.{TalliesSoFar, IsPieceFor, IsRecordFor}
use Rattle.redo.specs.Redone.{IsLookedAt, RedoFault}
use Rattle.redo.proofs.OneMore.{record_of_piece, refused_at}
use Rattle.passes.specs.Listing.{AreTalliedByAll}
use Rattle.passes.specs.Redoing.{AreTalliedUpTo}

-- BY TABLES: the record after an LSN is counted for its page, if redo looks at it and the page lacks it
module _ (whole : LogContent) (images : List Page) (tables : TablesContent) (lsn : ℕ) (glance : Glance) (r : LogRecord) (old : TalliesSoFar) (there : record_at (history whole) (lsn + 1) ≡ Some r) (seen : glance ≡ glance_of r)
    (before : AreTalliedUpTo whole images tables lsn old) where
  pub taken_next : (new : TalliesSoFar) → new.redo_lsn ≡ old.redo_lsn → new.upto ≤ lsn + 1
      → ((input : InputContent) → IsRecordFor input old.redo_lsn (lsn + 1) glance → AreCounted input lsn old.tallies → AreCounted input (lsn + 1) new.tallies)
      → ((x : LogRecord) → glance ≡ glance_of x → IsLookedAt old.redo_lsn (lsn + 1) → NamesBelow (length old.tallies) x) → AreTalliedUpTo whole images tables (lsn + 1) new
  taken_next new same upto goes_on exists = record {
    numbered = before.numbered;
    from = before.from ∙ sym same;
    upto = upto;
    tallied = goes_on (input_over whole images tables) (record { numbered = before.numbered; from = before.from; entry = r; there = there; seen_of = seen }) before.tallied;
    exist = λ k x looked less found.
        elim (cases_eq k (lsn + 1)) [
          | inl here ↦
              (let one : x ≡ r = same_Some x r (sym found ∙ (ap (record_at (history whole)) here ∙ there)) in
              subst (NamesBelow (length images)) (sym one)
              (subst (λ n. NamesBelow n r) before.tallied.redone.count (exists r seen (subst (λ n. IsLookedAt n (lsn + 1)) before.from (subst (IsLookedAt tables.redo_lsn) here looked)))))
          | inr other ↦ before.exist k x looked (omega (arith, less, other)) found
        ];
  }

  -- it is on a page that the store lacks, or refused
  pub stopped_next : (e : Fault) → IsLookedAt old.redo_lsn (lsn + 1) × ((x : LogRecord) → glance ≡ glance_of x → NoteFault (length old.tallies) (lsn + 1) x e) → RedoFault whole (length images) tables.redo_lsn 1 e
  stopped_next e cause =
      refused_at whole (length images) tables.redo_lsn (lsn + 1) r there before.exist e (subst (λ n. IsLookedAt n (lsn + 1)) (sym before.from) cause.0)
      (subst (λ n. NoteFault n (lsn + 1) r e) before.tallied.redone.count (cause.1 r seen))

-- BY TABLES THAT LIST EACH PAGE
module _ (whole piece : LogContent) (images : List Page) (lsn : ℕ) (glance : Glance) (old : TalliesSoFar) (own : IsPieceOf (history whole) (history piece)) (seen : IsGlanceBehind (history piece) lsn glance) (before : AreTalliedByAll whole images lsn old) where
  abbrev input : InputContent
  input = input_over whole images before.listed

  is_piece : IsPieceFor input old.redo_lsn piece
  is_piece = record { numbered = before.tallied.numbered; from = before.tallied.from; piece_of = own }

  is_next : IsRecordFor input old.redo_lsn (lsn + 1) glance
  is_next = record_of_piece input old.redo_lsn lsn glance piece is_piece seen

  pub tallied_next : (new : TalliesSoFar) → new.redo_lsn ≡ old.redo_lsn → new.upto ≤ lsn + 1
      → ((any : InputContent) → IsRecordFor any old.redo_lsn (lsn + 1) glance → AreCounted any lsn old.tallies → AreCounted any (lsn + 1) new.tallies)
      → ((x : LogRecord) → glance ≡ glance_of x → IsLookedAt old.redo_lsn (lsn + 1) → NamesBelow (length old.tallies) x) → AreTalliedByAll whole images (lsn + 1) new
  tallied_next new same upto goes_on exists = record {
    listed = before.listed;
    each = before.each;
    tallied = taken_next whole images before.listed lsn glance is_next.entry old is_next.there is_next.seen_of before.tallied new same upto goes_on exists;
  }

  pub refused_next : (e : Fault) → IsLookedAt old.redo_lsn (lsn + 1) × ((x : LogRecord) → glance ≡ glance_of x → NoteFault (length old.tallies) (lsn + 1) x e) → RedoFault whole (length images) (base_lsn (history whole) + 1) 1 e
  refused_next e cause =
      subst (λ n. RedoFault whole (length images) n 1 e) before.each.begins
      (stopped_next whole images before.listed lsn glance is_next.entry old is_next.there is_next.seen_of before.tallied e cause)
