-- A log that is read for the first time, from its first mark to its end.
use Rattle.std.proofs.Common.{◌≡◌, ℕ, List, [], ◌∷◌, ◌++◌, ◌-◌, length, length-append, get_or, ap, ◌∙◌, arith}
use Rattle.std.proofs.Math.Seq.{get_or-append_seam}
use Rattle.log_laws.specs.Records.{LogContent, lsn_before, history, last_lsn, base_lsn}
use Rattle.wal.specs.Reads.{Reads}
use Rattle.wal.proofs.Whole.{one_reading}
use Rattle.log_laws.proofs.Histories.{base_of_log, size_of_log}
use Rattle.pieces.specs.declared.mark.Mark.{Mark}
use Rattle.pieces.specs.Pieces.{IsMark}
use Rattle.pieces.proofs.Beginnings.{same_start}
use Rattle.passes.proofs.ReadForward.{is_whole}

-- THE FIRST MARK of a log, before which there is no record, is at its base LSN
pub starts_at : (text : List ℕ) (whole before : LogContent) (torn : ℕ) (mark : Mark) → Reads text whole torn → before.records ≡ [] → IsMark text before mark → base_lsn (history whole) ≡ mark.lsn
starts_at text whole before torn mark reads none is =
    let starts = same_start text whole torn reads before mark.offset is.reads in
    omega (arith, is.lsn, size_of_log before, ap (λ rs. length rs) none, base_of_log whole, ap lsn_before starts)

-- THE LAST MARK of a list with one more
pub last_pushed : (marks : List Mark) (next d : Mark) → get_or (marks ++ next ∷ []) (length (marks ++ next ∷ []) - 1) d ≡ next
last_pushed marks next d =
    ap (λ n. get_or (marks ++ next ∷ []) n d) (omega (arith, length-append marks (next ∷ []))) ∙ get_or-append_seam marks next [] d

-- THE END: if no record comes after a mark, the whole log is before it
pub at_end : (text : List ℕ) (whole before after : LogContent) (torn left : ℕ) (mark next : Mark) → Reads text whole torn → IsMark text before mark → Reads text before left → IsMark text after next → next.lsn ≡ mark.lsn → after ≡ whole
at_end text whole before after torn left mark next reads is all is_after same =
    let own : before ≡ whole = (one_reading text before whole left torn all reads).0 in
    let last : next.lsn ≡ last_lsn (history whole) = same ∙ is.lsn ∙ ap (λ l. last_lsn (history l)) own in
    is_whole text whole after torn next reads is_after (omega (arith, last))
