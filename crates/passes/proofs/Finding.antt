-- The marks of a log while it is read from its beginning.
use Rattle.std.proofs.Common.{◌≡◌, ℕ, ◌+◌, ◌<◌, ◌≤◌, List, [], ◌∷◌, Option, Some, length, take, drop, get_or, sym, ap, ◌∙◌, subst, inl, inr, arith}
use Rattle.std.proofs.lemmas.Bool.{cases_lt}
use Rattle.std.proofs.lemmas.List.{take_all}
use Rattle.device.specs.Reread.{EndsBy, ReadsFrom}
use Rattle.log_laws.specs.Records.{LogContent}
use Rattle.wal.specs.Reads.{Reads}
use Rattle.pieces.specs.declared.mark.Mark.{Mark}
use Rattle.pieces.specs.Pieces.{IsFirstMark}
use Rattle.passes.specs.Marks.{AreFound, AreInReach}
use Rattle.passes.specs.ReadOn.{AreMarksTo, KeepsMarks}
use Rattle.passes.proofs.FirstReading.{starts_at}
use Rattle.passes.proofs.Reached.{told}
use Rattle.passes.proofs.ReadOn.{reach_first}
use Rattle.wal.specs.declared.sizes.TheConstants.{BASED_HEADER_BYTES}

-- THE FIRST BYTES
-- fewer than 16 were read only if there are no more
pub first_bytes : (held : Option (List ℕ)) (text buffer : List ℕ) (count : ℕ) → held ≡ Some text → ReadsFrom held 0 count buffer → (count < BASED_HEADER_BYTES → EndsBy held (0 + count)) → count ≤ BASED_HEADER_BYTES → take count buffer ≡ take BASED_HEADER_BYTES text
first_bytes held text buffer count is reads ends le =
    let same : take count buffer ≡ take count text = told held text (λ t. take count buffer ≡ take count (drop 0 t)) is reads in
    same
    ∙ elim (cases_lt count BASED_HEADER_BYTES) [
      | inl less ↦
          (let short : length text ≤ 0 + count = told held text (λ t. length t ≤ 0 + count) is (ends less) in
          take_all count text (omega (arith, short)) ∙ sym (take_all BASED_HEADER_BYTES text (omega (arith, short, less))))
      | inr all ↦ (let here : count ≡ BASED_HEADER_BYTES = omega (arith, all, le) in ap (λ n. take n text) here)
    ]

-- THE END: the log ends at the last mark
pub found_at_end : (text : List ℕ) (size torn : ℕ) (first : Mark) (marks now : List Mark) (whole : LogContent) → marks ≡ first ∷ [] → IsFirstMark text first → KeepsMarks size marks now → AreMarksTo text now whole → Reads text whole torn → AreFound text size now torn
found_at_end text size torn first marks now whole one begins kept marked reads = record {
  whole = whole;
  reads = reads;
  are = record {
    each = marked.each;
    first = λ d. ap (λ (m : Mark). m.lsn) (kept.first d ∙ ap (λ ms. get_or ms 0 d) one) ∙ sym (starts_at text whole begins.0 torn first reads begins.1 begins.2);
    last = λ d. (marked.last d).lsn;
  };
  reach = kept.reach size (omega arith) (subst (AreInReach size) (sym one) (reach_first size first));
}
