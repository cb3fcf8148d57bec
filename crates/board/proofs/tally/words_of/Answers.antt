use Rattle.std.proofs.Common.{◌≡◌, ℕ, ◌+◌, ◌<◌, ◌≤◌, List, length, set, take, slice_index, sym, ◌∙◌, subst, arith, length-set, length-take, get_or-set_same, get_or-set_other, get_or-take, ext_get_or}
use mathlib.Core.Logic.{dite}
use mathlib.Core.Option.{some}
use native.Mathlib.Decide.{ℕ_discrete}
use lib.ListN.{get_elem?}
use Rattle.std.specs.Slots.{slots_items}
use Rattle.board.proofs.Seats.{read_word}
use Rattle.board.specs.declared.sizes.TheConstants.{SEATS}
use Rattle.board.proofs.tally.words_of.Goals as goal

one_more : (ws xs : List ℕ) (i x : ℕ) → length ws ≡ SEATS → i < SEATS → get_elem? xs i ≡ some x → ((r : ℕ) → r < i → slice_index ws r ≡ slice_index xs r) → (r : ℕ) → r < i + 1 → slice_index (set ws i x) r ≡ slice_index xs r
one_more ws xs i x long few e same r h = dite (ℕ_discrete r i)
    (λ at. subst (λ (z : ℕ). slice_index (set ws i x) z ≡ slice_index xs z) (sym at) (get_or-set_same ws i x 0 (omega arith) ∙ sym (read_word xs i x e)))
    (λ ne. get_or-set_other ws i r x 0 ne ∙ same r (omega arith))

pub loop-range-preserved : goal.loop-range-preserved
loop-range-preserved c = (
  length-set c.loop-range.words c.loop-range.range c.word.result ∙ c.loop-range.invariant.0,
  one_more c.loop-range.words (slots_items c.args.closed.now.words) c.loop-range.range c.word.result c.loop-range.invariant.0 (omega (arith, c.requires.ranges)) c.word.ensures c.loop-range.invariant.1,
)

all_of : (ws xs : List ℕ) (n : ℕ) → length ws ≡ SEATS → n ≤ SEATS → length xs ≡ n + 1 → ((r : ℕ) → r < n → slice_index ws r ≡ slice_index xs r) → take n ws ≡ take n xs
all_of ws xs n long few count same =
    let a = length-take n ws in
    let b = length-take n xs in
    ext_get_or 0 (take n ws) (take n xs) (omega arith) (λ i h. let b : i < n = omega arith in get_or-take n ws i 0 b ∙ (same i b ∙ sym (get_or-take n xs i 0 b)))

pub returns : goal.returns
returns c =
    let counts = c.args.closed.now.words.ok.0 in
    let n : c.loop-range.range ≡ c.args.ranges = omega arith in
    all_of c.loop-range.words (slots_items c.args.closed.now.words) c.args.ranges c.loop-range.invariant.0 c.requires.ranges.1 (sym counts ∙ c.requires.ranges.0) (λ r h. c.loop-range.invariant.1 r (omega arith))
