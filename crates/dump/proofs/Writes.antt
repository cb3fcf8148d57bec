-- Texts written into a buffer, each after those before it.
use Rattle.std.proofs.Common.{ℕ, suc, ◌≡◌, ◌+◌, ◌-◌, ◌<◌, ◌≤◌, List, slice_index, ◌++◌, length, get_or, take, drop, sym, ap, ap₂, ◌∙◌, take_at, arith, append_assoc}
use Rattle.std.proofs.Math.Seq.{take-add}
use Rattle.std.specs.List.{flat_map}
use borrow.Rule.Slice.PartMut.{put_mid}
use Rattle.page.proofs.Writing.{written_in_front}
use Rattle.dump.specs.declared.style.Style.{Style}
use Rattle.dump.specs.Values.{escaped, IsEscape}
use Rattle.dump.proofs.Texts.{flat_map_more}

-- a text is written before an end, and nothing before it changes
pub written_before : (old new text rest : List ℕ) (at start n : ℕ) → start ≡ at → length text ≡ n → take start new ≡ take start old → drop start new ≡ text ++ rest → take (at + n) new ≡ take at old ++ text
written_before old new text rest at start n same size before after =
    ap (λ m. take (m + n) new) (sym same) ∙ take-add start n new
    ∙ ap₂ (λ x y. x ++ y) before (ap (take n) after ∙ take_at text rest n size)
    ∙ ap (λ m. take m old ++ text) same

-- what one more byte is, written after what the bytes before it are
pub escaped_more : (style : Style) (end k : ℕ) (line entry text front bytes : List ℕ) (i : ℕ) → IsEscape style (get_or bytes i 0) entry → text ≡ entry → length text ≡ 8
    → end ≤ length line → take end line ≡ front ++ flat_map (escaped style) (take i bytes) → i < length bytes
    → take (end + (slice_index entry 7 - 48)) (put_mid end k line text) ≡ front ++ flat_map (escaped style) (take (suc i) bytes)
escaped_more style end k line entry text front bytes i is text_is long fits so_far lt =
    let before = flat_map (escaped style) (take i bytes) in
    let count = slice_index entry 7 - 48 in
    written_in_front end k count line text _ so_far fits (omega (arith, is.short))
    ∙ ap (λ t. (front ++ before) ++ t) (ap (take count) text_is ∙ is.text)
    ∙ append_assoc front before (escaped style (get_or bytes i 0)) ∙ ap (λ t. front ++ t) (sym (flat_map_more (escaped style) bytes i 0 lt))
