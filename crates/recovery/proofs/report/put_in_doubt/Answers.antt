use Rattle.std.proofs.Common.{◌≡◌, ◌++◌, ◌<◌, ◌+◌, ℕ, length, get_or, take, List, [], ◌∷◌, codes, sym, ap, ◌∙◌, append_assoc, append-nil}
use Rattle.std.specs.List.{flat_map}
use Rattle.std.proofs.lemmas.Grind.{flat_map-append}
use Rattle.std.proofs.lemmas.List.{take_more}
use Rattle.recovery.specs.Text.{line}
use Rattle.recovery.proofs.report.put_in_doubt.Goals as goal

-- the text for the numbers up to a place, and for one more number
one_more : (f : ℕ → List ℕ) (old front text new numbers : List ℕ) (i : ℕ) → i < length numbers
    → text ≡ old ++ (front ++ flat_map f (take i numbers)) → new ≡ text ++ f (get_or numbers i 0) → new ≡ old ++ (front ++ flat_map f (take (i + 1) numbers))
one_more f old front text new numbers i lt before more =
    let n = get_or numbers i 0 in
    let so_far = flat_map f (take i numbers) in
    let step : flat_map f (take (i + 1) numbers) ≡ so_far ++ f n =
    ap (flat_map f) (take_more numbers i 0 lt) ∙ flat_map-append f (take i numbers) (n ∷ []) ∙ ap (λ xs. so_far ++ xs) (append-nil (f n)) in
    more ∙ ap (λ t. t ++ f n) before ∙ append_assoc old (front ++ so_far) (f n) ∙ ap (λ xs. old ++ xs) (append_assoc front so_far (f n)) ∙ ap (λ xs. old ++ (front ++ xs)) (sym step)

pub loop-number-preserved : goal.loop-number-preserved
loop-number-preserved c =
    one_more (λ n. line (codes "transaction") n) c.args.text.now.items (line (codes "in-doubt") (length c.args.numbers.now)) c.loop-number.text.items c.put_line-in-loop-number.new.text.items
    c.args.numbers.now c.loop-number.number-index c.loop-number-test.true c.loop-number.invariant c.in_ok-put_line-2.ensures
