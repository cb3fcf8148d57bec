use Rattle.std.proofs.Common.{◌≡◌, ◌+◌, ◌-◌, ◌++◌, ◌∷◌, [], ℕ, List, length, take, drop, set, get_or, refl, sym, ap, ap₂, ◌∙◌, arith, length-append, append_assoc, length-drop}
use Rattle.std.specs.List.{between}
use Rattle.std.proofs.lemmas.List.{take_at, take-take, drop-append-le, drop_at, take_more, length-take-le, set_at}
use Rattle.std.proofs.lemmas.Slice.{between_is}
use borrow.Rule.Slice.PartMut.{post_of}
use Rattle.journal.specs.declared.entries.TransactionEntry.{TransactionEntry}
use Rattle.journal.specs.Scan.{fresh}
use Rattle.journal.proofs.reopening.put_in.Goals as goal

abbrev pub blank : TransactionEntry
blank = record { last = 0; undo_next = 0; below = 0; tx = 0; state = 0 }

pub returns : goal.returns
returns c =
    let ts : List TransactionEntry = c.args.transactions.now in
    let i : ℕ = c.args.place in
    let n : ℕ = c.args.count in
    let x : TransactionEntry = get_or ts n blank in
    let rest : List TransactionEntry = drop i (take n ts) in
    let post : List TransactionEntry = post_of i ((n + 1) - i) ts in
    let one : take (n + 1) ts ≡ take n ts ++ x ∷ [] = take_more ts n blank c.requires.count in
    let size : length (take n ts) ≡ n = length-take-le n ts (omega (arith, c.requires.count)) in
    let sub : between i (n + 1) ts ≡ rest ++ x ∷ [] = between_is ts i (n + 1) ∙ ap (drop i) one ∙ drop-append-le i (take n ts) (x ∷ []) (omega (arith, size, c.requires.place)) in
    let rest_size : length rest ≡ n - i = omega (arith, length-drop i (take n ts), size) in
    let last : length (rest ++ x ∷ []) - 1 ≡ length rest = omega (arith, length-append rest (x ∷ [])) in
    let rotated : c.rotate_right.new.self ≡ x ∷ rest =
    c.rotate_right.ensures.after ∙ ap (λ (xs : List TransactionEntry). drop (length xs - 1) xs ++ take (length xs - 1) xs) sub
    ∙ ap₂ (λ (ys zs : List TransactionEntry). ys ++ zs) (ap (λ k. drop k (rest ++ x ∷ [])) last ∙ drop_at rest (x ∷ []) (length rest) refl) (ap (λ k. take k (rest ++ x ∷ [])) last ∙ take_at rest (x ∷ []) (length rest) refl) in
    let front : length (take i ts) ≡ i = length-take-le i ts (omega (arith, c.requires.place, c.requires.count)) in
    let e : TransactionEntry = fresh c.args.tx in
    let whole : length (take i ts ++ (e ∷ rest)) ≡ n + 1 = omega (arith, length-append (take i ts) (e ∷ rest), front, rest_size, c.requires.place) in
    ap (λ (ys : List TransactionEntry). take (n + 1) (set (take i ts ++ (ys ++ post)) i e)) rotated
    ∙ ap (take (n + 1)) (set_at (take i ts) x (rest ++ post) e i front)
    ∙ ap (take (n + 1)) (sym (append_assoc (take i ts) (e ∷ rest) post))
    ∙ take_at (take i ts ++ (e ∷ rest)) post (n + 1) whole
    ∙ ap (λ (ys : List TransactionEntry). ys ++ (e ∷ rest)) (sym (take-take i n ts c.requires.place))
