use Rattle.std.proofs.Common.{◌≡◌, ◌+◌, ◌-◌, ◌++◌, ℕ, suc, List, length, take, drop, sym, ap, ap₂, ◌∙◌, arith, length-append, append_assoc, length-drop}
use Rattle.std.proofs.lemmas.List.{take_at, take-take, drop-drop, length-take-le}
use Rattle.std.proofs.lemmas.Slice.{between_is}
use borrow.Rule.Slice.PartMut.{post_of}
use Rattle.journal.specs.declared.entries.TransactionEntry.{TransactionEntry}
use Rattle.journal.proofs.table.finish.Goals as goal

pub returns : goal.returns
returns c =
    let ts : List TransactionEntry = c.args.transactions.now in
    let i : ℕ = c.args.place in
    let n : ℕ = c.args.count in
    let sub : List TransactionEntry = drop i (take n ts) in
    let rest : List TransactionEntry = drop 1 sub in
    let post : List TransactionEntry = post_of i (n - i) ts in
    let rotated : c.rotate_left.new.self ≡ rest ++ take 1 sub = c.rotate_left.ensures.after ∙ ap (λ (xs : List TransactionEntry). drop 1 xs ++ take 1 xs) (between_is ts i n) in
    let size : length (take n ts) ≡ n = length-take-le n ts c.requires.count in
    let front : length (take i ts) ≡ i = length-take-le i ts (omega (arith, c.requires.place, c.requires.count)) in
    let whole : length (take i ts ++ rest) ≡ n - 1 = omega (arith, length-append (take i ts) rest, front, length-drop 1 sub, length-drop i (take n ts), size, c.requires.place) in
    let parted : take i ts ++ ((rest ++ take 1 sub) ++ post) ≡ (take i ts ++ rest) ++ (take 1 sub ++ post) =
    ap (λ (xs : List TransactionEntry). take i ts ++ xs) (append_assoc rest (take 1 sub) post) ∙ sym (append_assoc (take i ts) rest (take 1 sub ++ post)) in
    let one : i + 1 ≡ suc i = omega arith in
    ap (λ (xs : List TransactionEntry). take (n - 1) (take i ts ++ (xs ++ post))) rotated
    ∙ ap (take (n - 1)) parted
    ∙ take_at (take i ts ++ rest) (take 1 sub ++ post) (n - 1) whole
    ∙ ap₂ (λ (xs ys : List TransactionEntry). xs ++ ys) (sym (take-take i n ts (omega (arith, c.requires.place)))) (drop-drop 1 i (take n ts) ∙ ap (λ k. drop k (take n ts)) one)
