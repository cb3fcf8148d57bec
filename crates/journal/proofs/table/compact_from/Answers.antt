use Rattle.std.proofs.Common.{◌≡◌, ◌+◌, ◌-◌, ◌≤◌, ◌++◌, ℕ, List, length, get_or, take, drop, sym, ap, ◌∙◌, arith, length-drop, take_all}
use Rattle.std.specs.Prelude.{filter}
use Rattle.std.proofs.lemmas.List.{take-append-le, length-take-le, get_or-drop}
use Rattle.std.proofs.Math.Seq.{take-append-add}
use borrow.Rule.Slice.PartMut.{post_of}
use Rattle.journal.specs.declared.entries.PendingEntry.{PendingEntry}
use Rattle.journal.specs.declared.entries.TransactionEntry.{TransactionEntry}
use Rattle.journal.specs.Arrays.{is_live}
use Rattle.journal.proofs.table.compact_from.Goals as goal

pub returns-clause-kept : goal.returns-clause-kept
returns-clause-kept c = λ table dead.
    let es : List TransactionEntry = c.args.entries.now in
    let xs : List PendingEntry = c.args.pending.now in
    let i : ℕ = c.args.dead in
    let r : ℕ = c.compact.result in
    let left : List PendingEntry = c.compact.new.pending in
    let post : List PendingEntry = post_of i (length xs - i) xs in
    let whole : take (length xs - i) (drop i xs) ≡ drop i xs = take_all (length xs - i) (drop i xs) (omega (arith, length-drop i xs)) in
    let here : i + 0 ≡ i = omega arith in
    let first = λ (d : PendingEntry). ap (λ (ys : List PendingEntry). is_live es (get_or ys 0 d)) whole ∙ ap (is_live es) (get_or-drop i xs 0 d ∙ ap (λ n. get_or xs n d) here) ∙ dead d in
    let kept : take r left ≡ filter (is_live es) (drop i xs) = c.compact.ensures.kept table first ∙ ap (filter (is_live es)) whole in
    let few : r ≤ length left = omega (arith, c.compact.ensures.within, c.compact.auto.pending) in
    let front : length (take i xs) ≡ i = length-take-le i xs (omega (arith, c.requires)) in
    ap (λ n. take (n + r) (take i xs ++ (left ++ post))) (sym front) ∙ take-append-add (take i xs) (left ++ post) r
    ∙ ap (λ (ys : List PendingEntry). take i xs ++ ys) (take-append-le r left post few ∙ kept)
