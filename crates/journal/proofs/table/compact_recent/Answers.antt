use Rattle.std.proofs.Common.{◌≡◌, ◌+◌, ◌-◌, ℕ, List, length, get_or, take, drop, sym, ap, ◌∙◌, arith, inr, length-drop, take_all}
use Rattle.std.proofs.lemmas.List.{get_or-drop}
use Rattle.journal.specs.declared.entries.PendingEntry.{PendingEntry}
use Rattle.journal.specs.declared.entries.TransactionEntry.{TransactionEntry}
use Rattle.journal.specs.Arrays.{is_live, left_from}
use Rattle.journal.proofs.table.compact_recent.Goals as goal

pub returns-in-Some-first_dead-clause-kept : goal.returns-in-Some-first_dead-clause-kept
returns-in-Some-first_dead-clause-kept c = λ table.
    let es : List TransactionEntry = c.args.entries.now in
    let xs : List PendingEntry = c.args.pending.now in
    let from : ℕ = c.in-Some.from in
    let k : ℕ = c.in-Some-first_dead.dead in
    let recent : List PendingEntry = take (length xs - from) (drop from xs) in
    let whole : recent ≡ drop from xs = take_all (length xs - from) (drop from xs) (omega (arith, length-drop from xs)) in
    let at = λ (d : PendingEntry). ap (is_live es) (sym (ap (λ (ys : List PendingEntry). get_or ys k d) whole ∙ get_or-drop from xs k d)) ∙ c.in-Some-first_dead.ensures.dead table d in
    let all : take (length xs) xs ≡ xs = take_all (length xs) xs (omega arith) in
    inr (from + k, c.compact_from.ensures.kept table at ∙ ap (left_from es (from + k)) (sym all))
