use Rattle.std.proofs.Common.{◌≡◌, ◌++◌, length, take, codes}
use Rattle.std.specs.List.{flat_map}
use Rattle.recovery.specs.Text.{line}
use Rattle.recovery.proofs.report.put_in_doubt.Given as goal

abbrev pub invariant-loop-number : goal.invariant-loop-number
invariant-loop-number l =
    l.text.items ≡ l.fn.text.items ++ (line (codes "in-doubt") (length l.numbers) ++ flat_map (λ n. line (codes "transaction") n) (take l.number-index l.numbers))
