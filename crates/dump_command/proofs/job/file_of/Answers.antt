use Rattle.std.proofs.Common.{◌≡◌, ◌∙◌, ap, sym, true≢false, codes, List, ℕ, Some, None, is_some}
use Rattle.clap.proofs.WalkLemmas.{first_value-rows}
use Rattle.clap.specs.Words.{first_of, found_of, rows_of}
use Rattle.dump_command.proofs.job.file_of.Goals as goal

pub returns-in_ok-from_str-in-Some-clause-given : goal.returns-in_ok-from_str-in-Some-clause-given
returns-in_ok-from_str-in-Some-clause-given c =
    sym (first_value-rows (found_of c.args.matches.now) (codes "FILE")) ∙ sym c.in-Some.ensures
    ∙ ap (λ (t : List ℕ). Some t) (sym c.in_ok-from_str-in-Some.ensures.ok)

pub returns-in_ok-error-in-None-clause-refused : goal.returns-in_ok-error-in-None-clause-refused
returns-in_ok-error-in-None-clause-refused c given =
    let none : first_of (codes "FILE") (rows_of (found_of c.args.matches.now)) ≡ None =
    sym (first_value-rows (found_of c.args.matches.now) (codes "FILE")) ∙ sym c.in-None.ensures in
    absurd (true≢false (sym given ∙ ap is_some none))
