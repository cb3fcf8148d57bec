use Rattle.std.proofs.Common.{◌∙◌, ap, sym, List, ℕ, Some}
use Rattle.clap.proofs.WalkLemmas.{first_value-rows}
use Rattle.clap.specs.Words.{found_of}
use Rattle.command.proofs.job.given_file.Goals as goal

pub returns-in_ok-from_str-in-Some-clause-given : goal.returns-in_ok-from_str-in-Some-clause-given
returns-in_ok-from_str-in-Some-clause-given c =
    sym (first_value-rows (found_of c.args.matches.now) c.args.name.now) ∙ sym c.in-Some.ensures
    ∙ ap (λ (t : List ℕ). Some t) (sym c.in_ok-from_str-in-Some.ensures.ok)

pub returns-in-None-clause-given : goal.returns-in-None-clause-given
returns-in-None-clause-given c = sym (first_value-rows (found_of c.args.matches.now) c.args.name.now) ∙ sym c.in-None.ensures
