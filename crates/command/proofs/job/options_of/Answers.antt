use Rattle.std.proofs.Common.{◌≡◌, ◌∙◌, Bool, true, false, Option, Some, None, IsTrue, codes, sym, refl}
use Rattle.std.specs.Prelude.{◌↔◌, is_some, not, option_map}
use Rattle.clap.proofs.WalkLemmas.{first_value-rows}
use Rattle.clap.specs.Words.{found_of}
use Rattle.command.proofs.job.options_of.Goals as goal

-- a value that is not there, found by a test
left_out : {A B : Type 0} (f : A → B) (value : Option A) (first : Option B) (test : Bool) → is_some value ≡ not test → option_map f value ≡ first → IsTrue test ↔ (first ≡ None)
left_out f None first true tested is = (λ _. sym is, λ _. refl)
left_out f None first false tested is = absurd cc
left_out f (Some x) first true tested is = absurd cc
left_out f (Some x) first false tested is = (λ h. absurd cc, λ none. absurd (let both : Some (f x) ≡ None = is ∙ none in cc))

pub returns-clause-given : goal.returns-clause-given
returns-clause-given c = (
  c.number_of.ensures.given,
  left_out (λ s. s.now) c.get_str.result _ c.is_none.result c.is_none.ensures (c.get_str.ensures ∙ first_value-rows (found_of c.args.matches.now) (codes "workers")),
  c.number_of-2.ensures.given,
)
