use Rattle.std.proofs.Common.{◌∙◌}
use Rattle.clap.proofs.WalkLemmas.{one_text-rows}
use Rattle.clap.specs.Words.{found_of}
use Rattle.words.proofs.Parses.{flag_read}
use Rattle.words.proofs.flag.flag_of.Goals as goal

pub returns : goal.returns
returns c =
    let text = one_text-rows (found_of c.args.matches.now) c.args.name.now in
    flag_read _ _ _ _ c.unwrap_or.ensures (λ none. c.get_one.ensures.none (text ∙ none)) (λ t some. c.get_one.ensures.value t (text ∙ some))
