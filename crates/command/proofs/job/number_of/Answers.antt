use Rattle.std.proofs.Common.{◌≡◌, ◌∙◌, ap, arith}
use Rattle.std.specs.Prelude.{decimal, unwrap_or}
use Rattle.std.specs.Str.Parse.{ParsesUnsigned, ExplainsUnsignedError, HasUnsignedDigitsIfOk}
use Rattle.clap.proofs.WalkLemmas.{one_text-rows}
use Rattle.clap.specs.Words.{found_of}
use Rattle.words.proofs.Parses.{digits_read}
use Rattle.command.proofs.job.number_of.Goals as goal

pub returns-clause-given : goal.returns-clause-given
returns-clause-given c n low high is =
    let text = one_text-rows (found_of c.args.matches.now) c.args.name.now ∙ is in
    let one = digits_read 32 _ (λ bs r. ParsesUnsigned 32 10 bs r × ExplainsUnsignedError 10 bs r × HasUnsignedDigitsIfOk bs r) n c.get_one.result
    (c.get_one.ensures.value (decimal n) text) (λ text x h. h.0) (omega arith) (omega arith) in
    let number : c.unwrap_or.result ≡ n = c.unwrap_or.ensures ∙ ap (λ o. unwrap_or o c.args.default) one in
    omega arith
