use Rattle.std.proofs.Common.{◌∙◌, arith}
use Rattle.std.specs.Prelude.{decimal}
use Rattle.std.specs.Str.Parse.{ParsesUnsigned, ExplainsUnsignedError, HasUnsignedDigitsIfOk}
use Rattle.clap.proofs.WalkLemmas.{one_text-rows}
use Rattle.clap.specs.Words.{found_of}
use Rattle.words.proofs.Parses.{digits_read}
use Rattle.dump_command.proofs.job.lsn_of.Goals as goal

pub returns : goal.returns
returns c =
    let text = one_text-rows (found_of c.args.matches.now) c.args.name.now in
    record {
      none = λ is. c.get_one.ensures.none (text ∙ is);
      some = λ given fits is. digits_read 64 _ (λ bs r. ParsesUnsigned 64 10 bs r × ExplainsUnsignedError 10 bs r × HasUnsignedDigitsIfOk bs r) given c.get_one.result
          (c.get_one.ensures.value (decimal given) (text ∙ is)) (λ text x h. h.0) fits (omega (arith, fits));
    }
