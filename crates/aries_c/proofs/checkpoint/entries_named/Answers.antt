use Rattle.std.proofs.Common.{◌∙◌, ap, arith, inr, map}
use Rattle.std.proofs.lemmas.List.{map-append}
use Rattle.std.proofs.lemmas.Result.{err_from_is_err_and}
use Rattle.wal.specs.Content.{entry_of}
use Rattle.aries_c.specs.Tables.{told_entry}
use Rattle.aries_c.proofs.Places.{named_more, none_named}
use Rattle.aries_c.proofs.checkpoint.entries_named.Goals as goal

pub returns-in_err-one-clause-err : goal.returns-in_err-one-clause-err
returns-in_err-one-clause-err c =
    let exit = err_from_is_err_and c.from_residual-in_err-one.result c.from_residual-in_err-one.ensures.1 in
    rw (exit.1, exit.2)
    (inr (c.in_err-one.ensures.err, none_named told_entry c.args.entries.now c.loop-entry.entry-index _ (omega arith) c.in_err-one.ensures.only))

pub loop-entry-preserved : goal.loop-entry-preserved
loop-entry-preserved c =
    named_more told_entry (map entry_of c.loop-entry.named.items) (map entry_of c.push.new.self.items) (entry_of c.in_ok-one.one) c.args.entries.now c.loop-entry.entry-index _ (omega arith)
    (ap (map entry_of) c.in_ok-push.ensures.items ∙ map-append entry_of c.loop-entry.named.items _) c.loop-entry.invariant c.in_ok-one.ensures.found
