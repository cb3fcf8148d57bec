use Rattle.std.proofs.Common.{rules, ◌++◌, take, ◌∙◌}
use Rattle.std.proofs.KnownBytes.{Appends-trans, Keeps-trans}
use Rattle.device.proofs.Pieces.{goes_on, stays_beginning}
use Rattle.device.proofs.transfer.write_all.Goals as goal

pub returns-in_err-count-clause-beginning : goal.returns-in_err-count-clause-beginning
returns-in_err-count-clause-beginning g c =
    let (done, split, taken) = c.loop-rest.invariant.2 in
    let all = stays_beginning _ _ _ _ done _ split taken c.in_err-count.ensures.bytes in
    search rules

pub loop-rest-preserved : goal.loop-rest-preserved
loop-rest-preserved g c =
    let (done, split, taken) = c.loop-rest.invariant.2 in
    let rest = c.loop-rest.rest.now in
    let count = c.in_ok-count.count in
    (c.in_ok-count.ensures.cause ∙ c.loop-rest.invariant.0, Keeps-trans _ _ _ c.loop-rest.invariant.1 c.in_ok-count.ensures.unflushed, (done ++ take count rest, goes_on _ done rest count split, Appends-trans _ _ _ done (take count rest) taken c.in_ok-count.ensures.bytes))
