use Rattle.std.proofs.Common.{◌≡◌, ◌++◌, List, ℕ, length, ap, arith, length-take}
use Rattle.std.proofs.lemmas.Result.{IfOk-weaker, on_ok_weaker}
use Rattle.recovery.specs.StoreChanges.{AreDecodedLsns, AreLsnsBehind}
use Rattle.page.specs.declared.sizes.TheConstants.{STORE_HEADER_BYTES}
use Rattle.recovery.proofs.Rewritten.{gave_behind}
use Rattle.recovery.proofs.StoreAgain.{all_read}
use Rattle.recovery.proofs.store_changes.read_lsns.Goals as goal

pub returns-clause-read : goal.returns-clause-read
returns-clause-read g c =
    let header : List ℕ = c.begin-reader.result in
    let size : length header ≡ c.in_ok-count.count = omega (arith, ap (λ (l : List ℕ). length l) c.begin-reader.ensures, length-take c.in_ok-count.count c.read_from.new.buffer, c.in_ok-count.ensures.within) in
    IfOk-weaker c.read_lsns_behind.result (AreLsnsBehind header (g.R.Reread.text c.read_from.new.source)) (AreDecodedLsns (g.R.Reread.text c.args.source.now)) (λ found (behind, rest, decodes). (header ++ behind, gave_behind (g.R.Reread.text c.args.source.now) (g.R.Reread.text c.read_from.new.source) header behind c.read_from.new.buffer c.in_ok-count.count c.in_ok-count.ensures.same c.begin-reader.ensures size c.in_ok-count.ensures.bytes rest, decodes)) c.read_lsns_behind.ensures.read

pub returns-clause-end : goal.returns-clause-end
returns-clause-end g c =
    on_ok_weaker c.read_lsns_behind.result (λ ends.
    all_read (g.R.Reread.text c.args.source.now) (g.R.Reread.text c.read_from.new.source) _ _ _ STORE_HEADER_BYTES c.in_ok-count.count c.in_ok-count.ensures.same c.in_ok-count.ensures.joins (omega (arith, c.if-count-lt-STORE_HEADER_BYTES.false)) ends) c.read_lsns_behind.ensures.end
