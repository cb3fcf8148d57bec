use Rattle.std.proofs.Common.{◌≡◌, All, drop, sym, subst, arith}
use Rattle.std.proofs.lemmas.List.Elements.{Contains-get_or}
use Rattle.std.proofs.lemmas.Result.{err_from_is_err_and}
use Rattle.log_laws.specs.Records.{history}
use Rattle.redo.specs.Wanted.{IsWanted, HoldAllBut, ShowAllBut}
use Rattle.changes.proofs.Numbered.{stay_more}
use Rattle.passes.proofs.repeat.finish_in_pieces.Goals as goal

pub returns-in_err-fetch_in_pieces-clause-fault : goal.returns-in_err-fetch_in_pieces-clause-fault
returns-in_err-fetch_in_pieces-clause-fault g c =
    let exit = err_from_is_err_and c.from_residual-in_err-fetch_in_pieces.result c.from_residual-in_err-fetch_in_pieces.ensures.1 in
    rw (exit.1, exit.2)
    (λ text whole torn is reads marks reach within. c.in_err-fetch_in_pieces.ensures.fault text whole torn is reads marks reach (omega (arith, within, c.upto.ensures)))

pub returns-clause-each : goal.returns-clause-each
returns-clause-each g c = λ text whole torn is reads marks stored images numbered shows.
    let tallies = c.args.scan.tallies in
    let found = c.in_ok-wanted.ensures in
    let fetched = c.in_ok-fetch_in_pieces.ensures in
    let lent = c.deref.result.now in
    let same : lent ≡ c.in_ok-wanted.wanted.items = c.deref.ensures.value in
    let are : All (IsWanted tallies) lent =
    subst (λ ws. All (IsWanted tallies) ws) (sym same) (λ k d less. (found.each _).0 (Contains-get_or c.in_ok-wanted.wanted.items k d less)) in
    let begun : ShowAllBut g.P.Pages (history whole) tallies lent images stored c.reserve.new.self =
    (images, c.reserve.ensures.same stored images shows, subst (λ ws. HoldAllBut (history whole) tallies ws images images) (sym same) (found.begun (history whole) images)) in
    c.finish.ensures.each (history whole) (drop c.in_ok-fetch_in_pieces.field-0 lent) images stored numbered
    (fetched.fetched text whole torn is reads marks tallies images stored are begun)
    (λ k d less. omega (arith, fetched.rest k d less, c.upto.ensures))

pub returns-clause-numbered : goal.returns-clause-numbered
returns-clause-numbered g c =
    stay_more g.P.Pages c.args.pages.now c.fetch_in_pieces.new.pages c.finish.new.pages
    (λ stored given shows are. c.in_ok-fetch_in_pieces.ensures.numbered stored given (c.reserve.ensures.same stored given shows) are) c.finish.ensures.numbered
