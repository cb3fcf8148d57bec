use Rattle.std.proofs.Common.{List, refl, sym, subst, inl, arith}
use Rattle.std.proofs.lemmas.Result.{err_from_is_err_and}
use Rattle.page.specs.Store.{StoreContent}
use Rattle.page.specs.File.{store_text}
use Rattle.changes.specs.Changes.{PageChange}
use Rattle.changes.specs.Pages.{ShowsChanges}
use Rattle.recovery.specs.Recovery.{Recovers, Recovered}
use Rattle.recovery.specs.ByPieces.{continued_log}
use Rattle.recovery.proofs.ByPieces.{store_same}
use Rattle.recovery.proofs.StoreAgain.{begun_shows}
use Rattle.recovery.proofs.by_pieces.make_from.Goals as goal

pub returns-in_err-changes-clause-lawful : goal.returns-in_err-changes-clause-lawful
returns-in_err-changes-clause-lawful g c = λ base text store bytes is are.
    let exit = err_from_is_err_and c.from_residual.result c.from_residual.ensures.1 in
    rw (exit.1, exit.2) (inl c.in_err-changes.ensures.err)

pub returns-in_err-log-clause-lawful : goal.returns-in_err-log-clause-lawful
returns-in_err-log-clause-lawful g c = λ base text store bytes is are.
    let exit = err_from_is_err_and c.from_residual-in_err-log.result c.from_residual-in_err-log.ensures.1 in
    let before = bytes.decoded.before in
    let shows = subst (λ (cs : List PageChange). ShowsChanges cs before.pages before.pages) (sym c.in_ok-changes.ensures.none) (begun_shows before.pages c.args.store.lsns.items bytes.decoded.spells.fits.pages are.lsns) in
    rw (exit.1, exit.2)
    (c.in_err-log.ensures.lawful base text bytes.decoded.read bytes.decoded.torn is bytes.decoded.reads before before.pages (sym are.master) bytes.decoded.spells.fits.numbered shows bytes.lawful)

pub returns-in_err-log-clause-fault : goal.returns-in_err-log-clause-fault
returns-in_err-log-clause-fault g c =
    let exit = err_from_is_err_and c.from_residual-in_err-log.result c.from_residual-in_err-log.ensures.1 in
    rw (exit.1, exit.2)
    (λ text store options is found range.
    let (before, spells, are) = found in
    let shows = subst (λ (cs : List PageChange). ShowsChanges cs before.pages before.pages) (sym c.in_ok-changes.ensures.none) (begun_shows before.pages c.args.store.lsns.items spells.fits.pages are.lsns) in
    c.in_err-log.ensures.fault text is before before.pages (sym are.master) spells.fits.numbered shows store options spells range)

pub returns-clause-lawful : goal.returns-clause-lawful
returns-clause-lawful g c = λ base text store bytes is are.
    let before = bytes.decoded.before in
    let read = bytes.decoded.read in
    let made = c.in_ok-log.log in
    let shows = subst (λ (cs : List PageChange). ShowsChanges cs before.pages before.pages) (sym c.in_ok-changes.ensures.none) (begun_shows before.pages c.args.store.lsns.items bytes.decoded.spells.fits.pages are.lsns) in
    let (after, shown, recovered) = c.in_ok-log.ensures.lawful base text read bytes.decoded.torn is bytes.decoded.reads before before.pages (sym are.master) bytes.decoded.spells.fits.numbered shows bytes.lawful in (
      after,
      shown,
      subst (λ (s : StoreContent). Recovered base read before (continued_log text made) (store_text s) made.report) (store_same before c.args.store.master after after (sym are.master) refl) recovered,
    )

pub returns-clause-answer : goal.returns-clause-answer
returns-clause-answer g c = λ text store before is spells are.
    let made = c.in_ok-log.log in
    let shows = subst (λ (cs : List PageChange). ShowsChanges cs before.pages before.pages) (sym c.in_ok-changes.ensures.none) (begun_shows before.pages c.args.store.lsns.items spells.fits.pages are.lsns) in
    let (after, shown, recovers) = c.in_ok-log.ensures.answer text is before before.pages (sym are.master) spells.fits.numbered shows store spells in (
      after,
      shown,
      subst (λ (s : StoreContent). Recovers text store (continued_log text made) (store_text s) made.report) (store_same before c.args.store.master after after (sym are.master) refl) recovers,
    )

pub returns-clause-few : goal.returns-clause-few
returns-clause-few g c = λ text found.
    let (before, spells, are) = found in
    let shows = subst (λ (cs : List PageChange). ShowsChanges cs before.pages before.pages) (sym c.in_ok-changes.ensures.none) (begun_shows before.pages c.args.store.lsns.items spells.fits.pages are.lsns) in
    let (after, shown, numbered) = c.in_ok-log.ensures.numbered before.pages before.pages shows spells.fits.numbered in
    omega (arith, numbered.few, shown.count, shown.changed.count)
