use Rattle.std.proofs.Common.{◌≡◌, sym, ap, ◌∙◌, subst, length}
use Rattle.redo.specs.Passing.{TalliesSoFar, LastsAreWithin}
use Rattle.redo.specs.Wanted.{HoldAllBut, ShowFinished}
use Rattle.redo.proofs.Fetching.{finished_all}
use Rattle.redo.proofs.tally_scan.TallyScan.finish.Goals as goal

pub returns-clause-each : goal.returns-clause-each
returns-clause-each g c = λ whole rest images stored numbered held behind.
    let (shown, shows, all) = held in
    let old = c.args.self in
    let tallies = c.self.inside.tallies in
    let same : tallies ≡ old.tallies = ap (λ (s : TalliesSoFar). s.tallies) c.self.view_is in
    let lasts = subst (LastsAreWithin old.upto) (sym same) (subst (λ (s : TalliesSoFar). LastsAreWithin s.upto s.tallies) c.self.view_is c.self.invariant.lasts) in
    let stand = c.self.invariant.numbered in
    let (after, shows_after, have) = c.set_page_lsns.ensures.set stored shown shows in
    let count = sym all.count ∙ g.met.P.Pages.counted c.args.pages.now stored shown shows ∙ c.requires ∙ ap length (sym same) in
    subst (λ ts. ShowFinished g.P.Pages whole ts images stored c.set_page_lsns.new.pages) same
    (after, shows_after, finished_all whole tallies rest images shown after old.upto numbered stand lasts (subst (λ ts. HoldAllBut whole ts rest images shown) (sym same) all) behind count c.set_page_lsns.ensures.lasts have)
