use Rattle.std.proofs.Common.{◌≡◌, ◌<◌, None, length, get_or, replicate, sym, ◌∙◌, subst, inl, inr, arith}
use Rattle.std.proofs.lemmas.Bool.{cases_eq}
use Rattle.page.specs.declared.page.Page.{Page}
use Rattle.page.specs.declared.profile.TheConstants.{SLOTS}
use Rattle.redo.specs.Placed.{untouched}
use Rattle.redo.proofs.Fetching.{one_set}
use Rattle.changes.proofs.Numbered.{stay_more}
use Rattle.redo.proofs.fetch.set_page_lsns.Goals as goal

pub loop-number-preserved : goal.loop-number-preserved
loop-number-preserved g c =
    let pages = g.P.Pages in
    let tallies = c.args.tallies.now in
    let number = c.loop-number.number in
    let lt : number < length tallies = omega (arith, c.loop-number-test.true, c.len-number-end.ensures) in
    let any = untouched 0 0 None in
    let empty : Page = record { number = number; lsn = 0; slots = replicate SLOTS None } in (
      c.set_page_lsn.ensures.count ∙ c.loop-number.invariant.0,
      λ stored shown shows.
          let (after, shows_after, have) = c.loop-number.invariant.1 stored shown shows in (
            _,
            c.set_page_lsn.ensures.set stored after empty any shows_after,
            one_set tallies number any shown after empty lt (g.met.P.Pages.counted c.args.pages.now stored shown shows ∙ c.requires)
                (λ e. c.set_page_lsn.ensures.slots stored after e shows_after) have,
          ),
      λ k t le. elim (cases_eq k number) [
        | inl e ↦ subst (λ i. length (get_or tallies i t).lasts ≡ SLOTS) (sym e) (c.set_page_lsn.ensures.lasts t)
        | inr ne ↦ c.loop-number.invariant.2 k t (omega (arith, le, ne))
      ],
      stay_more pages c.args.pages.now c.loop-number.pages c.set_page_lsn.new.pages c.loop-number.invariant.3 c.set_page_lsn.ensures.numbered,
    )
