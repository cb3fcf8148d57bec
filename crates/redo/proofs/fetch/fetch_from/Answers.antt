use Rattle.std.proofs.Common.{◌≡◌, ◌+◌, ◌≤◌, ◌<◌, None, replicate, length, get_or, set, drop, ap, ◌∙◌, subst, inl, inr, arith}
use Rattle.std.proofs.lemmas.Bool.{cases_lt}
use Rattle.std.proofs.lemmas.List.{get_or_default, get_or-drop, length-drop, drop_more}
use Rattle.log_laws.specs.Records.{history, last_lsn, record_at}
use Rattle.log_laws.specs.Meaning.{image_in}
use Rattle.changes.specs.Changes.{page_put}
use Rattle.page.specs.declared.page.Page.{Page}
use Rattle.redo.specs.Parts.{image_at}
use Rattle.redo.specs.declared.wanted.Wanted.{Wanted}
use Rattle.redo.specs.Wanted.{HoldAllBut, ShowAllBut}
use Rattle.redo.proofs.LastRecords.{in_slot}
use Rattle.redo.proofs.Fetching.{fetched_one}
use Rattle.page.specs.declared.profile.TheConstants.{SLOTS}
use Rattle.changes.proofs.Numbered.{stay_more, put_numbered}
use Rattle.redo.proofs.fetch.fetch_from.Goals as goal

pub returns-then-record-last-clause-rest : goal.returns-then-record-last-clause-rest
returns-then-record-last-clause-rest g c = λ rising k d lt.
    let wanted = c.args.wanted.now in
    let taken = c.loop-taken.taken in
    let within : taken + k < length wanted = omega (arith, lt, length-drop taken wanted) in
    omega (arith, rising taken (taken + k) d (omega arith) within, ap (λ (w : Wanted). w.lsn) (get_or-drop taken wanted k d), ap (λ (w : Wanted). w.lsn) (get_or_default wanted taken d (in_slot 0 0 0) c.loop-taken-test.true), c.if-record-last.true, c.last-last.ensures)

pub loop-taken-preserved : goal.loop-taken-preserved
loop-taken-preserved g c =
    let pages = g.P.Pages in
    let wanted = c.args.wanted.now in
    let taken = c.loop-taken.taken in
    let piece = history c.args.piece.now in
    let lt : taken < length wanted = c.loop-taken-test.true in
    let w = get_or wanted taken (in_slot 0 0 0) in
    let le : w.lsn ≤ last_lsn piece = omega (arith, c.if-record-last.false, c.last-last.ensures) in
    let below : w.page < pages.count c.loop-taken.pages = omega (arith, c.requires.pages taken (in_slot 0 0 0) lt, c.loop-taken.invariant.0) in (
      c.put.ensures.count ∙ c.loop-taken.invariant.0,
      λ k d less.
          elim (cases_lt k taken) [
            | inl before ↦ c.loop-taken.invariant.1 k d before
            | inr here ↦
                (let at : k ≡ taken = omega (arith, less, here) in
                omega (arith, ap (λ i. (get_or wanted i d).lsn) at, ap (λ (v : Wanted). v.lsn) (get_or_default wanted taken d (in_slot 0 0 0) lt), c.if-record-last.false))
          ],
      λ whole tallies images stored own are ahead begun.
          let (shown, shows, held) = c.loop-taken.invariant.2 whole tallies images stored own are ahead begun in
          let d : Page = record { number = w.page; lsn = 0; slots = replicate SLOTS None } in
          let image = image_in (record_at piece w.lsn) in
          let in_shown : w.page < length shown = omega (arith, below, g.met.P.Pages.counted c.loop-taken.pages stored shown shows) in
          let small : w.slot < length (image_at shown w.page).slots = omega (arith, c.requires.slots taken (in_slot 0 0 0) lt, c.put.ensures.wide stored shown d shows) in (
            set shown w.page (page_put w.slot w.lsn image (get_or shown w.page d)),
            subst (λ i. pages.shows c.put.new.self stored (set shown w.page (page_put w.slot w.lsn i (get_or shown w.page d)))) c.image-image.ensures (c.in_ok-put.ensures.put stored shown d shows),
            fetched_one whole piece tallies w (drop (taken + 1) wanted) images shown d own (are taken _ lt) le (ahead taken _ lt) in_shown small
                (subst (λ ws. HoldAllBut whole tallies ws images shown) (drop_more wanted taken (in_slot 0 0 0) lt) held),
          ),
      stay_more pages c.args.pages.now c.loop-taken.pages c.put.new.self c.loop-taken.invariant.3 (put_numbered pages c.loop-taken.pages c.put.new.self w.page (λ stored shown shows. omega (arith, below, g.met.P.Pages.counted c.loop-taken.pages stored shown shows)) w.slot w.lsn c.image-image.result c.in_ok-put.ensures.put),
    )

pub returns-clause-fetched : goal.returns-clause-fetched
returns-clause-fetched g c = λ whole tallies images stored own are ahead begun.
    let wanted = c.args.wanted.now in
    subst (λ n. ShowAllBut g.P.Pages whole tallies (drop n wanted) images stored c.loop-taken.pages) (omega (arith, c.loop-taken-test.false, c.loop-taken.auto.taken-end)) (c.loop-taken.invariant.2 whole tallies images stored own are ahead begun)
