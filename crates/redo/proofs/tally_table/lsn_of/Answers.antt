use Rattle.std.proofs.Common.{◌<◌, None, length, replicate, sym, ap, ◌∙◌, refl, arith}
use Rattle.page.specs.declared.page.Page.{Page}
use Rattle.page.specs.declared.profile.TheConstants.{SLOTS}
use Rattle.log_laws.specs.Records.{base_lsn, history}
use Rattle.redo.specs.Inputs.{input_over}
use Rattle.redo.specs.Parts.{resolved}
use Rattle.redo.specs.Placed.{untouched}
use Rattle.redo.proofs.Tallies.{begun_page}
use Rattle.redo.proofs.tally_table.lsn_of.Goals as goal

pub returns : goal.returns
returns g c = λ stored shown tables rec_lsn shows numbered listed.
    let number = c.args.number in
    let blank : Page = record { number = number; lsn = 0; slots = replicate SLOTS None } in
    let within : number < length shown = omega (arith, c.requires, g.met.P.Pages.counted c.args.pages.now stored shown shows) in
    record {
      none = refl;
      begun = λ log.
          let input = input_over log shown tables in
          ap (λ lsn. resolved input (untouched number lsn rec_lsn)) (c.lsn.ensures.lsn stored shown blank shows)
          ∙ begun_page input (base_lsn (history log)) number rec_lsn (numbered.at_place number blank within) (c.lsn.ensures.wide stored shown blank shows) (sym listed);
    }
