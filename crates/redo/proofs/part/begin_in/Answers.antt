use Rattle.std.proofs.Common.{replicate, ap, sym, ◌∙◌}
use Rattle.log_laws.specs.Records.{base_lsn, history}
use Rattle.redo.specs.declared.tally.Tally.{Tally}
use Rattle.redo.specs.Inputs.{input_over}
use Rattle.redo.specs.Parts.{resolved}
use Rattle.redo.proofs.Tallies.{begun_page}
use Rattle.page.specs.declared.profile.TheConstants.{SLOTS}
use Rattle.redo.proofs.part.begin_in.Goals as goal

pub returns : goal.returns
returns c = λ tables listed. record {
  none = ap (λ (t : Tally). t.lasts) c.begin.ensures;
  begun = λ log.
      let input = input_over log c.args.store.now.pages tables in
      let number = c.args.number in
      let rec_lsn = c.args.rec_lsn in
      ap (resolved input) (c.begin.ensures ∙ ap (λ lsn. record { number = number; lsn = lsn; rec_lsn = rec_lsn; applied = 0; lasts = replicate SLOTS 0 }) c.page_lsn.ensures.lsn)
      ∙ begun_page input (base_lsn (history log)) number rec_lsn c.page_lsn.ensures.number c.page_lsn.ensures.slots (sym listed);
}
