use Rattle.std.proofs.Common.{sym, subst}
use Rattle.log_laws.specs.Records.{history}
use Rattle.log_laws.proofs.Histories.{history_push}
use Rattle.analysis.specs.Fresh.{HasFound}
use Rattle.passes.specs.Listing.{IsTalliedTo}
use Rattle.passes.specs.declared.fresh.ForwardScan.{ForwardScan}
use Rattle.passes.specs.Pieces.{one_record}
use Rattle.passes.proofs.OneByOne.{ends_one_later, seen_behind}
use Rattle.passes.proofs.fresh.ForwardScanPass.look_at.Goals as goal

pub returns-clause-passed : goal.returns-clause-passed
returns-clause-passed c = λ r next whole before own at.
    let new : ForwardScan = record { tables = c.take.new.self; tallies = c.tally_next-self.new.tallies; fault = c.tally_next-self.result } in (
      λ found. subst (λ h. HasFound h c.take.new.self) (sym (history_push before r)) (c.in_ok-take.ensures.goes_on (history before) r next.seen_of next.fits at found),
      λ images so_far. subst (λ n. IsTalliedTo whole images n new) (sym (ends_one_later before c.args.lsn r at))
          (c.tally_next-self.ensures.tallied whole (one_record c.args.lsn r) images own (seen_behind c.args.lsn c.args.glance c.args._body.now r next) (subst (λ n. IsTalliedTo whole images n c.args.self.now) at so_far)),
    )
