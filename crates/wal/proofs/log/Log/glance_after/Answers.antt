use Rattle.std.proofs.Common.{◌≡◌, ◌+◌, ◌-◌, Some, ap, ◌∙◌, arith}
use Rattle.std.specs.Prelude.{option_map}
use Rattle.std.proofs.lemmas.Option.{same_Some}
use Rattle.wal.specs.Glances.{glance_of}
use Rattle.log_laws.specs.Records.{LogRecord, history, record_at}
use Rattle.wal.specs.Frames.{entry_at}
use Rattle.log_laws.proofs.Histories.{base_of_log, first_more}
use Rattle.wal.proofs.Places.{numbered}
use Rattle.wal.proofs.log.Log.glance_after.Goals as goal

pub place-index-requires : goal.place-index-requires
place-index-requires c =
    let log = c.args.self.now in
    omega (arith, (numbered log c.base.result (c.args.lsn + 1) (c.base.ensures.is ∙ base_of_log log) (omega (arith, c.requires.from, c.base.ensures.is)) (omega (arith, c.requires.to))).within)

pub returns : goal.returns
returns c =
    let log = c.args.self.now in
    let entry = entry_at log.records (c.args.lsn - c.base.result) in
    let at = numbered log c.base.result (c.args.lsn + 1) (c.base.ensures.is ∙ base_of_log log) (omega (arith, c.requires.from, c.base.ensures.is)) (omega (arith, c.requires.to)) in
    let there : record_at (history log) (c.args.lsn + 1) ≡ Some entry = at.there ∙ ap (λ n. Some (entry_at log.records n)) (omega (arith, c.requires.from, c.base.ensures.is)) in
    let is : Some (entry_at c.place-index.result.0.now c.place-index.result.1) ≡ Some entry = ap (λ (r : LogRecord). Some r) c.place-index.ensures.there in
    record {
      entry = entry;
      there = there;
      seen_of = same_Some c.in-Some.glance _ (c.in-Some.ensures.seen ∙ ap (option_map glance_of) (c.body.ensures ∙ is));
      fits = c.in-Some.ensures.fits entry (c.body.ensures ∙ is);
      next = first_more (history log) c.args.lsn entry there;
    }
