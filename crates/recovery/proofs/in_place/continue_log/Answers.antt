use Rattle.recovery.proofs.InPlace.{continues, all_flushed, on_ok}
use Rattle.recovery.proofs.in_place.continue_log.Goals as goal

pub returns-clause-done : goal.returns-clause-done
returns-clause-done g c =
    let before = g.L.Sink.taken c.args.log.now in
    on_ok c.flush-2.result c.flush-2.ensures.all (λ flushed. record {
      continued = continues c.args.kept c.args.frames.now before _ _ _ _ c.in_ok-cut.ensures.bytes c.flush.ensures.bytes c.in_ok-write_all.ensures.all c.flush-2.ensures.bytes;
      flushed = all_flushed c.args.kept before _ _ _ _ _ _ _ _ c.in_ok-cut.ensures.bytes c.flush.ensures.bytes c.cut.ensures.flushed c.in_ok-flush.ensures.all c.write_all.ensures.unflushed flushed;
    })
