use Rattle.std.proofs.Common.{◌≡◌, ◌+◌, ◌-◌, ◌∙◌, arith, ap, sym}
use Rattle.std.proofs.lemmas.List.{drop-set-lt}
use Rattle.log_laws.specs.Records.{history, record_at}
use Rattle.wal.specs.Content.{shown}
use Rattle.aries_c.specs.Dump.{TellsRecord}
use Rattle.aries_c.proofs.Places.{holds_more}
use Rattle.aries_c.proofs.dump.fill.Goals as goal

pub loop-i-preserved : goal.loop-i-preserved
loop-i-preserved c =
    let n = c.loop-i.i in
    let log = history c.args.log.now in
    let at : (c.args.from + n - 1) + 1 ≡ c.args.from + n = omega (arith, c.requires) in
    let here : TellsRecord log (c.args.from + n) c.of.result =
    record { content = shown c.after.result; there = sym (ap (record_at log) at) ∙ c.after.ensures.there; lsn_is = c.of.ensures.lsn; names = c.of.ensures.names } in
    record {
      each = holds_more (λ k told. TellsRecord log (c.args.from + k) told) c.loop-i.out n c.of.result (omega arith) c.loop-i.invariant.each here;
      behind = λ k le. drop-set-lt k c.loop-i.out n c.of.result (omega arith) ∙ c.loop-i.invariant.behind k (omega arith);
    }
