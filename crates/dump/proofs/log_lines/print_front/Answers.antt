use Rattle.std.proofs.Common.{ℕ, ◌≡◌, ◌∙◌, ap, sym, subst, take, Some}
use Rattle.std.proofs.lemmas.Result.{on_ok_weaker}
use Rattle.std.specs.Io.KnownBytes.{Appends}
use Rattle.log_laws.specs.Records.{LogContent}
use Rattle.wal.specs.Reads.{Reads}
use Rattle.dump.specs.LogLines.{ListsFront, fault_at, log_lines}
use Rattle.dump.proofs.Fronts.{front, given_fault, given_log}
use Rattle.dump.proofs.log_lines.print_front.Goals as goal

pub returns-in-Ok-clause-printed : goal.returns-in-Ok-clause-printed
returns-in-Ok-clause-printed g c =
    let old = g.W.Write.contents c.args.out.now in
    let new = g.W.Write.contents c.print_log.new.out in
    let at : fault_at c.args.fault.now ≡ Some c.in-Some.offset = sym c.fault_at.ensures ∙ c.in-Some.is in
    let whole = front c.args.bytes.now c.args.fault.now c.in-Some.offset c.requires at in
    let none : c.in-Ok.torn ≡ 0 = sym (ap (λ (x : LogContent × ℕ). x.1) (given_log _ _ (c.in-Ok.ensures.only whole.log 0 whole.reads))) in
    on_ok_weaker c.print_log.result (λ printed.
    subst (ListsFront c.args.style c.args.choice.now c.args.bytes.now old new) (sym at) (
      c.in-Ok.log,
      subst (λ (torn : ℕ). Reads (take c.in-Some.offset c.args.bytes.now) c.in-Ok.log torn) none c.in-Ok.ensures.found,
      subst (λ (torn : ℕ). Appends old new (log_lines c.args.style c.args.choice.now c.in-Ok.log torn)) none printed,
    )) c.print_log.ensures.printed

pub returns-in-Err-clause-err : goal.returns-in-Err-clause-err
returns-in-Err-clause-err g c =
    let at : fault_at c.args.fault.now ≡ Some c.in-Some.offset = sym c.fault_at.ensures ∙ c.in-Some.is in
    let whole = front c.args.bytes.now c.args.fault.now c.in-Some.offset c.requires at in
    given_fault c.in-Err.fault _ (c.in-Err.ensures.only whole.log 0 whole.reads)
