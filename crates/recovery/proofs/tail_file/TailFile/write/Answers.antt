use Rattle.std.proofs.Common.{refl, ap, ◌∙◌}
use Rattle.std.specs.Int.{w64, to_be_bytes}
use Rattle.std.proofs.lemmas.Result.{err_from_is_err_and}
use Rattle.std.specs.Io.KnownBytes.{Appends}
use Rattle.recovery.specs.TailFile.{tail_text}
use Rattle.recovery.proofs.InPlace.{on_ok, on_err}
use Rattle.recovery.proofs.Taken.{flushes_since}
use Rattle.recovery.proofs.tail_file.TailFile.write.Given as Given
use Rattle.recovery.proofs.TailFiles.{tail_is, first_begun, second_begun, third_begun, all_out, still_out, took_all}
use Rattle.recovery.proofs.tail_file.TailFile.write.Goals as goal

pub returns-in_err-write_all-clause-beginning : goal.returns-in_err-write_all-clause-beginning
returns-in_err-write_all-clause-beginning g c =
    let file = c.args.self.now in
    let exit = err_from_is_err_and c.from_residual.result c.from_residual.ensures.1 in
    rw exit.1 (first_begun c.head.result file.frames.now _ _ (tail_is file.length file.kept file.end file.cut file.frames.now c.head.result _ c.head.ensures refl) _ _ c.in_err-write_all.ensures.beginning)

pub returns-in_err-write_all-2-clause-beginning : goal.returns-in_err-write_all-2-clause-beginning
returns-in_err-write_all-2-clause-beginning g c =
    let file = c.args.self.now in
    let exit = err_from_is_err_and c.from_residual-in_err-write_all-2.result c.from_residual-in_err-write_all-2.ensures.1 in
    let text = tail_is file.length file.kept file.end file.cut file.frames.now c.head.result _ c.head.ensures refl in
    rw exit.1 (second_begun c.head.result file.frames.now _ _ text _ _ _ c.in_ok-write_all.ensures.all c.in_err-write_all-2.ensures.beginning)

pub returns-in_err-write_all-3-clause-beginning : goal.returns-in_err-write_all-3-clause-beginning
returns-in_err-write_all-3-clause-beginning g c =
    let file = c.args.self.now in
    let exit = err_from_is_err_and c.from_residual-in_err-write_all-3.result c.from_residual-in_err-write_all-3.ensures.1 in
    let sum = c.to_be_bytes.ensures ∙ ap (to_be_bytes w64) c.sum.ensures in
    let text = tail_is file.length file.kept file.end file.cut file.frames.now c.head.result c.to_be_bytes.result c.head.ensures sum in
    rw exit.1 (third_begun c.head.result file.frames.now c.to_be_bytes.result _ text _ _ _ _ c.in_ok-write_all.ensures.all c.in_ok-write_all-2.ensures.all c.in_err-write_all-3.ensures.beginning)

-- all is written, whether it is flushed or not
written : (g : Given.Over) (c : goal.After-flush g) → Appends (g.S.Sink.taken c.args.sink.now) (g.S.Sink.taken c.flush.new.self) (tail_text c.args.self.now.length c.args.self.now.kept c.args.self.now.end c.args.self.now.cut c.args.self.now.frames.now)
written g c =
    let file = c.args.self.now in
    let sum = c.to_be_bytes.ensures ∙ ap (to_be_bytes w64) c.sum.ensures in
    let text = tail_is file.length file.kept file.end file.cut file.frames.now c.head.result c.to_be_bytes.result c.head.ensures sum in
    still_out _ _ _ _ (all_out c.head.result file.frames.now c.to_be_bytes.result _ text _ _ _ _ c.in_ok-write_all.ensures.all c.in_ok-write_all-2.ensures.all c.in_ok-write_all-3.ensures.all) c.flush.ensures.bytes

pub returns-clause-beginning : goal.returns-clause-beginning
returns-clause-beginning g c = on_err c.flush.result (took_all _ _ _ (written g c))

pub returns-clause-all : goal.returns-clause-all
returns-clause-all g c =
    on_ok c.flush.result c.flush.ensures.all (λ flushed. record {
      out = written g c;
      flushed = flushes_since _ _ _ _ c.in_ok-write_all.ensures.unflushed (flushes_since _ _ _ _ c.in_ok-write_all-2.ensures.unflushed (flushes_since _ _ _ _ c.in_ok-write_all-3.ensures.unflushed flushed));
    })
