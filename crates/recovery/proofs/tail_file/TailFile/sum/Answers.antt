use Rattle.std.proofs.Common.{length, ap, sym, ◌∙◌}
use Rattle.recovery.specs.TailFile.{sum_on, sum_of, head_of}
use Rattle.recovery.proofs.TailFiles.{sum_on-append, front_is}
use Rattle.recovery.proofs.tail_file.TailFile.sum.Goals as goal

pub returns : goal.returns
returns c =
    let file = c.args.self.now in
    let frames = file.frames.now in
    c.sum_on-2.ensures ∙ ap (λ s. sum_on s frames) (c.sum_on.ensures ∙ ap sum_of c.head.ensures) ∙ sym (sum_on-append 0xcbf2_9ce4_8422_2325 (head_of file.length file.kept (length frames) file.end file.cut) frames)
    ∙ ap sum_of (sym (front_is file.length file.kept file.end file.cut frames))
