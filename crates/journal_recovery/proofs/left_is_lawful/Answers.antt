use Rattle.std.proofs.Common.{refl}
use Rattle.journal_recovery.proofs.Surviving.{read, all_lasts, bytes}
use Rattle.journal_recovery.proofs.left_is_lawful.Goals as goal

pub returns : goal.returns
returns c = λ base t log store left.
    let file = read base t log store left in
    record { lsn = file.lsn; some = file.some; within = file.within; lasts = all_lasts base t log store left; bytes = bytes base t log store left; read_is = refl; before_is = refl }
