use Rattle.dump.proofs.Memory.{listed_by}
use Rattle.dump.proofs.log_lines.list_log.Goals as goal

pub returns-in-Ok-clause-damaged : goal.returns-in-Ok-clause-damaged
returns-in-Ok-clause-damaged g c =
    listed_by c.args.style c.args.choice.now c.args.bytes.now _ _ c.in-Ok.log c.in-Ok.torn c.print_log.result c.in-Ok.ensures.found c.print_log.ensures.err c.print_log.ensures.so_far
