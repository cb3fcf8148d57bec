use Rattle.std.proofs.Common.{◌+◌, ◌∷◌, [], Ok, Option, ℕ, drop, sym, ap, ◌∙◌, arith}
use Rattle.page.proofs.BigEndian.{AreBytes, AreBytes-drop}
use Rattle.log_laws.specs.Records.{◌⧺◌}
use Rattle.wal.specs.Frames.{next_at}
use Rattle.wal.proofs.NextFrame.{sized, unsized, faulty}
use Rattle.wal.proofs.Stretches.{frame_takes}
use Rattle.wal.proofs.Whole.{next_fault, none_torn}
use Rattle.cursor.proofs.Marks.{moves, next_fits}
use Rattle.cursor.proofs.ending.rest_after.Goals as goal

pub size_after-requires-clause-lsn : goal.size_after-requires-clause-lsn
size_after-requires-clause-lsn c = next_fits c.args.bytes.now c.requires.before c.args.end c.requires.is (omega arith)

pub unreachable-requires : goal.unreachable-requires
unreachable-requires c =
    let bytes = c.args.bytes.now in
    let end = c.args.end in
    let size : ℕ = c.in-Ok-Some.field-0-0 in
    let fits : AreBytes bytes = λ i. omega (arith, c.type_inv.bytes i) in
    let one = sized (next_at (end.lsn + 1) end.offset (drop end.offset bytes)) size (sym c.size_after.ensures ∙ c.in-Ok-Some.is ∙ ap (λ (o : Option ℕ). Ok o) c.in-Ok-Some.field-0-is) in
    let takes = frame_takes bytes (end.lsn + 1) end.offset one.0 size c.requires.is.within one.1 in
    let next = moves bytes c.requires.before end c.requires.is fits (omega arith) one.0 size one.1 in
    c.requires.longest (end.offset + size) (c.requires.before ⧺ (one.0 ∷ [])) (omega (arith, takes.0)) takes.1 next.reads

pub returns-else-torn-eq0 : goal.returns-else-torn-eq0
returns-else-torn-eq0 c =
    let bytes = c.args.bytes.now in
    let end = c.args.end in
    let rest = drop end.offset bytes in
    let none = unsized (next_at (end.lsn + 1) end.offset rest) (sym c.size_after.ensures ∙ c.in-Ok-None.is ∙ ap (λ (o : Option ℕ). Ok o) c.in-Ok-None.field-0-is) in
    (omega (arith, c.if-torn-eq0.false), omega (arith, c.requires.is.within), none_torn (end.lsn + 1) end.offset rest none)

pub returns-in-Err : goal.returns-in-Err
returns-in-Err c =
    let bytes = c.args.bytes.now in
    let end = c.args.end in
    let rest = drop end.offset bytes in
    let fits : AreBytes bytes = λ i. omega (arith, c.type_inv.bytes i) in
    next_fault (end.lsn + 1) end.offset rest c.in-Err.fault (AreBytes-drop end.offset bytes fits) (faulty (next_at (end.lsn + 1) end.offset rest) c.in-Err.fault (sym c.size_after.ensures ∙ c.in-Err.is))
