use Rattle.std.proofs.Common.{◌+◌, drop, subst, sym, ap, ◌∙◌, arith, inl, inr}
use Rattle.std.proofs.lemmas.List.{length-drop}
use Rattle.std.proofs.lemmas.Result.{err_from_is_err_and}
use Rattle.wal.specs.Frames.{next_at, Fails}
use Rattle.wal.specs.Stretches.{AreFirst}
use Rattle.wal.proofs.Stretches.{room_behind, first_cut}
use Rattle.wal.proofs.Fronts.{no_header, first_cause}
use Rattle.wal.proofs.Whole.{none_torn}
use Rattle.wal.proofs.log.first_frames.Goals as goal

pub returns-in_default-clause-fault : goal.returns-in_default-clause-fault
returns-in_default-clause-fault g c = λ more begins rest fits. no_header c.args.front.now more c.requires (sym c.start_at.ensures ∙ c.in_default.is) begins rest fits

pub overflow_add-first : goal.overflow_add-first
overflow_add-first g c = omega (arith, c.base-first.ensures, room_behind c.in-Some.begins c.args.front.now (λ i. omega (arith, c.type_inv.front i)) (sym c.start_at.ensures ∙ c.in-Some.is))

pub stretch_by-requires-clause-lsn : goal.stretch_by-requires-clause-lsn
stretch_by-requires-clause-lsn g c κs within = omega (arith, c.base-first.ensures, room_behind c.in-Some.begins c.args.front.now (λ i. omega (arith, c.type_inv.front i)) (sym c.start_at.ensures ∙ c.in-Some.is))

pub returns-in_err-torn_from-clause-fault : goal.returns-in_err-torn_from-clause-fault
returns-in_err-torn_from-clause-fault g c =
    let exit = err_from_is_err_and c.from_residual-in_err-torn_from.result c.from_residual-in_err-torn_from.ensures.1 in
    let frames = c.in_ok-frames.frames in
    let front = c.args.front.now in
    let first : AreFirst c.in-Some.begins front frames = record {
      starts = sym c.start_at.ensures ∙ c.in-Some.is;
      frames = c.in_ok-frames.ensures.frames;
      begin = c.in_ok-frames.ensures.begins.1 ∙ c.header_bytes.ensures;
      lsn = c.in_ok-frames.ensures.begins.0 ∙ ap (λ n. n + 1) c.base-first.ensures;
    } in
    rw (exit.1, exit.2)
    (λ more.
    first_cause c.in-Some.begins front more frames c.in_err-torn_from.field-0.0 (λ i. omega (arith, c.type_inv.front i)) (omega arith) first
    (subst (λ n. Fails c.in_err-torn_from.field-0.0 (next_at n frames.end (drop frames.end front))) (ap (λ n. frames.lsn + n) c.len.ensures) (subst (λ o. Fails c.in_err-torn_from.field-0.0 (next_at (frames.lsn + c.len.result) o (drop frames.end front))) (omega arith) c.in_err-torn_from.ensures.fault)))

pub returns-clause-rest : goal.returns-clause-rest
returns-clause-rest g c =
    let frames = c.in_ok-frames.frames in
    let front = c.args.front.now in
    elim (none_torn (frames.lsn + c.len.result) (0 + frames.end) (drop frames.end front) c.in_ok-torn_from.ensures.torn.0) [
      | inl short ↦ omega (arith, short, length-drop frames.end front)
      | inr long ↦ omega (arith, long.2, long.3, length-drop frames.end front)
    ]

pub returns-clause-frames : goal.returns-clause-frames
returns-clause-frames g c =
    first_cut c.args.front.now c.in_ok-frames.frames (λ i. omega (arith, c.type_inv.front i)) (
      c.in-Some.begins,
      record {
        starts = sym c.start_at.ensures ∙ c.in-Some.is;
        frames = c.in_ok-frames.ensures.frames;
        begin = c.in_ok-frames.ensures.begins.1 ∙ c.header_bytes.ensures;
        lsn = c.in_ok-frames.ensures.begins.0 ∙ ap (λ n. n + 1) c.base-first.ensures;
      },
    )
