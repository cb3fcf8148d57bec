use Rattle.std.proofs.Common.{◌≡◌, ◌+◌, ◌≤◌, ◌∷◌, [], length, length-append, drop, Ok, None, Some, subst, sym, ap, ◌∙◌, arith}
use Rattle.wal.specs.Frames.{next_at, size_in}
use Rattle.wal.specs.Glances.{seen_in}
use Rattle.wal.proofs.NextFrame.{size_of_fault, size_of_frame, size_of_no_frame, sized}
use Rattle.wal.proofs.Stretches.{frames_more, frame_takes, none_sized, fault_sized}
use Rattle.wal.proofs.stretch.read_on.Goals.{else-loop-end-test, then-loop-end-test+in_default, then-loop-end-test+in-Ok+in_default-found}
use Rattle.wal.proofs.stretch.read_on.Goals as goal

-- a frame of this size is there
here : (c : goal.In_ok-push) → size_in (next_at c.loop-end.next c.loop-end.end (drop c.loop-end.end c.args.bytes.now)) ≡ Ok (Some c.in-Some.size)
here c =
    let next = next_at c.loop-end.next c.loop-end.end (drop c.loop-end.end c.args.bytes.now) in
    size_of_frame next c.in-Some.size c.in-Some.field-0-1 (ap (λ rest. seen_in (next_at c.loop-end.next c.loop-end.end rest)) (sym c.split_at.ensures.back) ∙ sym c.seen_at.ensures ∙ c.in-Ok.is ∙ ap Ok c.in-Some.is)

-- a frame takes at least 13 bytes, and there are as many as it takes
takes : (c : goal.In_ok-push) → (13 ≤ c.in-Some.size) × (c.loop-end.end + c.in-Some.size ≤ length c.args.bytes.now)
takes c =
    let one = sized (next_at c.loop-end.next c.loop-end.end (drop c.loop-end.end c.args.bytes.now)) c.in-Some.size (here c) in
    frame_takes c.args.bytes.now c.loop-end.next c.loop-end.end one.0 c.in-Some.size c.loop-end.invariant.3 one.1

pub overflow_add-end : goal.overflow_add-end
overflow_add-end c = omega (arith, (takes c).1)

pub loop-end-smaller : goal.loop-end-smaller
loop-end-smaller c = omega (arith, (takes c).0, (takes c).1)

pub loop-end-preserved : goal.loop-end-preserved
loop-end-preserved c =
    let is = c.loop-end.invariant in
    let known = c.args.known in
    let one = sized (next_at c.loop-end.next c.loop-end.end (drop c.loop-end.end c.args.bytes.now)) c.in-Some.size (here c) in
    let e = subst (λ n. next_at n c.loop-end.end (drop c.loop-end.end c.args.bytes.now) ≡ Ok (Some (one.0, c.in-Some.size))) is.1 one.1 in
    rw c.in_ok-push.ensures.ok (
      frames_more c.args.bytes.now known.lsn known.begin c.loop-end.offsets c.loop-end.end one.0 c.in-Some.size is.0 e,
      omega (arith, is.1, length-append c.loop-end.offsets (c.loop-end.end ∷ [])),
      omega (arith, is.2, (takes c).0, length-append c.loop-end.offsets (c.loop-end.end ∷ [])),
      (takes c).1,
    )

pub returns-clause-end : goal.returns-clause-end
returns-clause-end c = λ test place r size there.
    let bytes = c.args.bytes.now in
    let next = c.loop-end.next in
    let end = c.loop-end.end in
    let frame = subst (λ n. next_at n place (drop end bytes) ≡ Ok (Some (r, size))) (sym c.loop-end.invariant.1) there in
    elim c.loop-end-test.branch [
      | else-loop-end-test w ↦ absurd (omega (arith, w.loop-end-test.false, test))
      | then-loop-end-test+in_default w ↦
          fault_sized bytes next end w.in_default.field-0 (λ i. omega (arith, c.type_inv.bytes i))
          (size_of_fault (next_at next end (drop end bytes)) w.in_default.field-0 (ap (λ rest. seen_in (next_at next end rest)) (sym w.split_at.ensures.back) ∙ sym w.seen_at.ensures ∙ w.in_default.is)) place r size frame
      | then-loop-end-test+in-Ok+in_default-found w ↦
          none_sized bytes next end None (Unit {0}) (λ i. omega (arith, c.type_inv.bytes i))
          (size_of_no_frame (next_at next end (drop end bytes)) (ap (λ rest. seen_in (next_at next end rest)) (sym w.split_at.ensures.back) ∙ sym w.seen_at.ensures ∙ w.in-Ok.is ∙ ap Ok w.in_default-found.is)) tt place r size frame
    ]
