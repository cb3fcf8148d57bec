use Rattle.std.proofs.Common.{◌≡◌, ℕ, List, length, take, sym, ap, ◌∙◌, subst, inl, inr, arith}
use Rattle.page.specs.File.{store_text}
use Rattle.wal.specs.Reads.{log_text}
use Rattle.recovery.specs.declared.recovery.Recovery.{Recovery}
use Rattle.recovery.specs.Text.{ReportContent}
use Rattle.recovery.specs.Recovery.{Recovered as AreRecovered, new_log as log_made}
use Rattle.recovery.proofs.Delivered.{goes_on, cut_lawful}
use Rattle.aries_c.specs.declared.fault.Fault.{Fault as Told}
use Rattle.aries_c.specs.Fault.{told_of, no_memory}
use Rattle.aries_c.specs.Recovered.{log_in_buffers, new_store, report_told}
use Rattle.aries_c.proofs.Buffers.{taken_front, log_told}
use Rattle.aries_c.proofs.recovered.aries_recover.Goals as goal

pub returns-in-Err-clause-lawful_refused : goal.returns-in-Err-clause-lawful_refused
returns-in-Err-clause-lawful_refused c = λ base bytes. inr (inl (c.from.ensures ∙ ap told_of (c.in-Err.ensures.lawful base bytes)))

pub returns-in-Err-clause-lawful_tail : goal.returns-in-Err-clause-lawful_tail
returns-in-Err-clause-lawful_tail c = λ base bytes answered.
    let is : c.from.result ≡ no_memory = c.from.ensures ∙ ap told_of (c.in-Err.ensures.lawful base bytes) in
    elim answered [
      | inl answer ↦ absurd (omega (arith, ap (λ (told : Told). told.number) is, answer))
      | inr answer ↦ absurd (omega (arith, ap (λ (told : Told). told.number) is, answer))
    ]

pub returns-then-tail-len-clause-lawful_tail : goal.returns-then-tail-len-clause-lawful_tail
returns-then-tail-len-clause-lawful_tail c = λ base bytes _. omega (arith, c.recovered_of.ensures.tail, c.in-Ok.ensures.short base bytes)

pub returns-clause-lawful_tail : goal.returns-clause-lawful_tail
returns-clause-lawful_tail c = λ base bytes _. omega (arith, c.recovered_of.ensures.tail, c.in-Ok.ensures.short base bytes)

pub returns-clause-lawful : goal.returns-clause-lawful
returns-clause-lawful c = λ base bytes _.
    let made = c.recovered_of.result in
    let x = c.in-Ok.recovery in
    let read = bytes.decoded.read in
    let before = bytes.decoded.before in
    let frames_are : c.deref.result.now ≡ x.frames.items = c.deref.ensures.value ∙ ap (λ (r : Recovery). r.frames.items) c.recovery.view_is in
    let store_are : c.deref-2.result.now ≡ x.store.items = c.deref-2.ensures.value ∙ ap (λ (r : Recovery). r.store.items) c.recovery.view_is in
    let doubt_are : c.deref-3.result.now ≡ x.report.in_doubt = c.deref-3.ensures.value ∙ ap (λ (r : Recovery). r.report.in_doubt) c.recovery.view_is in
    let tail_is : take made.tail_length c.copy_to.new.out ≡ x.frames.items =
    taken_front c.deref.result.now c.args.tail.now c.copy_to.new.out made.tail_length (c.recovered_of.ensures.tail ∙ ap length (sym frames_are)) c.copy_to.ensures ∙ frames_are in
    let log_is : log_in_buffers c.args.log.now c.copy_to.new.out made ≡ log_made x = log_told c.args.log.now x made c.in-Ok.ensures.kept c.recovered_of.ensures.report c.copy_to.new.out tail_is in
    let store_is : new_store c.copy_to-2.new.out made ≡ x.store.items =
    taken_front c.deref-2.result.now c.args.out_store.now c.copy_to-2.new.out made.store_length (c.recovered_of.ensures.store ∙ ap length (sym store_are)) c.copy_to-2.ensures ∙ store_are in
    let doubt_is : take made.in_doubt c.copy_numbers.new.out ≡ x.report.in_doubt =
    taken_front c.deref-3.result.now c.args.in_doubt.now c.copy_numbers.new.out made.in_doubt (c.recovered_of.ensures.in_doubt ∙ ap length (sym doubt_are)) c.copy_numbers.ensures ∙ doubt_are in
    let report_is : report_told made (take made.in_doubt c.copy_numbers.new.out) ≡ x.report = ap (report_told made) doubt_is ∙ sym c.recovered_of.ensures.report in
    subst (λ (l : List ℕ). AreRecovered base read before l (new_store c.copy_to-2.new.out made) (report_told made (take made.in_doubt c.copy_numbers.new.out))) (sym log_is)
    (subst (λ (s : List ℕ). AreRecovered base read before (log_made x) s (report_told made (take made.in_doubt c.copy_numbers.new.out))) (sym store_is)
    (subst (λ (r : ReportContent). AreRecovered base read before (log_made x) x.store.items r) (sym report_is) (c.in-Ok.ensures.lawful base bytes)))

pub returns-clause-interrupted_log : goal.returns-clause-interrupted_log
unfolding returns-clause-lawful
returns-clause-interrupted_log c = λ base bytes done. (returns-clause-lawful c base (cut_lawful bytes) done).log_is ∙ ap log_text (goes_on bytes).same_log

pub returns-clause-interrupted_store : goal.returns-clause-interrupted_store
unfolding returns-clause-lawful
returns-clause-interrupted_store c = λ base bytes done. (returns-clause-lawful c base (cut_lawful bytes) done).store_is ∙ ap store_text (goes_on bytes).same_store
