use Rattle.std.proofs.Common.{◌≡◌, ◌<◌, ◌+◌, ◌*◌, ◌^◌, ℕ, true, set, take, sym, subst, arith}
use Rattle.std.specs.Prelude.{is_some}
use Rattle.journal.specs.declared.entries.TransactionEntry.{TransactionEntry}
use Rattle.journal.specs.State.{IsJournal}
use Rattle.journal.specs.Arrays.{kept_of, LeavesOthers}
use Rattle.journal.proofs.Journals.{begins, begun, begins_others}
use Rattle.journal.proofs.beginning.begin.Goals as goal

pub returns-clause-ok : goal.returns-clause-ok
returns-clause-ok c = λ base run pages pending h.
    let n : ℕ = c.in_ok-count.count in
    let is : n ≡ c.args.head.now.transactions = c.in_ok-count.ensures.ok in
    let e : TransactionEntry = record { last = 0; undo_next = 0; below = 0; tx = c.args.head.now.next; state = 0 } in
    let done = begins base run c.args.head.now c.args.transactions.now pages pending h (omega (arith, c.if-count-transactions.false, is)) (omega (arith, c.if-count-ge-TRANSACTIONS.false, is)) (subst (λ k. c.args.head.now.last + 2 + 2 * k + c.args.head.now.pending < 2 ^ 64) is c.in_ok-reserve.ensures.ok) in
    subst (λ k. IsJournal base run (record { last = c.args.head.now.last; written = c.args.head.now.written; transactions = k + 1; pending = c.args.head.now.pending; next = c.in-Some.next }) (set c.args.transactions.now k e) pages pending) (sym is)
    (subst (λ m. IsJournal base run (record { last = c.args.head.now.last; written = c.args.head.now.written; transactions = c.args.head.now.transactions + 1; pending = c.args.head.now.pending; next = m }) (set c.args.transactions.now c.args.head.now.transactions e) pages pending) (sym c.in-Some.ensures.1) done)

pub returns-clause-begun : goal.returns-clause-begun
returns-clause-begun c = λ base run pages pending h.
    let n : ℕ = c.in_ok-count.count in
    let is : n ≡ c.args.head.now.transactions = c.in_ok-count.ensures.ok in
    let e : TransactionEntry = record { last = 0; undo_next = 0; below = 0; tx = c.args.head.now.next; state = 0 } in
    subst (λ k. is_some (kept_of (take (k + 1) (set c.args.transactions.now k e)) (take c.args.head.now.pending pending) c.args.head.now.next) ≡ true) (sym is)
    (begun base run c.args.head.now c.args.transactions.now pages pending h (omega (arith, c.if-count-transactions.false, is)))

pub returns-clause-others : goal.returns-clause-others
returns-clause-others c = λ base run pages pending h.
    let head = c.args.head.now in
    let ts = c.args.transactions.now in
    let n : ℕ = c.in_ok-count.count in
    let is : n ≡ head.transactions = c.in_ok-count.ensures.ok in
    let e : TransactionEntry = record { last = 0; undo_next = 0; below = 0; tx = head.next; state = 0 } in
    let xs = take head.pending pending in
    subst (λ k. LeavesOthers head.next (take head.transactions ts) xs (take (k + 1) (set ts k e)) xs) (sym is)
    (begins_others base run head ts pages pending h (omega (arith, c.if-count-transactions.false, is)))
