use Rattle.std.proofs.Common.{◌≡◌, ◌<◌, ◌+◌, ◌*◌, ◌^◌, ℕ, List, length, take, refl, sym, ap, subst, ◌∙◌, inl, inr, arith}
use Rattle.std.proofs.lemmas.List.{length-map}
use Rattle.std.proofs.lemmas.Result.{err_from_is_err_and}
use Rattle.journal.specs.declared.entries.TransactionEntry.{TransactionEntry}
use Rattle.journal.specs.declared.entries.PageEntry.{PageEntry}
use Rattle.journal.specs.Listed.{entries_listed, dirty_listed}
use Rattle.journal.specs.Taken.{checkpoint_text, run_taken, CheckpointRefused}
use Rattle.journal.specs.Arrays.{page_state_of}
use Rattle.journal.specs.Writing.{Begins}
use Rattle.journal.specs.State.{IsJournal}
use Rattle.journal.proofs.Runs.{run_few}
use Rattle.journal.proofs.TakenRows.{tables_true, taken}
use Rattle.journal.proofs.TakenText.{end_size}
use Rattle.journal.proofs.checkpoints.checkpoint.Goals as goal

pub returns-clause-ok : goal.returns-clause-ok
returns-clause-ok c = λ base run ps h.
    let ts : List TransactionEntry = c.args.transactions.now in
    let pages : List PageEntry = c.args.pages.now in
    let begin : ℕ = c.args.head.now.last + 1 in
    let e : take c.in_ok-count.count ts ≡ take c.args.head.now.transactions ts = ap (λ n. take n ts) c.in_ok-count.ensures.ok in
    let is : c.in_ok-begin.begin ≡ begin = c.in_ok-begin.ensures.ok in
    let lsn : c.in_ok-lsn.lsn ≡ begin + 1 = omega (arith, c.in_ok-lsn.ensures.ok, is) in
    let small : begin + 1 < 2 ^ 64 = omega (arith, lsn, c.in_ok-lsn.ensures.few) in
    let es : List TransactionEntry = take c.args.head.now.transactions ts in
    let text : Begins (checkpoint_text begin (entries_listed es) (dirty_listed pages)) c.args.frames.now c.put_checkpoint.new.out =
    subst (λ k. Begins (checkpoint_text k (entries_listed es) (dirty_listed pages)) c.args.frames.now c.put_checkpoint.new.out) is
    (subst (λ (xs : List TransactionEntry). Begins (checkpoint_text c.in_ok-begin.begin (entries_listed xs) (dirty_listed pages)) c.args.frames.now c.put_checkpoint.new.out) e c.put_checkpoint.ensures.text) in
    let rows : c.listed-rows.result ≡ length (entries_listed es) = c.listed-rows.ensures.count ∙ ap (λ (xs : List TransactionEntry). length (entries_listed xs)) e in
    let enough = subst (λ n. c.args.head.now.last + 2 + 2 * n + c.args.head.now.pending < 2 ^ 64) c.in_ok-count.ensures.ok c.in_ok-reserve.ensures.ok in
    let made = taken base run c.args.head.now ts pages ps h begin refl small enough in (
      entries_listed es,
      dirty_listed pages,
      tables_true base run c.args.head.now ts pages ps h begin refl small,
      subst (λ k. IsJournal base (run_taken run begin (entries_listed es) (dirty_listed pages)) (record { last = k; written = c.args.head.now.written; transactions = c.args.head.now.transactions; pending = c.args.head.now.pending; next = c.args.head.now.next }) ts pages ps) (sym lsn) made,
      text,
      omega (arith, rows, c.dirty-dirties.ensures.count, end_size begin (begin + 1) (entries_listed es) (dirty_listed pages)),
    )

pub returns-then-count-gt-TRANSACTIONS-clause-refused : goal.returns-then-count-gt-TRANSACTIONS-clause-refused
returns-then-count-gt-TRANSACTIONS-clause-refused c = λ base run ps h.
    let count = h.holds.pages_are.count in
    let few = run_few base run h.holds.runs in
    elim c.then-count-gt-TRANSACTIONS.either [
      | inl m ↦ omega (arith, m, h.arrays.few, c.in_ok-count.ensures.ok)
      | inr m ↦ omega (arith, m.1, length-map c.args.pages.now page_state_of, count, few)
    ]

pub returns-in_err-room_for-clause-refused : goal.returns-in_err-room_for-clause-refused
returns-in_err-room_for-clause-refused c =
    let exit = err_from_is_err_and c.from_residual-in_err-room_for.result c.from_residual-in_err-room_for.ensures.1 in
    let ts : List TransactionEntry = c.args.transactions.now in
    let pages : List PageEntry = c.args.pages.now in
    let begin : ℕ = c.args.head.now.last + 1 in
    let e : take c.in_ok-count.count ts ≡ take c.args.head.now.transactions ts = ap (λ n. take n ts) c.in_ok-count.ensures.ok in
    let lsn : c.in_ok-lsn.lsn ≡ begin + 1 = omega (arith, c.in_ok-lsn.ensures.ok, c.in_ok-begin.ensures.ok) in
    let small : begin + 1 < 2 ^ 64 = omega (arith, lsn, c.in_ok-lsn.ensures.few) in
    let es : List TransactionEntry = take c.args.head.now.transactions ts in
    let rows : c.listed-rows.result ≡ length (entries_listed es) = c.listed-rows.ensures.count ∙ ap (λ (xs : List TransactionEntry). length (entries_listed xs)) e in
    let short = c.in_err-room_for.ensures.short in
    rw (exit.1, exit.2) (λ base run ps h.
    subst (CheckpointRefused base run c.args.head.now (length c.args.frames.now)) (sym c.in_err-room_for.ensures.err) (
      entries_listed es,
      dirty_listed pages,
      tables_true base run c.args.head.now ts pages ps h begin refl small,
      omega (arith, rows, c.dirty-dirties.ensures.count, end_size begin (begin + 1) (entries_listed es) (dirty_listed pages)),
      short,
    ))
