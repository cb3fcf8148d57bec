use Rattle.std.proofs.Common.{◌≡◌, ◌≤◌, ◌+◌, ◌++◌, ℕ, List, length, take, get_or, sym, ap, subst, ◌∙◌, arith, append_assoc, length-append}
use Rattle.std.specs.Prelude.{flat_map}
use Rattle.wal.specs.Spelling.{entry}
use Rattle.wal.proofs.Whole.{entry_length}
use Rattle.journal.specs.declared.entries.TransactionEntry.{TransactionEntry}
use Rattle.journal.specs.Listed.{listed_entry, entries_listed}
use Rattle.journal.specs.Writing.{Begins}
use Rattle.journal.proofs.Flat.{flat_take, flat_within, flat_length, flat_append}
use Rattle.journal.proofs.checkpoints.put_entries.Goals as goal

blank : TransactionEntry
blank = record { last = 0; undo_next = 0; below = 0; tx = 0; state = 0 }

module _ (es : List TransactionEntry) (i : ℕ) (lt : i + 1 ≤ length es) where
  more : entries_listed (take (i + 1) es) ≡ entries_listed (take i es) ++ listed_entry (get_or es i blank)
  more = flat_take listed_entry es i blank (omega (arith, lt))

  count : length (entries_listed (take (i + 1) es)) ≡ length (entries_listed (take i es)) + length (listed_entry (get_or es i blank))
  count = ap length more ∙ length-append (entries_listed (take i es)) (listed_entry (get_or es i blank))

pub put_entry-end-requires : goal.put_entry-end-requires
unfolding blank
put_entry-end-requires c =
    let n = count c.args.entries.now c.loop-entry.entry-index (omega (arith, c.loop-entry-test.true)) in
    let all = flat_within listed_entry (c.loop-entry.entry-index + 1) c.args.entries.now in
    let size : length c.loop-entry.out ≡ length c.args.out.now = c.loop-entry.auto.out in
    omega (arith, c.loop-entry.invariant.end, c.requires, n, all, size)

pub loop-entry-preserved : goal.loop-entry-preserved
unfolding blank
loop-entry-preserved c =
    let i : ℕ = c.loop-entry.entry-index in
    let es : List TransactionEntry = c.args.entries.now in
    let lt : i + 1 ≤ length es = omega (arith, c.loop-entry-test.true) in
    let n = count es i lt in
    record {
      end = omega (arith, c.loop-entry.invariant.end, c.put_entry-end.ensures.end, n);
      text = λ text before len h.
          (let a : List ℕ = flat_map entry (entries_listed (take i es)) in
          let b : List ℕ = flat_map entry (listed_entry (get_or es i blank)) in
          let first = c.loop-entry.invariant.text text before len h in
          let long : length (text ++ a) ≡ c.loop-entry.end = omega (arith, len, length-append text a, flat_length entry 21 entry_length (entries_listed (take i es)), c.loop-entry.invariant.end) in
          let second = c.put_entry-end.ensures.text (text ++ a) before long first in
          let both : (text ++ a) ++ b ≡ text ++ flat_map entry (entries_listed (take (i + 1) es)) = append_assoc text a b ∙ ap (λ (xs : List ℕ). text ++ xs) (sym (ap (flat_map entry) (more es i lt) ∙ flat_append entry (entries_listed (take i es)) (listed_entry (get_or es i blank)))) in
          subst (λ t. Begins t before c.put_entry-end.new.out) both second);
    }
