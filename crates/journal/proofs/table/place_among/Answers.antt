use Rattle.std.proofs.Common.{◌+◌, ◌-◌, ◌/◌, ◌<◌, ℕ, List, length, arith}
use Rattle.journal.specs.declared.entries.TransactionEntry.{TransactionEntry}
use Rattle.journal.proofs.Tables.{rises_to}
use Rattle.journal.proofs.table.place_among.Goals as goal

blank : TransactionEntry
blank = record { last = 0; undo_next = 0; below = 0; tx = 0; state = 0 }

pub search-preserved-then-own-tx-2 : goal.search-preserved-then-own-tx-2
unfolding blank
search-preserved-then-own-tx-2 c =
    let es : List TransactionEntry = c.args.entries.now in
    let middle : ℕ = c.search.low + (c.search.high - c.search.low) / 2 in
    let under : middle < c.search.high = omega (arith, c.search-test.true) in
    let there : middle < length es = omega (arith, under, c.search.invariant.within) in
    record {
      order = omega (arith, under);
      within = c.search.invariant.within;
      lower = λ t k d l. (let le = rises_to es t.rising middle k d blank (omega (arith, l)) there in omega (arith, le, c.if-own-tx-2.true));
      higher = c.search.invariant.higher;
    }

pub search-preserved : goal.search-preserved
unfolding blank
search-preserved c =
    let es : List TransactionEntry = c.args.entries.now in
    let middle : ℕ = c.search.low + (c.search.high - c.search.low) / 2 in
    let under : middle < c.search.high = omega (arith, c.search-test.true) in
    let there : middle < length es = omega (arith, under, c.search.invariant.within) in
    record {
      order = omega arith;
      within = omega (arith, there);
      lower = c.search.invariant.lower;
      higher = λ t k d l room.
          (let le = rises_to es t.rising k middle blank d l room in
          let not_own = c.if-own-tx.false in
          omega (arith, le, c.if-own-tx-2.false, not_own));
    }
