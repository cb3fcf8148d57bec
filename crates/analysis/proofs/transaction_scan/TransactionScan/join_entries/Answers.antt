use Rattle.std.proofs.Common.{◌≡◌, ℕ, ◌++◌, ◌∷◌, List, None, map, sym, ap, ◌∙◌, subst}
use Rattle.std.proofs.lemmas.List.{map_push}
use Rattle.std.proofs.lemmas.Map.Iter.{rest_more, rest_so_far}
use Rattle.std.specs.Map.Iter.{deref_pair}
use Rattle.wal.specs.declared.record.Entry.{Entry}
use Rattle.wal.specs.Content.{entry_of}
use Rattle.wal.proofs.Entries.{Rise, rise}
use Rattle.analysis.specs.Tables.{entry_at}
use Rattle.analysis.specs.Stretch.{entry_joined}
use Rattle.analysis.proofs.Stretches.{none_in_front, joined_next}
use Rattle.analysis.proofs.transaction_scan.TransactionScan.join_entries.Goals as goal

pub loop-tx-preserved : goal.loop-tx-preserved
loop-tx-preserved c = λ t.
    let gives = c.into_iter-tx-iterator.ensures.into_iter_gives in
    let tx = c.in-Some.tx.now in
    let own = c.in-Some.own.now in
    let entries : List (ℕ × Entry) = c.args.entries.now.entries in
    let done : List (ℕ × Entry) = map deref_pair c.loop-tx.yielded in
    let taken = rest_more deref_pair c.loop-tx.tx-iterator c.next.new.self c.next.result (c.in-Some.tx, c.in-Some.own) c.in-Some.is c.next.ensures.steps in
    let split : entries ≡ done ++ (tx, own) ∷ c.next.new.self =
    sym gives.0 ∙ rest_so_far deref_pair c.loop-tx.yielded c.into_iter-tx-iterator.result c.loop-tx.tx-iterator c.loop-tx.yielded_by ∙ ap (λ es. done ++ es) taken in
    let new : entry_at tx done ≡ None = none_in_front 0 tx own done c.next.new.self (subst (λ es. Rise 0 (map entry_of es)) split (rise entries gives.5)) in
    c.in_ok-join_entry.ensures.entries t
    ∙ joined_next t tx own done (entry_at t c.args.self.now) (λ n. entry_at n c.loop-tx.self) new (c.loop-tx.invariant t)
    ∙ ap (λ es. entry_joined t (entry_at t es) (entry_at t c.args.self.now)) (sym (map_push deref_pair c.loop-tx.yielded (c.in-Some.tx, c.in-Some.own)))
