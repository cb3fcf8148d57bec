use Rattle.std.proofs.Common.{◌≡◌, ◌<◌, ◌^◌, ◌++◌, ◌∷◌, length, Some, true, map, refl, sym, ap, ◌∙◌, subst, arith, false, List, ℕ, Bor}
use Rattle.std.specs.Prelude.{All, filter}
use Rattle.std.proofs.lemmas.List.{map_push, map-append, length-map}
use Rattle.std.proofs.lemmas.List.Elements.{All-push}
use Rattle.std.proofs.lemmas.Map.Iter.{rest_more, rest_so_far, btree_map_turn, iter_end}
use Rattle.std.proofs.lemmas.Result.{err_from_is_err_and}
use Rattle.std.proofs.lemmas.Cmp.{nat_cmp_total}
use Rattle.std.specs.Map.{lookup}
use Rattle.std.specs.Ordering.{is_eq, nat_cmp}
use Rattle.std.specs.Map.Iter.{deref_pair}
use Rattle.log_laws.specs.Records.{TableEntry, tx_in, history}
use Rattle.wal.specs.declared.record.Entry.{Entry}
use Rattle.wal.specs.Content.{entry_of}
use Rattle.log_laws.specs.Undo.{entry_for, is_lost, lost_in}
use Rattle.log_laws.proofs.Histories.{size_of_log}
use Rattle.wal.proofs.Entries.{Rise, entry_found, rise, distinct}
use Rattle.tables.specs.Tables.{losers_in}
use Rattle.undo.specs.Appended.{record_of, appended_records}
use Rattle.undo.specs.Rollback.{loser_at}
use Rattle.undo.proofs.Begun.{AreEnds, Begun, meets_nothing}
use Rattle.undo.proofs.Lost.{one_more, one_lost, none_lost, lost_about, lost_rise, lost_found}
use Rattle.undo.proofs.Beginning.{broken_start, begun_more, begun_others, begun_rolls, stands_earlier, are_ends, ends_name_no_page, some_tx}
use Rattle.undo.proofs.UndonePages.{ends_undo_nothing}
use Rattle.undo.proofs.Few.{ends_few, numbers_few}
use Rattle.undo.proofs.losers.Rollback.of_losers.Goals as goal

-- the entry of a turn is found among the losers, if it is one
own : (t : ℕ) (entry : Entry) (entries : List (ℕ × Entry)) (losers : List TableEntry) → lost_in (map entry_of entries) ≡ losers
    → lookup (λ k. is_eq (nat_cmp t k)) entries ≡ Some entry → is_lost (entry_of (t, entry)) ≡ true → entry_for t losers ≡ Some (entry_of (t, entry))
own t entry entries losers same found lost = sym (ap (entry_for t) same) ∙ lost_found t (entry_of (t, entry)) (map entry_of entries) (entry_found t entry entries found) lost

-- the losers of the table are those of the turns so far, that of this turn, and those to come
about : (yielded : List (Bor ℕ × Bor Entry)) (e : TableEntry) (this : ℕ × Entry) (next entries : List (ℕ × Entry)) (losers : List TableEntry) → entry_of this ≡ e → entries ≡ map deref_pair yielded ++ this ∷ next
    → lost_in (map entry_of entries) ≡ losers → is_lost e ≡ true → losers ≡ lost_in (map entry_of (map deref_pair yielded)) ++ e ∷ lost_in (map entry_of next)
about yielded e this next entries losers is split same lost =
    let done : List TableEntry = map entry_of (map deref_pair yielded) in
    sym same ∙ ap (λ es. lost_in (map entry_of es)) split ∙ ap lost_in (map-append entry_of (map deref_pair yielded) (this ∷ next))
    ∙ ap (λ x. lost_in (done ++ x ∷ map entry_of next)) is ∙ lost_about done (map entry_of next) e lost

pub resolve-requires-clause-updates : goal.resolve-requires-clause-updates
resolve-requires-clause-updates c = λ n l there. (c.loop-tx.invariant.begun.waits n l there).is_update

pub resolve-requires-clause-others : goal.resolve-requires-clause-others
resolve-requires-clause-others c =
    let gives = c.into_iter-tx-iterator.ensures.into_iter_gives in
    let e : TableEntry = entry_of (c.in-Some.tx.now, c.in-Some.entry.now) in
    let lost : is_lost e ≡ true = sym (c.is_lost.ensures c.in-Some.tx.now) ∙ c.if-is_lost.true in
    let entries : List (ℕ × Entry) = c.tables.inside.transactions.entries in
    let taken = rest_more deref_pair c.loop-tx.tx-iterator c.next.new.self c.next.result (c.in-Some.tx, c.in-Some.entry) c.in-Some.is c.next.ensures.steps in
    let split : entries ≡ map deref_pair c.loop-tx.yielded ++ (c.in-Some.tx.now, c.in-Some.entry.now) ∷ c.next.new.self =
    sym gives.0 ∙ rest_so_far deref_pair c.loop-tx.yielded c.into_iter-tx-iterator.result c.loop-tx.tx-iterator c.loop-tx.yielded_by ∙ ap (λ es. map deref_pair c.loop-tx.yielded ++ es) taken in
    begun_others (history c.args.log.now) (losers_in c.args.tables.now) (lost_in (map entry_of (map deref_pair c.loop-tx.yielded))) (lost_in (map entry_of c.next.new.self)) e (loser_at c.loop-tx.rollback) _ c.loop-tx.invariant.begun
    (subst (Rise 0) (about c.loop-tx.yielded e _ c.next.new.self entries _ refl split refl lost) (lost_rise 0 (map entry_of entries) (rise entries gives.5)))

pub returns-in_err-resolve-clause-fault : goal.returns-in_err-resolve-clause-fault
returns-in_err-resolve-clause-fault c =
    let gives = c.into_iter-tx-iterator.ensures.into_iter_gives in
    let e : TableEntry = entry_of (c.in-Some.tx.now, c.in-Some.entry.now) in
    let lost : is_lost e ≡ true = sym (c.is_lost.ensures c.in-Some.tx.now) ∙ c.if-is_lost.true in
    let done : List TableEntry = map entry_of (map deref_pair c.loop-tx.yielded) in
    let same : lost_in (map entry_of c.tables.inside.transactions.entries) ≡ losers_in c.args.tables.now = ap losers_in c.tables.view_is in
    let turn =
    btree_map_turn deref_pair c.loop-tx.yielded c.into_iter-tx-iterator.result c.loop-tx.tx-iterator c.next.new.self c.next.result (c.in-Some.tx, c.in-Some.entry)
    c.loop-tx.yielded_by c.in-Some.is c.next.ensures.steps {R = nat_cmp} nat_cmp_total c.tables.inside.transactions gives.0 gives.5 in
    let exit = err_from_is_err_and c.from_residual.result c.from_residual.ensures.1 in
    let taken = rest_more deref_pair c.loop-tx.tx-iterator c.next.new.self c.next.result (c.in-Some.tx, c.in-Some.entry) c.in-Some.is c.next.ensures.steps in
    let split : c.tables.inside.transactions.entries ≡ map deref_pair c.loop-tx.yielded ++ (c.in-Some.tx.now, c.in-Some.entry.now) ∷ c.next.new.self =
    sym gives.0 ∙ rest_so_far deref_pair c.loop-tx.yielded c.into_iter-tx-iterator.result c.loop-tx.tx-iterator c.loop-tx.yielded_by ∙ ap (λ es. map deref_pair c.loop-tx.yielded ++ es) taken in
    let losers : losers_in c.args.tables.now ≡ lost_in done ++ e ∷ lost_in (map entry_of c.next.new.self) =
    about c.loop-tx.yielded e _ c.next.new.self c.tables.inside.transactions.entries _ refl split same lost in
    let rises : Rise 0 (losers_in c.args.tables.now) = subst (Rise 0) same (lost_rise 0 (map entry_of c.tables.inside.transactions.entries) (rise c.tables.inside.transactions.entries gives.5)) in
    let earlier = stands_earlier 0 (lost_in done) (lost_in (map entry_of c.next.new.self)) e (subst (Rise 0) losers rises) in
    rw (exit.1, exit.2)
    (λ count. broken_start (history c.args.log.now) (losers_in c.args.tables.now) (lost_in done) (loser_at c.loop-tx.rollback) (loser_at c.resolve.new.self)
    (appended_records (history c.args.log.now) c.loop-tx.rollback.appended.items) (appended_records (history c.args.log.now) c.resolve.new.self.appended.items) c.next_lsn-end.result (omega (arith, c.next_lsn-end.ensures.next, size_of_log c.args.log.now))
    e (own c.in-Some.tx.now c.in-Some.entry.now c.tables.inside.transactions.entries (losers_in c.args.tables.now) same turn.1 lost) c.loop-tx.invariant.begun
    (λ t x lt some. earlier t x lt (sym (ap (entry_for t) losers) ∙ some)) count c.in_err-resolve.field-0.0 c.in_err-resolve.ensures.fault)

pub loop-tx-preserved-in-Continue-1 : goal.loop-tx-preserved-in-Continue-1
loop-tx-preserved-in-Continue-1 c =
    let gives = c.into_iter-tx-iterator.ensures.into_iter_gives in
    let e : TableEntry = entry_of (c.in-Some.tx.now, c.in-Some.entry.now) in
    let lost : is_lost e ≡ true = sym (c.is_lost.ensures c.in-Some.tx.now) ∙ c.if-is_lost.true in
    let done : List TableEntry = map entry_of (map deref_pair c.loop-tx.yielded) in
    let turn =
    btree_map_turn deref_pair c.loop-tx.yielded c.into_iter-tx-iterator.result c.loop-tx.tx-iterator c.next.new.self c.next.result (c.in-Some.tx, c.in-Some.entry)
    c.loop-tx.yielded_by c.in-Some.is c.next.ensures.steps {R = nat_cmp} nat_cmp_total c.tables.inside.transactions gives.0 gives.5 in
    let found = own c.in-Some.tx.now c.in-Some.entry.now c.tables.inside.transactions.entries (losers_in c.args.tables.now) (ap losers_in c.tables.view_is) turn.1 lost in
    let more = ap lost_in (one_more c.loop-tx.yielded c.in-Some.tx c.in-Some.entry) ∙ one_lost done e lost in
    record {
      begun =
          subst (λ es. Begun (history c.args.log.now) (losers_in c.args.tables.now) es (loser_at c.resolve.new.self) (appended_records (history c.args.log.now) c.resolve.new.self.appended.items)) (sym more)
          (begun_more (history c.args.log.now) (losers_in c.args.tables.now) (lost_in done) (loser_at c.loop-tx.rollback) (loser_at c.resolve.new.self)
          (appended_records (history c.args.log.now) c.loop-tx.rollback.appended.items) (appended_records (history c.args.log.now) c.resolve.new.self.appended.items) c.next_lsn-end.result (omega (arith, c.next_lsn-end.ensures.next, size_of_log c.args.log.now))
          e found c.loop-tx.invariant.begun c.in_ok-resolve.ensures.ok.resolved);
      numbers =
          subst (All (λ n. n < 2 ^ 32)) (sym (ap (map tx_in) more ∙ map_push tx_in (lost_in done) e))
          (All-push (λ n. n < 2 ^ 32) (map tx_in (lost_in done)) c.in-Some.tx.now c.loop-tx.invariant.numbers (omega arith));
      updates = c.in_ok-resolve.ensures.ok.updates c.loop-tx.invariant.updates;
      writable = λ counted. c.in_ok-resolve.ensures.ok.writable (some_tx c.in-Some.tx.now e (losers_in c.args.tables.now) counted found) (c.loop-tx.invariant.writable counted);
    }

-- a transaction in doubt is passed over
pub loop-tx-preserved : goal.loop-tx-preserved
loop-tx-preserved c =
    let e : TableEntry = entry_of (c.in-Some.tx.now, c.in-Some.entry.now) in
    let kept : is_lost e ≡ false = sym (c.is_lost.ensures c.in-Some.tx.now) ∙ c.if-is_lost.false in
    let more = ap lost_in (one_more c.loop-tx.yielded c.in-Some.tx c.in-Some.entry) ∙ none_lost (map entry_of (map deref_pair c.loop-tx.yielded)) e kept in
    record {
      begun = subst (λ es. Begun (history c.args.log.now) (losers_in c.args.tables.now) es (loser_at c.loop-tx.rollback) (appended_records (history c.args.log.now) c.loop-tx.rollback.appended.items)) (sym more) c.loop-tx.invariant.begun;
      numbers = subst (λ es. All (λ n. n < 2 ^ 32) (map tx_in es)) (sym more) c.loop-tx.invariant.numbers;
      updates = c.loop-tx.invariant.updates;
      writable = c.loop-tx.invariant.writable;
    }

-- at the end all losers have been taken
all_taken : (c : goal.In-None) → lost_in (map entry_of (map deref_pair c.loop-tx.yielded)) ≡ losers_in c.args.tables.now
all_taken c =
    let gives = c.into_iter-tx-iterator.ensures.into_iter_gives in
    let all =
    iter_end deref_pair c.tables.inside.transactions.entries c.loop-tx.yielded c.into_iter-tx-iterator.result c.loop-tx.tx-iterator c.next.new.self c.next.result gives.0 c.loop-tx.yielded_by c.in-None.is c.next.ensures.steps in
    ap (λ es. lost_in (map entry_of es)) all.0 ∙ ap losers_in c.tables.view_is

-- and their numbers ascend
in_order : (c : goal.In-None) → Rise 0 (losers_in c.args.tables.now)
in_order c =
    let gives = c.into_iter-tx-iterator.ensures.into_iter_gives in
    subst (Rise 0) (ap losers_in c.tables.view_is) (lost_rise 0 (map entry_of c.tables.inside.transactions.entries) (rise c.tables.inside.transactions.entries gives.5))

pub returns-clause-ok : goal.returns-clause-ok
returns-clause-ok c = λ count.
    let log = history c.args.log.now in
    let losers = losers_in c.args.tables.now in
    let rollback = c.loop-tx.rollback in
    let appended = appended_records log rollback.appended.items in
    let ends : AreEnds appended = subst AreEnds (sym c.loop-tx.invariant.begun.ends) (are_ends (filter (meets_nothing log) (lost_in (map entry_of (map deref_pair c.loop-tx.yielded))))) in
    record {
      left =
          begun_rolls log losers (loser_at rollback) appended (distinct 0 losers (in_order c))
          (subst (λ es. Begun log losers es (loser_at rollback) appended) (all_taken c) c.loop-tx.invariant.begun) count;
      updates = c.loop-tx.invariant.updates;
      exist = ends_name_no_page count appended ends;
      writable = c.loop-tx.invariant.writable;
    }

pub returns-clause-pages : goal.returns-clause-pages
returns-clause-pages c = λ given.
    let log = history c.args.log.now in
    let appended = appended_records log c.loop-tx.rollback.appended.items in
    ends_undo_nothing log appended given (subst AreEnds (sym c.loop-tx.invariant.begun.ends) (are_ends (filter (meets_nothing log) (lost_in (map entry_of (map deref_pair c.loop-tx.yielded))))))

pub returns-clause-few : goal.returns-clause-few
returns-clause-few c =
    omega (arith, ends_few (history c.args.log.now) (lost_in (map entry_of (map deref_pair c.loop-tx.yielded))), ap length c.loop-tx.invariant.begun.ends, length-map c.loop-tx.rollback.appended.items (record_of (history c.args.log.now)), ap length (all_taken c))

pub returns-clause-numbers : goal.returns-clause-numbers
returns-clause-numbers c = numbers_few (losers_in c.args.tables.now) (in_order c) (subst (λ ts. All (λ n. n < 2 ^ 32) (map tx_in ts)) (all_taken c) c.loop-tx.invariant.numbers)
