use Rattle.std.proofs.Common.{◌≡◌, ◌+◌, map, false, List, subst, sym, ap, ◌∙◌, true, arith}
use Rattle.std.specs.Prelude.{All}
use Rattle.std.specs.Map.Iter.{deref_pair}
use Rattle.std.proofs.lemmas.Map.Iter.{iter_end}
use Rattle.log_laws.specs.Records.{TableEntry, history, base_lsn, last_lsn, record_at}
use Rattle.wal.specs.Content.{entry_of}
use Rattle.log_laws.specs.Undo.{is_lost, lost_in}
use Rattle.tables.specs.Tables.{losers_in}
use Rattle.undo.specs.Gathered.{IsPassedOver}
use Rattle.undo.specs.Wants.{wants_in}
use Rattle.undo.specs.Gathering.{MayWant}
use Rattle.undo.proofs.Lost.{one_more, one_lost, none_lost}
use Rattle.undo.proofs.FirstWants.{Waits, one_waits, begun}
use Rattle.undo.proofs.gathering.Gathering.begin.Goals as goal

pub loop-tx-preserved-in-Continue-1 : goal.loop-tx-preserved-in-Continue-1
loop-tx-preserved-in-Continue-1 c =
    let e : TableEntry = entry_of (c.in-Some.tx.now, c.in-Some.entry.now) in
    let lost : is_lost e ≡ true = sym (c.is_lost.ensures c.in-Some.tx.now) ∙ c.if-is_lost.true in
    let done : List TableEntry = map entry_of (map deref_pair c.loop-tx.yielded) in
    let more = ap lost_in (one_more c.loop-tx.yielded c.in-Some.tx c.in-Some.entry) ∙ one_lost done e lost in
    let end : c.next_lsn-end.result ≡ c.args.base + c.args.count + 1 = omega (arith, c.next_lsn-end.ensures.next, c.none.ensures.last) in
    let same = c.go_on.ensures.same in
    record {
      base = ap (λ g. base_lsn (history g)) same ∙ c.loop-tx.invariant.base;
      last = ap (λ g. last_lsn (history g)) same ∙ c.loop-tx.invariant.last;
      none = λ lsn. subst (λ g. IsPassedOver (record_at (history g) lsn)) (sym same) (c.loop-tx.invariant.none lsn);
      waits =
          subst (All (Waits (c.args.base + c.args.count) (wants_in c.go_on.new.self.wants))) (sym more)
          (one_waits (c.args.base + c.args.count) (wants_in c.loop-tx.gathering.wants) (wants_in c.go_on.new.self.wants) (lost_in done) e
          (subst (λ from. MayWant c.in-Some.tx.now from c.in-Some.entry.now.undo_next (wants_in c.loop-tx.gathering.wants) (wants_in c.go_on.new.self.wants)) end c.in_ok-go_on.ensures.wants) c.loop-tx.invariant.waits);
      before = c.in_ok-go_on.ensures.below (c.args.base + c.args.count) (omega (arith, end)) c.loop-tx.invariant.before;
    }

-- a transaction in doubt is passed over
pub loop-tx-preserved : goal.loop-tx-preserved
loop-tx-preserved c =
    let e : TableEntry = entry_of (c.in-Some.tx.now, c.in-Some.entry.now) in
    let kept : is_lost e ≡ false = sym (c.is_lost.ensures c.in-Some.tx.now) ∙ c.if-is_lost.false in
    let more = ap lost_in (one_more c.loop-tx.yielded c.in-Some.tx c.in-Some.entry) ∙ none_lost (map entry_of (map deref_pair c.loop-tx.yielded)) e kept in
    record {
      base = c.loop-tx.invariant.base;
      last = c.loop-tx.invariant.last;
      none = c.loop-tx.invariant.none;
      waits = subst (All (Waits (c.args.base + c.args.count) (wants_in c.loop-tx.gathering.wants))) (sym more) c.loop-tx.invariant.waits;
      before = c.loop-tx.invariant.before;
    }

pub returns-clause-begun : goal.returns-clause-begun
returns-clause-begun c = λ whole base last.
    let gives = c.into_iter-tx-iterator.ensures.into_iter_gives in
    let all =
    iter_end deref_pair c.tables.inside.transactions.entries c.loop-tx.yielded c.into_iter-tx-iterator.result c.loop-tx.tx-iterator c.next.new.self c.next.result gives.0 c.loop-tx.yielded_by c.in-None.is c.next.ensures.steps in
    let taken : lost_in (map entry_of (map deref_pair c.loop-tx.yielded)) ≡ losers_in c.args.tables.now = ap (λ es. lost_in (map entry_of es)) all.0 ∙ ap losers_in c.tables.view_is in
    begun whole (history c.loop-tx.gathering.gathered) (losers_in c.args.tables.now) (wants_in c.loop-tx.gathering.wants) (c.loop-tx.invariant.base ∙ sym base) (c.loop-tx.invariant.last ∙ sym last) c.loop-tx.invariant.none
    (subst (λ n. All (Waits n (wants_in c.loop-tx.gathering.wants)) (losers_in c.args.tables.now)) (sym last)
    (subst (All (Waits (c.args.base + c.args.count) (wants_in c.loop-tx.gathering.wants))) taken c.loop-tx.invariant.waits))
