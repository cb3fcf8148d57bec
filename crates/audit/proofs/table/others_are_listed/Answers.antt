use Rattle.std.proofs.Common.{ℕ, List, ◌≡◌, true, Some, None, Option, get_or, eqb-true, map, refl, sym, ap, subst, ◌∙◌}
use Rattle.std.proofs.lemmas.Bool.{iff_false, false≢true}
use Rattle.std.proofs.lemmas.Cmp.{nat_cmp_total}
use Rattle.std.proofs.lemmas.List.{map_push}
use Rattle.std.proofs.lemmas.List.Elements.{All-push}
use Rattle.std.proofs.lemmas.Map.Entries.{place_from_lookup}
use Rattle.std.proofs.lemmas.Map.Iter.{btree_map_turn, iter_end}
use Rattle.std.proofs.lemmas.Option.{slice_get_within, get_or_from_slice_get}
use Rattle.std.specs.Prelude.{All, is_some}
use Rattle.std.specs.Ordering.{nat_cmp, is_eq}
use Rattle.std.specs.BTreeSet.{contains}
use Rattle.std.specs.Map.{lookup}
use Rattle.std.specs.Map.Iter.{deref_pair}
use Rattle.log_laws.specs.Records.{History}
use Rattle.log_laws.specs.Meaning.{is_unfinished}
use Rattle.wal.proofs.Entries.{is_eq-nat_cmp}
use Rattle.audit.specs.declared.status.Status.{Status}
use Rattle.audit.proofs.table.others_are_listed.Goals as goal

pub returns-then-not-is_listed : goal.returns-then-not-is_listed
returns-then-not-is_listed c = λ log links stands.
    let t : ℕ = c.in-Some.tx.now in
    let turn =
    btree_map_turn deref_pair c.loop-tx.yielded c.into_iter-tx-iterator.result c.loop-tx.tx-iterator c.next.new.self c.next.result (c.in-Some.tx, c.in-Some.field-0-1)
    c.loop-tx.yielded_by c.in-Some.is c.next.ensures.steps {R = nat_cmp} nat_cmp_total c.args.standings.now.unfinished.others c.into_iter-tx-iterator.ensures.into_iter_gives.0 c.into_iter-tx-iterator.ensures.into_iter_gives.5 in
    (λ f. absurd (false≢true f), λ all. absurd (iff_false (c.is_listed.ensures log links (stands t)) c.if-not-is_listed.true (all t (ap is_some turn.1))))

pub loop-tx-preserved : goal.loop-tx-preserved
loop-tx-preserved c = λ log links stands.
    let t : ℕ = c.in-Some.tx.now in
    let P = λ (e : ℕ × Status). is_unfinished e.0 log ≡ true → contains nat_cmp c.args.listed.now e.0 ≡ true in
    subst (All P) (sym (map_push deref_pair c.loop-tx.yielded (c.in-Some.tx, c.in-Some.field-0-1)))
    (All-push P (map deref_pair c.loop-tx.yielded) (t, c.in-Some.field-0-1.now) (c.loop-tx.invariant log links stands) ((c.is_listed.ensures log links (stands t)).0 c.if-not-is_listed.false))

pub returns : goal.returns
returns c = λ log links stands.
    let gives = c.into_iter-tx-iterator.ensures.into_iter_gives in
    let entries : List (ℕ × Status) = c.args.standings.now.unfinished.others.entries in
    let all =
    iter_end deref_pair entries c.loop-tx.yielded c.into_iter-tx-iterator.result c.loop-tx.tx-iterator c.next.new.self c.next.result gives.0 c.loop-tx.yielded_by c.in-None.is c.next.ensures.steps in
    let P = λ (e : ℕ × Status). is_unfinished e.0 log ≡ true → contains nat_cmp c.args.listed.now e.0 ≡ true in
    let each : All P entries = subst (All P) all.0 (c.loop-tx.invariant log links stands) in (
      λ yes t among live. known log each t live (lookup (λ k. is_eq (nat_cmp t k)) entries) refl among,
      λ listed. refl,
    )
  where
    known : (log : History) → All (λ (e : ℕ × Status). is_unfinished e.0 log ≡ true → contains nat_cmp c.args.listed.now e.0 ≡ true) c.args.standings.now.unfinished.others.entries → (t : ℕ) → is_unfinished t log ≡ true
        → (o : Option Status) → lookup (λ k. is_eq (nat_cmp t k)) c.args.standings.now.unfinished.others.entries ≡ o → is_some o ≡ true → contains nat_cmp c.args.listed.now t ≡ true
    known log each t live None e some = absurd (false≢true some)
    known log each t live (Some s) e some =
        let entries : List (ℕ × Status) = c.args.standings.now.unfinished.others.entries in
        let p = place_from_lookup (λ k. is_eq (nat_cmp t k)) entries s e in
        let same : t ≡ p.1 = eqb-true t p.1 (sym (is_eq-nat_cmp t p.1) ∙ p.3) in
        let at : get_or entries p.0 (p.1, s) ≡ (p.1, s) = get_or_from_slice_get entries p.0 (p.1, s) (p.1, s) p.2 in
        let own : (get_or entries p.0 (p.1, s)).0 ≡ t = ap (λ (x : ℕ × Status). x.0) at ∙ sym same in
        subst (λ n. contains nat_cmp c.args.listed.now n ≡ true) own (each p.0 (p.1, s) (slice_get_within entries p.0 (p.1, s) p.2) (ap (λ n. is_unfinished n log) own ∙ live))
