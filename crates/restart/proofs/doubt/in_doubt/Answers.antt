use Rattle.std.proofs.Common.{ℕ, ◌≡◌, ◌++◌, List, ◌∷◌, [], true, false, cond, length, map, append-nil, refl, sym, ap, ◌∙◌, arith, Bor}
use Rattle.std.specs.Prelude.{filter}
use Rattle.std.proofs.lemmas.List.{map_push, map-append, length-map}
use Rattle.std.proofs.lemmas.List.Elements.{filter-append}
use Rattle.std.proofs.lemmas.List.Filters.{length-filter_both}
use Rattle.std.proofs.lemmas.Map.Iter.{iter_end}
use Rattle.std.specs.Map.Iter.{deref_pair}
use Rattle.wal.specs.declared.record.Entry.{Entry}
use Rattle.log_laws.specs.Records.{TableEntry, tx_in}
use Rattle.wal.specs.Content.{entry_of}
use Rattle.log_laws.specs.Undo.{is_prepared, is_lost, doubtful_in}
use Rattle.tables.specs.Tables.{TablesContent}
use Rattle.restart.proofs.doubt.in_doubt.Goals as goal

-- the transactions in doubt among the entries of the turns so far, and of one more turn
one_more : (yielded : List (Bor ℕ × Bor Entry)) (tx : Bor ℕ) (entry : Bor Entry)
    → doubtful_in (map entry_of (map deref_pair (yielded ++ (tx, entry) ∷ [])))
    ≡ doubtful_in (map entry_of (map deref_pair yielded)) ++ map tx_in (cond (is_prepared entry.now.state) (entry_of (tx.now, entry.now) ∷ []) [])
one_more yielded tx entry =
    let es : List TableEntry = map entry_of (map deref_pair yielded) in
    let e : TableEntry = entry_of (tx.now, entry.now) in
    ap (λ xs. doubtful_in (map entry_of xs)) (map_push deref_pair yielded (tx, entry))
    ∙ ap doubtful_in (map_push entry_of (map deref_pair yielded) (tx.now, entry.now))
    ∙ ap (map tx_in) (filter-append (λ (x : TableEntry). is_prepared x.state) es (e ∷ []))
    ∙ map-append tx_in (filter (λ (x : TableEntry). is_prepared x.state) es) (cond (is_prepared entry.now.state) (e ∷ []) [])

pub loop-tx-init : goal.loop-tx-init
loop-tx-init c = c.new-numbers.ensures.items

pub loop-tx-preserved-in-Continue-1 : goal.loop-tx-preserved-in-Continue-1
loop-tx-preserved-in-Continue-1 c =
    let prepared : is_prepared c.in-Some.entry.now.state ≡ true = sym c.is_prepared.ensures ∙ c.if-is_prepared.true in
    let e : TableEntry = entry_of (c.in-Some.tx.now, c.in-Some.entry.now) in
    c.in_ok-push.ensures.items
    ∙ ap (λ ns. ns ++ c.in-Some.tx.now ∷ []) c.loop-tx.invariant
    ∙ sym (one_more c.loop-tx.yielded c.in-Some.tx c.in-Some.entry ∙ ap (λ b. doubtful_in (map entry_of (map deref_pair c.loop-tx.yielded)) ++ map tx_in (cond b (e ∷ []) [])) prepared)

pub loop-tx-preserved : goal.loop-tx-preserved
loop-tx-preserved c =
    let other : is_prepared c.in-Some.entry.now.state ≡ false = sym c.is_prepared.ensures ∙ c.if-is_prepared.false in
    let e : TableEntry = entry_of (c.in-Some.tx.now, c.in-Some.entry.now) in
    let so_far : List ℕ = doubtful_in (map entry_of (map deref_pair c.loop-tx.yielded)) in
    c.loop-tx.invariant
    ∙ sym (one_more c.loop-tx.yielded c.in-Some.tx c.in-Some.entry ∙ ap (λ b. so_far ++ map tx_in (cond b (e ∷ []) [])) other ∙ append-nil so_far)

-- at the end these are all
all_told : (c : goal.In-None) → c.loop-tx.numbers.items ≡ doubtful_in c.args.tables.now.transactions
all_told c =
    let gives = c.into_iter-tx-iterator.ensures.into_iter_gives in
    let all =
    iter_end deref_pair c.tables.inside.transactions.entries c.loop-tx.yielded c.into_iter-tx-iterator.result c.loop-tx.tx-iterator c.next.new.self c.next.result gives.0 c.loop-tx.yielded_by c.in-None.is c.next.ensures.steps in
    c.loop-tx.invariant ∙ ap (λ es. doubtful_in (map entry_of es)) all.0 ∙ ap (λ (t : TablesContent). doubtful_in t.transactions) c.tables.view_is

pub returns-clause-ok : goal.returns-clause-ok
returns-clause-ok c = all_told c

pub returns-clause-others : goal.returns-clause-others
returns-clause-others c =
    let es : List TableEntry = c.args.tables.now.transactions in
    let told : length c.loop-tx.numbers.items ≡ length (filter (λ (x : TableEntry). is_prepared x.state) es) =
    ap length (all_told c) ∙ length-map (filter (λ (x : TableEntry). is_prepared x.state) es) tx_in in
    omega (arith, told, length-filter_both (λ (x : TableEntry). is_prepared x.state) is_lost (λ x. refl) es)
