use Rattle.std.proofs.Common.{◌≡◌, ◌+◌, ◌<◌, ◌++◌, ◌∷◌, [], suc, ℕ, List, length, length-append, set, map, drop, sym, ap, ap₂, ◌∙◌, arith}
use Rattle.std.proofs.lemmas.List.{length-map, map-append}
use Rattle.std.proofs.lemmas.Map.Iter.{rest_more, rest_so_far}
use Rattle.std.specs.Map.Iter.{deref_pair}
use Rattle.wal.specs.declared.record.Entry.{Entry}
use Rattle.wal.specs.Content.{entry_of}
use Rattle.aries_c.specs.declared.checkpoint.Entry.{Entry as Told}
use Rattle.aries_c.specs.Tables.{told_entry}
use Rattle.aries_c.proofs.Places.{filled_next}
use Rattle.aries_c.proofs.unfinished.fill_unfinished.Goals as goal

-- the entries of a map, for C
abbrev told_of : List (ℕ × Entry) → List Told
told_of entries = map told_entry (map entry_of entries)

pub loop-tx-preserved : goal.loop-tx-preserved
loop-tx-preserved c =
    let gives = c.into_iter-tx-iterator.ensures.into_iter_gives in
    let entries : List (ℕ × Entry) = c.args.found.now.entries in
    let this : ℕ × Entry = (c.in-Some.tx.now, c.in-Some.entry.now) in
    let done : List (ℕ × Entry) = map deref_pair c.loop-tx.yielded in
    let n = c.loop-tx.place in
    let before : List Told = c.args.out.now in
    let taken = rest_more deref_pair c.loop-tx.tx-iterator c.next.new.self c.next.result (c.in-Some.tx, c.in-Some.entry) c.in-Some.is c.next.ensures.steps in
    let split : entries ≡ done ++ this ∷ c.next.new.self =
    sym gives.0 ∙ rest_so_far deref_pair c.loop-tx.yielded c.into_iter-tx-iterator.result c.loop-tx.tx-iterator c.loop-tx.yielded_by ∙ ap (λ es. done ++ es) taken in
    let place : n ≡ length done = omega (arith, c.loop-tx.invariant.0, length-map c.loop-tx.yielded deref_pair) in
    let long : n ≡ length (told_of done) = omega (arith, place, length-map done entry_of, length-map (map entry_of done) told_entry) in
    let room : n < length before = omega (arith, c.requires, ap (λ (es : List (ℕ × Entry)). length es) split, length-append done (this ∷ c.next.new.self), place) in
    let more : map deref_pair (c.loop-tx.yielded ++ (c.in-Some.tx, c.in-Some.entry) ∷ []) ≡ done ++ this ∷ [] = map-append deref_pair c.loop-tx.yielded ((c.in-Some.tx, c.in-Some.entry) ∷ []) in
    let told : told_of (map deref_pair (c.loop-tx.yielded ++ (c.in-Some.tx, c.in-Some.entry) ∷ [])) ≡ told_of done ++ told_entry (entry_of this) ∷ [] =
    ap told_of more ∙ ap (λ (l : List _). map told_entry l) (map-append entry_of done (this ∷ [])) ∙ map-append told_entry (map entry_of done) (entry_of this ∷ []) in
    let next : suc n ≡ n + 1 = omega arith in (
      omega (arith, c.loop-tx.invariant.0, length-append c.loop-tx.yielded ((c.in-Some.tx, c.in-Some.entry) ∷ [])),
      ap₂ (λ (l : List Told) (v : Told). set l n v) c.loop-tx.invariant.1 c.entry_told.ensures
          ∙ filled_next (told_of done) before n (told_entry (entry_of this)) long room
          ∙ ap₂ (λ (l : List Told) (m : ℕ). l ++ drop m before) (sym told) next,
    )
