use Rattle.std.proofs.Common.{◌≡◌, ℕ, List, [], get_or, set, length, refl, sym, ap, ◌∙◌, arith}
use Rattle.std.proofs.lemmas.List.{get_or_read_under}
use Rattle.audit.specs.declared.block_index.BlockIndex.{BlockIndex}
use Rattle.audit.specs.BlockIndex.{tag_of, bucket_of}
use Rattle.audit.proofs.BlockIndex.{put_keeps}
use Rattle.audit.proofs.block_index.BlockIndex.insert.Goals as goal

pub returns-in-Some-clause-others : goal.returns-in-Some-clause-others
returns-in-Some-clause-others c =
    let old : BlockIndex = c.args.self.now in
    let home : ℕ = c.in-Some.home in
    let entry : ℕ = c.in-Some.entry in
    let free = c.in-Some.ensures.free in
    let tags : List ℕ = c.index_mut.result.now in
    let places : List ℕ = c.index_mut-in-Some.result.now in
    let tags_are : tags ≡ get_or old.tags.items home [] = get_or_read_under old.tags.items home (length old.tags.items) tags [] c.index_mut.ensures.value free.1 refl in
    let places_are : places ≡ get_or old.places.items home [] = get_or_read_under old.places.items home (length old.places.items) places [] c.index_mut-in-Some.ensures.value (omega (arith, free.1, c.requires.sized)) refl in
    λ n p ne kept.
    put_keeps old _ c.args.number c.args.place home entry
    (record {
      home = free.0 ∙ ap (bucket_of old) c.hash-hash.ensures;
      bucket_within = free.1;
      sized = c.requires.sized;
      entry_within = free.2;
      free = free.3;
      tags_count = ap (λ (x : List ℕ). length x) (sym tags_are) ∙ c.put_tag.ensures.count;
      places_count = ap (λ (x : List ℕ). length x) (sym places_are) ∙ c.put_place.ensures.count;
      tags = ap (set old.tags.items home) (c.put_tag.ensures.put ∙ (ap (λ (x : List ℕ). set x entry c.tag.result) tags_are ∙ ap (set (get_or old.tags.items home []) entry) (c.tag.ensures ∙ ap tag_of c.hash-hash.ensures)));
      places = ap (set old.places.items home) (c.put_place.ensures.put ∙ ap (λ (x : List ℕ). set x entry c.args.place) places_are);
      others = refl;
    }) n p kept
