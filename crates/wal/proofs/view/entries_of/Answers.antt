use Rattle.std.proofs.Common.{List, [], ◌∷◌, ◌++◌, map, ap, sym, ◌∙◌, arith}
use Rattle.std.proofs.lemmas.List.{map_push}
use Rattle.log_laws.specs.Records.{TableEntry}
use Rattle.wal.specs.Content.{entry_of}
use Rattle.wal.proofs.Tables.{taken_more}
use Rattle.wal.proofs.view.entries_of.Goals as goal

pub loop-place-preserved : goal.loop-place-preserved
loop-place-preserved c =
    ap (map entry_of) c.in_ok-push.ensures.items
    ∙ map_push entry_of c.loop-place.entries.items c.entry.result
    ∙ ap (λ (xs : List TableEntry). xs ++ entry_of c.entry.result ∷ []) c.loop-place.invariant
    ∙ sym (taken_more c.args.table.now c.loop-place.place (entry_of c.entry.result) (omega arith) (c.entry.ensures (entry_of c.entry.result)))
