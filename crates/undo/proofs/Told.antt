-- Records in compact form, and the full records.
use Rattle.std.proofs.Common.{◌≡◌, List, All, map, sym, subst, arith}
use Rattle.std.proofs.lemmas.List.{get_or-map, length-map}
use Rattle.std.proofs.lemmas.List.Elements.{All-map}
use Rattle.wal.specs.declared.record.Record.{Record}
use Rattle.log_laws.specs.Records.{LogContent, history}
use Rattle.wal.specs.Content.{content}
use Rattle.wal.specs.Spelling.{Fits}
use Rattle.undo.specs.declared.appended.Appended.{Appended}
use Rattle.undo.specs.Undone.{AreWritable}
use Rattle.undo.specs.Appended.{record_of, appended_records, AreFit}

-- what is given in compact form has an encoding
pub told_fit : (log : LogContent) (told : List Appended) → AreFit log told → All Fits (appended_records (history log) told)
told_fit log told fit = All-map Fits (record_of (history log)) told fit

-- the full records have encodings
pub told_writable : (log : LogContent) (told : List Appended) (records : List Record) → map content records ≡ appended_records (history log) told → AreFit log told → AreWritable records
told_writable log told records is fit = λ k d lt.
    let all : All Fits (map content records) = subst (All Fits) (sym is) (told_fit log told fit) in
    subst Fits (get_or-map content records k d (content d) lt) (all k (content d) (omega (arith, lt, length-map records content)))
