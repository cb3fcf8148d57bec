-- Undo of a lawful log by true tables: the tail, and no error but a lack of memory.
use Rattle.std.proofs.Common.{◌≡◌, ◌<◌, List, length, refl, sym, ap, ◌∙◌, arith}
use Rattle.page.specs.declared.fault.Fault.{Fault}
use Rattle.page.specs.declared.fault.Fault.TheVariants.{NoResource, NoSuchPage, BrokenChain}
use Rattle.page.specs.declared.page.Page.{Page}
use Rattle.log_laws.specs.Records.{Update, history, LogContent}
use Rattle.log_laws.specs.Tail.{tail_of}
use Rattle.log_laws.specs.Undo.{entry_for, walk_of, lost_in, undone_by}
use Rattle.log_laws.specs.Theorems.{UndoesAll}
use Rattle.log_laws.proofs.Undone.{undo_is_tail}
use Rattle.tables.specs.Tables.{TablesContent, losers_in}
use Rattle.undo.specs.Undone.{UndoFault, IsLawfulCrash}

module _ (read : LogContent) (tables : TablesContent) (pages : List Page) (crash : IsLawfulCrash read tables pages) where
  undoes_all : UndoesAll (history read)
  undoes_all = undo_is_tail crash.base read crash.lawful.log

  pub tail_is : undone_by (history read) (losers_in tables) ≡ tail_of read
  tail_is = ap (λ es. undone_by (history read) (lost_in es)) crash.are_true.unfinished ∙ undoes_all.appended

  pub memory_alone : (e : Fault) → UndoFault (history read) (losers_in tables) (length pages) e → e ≡ NoResource
  memory_alone NoResource h = refl
  memory_alone (NoSuchPage n) h =
      absurd (let named : h.update.page < length crash.store.pages = crash.lawful.names_pages n (Update h.update) h.is_met.found in
      omega (arith, named, h.missing, crash.as_many))
  memory_alone (BrokenChain n) h =
      absurd (h.bad (sym h.ends ∙ ap (λ es. (walk_of (history read) (entry_for h.loser (lost_in es))).ends) crash.are_true.unfinished ∙ undoes_all.no_bad_hop h.loser))
  memory_alone _ h = absurd h
