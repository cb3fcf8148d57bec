-- Each rule of an engine, broken alone, on worked examples: what is left then is not lawful.
use Rattle.std.proofs.Common.{◌≡◌, ◌≤◌, ℕ, List, [], ◌∷◌, Option, Some, None, inl, inr, sym, ap, subst, arith}
use Rattle.std.proofs.lemmas.List.Elements.{All-head}
use Rattle.page.specs.declared.page.Page.{Page}
use Rattle.log_laws.specs.Records.{TableEntry, CheckpointBegin, history}
use Rattle.log_laws.specs.Meaning.{no_base}
use Rattle.log_laws.specs.Checkpoint.{DirtyLaw}
use Rattle.log_laws.specs.Redo.{rec_lsn_of}
use Rattle.log_laws.specs.Pages.{PageLaw}
use Rattle.log_laws.specs.Store.{Lawful}
use Rattle.wal.proofs.Rows.{a, U, K, L, holding, store_of}
use Rattle.journal.specs.Traces.{forces, appends, KeepsRules}
use Rattle.journal.proofs.Rows.{opening, cleaned_log, older_unlawful}

-- THE LOG IN ORDER. The commit is forced before the update, and the update is lost: the commit names a record that is not there.
lost_update : Lawful no_base (L (K 1 1 ∷ [])) (store_of 0 (holding 0 None)) → ⊥
lost_update l = (let chain = l.log.1.chain in cc)

-- It is also against the rules to say that more is forced than there is.
forced_too_far : KeepsRules no_base (forces (appends opening (U 1 0 0 None a)) 2) → ⊥
forced_too_far k = (let within : 2 ≤ 1 = k.1 in omega (arith, within))

-- AS THE JOURNAL GAVE IT. The page has the PageLSN of the update, and not its value.
not_as_given : Lawful no_base (L (U 1 0 0 None a ∷ [])) (store_of 0 (holding 1 None)) → ⊥
not_as_given l =
    (let law : PageLaw no_base (history (L (U 1 0 0 None a ∷ []))) (holding 1 None) = All-head (PageLaw no_base (history (L (U 1 0 0 None a ∷ [])))) (holding 1 None) [] l.pages in
    let slots = law.slots_are in cc)

-- A COMPLETE CHECKPOINT. The master is set to a checkpoint without an end record.
not_ended : Lawful no_base (L (U 1 0 0 None a ∷ CheckpointBegin ∷ [])) (store_of 2 (holding 0 None)) → ⊥
not_ended l =
    elim l.checkpoint [
      | inl none ↦ absurd (omega (arith, none))
      | inr tables ↦ (let named = tables.named in cc)
    ]

abbrev dirty_in : Option (List TableEntry × List (ℕ × ℕ)) → List (ℕ × ℕ)
dirty_in None = []
dirty_in (Some tables) = tables.1

-- ITS CLEAN PAGES ARE ON THE DISK. The checkpoint's table does not list the page, since a newer image of it was reported; the disk has the
-- older one.
clean_and_older : Lawful no_base cleaned_log (store_of 2 (holding 0 None)) → ⊥
clean_and_older l =
    elim l.checkpoint [
      | inl none ↦ absurd (omega (arith, none))
      | inr tables ↦
          (let law = All-head (λ (page : Page). DirtyLaw (history cleaned_log) 2 page.number page.lsn (rec_lsn_of page.number tables.dirty)) (holding 0 None) [] tables.dirty_are in
          let none : tables.dirty ≡ [] = ap dirty_in (sym tables.named) in
          absurd (older_unlawful (subst (λ dirty. DirtyLaw (history cleaned_log) 2 0 0 (rec_lsn_of 0 dirty)) none law)))
    ]
