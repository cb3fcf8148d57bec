-- The last writer of a cell, and what it leaves there.
use Rattle.std.proofs.Common.{◌≡◌, ◌≤◌, ℕ, suc, refl, ap, ◌∙◌, inl, inr, arith, eq-eqb}
use Rattle.std.proofs.lemmas.Bool.{cases_Bool}
use Rattle.log_laws.specs.Records.{History, start, ◌▸◌, last_lsn, record_at}
use Rattle.log_laws.specs.Meaning.{BasePages, replay, writes}
use Rattle.log_laws.proofs.Histories.{record_older}
use Rattle.audit.specs.Cells.{image_or, last_write}

pub last_write_within : (page slot : ℕ) (log : History) → last_write page slot log ≤ last_lsn log
last_write_within page slot (start _) = omega arith
last_write_within page slot (log ▸ r) =
    elim (cases_Bool (writes page slot r)) [
      | inl e ↦ rw e (omega arith)
      | inr e ↦ rw e (omega (arith, last_write_within page slot log))
    ]

pub image_in_last : (base : BasePages) (page slot : ℕ) (log : History) → image_or (base.cells page slot) (record_at log (last_write page slot log)) ≡ replay base log page slot
image_in_last base page slot (start _) = refl
image_in_last base page slot (log ▸ r) =
    elim (cases_Bool (writes page slot r)) [
      | inl e ↦ rw (e, eq-eqb (suc (last_lsn log)) (suc (last_lsn log)) refl) refl
      | inr e ↦ rw e (ap (image_or (base.cells page slot)) (record_older log r (last_write page slot log) (last_write_within page slot log)) ∙ image_in_last base page slot log)
    ]
