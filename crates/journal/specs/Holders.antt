-- Which transaction holds a cell (own).
use Rattle.std.specs.Prelude.{◌≡◌, ℕ, Option, Some, None, true}
use Rattle.log_laws.specs.Meaning.{is_unfinished, finished, touches}
use Rattle.journal.specs.Runs.{Run, log_of}

-- HOLDER. An unfinished transaction holds a cell if it has an update or a CLR there; if none holds it, all that have one have finished.
abbrev pub IsHolder : Run → (page slot : ℕ) → Option ℕ → Type 0
IsHolder run page slot None = (t : ℕ) → touches t page slot (log_of run) ≡ true → finished t (log_of run) ≡ true
IsHolder run page slot (Some t) = (is_unfinished t (log_of run) ≡ true) × (touches t page slot (log_of run) ≡ true)
