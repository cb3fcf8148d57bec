-- A rollback at its start: what is appended, and which losers wait, after the losers so far have been resolved.
use Rattle.std.specs.Prelude.{◌≡◌, ℕ, ◌⊎◌, List, [], ◌∷◌, map, filter, Some, Bool, true, ⊤}
use Rattle.log_laws.specs.Records.{TableEntry, tx_in, LogRecord, End, History}
use Rattle.log_laws.specs.Hops.{hops}
use Rattle.log_laws.specs.Tail.{is_empty, is_among}
use Rattle.log_laws.specs.Undo.{entry_for, walk_of, last_in}
use Rattle.undo.specs.declared.losers.Loser.{Loser}
use Rattle.undo.specs.Turns.{Waiting}
use Rattle.undo.specs.Rollback.{Waits, IsDone, IsWaiting}

abbrev pub met_by : History → List TableEntry → ℕ → List ℕ
met_by log losers t = (walk_of log (entry_for t losers)).met

abbrev pub last_by : List TableEntry → ℕ → ℕ
last_by losers t = last_in (entry_for t losers)

abbrev pub meets_nothing : History → TableEntry → Bool
meets_nothing log e = is_empty (hops e.tx log e.undo_next).met

abbrev pub end_of : TableEntry → LogRecord
end_of e = End (record { tx = e.tx; prev = e.last })

abbrev pub AreEnds : List LogRecord → Type 0
AreEnds [] = ⊤
AreEnds (End s ∷ rs) = AreEnds rs
AreEnds (_ ∷ rs) = ⊥

-- the losers of `done` wait, or have ended
pub record Begun (log : History) (losers done : List TableEntry) (at : Waiting) (appended : List LogRecord) : Type 0 where
  pub ends : appended ≡ map end_of (filter (meets_nothing log) done)
  pub waits : (n : ℕ) (l : Loser) → at n ≡ Some l → Waits log losers (met_by log losers) (last_by losers) n l
  pub known : (n : ℕ) (l : Loser) → at n ≡ Some l → is_among l.tx (map tx_in done) ≡ true
  pub each : (t : ℕ) → is_among t (map tx_in done) ≡ true → IsDone log losers (met_by log losers) t ⊎ IsWaiting at t
