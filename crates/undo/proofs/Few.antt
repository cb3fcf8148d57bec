-- How many records undo appends.
use Rattle.std.proofs.Common.{ℕ, suc, ◌≡◌, ◌+◌, ◌*◌, ◌-◌, ◌<◌, ◌≤◌, ◌^◌, ◌++◌, List, [], ◌∷◌, length, map, Some, ap, arith, inl, inr, eqb}
use Rattle.std.specs.Prelude.{All, filter}
use Rattle.std.specs.Map.{lookup}
use Rattle.std.proofs.lemmas.Bool.{cases_Bool}
use Rattle.std.proofs.lemmas.List.{length-append}
use Rattle.log_laws.specs.Records.{TableEntry, tx_in, LogRecord, End, History, last_lsn}
use Rattle.wal.proofs.Entries.{Rise}
use Rattle.undo.specs.declared.losers.Loser.{Loser}
use Rattle.undo.specs.Turns.{Waiting}
use Rattle.undo.specs.Rollback.{IsUpdateAt, Resolved}
use Rattle.undo.proofs.Begun.{meets_nothing, end_of}
use Rattle.undo.proofs.Placed.{height, height_least}
use Rattle.undo.proofs.Rolling.{update_within}

-- a list and one more item
pub one_more : {X : Type 0} (old new : List X) (x : X) → new ≡ old ++ x ∷ [] → length new ≡ length old + 1
one_more old new x e = omega (arith, ap length e, length-append old (x ∷ []))

-- at most one end for each loser that meets nothing
pub ends_few : (log : History) (es : List TableEntry) → length (map end_of (filter (meets_nothing log) es)) ≤ length es
ends_few log [] = omega arith
ends_few log (e ∷ es) =
    let few = ends_few log es in
    elim (cases_Bool (meets_nothing log e)) [
      | inl i ↦ rw i (omega (arith, few))
      | inr i ↦ rw i (omega (arith, few))
    ]

-- transactions have numbers of 32 bits, each once
risen_few : (low : ℕ) (es : List TableEntry) → Rise low es → All (λ n. n < 2 ^ 32) (map tx_in es) → low ≤ 2 ^ 32 → low + length es ≤ 2 ^ 32
risen_few low [] rises below h = omega (arith, h)
risen_few low (e ∷ es) rises below h =
    let here : e.tx < 2 ^ 32 = below 0 0 (omega arith) in
    let rest = risen_few (suc e.tx) es rises.1 (λ k d lt. below (suc k) d (omega (arith, lt))) (omega (arith, here)) in
    omega (arith, rest, rises.0)

pub numbers_few : (es : List TableEntry) → Rise 0 es → All (λ n. n < 2 ^ 32) (map tx_in es) → length es ≤ 2 ^ 32
numbers_few es rises below = omega (arith, risen_few 0 es rises below (omega arith))

-- a loser that is resolved again ends, or waits
pub resolved_few : (log : History) (l : Loser) (from lsn : ℕ) (old new : Waiting) (before after : List LogRecord) → Resolved log l from lsn old new before after → length after ≤ length before + 1
resolved_few log l from lsn old new before after r =
    elim r [
      | inl e ↦ omega (arith, one_more before after (End (record { tx = l.tx; prev = l.last })) e.appended)
      | inr s ↦ omega (arith, ap length s.appended)
    ]

-- losers that wait are not above this height
pub height_within : (log : History) (entries : List (ℕ × Loser)) → ((n : ℕ) (l : Loser) → lookup (eqb n) entries ≡ Some l → IsUpdateAt log l.tx n) → height entries ≤ last_lsn log + 1
height_within log entries updates = height_least (last_lsn log + 1) entries (λ n l e. omega (arith, update_within log l.tx n (updates n l e)))

-- a turn appends at most two records, and all losers that wait after it undo an earlier update next
pub turn_few : (base update_lsn high low before after most : ℕ) → base < update_lsn → update_lsn < high → low ≤ update_lsn → after ≤ before + 2 → before + 2 * (high - 1 - base) ≤ most → after + 2 * (low - 1 - base) ≤ most
turn_few base update_lsn high low before after most some above below two few = omega (arith, some, above, below, two, few)
