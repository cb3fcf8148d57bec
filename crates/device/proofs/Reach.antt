-- How far a device is read without a gap, by one reading after another.
use Rattle.std.proofs.Common.{ℕ, ◌+◌, ◌≤◌, List, ap, arith, length}
use Rattle.std.specs.declared.option.Option.{Option}
use Rattle.std.specs.declared.option.Option.TheVariants.{None, Some}
use Rattle.std.specs.Io.KnownBytes.{Keeps}
use Rattle.device.specs.Reread.{EndsBy, IsReadThrough, ReachesTo, ReachGrows, ReachJoins}

-- it stays if nothing is read
pub grows_none : (text : Option (List ℕ)) (a : ℕ) → ReachGrows text a a
grows_none None a = tt
grows_none (Some held) a = omega arith

-- a device that is read as far as to an offset is read as far as to a lower one
pub reach_below : (text : Option (List ℕ)) (offset lower a : ℕ) → lower ≤ offset → ReachesTo text offset a → ReachesTo text lower a
reach_below None offset lower a low far = tt
reach_below (Some held) offset lower a low far = omega (arith, low, far)

-- it never becomes less
pub grows_on : (before now : Option (List ℕ)) (a b c : ℕ) → Keeps before now → ReachGrows before a b → ReachGrows now b c → ReachGrows before a c
grows_on None now a b c kept first next = tt
grows_on (Some held) None a b c kept first next = absurd kept
grows_on (Some held) (Some same) a b c kept first next = omega (arith, first, next)

-- a reading that joins what joined
pub joins_on : (before now : Option (List ℕ)) (a b c offset f n : ℕ) → Keeps before now
    → ReachJoins before a b offset f → ReachJoins now b c (offset + f) n → ReachJoins before a c offset (f + n)
joins_on None now a b c offset f n kept first next = tt
joins_on (Some held) None a b c offset f n kept first next = absurd kept
joins_on (Some held) (Some same) a b c offset f n kept first next = λ starts. omega (arith, next (first starts))

-- it stays joined
pub joins_still : (before now : Option (List ℕ)) (a b c offset f : ℕ) → Keeps before now
    → ReachJoins before a b offset f → ReachGrows now b c → ReachJoins before a c offset f
joins_still None now a b c offset f kept first next = tt
joins_still (Some held) None a b c offset f kept first next = absurd kept
joins_still (Some held) (Some same) a b c offset f kept first next = λ starts. omega (arith, first starts, next)

-- THE NEXT BYTES are read, of a device that holds what it held
pub reach_on : (before now : Option (List ℕ)) (m n offset count : ℕ) → Keeps before now → ReachesTo before offset m → ReachJoins now m n offset count
    → ReachesTo before (offset + count) n
reach_on None now m n offset count kept far joins = tt
reach_on (Some held) None m n offset count kept far joins = absurd kept
reach_on (Some held) (Some same) m n offset count kept far joins = joins far

-- and the last ones
pub read_all : (before now : Option (List ℕ)) (m offset : ℕ) → Keeps before now → ReachesTo before offset m → EndsBy now offset → IsReadThrough before m
read_all None now m offset kept far end = tt
read_all (Some held) None m offset kept far end = absurd kept
read_all (Some held) (Some same) m offset kept far end = omega (arith, far, end, ap (λ (bytes : List ℕ). length bytes) kept)

-- all stay read
pub read_still : (before now : Option (List ℕ)) (m n : ℕ) → Keeps before now → IsReadThrough before m → ReachGrows now m n → IsReadThrough before n
read_still None now m n kept read grows = tt
read_still (Some held) None m n kept read grows = absurd kept
read_still (Some held) (Some same) m n kept read grows = omega (arith, read, grows)

-- before anything is read
pub reach_none : (text : Option (List ℕ)) (m : ℕ) → ReachesTo text 0 m
reach_none None m = tt
reach_none (Some held) m = omega arith
