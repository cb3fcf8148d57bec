-- Which records are asked for (own).
use Rattle.std.specs.Prelude.{ℕ, Bool, true, false, ◌==◌, ◌&&◌, not, nat_lt, Option, Some, None, option_map}
use Rattle.log_laws.specs.Records.{LogRecord}
use Rattle.log_laws.specs.Meaning.{owner, change_of}
use Rattle.dump.specs.declared.choice.Choice.{Choice}

-- a number is the one that is asked for; if none is asked for, any number and none will do
abbrev pub meets : (asked number : Option ℕ) → Bool
meets None number = true
meets (Some asked) None = false
meets (Some asked) (Some number) = asked == number

-- the record of a log with this LSN is between the smallest and the largest that are asked for, and is of the transaction and on the page
-- that are
abbrev pub is_asked_for : Choice → (lsn : ℕ) → LogRecord → Bool
is_asked_for choice lsn r =
    not (nat_lt lsn choice.from) && (not (nat_lt choice.to lsn)
    && (meets choice.transaction (owner r) && meets choice.page (option_map (λ c. c.page) (change_of r))))
