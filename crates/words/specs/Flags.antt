-- Options without a value.
use Rattle.std.specs.Prelude.{◌≡◌, ◌↔◌, List, Bool, IsTrue, Some, codes}
use Rattle.clap.specs.Words.{Row, Rule, Text, new_rule, one_of}
use Rattle.clap.specs.declared.builder.action.ArgAction.TheVariants.{SetTrue}

-- `--name`
abbrev pub flag_rule : Text → Rule
flag_rule name = record (new_rule name) { long = Some name; action = Some SetTrue }

-- the flag is set if and only if its value is true, as that of a flag on the line is
abbrev pub IsFlagOf : (values : List Row) → (option : Text) → (flag : Bool) → Type 0
IsFlagOf values option flag = IsTrue flag ↔ (one_of option values ≡ Some (codes "true"))
