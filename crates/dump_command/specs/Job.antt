-- What a command line of `aries_dump` may ask for.
use Rattle.std.specs.Prelude.{◌≡◌, ℕ, ◌<◌, ◌^◌, List, [], Option, Some, None, IsSomeAnd, codes, decimal, string_bytes}
use Rattle.clap.specs.Words.{Row, Text, fault_of, first_of, one_of, subcommand_of}
use Rattle.dump_command.specs.declared.job.Job.{Job}
use Rattle.dump_command.specs.declared.job.Job.TheVariants.{Log, Store}
use Rattle.words.specs.Flags.{IsFlagOf}
use Rattle.dump_command.specs.Line.{dump_line}

-- the command is the job's, and the value after it names the job's file
abbrev pub NamesFile : (command : Text) → (values : List Row) → Job → Type 0
NamesFile command values (Log file from to transaction page is_json) = (command ≡ codes "log") × (first_of (codes "FILE") values ≡ Some (string_bytes file))
NamesFile command values (Store file page is_json) = (command ≡ codes "store") × (first_of (codes "FILE") values ≡ Some (string_bytes file))

-- if the option has no value there is no number; if its value is a number below the limit in decimal digits, that is the number
pub record IsGiven (limit : ℕ) (values : List Row) (option : Text) (number : Option ℕ) : Type 0 where
  pub none : one_of option values ≡ None → number ≡ None
  pub some : (given : ℕ) → given < limit → one_of option values ≡ Some (decimal given) → number ≡ Some given

-- the values of the options give the job's numbers and its flag
abbrev pub GivesNumbers : (values : List Row) → Job → Type 0
GivesNumbers values (Log file from to transaction page is_json) =
    IsGiven (2 ^ 64) values (codes "from") from
    × IsGiven (2 ^ 64) values (codes "to") to
    × IsGiven (2 ^ 32) values (codes "transaction") transaction
    × IsGiven (2 ^ 32) values (codes "page") page
    × IsFlagOf values (codes "json") is_json
GivesNumbers values (Store file page is_json) = IsGiven (2 ^ 32) values (codes "page") page × IsFlagOf values (codes "json") is_json

-- the job has the command of the words, and the file that they name
abbrev pub HasFile : (words : List Text) → Job → Type 0
HasFile words job = IsSomeAnd (subcommand_of dump_line words) (λ found. NamesFile found.0 found.1 job)

-- the job has the numbers and the flag that the words give
abbrev pub HasNumbers : (words : List Text) → Job → Type 0
HasNumbers words job = IsSomeAnd (subcommand_of dump_line words) (λ found. GivesNumbers found.1 job)

-- by `clap`'s definition of a parse no word is wrong or missing, and none asks for help or the version
abbrev pub IsFaultless : (words : List Text) → Type 0
IsFaultless words = fault_of dump_line words ≡ []

-- the words are faultless, and the job has their command and file
abbrev pub AsksFor : (words : List Text) → Job → Type 0
AsksFor words job = IsFaultless words × HasFile words job
