-- What a command line may ask for.
use Rattle.std.specs.Prelude.{◌≡◌, ℕ, ◌≤◌, Bool, true, false, List, [], Option, Some, None, String, IsSomeAnd, IsTrue, ◌↔◌, codes, decimal, is_none, option_map, string_bytes, ⊤}
use Rattle.std.specs.declared.alloc.Global.{Global}
use Rattle.clap.specs.Words.{Row, Text, fault_of, first_of, one_of, subcommand_of}
use Rattle.command.specs.declared.job.Job.{Job}
use Rattle.command.specs.declared.job.Job.TheVariants.{Recover, RecoverInPlace, Audit}
use Rattle.words.specs.Flags.{IsFlagOf}
use Rattle.words.specs.declared.refusal.Refusal.{Refusal}
use Rattle.words.specs.declared.refusal.Refusal.TheVariants.{Memory}
use Rattle.command.specs.Line.{aries_line}
use Rattle.restart.specs.Options.{AreInRange}
use Rattle.restart.specs.declared.options.Options.{Options}
use Rattle.redo.specs.declared.parting.TheConstants.{PARTS}
use Rattle.redo.specs.declared.rounds.TheConstants.{WORKERS}

-- its numbers are in their ranges
abbrev pub HasRanges : Job → Type 0
HasRanges (Recover log store out_log out_store options may_be_one verbose) = AreInRange options
HasRanges (RecoverInPlace log store out_store options may_be_one verbose) = AreInRange options
HasRanges (Audit log store base verbose) = ⊤

-- a file's name
abbrev pub FileName : Type 0
FileName = String Global

-- the values name the file of the new store; or they name none, and it replaces the old one, as the flag says
abbrev pub NamesNewStore : (values : List Row) → (out_store : Option FileName) → Type 0
NamesNewStore values out_store =
    (first_of (codes "out-store") values ≡ option_map string_bytes out_store)
    × IsFlagOf values (codes "replace") (is_none out_store)

-- the command is the job's, and the values of its options name the job's files and no other
abbrev pub NamesFiles : (command : Text) → (values : List Row) → Job → Type 0
NamesFiles command values (Recover log store out_log out_store options may_be_one verbose) =
    (command ≡ codes "recover")
    × (first_of (codes "log") values ≡ Some (string_bytes log))
    × (first_of (codes "store") values ≡ Some (string_bytes store))
    × IsFlagOf values (codes "in-place") false
    × (first_of (codes "out-log") values ≡ Some (string_bytes out_log))
    × NamesNewStore values (Some out_store)
NamesFiles command values (RecoverInPlace log store out_store options may_be_one verbose) =
    (command ≡ codes "recover")
    × (first_of (codes "log") values ≡ Some (string_bytes log))
    × (first_of (codes "store") values ≡ Some (string_bytes store))
    × IsFlagOf values (codes "in-place") true
    × (first_of (codes "out-log") values ≡ None)
    × NamesNewStore values out_store
NamesFiles command values (Audit log store base verbose) =
    (command ≡ codes "audit")
    × (first_of (codes "log") values ≡ Some (string_bytes log))
    × (first_of (codes "store") values ≡ Some (string_bytes store))
    × (first_of (codes "base") values ≡ option_map string_bytes base)

-- the job has the command of the words, and the files that they name
abbrev pub HasFiles : (words : List Text) → Job → Type 0
HasFiles words job = IsSomeAnd (subcommand_of aries_line words) (λ found. NamesFiles found.0 found.1 job)

-- by `clap`'s definition of a parse no word is wrong or missing, and none asks for help or the version
abbrev pub IsFaultless : (words : List Text) → Type 0
IsFaultless words = fault_of aries_line words ≡ []

-- the words are faultless, and the job has their command and files
abbrev pub AsksFor : (words : List Text) → Job → Type 0
AsksFor words job = IsFaultless words × HasFiles words job

-- if the option's value is a number of 1 to `most` in decimal digits, without a sign, n is that number
abbrev pub IsNumberOf : (values : List Row) → (option : Text) → (most : ℕ) → (n : ℕ) → Type 0
IsNumberOf values option most n =
    (given : ℕ) → 1 ≤ given → given ≤ most → one_of option values ≡ Some (decimal given) → n ≡ given

-- the values of the options give the numbers of a recovery, and the number of workers is open if they give none
abbrev pub GivesOptions : (values : List Row) → Options → (may_be_one : Bool) → Type 0
GivesOptions values options may_be_one =
    IsNumberOf values (codes "workers") WORKERS options.workers
    × (IsTrue may_be_one ↔ (first_of (codes "workers") values ≡ None))
    × IsNumberOf values (codes "parts") PARTS options.parts

-- the values of the options give the job's numbers
abbrev pub GivesNumbers : (values : List Row) → Job → Type 0
GivesNumbers values (Recover log store out_log out_store options may_be_one verbose) = GivesOptions values options may_be_one
GivesNumbers values (RecoverInPlace log store out_store options may_be_one verbose) = GivesOptions values options may_be_one
GivesNumbers values (Audit log store base verbose) = ⊤

-- the job has the numbers that the words give, or the defaults of the line
abbrev pub HasNumbers : (words : List Text) → Job → Type 0
HasNumbers words job = IsSomeAnd (subcommand_of aries_line words) (λ found. GivesNumbers found.1 job)

-- whether the job is verbose
abbrev pub verbose_of : Job → Bool
verbose_of (Recover log store out_log out_store options may_be_one verbose) = verbose
verbose_of (RecoverInPlace log store out_store options may_be_one verbose) = verbose
verbose_of (Audit log store base verbose) = verbose

-- a job is as verbose as these values of the command's options say
abbrev pub SaysVerbose : (values : List Row) → Job → Type 0
SaysVerbose values job = IsFlagOf values (codes "verbose") (verbose_of job)

-- only values that name no files of a job are refused, if memory is not
abbrev pub RefusesOthers : (command : Text) → (values : List Row) → Refusal → Type 0
RefusesOthers command values refusal = (job : Job) → NamesFiles command values job → refusal ≡ Memory

-- the job is verbose as the words say
abbrev pub HasFlag : (words : List Text) → Job → Type 0
HasFlag words job = IsSomeAnd (subcommand_of aries_line words) (λ found. SaysVerbose found.1 job)
