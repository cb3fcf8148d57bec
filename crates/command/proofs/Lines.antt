-- What a parse of the command line of `aries` finds.
use Rattle.std.proofs.Common.{◌≡◌, ◌⊎◌, inl, inr, refl, subst, sym, true, false, map, List, [], ◌∷◌, Option, Some, None, codes, option_map, IsSomeAnd, Bool, ap, string_bytes}
use Rattle.clap.proofs.OnLiterals.{clap_on_literals}
use Rattle.clap.specs.declared.parser.matches.ArgMatches.{ArgMatches}
use Rattle.clap.specs.Words.{App, HasMatchesOf, Row, Text, fault_of, is_simple, is_simple_and_free, one_of, subcommand_name_of, subcommand_of, subcommand_rows_of}
use Rattle.clap.specs.declared.error.kind.ErrorKind.TheVariants.{MissingRequiredArgument}
use Rattle.words.proofs.Parses.{rows_met}
use Rattle.command.specs.Job.{FileName, HasFiles, IsFaultless, NamesFiles}
use Rattle.command.specs.Line.{aries_line, audit_line, recover_line}
use Rattle.command.specs.declared.job.Job.{Job}
use Rattle.restart.specs.declared.options.Options.{Options}
use Rattle.command.specs.declared.job.Job.TheVariants.{Recover, RecoverInPlace, Audit}

pub is_simple-aries_line : is_simple aries_line ≡ true
unfolding clap_on_literals aries_line recover_line audit_line
is_simple-aries_line = refl

-- a job's command
abbrev IsCommand : Text → Type 0
IsCommand name = (name ≡ codes "recover") ⊎ (name ≡ codes "audit")

-- what names a job's files is a job's command
command_is : {B : Type 0} (o : Option B) (found : B → Text × List Row) (job : Job) → IsSomeAnd (option_map found o) (λ p. NamesFiles p.0 p.1 job)
    → IsSomeAnd (option_map (λ b. (found b).0) o) IsCommand
command_is None found job names = absurd names
command_is (Some b) found (Recover log store out_log out_store options may_be_one verbose) names = inl names.0
command_is (Some b) found (RecoverInPlace log store out_store options may_be_one verbose) names = inl names.0
command_is (Some b) found (Audit log store base verbose) names = inr names.0

-- so a parse of words that give a job its files entered `recover` or `audit`
pub job_command : (matches : ArgMatches) (words : List Text) (line : App) (job : Job) (name : Option Text) → line ≡ aries_line → HasMatchesOf line words matches
    → subcommand_name_of matches ≡ name → HasFiles words job → IsSomeAnd name IsCommand
job_command matches words line job name line_is has name_is files =
    let same : subcommand_rows_of matches ≡ subcommand_of aries_line words = rows_met matches words line aries_line is_simple-aries_line line_is has in
    subst (λ o. IsSomeAnd o IsCommand) name_is (command_is _ _ job (subst (λ o. IsSomeAnd o (λ p. NamesFiles p.0 p.1 job)) (sym same) files))

pub is_free-aries_line : is_simple_and_free aries_line ≡ true
unfolding clap_on_literals aries_line recover_line audit_line
is_free-aries_line = refl

-- there are faultless words
words_without_fault : IsFaultless (map codes ("aries" ∷ "audit" ∷ "--log" ∷ "a" ∷ "--store" ∷ "b" ∷ []))
unfolding clap_on_literals aries_line recover_line audit_line
words_without_fault = refl

-- the words of a recovery in place
words_in_place : List Text
words_in_place = map codes ("aries" ∷ "recover" ∷ "--in-place" ∷ "--log" ∷ "a" ∷ "--store" ∷ "b" ∷ "--replace" ∷ [])

in_place_without_fault : IsFaultless words_in_place
unfolding clap_on_literals aries_line recover_line audit_line words_in_place
in_place_without_fault = refl

-- which ask for it
in_place_named : (log store : FileName) (options : Options) (may_be_one verbose : Bool) → string_bytes log ≡ codes "a" → string_bytes store ≡ codes "b"
    → HasFiles words_in_place (RecoverInPlace log store None options may_be_one verbose)
unfolding clap_on_literals aries_line recover_line audit_line words_in_place
in_place_named log store options may_be_one verbose log_is store_is =
    let given : (name : Text) (file : FileName) → string_bytes file ≡ name → Some name ≡ Some (string_bytes file) = λ name file is. ap (λ (t : Text). Some t) (sym is) in
    (refl, given _ log log_is, given _ store store_is, (λ _. refl, λ _. refl), refl, (refl, (λ _. refl, λ _. refl)))

-- no values ask for both a recovery into new files and one in place
not_both : (command : Text) (values : List Row) (log store out_log out_store log' store' : FileName) (new : Option FileName) (options options' : Options) (may_be_one may_be_one' verbose verbose' : Bool)
    → NamesFiles command values (Recover log store out_log out_store options may_be_one verbose)
    → NamesFiles command values (RecoverInPlace log' store' new options' may_be_one' verbose') → ⊥
not_both command values log store out_log out_store log' store' new options options' may_be_one may_be_one' verbose verbose' names names' =
    let set : false ≡ true = names.3.1 (names'.3.0 refl) in cc

-- and words that are at fault
words_at_fault : fault_of aries_line (map codes ("aries" ∷ "audit" ∷ "--log" ∷ "a" ∷ [])) ≡ MissingRequiredArgument ∷ []
unfolding clap_on_literals aries_line recover_line audit_line
words_at_fault = refl

-- a flag on the line has the value true
flag_given : option_map (λ p. one_of (codes "verbose") p.1)
    (subcommand_of aries_line (map codes ("aries" ∷ "audit" ∷ "--log" ∷ "a" ∷ "--verbose" ∷ "--store" ∷ "b" ∷ [])))
    ≡ Some (Some (codes "true"))
unfolding clap_on_literals aries_line recover_line audit_line
flag_given = refl

-- and one that is not on it the value false
flag_left_out : option_map (λ p. one_of (codes "verbose") p.1)
    (subcommand_of aries_line (map codes ("aries" ∷ "audit" ∷ "--log" ∷ "a" ∷ "--store" ∷ "b" ∷ [])))
    ≡ Some (Some (codes "false"))
unfolding clap_on_literals aries_line recover_line audit_line
flag_left_out = refl
