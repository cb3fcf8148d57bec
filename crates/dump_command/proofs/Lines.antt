-- What a parse of the command line of `aries_dump` finds.
use Rattle.std.proofs.Common.{ℕ, ◌≡◌, ◌⊎◌, ◌<◌, ◌^◌, inl, inr, refl, subst, sym, true, map, List, [], ◌∷◌, Option, Some, None, codes, option_map, IsSomeAnd}
use Rattle.clap.proofs.OnLiterals.{clap_on_literals}
use Rattle.clap.specs.declared.parser.matches.ArgMatches.{ArgMatches}
use Rattle.clap.specs.Words.{App, HasMatchesOf, Row, Text, fault_of, is_simple, is_simple_and_free, one_of, subcommand_name_of, subcommand_of, subcommand_rows_of}
use Rattle.clap.specs.declared.error.kind.ErrorKind.TheVariants.{MissingRequiredArgument}
use Rattle.words.proofs.Parses.{rows_met}
use Rattle.dump_command.specs.Job.{HasFile, IsFaultless, NamesFile}
use Rattle.dump_command.specs.Line.{dump_line, log_line, store_line}
use Rattle.dump_command.specs.declared.job.Job.{Job}
use Rattle.dump_command.specs.declared.job.Job.TheVariants.{Log, Store}

pub is_simple-dump_line : is_simple dump_line ≡ true
unfolding clap_on_literals dump_line log_line store_line
is_simple-dump_line = refl

pub is_free-dump_line : is_simple_and_free dump_line ≡ true
unfolding clap_on_literals dump_line log_line store_line
is_free-dump_line = refl

-- a job's command
abbrev IsCommand : Text → Type 0
IsCommand name = (name ≡ codes "log") ⊎ (name ≡ codes "store")

-- what names a job's file is a job's command
command_is : {B : Type 0} (o : Option B) (found : B → Text × List Row) (job : Job) → IsSomeAnd (option_map found o) (λ p. NamesFile p.0 p.1 job)
    → IsSomeAnd (option_map (λ b. (found b).0) o) IsCommand
command_is None found job names = absurd names
command_is (Some b) found (Log file from to transaction page is_json) names = inl names.0
command_is (Some b) found (Store file page is_json) names = inr names.0

-- so a parse of words that give a job its file entered `log` or `store`
pub job_command : (matches : ArgMatches) (words : List Text) (line : App) (job : Job) (name : Option Text) → line ≡ dump_line → HasMatchesOf line words matches
    → subcommand_name_of matches ≡ name → HasFile words job → IsSomeAnd name IsCommand
job_command matches words line job name line_is has name_is file =
    let same : subcommand_rows_of matches ≡ subcommand_of dump_line words = rows_met matches words line dump_line is_simple-dump_line line_is has in
    subst (λ o. IsSomeAnd o IsCommand) name_is (command_is _ _ job (subst (λ o. IsSomeAnd o (λ p. NamesFile p.0 p.1 job)) (sym same) file))

-- there are faultless words
words_without_fault : IsFaultless (map codes ("aries_dump" ∷ "log" ∷ "a" ∷ "--page" ∷ "7" ∷ "--json" ∷ []))
unfolding clap_on_literals dump_line log_line store_line
words_without_fault = refl

-- and words that are at fault
words_at_fault : fault_of dump_line (map codes ("aries_dump" ∷ "store" ∷ [])) ≡ MissingRequiredArgument ∷ []
unfolding clap_on_literals dump_line log_line store_line
words_at_fault = refl

-- a flag on the line has the value true, and one that is not on it the value false
flag_given : option_map (λ p. one_of (codes "json") p.1) (subcommand_of dump_line (map codes ("aries_dump" ∷ "store" ∷ "a" ∷ "--json" ∷ []))) ≡ Some (Some (codes "true"))
unfolding clap_on_literals dump_line log_line store_line
flag_given = refl

flag_left_out : option_map (λ p. one_of (codes "json") p.1) (subcommand_of dump_line (map codes ("aries_dump" ∷ "store" ∷ "a" ∷ []))) ≡ Some (Some (codes "false"))
unfolding clap_on_literals dump_line log_line store_line
flag_left_out = refl

-- a number that is not on it has none
number_left_out : option_map (λ p. one_of (codes "page") p.1) (subcommand_of dump_line (map codes ("aries_dump" ∷ "store" ∷ "a" ∷ []))) ≡ Some None
unfolding clap_on_literals dump_line log_line store_line
number_left_out = refl
