-- What a parse of a command line finds.
use Rattle.std.proofs.Common.{ℕ, ◌≡◌, ◌∙◌, ◌⊎◌, ◌↔◌, ◌<◌, ◌^◌, inl, inr, ap, ap₂, refl, subst, sym, true, false, Bool, IsTrue, List, [], Option, Some, None, codes, option_map, IsSomeAnd}
use Rattle.std.specs.Prelude.{Result, Ok, Err, IfErr, IsErrAnd, decimal, unwrap_or}
use Rattle.std.specs.Str.Parse.{ParsesBool, ParsesUnsigned}
use Rattle.std.proofs.lemmas.Fmt.{parse-decimal}
use Rattle.clap.proofs.SimpleLemmas.{plain_fields}
use Rattle.clap.specs.declared.builder.arg.Arg.{Arg}
use Rattle.clap.specs.declared.builder.command.Command.{Command}
use Rattle.clap.specs.declared.parser.matches.ArgMatches.{ArgMatches}
use Rattle.clap.specs.Words.{AddsArg, AddsSubcommand, App, HasMatchesOf, IsAmong, ReadsOne, Row, Rule, Shape, Text, app_of, fault_of, is_simple, is_simple_and_free, rule_of, shape_of, subcommand_name_of, subcommand_of, subcommand_rows_of, with_rule, with_subcommand}
use Rattle.clap.specs.declared.error.kind.ErrorKind.{ErrorKind}
use Rattle.clap.specs.declared.error.kind.ErrorKind.TheVariants.{OutOfMemory}

-- A COMMAND LINE IS PUT TOGETHER
-- a command with one more option
pub option_added : (old new : Command) (option : Arg) (line : App) (rule : Rule) → AddsArg old option new → option.global ≡ false
    → app_of old ≡ line → rule_of option ≡ rule → app_of new ≡ with_rule line rule
option_added old new option line rule adds local old_is option_is = adds.shape local ∙ ap₂ with_rule old_is option_is

-- a command with one more command below it
pub command_added : (old below new : Command) (line : App) (shape : Shape) → AddsSubcommand old below new → shape.is_plain ≡ true
    → app_of old ≡ line → shape_of below ≡ shape → app_of new ≡ with_subcommand line shape
command_added old below new line shape adds plain old_is below_is =
    adds.shape (plain_fields below (ap (λ (s : Shape). s.is_plain) below_is ∙ plain)).globals ∙ ap₂ with_subcommand old_is below_is

-- THE COMMAND THAT A PARSE ENTERED
-- what was found has this name and these rows, if its name and its rows are known one by one
name_and_rows : {B : Type 0} (o : Option B) (found : B → Text × List Row) (name : Text) (rows : List Row) → option_map (λ p. p.1) (option_map found o) ≡ Some rows
    → option_map (λ b. (found b).0) o ≡ Some name → option_map found o ≡ Some (name, rows)
name_and_rows None found name rows e f = cc
name_and_rows (Some b) found name rows e f =
    let x : (found b).0 ≡ name = cc in
    let y : (found b).1 ≡ rows = cc in
    λ i. Some (x i, y i)

-- what the words give, if the line has no setting that changes how they are read
pub rows_met : (matches : ArgMatches) (words : List Text) (line known : App) → is_simple known ≡ true → line ≡ known → HasMatchesOf line words matches
    → subcommand_rows_of matches ≡ subcommand_of known words
rows_met matches words line known simple line_is has = (has (ap is_simple line_is ∙ simple)).1 ∙ ap (λ a. subcommand_of a words) line_is

-- what the command line gives the command that a parse entered
command_met : (matches : ArgMatches) (words : List Text) (line known : App) (name : Text) (rows : List Row) → is_simple known ≡ true → line ≡ known
    → HasMatchesOf line words matches → subcommand_name_of matches ≡ Some name → option_map (λ p. p.1) (subcommand_rows_of matches) ≡ Some rows
    → subcommand_of known words ≡ Some (name, rows)
command_met matches words line known name rows simple line_is has name_is rows_are =
    sym (rows_met matches words line known simple line_is has) ∙ name_and_rows _ _ name rows rows_are name_is

-- what holds for the command that a parse entered and for its rows, holds for what the words give
pub given : (matches : ArgMatches) (words : List Text) (line known : App) (name : Text) (rows : List Row) (P : Text × List Row → Type 0) → is_simple known ≡ true
    → line ≡ known → HasMatchesOf line words matches → subcommand_name_of matches ≡ Some name → option_map (λ p. p.1) (subcommand_rows_of matches) ≡ Some rows
    → P (name, rows) → IsSomeAnd (subcommand_of known words) P
given matches words line known name rows P simple line_is has name_is rows_are holds =
    subst (λ o. IsSomeAnd o P) (sym (command_met matches words line known name rows simple line_is has name_is rows_are)) holds

-- and what holds for what the words give, holds for the command that a parse entered and for its rows
pub entered : (matches : ArgMatches) (words : List Text) (line known : App) (name : Text) (rows : List Row) (P : Text × List Row → Type 0) → is_simple known ≡ true
    → line ≡ known → HasMatchesOf line words matches → subcommand_name_of matches ≡ Some name → option_map (λ p. p.1) (subcommand_rows_of matches) ≡ Some rows
    → IsSomeAnd (subcommand_of known words) P → P (name, rows)
entered matches words line known name rows P simple line_is has name_is rows_are holds =
    subst (λ o. IsSomeAnd o P) (command_met matches words line known name rows simple line_is has name_is rows_are) holds

-- REFUSALS
-- what holds for the error that `?` made, holds for the error of the result
pub error_made : {T E : Type 0} (r : Result T E) (P Q : E → Type 0) → ((e : E) → P e → Q e) → IsErrAnd r P → IfErr r Q
error_made (Ok x) P Q weaker made = tt
error_made (Err e) P Q weaker made = weaker e made

-- a parse that succeeds found no fault
pub faultless : (line known : App) (words : List Text) → is_simple_and_free known ≡ true → line ≡ known → (is_simple_and_free line ≡ true → fault_of line words ≡ [])
    → fault_of known words ≡ []
faultless line known words free line_is none = ap (λ a. fault_of a words) (sym line_is) ∙ none (ap is_simple_and_free line_is ∙ free)

-- a parse of faultless words fails only for lack of memory
pub fails_by_memory : (line known : App) (words : List Text) (kind : ErrorKind) → is_simple_and_free known ≡ true → line ≡ known
    → (is_simple_and_free line ≡ true → (kind ≡ OutOfMemory) ⊎ IsAmong kind (fault_of line words)) → fault_of known words ≡ [] → kind ≡ OutOfMemory
fails_by_memory line known words kind free line_is fails none =
    elim (fails (ap is_simple_and_free line_is ∙ free)) [
      | inl is ↦ is
      | inr among ↦ absurd (subst (IsAmong kind) (ap (λ a. fault_of a words) line_is ∙ none) among)
    ]

-- FLAGS
-- a flag that is read from a text is set if and only if the text is `true`, and a flag without a text is not set
pub flag_read : (E : Type 0) (text : Option Text) (read : Option Bool) (flag : Bool) → flag ≡ unwrap_or read false → (text ≡ None → read ≡ None)
    → ((t : Text) → text ≡ Some t → ReadsOne (λ bs (r : Result Bool E). ParsesBool bs r) t read) → IsTrue flag ↔ (text ≡ Some (codes "true"))
flag_read E None (Some v) flag is none parses = absurd (let none_read : Some v ≡ None = none refl in cc)
flag_read E None None flag is none parses = (λ set. absurd cc, λ given. absurd cc)
flag_read E (Some t) None flag is none parses = (λ set. absurd cc, λ given. absurd ((parses t refl).1.0 cc))
flag_read E (Some t) (Some true) flag is none parses = (λ set. ap (λ (bs : Text). Some bs) (parses t refl), λ given. is)
flag_read E (Some t) (Some false) flag is none parses = (λ set. absurd cc, λ given. absurd (let false_read = parses t refl in cc))

-- NUMBERS
-- the decimal digits of a number are read as that number
pub digits_read : (bits : ℕ) (E : Type 0) (G : List ℕ → Result ℕ E → Type 0) (n : ℕ) (r : Option ℕ) → ReadsOne G (decimal n) r
    → ((text : List ℕ) (x : Result ℕ E) → G text x → ParsesUnsigned bits 10 text x) → n < 2 ^ bits → n < 2 ^ 64 → r ≡ Some n
digits_read bits E G n (Some v) h parses fits small =
    let is : ◌≡◌ {A = Result ℕ E} (Ok v) (Ok n) = parse-decimal bits n (decimal n) (Ok v) fits small refl (parses (decimal n) (Ok v) h) in
    cc
digits_read bits E G n None h parses fits small =
    let is : ◌≡◌ {A = Result ℕ E} (Err h.0) (Ok n) = parse-decimal bits n (decimal n) (Err h.0) fits small refl (parses (decimal n) (Err h.0) h.1) in
    cc
