-- Options that are added to a command in turn.
use Rattle.std.proofs.Common.{◌≡◌, ◌∙◌, ap, sym, false, List, [], ◌∷◌}
use Rattle.std.specs.Bool.{⊤}
use Rattle.clap.specs.declared.builder.arg.Arg.{Arg}
use Rattle.clap.specs.declared.builder.command.Command.{Command}
use Rattle.clap.specs.Words.{AddsArg, AddsInTurn, App, Rule, app_of, rule_of, with_rule}
use Rattle.words.proofs.Parses.{option_added}

-- the options have these rules, and none of them is for the commands below too
abbrev pub HaveRules : List Arg → List Rule → Type 0
HaveRules [] [] = ⊤
HaveRules (option ∷ options) (rule ∷ rules) = (option.global ≡ false) × (rule_of option ≡ rule) × HaveRules options rules
HaveRules _ _ = ⊥

-- a line with these rules added to its top
abbrev pub with_rules : App → List Rule → App
with_rules line [] = line
with_rules line (rule ∷ rules) = with_rules (with_rule line rule) rules

-- a command with these options added has their rules
pub options_added : (old new : Command) (options : List Arg) (line : App) (rules : List Rule) → AddsInTurn AddsArg old options new → HaveRules options rules
    → app_of old ≡ line → app_of new ≡ with_rules line rules
options_added old new [] line [] adds have old_is = sym (ap app_of adds) ∙ old_is
options_added old new (option ∷ options) line (rule ∷ rules) adds have old_is =
    options_added adds.0 new options (with_rule line rule) rules adds.2 have.2 (option_added old adds.0 option line rule adds.1 have.0 old_is have.1)
options_added old new [] line (rule ∷ rules) adds have old_is = absurd have
options_added old new (option ∷ options) line [] adds have old_is = absurd have
