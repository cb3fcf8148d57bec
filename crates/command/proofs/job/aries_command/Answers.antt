use Rattle.std.proofs.Common.{◌∙◌, ◌≡◌, ap, codes, refl, subst, sym, true, List, [], ◌∷◌}
use Rattle.std.proofs.lemmas.Result.{IfOk-weaker}
use Rattle.clap.specs.Simple.{app_of_fields}
use Rattle.clap.specs.declared.builder.command.Command.{Command}
use Rattle.clap.specs.Words.{AddsInTurn, AddsSubcommand, App, app_of, new_app}
use Rattle.command.specs.Line.{aries_line, audit_line, recover_line}
use Rattle.words.proofs.Parses.{command_added}
use Rattle.command.proofs.job.aries_command.Goals as goal

abbrev with_version : App → App
with_version line = record line { top = record line.top { has_version = true } }

abbrev with_need : App → App
with_need line = record line { top = record line.top { subcommand_required = true } }

pub returns : goal.returns
unfolding aries_line recover_line audit_line
returns c =
    let version_is : app_of c.version.result ≡ with_version (new_app (codes "aries")) =
    ap app_of_fields c.version.ensures ∙ ap with_version c.new.ensures.app in
    let about_is : app_of c.about.result ≡ with_version (new_app (codes "aries")) = ap app_of_fields c.about.ensures ∙ version_is in
    let help_is : app_of c.after_help.result ≡ with_version (new_app (codes "aries")) = ap app_of_fields c.after_help.ensures ∙ about_is in
    let none : app_of c.subcommand_required.result ≡ with_need (with_version (new_app (codes "aries"))) =
    ap app_of_fields c.subcommand_required.ensures ∙ ap with_need help_is in
    let both : List Command = c.in_ok-recover_command.field-0 ∷ c.in_ok-audit_command.field-0 ∷ [] in
    IfOk-weaker c.subcommands.result _ _ (λ command adds.
    let turn : AddsInTurn AddsSubcommand c.subcommand_required.result both command =
    subst (λ (commands : List Command). AddsInTurn AddsSubcommand c.subcommand_required.result commands command) c.in_ok-commands.ensures.items adds in
    let one = command_added _ _ turn.0 _ _ turn.1 refl none c.in_ok-recover_command.ensures in
    sym (ap app_of turn.2.2) ∙ command_added _ _ turn.2.0 _ _ turn.2.1 refl one c.in_ok-audit_command.ensures) c.subcommands.ensures
