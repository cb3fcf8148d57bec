-- The command line of `aries`: its commands and their options.
use Rattle.std.specs.Prelude.{ℕ, List, [], ◌∷◌, Option, Some, None, codes, pos, true, false}
use Rattle.clap.specs.Words.{App, Rule, Shape, Text, new_rule}
use Rattle.clap.specs.Simple.{new_shape}
use Rattle.clap.specs.declared.builder.value_parser.ValueParser.TheVariants.{Signed}
use Rattle.words.specs.Flags.{flag_rule}
use Rattle.redo.specs.declared.parting.TheConstants.{PARTS}
use Rattle.redo.specs.declared.rounds.TheConstants.{WORKERS}

-- `--name FILE`, which has to be given
abbrev pub file_rule : Text → Rule
file_rule name = record (new_rule name) { long = Some name; value_names = 1; required = true }

-- `--name FILE`, which may be left out
abbrev pub free_file_rule : Text → Rule
free_file_rule name = record (new_rule name) { long = Some name; value_names = 1 }

-- as a list of one or none
abbrev pub as_list : Option Text → List Text
as_list None = []
as_list (Some text) = text ∷ []

-- `--name N` with a number of 1 to `most`, which may be left out, and then has its default, if there is one
abbrev pub number_rule : Text → (most : ℕ) → (default : Option Text) → Rule
number_rule name most default = record (new_rule name) {
  long = Some name;
  value_names = 1;
  parser = Some (Signed (pos 1) (pos most));
  defaults = as_list default;
}

-- `aries recover`; `NamesFiles` says which of the optional options go together
unfoldable pub recover_line : Shape
recover_line = record (new_shape (codes "recover")) {
  rules = file_rule (codes "log")
      ∷ file_rule (codes "store")
      ∷ free_file_rule (codes "out-log")
      ∷ free_file_rule (codes "out-store")
      ∷ flag_rule (codes "in-place")
      ∷ flag_rule (codes "replace")
      ∷ number_rule (codes "workers") WORKERS None
      ∷ number_rule (codes "parts") PARTS (Some (codes "16"))
      ∷ flag_rule (codes "verbose")
      ∷ [];
}

-- `aries audit`
unfoldable pub audit_line : Shape
audit_line = record (new_shape (codes "audit")) {
  rules = file_rule (codes "log")
      ∷ file_rule (codes "store")
      ∷ free_file_rule (codes "base")
      ∷ flag_rule (codes "verbose")
      ∷ [];
}

-- the whole line: `aries --version`, or one of the two commands
unfoldable pub aries_line : App
aries_line = record {
  top = record (new_shape (codes "aries")) {
    has_version = true;
    subcommand_required = true;
    is_leaf = false;
  };
  subs = recover_line ∷ audit_line ∷ [];
}
