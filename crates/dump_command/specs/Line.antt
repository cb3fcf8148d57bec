-- The command line of `aries_dump`: its commands and their options.
use Rattle.std.specs.Prelude.{[], ◌∷◌, Some, codes, pos, true, false}
use Rattle.clap.specs.Words.{App, Rule, Shape, Text, new_rule}
use Rattle.clap.specs.Simple.{new_shape}
use Rattle.clap.specs.declared.builder.value_parser.ValueParser.TheVariants.{Signed, Unsigned}
use Rattle.words.specs.Flags.{flag_rule}

-- `FILE`, which has to be given
abbrev pub path_rule : Rule
path_rule = record (new_rule (codes "FILE")) { required = true }

-- `--name LSN`, with any number of 64 bits
abbrev pub lsn_rule : Text → Rule
lsn_rule name = record (new_rule name) { long = Some name; value_names = 1; parser = Some (Unsigned 0 18446744073709551615) }

-- `--name N`, with any number of 32 bits
abbrev pub number_rule : Text → Rule
number_rule name = record (new_rule name) { long = Some name; value_names = 1; parser = Some (Signed (pos 0) (pos 4294967295)) }

-- `aries_dump log`
unfoldable pub log_line : Shape
log_line = record (new_shape (codes "log")) {
  rules = path_rule
      ∷ lsn_rule (codes "from")
      ∷ lsn_rule (codes "to")
      ∷ number_rule (codes "transaction")
      ∷ number_rule (codes "page")
      ∷ flag_rule (codes "json")
      ∷ [];
}

-- `aries_dump store`
unfoldable pub store_line : Shape
store_line = record (new_shape (codes "store")) { rules = path_rule ∷ number_rule (codes "page") ∷ flag_rule (codes "json") ∷ [] }

-- the whole line: `aries_dump --version`, or one of the two commands
unfoldable pub dump_line : App
dump_line = record {
  top = record (new_shape (codes "aries_dump")) {
    has_version = true;
    subcommand_required = true;
    is_leaf = false;
  };
  subs = log_line ∷ store_line ∷ [];
}
