-- The parts of a line of a dump (own): the offset in the file of the thing that the line describes, what it is, and named fields; as text
-- for people, or as an object of JSON.
use Rattle.std.specs.Prelude.{ℕ, List, ◌++◌, codes, decimal}
use Rattle.page.specs.Image.{Image}
use Rattle.dump.specs.declared.style.Style.{Style}
use Rattle.dump.specs.declared.style.Style.TheVariants.{Text, Json}
use Rattle.dump.specs.Values.{image}

abbrev pub opening : Style → (offset : ℕ) → (kind : List ℕ) → List ℕ
opening Text offset kind = decimal offset ++ codes ": " ++ kind
opening Json offset kind = codes "{\"offset\":" ++ decimal offset ++ codes ",\"kind\":\"" ++ kind ++ codes "\""

abbrev pub closing : Style → List ℕ
closing Text = codes "\n"
closing Json = codes "}\n"

-- FIELDS. The name of a field, after others.
abbrev pub named : Style → List ℕ → List ℕ
named Text name = codes ", " ++ name ++ codes " "
named Json name = codes ",\"" ++ name ++ codes "\":"

abbrev pub number_field : Style → (name : List ℕ) → ℕ → List ℕ
number_field style name number = named style name ++ decimal number

abbrev pub word : Style → List ℕ → List ℕ
word Text text = text
word Json text = codes "\"" ++ text ++ codes "\""

abbrev pub word_field : Style → (name text : List ℕ) → List ℕ
word_field style name text = named style name ++ word style text

abbrev pub image_field : Style → (name : List ℕ) → Image → List ℕ
image_field style name held = named style name ++ image style held
