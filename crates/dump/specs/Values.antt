-- What a slot holds, as a line of a dump shows it (own).
use Rattle.std.specs.Prelude.{◌≡◌, ◌≤◌, ◌-◌, ℕ, false, take, length, slice_index, List, [], ◌∷◌, ◌++◌, Some, None, ◌==◌, ◌||◌, nat_lt, if◌then◌else◌, codes}
use Rattle.std.specs.List.{flat_map}
use Rattle.hex.specs.Hex.{encode_lower}
use Rattle.page.specs.Image.{Image}
use Rattle.dump.specs.declared.style.Style.{Style}
use Rattle.dump.specs.declared.style.Style.TheVariants.{Text, Json}

-- what comes before the two digits of a byte that is not printable
abbrev pub lead : Style → List ℕ
lead Text = codes "\\x"
lead Json = codes "\\u00"

-- a byte between quotes: `"` and `\` after a `\`, others that are not printable ASCII by their digits
abbrev pub escaped : Style → ℕ → List ℕ
escaped style byte =
    if byte == 34 || byte == 92 then 92 ∷ byte ∷ []
    else if nat_lt byte 32 || nat_lt 126 byte then lead style ++ encode_lower (byte ∷ [])
    else byte ∷ []

-- a byte that is written as itself there
abbrev pub IsPlain : ℕ → Type 0
IsPlain byte = ((byte == 34 || byte == 92) ≡ false) × ((nat_lt byte 32 || nat_lt 126 byte) ≡ false)

-- eight bytes that begin with what a byte is between quotes, and end with the digit for how many bytes that has
pub record IsEscape (style : Style) (byte : ℕ) (entry : List ℕ) : Type 0 where
  pub size : length entry ≡ 8
  pub digit : 48 ≤ slice_index entry 7
  pub text : take (slice_index entry 7 - 48) entry ≡ escaped style byte
  pub short : slice_index entry 7 ≤ 54

abbrev pub quoted : Style → List ℕ → List ℕ
quoted style bytes = codes "\"" ++ flat_map (escaped style) bytes ++ codes "\""

-- a value: its bytes as text between quotes, and in hexadecimal
abbrev pub value : Style → List ℕ → List ℕ
value Text bytes = quoted Text bytes ++ codes " (" ++ encode_lower bytes ++ codes ")"
value Json bytes = codes "{\"text\":" ++ quoted Json bytes ++ codes ",\"hex\":\"" ++ encode_lower bytes ++ codes "\"}"

abbrev pub absent : Style → List ℕ
absent Text = codes "absent"
absent Json = codes "null"

abbrev pub image : Style → Image → List ℕ
image style None = absent style
image style (Some bytes) = value style bytes
