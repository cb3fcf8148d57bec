-- The tables of a checkpoint end within a line of a dump (own).
use Rattle.std.specs.Prelude.{ℕ, List, [], ◌∷◌, ◌++◌, ◌==◌, if◌then◌else◌, codes, decimal}
use Rattle.std.specs.List.{flat_map}
use Rattle.log_laws.specs.declared.state.State.{State}
use Rattle.log_laws.specs.declared.state.State.TheVariants.{Active, Aborting, Prepared}
use Rattle.log_laws.specs.Records.{TableEntry}
use Rattle.dump.specs.declared.style.Style.{Style}
use Rattle.dump.specs.declared.style.Style.TheVariants.{Text, Json}
use Rattle.dump.specs.Line.{named, number_field, word_field}

-- ENTRIES. An entry begins with the number that it is found by.
abbrev pub entry_opening : Style → (name : List ℕ) → ℕ → List ℕ
entry_opening Text name number = name ++ codes " " ++ decimal number
entry_opening Json name number = codes "{\"" ++ name ++ codes "\":" ++ decimal number

abbrev pub entry_closing : Style → List ℕ
entry_closing Text = []
entry_closing Json = codes "}"

abbrev pub state_word : State → List ℕ
state_word Active = codes "active"
state_word Aborting = codes "aborting"
state_word Prepared = codes "prepared"

abbrev pub transaction_entry : Style → TableEntry → List ℕ
transaction_entry style e =
    entry_opening style (codes "transaction") e.tx
    ++ word_field style (codes "state") (state_word e.state)
    ++ number_field style (codes "LastLSN") e.last
    ++ number_field style (codes "UndoNxtLSN") e.undo_next
    ++ entry_closing style

-- a page and its RecLSN
abbrev pub dirty_entry : Style → ℕ × ℕ → List ℕ
dirty_entry style d = entry_opening style (codes "page") d.0 ++ number_field style (codes "RecLSN") d.1 ++ entry_closing style

-- LISTS. What comes between two entries, and before the one at a place.
abbrev pub between : Style → List ℕ
between Text = codes "; "
between Json = codes ","

abbrev pub between_at : Style → (place : ℕ) → List ℕ
between_at style place = if place == 0 then [] else between style

-- the first entry, and the others, each after what comes between two
abbrev pub listed : {E : Type 0} → (between : List ℕ) → (E → List ℕ) → List E → List ℕ
listed between spell [] = []
listed between spell (entry ∷ entries) = spell entry ++ flat_map (λ other. between ++ spell other) entries

abbrev pub table_field : {E : Type 0} → Style → (name : List ℕ) → (Style → E → List ℕ) → List E → List ℕ
table_field style name spell entries = named style name ++ codes "[" ++ listed (between style) (spell style) entries ++ codes "]"
