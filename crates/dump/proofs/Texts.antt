-- Texts put together entry by entry.
use Rattle.std.proofs.Common.{ℕ, zero, suc, ◌≡◌, ◌+◌, ◌<◌, List, [], ◌∷◌, ◌++◌, length, get_or, take, drop, refl, sym, ap, ◌∙◌, arith, append_assoc, append-nil, false, eqb, ne_eqb, if◌then◌else◌}
use Rattle.std.specs.Prelude.{◌==◌, codes}
use Rattle.std.specs.List.{flat_map}
use Rattle.std.proofs.lemmas.Grind.{flat_map-append}
use Rattle.std.proofs.lemmas.List.{take_more}
use Rattle.page.specs.Image.{Image}
use Rattle.dump.specs.declared.style.Style.{Style}
use Rattle.log_laws.specs.Records.{LogRecord, Update, Compensation, Commit, Abort, End, Prepare, CheckpointBegin, CheckpointEnd}
use Rattle.dump.specs.Line.{opening, closing, number_field}
use Rattle.dump.specs.Record.{kind_word, record_line, record_fields, short_fields, table_fields}
use Rattle.dump.specs.Tables.{listed}
use Rattle.dump.specs.Values.{IsPlain, escaped}
use Rattle.dump.specs.StoreLines.{slot_field, slot_fields}

-- one more entry
pub flat_map_more : {A : Type 0} (f : A → List ℕ) (xs : List A) (i : ℕ) (d : A) → i < length xs → flat_map f (take (suc i) xs) ≡ flat_map f (take i xs) ++ f (get_or xs i d)
flat_map_more f xs i d lt =
    let n : suc i ≡ i + 1 = omega arith in
    ap (λ k. flat_map f (take k xs)) n ∙ ap (flat_map f) (take_more xs i d lt) ∙ flat_map-append f (take i xs) (get_or xs i d ∷ [])
    ∙ ap (λ ys. flat_map f (take i xs) ++ ys) (append-nil (f (get_or xs i d)))

-- in a list with something between the entries
pub listed_more : {E : Type 0} (between : List ℕ) (spell : E → List ℕ) (es : List E) (i : ℕ) (d : E) → i < length es
    → listed between spell (take (suc i) es) ≡ listed between spell (take i es) ++ ((if i == 0 then [] else between) ++ spell (get_or es i d))
listed_more between spell [] i d lt = absurd (omega (arith, lt))
listed_more between spell (e ∷ es) zero d lt = append-nil (spell e)
listed_more between spell (e ∷ es) (suc i) d lt =
    let behind : eqb (suc i) 0 ≡ false = ne_eqb (suc i) 0 (λ is. omega (arith, is)) in
    rw behind (ap (λ ys. spell e ++ ys) (flat_map_more (λ other. between ++ spell other) es i d (omega arith))
    ∙ sym (append_assoc (spell e) (flat_map (λ other. between ++ spell other) (take i es)) (between ++ spell (get_or es i d))))

-- for the slots of a page
pub slot_fields_more : (style : Style) (slots : List Image) (from i : ℕ) (d : Image) → i < length slots
    → slot_fields style from (take (suc i) slots) ≡ slot_fields style from (take i slots) ++ slot_field style (from + i) (get_or slots i d)
slot_fields_more style [] from i d lt = absurd (omega (arith, lt))
slot_fields_more style (s ∷ ss) from zero d lt =
    let n : from ≡ from + 0 = omega arith in
    append-nil (slot_field style from s) ∙ ap (λ n. slot_field style n s) n
slot_fields_more style (s ∷ ss) from (suc i) d lt =
    let n : from + 1 + i ≡ from + suc i = omega arith in
    ap (λ ys. slot_field style from s ++ ys) (slot_fields_more style ss (from + 1) i d (omega arith))
    ∙ sym (append_assoc (slot_field style from s) (slot_fields style (from + 1) (take i ss)) (slot_field style (from + 1 + i) (get_or ss i d)))
    ∙ ap (λ k. (slot_field style from s ++ slot_fields style (from + 1) (take i ss)) ++ slot_field style k (get_or ss i d)) n

-- what comes in front, what comes between and the entry, each after the one before
pub put_behind : (old front between entry text mid new : List ℕ) → text ≡ old ++ front → mid ≡ text ++ between → new ≡ mid ++ entry → new ≡ old ++ (front ++ (between ++ entry))
put_behind old front between entry text mid new text_is mid_is new_is =
    new_is ∙ ap (λ xs. xs ++ entry) (mid_is ∙ ap (λ xs. xs ++ between) text_is) ∙ append_assoc (old ++ front) between entry ∙ append_assoc old front (between ++ entry)

-- the fields of a record: those of a bounded length, and its tables
pub fields_parts : (style : Style) (r : LogRecord) → record_fields style r ≡ short_fields style r ++ table_fields style r
fields_parts style (CheckpointEnd begin transactions dirty) = append_assoc (number_field style (codes "BeginLSN") begin) _ _
fields_parts style (Update u) = sym (append-nil _)
fields_parts style (Compensation k) = sym (append-nil _)
fields_parts style (Commit p) = sym (append-nil _)
fields_parts style (Abort p) = sym (append-nil _)
fields_parts style (End p) = sym (append-nil _)
fields_parts style (Prepare p) = sym (append-nil _)
fields_parts style CheckpointBegin = refl

parts : (old opened numbered short tables record_fields ending : List ℕ) → record_fields ≡ short ++ tables → ((old ++ ((opened ++ numbered) ++ short)) ++ tables) ++ ending ≡ old ++ (((opened ++ numbered) ++ record_fields) ++ ending)
parts old opened numbered short tables record_fields ending is = rw is (simp append_assoc)

-- the line of a record, put together part by part
pub record_written : (style : Style) (offset lsn : ℕ) (r : LogRecord) (old kind opened numbered short tables front ending new : List ℕ) → kind ≡ kind_word r → opened ≡ opening style offset kind
    → numbered ≡ opened ++ number_field style (codes "LSN") lsn → short ≡ numbered ++ short_fields style r → front ≡ old ++ short → tables ≡ front ++ table_fields style r → ending ≡ closing style
    → new ≡ tables ++ ending → new ≡ old ++ record_line style offset lsn r
record_written style offset lsn r old kind opened numbered short tables front ending new kind_is opened_is numbered_is short_is front_is tables_is ending_is new_is =
    let number = number_field style (codes "LSN") lsn in
    let numbered_all : numbered ≡ opening style offset (kind_word r) ++ number = numbered_is ∙ ap (λ l. l ++ number) (opened_is ∙ ap (opening style offset) kind_is) in
    let short_all = short_is ∙ ap (λ l. l ++ short_fields style r) numbered_all in
    let tables_all = tables_is ∙ ap (λ l. l ++ table_fields style r) (front_is ∙ ap (λ l. old ++ l) short_all) in
    new_is ∙ ap (λ l. tables ++ l) ending_is ∙ ap (λ l. l ++ closing style) tables_all
    ∙ parts old (opening style offset (kind_word r)) number (short_fields style r) (table_fields style r) (record_fields style r) (closing style) (fields_parts style r)

-- bytes of which the first are written as themselves between quotes
pub plain_stay : (style : Style) (bytes : List ℕ) (n : ℕ) → ((k : ℕ) → k < n → IsPlain (get_or bytes k 0)) → flat_map (escaped style) bytes ≡ take n bytes ++ flat_map (escaped style) (drop n bytes)
plain_stay style bytes zero each = refl
plain_stay style [] (suc n) each = refl
plain_stay style (byte ∷ bytes) (suc n) each =
    let (quote, other) = each 0 (omega arith) in
    let one : escaped style byte ≡ byte ∷ [] = rw (quote, other) refl in
    ap (λ l. l ++ flat_map (escaped style) bytes) one ∙ ap (λ l. byte ∷ l) (plain_stay style bytes n (λ k h. each (suc k) (omega arith)))
