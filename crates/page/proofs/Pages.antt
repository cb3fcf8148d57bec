-- The parts of a page's image.
use Rattle.std.proofs.Common.{◌≡◌, ℕ, ◌<◌, ◌^◌, List, ◌++◌, length, take, drop, sym, ap, ap₂, ◌∙◌, append_assoc, arith, refl}
use Rattle.std.specs.Int.{w32, w64, to_be_bytes}
use Rattle.std.proofs.lemmas.List.{take_at, drop_at, take-append-drop}
use Rattle.page.specs.declared.page.Page.{Page}
use Rattle.page.specs.Image.{Image, directory, header, body, SpellsPage}
use Rattle.page.specs.Parts.{SpellsSlots}
use Rattle.page.proofs.BigEndian.{same_32, same_64}
use Rattle.page.proofs.Slots.{length-directory}
use Rattle.page.specs.declared.sizes.TheConstants.{CELLS_AT, PAGE_HEADER_BYTES, DIRECTORY_BYTES}

-- header, directory and body of a page's encoding
pub record HasParts (front entries rest : List ℕ) (page : Page) : Type 0 where
  pub header : front ≡ header page.number page.lsn
  pub slots : SpellsSlots entries rest page.slots

pub page_parts : (bytes front behind entries rest : List ℕ) (page : Page) → SpellsPage bytes page
    → front ≡ take PAGE_HEADER_BYTES bytes → behind ≡ drop PAGE_HEADER_BYTES bytes → entries ≡ take DIRECTORY_BYTES behind → rest ≡ drop DIRECTORY_BYTES behind → HasParts front entries rest page
page_parts bytes front behind entries rest page s ef eb ee er =
    let first = header page.number page.lsn in
    let second = directory CELLS_AT page.slots in
    let third = body page.slots in
    let text : bytes ≡ first ++ (second ++ third) = s.text ∙ append_assoc first second third in
    let long : length second ≡ DIRECTORY_BYTES = omega (arith, length-directory CELLS_AT page.slots, s.fits.slots) in
    let after : behind ≡ second ++ third = eb ∙ ap (drop PAGE_HEADER_BYTES) text ∙ drop_at first (second ++ third) PAGE_HEADER_BYTES refl in
    record {
      header = ef ∙ ap (take PAGE_HEADER_BYTES) text ∙ take_at first (second ++ third) PAGE_HEADER_BYTES refl;
      slots = record {
        count = s.fits.slots;
        values = s.fits.values;
        directory = ee ∙ ap (take DIRECTORY_BYTES) after ∙ take_at second third DIRECTORY_BYTES long;
        body = er ∙ ap (drop DIRECTORY_BYTES) after ∙ drop_at second third DIRECTORY_BYTES long;
      };
    }

-- the three numbers of a header
pub same_header : (bytes : List ℕ) (a b c number lsn : ℕ) → bytes ≡ to_be_bytes w32 a ++ to_be_bytes w32 b ++ to_be_bytes w64 c → a < 2 ^ 32 → b < 2 ^ 32 → c < 2 ^ 64
    → bytes ≡ header number lsn → number < 2 ^ 32 → lsn < 2 ^ 64 → (a ≡ number) × (b ≡ 0) × (c ≡ lsn)
same_header bytes a b c number lsn read la lb lc e ln ll =
    let both : to_be_bytes w32 a ++ to_be_bytes w32 b ++ to_be_bytes w64 c ≡ header number lsn = sym read ∙ e in
    (same_32 a number la ln (ap (take 4) both), same_32 b 0 lb (omega arith) (ap (λ (t : List ℕ). take 4 (drop 4 t)) both), same_64 c lsn lc ll (ap (drop 8) both))

abbrev pub page_of : ℕ → ℕ → List Image → Page
page_of number lsn slots = record { number = number; lsn = lsn; slots = slots }

-- a page of these parts is this page
pub same_page : (page : Page) (number lsn : ℕ) (slots : List Image) → number ≡ page.number → lsn ≡ page.lsn → slots ≡ page.slots → page_of number lsn slots ≡ page
same_page page number lsn slots en el es = ap (λ n. page_of n lsn slots) en ∙ ap (λ n. page_of page.number n slots) el ∙ ap (page_of page.number page.lsn) es

-- a header and slots are a page
pub page_spelled : (bytes front behind entries rest : List ℕ) (number lsn : ℕ) (slots : List Image) → front ≡ take PAGE_HEADER_BYTES bytes → behind ≡ drop PAGE_HEADER_BYTES bytes → entries ≡ take DIRECTORY_BYTES behind → rest ≡ drop DIRECTORY_BYTES behind
    → front ≡ header number lsn → number < 2 ^ 32 → lsn < 2 ^ 64 → SpellsSlots entries rest slots → SpellsPage bytes (page_of number lsn slots)
page_spelled bytes front behind entries rest number lsn slots ef eb ee er text nl ll s = record {
  fits = record { number = nl; lsn = ll; slots = s.count; values = s.values };
  text = sym (take-append-drop PAGE_HEADER_BYTES bytes) ∙ ap₂ (λ (x y : List ℕ). x ++ y) (sym ef ∙ text) (sym eb ∙ sym (take-append-drop DIRECTORY_BYTES behind) ∙ ap₂ (λ (x y : List ℕ). x ++ y) (sym ee ∙ s.directory) (sym er ∙ s.body))
      ∙ sym (append_assoc (header number lsn) (directory CELLS_AT slots) (body slots));
}
