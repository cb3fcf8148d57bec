-- The lines of a store (own): its header, and the pages that are asked for.
use Rattle.std.specs.Prelude.{◌≡◌, ◌≢◌, ◌⊎◌, ℕ, zero, suc, ◌+◌, ◌*◌, ◌/◌, List, [], ◌∷◌, ◌++◌, Option, Some, None, length, take, if◌then◌else◌, codes, decimal, ⊤}
use Rattle.std.specs.List.{flat_map}
use Rattle.std.specs.Io.KnownBytes.{Appends, Keeps}
use Rattle.page.specs.Image.{Image, SpellsPage}
use Rattle.page.specs.File.{SpellsStore, StoreFault, images_of}
use Rattle.page.specs.Images.{image_of}
use Rattle.page.specs.declared.fault.Fault.{Fault}
use Rattle.page.specs.declared.fault.Fault.TheVariants.{NoResource, BadPage}
use Rattle.page.specs.Store.{StoreContent}
use Rattle.page.specs.declared.page.Page.{Page}
use Rattle.page.specs.declared.profile.TheConstants.{PAGE_BYTES}
use Rattle.page.specs.declared.sizes.TheConstants.{STORE_HEADER_BYTES}
use Rattle.dump.specs.declared.style.Style.{Style}
use Rattle.dump.specs.declared.stop.Stop.{Stop}
use Rattle.dump.specs.declared.stop.Stop.TheVariants as stop
use Rattle.dump.specs.Values.{value}
use Rattle.dump.specs.Line.{opening, closing, named, number_field}
use Rattle.dump.specs.Choice.{meets}

abbrev pub store_line : Style → StoreContent → List ℕ
store_line style store =
    opening style 0 (codes "store")
    ++ number_field style (codes "pages") (length store.pages)
    ++ number_field style (codes "master") store.master
    ++ closing style

-- the name of a slot's field
abbrev pub slot_name : Style → (slot : ℕ) → List ℕ
slot_name style slot = named style (codes "slot " ++ decimal slot)

-- a slot that holds a value
abbrev pub slot_field : Style → (slot : ℕ) → Image → List ℕ
slot_field style slot None = []
slot_field style slot (Some bytes) = slot_name style slot ++ value style bytes

-- the slots of a page from this number on
abbrev pub slot_fields : Style → (slot : ℕ) → List Image → List ℕ
slot_fields style slot [] = []
slot_fields style slot (held ∷ others) = slot_field style slot held ++ slot_fields style (slot + 1) others

-- a page, whose image is at its place
abbrev pub page_line : Style → Page → List ℕ
page_line style page =
    opening style (STORE_HEADER_BYTES + PAGE_BYTES * page.number) (codes "page")
    ++ number_field style (codes "number") page.number
    ++ number_field style (codes "PageLSN") page.lsn
    ++ slot_fields style 0 page.slots
    ++ closing style

abbrev pub page_if_asked : Style → Option ℕ → Page → List ℕ
page_if_asked style asked page = if meets asked (Some page.number) then page_line style page else []

-- all lines of a store, with only this page or with all of them
abbrev pub store_lines : Style → (asked : Option ℕ) → StoreContent → List ℕ
store_lines style asked store = store_line style store ++ flat_map (page_if_asked style asked) store.pages

-- WHAT A LISTING PRINTS. The lines of the store that these bytes are.
pub record ListsStore (style : Style) (asked : Option ℕ) (bytes : List ℕ) (old new : Option (List ℕ)) : Type 0 where
  pub store : StoreContent
  pub spells : SpellsStore bytes store
  pub printed : Appends old new (store_lines style asked store)

-- WHAT IS LEFT OF A DAMAGED STORE. What is listed for an image: the page of this number that it encodes, if it is asked for; nothing if it
-- encodes no page.
abbrev pub IsLineOf : Style → (asked : Option ℕ) → (image : List ℕ) → (number : ℕ) → (line : List ℕ) → Type 0
IsLineOf style asked image number line =
    ((page : Page) × SpellsPage image page × (page.number ≡ number) × (line ≡ page_if_asked style asked page))
    ⊎ (((page : Page) → SpellsPage image page → page.number ≢ number) × (line ≡ []))

-- and for the images of the pages below this number
abbrev pub AreLinesOf : Style → (asked : Option ℕ) → (images : List ℕ) → (number : ℕ) → (text : List ℕ) → Type 0
AreLinesOf style asked images zero text = text ≡ []
AreLinesOf style asked images (suc number) text =
    (front : List ℕ) × (line : List ℕ) × AreLinesOf style asked images number front × IsLineOf style asked (image_of images number) number line × (text ≡ front ++ line)

-- the lines of the pages that are whole were printed
abbrev pub ListsWholePages : Style → (asked : Option ℕ) → (bytes : List ℕ) → (old new : Option (List ℕ)) → Type 0
ListsWholePages style asked bytes old new =
    (text : List ℕ) × AreLinesOf style asked (images_of bytes) (length (images_of bytes) / PAGE_BYTES) text × Appends old new text

-- what was printed of a store with a fault: the whole pages if the fault is a page's, otherwise nothing
abbrev pub PrintsRest : Style → (asked : Option ℕ) → (bytes : List ℕ) → (old new : Option (List ℕ)) → Fault → Type 0
PrintsRest style asked bytes old new (BadPage number) = ListsWholePages style asked bytes old new
PrintsRest style asked bytes old new e = Keeps old new

-- nothing was printed, or the line of the store and those of its first pages
abbrev pub BeginsStore : Style → (asked : Option ℕ) → StoreContent → (old new : Option (List ℕ)) → Type 0
BeginsStore style asked store old new =
    Keeps old new ⊎ ((count : ℕ) × Appends old new (store_line style store ++ flat_map (page_if_asked style asked) (take count store.pages)))

-- the lines of the whole pages below some number were printed
abbrev pub BeginsPages : Style → (asked : Option ℕ) → (images : List ℕ) → (old new : Option (List ℕ)) → Type 0
BeginsPages style asked images old new = (number : ℕ) × (text : List ℕ) × AreLinesOf style asked images number text × Appends old new text

-- what is printed if memory is refused: the first lines of the store, or of those of a damaged one
abbrev pub PrintsFirstPages : Style → (asked : Option ℕ) → (bytes : List ℕ) → (old new : Option (List ℕ)) → Type 0
PrintsFirstPages style asked bytes old new =
    Keeps old new
    ⊎ (((store : StoreContent) × SpellsStore bytes store × BeginsStore style asked store old new)
    ⊎ BeginsPages style asked (images_of bytes) old new)

-- the fault is the error of the bytes, and what is left of the store was printed
abbrev pub ListsStoreToFault : Style → (asked : Option ℕ) → (bytes : List ℕ) → (old new : Option (List ℕ)) → Stop → Type 0
ListsStoreToFault style asked bytes old new (stop.Print error) = ⊤
ListsStoreToFault style asked bytes old new (stop.Fault NoResource) = PrintsFirstPages style asked bytes old new
ListsStoreToFault style asked bytes old new (stop.Fault e) = StoreFault bytes e × PrintsRest style asked bytes old new e
