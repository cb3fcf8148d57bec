-- A store that is not in memory as a whole: its PageLSNs are read, and later it is read again, changed and written (own).
use Rattle.std.specs.Prelude.{◌≡◌, ℕ, ◌+◌, ◌*◌, ◌⊎◌, List, ◌++◌, Option, Some, IfOk, IfErr, IfSome, Result, MatchResult, length, take, drop, ⊤, ◌/◌}
use Rattle.std.specs.List.{flat_map}
use Rattle.page.specs.declared.fault.Fault.{Fault}
use Rattle.page.specs.declared.fault.Fault.TheVariants.{NoResource, ReadStore, WriteStore, StoreSize, BadPage}
use Rattle.page.specs.declared.page.Page.{Page}
use Rattle.page.specs.declared.profile.TheConstants.{PAGE_BYTES}
use Rattle.page.specs.declared.sizes.TheConstants.{STORE_HEADER_BYTES}
use Rattle.page.specs.Image.{page_text}
use Rattle.page.specs.Store.{StoreContent}
use Rattle.page.specs.File.{store_text, FitsStore, SpellsStore, StoreFault}
use Rattle.changes.specs.Changes.{PageChange}
use Rattle.changes.specs.Pages.{ShowsChanges}
use Rattle.page.specs.declared.lsns.StoreLsns.{StoreLsns}
use Rattle.page.specs.Lsns.{AreLsnsOf, SpellsLsns}
use Rattle.device.specs.declared.traits.Sink.{Ghosts as Sink}
use Rattle.recovery.specs.declared.store_changes.DecodedLsns.{DecodedLsns}
use Rattle.recovery.specs.Devices.{Gave, AreOut}
use Rattle.recovery.specs.Calls.{Took, Began, ForKept, ForPiece}

-- READING
-- the result of a reader of PageLSNs for these bytes: the master and the PageLSNs of the store that they encode, or their error
pub record DecodesLsns (text : List ℕ) (answer : Result StoreLsns Fault) : Type 0 where
  pub found : IfOk answer (SpellsLsns text)
  pub only : (store : StoreContent) → SpellsStore text store → MatchResult answer (AreLsnsOf store) (λ e. e ≡ NoResource)
  pub fault : IfErr answer (StoreFault text)

-- what all bytes of a device encode was found
abbrev pub AreDecodedLsns : (held : Option (List ℕ)) → DecodedLsns → Type 0
AreDecodedLsns held found = (text : List ℕ) × Gave held text × DecodesLsns text found.store

-- the same of a header and what the device holds after it
abbrev pub AreLsnsBehind : (header : List ℕ) → (held : Option (List ℕ)) → DecodedLsns → Type 0
AreLsnsBehind header held found =
    (behind : List ℕ) × IfSome held (λ text. behind ≡ drop (length header) text) × DecodesLsns (header ++ behind) found.store

-- WRITING
-- where the image of a page begins
abbrev pub image_at : (page : ℕ) → ℕ
image_at page = STORE_HEADER_BYTES + PAGE_BYTES * page

-- the images of this many pages from this one on
abbrev pub images_from : (first count : ℕ) → List Page → List ℕ
images_from first count pages = flat_map page_text (take count (drop first pages))

-- P is true of the pages that changes show, if it is known that a device holds a store which they change
abbrev pub ForShown : Option (List ℕ) → List PageChange → (List Page → Type 0) → Type 0
ForShown held changes P = (before : StoreContent) (shown : List Page) → held ≡ Some (store_text before) → FitsStore before → ShowsChanges changes before.pages shown → P shown

-- why a changed store is not written: its source or its sink failed, or the source no longer holds the store
abbrev pub IsOfRewriting : Fault → Type 0
IsOfRewriting ReadStore = ⊤
IsOfRewriting WriteStore = ⊤
IsOfRewriting StoreSize = ⊤
IsOfRewriting (BadPage number) = ⊤
IsOfRewriting e = ⊥

-- if the source holds such a store, the fault is its own or the sink's
abbrev pub IsRewriteFault : Option (List ℕ) → List PageChange → Fault → Type 0
IsRewriteFault held changes e = ForShown held changes (λ _. (e ≡ ReadStore) ⊎ (e ≡ WriteStore))

-- these bytes are what a device holds from the image of a page on, as many as a buffer takes
abbrev pub AreHeld : Option (List ℕ) → (first : ℕ) → (buffer bytes : List ℕ) → Type 0
AreHeld held first buffer bytes = ForPiece held (image_at first) buffer (λ known. bytes ≡ known)

-- if the device holds as many, the fault is its own
abbrev pub IsReadFault : Option (List ℕ) → (first : ℕ) → (buffer : List ℕ) → Fault → Type 0
IsReadFault held first buffer e = ForKept held (image_at first + length buffer) (λ _. e ≡ ReadStore)

-- these bytes are the images, from this page on, of the pages after their changes
abbrev pub AreShown : Option (List ℕ) → List PageChange → (first : ℕ) → List ℕ → Type 0
AreShown held changes first bytes = ForShown held changes (λ shown. bytes ≡ images_from first (length bytes / PAGE_BYTES) shown)

-- a sink took the images of this many pages after their changes
abbrev pub TookImages : {D : Type 0} → Option (List ℕ) → List PageChange → (count : ℕ) → (sink : Sink D) → (old new : D) → Type 0
TookImages held changes count sink old new = ForShown held changes (λ shown. Took sink old new (images_from 0 count shown))

-- it took those of all pages, or a prefix of them
abbrev pub TookAll : {D : Type 0} → Option (List ℕ) → List PageChange → (sink : Sink D) → (old new : D) → Type 0
TookAll held changes sink old new = TookImages held changes (length changes) sink old new

abbrev pub BeganAll : {D : Type 0} → Option (List ℕ) → List PageChange → (sink : Sink D) → (old new : D) → Type 0
BeganAll held changes sink old new = ForShown held changes (λ shown. Began sink old new (images_from 0 (length changes) shown))

-- the store of this master and of the pages after their changes is written and flushed, or a prefix of it is written
abbrev pub Rewrites : {D : Type 0} → Option (List ℕ) → (master : ℕ) → List PageChange → (sink : Sink D) → (old new : D) → Type 0
Rewrites held master changes sink old new = ForShown held changes (λ shown. AreOut sink old new (store_text (record { master = master; pages = shown })))

abbrev pub IsBegun : {D : Type 0} → Option (List ℕ) → (master : ℕ) → List PageChange → (sink : Sink D) → (old new : D) → Type 0
IsBegun held master changes sink old new = ForShown held changes (λ shown. Began sink old new (store_text (record { master = master; pages = shown })))
