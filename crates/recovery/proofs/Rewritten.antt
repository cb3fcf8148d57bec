-- A store that is read for its PageLSNs, and a store that is read again, changed and written.
use Rattle.std.proofs.Common.{◌≡◌, ℕ, ◌+◌, ◌*◌, ◌/◌, ◌%◌, ◌<◌, ◌≤◌, List, [], ◌++◌, length, get_or, take, drop, All, Option, Some, None, Result, sym, ap, ap₂, subst, ◌∙◌, arith, refl, length-append, length-drop, length-take, take-append-drop}
use Rattle.std.specs.Prelude.{IfOk, IfErr, IfSome, MatchResult}
use Rattle.std.specs.List.{flat_map}
use Rattle.std.proofs.Math.Seq.{take-add}
use Rattle.std.proofs.KnownBytes.{Appends-nil, Appends-trans}
use Rattle.std.proofs.lemmas.Grind.{flat_map-append}
use Rattle.std.proofs.lemmas.List.{drop_at, take_at, take_all, get_or-drop, get_or-take, drop-drop}
use Rattle.std.proofs.lemmas.List.Elements.{All-take, All-drop}
use Rattle.std.specs.Io.KnownBytes.{Appends, Keeps}
use Rattle.page.specs.declared.fault.Fault.{Fault}
use Rattle.page.specs.declared.fault.Fault.TheVariants.{NoResource}
use Rattle.page.specs.declared.page.Page.{Page}
use Rattle.page.specs.declared.profile.TheConstants.{PAGE_BYTES}
use Rattle.page.specs.declared.sizes.TheConstants.{STORE_HEADER_BYTES}
use Rattle.page.specs.Image.{page_text, FitsPage}
use Rattle.page.specs.Store.{StoreContent}
use Rattle.page.specs.File.{store_header, store_text, FitsStore, SpellsStore, StoreFault}
use Rattle.page.proofs.Files.{length-page_text, length-pieces}
use Rattle.page.specs.declared.lsns.StoreLsns.{StoreLsns}
use Rattle.changes.specs.Changes.{PageChange, AreChanged, changed}
use Rattle.changes.specs.Pages.{ShowsChanges}
use Rattle.changes.specs.Images.{AreImagesFrom}
use Rattle.page.specs.Lsns.{AreLsnsOf, SpellsLsns}
use Rattle.device.specs.Reread.{EndsBy, ReadsFrom}
use Rattle.device.specs.Transfer.{TookBeginning}
use Rattle.recovery.specs.Devices.{Gave}
use Rattle.recovery.specs.StoreChanges.{DecodesLsns, image_at, images_from}
use Rattle.recovery.proofs.Delivered.{behind_front}
use Rattle.recovery.proofs.Taken.{begins_longer}

-- READING
-- the result of a reader to which these bytes came
pub decodes_lsns_by : (came text : List ℕ) (answer : Result StoreLsns Fault) → came ≡ text → IfOk answer (SpellsLsns came) → ((store : StoreContent) → SpellsStore came store → MatchResult answer (AreLsnsOf store) (λ e. e ≡ NoResource)) → IfErr answer (StoreFault came) → DecodesLsns text answer
decodes_lsns_by came text answer same found only fault =
    subst (λ t. DecodesLsns t answer) same (record { found = found; only = only; fault = fault })

-- these bytes come first of those that a device holds from an offset on, if it is known what it holds
abbrev pub ComeFrom : (held : Option (List ℕ)) → (offset : ℕ) → List ℕ → Type 0
ComeFrom held offset came = IfSome held (λ text. came ≡ take (length came) (drop offset text))

pub come_none : (held : Option (List ℕ)) (offset : ℕ) → ComeFrom held offset []
come_none None offset = tt
come_none (Some text) offset = refl

pub come_more : (old now : Option (List ℕ)) (offset at : ℕ) (came buffer : List ℕ) (count : ℕ) → Keeps old now → ComeFrom old offset came → at ≡ offset + length came → ReadsFrom now at count buffer → count ≤ length buffer → ComeFrom old offset (came ++ take count buffer)
come_more None now offset at came buffer count same front is reads le = tt
come_more (Some xs) None offset at came buffer count same front is reads le = absurd same
come_more (Some xs) (Some ys) offset at came buffer count same front is reads le =
    let rest : List ℕ = drop offset xs in
    let behind : drop at ys ≡ drop (length came) rest = ap₂ (λ n (t : List ℕ). drop n t) is same ∙ sym (drop-drop (length came) offset xs) in
    let all : length (came ++ take count buffer) ≡ length came + count = omega (arith, length-append came (take count buffer), length-take count buffer, le) in
    ap₂ (λ (s t : List ℕ). s ++ t) front (reads ∙ ap (take count) behind) ∙ sym (take-add (length came) count rest) ∙ ap (λ n. take n rest) (sym all)

-- they are all of them, if the device ends where they end
pub come_all : (old now : Option (List ℕ)) (offset end : ℕ) (came : List ℕ) → Keeps old now → ComeFrom old offset came → EndsBy now end → end ≤ offset + length came → IfSome old (λ text. came ≡ drop offset text)
come_all None now offset end came same front ends le = tt
come_all (Some xs) None offset end came same front ends le = absurd same
come_all (Some xs) (Some ys) offset end came same front ends le =
    front ∙ take_all (length came) (drop offset xs) (omega (arith, length-drop offset xs, ends, le, ap (λ (t : List ℕ). length t) same))

-- a header that was read, and what comes after it
pub gave_behind : (old now : Option (List ℕ)) (header behind buffer : List ℕ) (count : ℕ) → Keeps old now → header ≡ take count buffer → length header ≡ count → ReadsFrom old 0 count buffer → IfSome now (λ text. behind ≡ drop (length header) text) → Gave old (header ++ behind)
gave_behind None now header behind buffer count same is size reads rest = tt
gave_behind (Some xs) None header behind buffer count same is size reads rest = absurd same
gave_behind (Some xs) (Some ys) header behind buffer count same is size reads rest =
    ap₂ (λ (s t : List ℕ). s ++ t) (is ∙ reads) (rest ∙ ap₂ (λ n (t : List ℕ). drop n t) size same) ∙ take-append-drop count xs

-- WHAT A STORE HOLDS
-- the images of pages
abbrev pub texts : List Page → List ℕ
texts pages = flat_map page_text pages

length_texts : (pages : List Page) → All FitsPage pages → length (texts pages) ≡ PAGE_BYTES * length pages
length_texts pages fits = length-pieces page_text PAGE_BYTES pages (λ i d lt. length-page_text (get_or pages i d) (fits i d lt))

texts_split : (n : ℕ) (pages : List Page) → texts pages ≡ texts (take n pages) ++ texts (drop n pages)
texts_split n pages = ap texts (sym (take-append-drop n pages)) ∙ flat_map-append page_text (take n pages) (drop n pages)

length_front : (n : ℕ) (pages : List Page) → All FitsPage pages → n ≤ length pages → length (texts (take n pages)) ≡ PAGE_BYTES * n
length_front n pages fits le = length_texts (take n pages) (All-take FitsPage n pages fits) ∙ ap (λ k. PAGE_BYTES * k) (length-take n pages ∙ omega (arith, le))

texts_take : (n : ℕ) (pages : List Page) → All FitsPage pages → n ≤ length pages → take (PAGE_BYTES * n) (texts pages) ≡ texts (take n pages)
texts_take n pages fits le = ap (take (PAGE_BYTES * n)) (texts_split n pages) ∙ take_at (texts (take n pages)) (texts (drop n pages)) (PAGE_BYTES * n) (length_front n pages fits le)

texts_drop : (n : ℕ) (pages : List Page) → All FitsPage pages → n ≤ length pages → drop (PAGE_BYTES * n) (texts pages) ≡ texts (drop n pages)
texts_drop n pages fits le = ap (drop (PAGE_BYTES * n)) (texts_split n pages) ∙ drop_at (texts (take n pages)) (texts (drop n pages)) (PAGE_BYTES * n) (length_front n pages fits le)

-- how many bytes
pub length_store : (before : StoreContent) → FitsStore before → length (store_text before) ≡ STORE_HEADER_BYTES + PAGE_BYTES * length before.pages
length_store before fits = length-append (store_header (length before.pages) before.master) (texts before.pages) ∙ ap (λ n. STORE_HEADER_BYTES + n) (length_texts before.pages fits.pages)

-- the images of pages that follow each other
pub images_held : (before : StoreContent) (first n : ℕ) → FitsStore before → first + n ≤ length before.pages → take (PAGE_BYTES * n) (drop (image_at first) (store_text before)) ≡ images_from first n before.pages
images_held before first n fits le =
    let pages = before.pages in
    let header = store_header (length pages) before.master in
    let behind : drop (image_at first) (store_text before) ≡ texts (drop first pages) =
    sym (drop-drop (PAGE_BYTES * first) STORE_HEADER_BYTES (store_text before)) ∙ ap (drop (PAGE_BYTES * first)) (drop_at header (texts pages) STORE_HEADER_BYTES refl) ∙ texts_drop first pages fits.pages (omega (arith, le)) in
    ap (take (PAGE_BYTES * n)) behind ∙ texts_take n (drop first pages) (All-drop FitsPage first pages fits.pages) (omega (arith, le, length-drop first pages))

-- PIECES of lists
at_piece : {X : Type 0} (first n k : ℕ) (xs : List X) (d : X) → k < n → get_or (take n (drop first xs)) k d ≡ get_or xs (first + k) d
at_piece first n k xs d lt = get_or-take n (drop first xs) k d lt ∙ get_or-drop first xs k d

within_piece : {X : Type 0} (first n k : ℕ) (xs : List X) → k < length (take n (drop first xs)) → (k < n) × (first + k < length xs)
within_piece first n k xs lt = (omega (arith, lt, length-take n (drop first xs)), omega (arith, lt, length-take n (drop first xs), length-drop first xs))

-- these images are those of the pages
pub pages_from : (before : StoreContent) (first n : ℕ) → FitsStore before → AreImagesFrom first (images_from first n before.pages) (take n (drop first before.pages))
pages_from before first n fits = record {
  encoded = record { text = refl; fits = All-take FitsPage n (drop first before.pages) (All-drop FitsPage first before.pages fits.pages) };
  at_place = λ i d lt.
      let within = within_piece first n i before.pages lt in
      ap (λ (p : Page). p.number) (at_piece first n i before.pages d within.0) ∙ fits.numbered.at_place (first + i) d within.1;
}

-- and these pages are changed to those that are shown
pub changes_from : (changes : List PageChange) (stored shown : List Page) (first n : ℕ) → ShowsChanges changes stored shown → AreChanged (drop first changes) (take n (drop first stored)) (take n (drop first shown))
changes_from changes stored shown first n s = record {
  count = omega (arith, s.changed.count, length-take n (drop first stored), length-take n (drop first shown), length-drop first stored, length-drop first shown);
  each = λ k c page lt.
      let within = within_piece first n k stored lt in
      at_piece first n k shown page within.0 ∙ s.changed.each (first + k) c page within.1
      ∙ ap₂ changed (sym (get_or-drop first changes k c)) (sym (at_piece first n k stored page within.0));
}

-- WRITING
-- nothing is a prefix
pub none_began : (taken : Option (List ℕ)) (bytes : List ℕ) → TookBeginning taken taken bytes
none_began taken bytes = (0, omega arith, Appends-nil taken)

pub images_more : (first n : ℕ) (pages : List Page) → images_from 0 first pages ++ images_from first n pages ≡ images_from 0 (first + n) pages
images_more first n pages = sym (ap texts (take-add first n pages) ∙ flat_map-append page_text (take first pages) (take n (drop first pages)))

pub images_all : (pages : List Page) (count : ℕ) → length pages ≤ count → images_from 0 count pages ≡ texts pages
images_all pages count le = ap texts (take_all count pages le)

module _ (before between after : Option (List ℕ)) (first n : ℕ) (pages : List Page) (came : Appends before between (images_from 0 first pages)) where
  -- one piece more was written
  pub piece_more : Appends between after (images_from first n pages) → Appends before after (images_from 0 (first + n) pages)
  piece_more more = subst (Appends before after) (images_more first n pages) (Appends-trans before between after _ _ came more)

  -- or a prefix of it was
  pub piece_begun : (rest count : ℕ) → count ≡ first + n + rest → TookBeginning between after (images_from first n pages) → TookBeginning before after (images_from 0 count pages)
  piece_begun rest count e took =
      let some = subst (TookBeginning before after) (images_more first n pages) (behind_front before between after (images_from 0 first pages) (images_from first n pages) came took) in
      subst (TookBeginning before after) (images_more (first + n) rest pages ∙ ap (λ k. images_from 0 k pages) (sym e)) (begins_longer before after (images_from 0 (first + n) pages) (images_from (first + n) rest pages) some)

-- A PIECE of this many images
module _ (before : StoreContent) (changes : List PageChange) (shown : List Page) (first : ℕ) (images : List ℕ) (fits : FitsStore before) (s : ShowsChanges changes before.pages shown)
    (whole : length images % PAGE_BYTES ≡ 0) (within : first + length images / PAGE_BYTES ≤ length changes) where
  -- it is in the store
  pub piece_held : image_at first + length images ≤ length (store_text before)
  piece_held = omega (arith, whole, within, s.count, length_store before fits)

  -- what was read of the store are the images of its pages
  pub piece_read : (read : List ℕ) → read ≡ take (length images) (drop (image_at first) (store_text before)) → AreImagesFrom first read (take (length images / PAGE_BYTES) (drop first before.pages))
  piece_read read e =
      let count = length images / PAGE_BYTES in
      let same : read ≡ images_from first count before.pages =
      e ∙ ap (λ n. take n (drop (image_at first) (store_text before))) (omega (arith, whole)) ∙ images_held before first count fits (omega (arith, within, s.count)) in
      subst (λ (t : List ℕ). AreImagesFrom first t (take count (drop first before.pages))) (sym same) (pages_from before first count fits)

  -- and what is written are the images of these pages after their changes
  pub piece_written : (read new : List ℕ) → read ≡ take (length images) (drop (image_at first) (store_text before))
      → ((pages after : List Page) → AreImagesFrom first read pages → AreChanged (drop first changes) pages after → AreImagesFrom first new after) → new ≡ images_from first (length images / PAGE_BYTES) shown
  piece_written read new e made =
      let count = length images / PAGE_BYTES in
      (made (take count (drop first before.pages)) (take count (drop first shown)) (piece_read read e) (changes_from changes before.pages shown first count s)).encoded.text

-- THE WHOLE STORE: its header, and the images of all its pages
pub rewritten_text : (changes : List PageChange) (stored shown : List Page) (master : ℕ) (header : List ℕ) → ShowsChanges changes stored shown → header ≡ store_header (length changes) master
    → header ++ images_from 0 (length changes) shown ≡ store_text (record { master = master; pages = shown })
rewritten_text changes stored shown master header s e =
    let count : length changes ≡ length shown = s.count ∙ sym s.changed.count in
    ap₂ (λ (h t : List ℕ). h ++ t) (e ∙ ap (λ n. store_header n master) count) (images_all shown (length changes) (omega (arith, count)))
