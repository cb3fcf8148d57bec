-- A store that is read in pieces, and once more while the new one is written.
use Rattle.std.proofs.Common.{◌≡◌, ◌≤◌, ◌<◌, ℕ, List, All, Option, Some, None, length, get_or, map, refl, sym, ap, subst, ◌∙◌, arith}
use Rattle.std.proofs.lemmas.List.{length-map, length-replicate, get_or-map}
use Rattle.std.specs.Io.KnownBytes.{Keeps}
use Rattle.device.specs.Reread.{IsReadThrough, ReachesTo, ReachJoins}
use Rattle.page.specs.declared.page.Page.{Page}
use Rattle.page.specs.declared.profile.TheConstants.{SLOTS}
use Rattle.page.specs.Image.{FitsPage}
use Rattle.page.specs.Store.{StoreContent}
use Rattle.page.specs.File.{SpellsStore, store_text}
use Rattle.changes.specs.Changes.{PageChange, unchanged, changed}
use Rattle.changes.specs.Pages.{ShowsChanges}
use Rattle.page.specs.Lsns.{lsns_of}
use Rattle.changes.proofs.Puts.{puts_are_sets}
use Rattle.recovery.specs.Devices.{Gave, SourcesGave}
use Rattle.recovery.specs.declared.store_changes.DecodedLsns.{DecodedLsns}
use Rattle.recovery.specs.StoreChanges.{AreDecodedLsns, DecodesLsns}

-- WHAT CHANGES SHOW
-- before anything changes, the pages in the store
pub begun_shows : (pages : List Page) (lsns : List ℕ) → All FitsPage pages → lsns ≡ lsns_of pages → ShowsChanges (map unchanged lsns) pages pages
begun_shows pages lsns fits are =
    let lsn : Page → ℕ = λ p. p.lsn in
    let none : Option (List ℕ) = None in
    let count : length lsns ≡ length pages = ap (λ (ns : List ℕ). length ns) are ∙ length-map pages lsn in
    record {
      count = length-map lsns unchanged ∙ count;
      wide = λ k c lt.
          let within : k < length lsns = omega (arith, lt, length-map lsns unchanged) in
          ap (λ (x : PageChange). length x.puts) (get_or-map unchanged lsns k 0 c within) ∙ length-replicate SLOTS none;
      changed = record {
        count = refl;
        each = λ k c page lt.
            let within : k < length lsns = omega (arith, lt, count) in
            let own = get_or pages k page in
            sym (ap (λ x. changed x own) (get_or-map unchanged lsns k 0 c within ∙ ap unchanged (ap (λ ls. get_or ls k 0) are ∙ get_or-map lsn pages k page 0 lt))
            ∙ puts_are_sets.none own (fits k page lt).slots);
      };
    }

-- WHAT WAS READ of a device that is known to hold these bytes
pub decoded_lsns : (held : Option (List ℕ)) (found : DecodedLsns) (store : List ℕ) → held ≡ Some store → AreDecodedLsns held found → DecodesLsns store found.store
decoded_lsns held found store is (text, gave, decodes) =
    let same : text ≡ store = subst (λ h. Gave h text) is gave in
    subst (λ t. DecodesLsns t found.store) same decodes

pub both_give : (log store : List ℕ) → SourcesGave (Some log) (Some store) log store
both_give log store = record { log_read = refl; store_read = refl }

-- its header is read from the beginning on, and then the rest
pub all_read : (before now : Option (List ℕ)) (a m n offset count : ℕ) → Keeps before now → ReachJoins before a m 0 count → offset ≤ count
    → (ReachesTo now offset m → IsReadThrough now n) → IsReadThrough before n
all_read None now a m n offset count kept joins enough rest = tt
all_read (Some held) None a m n offset count kept joins enough rest = absurd kept
all_read (Some held) (Some same) a m n offset count kept joins enough rest =
    omega (arith, ap (λ (bytes : List ℕ). length bytes) kept, rest (omega (arith, joins (omega arith), enough)))

-- WHAT THE STORE'S DEVICE HOLDS, by the pages
pub again_at : (held : Option (List ℕ)) (store : List ℕ) (before : StoreContent) → held ≡ Some store → SpellsStore store before → held ≡ Some (store_text before)
again_at held store before is spells = is ∙ ap (λ (t : List ℕ). Some t) spells.text
