-- A log that was archived may be continued by a new one.
use Rattle.std.proofs.Common.{◌≡◌, ◌<◌, ℕ, [], length, get_or, map, refl, sym, ap, ◌∙◌, inl, arith}
use Rattle.std.specs.Prelude.{All}
use Rattle.std.specs.List.{range_with_len}
use Rattle.std.proofs.lemmas.List.{ext_get_or}
use Rattle.std.proofs.lemmas.List.FromFn.{length-map-range_with_len, get_or-map-range_with_len}
use Rattle.page.specs.declared.page.Page.{Page}
use Rattle.page.specs.declared.profile.TheConstants.{SLOTS}
use Rattle.log_laws.specs.declared.start.LogStart.{LogStart}
use Rattle.log_laws.specs.declared.start.LogStart.TheVariants.{Version2}
use Rattle.log_laws.specs.Records.{history, last_lsn}
use Rattle.log_laws.specs.Meaning.{BasePages, replay}
use Rattle.log_laws.specs.Pages.{base_pages}
use Rattle.log_laws.specs.Store.{page_out}
use Rattle.log_laws.specs.Theorems.{replayed_page}
use Rattle.journal.specs.Runs.{MayOpen, empty_log}
use Rattle.journal.specs.Theorems.{ArchiveReopens}
use Rattle.journal.proofs.Opened.{may_open}

pub archive_reopens : ArchiveReopens
archive_reopens base log store h low = record {
  without_master = record {
    lawful = record { based = h.lawful.based; log = h.lawful.log; names_pages = h.lawful.names_pages; pages = h.lawful.pages; checkpoint = inl refl };
    starts = h.starts;
    fit = h.fit;
    few = h.few;
    numbered = h.numbered;
    current = h.current;
  };
  with_new_log = opened;
  unchanged = ext_get_or blank (map (page_out new_base (empty_log begins)) (range_with_len 0 (length store.pages))) store.pages sized same;
}
  where
    begins : LogStart
    begins = Version2 (last_lsn (history log))

    new_base : BasePages
    new_base = base_pages store.pages

    blank : Page
    blank = record { number = 0; lsn = 0; slots = [] }

    slots : All (λ (p : Page). length p.slots ≡ SLOTS) store.pages
    slots i d lt = ap (λ (p : Page). length p.slots) (h.current i d lt) ∙ length-map-range_with_len (λ slot. replay base (history log) (get_or store.pages i d).number slot) 0 SLOTS

    opened : MayOpen new_base (empty_log begins) (record { master = 0; pages = store.pages })
    opened = may_open begins store.pages h.numbered slots (λ i d lt. (h.lawful.pages i d lt).within) low

    sized : length (map (page_out new_base (empty_log begins)) (range_with_len 0 (length store.pages))) ≡ length store.pages
    sized = length-map-range_with_len (page_out new_base (empty_log begins)) 0 (length store.pages)

    same : (i : ℕ) → i < length (map (page_out new_base (empty_log begins)) (range_with_len 0 (length store.pages)))
        → get_or (map (page_out new_base (empty_log begins)) (range_with_len 0 (length store.pages))) i blank ≡ get_or store.pages i blank
    same i lt =
        let within : i < length store.pages = omega (arith, lt, sized) in
        get_or-map-range_with_len (page_out new_base (empty_log begins)) 0 (length store.pages) i i blank within (omega arith)
        ∙ sym (opened.current i blank within ∙ ap (replayed_page new_base (history (empty_log begins))) (h.numbered.at_place i blank within))
