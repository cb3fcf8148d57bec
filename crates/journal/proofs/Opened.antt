-- A new log over base pages may be opened.
use Rattle.std.proofs.Common.{◌≡◌, ◌<◌, ◌≤◌, ◌^◌, ℕ, zero, suc, List, [], ◌∷◌, length, get_or, map, Option, Some, None, refl, sym, ap, ap₂, subst, ◌∙◌, inl, arith}
use Rattle.page.specs.declared.profile.TheConstants.{SLOTS}
use Rattle.std.specs.Prelude.{All}
use Rattle.std.specs.List.{slice_get}
use Rattle.std.proofs.lemmas.Bool.{false≢true}
use Rattle.std.proofs.lemmas.List.{ext_get_or, get_or-map, length-map, get_or-replicate, length-replicate}
use Rattle.std.proofs.lemmas.List.FromFn.{length-map-range_with_len}
use Rattle.std.proofs.lemmas.Option.{slice_get_within, get_or_from_slice_get}
use Rattle.page.specs.Image.{Image}
use Rattle.page.specs.declared.page.Page.{Page}
use Rattle.page.specs.Store.{AreNumbered}
use Rattle.log_laws.specs.declared.start.LogStart.{LogStart}
use Rattle.log_laws.specs.declared.start.LogStart.TheVariants.{Version1, Version2}
use Rattle.wal.specs.Headers.{FitsStart}
use Rattle.wal.specs.declared.sizes.TheConstants.{LARGEST_BASE}
use Rattle.log_laws.specs.Records.{History, start, lsn_before}
use Rattle.log_laws.specs.Meaning.{BasePages, BaseLaw}
use Rattle.log_laws.specs.Redo.{slots_in}
use Rattle.log_laws.specs.Pages.{base_pages, held_in, lsn_of, PageLaw}
use Rattle.log_laws.specs.Theorems.{replayed_page}
use Rattle.log_laws.proofs.Pages.{replayed_page_law, slot_held}
use Rattle.journal.specs.Transactions.{Transaction}
use Rattle.journal.specs.Runs.{new_run, MayOpen}
use Rattle.journal.specs.PageStates.{first_page_state, IsPageState, ArePageStates}
use Rattle.journal.specs.State.{Agrees}

-- a base LSN that is small enough, as a number
pub starts_low : (begins : LogStart) → lsn_before begins ≤ LARGEST_BASE → FitsStart begins
starts_low Version1 h = tt
starts_low (Version2 base) h = h

start_small : (begins : LogStart) → FitsStart begins → lsn_before begins < 2 ^ 64
start_small Version1 h = omega arith
start_small (Version2 base) h = omega (arith, h)

module _ (begins : LogStart) (pages : List Page) (numbered : AreNumbered pages) (slots : All (λ (p : Page). length p.slots ≡ SLOTS) pages) (low : All (λ (p : Page). p.lsn ≤ lsn_before begins) pages) (starts : FitsStart begins) where
  abbrev base : BasePages
  base = base_pages pages

  abbrev log : History
  log = start (lsn_before begins)

  abbrev blank : Page
  blank = record { number = 0; lsn = 0; slots = [] }

  based : BaseLaw base log
  based page = by_page (slice_get pages page) refl
    where
      by_page : (o : Option Page) → slice_get pages page ≡ o → lsn_of o ≤ lsn_before begins
      by_page None e = omega arith
      by_page (Some p) e =
          (let at : get_or pages page p ≡ p = get_or_from_slice_get pages page p p e in
          subst (λ (q : Page). q.lsn ≤ lsn_before begins) at (low page p (slice_get_within pages page p e)))

  -- each page is what a log without records makes of it
  is_base : (i : ℕ) (d : Page) → i < length pages → get_or pages i d ≡ replayed_page base log i
  is_base i d lt =
      let p : Page = get_or pages i d in
      let there : slice_get pages i ≡ Some p = found pages i d lt in
      let number : p.number ≡ i = numbered.at_place i d lt in
      let lsn : p.lsn ≡ base.page_lsn i = sym (ap lsn_of there) in
      let size : length p.slots ≡ SLOTS = slots i d lt in
      let same : p.slots ≡ slots_in base.cells i =
      ext_get_or None p.slots (slots_in base.cells i) (size ∙ sym (length-map-range_with_len (λ s. base.cells i s) 0 SLOTS))
      (λ k l. ap (λ o. held_in o k) (sym there) ∙ sym (slot_held base.cells i k (omega (arith, l, size)))) in
      ap (λ n. record { number = n; lsn = p.lsn; slots = p.slots }) number
      ∙ ap₂ (λ n (xs : List Image). record { number = i; lsn = n; slots = xs }) lsn same
    where
      found : (xs : List Page) (k : ℕ) (d : Page) → k < length xs → slice_get xs k ≡ Some (get_or xs k d)
      found [] k d lt = absurd (omega (arith, lt))
      found (x ∷ xs) zero d lt = refl
      found (x ∷ xs) (suc k) d lt = found xs k d (omega (arith, lt))

  pub current : All (λ page. page ≡ replayed_page base log page.number) pages
  current i d lt = is_base i d lt ∙ ap (replayed_page base log) (sym (numbered.at_place i d lt))

  pub may_open : MayOpen base (record { begins = begins; records = [] }) (record { master = 0; pages = pages })
  may_open =
      record {
        lawful = record {
          based = based;
          log = tt;
          names_pages = λ n r f. absurd (cc);
          pages = λ i d lt. subst (PageLaw base log) (sym (current i d lt)) (replayed_page_law base log (get_or pages i d).number based);
          checkpoint = inl refl;
        };
        starts = starts;
        fit = tt;
        few = start_small begins starts;
        numbered = numbered;
        current = current;
      }

  pub page_states : ArePageStates base (new_run begins pages) (map first_page_state pages)
  page_states =
      record {
        count = length-map pages first_page_state;
        each = λ i d lt.
            (let within : i < length pages = omega (arith, lt, length-map pages first_page_state) in
            let p : Page = get_or pages i blank in
            let none : Option ℕ = None in
            let at : get_or (map first_page_state pages) i d ≡ first_page_state p = get_or-map first_page_state pages i blank d within in
            subst (IsPageState base (new_run begins pages) i) (sym at)
            (record {
              image = is_base i blank within;
              size = length-replicate SLOTS none;
              writers = λ slot l. get_or-replicate SLOTS slot none none l;
              dirty = record {
                range = λ rec_lsn e. absurd (cc);
                covers = λ n r up f on. absurd (let e : None ≡ Some r = f in cc);
              };
            }));
      }

  -- WHAT IS KEPT of a new log
  pub new_stands : (kept : ℕ → Option Transaction) → ((t : ℕ) → kept t ≡ None) → Agrees base (new_run begins pages) (lsn_before begins) 1 kept (map first_page_state pages)
  new_stands kept nothing =
      record {
        runs = may_open;
        last_is = refl;
        transactions = record {
          each = λ t x e. absurd (let none : kept t ≡ None = nothing t in cc);
          others = λ t e begun. absurd (false≢true begun);
          fresh = λ t le. (nothing t, refl);
        };
        pages_are = page_states;
      }
