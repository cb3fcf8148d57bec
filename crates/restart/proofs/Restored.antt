-- A restart of a lawful log and its store.
use Rattle.std.proofs.Common.{ℕ, suc, ◌≡◌, ◌<◌, ◌≤◌, true, cond, ◌&&◌, eqb, ltb, List, [], ◌∷◌, Some, None, length, get_or, map, refl, sym, ap, ap₂, ◌∙◌, subst, inl, inr, arith}
use Rattle.std.specs.List.{range_with_len}
use Rattle.std.proofs.lemmas.Bool.{cases_Bool, cond_both, lt-ltb}
use Rattle.std.proofs.lemmas.List.{length-map, get_or-map, ext_get_or}
use Rattle.std.proofs.lemmas.List.FromFn.{length-map-range_with_len, get_or-map-range_with_len}
use Rattle.std.proofs.lemmas.Option.{slice_get_within, get_or_from_slice_get, same_Some}
use Rattle.page.specs.declared.page.Page.{Page}
use Rattle.page.specs.declared.fault.Fault.{Fault}
use Rattle.page.specs.declared.fault.Fault.TheVariants.{NoResource, BadWorkers, BadMaster, PageAheadOfLog, NoSuchPage}
use Rattle.page.specs.Store.{StoreContent, AreNumbered}
use Rattle.log_laws.specs.Records.{LogRecord, tx_in, Update, Compensation, History, start, ◌▸◌, ◌▸▸◌, lsn_before, history, last_lsn, LogContent, ◌⧺◌}
use Rattle.log_laws.specs.Meaning.{BasePages, Cells, in_doubt, effects, replay, writes, image_of, is_on, last_on}
use Rattle.log_laws.specs.Redo.{held_by, last_where, slots_in}
use Rattle.log_laws.specs.Checkpoint.{true_table, checkpoint_at}
use Rattle.log_laws.specs.Store.{Lawful, NamesPages, store_out, page_out}
use Rattle.log_laws.specs.Tail.{in_doubt_of, losers_of, tail_of, with_tail}
use Rattle.log_laws.specs.Undo.{lost_in, doubtful_in}
use Rattle.log_laws.specs.Theorems.{replayed_page, TellsDoubt}
use Rattle.log_laws.proofs.Histories.{after-append}
use Rattle.log_laws.proofs.Lists.{replay_is_winners, tail_settles}
use Rattle.log_laws.proofs.Pages.{same_slots, slot_held}
use Rattle.log_laws.proofs.Redone.{redo_suffices}
use Rattle.log_laws.proofs.Settled.{store_settles}
use Rattle.log_laws.proofs.Ends.{losers_end}
use Rattle.log_laws.proofs.Undone.{table_tells_doubt}
use Rattle.tables.specs.Tables.{TablesContent, losers_in}
use Rattle.analysis.specs.Tables.{base_of, BaseFault}
use Rattle.tables.specs.Lawful.{AreTrue}
use Rattle.redo.specs.Changes.{NamesBelow}
use Rattle.redo.specs.Redone.{RedoneContent, redone_page, IsFirstMissing, AreWorkers, RedoFault}
use Rattle.restart.specs.Outcome.{OutcomeContent}
use Rattle.undo.specs.Undone.{undone_page}
use Rattle.undo.proofs.UndonePages.{no_effects, no_last}
use Rattle.restart.specs.Restart.{IsFirstAhead, AheadFault, ForwardFault, clrs_in, ends_in, IsRedone, RollsBack, IsSettled, Restores}
use Rattle.page.specs.declared.profile.TheConstants.{SLOTS}

some_none : {X : Type 0} {x : X} → Some x ≡ None → ⊥
some_none e = cc

-- A PAGE THAT A LOG MADE, UNDONE
-- the effects of the records after the first b, on what the log up to there replays to, are the replay
effects_on : (base : BasePages) (b page slot : ℕ) (state : Cells) (log : History) (xs : List LogRecord) → b ≤ last_lsn log
    → effects (λ lsn _. ltb b lsn) state log page slot ≡ replay base log page slot → effects (λ lsn _. ltb b lsn) state (log ▸▸ xs) page slot ≡ replay base (log ▸▸ xs) page slot
effects_on base b page slot state log [] le e = e
effects_on base b page slot state log (r ∷ xs) le e =
    effects_on base b page slot state (log ▸ r) xs (omega arith)
    (ap₂ (λ chosen v. cond (writes page slot r && chosen) (image_of r) v) (lt-ltb b (suc (last_lsn log)) (omega arith)) e)

-- and the last of them, otherwise the last before, is the last of all
last_after : (base : BasePages) (b page lsn : ℕ) (log : History) (xs : List LogRecord) → b ≤ last_lsn log
    → last_where (λ n. ltb b n) page lsn log ≡ last_on base page log → last_where (λ n. ltb b n) page lsn (log ▸▸ xs) ≡ last_on base page (log ▸▸ xs)
last_after base b page lsn log [] le e = e
last_after base b page lsn log (r ∷ xs) le e = last_after base b page lsn (log ▸ r) xs (omega arith) one_more
  where
    one_more : last_where (λ n. ltb b n) page lsn (log ▸ r) ≡ last_on base page (log ▸ r)
    one_more =
        (let behind : ltb b (suc (last_lsn log)) ≡ true = lt-ltb b (suc (last_lsn log)) (omega arith) in
        elim (cases_Bool (is_on page r)) [
          | inl on ↦ rw (on, behind) refl
          | inr off ↦ rw off e
        ])

-- what a log and the records after it make of a page
undone_replayed : (base : BasePages) (log : History) (xs : List LogRecord) (page : ℕ) → undone_page log xs (replayed_page base log page) ≡ replayed_page base (log ▸▸ xs) page
undone_replayed base log xs page =
    let image : Page = replayed_page base log page in
    let undone : Cells = effects (λ lsn _. ltb (last_lsn log) lsn) (held_by image) (log ▸▸ xs) in
    let held : (slot : ℕ) → slot < SLOTS → undone page slot ≡ replay base (log ▸▸ xs) page slot =
    λ slot lt. effects_on base (last_lsn log) page slot (held_by image) log xs (omega arith)
    (no_effects (last_lsn log) (held_by image) log page slot (omega arith) ∙ slot_held (replay base log) page slot lt) in
    let sixteen : length image.slots ≡ SLOTS = length-map-range_with_len (λ slot. replay base log page slot) 0 SLOTS in
    ap₂ (λ l s. record { number = page; lsn = l; slots = s })
    (last_after base (last_lsn log) page image.lsn log xs (omega arith) (no_last (last_lsn log) page image.lsn log (omega arith)))
    (ap (λ n. map (λ slot. undone page slot) (range_with_len 0 n)) sixteen ∙ same_slots undone (replay base (log ▸▸ xs)) page held)

module _ (base : BasePages) (read : LogContent) (before : StoreContent) (lawful : Lawful base read before) where
  -- THE PAGES
  whole_is : history read ▸▸ tail_of read ≡ history (with_tail read)
  whole_is = sym (after-append (start (lsn_before read.begins)) read.records (tail_of read))

  -- what the log and its tail make of a page is what the winners leave
  page_is_out : (page : ℕ) → replayed_page base (history read ▸▸ tail_of read) page ≡ page_out base read page
  page_is_out page =
      ap (λ log. replayed_page base log page) whole_is
      ∙ ap (λ state. record { number = page; lsn = last_on base page (history (with_tail read)); slots = slots_in state page }) (replay_is_winners base read lawful.log)

  module _ (numbered : AreNumbered before.pages) (tables : TablesContent) (truth : AreTrue read before tables) where
    -- redo by true tables, and then the tail, make the pages what the winners leave
    pages_out : map (undone_page (history read) (tail_of read)) (map (redone_page read tables) before.pages) ≡ (store_out base read before).pages
    pages_out =
        let images = before.pages in
        let n = length images in
        let redone : List Page = map (redone_page read tables) images in
        let d = page_out base read 0 in
        let count : length redone ≡ n = length-map images (redone_page read tables) in
        ext_get_or d (map (undone_page (history read) (tail_of read)) redone) (map (page_out base read) (range_with_len 0 n))
        (length-map redone (undone_page (history read) (tail_of read)) ∙ count ∙ sym (length-map-range_with_len (page_out base read) 0 n))
        (λ k lt.
        let below : k < n = omega (arith, count, length-map redone (undone_page (history read) (tail_of read))) in
        get_or-map (undone_page (history read) (tail_of read)) redone k d d (omega (arith, count))
        ∙ ap (undone_page (history read) (tail_of read)) (get_or-map (redone_page read tables) images k d d below ∙ redo_suffices base read before tables.dirty tables.redo_lsn lawful truth.reaches k d below)
        ∙ undone_replayed base (history read) (tail_of read) (get_or images k d).number
        ∙ page_is_out (get_or images k d).number
        ∙ ap (page_out base read) (numbered.at_place k d below)
        ∙ sym (get_or-map-range_with_len (page_out base read) 0 n k k d below (omega arith)))

    -- THE OUTCOME
    tells : TellsDoubt (history read)
    tells = table_tells_doubt read

    losers_count : length (losers_in tables) ≡ length (losers_of (history read))
    losers_count = ap (λ es. length (lost_in es)) truth.unfinished ∙ sym (length-map (lost_in (true_table (history read))) tx_in) ∙ ap length tells.lost

    in_doubt_is : doubtful_in tables.transactions ≡ in_doubt_of (history read)
    in_doubt_is = ap doubtful_in truth.unfinished ∙ tells.doubtful

    settles : IsSettled base (with_tail read) (store_out base read before)
    settles =
        let s = store_settles base read before numbered lawful in
        let end = tail_settles base read lawful.log in
        record { lawful = s.lawful; no_loser = end.no_loser; no_tail = end.no_tail; same_store = s.same_store }

    pub restores : (redone : RedoneContent) (x : OutcomeContent) → IsRedone read before tables redone → RollsBack read before.master tables redone x → x.appended ≡ tail_of read → Restores base read before x
    restores redone x made back tail =
        let store : x.store ≡ store_out base read before =
        ap₂ (λ m (ps : List Page). record { master = m; pages = ps }) back.master_kept
        (back.rolled_back.pages_are ∙ ap₂ (λ rs ps. map (undone_page (history read) rs) ps) tail made.redone_pages ∙ pages_out) in
        record {
          appended = tail;
          store = store;
          settled = subst (λ s. IsSettled base (read ⧺ x.appended) s) (sym store) (subst (λ rs. IsSettled base (read ⧺ rs) (store_out base read before)) (sym tail) settles);
          redoes = record { tables = tables; are = made.are; begins = back.redo_from; applies = back.applied ∙ made.applied };
          losers = back.losers ∙ losers_count;
          in_doubt_are = back.in_doubt_are ∙ in_doubt_is;
          still_in_doubt = λ t. ap (λ rs. in_doubt t (history (read ⧺ rs))) tail ∙ (tail_settles base read lawful.log).same_doubt t;
          ended = back.ended ∙ ap ends_in tail ∙ losers_end base read lawful.log;
          compensated = back.compensated ∙ ap clrs_in tail;
        }

  -- WHAT DOES NOT COME
  none_ahead : (number : ℕ) → IsFirstAhead read before.pages number → ⊥
  none_ahead number h =
      let within = slice_get_within before.pages h.place h.page h.there in
      let is = get_or_from_slice_get before.pages h.place h.page h.page h.there in
      omega (arith, (lawful.pages h.place h.page within).within, ap (λ (p : Page). p.lsn) is, h.ahead)

  based : base_of before.master (history read) ≡ None → ⊥
  based none =
      elim lawful.checkpoint [
        | inl z ↦ absurd (some_none (sym (ap (λ m. base_of m (history read)) z) ∙ none))
        | inr t ↦
            cond_both (eqb before.master 0) (Some ([], [])) (checkpoint_at before.master (history read)) (λ o. o ≡ None → ⊥) (λ _ e. some_none e)
            (λ _ e. some_none (sym t.named ∙ e)) none
      ]

  none_missing : (redo_lsn lsn : ℕ) → IsFirstMissing read (length before.pages) redo_lsn lsn → ⊥
  none_missing redo_lsn lsn m = m.beyond (below m.entry (lawful.names_pages lsn m.entry m.there))
    where
      below : (r : LogRecord) → NamesPages (length before.pages) r → NamesBelow (length before.pages) r
      below (Update u) h page e = subst (λ p. p < length before.pages) (same_Some _ _ e) h
      below (Compensation c) h page e = subst (λ p. p < length before.pages) (same_Some _ _ e) h
      below r h page e = absurd (cc)

  -- so only memory can be refused
  pub base_alone : (e : Fault) → BaseFault before.master (history read) e → e ≡ NoResource
  base_alone NoResource cause = refl
  base_alone BadMaster cause = absurd (based cause)
  base_alone e cause = absurd cause

  pub redo_alone : (redo_lsn workers : ℕ) (e : Fault) → AreWorkers workers → RedoFault read (length before.pages) redo_lsn workers e → e ≡ NoResource
  redo_alone redo_lsn workers NoResource fit cause = refl
  redo_alone redo_lsn workers BadWorkers fit cause = absurd (cause fit)
  redo_alone redo_lsn workers (NoSuchPage lsn) fit cause = absurd (none_missing redo_lsn lsn cause.1)
  redo_alone redo_lsn workers e fit cause = absurd cause

  pub pages_alone : (workers : ℕ) (e : Fault) → AreWorkers workers → ForwardFault read before workers e → e ≡ NoResource
  pages_alone workers e fit (inl cause) = base_alone e cause
  pages_alone workers e fit (inr (pages, are, cause)) = redo_alone pages.redo_lsn workers e fit cause

  pub ahead_alone : (e : Fault) → AheadFault read before.pages e → e ≡ NoResource
  ahead_alone (PageAheadOfLog number) cause = absurd (none_ahead number cause)
  ahead_alone e cause = absurd cause

-- pages of which each is changed, except for its number, are at their numbers
pub changed_numbered : (change : Page → Page) (pages : List Page) → ((page : Page) → (change page).number ≡ page.number) → AreNumbered pages → AreNumbered (map change pages)
changed_numbered change pages same numbered =
    let len = length-map pages change in
    record {
      some = omega (arith, len, numbered.some);
      few = omega (arith, len, numbered.few);
      at_place = λ i d lt. (let below : i < length pages = omega (arith, len) in ap (λ (p : Page). p.number) (get_or-map change pages i d d below) ∙ (same (get_or pages i d) ∙ numbered.at_place i d below));
    }
