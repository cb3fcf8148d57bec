-- The store of a restart, interrupted or done.
use Rattle.std.proofs.Common.{ℕ, ◌≡◌, ◌<◌, ◌≤◌, length-append, List, length, take, map, get_or, Option, Some, refl, sym, ap, ap₂, ◌∙◌, subst, inl, inr, arith, ◌-◌}
use Rattle.std.specs.Prelude.{All, slice_index_or}
use Rattle.std.specs.List.{range_with_len}
use Rattle.std.proofs.lemmas.List.{take_all}
use Rattle.std.proofs.lemmas.List.FromFn.{length-map-range_with_len, get_or-map-range_with_len}
use Rattle.page.specs.declared.page.Page.{Page}
use Rattle.page.specs.Store.{StoreContent, AreNumbered}
use Rattle.log_laws.specs.Records.{LogRecord, CheckpointBegin, History, ◌▸▸◌, start, lsn_before, LogContent, history, ◌⧺◌, up_to, last_lsn, record_at, EachRecord}
use Rattle.log_laws.specs.Meaning.{BasePages, BaseLaw, Cells, replay, winners, last_on}
use Rattle.log_laws.specs.Tail.{tail_of, with_tail}
use Rattle.log_laws.specs.Redo.{slots_in, rec_lsn_of}
use Rattle.log_laws.specs.Pages.{PageLaw}
use Rattle.log_laws.specs.Checkpoint.{DirtyLaw, CheckpointLaw, true_table}
use Rattle.log_laws.specs.Store.{NamesPages, Lawful, page_out, store_out}
use Rattle.log_laws.specs.Theorems.{replayed_page, Interrupted, GoesOn, RestartGoesOn, Settled, StoreSettles}
use Rattle.log_laws.proofs.Histories.{base_after, record_in_front, record_within, first_in_front, after-append, size_of_log}
use Rattle.log_laws.proofs.Checkpoints.{checkpoint_begins, checkpoint_ends, checkpoint_there, first_end_after}
use Rattle.log_laws.proofs.Lists.{replay_is_winners, cuts_resume, with_tail_is, left_of_tail, up_to_in_tail}
use Rattle.log_laws.proofs.Pages.{base_within_last, last_on_highest, replayed_page_law}
use Rattle.log_laws.proofs.Appended.{tail_names}

-- THE CHECKPOINT
-- a longer log and a newer page keep what the dirty page table holds up to m
dirty_stays : (log : History) (xs : List LogRecord) (m page lsn newer : ℕ) (listed : Option ℕ) → m ≤ last_lsn log → lsn ≤ newer → DirtyLaw log m page lsn listed → DirtyLaw (log ▸▸ xs) m page newer listed
dirty_stays log xs m page lsn newer listed le older d =
    record {
      range = subst (λ b. (rec_lsn : ℕ) → listed ≡ Some rec_lsn → (b < rec_lsn) × (rec_lsn ≤ m)) (sym (base_after log xs)) d.range;
      covers = λ n r up f on. elim (d.covers n r up (sym (record_in_front log xs n (omega arith)) ∙ f) on) [ inl o ↦ inl (omega arith) | inr o ↦ inr o ];
    }

-- a checkpoint stays true of a longer log, and of pages that are not older
checkpoint_stays : (log : History) (xs : List LogRecord) (old new : List Page) (m : ℕ) → AreNumbered old → AreNumbered new → length new ≡ length old
    → ((i : ℕ) (d : Page) → i < length old → (slice_index_or old i d).lsn ≤ (slice_index_or new i d).lsn) → CheckpointLaw log old m → CheckpointLaw (log ▸▸ xs) new m
checkpoint_stays log xs old new m old_numbered new_numbered count not_older (inl none) = inl none
checkpoint_stays log xs old new m old_numbered new_numbered count not_older (inr t) =
    let begins : record_at log m ≡ Some CheckpointBegin = checkpoint_begins m log (t.transactions, t.dirty) t.named in
    let le : m ≤ last_lsn log = record_within log m CheckpointBegin begins in
    inr
    (record {
      transactions = t.transactions;
      dirty = t.dirty;
      named =
          checkpoint_there m (log ▸▸ xs) (record_in_front log xs m le ∙ begins)
          ∙ first_end_after m log xs (t.transactions, t.dirty) (checkpoint_ends m log (t.transactions, t.dirty) t.named);
      transactions_are = t.transactions_are ∙ sym (ap true_table (first_in_front log xs m le));
      dirty_are = λ i d lt.
          (let within : i < length old = omega (arith, count, lt) in
          let same : (get_or old i d).number ≡ (get_or new i d).number = old_numbered.at_place i d within ∙ sym (new_numbered.at_place i d lt) in
          subst (λ page. DirtyLaw (log ▸▸ xs) m page (get_or new i d).lsn (rec_lsn_of page t.dirty)) same
          (dirty_stays log xs m (get_or old i d).number (get_or old i d).lsn (get_or new i d).lsn (rec_lsn_of (get_or old i d).number t.dirty) le (not_older i d within) (t.dirty_are i d within)));
    })

-- more records keep the base law
base_stays : (base : BasePages) (log : History) (xs : List LogRecord) → BaseLaw base log → BaseLaw base (log ▸▸ xs)
base_stays base log xs l page = omega (arith, l page, base_after log xs)

-- INTERRUPTED
-- the store that these make
abbrev made : (base : BasePages) (master count : ℕ) → History → Cells → StoreContent
made base master count log state = record { master = master; pages = map (λ page. record { number = page; lsn = last_on base page log; slots = slots_in state page }) (range_with_len 0 count) }

-- a restart continues from what is left with a prefix of the whole
pub restart_goes_on : RestartGoesOn
restart_goes_on base log store lsn left numbered h l =
    let whole : LogContent = up_to lsn (with_tail log) in
    let r = cuts_resume base log lsn h.log l.past in
    let k : ℕ = left_of_tail lsn log in
    let whole_is : whole ≡ log ⧺ take k (tail_of log) = up_to_in_tail lsn log l.past in
    let log_is : history whole ≡ history log ▸▸ take k (tail_of log) = ap history whole_is ∙ after-append (start (lsn_before log.begins)) log.records (take k (tail_of log)) in
    let winners_same : winners base (history whole) ≡ winners base (history log) = sym (replay_is_winners base whole r.lawful) ∙ ap (λ l. replay base (history l)) r.whole ∙ replay_is_winners base log h.log in
    let base_is : BaseLaw base (history whole) = subst (BaseLaw base) (sym log_is) (base_stays base (history log) (take k (tail_of log)) h.based) in
    record {
      lawful = record {
        based = base_is;
        log = r.lawful;
        names_pages = subst (λ count. EachRecord (NamesPages count) (history whole)) (sym l.count)
            (subst (EachRecord (NamesPages (length store.pages))) (sym log_is) (tail_names base (length store.pages) log k h.log h.names_pages));
        pages = l.pages;
        checkpoint = subst (λ log. CheckpointLaw log left.pages left.master) (sym log_is)
            (subst (CheckpointLaw (history log ▸▸ take k (tail_of log)) left.pages) (sym l.master)
            (checkpoint_stays (history log) (take k (tail_of log)) store.pages left.pages store.master numbered l.numbered l.count l.not_older h.checkpoint));
      };
      same_log = r.whole;
      same_store =
          ap₂ (λ master count. made base master count (history (with_tail whole)) (winners base (history whole))) l.master l.count
          ∙ ap₂ (λ log state. made base store.master (length store.pages) log state) (ap history r.whole) winners_same;
    }

-- DONE
module _ (base : BasePages) (log : LogContent) (store : StoreContent) (numbered : AreNumbered store.pages) (h : Lawful base log store) where
  abbrev whole : LogContent
  whole = with_tail log

  abbrev pages : List Page
  pages = (store_out base log store).pages

  count_out : length pages ≡ length store.pages
  count_out = length-map-range_with_len (page_out base log) 0 (length store.pages)

  page_at : (i : ℕ) (d : Page) → i < length store.pages → get_or pages i d ≡ page_out base log i
  page_at i d lt = get_or-map-range_with_len (page_out base log) 0 (length store.pages) i i d lt (omega arith)

  base_whole : BaseLaw base (history whole)
  base_whole = subst (BaseLaw base) (sym (with_tail_is log)) (base_stays base (history log) (tail_of log) h.based)

  -- the page after a restart is what the log and its tail make
  page_is : (page : ℕ) → replayed_page base (history whole) page ≡ page_out base log page
  page_is page = ap (λ state. record { number = page; lsn = last_on base page (history whole); slots = slots_in state page }) (replay_is_winners base log h.log)

  pages_out : All (PageLaw base (history whole)) pages
  pages_out i d lt =
      subst (PageLaw base (history whole)) (page_is i ∙ sym (page_at i d (omega (arith, count_out, lt)))) (replayed_page_law base (history whole) i base_whole)

  numbered_out : AreNumbered pages
  numbered_out =
      record {
        some = omega (arith, count_out, numbered.some);
        few = omega (arith, count_out, numbered.few);
        at_place = λ i d lt. ap (λ p. p.number) (page_at i d (omega (arith, count_out, lt)));
      }

  -- the PageLSN of a page that keeps the page law is that of a record on it
  within_last : (page : Page) → PageLaw base (history log) page → page.lsn ≤ last_on base page.number (history whole)
  within_last page law =
      elim law.on_page [
        | inl none ↦ omega (arith, none, base_within_last base page.number (history whole) base_whole)
        | inr found ↦
            last_on_highest base page.number (history whole) page.lsn found.0
            (ap (λ l. record_at l page.lsn) (with_tail_is log) ∙ record_in_front (history log) (tail_of log) page.lsn law.within ∙ found.1) found.2
      ]

  not_older : (i : ℕ) (d : Page) → i < length store.pages → (slice_index_or store.pages i d).lsn ≤ (slice_index_or pages i d).lsn
  not_older i d lt =
      let own = within_last (get_or store.pages i d) (h.pages i d lt) in
      let at : last_on base (get_or store.pages i d).number (history whole) ≡ last_on base i (history whole) = ap (λ page. last_on base page (history whole)) (numbered.at_place i d lt) in
      let lsn_is : (get_or pages i d).lsn ≡ last_on base i (history whole) = ap (λ p. p.lsn) (page_at i d lt) in
      omega (arith, own, at, lsn_is)

  all_of : up_to (last_lsn (history whole)) whole ≡ whole
  all_of = ap (λ xs. record { begins = log.begins; records = xs }) (take_all (last_lsn (history whole) - lsn_before log.begins) whole.records (omega (arith, size_of_log whole)))

  interrupted : Interrupted base log store (last_lsn (history whole)) (store_out base log store)
  interrupted =
      record {
        past = omega (arith, size_of_log log, size_of_log whole, length-append log.records (tail_of log));
        numbered = numbered_out;
        master = refl;
        count = count_out;
        pages = subst (λ l. All (PageLaw base (history l)) pages) (sym all_of) pages_out;
        not_older = not_older;
      }

  pub settled : Settled base log store
  settled =
      let g : GoesOn base log store whole (store_out base log store) =
      subst (λ l. GoesOn base log store l (store_out base log store)) all_of (restart_goes_on base log store (last_lsn (history whole)) (store_out base log store) numbered h interrupted) in
      record { lawful = g.lawful; same_store = g.same_store }

pub store_settles : StoreSettles
store_settles base log store numbered h = settled base log store numbered h
