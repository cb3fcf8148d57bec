-- What is on the disk after a crash is lawful, and recovery gives the winners.
use Rattle.std.proofs.Common.{◌≡◌, ◌≢◌, ◌<◌, ◌≤◌, ℕ, length, get_or, Option, Some, None, true, sym, ap, subst, ◌∙◌, inl, inr, arith}
use Rattle.page.specs.declared.profile.TheConstants.{SLOTS}
use Rattle.std.specs.Prelude.{All, slice_index_or}
use Rattle.std.proofs.lemmas.Bool.{cases_eq}
use Rattle.std.proofs.lemmas.List.FromFn.{get_or-map-range_with_len}
use Rattle.page.specs.declared.page.Page.{Page}
use Rattle.page.specs.Store.{StoreContent}
use Rattle.log_laws.specs.Records.{History, LogContent, history, last_lsn, base_lsn, record_at, first, EachRecord}
use Rattle.log_laws.specs.Meaning.{BasePages, BaseLaw, replay, winners, committed}
use Rattle.log_laws.specs.Laws.{IsLawful}
use Rattle.log_laws.specs.Redo.{slots_in, rec_lsn_of}
use Rattle.log_laws.specs.Pages.{PageLaw}
use Rattle.log_laws.specs.Checkpoint.{DirtyLaw, TablesLaw, CheckpointLaw, checkpoint_at, true_table}
use Rattle.log_laws.specs.Store.{NamesPages, Lawful, page_out, store_out}
use Rattle.log_laws.proofs.Histories.{record_in_first, first_first, size_of_first, size_of_first_le, base_of_first, base_within, up_to_is}
use Rattle.log_laws.proofs.Checkpoints.{checkpoint_begins, checkpoint_ends, checkpoint_within}
use Rattle.log_laws.proofs.Pages.{replayed_page_law, slot_held}
use Rattle.log_laws.proofs.Settled.{store_settles}
use Rattle.journal.specs.Runs.{Run, log_before, count_of, content_of, log_of, on_disk, run_at, AreTrueTables, IsRun}
use Rattle.journal.specs.Crash.{WasCurrent, IsMaster, Crashed}
use Rattle.journal.specs.Theorems.{CrashIsLawful, Recovers, CrashRecovers}
use Rattle.journal.proofs.Beginnings.{found_in_first, lawful_first, each_first, based_first, changed_before}
use Rattle.journal.proofs.Runs.{log_is, run_lawful, run_named, run_based, base_before, master_true, first_end_before}

-- PAGES
-- an image of some moment keeps the page law in each beginning of the log that it is not ahead of
pub given_law : (base : BasePages) (log : History) (lsn : ℕ) (page : Page) → BaseLaw base log → base_lsn log ≤ lsn → lsn ≤ last_lsn log → WasCurrent base log page → page.lsn ≤ lsn → PageLaw base (first lsn log) page
given_law base log lsn page based from le was_current ahead =
    let then : History = first was_current.moment log in
    let law : PageLaw base then page = subst (PageLaw base then) (sym was_current.is) (replayed_page_law base then page.number (based_first base was_current.moment log based)) in
    let early : page.lsn ≤ was_current.moment = omega (arith, law.within, size_of_first_le was_current.moment log was_current.from) in
    let same : first page.lsn then ≡ first page.lsn (first lsn log) = first_first page.lsn was_current.moment log early ∙ sym (first_first page.lsn lsn log ahead) in
    record {
      within = omega (arith, ahead, size_of_first lsn log from le);
      on_page = elim law.on_page [
        | inl e ↦ inl e
        | inr f ↦ inr (f.0, record_in_first lsn log page.lsn ahead ∙ found_in_first was_current.moment log page.lsn f.0 f.1, f.2)
      ];
      slots_are = law.slots_are ∙ ap (λ l. slots_in (replay base l) page.number) same;
    }

-- THE CHECKPOINT
-- what is true of a page up to m is true in a beginning of the log, and for a newer image
dirty_first : (log : History) (lsn m page known page_lsn : ℕ) (listed : Option ℕ) → known ≤ page_lsn → DirtyLaw log m page known listed → DirtyLaw (first lsn log) m page page_lsn listed
dirty_first log lsn m page known page_lsn listed newer d =
    record {
      range = subst (λ b. (rec_lsn : ℕ) → listed ≡ Some rec_lsn → (b < rec_lsn) × (rec_lsn ≤ m)) (sym (base_of_first lsn log)) d.range;
      covers = λ n r up f on. elim (d.covers n r up (found_in_first lsn log n r f) on) [ inl o ↦ inl (omega (arith, o, newer)) | inr o ↦ inr o ];
    }

module _ (base : BasePages) (run : Run) (lsn : ℕ) (log : LogContent) (store : StoreContent) (h : IsRun base run) (c : Crashed base run lsn log store) where
  from : base_lsn (log_of run) ≤ lsn
  from = omega (arith, c.some, base_within (history (log_before run)), base_before run)

  pub whole_is : history log ≡ first lsn (log_of run)
  whole_is =
      ap history c.log_is
      ∙ up_to_is lsn (content_of run) (subst (λ l. base_lsn l ≤ lsn) (sym (log_is run)) from)
      ∙ ap (first lsn) (log_is run)

  pages_law : All (PageLaw base (first lsn (log_of run))) store.pages
  pages_law i d lt =
      given_law base (log_of run) lsn (get_or store.pages i d) (run_based base run h) from c.within (c.was_current i d lt) (c.ahead i d lt)

  tables_law : store.master ≢ 0 → IsMaster base run log store.pages store.master → TablesLaw (first lsn (log_of run)) store.pages store.master
  tables_law some k =
      let m : ℕ = store.master in
      let l : History = first lsn (log_of run) in
      let named : checkpoint_at m l ≡ Some k.tables = ap (checkpoint_at m) (sym whole_is) ∙ k.named in
      let begins = found_in_first lsn (log_of run) m _ (checkpoint_begins m l k.tables named) in
      let ends = first_end_before m lsn (log_of run) k.tables (checkpoint_ends m l k.tables named) in
      let t : AreTrueTables base run m k.tables.0 k.tables.1 = master_true base run h m some k.taken k.tables begins ends in
      let le : m ≤ lsn = omega (arith, checkpoint_within m l k.tables named, size_of_first lsn (log_of run) from c.within) in
      record {
        transactions = k.tables.0;
        dirty = k.tables.1;
        named = named;
        transactions_are = t.transactions_are ∙ ap true_table (sym (first_first m lsn (log_of run) le));
        dirty_are = λ i d lt.
            (let page : Page = get_or store.pages i d in
            let number : page.number ≡ i = c.numbered.at_place i d lt in
            let there : page.number < count_of run = omega (arith, number, lt, c.count) in
            dirty_first (log_of run) lsn m page.number (on_disk base (run_at m run) page.number) page.lsn (rec_lsn_of page.number k.tables.1) (k.not_older i d lt) (t.dirty_are page.number there));
      }

  checkpoint_law : CheckpointLaw (first lsn (log_of run)) store.pages store.master
  checkpoint_law =
      elim c.master [
        | inl none ↦ inl none
        | inr k ↦
            elim (cases_eq store.master 0) [
              | inl none ↦ inl none
              | inr some ↦ inr (tables_law some k)
            ]
      ]

  pub crash_lawful : Lawful base log store
  crash_lawful =
      let e : first lsn (log_of run) ≡ history log = sym whole_is in
      record {
        based = subst (BaseLaw base) e (based_first base lsn (log_of run) (run_based base run h));
        log = subst (IsLawful base) e (lawful_first base lsn (log_of run) (run_lawful base run h));
        names_pages = subst (EachRecord (NamesPages (length store.pages))) e
            (subst (λ count. EachRecord (NamesPages count) (first lsn (log_of run))) (sym c.count) (each_first (NamesPages (count_of run)) lsn (log_of run) (run_named base run h)));
        pages = subst (λ l. All (PageLaw base l) store.pages) e pages_law;
        checkpoint = subst (λ l. CheckpointLaw l store.pages store.master) e checkpoint_law;
      }

  -- RECOVERY
  holds : (page slot : ℕ) (d : Page) → page < length store.pages → slot < SLOTS
      → slice_index_or (slice_index_or (store_out base log store).pages page d).slots slot None ≡ winners base (history log) page slot
  holds page slot d lt lt' =
      ap (λ (p : Page). slice_index_or p.slots slot None) (get_or-map-range_with_len (page_out base log) 0 (length store.pages) page page d lt (omega arith))
      ∙ slot_held (winners base (history log)) page slot lt'

  found_there : (n : ℕ) → n ≤ lsn → record_at (history log) n ≡ record_at (log_of run) n
  found_there n le = ap (λ l. record_at l n) whole_is ∙ record_in_first lsn (log_of run) n le

  pub recovers : Recovers base run lsn log store
  recovers =
      record {
        lawful = crash_lawful;
        settled = store_settles base log store c.numbered crash_lawful;
        holds = holds;
        whole = λ t n r done found own change.
            (let done' : committed t (first lsn (log_of run)) ≡ true = ap (committed t) (sym whole_is) ∙ done in
            found_there n (changed_before base (log_of run) (run_lawful base run h) lsn t n r done' found own change) ∙ found);
      }

pub crash_is_lawful : CrashIsLawful
crash_is_lawful base run lsn log store h c = crash_lawful base run lsn log store h c

pub crash_recovers : CrashRecovers
crash_recovers base run lsn log store h c = recovers base run lsn log store h c
