-- An engine that keeps the rules leaves what a crash may leave.
use Rattle.std.proofs.Common.{◌≡◌, ◌<◌, ◌≤◌, ◌⊎◌, ℕ, Bool, true, false, List, length, get_or, set, Some, refl, sym, ap, subst, ◌∙◌, inl, inr, arith, eqb, eqb-true, ltb, Option, None, [], ◌∷◌, eq-eqb, leb, suc}
use Rattle.std.specs.Prelude.{All, max}
use Rattle.std.proofs.lemmas.Bool.{cases_Bool, eqb-false, or_right, ltb-true, ltb-false, le-ltb, le-leb}
use Rattle.std.proofs.lemmas.List.{length-set, get_or-set_other}
use Rattle.std.proofs.lemmas.Grind.{get_or-set_at}
use Rattle.std.proofs.lemmas.List.Elements.{All-set}
use Rattle.page.specs.declared.page.Page.{Page}
use Rattle.page.specs.Store.{StoreContent, AreNumbered}
use Rattle.log_laws.specs.Records.{TableEntry, LogRecord, CheckpointBegin, CheckpointEnd, History, start, ◌▸◌, LogContent, history, last_lsn, base_lsn, record_at, first}
use Rattle.log_laws.specs.Meaning.{BasePages, BaseLaw, is_on, has, is_commit_of, last_on}
use Rattle.log_laws.specs.Checkpoint.{first_end, checkpoint_at}
use Rattle.log_laws.specs.Theorems.{replayed_page}
use Rattle.log_laws.proofs.Histories.{first_older, first_all, first_first, record_in_first, size_of_first, size_of_first_le, base_within, up_to_is}
use Rattle.log_laws.proofs.Checkpoints.{checkpoint_begins, checkpoint_ends, checkpoint_there, checkpoint_within, first_end_after}
use Rattle.journal.specs.Runs.{Run, opened, appended, reported, log_before, store_before, count_of, content_of, log_of, on_disk, run_at, MayOpen, IsRun}
use Rattle.journal.specs.Crash.{WasCurrent, Crashed}
use Rattle.journal.specs.Traces.{Trace, opens, appends, forces, writes, syncs, reports, sets_master, run_of, forced, with_page, with_master, newest_store, MayBeOnDisk, MayBeMaster, KeepsRules, left_log, EngineSurvives, EarlierMayBeWritten, CurrentMayBeWritten, CheckpointMayBeMaster}
use Rattle.journal.proofs.Beginnings.{found_in_first}
use Rattle.log_laws.proofs.Pages.{last_on_within}
use Rattle.journal.proofs.Runs.{run_based, log_is, base_before, first_end_before}
use Rattle.journal.proofs.Crash.{crash_recovers}

-- AN IMAGE is as the log made it at some moment so far
given_more : (base : BasePages) (log : History) (r : LogRecord) (page : Page) → WasCurrent base log page → WasCurrent base (log ▸ r) page
given_more base log r page g =
    elim (cases_Bool (ltb (last_lsn log) g.moment)) [
      | inl e ↦
          (let late : last_lsn log < g.moment = ltb-true (last_lsn log) g.moment e in
          let same : first g.moment log ≡ first (last_lsn log) (log ▸ r) =
          first_all g.moment log (omega (arith, late)) ∙ sym (first_all (last_lsn log) log (omega arith)) ∙ sym (first_older log r (last_lsn log) (omega arith)) in
          record { moment = last_lsn log; from = base_within log; is = g.is ∙ ap (λ l. replayed_page base l page.number) same })
      | inr e ↦
          record { moment = g.moment; from = g.from; is = g.is ∙ ap (λ l. replayed_page base l page.number) (sym (first_older log r g.moment (ltb-false (last_lsn log) g.moment e))) }
    ]

-- A CHECKPOINT whose end record is in the log has it there later
named_later : (m a b : ℕ) (log : History) (x : List TableEntry × List (ℕ × ℕ)) → base_lsn log ≤ a → a ≤ b → checkpoint_at m (first a log) ≡ Some x → checkpoint_at m (first b log) ≡ Some x
named_later m a b log x from le e =
    let early : m ≤ a = omega (arith, checkpoint_within m (first a log) x e, size_of_first_le a log from) in
    let begins : record_at (first b log) m ≡ Some CheckpointBegin = record_in_first b log m (omega (arith, early, le)) ∙ found_in_first a log m CheckpointBegin (checkpoint_begins m (first a log) x e) in
    checkpoint_there m (first b log) begins ∙ first_end_before m a (first b log) x (ap (first_end m) (first_first a b log le) ∙ checkpoint_ends m (first a log) x e)

-- WHAT IS KNOWN of the disk only grows
pub on_disk_before : (base : BasePages) (m : ℕ) (run : Run) (page : ℕ) → on_disk base (run_at m run) page ≤ on_disk base run page
on_disk_before base m (opened log store) page = omega arith
on_disk_before base m (appended run r) page =
    let before = on_disk_before base m run page in
    elim (cases_Bool (ltb (last_lsn (log_of run)) m)) [ inl e ↦ rw e (omega arith) | inr e ↦ rw e before ]
on_disk_before base m (reported run p lsn) page =
    let before = on_disk_before base m run page in
    let more : on_disk base run page ≤ on_disk base (reported run p lsn) page = elim (cases_Bool (eqb p page)) [ inl e ↦ rw e (omega arith) | inr e ↦ rw e (omega arith) ] in
    elim (cases_Bool (ltb (last_lsn (log_of run)) m)) [ inl e ↦ rw e (omega arith) | inr e ↦ rw e (omega (arith, before, more)) ]

-- THE STATE of the engine and the disk
pub record IsNamed (base : BasePages) (run : Run) (upto : ℕ) (pages : List Page) (m : ℕ) : Type 0 where
  pub tables : List TableEntry × List (ℕ × ℕ)
  pub named : checkpoint_at m (first upto (log_of run)) ≡ Some tables
  pub taken : (m ≡ (store_before run).master) ⊎ (last_lsn (history (log_before run)) < m)
  pub is_there : All (λ (page : Page). on_disk base (run_at m run) page.number ≤ page.lsn) pages

pub record Agrees (base : BasePages) (run : Run) (upto : ℕ) (st : StoreContent) : Type 0 where
  pub some : last_lsn (history (log_before run)) ≤ upto
  pub within : upto ≤ last_lsn (log_of run)
  pub numbered : AreNumbered st.pages
  pub count : length st.pages ≡ count_of run
  pub was_current : All (WasCurrent base (log_of run)) st.pages
  pub ahead : All (λ (page : Page). page.lsn ≤ upto) st.pages
  pub master : (st.master ≡ 0) ⊎ IsNamed base run upto st.pages st.master

module _ (base : BasePages) (run : Run) (upto : ℕ) (st : StoreContent) (s : Agrees base run upto st) where
  from : base_lsn (log_of run) ≤ upto
  from = omega (arith, s.some, base_within (history (log_before run)), base_before run)

  named_within : (m : ℕ) → IsNamed base run upto st.pages m → m ≤ last_lsn (log_of run)
  named_within m n = omega (arith, checkpoint_within m (first upto (log_of run)) n.tables n.named, size_of_first_le upto (log_of run) from, s.within)

  -- what comes now was not there at the moment m
  moment_appended : (m : ℕ) (r : LogRecord) → m ≤ last_lsn (log_of run) → run_at m (appended run r) ≡ run_at m run
  moment_appended m r le = (let e : ltb (last_lsn (log_of run)) m ≡ false = le-ltb (last_lsn (log_of run)) m le in rw e refl)

  moment_told : (m page page_lsn : ℕ) → m ≤ last_lsn (log_of run) → run_at m (reported run page page_lsn) ≡ run_at m run
  moment_told m page page_lsn le = (let e : ltb (last_lsn (log_of run)) m ≡ false = le-ltb (last_lsn (log_of run)) m le in rw e refl)

  after_append : (r : LogRecord) → Agrees base (appended run r) upto st
  after_append r =
      let log : History = log_of run in
      record {
        some = s.some;
        within = omega (arith, s.within);
        numbered = s.numbered;
        count = s.count;
        was_current = λ i d lt. given_more base log r (get_or st.pages i d) (s.was_current i d lt);
        ahead = s.ahead;
        master = elim s.master [
          | inl e ↦ inl e
          | inr n ↦
              (let m : ℕ = st.master in
              inr (record {
                tables = n.tables;
                named = ap (checkpoint_at m) (first_older log r upto s.within) ∙ n.named;
                taken = n.taken;
                is_there = subst (λ x. All (λ (page : Page). on_disk base x page.number ≤ page.lsn) st.pages) (sym (moment_appended m r (named_within m n))) n.is_there;
              }))
        ];
      }

  after_force : (lsn : ℕ) → lsn ≤ last_lsn (log_of run) → Agrees base run (max upto lsn) st
  after_force lsn to =
      let le : upto ≤ max upto lsn = omega arith in
      record {
        some = omega (arith, s.some, le);
        within = omega (arith, to, s.within);
        numbered = s.numbered;
        count = s.count;
        was_current = s.was_current;
        ahead = λ i d lt. omega (arith, s.ahead i d lt, le);
        master = elim s.master [
          | inl e ↦ inl e
          | inr n ↦ inr (record { tables = n.tables; named = named_later st.master upto (max upto lsn) (log_of run) n.tables from le n.named; taken = n.taken; is_there = n.is_there })
        ];
      }

  -- a page on the disk
  module _ (page : Page) (there : page.number < count_of run) (was_current : WasCurrent base (log_of run) page) (ahead : page.lsn ≤ upto) (covered : (st.master ≡ 0) ⊎ (on_disk base (run_at st.master run) page.number ≤ page.lsn)) where
    abbrev ps : List Page
    ps = st.pages

    room : page.number < length ps
    room = omega (arith, there, s.count)

    numbered_then : AreNumbered (set ps page.number page)
    numbered_then =
        record {
          some = omega (arith, length-set ps page.number page, s.numbered.some);
          few = omega (arith, length-set ps page.number page, s.numbered.few);
          at_place = λ i d lt.
              elim (cases_Bool (eqb i page.number)) [
                | inl e ↦ (let same : i ≡ page.number = eqb-true i page.number e in ap (λ (p : Page). p.number) (get_or-set_at ps page.number i page d same room) ∙ sym same)
                | inr e ↦ ap (λ (p : Page). p.number) (get_or-set_other ps page.number i page d (eqb-false i page.number e)) ∙ s.numbered.at_place i d (omega (arith, lt, length-set ps page.number page))
              ];
        }

    after_write : Agrees base run upto (with_page page st)
    after_write =
        record {
          some = s.some;
          within = s.within;
          numbered = numbered_then;
          count = length-set ps page.number page ∙ s.count;
          was_current = All-set (WasCurrent base (log_of run)) ps page.number page was_current s.was_current;
          ahead = All-set (λ (p : Page). p.lsn ≤ upto) ps page.number page ahead s.ahead;
          master = elim s.master [
            | inl e ↦ inl e
            | inr n ↦
                elim covered [
                  | inl e ↦ inl e
                  | inr c ↦
                      (let m : ℕ = st.master in
                      inr (record { tables = n.tables; named = n.named; taken = n.taken; is_there = All-set (λ (p : Page). on_disk base (run_at m run) p.number ≤ p.lsn) ps page.number page c n.is_there }))
                ]
          ];
        }

  after_tell : (page page_lsn : ℕ) → Agrees base (reported run page page_lsn) upto st
  after_tell page page_lsn =
      record {
        some = s.some;
        within = s.within;
        numbered = s.numbered;
        count = s.count;
        was_current = s.was_current;
        ahead = s.ahead;
        master = elim s.master [
          | inl e ↦ inl e
          | inr n ↦
              (let m : ℕ = st.master in
              inr (record {
                tables = n.tables;
                named = n.named;
                taken = n.taken;
                is_there = subst (λ x. All (λ (p : Page). on_disk base x p.number ≤ p.lsn) st.pages) (sym (moment_told m page page_lsn (named_within m n))) n.is_there;
              }))
        ];
      }

  after_name : (m : ℕ) → (m ≡ 0) ⊎ IsNamed base run upto st.pages m → Agrees base run upto (with_master m st)
  after_name m w =
      record {
        some = s.some;
        within = s.within;
        numbered = s.numbered;
        count = s.count;
        was_current = s.was_current;
        ahead = s.ahead;
        master = elim w [
          | inl e ↦ inl e
          | inr n ↦ inr (record { tables = n.tables; named = n.named; taken = n.taken; is_there = n.is_there })
        ];
      }

module _ (base : BasePages) (log : LogContent) (store : StoreContent) (h : MayOpen base log store) where
  abbrev l : History
  l = history log

  whole : first (last_lsn l) l ≡ l
  whole = first_all (last_lsn l) l (omega arith)

  pub is_there : (number : ℕ) (d : Page) → number < length store.pages → last_on base number l ≤ (get_or store.pages number d).lsn
  is_there number d lt =
      let at = h.numbered.at_place number d lt in
      let is : (get_or store.pages number d).lsn ≡ last_on base (get_or store.pages number d).number l = ap (λ (p : Page). p.lsn) (h.current number d lt) in
      let same : last_on base (get_or store.pages number d).number l ≡ last_on base number l = ap (λ k. last_on base k l) at in
      omega (arith, is, same)

  at_opening : Agrees base (opened log store) (last_lsn l) store
  at_opening =
      record {
        some = omega arith;
        within = omega arith;
        numbered = h.numbered;
        count = refl;
        was_current = λ i d lt. record { moment = last_lsn l; from = base_within l; is = h.current i d lt ∙ ap (λ x. replayed_page base x (get_or store.pages i d).number) (sym whole) };
        ahead = λ i d lt. (h.lawful.pages i d lt).within;
        master = elim h.lawful.checkpoint [
          | inl e ↦ inl e
          | inr c ↦
              inr (record {
                tables = (c.transactions, c.dirty);
                named = ap (checkpoint_at store.master) whole ∙ c.named;
                taken = inl refl;
                is_there = λ i d lt.
                    (let number : (get_or store.pages i d).number ≡ i = h.numbered.at_place i d lt in
                    subst (λ k. last_on base k l ≤ (get_or store.pages i d).lsn) (sym number) (is_there i d lt));
              })
        ];
      }

-- all that was written may be on the disk
pub newest_lies : (t : Trace) → MayBeOnDisk t (newest_store t)
newest_lies (opens log store) = refl
newest_lies (appends t r) = newest_lies t
newest_lies (forces t lsn) = newest_lies t
newest_lies (writes t page) = inr (newest_store t, newest_lies t, refl)
newest_lies (syncs t) = refl
newest_lies (reports t page page_lsn) = newest_lies t
newest_lies (sets_master t master) = inr (newest_store t, newest_lies t, refl)

pub holds : (base : BasePages) (t : Trace) (st : StoreContent) → IsRun base (run_of t) → KeepsRules base t → MayBeOnDisk t st → Agrees base (run_of t) (forced t) st
holds base (opens log store) st h k l = subst (Agrees base (opened log store) (last_lsn (history log))) (sym l) (at_opening base log store h)
holds base (appends t r) st h k l = after_append base (run_of t) (forced t) st (holds base t st h.0 k l) r
holds base (forces t lsn) st h k l = after_force base (run_of t) (forced t) st (holds base t st h k.0 l) lsn k.1
holds base (writes t page) st h k l =
    elim l [
      | inl old ↦ holds base t st h k.0 old
      | inr new ↦
          subst (Agrees base (run_of t) (forced t)) (sym new.2)
          (after_write base (run_of t) (forced t) new.0 (holds base t new.0 h k.0 new.1) page k.1.there k.1.was_current k.1.ahead (k.1.covered new.0 new.1))
    ]
holds base (syncs t) st h k l = subst (Agrees base (run_of t) (forced t)) (sym l) (holds base t (newest_store t) h k (newest_lies t))
holds base (reports t page page_lsn) st h k l = after_tell base (run_of t) (forced t) st (holds base t st h k.0 l) page page_lsn
holds base (sets_master t master) st h k l =
    elim l [
      | inl old ↦ holds base t st h k.0 old
      | inr new ↦
          subst (Agrees base (run_of t) (forced t)) (sym new.2)
          (after_name base (run_of t) (forced t) new.0 (holds base t new.0 h k.0 new.1) master (may_be_named base t master new.0 new.1 k.1))
    ]
  where
    may_be_named : (base : BasePages) (t : Trace) (m : ℕ) (st : StoreContent) → MayBeOnDisk t st → (m ≡ 0) ⊎ MayBeMaster base t m → (m ≡ 0) ⊎ IsNamed base (run_of t) (forced t) st.pages m
    may_be_named base t m st l (inl e) = inl e
    may_be_named base t m st l (inr n) = inr (record { tables = n.tables; named = n.named; taken = n.taken; is_there = n.is_there st l })

-- WHAT IS FORCED is there
pub has_in_whole : (p : LogRecord → Bool) (a : ℕ) (log : History) → has p (first a log) ≡ true → has p log ≡ true
has_in_whole p a (start _) e = e
has_in_whole p a (log ▸ r) e =
    elim (cases_Bool (ltb (last_lsn log) a)) [
      | inl l ↦ rw l at e
      | inr l ↦ or_right (p r) (has p log) (has_in_whole p a log (rw l at e))
    ]

module _ (base : BasePages) (t : Trace) (lsn : ℕ) (h : IsRun base (run_of t)) (k : KeepsRules base t) (le : forced t ≤ lsn) (to : lsn ≤ last_lsn (log_of (run_of t))) where
  s : Agrees base (run_of t) (forced t) (newest_store t)
  s = holds base t (newest_store t) h k (newest_lies t)

  pub whole_left : history (left_log t lsn) ≡ first lsn (log_of (run_of t))
  whole_left = up_to_is lsn (content_of (run_of t)) (subst (λ l. base_lsn l ≤ lsn) (sym (log_is (run_of t))) (omega (arith, from base (run_of t) (forced t) (newest_store t) s, le))) ∙ ap (first lsn) (log_is (run_of t))

  -- what is left has each record that was forced
  pub has_lasts : (p : LogRecord → Bool) → has p (first (forced t) (log_of (run_of t))) ≡ true → has p (history (left_log t lsn)) ≡ true
  has_lasts p e =
      let log : History = log_of (run_of t) in
      let within : has p (first (forced t) (first lsn log)) ≡ true = ap (has p) (first_first (forced t) lsn log le) ∙ e in
      ap (has p) whole_left ∙ has_in_whole p (forced t) (first lsn log) within

  module _ (st : StoreContent) (l : MayBeOnDisk t st) where
    z : Agrees base (run_of t) (forced t) st
    z = holds base t st h k l

    pub crashed : Crashed base (run_of t) lsn (left_log t lsn) st
    crashed =
        record {
          some = omega (arith, z.some, le);
          within = to;
          log_is = refl;
          numbered = z.numbered;
          count = z.count;
          was_current = z.was_current;
          ahead = λ i d lt. omega (arith, z.ahead i d lt, le);
          master = elim z.master [
            | inl e ↦ inl e
            | inr n ↦
                (let m : ℕ = st.master in
                inr (record {
                  tables = n.tables;
                  named = ap (checkpoint_at m) whole_left ∙ named_later m (forced t) lsn (log_of (run_of t)) n.tables (from base (run_of t) (forced t) (newest_store t) s) le n.named;
                  taken = n.taken;
                  not_older = n.is_there;
                }))
          ];
        }

pub engine_survives : EngineSurvives
engine_survives base t lsn store h k le to l =
    record {
      recovers = crash_recovers base (run_of t) lsn (left_log t lsn) store h (crashed base t lsn h k le to store l);
      durable = λ tx e. has_lasts base t lsn h k le to (is_commit_of tx) e;
    }

-- THE NEWEST IMAGE is not older than any that was reported
last_on_more : (base : BasePages) (page : ℕ) (log : History) (r : LogRecord) → BaseLaw base log → last_on base page log ≤ last_on base page (log ▸ r)
last_on_more base page log r based = elim (cases_Bool (is_on page r)) [ inl e ↦ rw e (omega (arith, last_on_within base page log based)) | inr e ↦ rw e (omega arith) ]

told_within : (base : BasePages) (t : Trace) (number : ℕ) → IsRun base (run_of t) → KeepsRules base t → on_disk base (run_of t) number ≤ last_on base number (log_of (run_of t))
told_within base (opens log store) number h k = omega arith
told_within base (appends t r) number h k = (let older = told_within base t number h.0 k in omega (arith, older, last_on_more base number (log_of (run_of t)) r (run_based base (run_of t) h.0)))
told_within base (forces t lsn) number h k = told_within base t number h k.0
told_within base (writes t page) number h k = told_within base t number h k.0
told_within base (syncs t) number h k = told_within base t number h k
told_within base (reports t page page_lsn) number h k =
    (let older = told_within base t number h k.0 in
    elim (cases_Bool (eqb page number)) [
      | inl e ↦ (let same : page ≡ number = eqb-true page number e in let now : page_lsn ≤ last_on base number (log_of (run_of t)) = subst (λ n. page_lsn ≤ last_on base n (log_of (run_of t))) same k.1 in rw e (omega (arith, now, older)))
      | inr e ↦ rw e older
    ])
told_within base (sets_master t master) number h k = told_within base t number h k.0

pub earlier_may_be_written : EarlierMayBeWritten
earlier_may_be_written base t page h k room was_current le told_older =
    record {
      there = room;
      was_current = was_current;
      ahead = le;
      covered = λ st l.
          elim (holds base t st h k l).master [
            | inl e ↦ inl e
            | inr n ↦ inr (omega (arith, on_disk_before base st.master (run_of t) page.number, told_older))
          ];
    }

pub current_may_be_written : CurrentMayBeWritten
current_may_be_written base t number page h k c le =
    let log : History = log_of (run_of t) in
    let named : page.number ≡ number = ap (λ (p : Page). p.number) c.is in
    let lsn : page.lsn ≡ last_on base number log = ap (λ (p : Page). p.lsn) c.is in
    let was_current : WasCurrent base log page = record {
      moment = last_lsn log;
      from = base_within log;
      is = c.is ∙ ap (λ n. replayed_page base log n) (sym named) ∙ ap (λ l. replayed_page base l page.number) (sym (first_all (last_lsn log) log (omega arith)));
    } in
    let told_older : on_disk base (run_of t) number ≤ page.lsn = omega (arith, told_within base t number h k, lsn) in
    earlier_may_be_written base t page h k (omega (arith, named, c.there)) was_current le (subst (λ n. on_disk base (run_of t) n ≤ page.lsn) (sym named) told_older)

-- the log up to what was forced ends there
pub forced_size : (base : BasePages) (t : Trace) → IsRun base (run_of t) → KeepsRules base t → last_lsn (history (left_log t (forced t))) ≡ forced t
forced_size base t h k =
    let s : Agrees base (run_of t) (forced t) (newest_store t) = holds base t (newest_store t) h k (newest_lies t) in
    ap last_lsn (whole_left base t (forced t) h k (omega arith) s.within) ∙ size_of_first (forced t) (log_of (run_of t)) (from base (run_of t) (forced t) (newest_store t) s) s.within

-- AN END RECORD in the log names its begin record
abbrev Tables : Type 0
Tables = List TableEntry × List (ℕ × ℕ)

end_last : (log : History) (begin : ℕ) (tables : Tables) → begin ≤ last_lsn log → (x : Tables) × (first_end begin (log ▸ CheckpointEnd begin tables.0 tables.1) ≡ Some x)
end_last log begin tables le = by_earlier (first_end begin log) refl
  where
    by_earlier : (o : Option Tables) → first_end begin log ≡ o → (x : Tables) × (first_end begin (log ▸ CheckpointEnd begin tables.0 tables.1) ≡ Some x)
    by_earlier (Some x) e = (x, rw e refl)
    by_earlier None e =
        (let own : eqb begin begin ≡ true = eq-eqb begin begin refl in
        let up : leb begin (last_lsn log) ≡ true = le-leb begin (last_lsn log) le in
        (tables, rw (e, own, up) refl))

end_found : (log : History) (begin end : ℕ) (tables : Tables) → begin < end → record_at log end ≡ Some (CheckpointEnd begin tables.0 tables.1) → (x : Tables) × (first_end begin log ≡ Some x)
end_found (start _) begin end tables lt f = absurd (cc)
end_found (log ▸ r) begin end tables lt f =
    elim (cases_Bool (eqb end (suc (last_lsn log)))) [
      | inl e ↦
          (let last : end ≡ suc (last_lsn log) = eqb-true end (suc (last_lsn log)) e in
          let is : Some r ≡ Some (CheckpointEnd begin tables.0 tables.1) = rw e at f in
          let same : r ≡ CheckpointEnd begin tables.0 tables.1 = cc in
          subst (λ (q : LogRecord). (x : Tables) × (first_end begin (log ▸ q) ≡ Some x)) (sym same) (end_last log begin tables (omega (arith, last, lt))))
      | inr e ↦
          (let older : record_at log end ≡ Some (CheckpointEnd begin tables.0 tables.1) = rw e at f in
          let x = end_found log begin end tables lt older in
          (x.0, first_end_after begin log (r ∷ []) x.0 x.1))
    ]

pub checkpoint_may_be_master : CheckpointMayBeMaster
checkpoint_may_be_master base t begin end ts d h k own lt le begins ends is_there =
    let log : History = log_of (run_of t) in
    let n : ℕ = forced t in
    let there : record_at (first n log) begin ≡ Some CheckpointBegin = record_in_first n log begin (omega (arith, lt, le)) ∙ begins in
    let x = end_found (first n log) begin end (ts, d) lt (record_in_first n log end le ∙ ends) in
    record { tables = x.0; named = checkpoint_there begin (first n log) there ∙ x.1; taken = inr own; is_there = is_there }
