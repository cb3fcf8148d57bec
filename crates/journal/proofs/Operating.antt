-- What each operation makes of what is kept.
use Rattle.std.proofs.Common.{◌≡◌, ◌≢◌, ◌<◌, ◌+◌, ◌-◌, ◌^◌, ℕ, true, false, cond, List, [], ◌∷◌, ◌++◌, length, take, get_or, set, Option, Some, None, refl, sym, ap, subst, ◌∙◌, arith, eqb, eq-eqb}
use Rattle.page.specs.declared.profile.TheConstants.{SLOTS}
use Rattle.std.proofs.lemmas.Bool.{or_left, or_right}
use Rattle.std.proofs.lemmas.List.{get_or_default}
use Rattle.page.specs.Image.{Image}
use Rattle.page.specs.declared.page.Page.{Page}
use Rattle.log_laws.specs.declared.state.State.TheVariants.{Active, Prepared, Aborting}
use Rattle.log_laws.specs.Records.{UpdateRecord, CompensationRecord, LogRecord, Update, Compensation, Commit, Abort, End, Prepare, ◌▸◌, last_lsn}
use Rattle.log_laws.specs.Meaning.{BasePages, is_of, is_on, committed, ended, finished, replay, last_of, last_writer}
use Rattle.log_laws.specs.Laws.{Obeys}
use Rattle.log_laws.specs.Store.{NamesPages}
use Rattle.wal.specs.Spelling.{Fits}
use Rattle.log_laws.proofs.Pages.{slot_held}
use Rattle.journal.specs.Runs.{Run, appended, count_of, log_of, HasTrueTables}
use Rattle.journal.specs.Transactions.{Pending, Transaction, IsTransaction, AreTransactions, IsFreeFor, Changes, HasUpdated, HasUndone, HasChangedState, IsNewest}
use Rattle.journal.specs.PageStates.{PageState, IsPageState, ArePageStates, changed}
use Rattle.journal.specs.State.{Agrees, update_by, IsUndo, plain_by}
use Rattle.journal.proofs.Runs.{run_lawful}
use Rattle.journal.proofs.Changed.{changed_at}
use Rattle.journal.proofs.Transactions.{transaction_updates, transaction_undoes, transaction_aborts, transaction_prepares, newest_compensates}
use Rattle.journal.proofs.Standing.{standing_goes_on, standing_finishes, has_low}
use Rattle.journal.proofs.Obeying.{update_obeys, clr_obeys, commit_obeys, abort_obeys, prepare_obeys, end_obeys}
use Rattle.journal.proofs.PageStates.{Puts, pages_same, pages_changed}
use Rattle.journal.proofs.Appending.{stands_appends}

module _ (base : BasePages) (run : Run) (last next : ℕ) (kept : ℕ → Option Transaction) (pages : List PageState) (h : Agrees base run last next kept pages) (lsn : ℕ) (is : lsn ≡ last + 1) (small : lsn < 2 ^ 64) where
  at : last_lsn (log_of run) + 1 ≡ lsn
  at = omega (arith, h.last_is, is)

  -- for any record that was appended
  pub logged : (r : LogRecord) (after : ℕ → Option Transaction) (held : List PageState) → Obeys base (log_of run) r → NamesPages (count_of run) r → HasTrueTables base run r → Fits r
      → AreTransactions (log_of run ▸ r) next after → ArePageStates base (appended run r) held → Agrees base (appended run r) lsn next after held
  logged r after held obeys named tables fits transactions are =
      stands_appends base run last next kept after pages held r lsn is (record { obeys = obeys; fits = fits; few = omega (arith, at, small); names_pages = named; tables = tables }) transactions are h

  -- ONE TRANSACTION
  module _ (tx : ℕ) (x : Transaction) (was : kept tx ≡ Some x) (after : ℕ → Option Transaction) where
    own : IsTransaction (log_of run) tx x
    own = h.transactions.each tx x was

    prev_is : x.entry.last ≡ last_of tx (log_of run)
    prev_is = own.last

    -- a record that changes no cell
    same_pages : (r : LogRecord) → ((number : ℕ) → is_on number r ≡ false) → ArePageStates base (appended run r) pages
    same_pages r off = pages_same base run r pages off h.pages_are

    -- it finishes
    gone : (r : LogRecord) → ((t : ℕ) → is_of t r ≡ eqb tx t) → finished tx (log_of run ▸ r) ≡ true → ((t : ℕ) → after t ≡ cond (eqb tx t) None (kept t)) → AreTransactions (log_of run ▸ r) next after
    gone r of done follows = standing_finishes (log_of run) next tx kept after r None of (has_low (log_of run) next tx kept x was h.transactions) follows h.transactions refl done

    pub commits : x.entry.state ≢ Aborting → ((t : ℕ) → after t ≡ cond (eqb tx t) None (kept t)) → Fits (Commit (record { tx = tx; prev = x.entry.last })) → Agrees base (appended run (Commit (plain_by run tx))) lsn next after pages
    commits free follows fits =
        let r : LogRecord = Commit (plain_by run tx) in
        let done : finished tx (log_of run ▸ r) ≡ true = or_left (committed tx (log_of run ▸ r)) (ended tx (log_of run ▸ r)) (or_left (eqb tx tx) (committed tx (log_of run)) (eq-eqb tx tx refl)) in
        logged r after pages
        (commit_obeys base (log_of run) (run_lawful base run h.runs) next kept h.transactions tx x was free) tt tt
        (subst (λ n. Fits (Commit (record { tx = tx; prev = n }))) prev_is fits)
        (gone r (λ t. refl) done follows) (same_pages r (λ number. refl))

    pub ends : x.entry.state ≢ Prepared → x.pending ≡ [] → ((t : ℕ) → after t ≡ cond (eqb tx t) None (kept t)) → Fits (End (record { tx = tx; prev = x.entry.last })) → Agrees base (appended run (End (plain_by run tx))) lsn next after pages
    ends free none follows fits =
        let r : LogRecord = End (plain_by run tx) in
        let done : finished tx (log_of run ▸ r) ≡ true = or_right (committed tx (log_of run ▸ r)) (ended tx (log_of run ▸ r)) (or_left (eqb tx tx) (ended tx (log_of run)) (eq-eqb tx tx refl)) in
        logged r after pages
        (end_obeys base (log_of run) (run_lawful base run h.runs) next kept h.transactions tx x was free none) tt tt
        (subst (λ n. Fits (End (record { tx = tx; prev = n }))) prev_is fits)
        (gone r (λ t. refl) done follows) (same_pages r (λ number. refl))

    -- it continues
    goes_on : (r : LogRecord) (R : Transaction → Transaction → Type 0) (c : Changes kept after tx R) → ((t : ℕ) → is_of t r ≡ eqb tx t)
        → ((y : Transaction) → R x y → IsTransaction (log_of run ▸ r) tx y) → AreTransactions (log_of run ▸ r) next after
    goes_on r R c of holds =
        let y = c.own x was in
        standing_goes_on (log_of run) next tx kept after r (Some y.0) of (has_low (log_of run) next tx kept x was h.transactions) (changed_at kept after tx R y.0 c y.1) h.transactions y.0 refl (holds y.0 y.2)

    pub aborts : x.entry.state ≢ Aborting → Changes kept after tx (HasChangedState Aborting lsn) → Fits (Abort (record { tx = tx; prev = x.entry.last })) → Agrees base (appended run (Abort (plain_by run tx))) lsn next after pages
    aborts free c fits =
        let r : LogRecord = Abort (plain_by run tx) in
        logged r after pages
        (abort_obeys base (log_of run) (run_lawful base run h.runs) next kept h.transactions tx x was free) tt tt
        (subst (λ n. Fits (Abort (record { tx = tx; prev = n }))) prev_is fits)
        (goes_on r (HasChangedState Aborting lsn) c (λ t. refl) (λ y e. transaction_aborts (log_of run) lsn at x y (plain_by run tx) e.0 e.1 own))
        (same_pages r (λ number. refl))

    pub prepares : x.entry.state ≡ Active → Changes kept after tx (HasChangedState Prepared lsn) → Fits (Prepare (record { tx = tx; prev = x.entry.last })) → Agrees base (appended run (Prepare (plain_by run tx))) lsn next after pages
    prepares active c fits =
        let r : LogRecord = Prepare (plain_by run tx) in
        logged r after pages
        (prepare_obeys base (log_of run) (run_lawful base run h.runs) next kept h.transactions tx x was active) tt tt
        (subst (λ n. Fits (Prepare (record { tx = tx; prev = n }))) prev_is fits)
        (goes_on r (HasChangedState Prepared lsn) c (λ t. refl) (λ y e. transaction_prepares (log_of run) lsn at x y (plain_by run tx) active e.0 e.1 own))
        (same_pages r (λ number. refl))

    -- A CELL
    module _ (page slot : ℕ) (room : page < length pages) (low : slot < SLOTS) (held : List PageState) (image : Image)
        (put : (d : PageState) → held ≡ set pages page (changed (get_or pages page d) tx slot image lsn)) where
      blank : PageState
      blank = record { page = record { number = 0; lsn = 0; slots = [] }; writers = []; rec_lsn = None }

      here : PageState
      here = get_or pages page blank

      here_is : IsPageState base run page here
      unfolding here
      here_is = h.pages_are.each page blank room

      own_place : here ≡ get_or pages page here
      unfolding here
      own_place = get_or_default pages page blank (get_or pages page blank) room

      value_is : get_or here.page.slots slot None ≡ replay base (log_of run) page slot
      value_is = ap (λ (p : Page). get_or p.slots slot None) here_is.image ∙ slot_held (replay base (log_of run)) page slot low

      there : page < count_of run
      there = omega (arith, room, h.pages_are.count)

      held_are : (r : LogRecord) → Puts r tx page slot image → ArePageStates base (appended run r) held
      unfolding here
      held_are r puts = subst (ArePageStates base (appended run r)) (sym (put blank)) (pages_changed base run r tx page slot image pages here lsn puts low at room own_place h.pages_are)

      -- what the cell holds is what the log says
      pub cell_is : (before : Image) → ((d : PageState) → before ≡ get_or (get_or pages page d).page.slots slot None) → before ≡ replay base (log_of run) page slot
      unfolding here
      cell_is before value = value blank ∙ value_is

      pub updates : (before : Image) → x.entry.state ≡ Active
          → ((d : PageState) → before ≡ get_or (get_or pages page d).page.slots slot None)
          → ((d : PageState) → IsFreeFor kept (get_or (get_or pages page d).writers slot None) tx)
          → Changes kept after tx (HasUpdated (record { lsn = lsn; prev = x.entry.last; page = page; slot = slot; before = before }))
          → Fits (Update (record { tx = tx; prev = x.entry.last; page = page; slot = slot; before = before; after = image }))
          → Agrees base (appended run (update_by base run tx page slot image)) lsn next after held
      unfolding here
      updates before active value free c fits =
          let r : LogRecord = update_by base run tx page slot image in
          let old : before ≡ replay base (log_of run) page slot = cell_is before value in
          let writer : get_or here.writers slot None ≡ last_writer page slot (log_of run) = here_is.writers slot low in
          let free_is : IsFreeFor kept (last_writer page slot (log_of run)) tx = subst (λ o. IsFreeFor kept o tx) writer (free blank) in
          let puts : Puts r tx page slot image = record { owner_is = refl; writes_is = λ p s. refl; on_is = λ p. refl; image_is = refl } in
          let u : UpdateRecord = record { tx = tx; prev = last_of tx (log_of run); page = page; slot = slot; before = replay base (log_of run) page slot; after = image } in
          let c' : Changes kept after tx (HasUpdated (record { lsn = lsn; prev = last_of tx (log_of run); page = page; slot = slot; before = replay base (log_of run) page slot })) =
          subst (λ b. Changes kept after tx (HasUpdated (record { lsn = lsn; prev = last_of tx (log_of run); page = page; slot = slot; before = b }))) old
          (subst (λ n. Changes kept after tx (HasUpdated (record { lsn = lsn; prev = n; page = page; slot = slot; before = before }))) prev_is c) in
          logged r after held
          (update_obeys base (log_of run) (run_lawful base run h.runs) next kept h.transactions tx x was page slot image active free_is) there tt
          (subst (λ b. Fits (Update (record { tx = tx; prev = last_of tx (log_of run); page = page; slot = slot; before = b; after = image }))) old
          (subst (λ n. Fits (Update (record { tx = tx; prev = n; page = page; slot = slot; before = before; after = image }))) prev_is fits))
          (goes_on r _ c' (λ t. refl)
          (λ y e. transaction_updates (log_of run) lsn at x y u active (e.0 ∙ ap (λ s. record { state = s; last = lsn; undo_next = lsn }) active) e.1 own))
          (held_are r puts)

      pub undoes : (undone : Pending) → undone.page ≡ page → undone.slot ≡ slot → undone.before ≡ image → x.entry.state ≢ Prepared → IsNewest x.pending (Some undone)
          → Changes kept after tx (HasUndone lsn undone.prev)
          → Fits (Compensation (record { tx = tx; prev = x.entry.last; page = page; slot = slot; undo_next = undone.prev; image = image }))
          → (r : LogRecord) × IsUndo run tx r × Agrees base (appended run r) lsn next after held × (r ≡ Compensation (record { tx = tx; prev = x.entry.last; page = page; slot = slot; undo_next = undone.prev; image = image }))
      undoes undone page_is slot_is image_is free newest_store c fits =
          let clr : CompensationRecord = record { tx = tx; prev = last_of tx (log_of run); page = page; slot = slot; undo_next = undone.prev; image = image } in
          let r : LogRecord = Compensation clr in
          let below : List Pending = take (length x.pending - 1) x.pending in
          let compensates = newest_compensates (log_of run) tx x below undone clr newest_store refl (sym page_is) (sym slot_is) (sym image_is) refl own in
          let puts : Puts r tx page slot image = record { owner_is = refl; writes_is = λ p s. refl; on_is = λ p. refl; image_is = refl } in (
            r,
            record { clr = clr; is = refl; own = refl; prev = refl; undoes = compensates },
            logged r after held
                (clr_obeys base (log_of run) (run_lawful base run h.runs) next kept h.transactions tx x was clr refl refl compensates free) there tt
                (subst (λ n. Fits (Compensation (record { tx = tx; prev = n; page = page; slot = slot; undo_next = undone.prev; image = image }))) prev_is fits)
                (goes_on r (HasUndone lsn undone.prev) c (λ t. refl)
                (λ y e. transaction_undoes (log_of run) lsn at x y clr undone e.0 (newest_store ∙ ap (λ (ps : List Pending). ps ++ undone ∷ []) (sym e.1)) own))
                (held_are r puts),
            ap (λ n. Compensation (record { tx = tx; prev = n; page = page; slot = slot; undo_next = undone.prev; image = image })) (sym prev_is),
          )
