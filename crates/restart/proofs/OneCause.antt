-- A restart has at most one error, and none if it succeeds.
use Rattle.std.proofs.Common.{◌≡◌, ◌<◌, ◌≤◌, ◌⊎◌, ℕ, List, Option, Some, None, length, refl, sym, ap, ◌∙◌, subst, inl, inr, arith}
use Rattle.std.specs.Prelude.{slice_get}
use Rattle.std.proofs.lemmas.List.{length-map}
use Rattle.std.proofs.lemmas.Option.{slice_get_within, get_or_from_slice_get}
use Rattle.page.specs.declared.page.Page.{Page}
use Rattle.page.specs.declared.fault.Fault.{Fault}
use Rattle.page.specs.declared.fault.Fault.TheVariants.{NoResource, BadWorkers, BadParting, BadMaster, PageAheadOfLog, NoSuchPage, BrokenChain}
use Rattle.page.specs.Causes.{HasOneCause}
use Rattle.page.specs.Store.{StoreContent}
use Rattle.log_laws.specs.Records.{TableEntry, history, LogContent, last_lsn}
use Rattle.tables.specs.Tables.{TablesContent, losers_in}
use Rattle.analysis.specs.Tables.{AreTablesOf, OneTables, base_of}
use Rattle.redo.specs.Parting.{PartingContent}
use Rattle.redo.specs.Redone.{AllExist, IsFirstMissing, redone_page}
use Rattle.restart.specs.Outcome.{OutcomeContent}
use Rattle.undo.specs.Undone.{MetExist, UndoFault, OneUndoFault, NoFaultOfUndo}
use Rattle.restart.specs.Restart.{SettingsFault, NoneAhead, IsFirstAhead, PassFault, Finds, Restarts, InputFault}
use Rattle.restart.specs.OneAnswer.{OneRestartFault, NoFaultOfARestart}
use Rattle.restart.proofs.Causes.{settings_hold}

-- THE PASSES
module _ (read : LogContent) (count : ℕ) where
  not_first : (tables : TablesContent) (n : ℕ) → IsFirstMissing read count tables.redo_lsn n → AllExist read count tables.redo_lsn → ⊥
  not_first tables n x all = x.beyond (all n x.entry x.looked_at x.there)

  not_earlier : (tables : TablesContent) (n m : ℕ) → IsFirstMissing read count tables.redo_lsn n → IsFirstMissing read count tables.redo_lsn m → n < m → ⊥
  not_earlier tables n m a b lt = a.beyond (b.before n a.entry a.looked_at lt a.there)

  one_pass_fault : OneUndoFault → (tables : TablesContent) (d e : Fault) → PassFault read count d tables → PassFault read count e tables → d ≡ e
  one_pass_fault undo tables (NoSuchPage n) (NoSuchPage m) x y =
      elim x [
        | inl p ↦
            elim y [
              | inl q ↦ ap (λ k. NoSuchPage k) (omega (arith, not_earlier tables n m p q, not_earlier tables m n q p))
              | inr q ↦ absurd (not_first tables n p q.0)
            ]
        | inr p ↦
            elim y [
              | inl q ↦ absurd (not_first tables m q p.0)
              | inr q ↦ undo (history read) (losers_in tables) count (NoSuchPage n) (NoSuchPage m) (λ i. absurd cc) (λ i. absurd cc) p.1 q.1
            ]
      ]
  one_pass_fault undo tables (NoSuchPage n) (BrokenChain m) x y =
      elim x [
        | inl p ↦ absurd (not_first tables n p y.0)
        | inr p ↦ undo (history read) (losers_in tables) count (NoSuchPage n) (BrokenChain m) (λ i. absurd cc) (λ i. absurd cc) p.1 y.1
      ]
  one_pass_fault undo tables (NoSuchPage n) _ x y = absurd y
  one_pass_fault undo tables (BrokenChain n) (NoSuchPage m) x y =
      elim y [
        | inl q ↦ absurd (not_first tables m q x.0)
        | inr q ↦ undo (history read) (losers_in tables) count (BrokenChain n) (NoSuchPage m) (λ i. absurd cc) (λ i. absurd cc) x.1 q.1
      ]
  one_pass_fault undo tables (BrokenChain n) (BrokenChain m) x y =
      undo (history read) (losers_in tables) count (BrokenChain n) (BrokenChain m) (λ i. absurd cc) (λ i. absurd cc) x.1 y.1
  one_pass_fault undo tables (BrokenChain n) _ x y = absurd y
  one_pass_fault undo tables _ e x y = absurd x

-- A RESTART
-- what holds for the input, in the order in which it is checked
abbrev Ahead : LogContent → StoreContent → Fault → Type 0
Ahead read before e = (number : ℕ) × (e ≡ PageAheadOfLog number) × IsFirstAhead read before.pages number

abbrev NoBase : LogContent → StoreContent → Fault → Type 0
NoBase read before e = (e ≡ BadMaster) × (base_of before.master (history read) ≡ None)

abbrev Passes : LogContent → StoreContent → Fault → Type 0
Passes read before e = Finds read before (PassFault read (length before.pages) e)

in_order : (read : LogContent) (before : StoreContent) (e : Fault) → (e ≡ NoResource → ⊥) → InputFault read before e
    → Ahead read before e ⊎ (NoneAhead read before × (NoBase read before e ⊎ Passes read before e))
in_order read before NoResource some x = absurd (some refl)
in_order read before (PageAheadOfLog n) some x = inl (n, refl, x)
in_order read before BadMaster some x = inr (x.0, inl (refl, x.1))
in_order read before e some x = inr (x.0, inr x.1)

module _ (read : LogContent) (before : StoreContent) where
  not_ahead : (n : ℕ) → IsFirstAhead read before.pages n → NoneAhead read before → ⊥
  not_ahead n x none =
      let within : x.place < length before.pages = slice_get_within before.pages x.place x.page x.there in
      let low : x.page.lsn ≤ last_lsn (history read) =
      subst (λ (page : Page). page.lsn ≤ last_lsn (history read)) (get_or_from_slice_get before.pages x.place x.page x.page x.there) (none x.place x.page within) in
      omega (arith, low, x.ahead)

  not_before : (n m : ℕ) (x : IsFirstAhead read before.pages n) (y : IsFirstAhead read before.pages m) → x.place < y.place → ⊥
  not_before n m x y lt =
      let low : x.page.lsn ≤ last_lsn (history read) =
      subst (λ (page : Page). page.lsn ≤ last_lsn (history read)) (get_or_from_slice_get before.pages x.place x.page x.page x.there) (y.before x.place x.page lt) in
      omega (arith, low, x.ahead)

  one_ahead : (d e : Fault) → Ahead read before d → Ahead read before e → d ≡ e
  one_ahead d e (n, is, x) (m, also, y) =
      let place : x.place ≡ y.place = omega (arith, not_before n m x y, not_before m n y x) in
      let there : Some x.page ≡ Some y.page = sym x.there ∙ ap (slice_get before.pages) place ∙ y.there in
      let page : x.page ≡ y.page = cc in
      is ∙ ap (λ k. PageAheadOfLog k) (x.numbered ∙ ap (λ (p : Page). p.number) page ∙ sym y.numbered) ∙ sym also

  not_found : {Holds : TablesContent → Type 0} → Finds read before Holds → base_of before.master (history read) ≡ None → ⊥
  not_found x none =
      (let e : ◌≡◌ {A = Option (List TableEntry × List (ℕ × ℕ))} None (Some (x.are.transactions, x.are.dirty)) = sym none ∙ x.are.base in cc)

  module _ (one_tables : OneTables) where
    -- two that were found are the same
    moved : (e : Fault) (a b : TablesContent) → AreTablesOf read before.master a → AreTablesOf read before.master b
        → PassFault read (length before.pages) e a → PassFault read (length before.pages) e b
    moved e a b is other x = subst (PassFault read (length before.pages) e) (one_tables read before.master a b is other) x

    pub one_input_fault : OneUndoFault → HasOneCause (InputFault read before)
    one_input_fault undo d e some other x y =
        elim (in_order read before d some x) [
          | inl a ↦
              elim (in_order read before e other y) [
                | inl b ↦ one_ahead d e a b
                | inr b ↦ absurd (not_ahead a.0 a.2 b.0)
              ]
          | inr a ↦
              elim (in_order read before e other y) [
                | inl b ↦ absurd (not_ahead b.0 b.2 a.0)
                | inr b ↦
                    elim (a.1) [
                      | inl p ↦ elim (b.1) [ inl q ↦ p.0 ∙ sym q.0 | inr q ↦ absurd (not_found q p.1) ]
                      | inr p ↦
                          elim (b.1) [
                            | inl q ↦ absurd (not_found p q.1)
                            | inr q ↦ one_pass_fault read (length before.pages) undo q.tables d e (moved d p.tables q.tables p.are q.are p.holds) q.holds
                          ]
                    ]
              ]
        ]

    pub no_input_fault : NoFaultOfUndo → (x : OutcomeContent) → Restarts read before x → (e : Fault) → InputFault read before e → e ≡ NoResource
    no_input_fault undo x r NoResource h = refl
    no_input_fault undo x r e h =
        elim (in_order read before e (λ i. absurd cc) h) [
          | inl a ↦ absurd (not_ahead a.0 a.2 r.is.none_ahead)
          | inr a ↦
              elim (a.1) [
                | inl p ↦ absurd (let f : ◌≡◌ {A = Option (List TableEntry × List (ℕ × ℕ))} None (Some (r.is.are.transactions, r.is.are.dirty)) = sym p.1 ∙ r.is.are.base in cc)
                | inr p ↦ by_pass e (moved e p.tables r.tables p.are r.is.are p.holds)
              ]
        ]
      where
        len : length r.redone.pages ≡ length before.pages
        len = ap length r.is.redone_pages ∙ length-map before.pages (redone_page read r.tables)

        exist : MetExist (history read) (losers_in r.tables) (length before.pages) 0
        exist = subst (λ n. MetExist (history read) (losers_in r.tables) n 0) len r.rolls_back.rolled_back.met_exist

        none : (e : Fault) → UndoFault (history read) (losers_in r.tables) (length before.pages) e → e ≡ NoResource
        none = undo (history read) (losers_in r.tables) (length before.pages) r.rolls_back.rolled_back.no_bad_hop exist

        by_pass : (e : Fault) → PassFault read (length before.pages) e r.tables → e ≡ NoResource
        by_pass (NoSuchPage n) h =
            elim h [
              | inl p ↦ absurd (not_first read (length before.pages) r.tables n p r.is.exist)
              | inr p ↦ none (NoSuchPage n) p.1
            ]
        by_pass (BrokenChain n) h = none (BrokenChain n) h.1
        by_pass _ h = absurd h

one_settings_fault : (pages : ℕ) (parting : PartingContent) (workers : ℕ) (d e : Fault) → SettingsFault pages parting workers d → SettingsFault pages parting workers e → d ≡ e
one_settings_fault pages parting workers BadWorkers BadWorkers x y = refl
one_settings_fault pages parting workers BadWorkers BadParting x y = absurd (x y.0)
one_settings_fault pages parting workers BadWorkers _ x y = absurd y
one_settings_fault pages parting workers BadParting BadWorkers x y = absurd (y x.0)
one_settings_fault pages parting workers BadParting BadParting x y = refl
one_settings_fault pages parting workers BadParting _ x y = absurd y
one_settings_fault pages parting workers _ e x y = absurd x

pub one_restart_fault : OneTables → OneUndoFault → OneRestartFault
one_restart_fault one_tables undo read before parting workers d e some other x y =
    elim x [
      | inl a ↦
          elim y [
            | inl b ↦ one_settings_fault (length before.pages) parting workers d e a b
            | inr b ↦ absurd (settings_hold (length before.pages) parting workers d b.0 a)
          ]
      | inr a ↦
          elim y [
            | inl b ↦ absurd (settings_hold (length before.pages) parting workers e a.0 b)
            | inr b ↦ one_input_fault read before one_tables undo d e some other a.1 b.1
          ]
    ]

pub no_fault_of_a_restart : OneTables → NoFaultOfUndo → NoFaultOfARestart
no_fault_of_a_restart one_tables undo read before parting workers x set r e h =
    elim h [
      | inl a ↦ absurd (set e a)
      | inr a ↦ no_input_fault read before one_tables undo x r e a.1
    ]
