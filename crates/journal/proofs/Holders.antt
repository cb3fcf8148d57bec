-- Which transaction holds a cell, by what is kept.
use Rattle.std.proofs.Common.{◌≡◌, ◌<◌, ℕ, true, false, [], length, get_or, Option, Some, None, refl, sym, ap, subst, ◌∙◌, inl, inr}
use Rattle.std.specs.Prelude.{List, is_some}
use Rattle.std.proofs.lemmas.Bool.{false≢true, cases_eq}
use Rattle.page.specs.declared.profile.TheConstants.{SLOTS}
use Rattle.log_laws.specs.Records.{UpdateRecord, History}
use Rattle.log_laws.specs.Meaning.{BasePages, is_of, has, last_writer}
use Rattle.journal.specs.Transactions.{Transaction, IsFreeFor}
use Rattle.journal.specs.PageStates.{PageState}
use Rattle.journal.specs.Runs.{Run, log_of}
use Rattle.journal.specs.State.{Agrees}
use Rattle.journal.specs.Holders.{IsHolder}
use Rattle.journal.proofs.Runs.{run_lawful}
use Rattle.journal.proofs.Fitting.{each_fits}
use Rattle.journal.proofs.Obeying.{touches_has, free_strict}
use Rattle.journal.proofs.Refused.{none_of_zero, holds, some_of}

abbrev pub no_state : PageState
no_state = record { page = record { number = 0; lsn = 0; slots = [] }; writers = []; rec_lsn = None }

module _ (base : BasePages) (run : Run) (last next : ℕ) (kept : ℕ → Option Transaction) (pages : List PageState) (h : Agrees base run last next kept pages) (page slot : ℕ) (room : page < length pages) (low : slot < SLOTS) where
  -- the last writer is a transaction that is kept
  pub a_holder : (t : ℕ) → is_some (kept t) ≡ true → get_or (get_or pages page no_state).writers slot None ≡ Some t → IsHolder run page slot (Some t)
  a_holder t is wrote = holds base run last next kept pages h t page slot no_state (some_of (kept t) is) room low wrote

  -- it is not, or there is none
  pub no_holder : IsFreeFor kept (get_or (get_or pages page no_state).writers slot None) 0 → IsHolder run page slot None
  no_holder free t touched =
      let log : History = log_of run in
      let writer : get_or (get_or pages page no_state).writers slot None ≡ last_writer page slot log = (h.pages_are.each page no_state room).writers slot low in
      let free_is : IsFreeFor kept (last_writer page slot log) 0 = subst (λ o. IsFreeFor kept o 0) writer free in
      let u : UpdateRecord = record { tx = 0; prev = 0; page = page; slot = slot; before = None; after = None } in
      elim (cases_eq t 0) [
        | inl zero ↦
            (let none : has (is_of t) log ≡ false = ap (λ n. has (is_of n) log) zero ∙ none_of_zero log (each_fits base run h.runs) in
            absurd (false≢true (sym none ∙ touches_has t page slot log touched)))
        | inr other ↦ free_strict base log (run_lawful base run h.runs) next kept h.transactions 0 u refl (last_writer page slot log) refl free_is t other touched
      ]
