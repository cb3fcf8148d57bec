-- A journal may be opened with what a restart left.
use Rattle.std.proofs.Common.{◌≡◌, ◌<◌, ◌-◌, ℕ, List, length, take, get_or, sym, ap, subst, ◌∙◌, arith, length-append}
use Rattle.std.specs.List.{AllByRecursion}
use Rattle.std.proofs.lemmas.List.{take_all}
use Rattle.std.proofs.lemmas.List.FromFn.{length-map-range_with_len, get_or-map-range_with_len}
use Rattle.page.specs.declared.page.Page.{Page}
use Rattle.page.specs.Store.{StoreContent, AreNumbered}
use Rattle.log_laws.specs.Records.{LogContent, history, ◌⧺◌, lsn_before}
use Rattle.log_laws.specs.Meaning.{BasePages, last_on}
use Rattle.log_laws.specs.Tail.{tail_of, with_tail}
use Rattle.log_laws.specs.Redo.{slots_in}
use Rattle.wal.specs.Spelling.{Fits}
use Rattle.wal.specs.Headers.{FitsStart}
use Rattle.log_laws.specs.Store.{page_out, store_out}
use Rattle.log_laws.specs.Theorems.{replayed_page}
use Rattle.log_laws.proofs.Histories.{size_of_log}
use Rattle.log_laws.proofs.Lists.{replay_is_winners}
use Rattle.wal.proofs.TailFits.{tail_fits}
use Rattle.journal.specs.Runs.{content_of}
use Rattle.journal.specs.Theorems.{RestartReopens}
use Rattle.journal.proofs.Crash.{crash_recovers}
use Rattle.journal.proofs.Files.{run_fits, all_taken}

module _ (base : BasePages) (log : LogContent) (store : StoreContent) (numbered : AreNumbered store.pages) where
  abbrev pages : List Page
  pages = (store_out base log store).pages

  count_out : length pages ≡ length store.pages
  count_out = length-map-range_with_len (page_out base log) 0 (length store.pages)

  page_at : (i : ℕ) (d : Page) → i < length store.pages → get_or pages i d ≡ page_out base log i
  page_at i d lt = get_or-map-range_with_len (page_out base log) 0 (length store.pages) i i d lt (omega arith)

  pub numbered_out : AreNumbered pages
  numbered_out =
      record {
        some = omega (arith, count_out, numbered.some);
        few = omega (arith, count_out, numbered.few);
        at_place = λ i d lt. ap (λ (p : Page). p.number) (page_at i d (omega (arith, count_out, lt)));
      }

pub restart_reopens : RestartReopens
restart_reopens base run lsn log store h c few =
    let r = crash_recovers base run lsn log store h c in
    let fits = run_fits base run h in
    let was_current : (FitsStart log.begins) × (AllByRecursion Fits log.records) =
    subst (λ l. (FitsStart l.begins) × (AllByRecursion Fits l.records)) (sym c.log_is) (fits.0, all_taken (lsn - lsn_before (content_of run).begins) (content_of run).records fits.1) in
    let all : take (length (tail_of log)) (tail_of log) ≡ tail_of log = take_all (length (tail_of log)) (tail_of log) (omega arith) in
    record {
      lawful = r.settled.lawful;
      starts = was_current.0;
      fit = subst (λ rs. AllByRecursion Fits (log ⧺ rs).records) all
          (tail_fits base log (length (tail_of log))
          (omega (arith, few, size_of_log log, size_of_log (with_tail log), length-append log.records (tail_of log), ap length all))
          r.lawful.log was_current.1);
      few = few;
      numbered = numbered_out base log store c.numbered;
      current = λ i d lt.
          (let count = count_out base log store c.numbered in
          let at = page_at base log store c.numbered i d (omega (arith, count, lt)) in
          let number = ap (λ (p : Page). p.number) at in
          at ∙ sym (ap (λ state. record { number = i; lsn = last_on base i (history (with_tail log)); slots = slots_in state i }) (replay_is_winners base log r.lawful.log))
          ∙ ap (replayed_page base (history (with_tail log))) (sym number));
    }
