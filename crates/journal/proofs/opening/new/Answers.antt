use Rattle.std.proofs.Common.{◌≡◌, ◌≤◌, ℕ, List, [], length, map, sym, ap, subst, ◌∙◌, arith}
use Rattle.page.specs.declared.profile.TheConstants.{SLOTS}
use Rattle.std.specs.Prelude.{All}
use Rattle.page.specs.declared.page.Page.{Page}
use Rattle.page.specs.Store.{StoreContent}
use Rattle.log_laws.specs.Records.{lsn_before}
use Rattle.wal.specs.Headers.{FitsStart}
use Rattle.log_laws.specs.Pages.{base_pages}
use Rattle.journal.specs.declared.entries.Head.{Head}
use Rattle.journal.specs.Runs.{opened, empty_log, new_run}
use Rattle.journal.specs.PageStates.{first_page_state}
use Rattle.journal.specs.Arrays.{kept_of, page_state_of}
use Rattle.journal.specs.State.{Agrees, IsJournal}
use Rattle.journal.proofs.Opened.{new_stands, starts_low}
use Rattle.journal.proofs.Tables.{kept_nil}
use Rattle.journal.proofs.opening.new.Goals as goal

pub returns-clause-ok : goal.returns-clause-ok
returns-clause-ok c = λ ts ps.
    let store : List Page = c.store.inside.pages.items in
    let stored : store ≡ c.args.store.now.pages = ap (λ (s : StoreContent). s.pages) c.store.view_is in
    let base = c.base-base.ensures in
    let starts : FitsStart c.args.begins = starts_low c.args.begins (let few = c.if-base-gt-LARGEST_BASE.false in omega (arith, base, few)) in
    let low : All (λ (p : Page). p.lsn ≤ lsn_before c.args.begins) store =
    subst (λ n. All (λ (p : Page). p.lsn ≤ n) store) base (subst (λ (xs : List Page). All (λ p. p.lsn ≤ c.base-base.result) xs) c.deref.ensures.value (c.are_up_to.ensures.0 c.if-not-are_up_to.false)) in
    let slots : All (λ (p : Page). length p.slots ≡ SLOTS) store = subst (λ (xs : List Page). All (λ p. length p.slots ≡ SLOTS) xs) c.deref-2.ensures.value c.fill_pages.ensures.slots in
    let held : map page_state_of c.fill_pages.new.pages ≡ map first_page_state store = c.fill_pages.ensures.held ∙ ap (λ (xs : List Page). map first_page_state xs) c.deref-2.ensures.value in
    let head : ℕ → Head = λ n. record { last = n; written = n; transactions = 0; pending = 0; next = 1 } in
    let stand : Agrees (base_pages store) (new_run c.args.begins store) (lsn_before c.args.begins) 1 (kept_of [] []) (map first_page_state store) =
    new_stands c.args.begins store c.store.invariant slots low starts (kept_of [] []) (λ t. kept_nil [] t) in
    let made : IsJournal (base_pages store) (new_run c.args.begins store) (head (lsn_before c.args.begins)) ts c.fill_pages.new.pages ps =
    record {
      holds = subst (Agrees (base_pages store) (new_run c.args.begins store) (lsn_before c.args.begins) 1 (kept_of [] [])) (sym held) stand;
      arrays = record {
        room = omega arith;
        few = omega arith;
        pending_room = omega arith;
        some = omega arith;
        used = record {
          table = record { rising = tt; some = λ k d l. absurd (omega (arith, l)) };
          known = λ k d l. absurd (omega (arith, l));
          below = λ k d l. absurd (omega (arith, l));
        };
      };
      reserve = omega (arith, base, c.base-base.type_inv);
    } in
    let zero : c.store.inside.master ≡ 0 = c.if-store-ne0.false in
    let whole : record { master = 0; pages = store } ≡ c.args.store.now = ap (λ m. record { master = m; pages = store }) (sym zero) ∙ c.store.view_is in
    subst (λ n. IsJournal (base_pages c.args.store.now.pages) (opened (empty_log c.args.begins) c.args.store.now) (head n) ts c.fill_pages.new.pages ps) (sym base)
    (subst (λ (s : StoreContent). IsJournal (base_pages s.pages) (opened (empty_log c.args.begins) s) (head (lsn_before c.args.begins)) ts c.fill_pages.new.pages ps) whole made)
