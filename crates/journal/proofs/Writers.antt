-- Which transactions wrote the cells, while a journal is opened over a log with records.
use Rattle.std.proofs.Common.{◌-◌, ◌≡◌, ◌<◌, ◌≤◌, ◌&&◌, ℕ, suc, true, false, List, [], length, get_or, set, map, Option, Some, None, refl, sym, ap, ap₂, subst, ◌∙◌, inl, inr, arith, eqb, eq-eqb, ne_eqb}
use Rattle.page.specs.declared.profile.TheConstants.{SLOTS}
use Rattle.std.proofs.lemmas.Bool.{cases_eq, cases_Bool, and_left, and_right}
use Rattle.std.proofs.lemmas.List.{get_or-set_same, get_or-set_other, length-set, get_or-map, length-map, get_or-replicate, length-replicate}
use Rattle.std.specs.Prelude.{All}
use Rattle.page.specs.Image.{Image}
use Rattle.page.specs.declared.page.Page.{Page}
use Rattle.page.specs.Store.{StoreContent, AreNumbered}
use Rattle.log_laws.specs.Records.{LogRecord, Update, Compensation, LogContent, History, start, ◌▸◌, history, last_lsn, base_lsn}
use Rattle.log_laws.specs.Meaning.{BasePages, owner, change_of, writes, is_on, last_on, last_on_from}
use Rattle.wal.specs.Spelling.{Fits}
use Rattle.log_laws.specs.Theorems.{replayed_page}
use Rattle.log_laws.proofs.Pages.{last_on_highest}
use Rattle.journal.specs.PageStates.{PageState}
use Rattle.journal.specs.Runs.{opened, MayOpen}
use Rattle.journal.specs.Transactions.{Transaction, AreTransactions}
use Rattle.journal.specs.declared.refusal.Refusal.{Refusal}
use Rattle.journal.specs.declared.refusal.Refusal.TheVariants.{PageBehind}
use Rattle.journal.specs.Opened.{HasPageBehind}
use Rattle.journal.specs.PageStates.{IsPageState, IsCurrentSoFar, IsOneBehind, IsUpToDate, IsUpToDateWith, first_page_state, last_change, noted_change, writers_after, clean, HasWriters, HaveWriters}
use Rattle.journal.specs.State.{Agrees}
use Rattle.journal.proofs.PageStates.{Puts}

module _ (log : History) (r : LogRecord) (images : List Page) where
  -- a page that the record is not on, or none of the store
  writers_other : (image : Page) (number : ℕ) (p : PageState) → ((slot : ℕ) → writes number slot r ≡ false) → is_on number r ≡ false → HasWriters log image number p → HasWriters (log ▸ r) image number p
  writers_other image number p off off_page h =
      record { image_is = h.image_is; size = h.size; writers = λ slot lt. (let w = off slot in h.writers slot lt ∙ rw w refl); last = h.last ∙ rw off_page refl }

  writers_own : (tx page slot : ℕ) (value : Image) → Puts r tx page slot value → slot < SLOTS → (image : Page) (p : PageState) → HasWriters log image page p → HasWriters (log ▸ r) image page (noted_change p slot (Some tx) (suc (last_lsn log)))
  writers_own tx page slot value puts lt image p h =
      let room : slot < length p.writers = omega (arith, h.size, lt) in
      let own : eqb page page ≡ true = eq-eqb page page refl in
      record {
        image_is = h.image_is;
        size = length-set p.writers slot (Some tx) ∙ h.size;
        writers = λ s lt'.
            elim (cases_eq s slot) [
              | inl e ↦
                  (let w : writes page s r ≡ true = puts.writes_is page s ∙ ap₂ (λ a b. a && b) own (eq-eqb slot s (sym e)) in
                  ap (λ k. get_or (set p.writers slot (Some tx)) k None) e ∙ get_or-set_same p.writers slot (Some tx) None room ∙ sym puts.owner_is ∙ rw w refl)
              | inr d ↦
                  (let w : writes page s r ≡ false = puts.writes_is page s ∙ and_right (eqb page page) (eqb slot s) (ne_eqb slot s (λ e. d (sym e))) in
                  get_or-set_other p.writers slot s (Some tx) None d ∙ h.writers s lt' ∙ rw w refl)
            ];
        last = (let on : is_on page r ≡ true = puts.on_is page ∙ own in rw on refl);
      }

  wrote : (tx page slot : ℕ) (value : Image) (blank : PageState) (ps : List PageState) → Puts r tx page slot value → slot < SLOTS → HaveWriters log images ps
      → HaveWriters (log ▸ r) images (set ps page (noted_change (get_or ps page blank) slot (Some tx) (suc (last_lsn log))))
  wrote tx page slot value blank ps puts lt h =
      let new : PageState = noted_change (get_or ps page blank) slot (Some tx) (suc (last_lsn log)) in
      record {
        count = length-set ps page new ∙ h.count;
        each = λ number d e l.
            (let within : number < length ps = omega (arith, l, length-set ps page new) in
            elim (cases_eq number page) [
              | inl i ↦
                  (let room : page < length ps = omega (arith, within, i) in
                  let there : get_or (set ps page new) number d ≡ new = ap (λ k. get_or (set ps page new) k d) i ∙ get_or-set_same ps page new d room in
                  let own : HasWriters (log ▸ r) (get_or images page e) page new = writers_own tx page slot value puts lt (get_or images page e) (get_or ps page blank) (h.each page blank e room) in
                  subst (HasWriters (log ▸ r) (get_or images number e) number) (sym there) (subst (λ k. HasWriters (log ▸ r) (get_or images k e) k new) (sym i) own))
              | inr n ↦
                  subst (HasWriters (log ▸ r) (get_or images number e) number) (sym (get_or-set_other ps page number new d n))
                  (writers_other (get_or images number e) number (get_or ps number d) (λ s. puts.writes_is number s ∙ and_left (eqb page number) (eqb slot s) (ne_eqb page number (λ z. n (sym z)))) (puts.on_is number ∙ ne_eqb page number (λ z. n (sym z))) (h.each number d e within))
            ]);
      }

  none_wrote : (ps : List PageState) → ((number slot : ℕ) → writes number slot r ≡ false) → ((number : ℕ) → is_on number r ≡ false) → HaveWriters log images ps → HaveWriters (log ▸ r) images ps
  none_wrote ps off off_page h = record { count = h.count; each = λ number d e l. writers_other (get_or images number e) number (get_or ps number d) (off number) (off_page number) (h.each number d e l) }

pub writers_more : (log : History) (r : LogRecord) (images : List Page) (blank : PageState) (ps : List PageState) → Fits r → HaveWriters log images ps → HaveWriters (log ▸ r) images (writers_after blank ps (change_of r) (owner r) (suc (last_lsn log)))
writers_more log (Update u) images blank ps fits h =
    let low : u.slot ≤ SLOTS - 1 = fits.slot in
    wrote log (Update u) images u.tx u.page u.slot u.after blank ps (record { owner_is = refl; writes_is = λ p s. refl; on_is = λ p. refl; image_is = refl }) (omega (arith, low)) h
writers_more log (Compensation u) images blank ps fits h =
    let low : u.slot ≤ SLOTS - 1 = fits.slot in
    wrote log (Compensation u) images u.tx u.page u.slot u.image blank ps (record { owner_is = refl; writes_is = λ p s. refl; on_is = λ p. refl; image_is = refl }) (omega (arith, low)) h
writers_more log r images blank ps fits h = none_wrote log r images ps (λ number slot. refl) (λ number. refl) h

pub writers_none : (base : ℕ) (images : List Page) → HaveWriters (start base) images (map first_page_state images)
writers_none base images =
    let none : Option ℕ = None in
    record {
      count = length-map images first_page_state;
      each = λ number d e l.
          (let within : number < length images = omega (arith, l, length-map images first_page_state) in
          let at : get_or (map first_page_state images) number d ≡ first_page_state (get_or images number e) = get_or-map first_page_state images number e d within in
          subst (HasWriters (start base) (get_or images number e) number) (sym at)
          (record { image_is = refl; size = length-replicate SLOTS none; writers = λ slot lt. get_or-replicate SLOTS slot none none lt; last = refl }));
    }

-- WHAT IS KEPT of a log that continues
pub opened_stands : (base : BasePages) (log : LogContent) (store : StoreContent) → MayOpen base log store → (next : ℕ) (kept : ℕ → Option Transaction) (ps : List PageState) → AreTransactions (history log) next kept
    → HaveWriters (history log) store.pages ps → Agrees base (opened log store) (last_lsn (history log)) next kept (map clean ps)
opened_stands base log store h next kept ps transactions pages =
    record {
      runs = h;
      last_is = refl;
      transactions = transactions;
      pages_are = record {
        count = length-map ps clean ∙ pages.count;
        each = λ number d lt.
            (let blank : Page = record { number = 0; lsn = 0; slots = [] } in
            let room : number < length ps = omega (arith, lt, length-map ps clean) in
            let within : number < length store.pages = omega (arith, room, pages.count) in
            let p : PageState = get_or ps number d in
            let held = pages.each number d blank room in
            let none : Option ℕ = None in
            let at : get_or (map clean ps) number d ≡ clean p = get_or-map clean ps number d d room in
            subst (IsPageState base (opened log store) number) (sym at)
            (record {
              image = held.image_is ∙ h.current number blank within ∙ ap (replayed_page base (history log)) (h.numbered.at_place number blank within);
              size = held.size;
              writers = held.writers;
              dirty = record {
                range = λ rec_lsn e. absurd (cc);
                covers = λ n r up f on. inl (last_on_highest base number (history log) n r f on);
              };
            }));
      };
    }

-- A PAGE THAT LACKS NOTHING is up to date
last_on_is : (page page_lsn : ℕ) (log : History) → page_lsn ≤ base_lsn log → IsUpToDateWith (last_change page log) (base_lsn log) (last_on_from page page_lsn log)
last_on_is page page_lsn (start _) le = le
last_on_is page page_lsn (log ▸ r) le = elim (cases_Bool (is_on page r)) [ inl on ↦ rw on refl | inr off ↦ rw off (last_on_is page page_lsn log le) ]

pub current_page : (base : BasePages) (log : LogContent) (store : StoreContent) → MayOpen base log store → (number : ℕ) (d : Page) → number < length store.pages → IsUpToDate (history log) (get_or store.pages number d)
current_page base log store h number d lt =
    let p : Page = get_or store.pages number d in
    let lsn : p.lsn ≡ last_on base p.number (history log) = ap (λ (q : Page). q.lsn) (h.current number d lt) in
    subst (IsUpToDateWith (last_change p.number (history log)) (base_lsn (history log))) (sym lsn) (last_on_is p.number (base.page_lsn p.number) (history log) (h.lawful.based p.number))

-- A PAGE THAT IS NOT is found
module _ (log : History) (images : List Page) (ps : List PageState) (numbered : AreNumbered images) (h : HaveWriters log images ps) where
  so_far : (i : ℕ) (d : PageState) (e : Page) → i < length ps → IsCurrentSoFar (base_lsn log) (get_or ps i d) ≡ IsUpToDate log (get_or images i e)
  so_far i d e lt =
      let w = h.each i d e lt in
      let number : (get_or images i e).number ≡ i = numbered.at_place i e (omega (arith, lt, h.count)) in
      ap₂ (λ o n. IsUpToDateWith o (base_lsn log) n) (w.last ∙ ap (λ n. last_change n log) (sym number)) (ap (λ (p : Page). p.lsn) w.image_is)

  pub page_behind : (e : Refusal) → IsOneBehind (base_lsn log) ps e → HasPageBehind log images e
  page_behind (PageBehind number) b =
      let blank : PageState = record { page = record { number = 0; lsn = 0; slots = [] }; writers = []; rec_lsn = None } in
      let no_page : Page = record { number = 0; lsn = 0; slots = [] } in
      let at : b.0 ≡ number = sym (numbered.at_place b.0 no_page (omega (arith, b.1, h.count))) ∙ ap (λ (p : Page). p.number) (sym (h.each b.0 blank no_page b.1).image_is) ∙ b.2 blank in (
        omega (arith, at, b.1, h.count),
        λ d up. b.3 blank (subst (λ (T : Type 0). T) (sym (so_far b.0 blank d b.1)) (subst (λ n. IsUpToDate log (get_or images n d)) (sym at) up)),
      )
  page_behind e b = absurd b

  pub all_up_to_date : All (IsCurrentSoFar (base_lsn log)) ps → All (IsUpToDate log) images
  all_up_to_date all i d lt =
      let blank : PageState = record { page = record { number = 0; lsn = 0; slots = [] }; writers = []; rec_lsn = None } in
      let within : i < length ps = omega (arith, lt, h.count) in
      subst (λ (T : Type 0). T) (so_far i blank d within) (all i blank within)
