-- What a log makes of a page.
use Rattle.std.proofs.Common.{ℕ, zero, suc, ◌≡◌, ◌+◌, ◌<◌, ◌≤◌, ◌⊎◌, List, ◌∷◌, map, true, false, cond, None, Some, refl, sym, ap, ap₂, ◌∙◌, subst, inl, inr, arith, eqb-true, eqb, ltb}
use Rattle.std.proofs.lemmas.Bool.{cases_Bool, cond_both, both_ways, false≢true, and_parts, false_from_ne_true, lt-ltb, le-ltb}
use Rattle.std.proofs.lemmas.List.FromFn.{get_or-map-range_with_len}
use Rattle.std.specs.Prelude.{slice_index_or}
use Rattle.std.specs.List.{range_with_len}
use Rattle.page.specs.Image.{Image}
use Rattle.log_laws.specs.Records.{LogRecord, Update, Compensation, History, start, ◌▸◌, last_lsn, record_at, first}
use Rattle.log_laws.specs.Meaning.{BasePages, BaseLaw, Cells, replay, writes, is_on, last_on}
use Rattle.log_laws.specs.Redo.{slots_in}
use Rattle.log_laws.specs.Pages.{PageLaw}
use Rattle.log_laws.specs.Theorems.{replayed_page}
use Rattle.log_laws.proofs.Histories.{record_last, record_more, record_within, first_older}
use Rattle.page.specs.declared.profile.TheConstants.{SLOTS}

-- CELLS
-- what writes to a cell is on its page
pub writes_on : (page slot : ℕ) (r : LogRecord) → writes page slot r ≡ true → is_on page r ≡ true
writes_on page slot (Update u) e = (and_parts (eqb u.page page) (eqb u.slot slot) e).0
writes_on page slot (Compensation c) e = (and_parts (eqb c.page page) (eqb c.slot slot) e).0
writes_on page slot r e = absurd (false≢true e)

-- the slots of a page depend only on its 16 cells
pub same_slots : (f g : Cells) (page : ℕ) → ((slot : ℕ) → slot < SLOTS → f page slot ≡ g page slot) → slots_in f page ≡ slots_in g page
same_slots f g page h = from 0 SLOTS (λ slot lt. h slot (omega (arith, lt)))
  where
    from : (a n : ℕ) → ((slot : ℕ) → slot < a + n → f page slot ≡ g page slot) → map (λ slot. f page slot) (range_with_len a n) ≡ map (λ slot. g page slot) (range_with_len a n)
    from a zero h = refl
    from a (suc n) h = ap₂ (λ (x : Image) (xs : List Image). x ∷ xs) (h a (omega arith)) (from (a + 1) n (λ slot lt. h slot (omega (arith, lt))))

-- what a slot of a made page holds
pub slot_held : (f : Cells) (page slot : ℕ) → slot < SLOTS → slice_index_or (slots_in f page) slot None ≡ f page slot
slot_held f page slot lt = get_or-map-range_with_len (λ s. f page s) 0 SLOTS slot slot None lt (omega arith)

-- THE LAST RECORD ON A PAGE
pub last_on_within : (base : BasePages) (page : ℕ) (log : History) → BaseLaw base log → last_on base page log ≤ last_lsn log
last_on_within base page (start _) l = l page
last_on_within base page (log ▸ r) l =
    cond_both (is_on page r) (suc (last_lsn log)) (last_on base page log) (λ n. n ≤ suc (last_lsn log)) (λ _. omega arith) (λ _. omega (arith, last_on_within base page log l))

-- it is not below that of the base page
pub base_within_last : (base : BasePages) (page : ℕ) (log : History) → BaseLaw base log → base.page_lsn page ≤ last_on base page log
base_within_last base page (start _) l = omega arith
base_within_last base page (log ▸ r) l =
    cond_both (is_on page r) (suc (last_lsn log)) (last_on base page log) (λ n. base.page_lsn page ≤ n)
    (λ _. omega (arith, base_within_last base page log l, last_on_within base page log l)) (λ _. base_within_last base page log l)

-- the PageLSN of the base page, or that of a record on the page
abbrev pub IsOnPage : BasePages → ℕ → History → ℕ → Type 0
IsOnPage base page log n = (n ≡ base.page_lsn page) ⊎ ((r : LogRecord) × (record_at log n ≡ Some r) × (is_on page r ≡ true))

-- it is on the page
pub last_on_found : (base : BasePages) (page : ℕ) (log : History) → IsOnPage base page log (last_on base page log)
last_on_found base page (start _) = inl refl
last_on_found base page (log ▸ r) =
    elim (cases_Bool (is_on page r)) [
      | inl e ↦
          (let i : last_on base page (log ▸ r) ≡ suc (last_lsn log) = rw e in
          subst (IsOnPage base page (log ▸ r)) (sym i) (inr (r, record_last log r, e)))
      | inr e ↦
          (let i : last_on base page (log ▸ r) ≡ last_on base page log = rw e in
          subst (IsOnPage base page (log ▸ r)) (sym i) (elim (last_on_found base page log) [ inl z ↦ inl z | inr p ↦ inr (p.0, record_more log r (last_on base page log) p.0 p.1, p.2) ]))
    ]

-- no record on the page is after it
pub last_on_highest : (base : BasePages) (page : ℕ) (log : History) (n : ℕ) (r : LogRecord) → record_at log n ≡ Some r → is_on page r ≡ true → n ≤ last_on base page log
last_on_highest base page (start _) n r f on = absurd (cc)
last_on_highest base page (log ▸ x) n r f on =
    elim (cases_Bool (eqb n (suc (last_lsn log)))) [
      | inl i ↦
          (let f' : Some x ≡ Some r = rw i at f in
          let j : x ≡ r = cc in
          let on' : is_on page x ≡ true = ap (is_on page) j ∙ on in
          let l : last_on base page (log ▸ x) ≡ suc (last_lsn log) = rw on' in
          omega (arith, l, eqb-true n (suc (last_lsn log)) i))
      | inr i ↦
          (let older : n ≤ last_on base page log = last_on_highest base page log n r (rw i at f) on in
          cond_both (is_on page x) (suc (last_lsn log)) (last_on base page log) (λ k. n ≤ k) (λ _. omega (arith, record_within log n r (rw i at f))) (λ _. older))
    ]

-- a record on the page is the last one of the log up to it
pub on_page_last : (base : BasePages) (log : History) (k page : ℕ) (r : LogRecord) → record_at log k ≡ Some r → is_on page r ≡ true → k ≡ last_on base page (first k log)
on_page_last base (start _) k page r f o = absurd (cc)
on_page_last base (log ▸ x) k page r f o =
    elim (cases_Bool (eqb k (suc (last_lsn log)))) [
      | inl i ↦
          (let e : k ≡ suc (last_lsn log) = eqb-true k (suc (last_lsn log)) i in
          let f' : Some x ≡ Some r = rw i at f in
          let j : x ≡ r = cc in
          let l : ltb (last_lsn log) k ≡ true = lt-ltb (last_lsn log) k (omega (arith, e)) in
          let on : is_on page x ≡ true = ap (is_on page) j ∙ o in
          let g : last_on base page (log ▸ x) ≡ suc (last_lsn log) = rw on in
          e ∙ sym (ap (λ b. last_on base page (cond b (log ▸ x) (first k log))) l ∙ g))
      | inr i ↦
          (let f' : record_at log k ≡ Some r = rw i at f in
          let l : ltb (last_lsn log) k ≡ false = le-ltb (last_lsn log) k (record_within log k r f') in
          on_page_last base log k page r f' o ∙ sym (ap (λ b. last_on base page (cond b (log ▸ x) (first k log))) l))
    ]

-- the cells of the page stay as that record left them
pub replay_to_last : (base : BasePages) (page slot : ℕ) (log : History) → BaseLaw base log → replay base (first (last_on base page log) log) page slot ≡ replay base log page slot
replay_to_last base page slot (start _) l = refl
replay_to_last base page slot (log ▸ r) law =
    elim (cases_Bool (is_on page r)) [
      | inl e ↦
          (let i : last_on base page (log ▸ r) ≡ suc (last_lsn log) = rw e in
          ap (λ n. replay base (first n (log ▸ r)) page slot) i
          ∙ ap (λ b. replay base (cond b (log ▸ r) (first (suc (last_lsn log)) log)) page slot) (lt-ltb (last_lsn log) (suc (last_lsn log)) (omega arith)))
      | inr e ↦
          (let i : last_on base page (log ▸ r) ≡ last_on base page log = rw e in
          let off : writes page slot r ≡ false = false_from_ne_true (writes page slot r) (λ w. both_ways (is_on page r) e (writes_on page slot r w)) in
          let same : replay base (log ▸ r) page slot ≡ replay base log page slot = rw off in
          ap (λ n. replay base (first n (log ▸ r)) page slot) i
          ∙ ap (λ l. replay base l page slot) (first_older log r (last_on base page log) (last_on_within base page log law))
          ∙ replay_to_last base page slot log law
          ∙ sym same)
    ]

-- THE PAGE
-- that a log makes keeps the page law
pub replayed_page_law : (base : BasePages) (log : History) (page : ℕ) → BaseLaw base log → PageLaw base log (replayed_page base log page)
replayed_page_law base log page law =
    record {
      within = last_on_within base page log law;
      on_page = last_on_found base page log;
      slots_are = same_slots (replay base log) (replay base (first (last_on base page log) log)) page (λ slot lt. sym (replay_to_last base page slot log law));
    }
