-- What is kept after one more record.
use Rattle.std.proofs.Common.{◌-◌, ◌≡◌, ◌<◌, ◌≤◌, ◌+◌, ◌*◌, ◌&&◌, ℕ, true, false, cond, List, [], ◌∷◌, length, get_or, set, Option, Some, refl, sym, subst, ◌∙◌, inl, inr, arith, eqb, eq-eqb, ne_eqb}
use Rattle.std.proofs.lemmas.Bool.{cases_Bool, cases_eq, and_left, and_right}
use Rattle.std.proofs.lemmas.List.{get_or-set_other}
use Rattle.std.proofs.lemmas.Grind.{get_or-set_at}
use Rattle.std.proofs.Math.ListN.{length-set}
use Rattle.log_laws.specs.Records.{LogRecord, Update, Compensation, History, ◌▸◌, base_lsn}
use Rattle.log_laws.specs.Meaning.{BasePages, owner, pending, writes, cell_of, image_of}
use Rattle.log_laws.specs.Store.{NamesPages}
use Rattle.wal.specs.Spelling.{Fits}
use Rattle.audit.specs.declared.standing.Standing.{Standing}
use Rattle.audit.specs.declared.standing.Standing.TheVariants.{Unfinished, Finished}
use Rattle.audit.specs.Statuses.{Linked, IsTop}
use Rattle.audit.specs.Standings.{IsStandingOf, newest_of}
use Rattle.audit.specs.Cells.{KeepsCells, HasCell, cell_in, cells_after}
use Rattle.audit.specs.declared.cell.Cell.{Cell}
use Rattle.std.specs.Prelude.{IfSome}
use Rattle.page.specs.declared.profile.TheConstants.{SLOTS}

-- STANDINGS
pub at_transaction : (links : List ℕ) (log : History) (t : ℕ) (before : ℕ → Standing) (standing : Standing) → ((n : ℕ) → IsStandingOf links n log (before n)) → standing ≡ before t → IsStandingOf links t log standing
at_transaction links log t before standing stands is = subst (λ s. IsStandingOf links t log s) (sym is) (stands t)

linked_top : (base : ℕ) (links stack : List ℕ) (top : ℕ) → Linked base links stack top → IsTop base links top
linked_top base links [] top l = inl l
linked_top base links (n ∷ ns) top l = (let e : top ≡ n = l.0 in let a : base < n = l.1 in let b : n ≤ base + length links = l.2 in inr (omega arith, omega arith))

pub is_top : (links : List ℕ) (t : ℕ) (log : History) (standing : Standing) → IsStandingOf links t log standing → IsTop (base_lsn log) links (newest_of standing)
is_top links t log (Unfinished s) h = linked_top (base_lsn log) links (pending t log) s.newest h.pending
is_top links t log (Finished finish) h = inl refl

-- CELLS
pub has_cell : (count cells : ℕ) (r : LogRecord) → cells ≡ SLOTS * count → NamesPages count r → Fits r → HasCell cells r
has_cell count cells (Update u) e named fits = (let p : u.page < count = named in let s : u.slot ≤ SLOTS - 1 = fits.slot in omega arith)
has_cell count cells (Compensation c) e named fits = (let p : c.page < count = named in let s : c.slot ≤ SLOTS - 1 = fits.slot in omega arith)
has_cell count cells r e named fits = tt

pub page_below : (count : ℕ) (r : LogRecord) (cell : Option (ℕ × ℕ)) → cell ≡ cell_of r → NamesPages count r → IfSome cell (λ c. c.0 < count)
page_below count (Update u) cell e named = subst (λ o. IfSome o (λ c. c.0 < count)) (sym e) named
page_below count (Compensation c) cell e named = subst (λ o. IfSome o (λ c. c.0 < count)) (sym e) named
page_below count r cell e named = subst (λ o. IfSome o (λ c. c.0 < count)) (sym e) tt

pub cell_below : (count cells : ℕ) (r : LogRecord) (cell : Option (ℕ × ℕ)) → cell ≡ cell_of r → cells ≡ SLOTS * count → NamesPages count r → Fits r → IfSome cell (λ c. SLOTS * c.0 + c.1 < cells)
cell_below count cells (Update u) cell e size named fits = subst (λ o. IfSome o (λ c. SLOTS * c.0 + c.1 < cells)) (sym e) (has_cell count cells (Update u) size named fits)
cell_below count cells (Compensation u) cell e size named fits = subst (λ o. IfSome o (λ c. SLOTS * c.0 + c.1 < cells)) (sym e) (has_cell count cells (Compensation u) size named fits)
cell_below count cells r cell e size named fits = subst (λ o. IfSome o (λ c. SLOTS * c.0 + c.1 < cells)) (sym e) tt

-- one cell is changed
module _ {X : Type 0} (count : ℕ) (before after : ℕ → ℕ → X) (cells : List X) where
  pub put_there : (p s : ℕ) (x : X) → p < count → s < SLOTS
      → ((page slot : ℕ) → after page slot ≡ cond (eqb p page && eqb s slot) x (before page slot))
      → KeepsCells count before cells → KeepsCells count after (set cells (SLOTS * p + s) x)
  put_there p s x lp ls follows keeps =
      record { size_is = length-set cells (SLOTS * p + s) x ∙ keeps.size_is; each = each }
    where
      elsewhere : (page slot : ℕ) (d : X) → page < count → slot < SLOTS → (eqb p page && eqb s slot) ≡ false → (SLOTS * page + slot ≡ SLOTS * p + s → ⊥) → get_or (set cells (SLOTS * p + s) x) (SLOTS * page + slot) d ≡ after page slot
      elsewhere page slot d lt lt' off other =
          get_or-set_other cells (SLOTS * p + s) (SLOTS * page + slot) x d other ∙ keeps.each page slot d lt lt' ∙ sym (follows page slot ∙ rw off refl)

      each : (page slot : ℕ) (d : X) → page < count → slot < SLOTS → get_or (set cells (SLOTS * p + s) x) (SLOTS * page + slot) d ≡ after page slot
      each page slot d lt lt' =
          elim (cases_eq p page) [
            | inl e ↦
                elim (cases_eq s slot) [
                  | inl f ↦
                      (let size_is : length cells ≡ SLOTS * count = keeps.size_is in
                      let room : SLOTS * p + s < length cells = omega arith in
                      let at : get_or (set cells (SLOTS * p + s) x) (SLOTS * page + slot) d ≡ x = get_or-set_at cells (SLOTS * p + s) (SLOTS * page + slot) x d (omega arith) room in
                      let a : eqb p page ≡ true = eq-eqb p page e in
                      let b : eqb s slot ≡ true = eq-eqb s slot f in
                      at ∙ sym (follows page slot ∙ rw (a, b) refl))
                  | inr n ↦ elsewhere page slot d lt lt' (and_right (eqb p page) (eqb s slot) (ne_eqb s slot n)) (λ z. n (omega arith))
                ]
            | inr n ↦ elsewhere page slot d lt lt' (and_left (eqb p page) (eqb s slot) (ne_eqb p page n)) (λ z. n (omega arith))
          ]

  -- no cell is changed
  pub left_there : ((page slot : ℕ) → after page slot ≡ before page slot) → KeepsCells count before cells → KeepsCells count after cells
  left_there same keeps = record { size_is = keeps.size_is; each = λ page slot d lt lt'. keeps.each page slot d lt lt' ∙ sym (same page slot) }

-- what a record makes of a cell
cell_put : (base : BasePages) (log : History) (r : LogRecord) (p s : ℕ) → ((page slot : ℕ) → writes page slot r ≡ (eqb p page && eqb s slot)) → (page slot : ℕ)
    → cell_in base (log ▸ r) page slot ≡ cond (eqb p page && eqb s slot) (record { writer = owner r; image = image_of r }) (cell_in base log page slot)
cell_put base log r p s on page slot =
    elim (cases_Bool (eqb p page && eqb s slot)) [
      | inl e ↦ (let w : writes page slot r ≡ true = on page slot ∙ e in rw (w, e) refl)
      | inr e ↦ (let w : writes page slot r ≡ false = on page slot ∙ e in rw (w, e) refl)
    ]

pub cells_noted : (base : BasePages) (count : ℕ) (log : History) (cells : List Cell) (r : LogRecord) → NamesPages count r → Fits r → KeepsCells count (cell_in base log) cells → KeepsCells count (cell_in base (log ▸ r)) (cells_after cells r)
cells_noted base count log cells (Update u) named fits keeps =
    let s : u.slot ≤ SLOTS - 1 = fits.slot in
    put_there count (cell_in base log) (cell_in base (log ▸ Update u)) cells u.page u.slot (record { writer = Some u.tx; image = u.after }) named (omega arith) (cell_put base log (Update u) u.page u.slot (λ page slot. refl)) keeps
cells_noted base count log cells (Compensation u) named fits keeps =
    let s : u.slot ≤ SLOTS - 1 = fits.slot in
    put_there count (cell_in base log) (cell_in base (log ▸ Compensation u)) cells u.page u.slot (record { writer = Some u.tx; image = u.image }) named (omega arith) (cell_put base log (Compensation u) u.page u.slot (λ page slot. refl)) keeps
cells_noted base count log cells r named fits keeps = left_there count (cell_in base log) (cell_in base (log ▸ r)) cells (λ page slot. refl) keeps
