-- C gets an entry of a table in only one form.
use Rattle.std.proofs.Common.{◌≡◌, ℕ, ap, ap₂, ◌∙◌, refl, arith}
use Rattle.log_laws.specs.declared.state.State.{State}
use Rattle.log_laws.specs.declared.state.State.TheVariants.{Active, Aborting, Prepared}
use Rattle.log_laws.specs.Records.{TableEntry}
use Rattle.aries_c.specs.declared.checkpoint.Entry.{Entry as Told}
use Rattle.aries_c.specs.declared.checkpoint.DirtyPage.{DirtyPage}
use Rattle.aries_c.specs.Tables.{state_number, told_entry, told_dirty}

one_state : (s t : State) → state_number s ≡ state_number t → s ≡ t
one_state Active Active is = refl
one_state Aborting Aborting is = refl
one_state Prepared Prepared is = refl
one_state s t is = absurd (omega (arith, is))

pub one_entry : (a b : TableEntry) → told_entry a ≡ told_entry b → a ≡ b
one_entry a b is =
    let tx : a.tx ≡ b.tx = ap (λ (e : Told). e.tx) is in
    let state : a.state ≡ b.state = one_state a.state b.state (ap (λ (e : Told). e.state) is) in
    let last : a.last ≡ b.last = ap (λ (e : Told). e.last) is in
    let undo_next : a.undo_next ≡ b.undo_next = ap (λ (e : Told). e.undo_next) is in
    ap (λ n. let e : TableEntry = record { tx = n; state = a.state; last = a.last; undo_next = a.undo_next } in e) tx
    ∙ ap (λ s. let e : TableEntry = record { tx = b.tx; state = s; last = a.last; undo_next = a.undo_next } in e) state
    ∙ ap₂ (λ n m. let e : TableEntry = record { tx = b.tx; state = b.state; last = n; undo_next = m } in e) last undo_next

pub one_dirty : (a b : ℕ × ℕ) → told_dirty a ≡ told_dirty b → a ≡ b
one_dirty a b is = ap₂ (λ page lsn. let d : ℕ × ℕ = (page, lsn) in d) (ap (λ (d : DirtyPage). d.page) is) (ap (λ (d : DirtyPage). d.rec_lsn) is)
