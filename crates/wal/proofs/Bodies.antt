-- A record that is read is the record that was written, and what was written is read again.
use Rattle.std.proofs.Common.{◌-◌, ◌≡◌, ℕ, ◌^◌, ◌<◌, ◌≤◌, eqb, eqb-true, List, [], ◌∷◌, ◌++◌, length, Some, refl, sym, ap, ap₂, subst, ◌∙◌, append_assoc, inl, inr}
use Rattle.std.specs.Int.{w32, w64, to_be_bytes}
use Rattle.std.proofs.lemmas.List.{append-nil, nil_from_length}
use Rattle.std.proofs.lemmas.Option.{same_Some}
use Rattle.log_laws.specs.Records.{tx_in, page_in, UpdateRecord, CompensationRecord, PlainRecord, LogRecord, Update, Compensation, Commit, Abort, End, Prepare, CheckpointBegin, CheckpointEnd}
use Rattle.wal.specs.Spelling.{image, plain, update, compensation, checkpoint, table, entry, dirty_page, kind_of, fields, body, FitsPlain, FitsTable, FitsEntry, FitsDirty, Fits}
use Rattle.wal.specs.Reading.{◌>>=◌, number_at, slot_at, image_at, plain_at, update_at, compensation_at, plain_record_at, transactions_at, dirties_at, checkpoint_at, fields_at, body_at}
use Rattle.wal.proofs.Loop.{chosen}
use Rattle.page.proofs.BigEndian.{AreBytes}
use Rattle.wal.proofs.Fields.{AreBytes-rest, bind_some, guard_ended, Takes, Takes-then, first_of_all, field32, field64, slot_field, image_field, plain_field}
use Rattle.wal.proofs.TableFields.{transactions_field, dirties_field}
use Rattle.page.specs.Image.{FitsSlot}
use Rattle.page.specs.declared.profile.TheConstants.{PAGES, TRANSACTIONS, SLOTS}

-- a record of this kind was read
abbrev pub Read : ℕ → List ℕ → LogRecord × List ℕ → Type 0
Read kind bytes x = Takes bytes (fields x.0) x.1 × Fits x.0 × (kind ≡ kind_of x.0)

-- a record that holds only its transaction and the previous record
plain_takes : (kind : ℕ) (make : PlainRecord → LogRecord) (bytes : List ℕ) (x : LogRecord × List ℕ)
    → ((own : PlainRecord) (rest : List ℕ) → Takes bytes (plain own) rest → FitsPlain own → Read kind bytes (make own, rest))
    → AreBytes bytes → (plain_at bytes >>= λ own. Some (make own.0, own.1)) ≡ Some x → Read kind bytes x
plain_takes kind make bytes x read fits e =
    let a = first_of_all plain_at plain FitsPlain plain_field bytes (λ own. Some (make own.0, own.1)) x fits e in
    subst (Read kind bytes) (same_Some (make a.value, a.rest) x a.after) (read a.value a.rest a.takes a.fits)

update_takes : (bytes : List ℕ) (x : LogRecord × List ℕ) → AreBytes bytes → update_at bytes ≡ Some x → Read 1 bytes x
unfolding update_at
update_takes bytes x fits e =
    let a = first_of_all plain_at plain FitsPlain plain_field bytes _ x fits e in
    let b = first_of_all (number_at w32) (to_be_bytes w32) (λ n. n < 2 ^ 32) field32 a.rest _ x a.takes.rest_fits a.after in
    let c = first_of_all slot_at (λ slot. slot ∷ []) (λ slot. slot ≤ SLOTS - 1) slot_field b.rest _ x b.takes.rest_fits b.after in
    let d = first_of_all image_at image FitsSlot image_field c.rest _ x c.takes.rest_fits c.after in
    let f = first_of_all image_at image FitsSlot image_field d.rest _ x d.takes.rest_fits d.after in
    let u : UpdateRecord = record { tx = a.value.tx; prev = a.value.prev; page = b.value; slot = c.value; before = d.value; after = f.value } in
    let df = Takes-then c.rest (image d.value) d.rest (image f.value) f.rest d.takes f.takes in
    let cf = Takes-then b.rest (c.value ∷ []) c.rest (image d.value ++ image f.value) f.rest c.takes df in
    let bf = Takes-then a.rest (to_be_bytes w32 b.value) b.rest ((c.value ∷ []) ++ image d.value ++ image f.value) f.rest b.takes cf in
    let af = Takes-then bytes (plain a.value) a.rest (to_be_bytes w32 b.value ++ (c.value ∷ []) ++ image d.value ++ image f.value) f.rest a.takes bf in
    subst (Read 1 bytes) (same_Some (Update u, f.rest) x f.after)
    (af, record { some_tx = a.fits.some_tx; tx = a.fits.tx; prev = a.fits.prev; page = b.fits; slot = c.fits; before = d.fits; after = f.fits }, refl)

compensation_takes : (bytes : List ℕ) (x : LogRecord × List ℕ) → AreBytes bytes → compensation_at bytes ≡ Some x → Read 2 bytes x
unfolding compensation_at
compensation_takes bytes x fits e =
    let a = first_of_all plain_at plain FitsPlain plain_field bytes _ x fits e in
    let b = first_of_all (number_at w32) (to_be_bytes w32) (λ n. n < 2 ^ 32) field32 a.rest _ x a.takes.rest_fits a.after in
    let c = first_of_all slot_at (λ slot. slot ∷ []) (λ slot. slot ≤ SLOTS - 1) slot_field b.rest _ x b.takes.rest_fits b.after in
    let d = first_of_all (number_at w64) (to_be_bytes w64) (λ n. n < 2 ^ 64) field64 c.rest _ x c.takes.rest_fits c.after in
    let f = first_of_all image_at image FitsSlot image_field d.rest _ x d.takes.rest_fits d.after in
    let u : CompensationRecord = record { tx = a.value.tx; prev = a.value.prev; page = b.value; slot = c.value; undo_next = d.value; image = f.value } in
    let df = Takes-then c.rest (to_be_bytes w64 d.value) d.rest (image f.value) f.rest d.takes f.takes in
    let cf = Takes-then b.rest (c.value ∷ []) c.rest (to_be_bytes w64 d.value ++ image f.value) f.rest c.takes df in
    let bf = Takes-then a.rest (to_be_bytes w32 b.value) b.rest ((c.value ∷ []) ++ to_be_bytes w64 d.value ++ image f.value) f.rest b.takes cf in
    let af = Takes-then bytes (plain a.value) a.rest (to_be_bytes w32 b.value ++ (c.value ∷ []) ++ to_be_bytes w64 d.value ++ image f.value) f.rest a.takes bf in
    subst (Read 2 bytes) (same_Some (Compensation u, f.rest) x f.after)
    (af, record { some_tx = a.fits.some_tx; tx = a.fits.tx; prev = a.fits.prev; page = b.fits; slot = c.fits; undo_next = d.fits; image = f.fits }, refl)

checkpoint_takes : (bytes : List ℕ) (x : LogRecord × List ℕ) → AreBytes bytes → checkpoint_at bytes ≡ Some x → Read 7 bytes x
unfolding checkpoint_at
checkpoint_takes bytes x fits e =
    let a = first_of_all (number_at w64) (to_be_bytes w64) (λ n. n < 2 ^ 64) field64 bytes _ x fits e in
    let b = first_of_all transactions_at (table entry) (FitsTable TRANSACTIONS tx_in FitsEntry) transactions_field a.rest _ x a.takes.rest_fits a.after in
    let c = first_of_all dirties_at (table dirty_page) (FitsTable PAGES page_in FitsDirty) dirties_field b.rest _ x b.takes.rest_fits b.after in
    let bc = Takes-then a.rest (table entry b.value) b.rest (table dirty_page c.value) c.rest b.takes c.takes in
    let ac = Takes-then bytes (to_be_bytes w64 a.value) a.rest (table entry b.value ++ table dirty_page c.value) c.rest a.takes bc in
    subst (Read 7 bytes) (same_Some (CheckpointEnd a.value b.value c.value, c.rest) x c.after)
    (ac, record { begin_fits = a.fits; transactions_fit = b.fits; dirty_fit = c.fits }, refl)

-- what is read by a kind has this kind
pub fields_take : (kind : ℕ) (bytes : List ℕ) (x : LogRecord × List ℕ) → AreBytes bytes → fields_at kind bytes ≡ Some x → Read kind bytes x
unfolding fields_at plain_record_at
fields_take kind bytes x fits e =
    elim (chosen (eqb kind 1) _ _ _ e) [
      | inl p ↦ subst (λ k. Read k bytes x) (sym (eqb-true kind 1 p.0)) (update_takes bytes x fits p.1)
      | inr p ↦
          elim (chosen (eqb kind 2) _ _ _ p.1) [
            | inl q ↦ subst (λ k. Read k bytes x) (sym (eqb-true kind 2 q.0)) (compensation_takes bytes x fits q.1)
            | inr q ↦
                elim (chosen (eqb kind 3) _ _ _ q.1) [
                  | inl r ↦ subst (λ k. Read k bytes x) (sym (eqb-true kind 3 r.0)) (plain_takes 3 Commit bytes x (λ own rest t f. (t, f, refl)) fits r.1)
                  | inr r ↦
                      elim (chosen (eqb kind 4) _ _ _ r.1) [
                        | inl s ↦ subst (λ k. Read k bytes x) (sym (eqb-true kind 4 s.0)) (plain_takes 4 Abort bytes x (λ own rest t f. (t, f, refl)) fits s.1)
                        | inr s ↦
                            elim (chosen (eqb kind 5) _ _ _ s.1) [
                              | inl t ↦ subst (λ k. Read k bytes x) (sym (eqb-true kind 5 t.0)) (plain_takes 5 End bytes x (λ own rest t f. (t, f, refl)) fits t.1)
                              | inr t ↦
                                  elim (chosen (eqb kind 6) _ _ _ t.1) [
                                    | inl u ↦ subst (λ k. Read k bytes x) (sym (eqb-true kind 6 u.0)) (subst (Read 6 bytes) (same_Some (CheckpointBegin, bytes) x u.1) (record { parts = refl; rest_fits = fits }, tt, refl))
                                    | inr u ↦
                                        elim (chosen (eqb kind 7) _ _ _ u.1) [
                                          | inl v ↦ subst (λ k. Read k bytes x) (sym (eqb-true kind 7 v.0)) (checkpoint_takes bytes x fits v.1)
                                          | inr v ↦
                                              elim (chosen (eqb kind 8) _ _ _ v.1) [
                                                | inl w ↦ subst (λ k. Read k bytes x) (sym (eqb-true kind 8 w.0)) (plain_takes 8 Prepare bytes x (λ own rest t f. (t, f, refl)) fits w.1)
                                                | inr w ↦ absurd cc
                                              ]
                                        ]
                                  ]
                            ]
                      ]
                ]
          ]
    ]

pub fields_again : (r : LogRecord) (rest : List ℕ) → Fits r → fields_at (kind_of r) (fields r ++ rest) ≡ Some (r, rest)
unfolding fields_at update_at compensation_at plain_record_at checkpoint_at
fields_again (Update u) rest fits =
    let before = image u.before in
    let after = image u.after in
    let front = plain (record { tx = u.tx; prev = u.prev }) in
    let regrouped : update u ++ rest ≡ front ++ (to_be_bytes w32 u.page ++ ((u.slot ∷ []) ++ (before ++ (after ++ rest)))) = simp append_assoc in
    ap update_at regrouped
    ∙ rw (plain_field.again (record { tx = u.tx; prev = u.prev }) (to_be_bytes w32 u.page ++ ((u.slot ∷ []) ++ (before ++ (after ++ rest)))) (record { some_tx = fits.some_tx; tx = fits.tx; prev = fits.prev }), field32.again u.page ((u.slot ∷ []) ++ (before ++ (after ++ rest))) fits.page, slot_field.again u.slot (before ++ (after ++ rest)) fits.slot, image_field.again u.before (after ++ rest) fits.before, image_field.again u.after rest fits.after) refl
fields_again (Compensation u) rest fits =
    let value = image u.image in
    let front = plain (record { tx = u.tx; prev = u.prev }) in
    let regrouped : compensation u ++ rest ≡ front ++ (to_be_bytes w32 u.page ++ ((u.slot ∷ []) ++ (to_be_bytes w64 u.undo_next ++ (value ++ rest)))) = simp append_assoc in
    ap compensation_at regrouped
    ∙ rw (plain_field.again (record { tx = u.tx; prev = u.prev }) (to_be_bytes w32 u.page ++ ((u.slot ∷ []) ++ (to_be_bytes w64 u.undo_next ++ (value ++ rest)))) (record { some_tx = fits.some_tx; tx = fits.tx; prev = fits.prev }), field32.again u.page ((u.slot ∷ []) ++ (to_be_bytes w64 u.undo_next ++ (value ++ rest))) fits.page, slot_field.again u.slot (to_be_bytes w64 u.undo_next ++ (value ++ rest)) fits.slot, field64.again u.undo_next (value ++ rest) fits.undo_next, image_field.again u.image rest fits.image) refl
fields_again (Commit r) rest fits = rw (plain_field.again r rest fits) refl
fields_again (Abort r) rest fits = rw (plain_field.again r rest fits) refl
fields_again (End r) rest fits = rw (plain_field.again r rest fits) refl
fields_again (Prepare r) rest fits = rw (plain_field.again r rest fits) refl
fields_again CheckpointBegin rest fits = refl
fields_again (CheckpointEnd begin transactions dirty) rest fits =
    let first = table entry transactions in
    let second = table dirty_page dirty in
    let regrouped : checkpoint begin transactions dirty ++ rest ≡ to_be_bytes w64 begin ++ (first ++ (second ++ rest)) = simp append_assoc in
    ap checkpoint_at regrouped
    ∙ rw (field64.again begin (first ++ (second ++ rest)) fits.begin_fits, transactions_field.again transactions (second ++ rest) fits.transactions_fit, dirties_field.again dirty rest fits.dirty_fit) refl

-- ---- bodies

-- THE DECODER IS EXACT, in one direction and the other
pub body_takes : (bytes : List ℕ) (r : LogRecord) (lsn : ℕ) → AreBytes bytes → body_at bytes ≡ Some (r, lsn) → (bytes ≡ body r lsn) × Fits r × (lsn < 2 ^ 64)
unfolding body_at
body_takes [] r lsn fits e = absurd cc
body_takes (kind ∷ bytes) r lsn fits e =
    let a = first_of_all (number_at w64) (to_be_bytes w64) (λ n. n < 2 ^ 64) field64 bytes _ (r, lsn) (AreBytes-rest kind bytes fits) e in
    let b = bind_some (fields_at kind a.rest) _ (r, lsn) a.after in
    let t = fields_take kind a.rest b.0 a.takes.rest_fits b.1 in
    let g = guard_ended (eqb (length b.0.1) 0) (b.0.0, a.value) (r, lsn) b.2 in
    let nothing : b.0.1 ≡ [] = nil_from_length b.0.1 (eqb-true _ _ g.0) in
    let both = (Takes-then bytes (to_be_bytes w64 a.value) a.rest (fields b.0.0) b.0.1 a.takes t.0).parts in
    let whole : bytes ≡ to_be_bytes w64 a.value ++ fields b.0.0 = both ∙ ap (λ (x : List ℕ). (to_be_bytes w64 a.value ++ fields b.0.0) ++ x) nothing ∙ append-nil (to_be_bytes w64 a.value ++ fields b.0.0) in
    let all : ◌≡◌ {A = List ℕ} (kind ∷ bytes) (body b.0.0 a.value) = ap₂ (λ (k : ℕ) (x : List ℕ). k ∷ x) t.2 whole in
    subst (λ (y : LogRecord × ℕ). (kind ∷ bytes ≡ body y.0 y.1) × Fits y.0 × (y.1 < 2 ^ 64)) g.1 (all, t.1, a.fits)

pub body_again : (r : LogRecord) (lsn : ℕ) → Fits r → lsn < 2 ^ 64 → body_at (body r lsn) ≡ Some (r, lsn)
unfolding body_at
body_again r lsn fits lt =
    let read : fields_at (kind_of r) (fields r) ≡ Some (r, []) = ap (fields_at (kind_of r)) (sym (append-nil (fields r))) ∙ fields_again r [] fits in
    rw (field64.again lsn (fields r) lt, read) refl
