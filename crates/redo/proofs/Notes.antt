-- Notes of records, each with its cell in one number.
use Rattle.std.proofs.Common.{◌≡◌, ℕ, zero, suc, ◌+◌, ◌*◌, ◌/◌, ◌%◌, ◌<◌, List, [], ◌∷◌, ◌++◌, cond, eqb, length, get_or, set, refl, sym, ap, ◌∙◌, inl, inr, arith, eq-eqb, ne_eqb}
use Rattle.std.proofs.lemmas.Bool.{cases_eq}
use Rattle.std.proofs.lemmas.List.{get_or-set_same, get_or-set_other}
use Rattle.redo.specs.declared.note.Note.{Note}
use Rattle.redo.specs.Notes.{note_of, notes_of, notes_at}
use Rattle.page.specs.declared.profile.TheConstants.{SLOTS}

-- IN ONE NUMBER
pub note_there : (n : Note) → n.slot < SLOTS → note_of n.lsn (SLOTS * n.place + n.slot) ≡ n
note_there n small =
    let place : (SLOTS * n.place + n.slot) / SLOTS ≡ n.place = omega arith in
    let slot : (SLOTS * n.place + n.slot) % SLOTS ≡ n.slot = omega arith in
    ap (λ p. record { lsn = n.lsn; place = p; slot = (SLOTS * n.place + n.slot) % SLOTS }) place ∙ ap (λ s. record { lsn = n.lsn; place = n.place; slot = s }) slot

pub notes_count : (lsns cells : List ℕ) → length cells ≡ length lsns → length (notes_of lsns cells) ≡ length lsns
notes_count [] cells same = refl
notes_count (l ∷ lsns) [] same = absurd (omega (arith, same))
notes_count (l ∷ lsns) (c ∷ cells) same = ap suc (notes_count lsns cells (omega (arith, same)))

pub notes_get : (lsns cells : List ℕ) (i a b : ℕ) (d : Note) → i < length lsns → length cells ≡ length lsns → get_or (notes_of lsns cells) i d ≡ note_of (get_or lsns i a) (get_or cells i b)
notes_get [] cells i a b d lt same = absurd (omega arith)
notes_get (l ∷ lsns) [] i a b d lt same = absurd (omega (arith, same))
notes_get (l ∷ lsns) (c ∷ cells) zero a b d lt same = refl
notes_get (l ∷ lsns) (c ∷ cells) (suc i) a b d lt same = notes_get lsns cells i a b d (omega (arith, lt)) (omega (arith, same))

pub notes_push : (lsns cells : List ℕ) (l c : ℕ) → length cells ≡ length lsns → notes_of (lsns ++ l ∷ []) (cells ++ c ∷ []) ≡ notes_of lsns cells ++ note_of l c ∷ []
notes_push [] [] l c same = refl
notes_push [] (x ∷ cells) l c same = absurd (omega (arith, same))
notes_push (x ∷ lsns) [] l c same = absurd (omega (arith, same))
notes_push (x ∷ lsns) (y ∷ cells) l c same = ap (λ ns. note_of x y ∷ ns) (notes_push lsns cells l c (omega (arith, same)))

-- FOR EACH PART
pub noted : (old new : List (List Note)) (part : ℕ) (note : Note) → part < length old → new ≡ set old part (notes_at old part ++ note ∷ []) → (k : ℕ) → notes_at new k ≡ cond (eqb k part) (notes_at old k ++ note ∷ []) (notes_at old k)
noted old new part note lt is k =
    let more = notes_at old k ++ note ∷ [] in
    ap (λ lists. notes_at lists k) is
    ∙ elim (cases_eq k part) [
      | inl e ↦
          ap (notes_at (set old part (notes_at old part ++ note ∷ []))) e
          ∙ (get_or-set_same old part (notes_at old part ++ note ∷ []) [] lt ∙ (ap (λ j. notes_at old j ++ note ∷ []) (sym e) ∙ sym (ap (λ b. cond b more (notes_at old k)) (eq-eqb k part e))))
      | inr ne ↦ get_or-set_other old part k (notes_at old part ++ note ∷ []) [] ne ∙ sym (ap (λ b. cond b more (notes_at old k)) (ne_eqb k part ne))
    ]

-- one more part without notes
pub none_more : (lists : List (List Note)) → ((k : ℕ) → notes_at lists k ≡ []) → (k : ℕ) → notes_at (lists ++ [] ∷ []) k ≡ []
none_more [] none zero = refl
none_more [] none (suc k) = refl
none_more (x ∷ lists) none zero = none zero
none_more (x ∷ lists) none (suc k) = none_more lists (λ j. none (suc j)) k
