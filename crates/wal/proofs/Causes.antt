-- Bytes that are not a log have one error, and the bytes of a log have none.
use Rattle.std.proofs.Common.{◌≡◌, ◌≢◌, ◌⊎◌, ℕ, ◌+◌, ◌^◌, ◌<◌, List, [], ◌∷◌, ◌++◌, length, drop, Some, None, Option, refl, sym, ap, subst, ◌∙◌, append_assoc, arith, inl, inr}
use Rattle.std.specs.List.{AllByRecursion}
use Rattle.std.proofs.lemmas.List.{length-append}
use Rattle.std.proofs.lemmas.Option.{same_Some}
use Rattle.page.specs.declared.fault.Fault.{Fault}
use Rattle.page.specs.declared.fault.Fault.TheVariants.{NoResource, BadLogHeader, BadLength, BadRecord, BadLsn}
use Rattle.log_laws.specs.declared.start.LogStart.{LogStart}
use Rattle.log_laws.specs.Records.{LogRecord, lsn_before, LogContent}
use Rattle.wal.specs.Headers.{header_of, header_bytes, FitsStart}
use Rattle.wal.specs.Spelling.{body, frame, Fits}
use Rattle.wal.specs.Frames.{next_at}
use Rattle.wal.specs.Reading.{body_at}
use Rattle.wal.specs.Reads.{spellings, IsTorn, Reads, HasFault, FaultBehind, HasFaultBehind, Cause, OneLogFault, NoFaultOfALog}
use Rattle.wal.proofs.Bodies.{body_again}
use Rattle.wal.proofs.Headers.{header_dropped, one_start}
use Rattle.wal.proofs.Whole.{ok_is, body_size, right_body, frame_length, frame_rest, frame_next, torn_none}

-- IN FRONT
-- no fault if a right frame is there
right_frame : (r : LogRecord) (lsn offset : ℕ) (rest : List ℕ) (e : Fault) → Fits r → lsn < 2 ^ 64 → HasFault e lsn offset (frame r lsn ++ rest) → ⊥
right_frame r lsn offset rest (BadLength place) fits lt h =
    let size = body_size r lsn fits in
    let said = frame_length r lsn rest fits in
    elim (h.2) [ inl low ↦ omega (arith, low, said, size.0) | inr high ↦ omega (arith, high, said, size.1) ]
right_frame r lsn offset rest (BadRecord place) fits lt h = h.2 r lsn fits lt (right_body r lsn rest fits)
right_frame r lsn offset rest (BadLsn place) fits lt (at, whole, other, n, other_fits, small, same, wrong) =
    let read : ◌≡◌ {A = LogRecord × ℕ} (other, n) (r, lsn) =
    same_Some (other, n) (r, lsn) (sym (body_again other n other_fits small) ∙ ap body_at (sym same ∙ right_body r lsn rest fits) ∙ body_again r lsn fits lt) in
    wrong (ap (λ x. x.1) read)
right_frame r lsn offset rest _ fits lt h = absurd h

-- no fault in a torn tail
no_fault_torn : (lsn offset : ℕ) (tail : List ℕ) (e : Fault) → IsTorn tail → HasFault e lsn offset tail → ⊥
no_fault_torn lsn offset tail (BadLength place) torn h =
    elim torn [
      | inl short ↦ omega (arith, short, h.1)
      | inr t ↦ elim (h.2) [ inl low ↦ omega (arith, low, t.1) | inr high ↦ omega (arith, high, t.2) ]
    ]
no_fault_torn lsn offset tail (BadRecord place) torn h = elim torn [ inl short ↦ omega (arith, short, h.1.2) | inr t ↦ omega (arith, t.3, h.1.2) ]
no_fault_torn lsn offset tail (BadLsn place) torn h = elim torn [ inl short ↦ omega (arith, short, h.1.2) | inr t ↦ omega (arith, t.3, h.1.2) ]
no_fault_torn lsn offset tail _ torn h = absurd h

-- one fault
one_in_front : (lsn offset : ℕ) (bytes : List ℕ) (d e : Fault) → HasFault d lsn offset bytes → HasFault e lsn offset bytes → d ≡ e
one_in_front lsn offset bytes (BadLength a) (BadLength b) x y = ap (λ n. BadLength n) (x.0 ∙ sym y.0)
one_in_front lsn offset bytes (BadLength a) (BadRecord b) x y = absurd (elim (x.2) [ inl low ↦ omega (arith, low, y.1.0) | inr high ↦ omega (arith, high, y.1.1) ])
one_in_front lsn offset bytes (BadLength a) (BadLsn b) x y = absurd (elim (x.2) [ inl low ↦ omega (arith, low, y.1.0) | inr high ↦ omega (arith, high, y.1.1) ])
one_in_front lsn offset bytes (BadLength a) _ x y = absurd y
one_in_front lsn offset bytes (BadRecord a) (BadLength b) x y = absurd (elim (y.2) [ inl low ↦ omega (arith, low, x.1.0) | inr high ↦ omega (arith, high, x.1.1) ])
one_in_front lsn offset bytes (BadRecord a) (BadRecord b) x y = ap (λ n. BadRecord n) (x.0 ∙ sym y.0)
one_in_front lsn offset bytes (BadRecord a) (BadLsn b) x (at, whole, r, n, fits, small, same, wrong) = absurd (x.2 r n fits small same)
one_in_front lsn offset bytes (BadRecord a) _ x y = absurd y
one_in_front lsn offset bytes (BadLsn a) (BadLength b) x y = absurd (elim (y.2) [ inl low ↦ omega (arith, low, x.1.0) | inr high ↦ omega (arith, high, x.1.1) ])
one_in_front lsn offset bytes (BadLsn a) (BadRecord b) (at, whole, r, n, fits, small, same, wrong) y = absurd (y.2 r n fits small same)
one_in_front lsn offset bytes (BadLsn a) (BadLsn b) x y = ap (λ n. BadLsn n) (x.0 ∙ sym y.0)
one_in_front lsn offset bytes (BadLsn a) _ x y = absurd y
one_in_front lsn offset bytes _ e x y = absurd x

-- AFTER WHOLE FRAMES
-- two right frames at the front are the same, and so is what follows them
record AreSameFrames (r s : LogRecord) (rest other : List ℕ) : Type 0 where
  pub records : r ≡ s
  pub behind : rest ≡ other

same_frames : (r s : LogRecord) (lsn : ℕ) (rest other : List ℕ) → Fits r → Fits s → lsn < 2 ^ 64 → frame r lsn ++ rest ≡ frame s lsn ++ other → AreSameFrames r s rest other
same_frames r s lsn rest other fits other_fits lt e =
    let read : ◌≡◌ {A = LogRecord × ℕ} (r, 4 + length (body r lsn)) (s, 4 + length (body s lsn)) =
    same_Some _ _ (ok_is (Some (r, 4 + length (body r lsn))) (Some (s, 4 + length (body s lsn)))
    (sym (frame_next r lsn 0 rest fits lt) ∙ ap (next_at lsn 0) e ∙ frame_next s lsn 0 other other_fits lt)) in
    let records : r ≡ s = ap (λ x. x.0) read in
    record {
      records = records;
      behind =
          sym (frame_rest r lsn rest) ∙ ap (drop (4 + length (body r lsn))) e ∙ ap (λ n. drop n (frame s lsn ++ other)) (ap (λ x. x.1) read)
          ∙ frame_rest s lsn other;
    }

-- the fault follows these records
abbrev Behind : ℕ → ℕ → List LogRecord → List ℕ → Fault → Type 0
Behind lsn offset records rest e = HasFault e (lsn + length records) (offset + length (spellings lsn records)) rest

one_more : (lsn offset : ℕ) (r : LogRecord) (records : List LogRecord) (rest : List ℕ) (e : Fault) → Behind lsn offset (r ∷ records) rest e
    → Behind (lsn + 1) (offset + length (frame r lsn)) records rest e
one_more lsn offset r records rest e h =
    let number : lsn + length (r ∷ records) ≡ lsn + 1 + length records = omega arith in
    let place : offset + length (spellings lsn (r ∷ records)) ≡ (offset + length (frame r lsn)) + length (spellings (lsn + 1) records) =
    omega (arith, length-append (frame r lsn) (spellings (lsn + 1) records)) in
    subst (λ k. HasFault e (lsn + 1 + length records) k rest) place (subst (λ k. HasFault e k (offset + length (spellings lsn (r ∷ records))) rest) number h)

none_before : (lsn offset : ℕ) (rest : List ℕ) (e : Fault) → Behind lsn offset [] rest e → HasFault e lsn offset rest
none_before lsn offset rest e h =
    let number : lsn + 0 ≡ lsn = omega arith in
    let place : offset + 0 ≡ offset = omega arith in
    subst (λ k. HasFault e lsn k rest) place (subst (λ k. HasFault e k (offset + 0) rest) number h)

abbrev AllFit : List LogRecord → Type 0
AllFit records = AllByRecursion Fits records

one_behind : (lsn offset : ℕ) (xs ys : List LogRecord) (rest other : List ℕ) (d e : Fault) → AllFit xs → AllFit ys → lsn + length xs < 2 ^ 64 → lsn + length ys < 2 ^ 64
    → spellings lsn xs ++ rest ≡ spellings lsn ys ++ other → Behind lsn offset xs rest d → Behind lsn offset ys other e → d ≡ e
one_behind lsn offset [] [] rest other d e fit also few small text x y =
    one_in_front lsn offset other d e (subst (HasFault d lsn offset) text (none_before lsn offset rest d x)) (none_before lsn offset other e y)
one_behind lsn offset [] (s ∷ ys) rest other d e fit also few small text x y =
    absurd (right_frame s lsn offset (spellings (lsn + 1) ys ++ other) d also.0 (omega (arith, small))
    (subst (HasFault d lsn offset) (text ∙ append_assoc (frame s lsn) (spellings (lsn + 1) ys) other) (none_before lsn offset rest d x)))
one_behind lsn offset (r ∷ xs) [] rest other d e fit also few small text x y =
    absurd (right_frame r lsn offset (spellings (lsn + 1) xs ++ rest) e fit.0 (omega (arith, few))
    (subst (HasFault e lsn offset) (sym text ∙ append_assoc (frame r lsn) (spellings (lsn + 1) xs) rest) (none_before lsn offset other e y)))
one_behind lsn offset (r ∷ xs) (s ∷ ys) rest other d e fit also few small text x y =
    let same =
    same_frames r s lsn (spellings (lsn + 1) xs ++ rest) (spellings (lsn + 1) ys ++ other) fit.0 also.0 (omega (arith, few))
    (sym (append_assoc (frame r lsn) (spellings (lsn + 1) xs) rest) ∙ text ∙ append_assoc (frame s lsn) (spellings (lsn + 1) ys) other) in
    one_behind (lsn + 1) (offset + length (frame r lsn)) xs ys rest other d e fit.1 also.1 (omega (arith, few)) (omega (arith, small)) same.behind
    (one_more lsn offset r xs rest d x)
    (subst (λ (z : LogRecord). Behind (lsn + 1) (offset + length (frame z lsn)) ys other e) (sym same.records) (one_more lsn offset s ys other e y))

none_behind : (lsn offset : ℕ) (xs ys : List LogRecord) (tail rest : List ℕ) (e : Fault) → AllFit xs → AllFit ys → lsn + length ys < 2 ^ 64 → IsTorn tail
    → spellings lsn xs ++ tail ≡ spellings lsn ys ++ rest → Behind lsn offset ys rest e → ⊥
none_behind lsn offset [] [] tail rest e fit also small torn text y = no_fault_torn lsn offset rest e (subst IsTorn text torn) (none_before lsn offset rest e y)
none_behind lsn offset [] (s ∷ ys) tail rest e fit also small torn text y =
    let read : ◌≡◌ {A = Option (LogRecord × ℕ)} None (Some (s, 4 + length (body s lsn))) =
    ok_is None (Some (s, 4 + length (body s lsn)))
    (sym (torn_none lsn offset tail torn) ∙ ap (next_at lsn offset) (text ∙ append_assoc (frame s lsn) (spellings (lsn + 1) ys) rest)
    ∙ frame_next s lsn offset (spellings (lsn + 1) ys ++ rest) also.0 (omega (arith, small))) in
    absurd (cc)
none_behind lsn offset (r ∷ xs) [] tail rest e fit also small torn text y =
    right_frame r lsn offset (spellings (lsn + 1) xs ++ tail) e fit.0 (omega (arith, small))
    (subst (HasFault e lsn offset) (sym text ∙ append_assoc (frame r lsn) (spellings (lsn + 1) xs) tail) (none_before lsn offset rest e y))
none_behind lsn offset (r ∷ xs) (s ∷ ys) tail rest e fit also small torn text y =
    let same =
    same_frames r s lsn (spellings (lsn + 1) xs ++ tail) (spellings (lsn + 1) ys ++ rest) fit.0 also.0 (omega (arith, small))
    (sym (append_assoc (frame r lsn) (spellings (lsn + 1) xs) tail) ∙ text ∙ append_assoc (frame s lsn) (spellings (lsn + 1) ys) rest) in
    none_behind (lsn + 1) (offset + length (frame s lsn)) xs ys tail rest e fit.1 also.1 (omega (arith, small)) torn same.behind (one_more lsn offset s ys rest e y)

-- THE BYTES
abbrev NoHeader : List ℕ → Type 0
NoHeader bytes = (begins : LogStart) (rest : List ℕ) → FitsStart begins → bytes ≢ header_of begins ++ rest

either : (bytes : List ℕ) (e : Fault) → (e ≡ NoResource → ⊥) → Cause bytes e → ((e ≡ BadLogHeader) × NoHeader bytes) ⊎ HasFaultBehind bytes e
either bytes NoResource some h = absurd (some refl)
either bytes BadLogHeader some h = inl (refl, h)
either bytes e some h = inr h

-- after the same header there is one fault
one_fault_behind : (bytes : List ℕ) (d e : Fault) (a : HasFaultBehind bytes d) (b : HasFaultBehind bytes e) → a.begins ≡ b.begins → d ≡ e
one_fault_behind bytes d e a b same =
    let p = a.behind in
    let q : FaultBehind (lsn_before a.begins + 1) (header_bytes a.begins) (drop (header_bytes a.begins) bytes) e =
    subst (λ begins. FaultBehind (lsn_before begins + 1) (header_bytes begins) (drop (header_bytes begins) bytes) e) (sym same) b.behind in
    one_behind (lsn_before a.begins + 1) (header_bytes a.begins) p.records q.records p.rest q.rest d e p.each q.each p.few q.few (sym p.text ∙ q.text) p.fault q.fault

pub one_log_fault : OneLogFault
one_log_fault bytes d e some other x y =
    elim (either bytes d some x) [
      | inl a ↦ elim (either bytes e other y) [ inl b ↦ a.0 ∙ sym b.0 | inr b ↦ absurd (a.1 b.begins (drop (header_bytes b.begins) bytes) b.starts b.front) ]
      | inr a ↦
          elim (either bytes e other y) [
            | inl b ↦ absurd (b.1 a.begins (drop (header_bytes a.begins) bytes) a.starts a.front)
            | inr b ↦ one_fault_behind bytes d e a b (one_start a.begins b.begins (drop (header_bytes a.begins) bytes) (drop (header_bytes b.begins) bytes) a.starts b.starts (sym a.front ∙ b.front))
          ]
    ]

none_stands : (bytes : List ℕ) (log : LogContent) (torn : ℕ) → Reads bytes log torn → (e : Fault) → (e ≡ NoResource → ⊥) → Cause bytes e → ⊥
none_stands bytes log torn reads e some h =
    let records = log.records in
    let begins = log.begins in
    let first = lsn_before begins + 1 in
    let text : bytes ≡ header_of begins ++ (spellings first records ++ reads.tail) = reads.text ∙ append_assoc (header_of begins) (spellings first records) reads.tail in
    let behind : drop (header_bytes begins) bytes ≡ spellings first records ++ reads.tail = ap (drop (header_bytes begins)) text ∙ header_dropped begins (spellings first records ++ reads.tail) in
    elim (either bytes e some h) [
      | inl a ↦ a.1 begins (spellings first records ++ reads.tail) reads.starts text
      | inr a ↦
          (let same : a.begins ≡ begins = one_start a.begins begins (drop (header_bytes a.begins) bytes) (spellings first records ++ reads.tail) a.starts reads.starts (sym a.front ∙ text) in
          let p : FaultBehind first (header_bytes begins) (drop (header_bytes begins) bytes) e =
          subst (λ b. FaultBehind (lsn_before b + 1) (header_bytes b) (drop (header_bytes b) bytes) e) same a.behind in
          none_behind first (header_bytes begins) records p.records reads.tail p.rest e reads.each p.each p.few reads.torn_tail (sym behind ∙ p.text) p.fault)
    ]

pub no_fault_of_a_log : NoFaultOfALog
no_fault_of_a_log bytes log torn reads NoResource h = refl
no_fault_of_a_log bytes log torn reads e h = absurd (none_stands bytes log torn reads e (λ i. absurd cc) h)
