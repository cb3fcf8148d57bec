-- The frames that are read are exactly the frames that are there.
use Rattle.std.proofs.Common.{◌≡◌, ◌⊎◌, ℕ, zero, suc, ◌+◌, ◌-◌, ◌^◌, ◌<◌, ◌≤◌, ◌||◌, false, ltb, eqb, eq-eqb, List, [], ◌∷◌, ◌++◌, length, take, drop, Option, Some, None, Result, Ok, Err, refl, sym, ap, ap₂, subst, ◌∙◌, append_assoc, arith, inl, inr}
use Rattle.std.specs.Prelude.{IfOk, IfErr}
use Rattle.std.specs.List.{AllByRecursion}
use Rattle.std.specs.Int.{w32, w64, from_be_bytes, to_be_bytes}
use Rattle.std.proofs.lemmas.Bool.{or_cases, or_parts, eqb-false, ltb-false, ltb-true, le-ltb, lt-ltb}
use Rattle.std.proofs.lemmas.List.{take_at, drop_at, take-append-drop, length-append, length-take, length-drop, drop-drop}
use Rattle.page.specs.declared.fault.Fault.{Fault}
use Rattle.page.specs.declared.fault.Fault.TheVariants.{NoResource, BadLogHeader, BadLength, BadRecord, BadLsn}
use Rattle.log_laws.specs.declared.state.State.{State}
use Rattle.log_laws.specs.declared.state.State.TheVariants.{Active, Aborting, Prepared}
use Rattle.log_laws.specs.Records.{TableEntry, LogRecord, Update, Compensation, CheckpointEnd, lsn_before, LogContent}
use Rattle.log_laws.specs.declared.start.LogStart.{LogStart}
use Rattle.log_laws.specs.declared.start.LogStart.TheVariants.{Version1, Version2}
use Rattle.wal.specs.Headers.{header_of, header_bytes, FitsStart, start_at}
use Rattle.wal.specs.Spelling.{image, state, entry, dirty_page, table, body, frame, Fits}
use Rattle.wal.specs.Reading.{body_at}
use Rattle.wal.specs.Frames.{length_of, body_of, frame_at, frame_if_right, next_at, frames_at, frame_then, ◌>>=◌, frames_behind, as_log, log_from, log_at, Gives, Fails}
use Rattle.wal.specs.Reads.{spellings, IsTorn, Reads, OneReading, IsWhole, HasFault, FaultBehind, HasFaultBehind, Cause}
use Rattle.wal.proofs.Loop.{chosen, Found, next_is, with_front, nothing_in_front, fails, ends}
use Rattle.page.proofs.BigEndian.{AreBytes, AreBytes-take, AreBytes-drop}
use Rattle.wal.proofs.Fields.{wide32}
use Rattle.wal.proofs.Bodies.{body_takes, body_again}
use Rattle.wal.proofs.TableFields.{table_length}
use Rattle.wal.proofs.Headers.{start_small, header_dropped, header_room, start_again, no_start, Header, header_taken}
use Rattle.log_laws.proofs.Histories.{size_of_log}
use Rattle.page.specs.Image.{FitsSlot}
use Rattle.page.specs.declared.profile.TheConstants.{VALUE_BYTES}
use Rattle.wal.specs.declared.sizes.TheConstants.{LARGEST_BODY}

bind_ok : {A B : Type 0} (r : Result A Fault) (f : A → Result B Fault) (y : B) → (r >>= f) ≡ Ok y → (x : A) × (r ≡ Ok x) × (f x ≡ Ok y)
bind_ok (Ok x) f y e = (x, refl, e)
bind_ok (Err d) f y e = absurd cc

abbrev pub done : {A : Type 0} → A → Result A Fault
done x = Ok x

pub ok_is : {A : Type 0} (x y : A) → done x ≡ done y → x ≡ y
ok_is x y e = cc

-- ---- one frame

-- a frame that was found is the encoding of its record, followed by the rest
pub found_frame : (lsn : ℕ) (bytes : List ℕ) (r : LogRecord) (size : ℕ) → AreBytes bytes → Found lsn bytes r size → (bytes ≡ frame r lsn ++ drop size bytes) × Fits r × (lsn < 2 ^ 64)
found_frame lsn bytes r size fits found =
    let inner = body_takes (body_of bytes) r lsn (AreBytes-take (length_of bytes) (drop 4 bytes) (AreBytes-drop 4 bytes fits)) found.spelled in
    let rest : length (drop 4 bytes) ≡ length bytes - 4 = length-drop 4 bytes in
    let len : length (body r lsn) ≡ length_of bytes = ap length (sym inner.0) ∙ omega (arith, length-take (length_of bytes) (drop 4 bytes), found.whole, rest) in
    let front : to_be_bytes w32 (length_of bytes) ≡ take 4 bytes = wide32.back (take 4 bytes) (omega (arith, length-take 4 bytes, found.whole)) (AreBytes-take 4 bytes fits) in
    let spelled : frame r lsn ≡ take 4 bytes ++ body_of bytes = ap₂ (λ (a b : List ℕ). a ++ b) (ap (to_be_bytes w32) len ∙ front) (sym inner.0) in
    let back : drop (length_of bytes) (drop 4 bytes) ≡ drop size bytes = drop-drop (length_of bytes) 4 bytes ∙ ap (λ n. drop n bytes) (sym found.size_is) in
    let parts : bytes ≡ take 4 bytes ++ (body_of bytes ++ drop size bytes) =
    sym (take-append-drop 4 bytes) ∙ ap (λ (x : List ℕ). take 4 bytes ++ x) (sym (take-append-drop (length_of bytes) (drop 4 bytes)) ∙ ap (λ (x : List ℕ). body_of bytes ++ x) back) in
    (parts ∙ sym (append_assoc (take 4 bytes) (body_of bytes) (drop size bytes)) ∙ ap (λ (x : List ℕ). x ++ drop size bytes) (sym spelled), inner.1, inner.2)

image_size : (i : Option (List ℕ)) → FitsSlot i → length (image i) ≤ 1 + VALUE_BYTES
image_size None h = omega arith
image_size (Some o) h = omega (arith, h)

pub entry_length : (e : TableEntry) → length (entry e) ≡ 21
entry_length e = by_state e.state
  where
    by_state : (s : State) → length (to_be_bytes w32 e.tx ++ (state s ++ (to_be_bytes w64 e.last ++ to_be_bytes w64 e.undo_next))) ≡ 21
    by_state Active = refl
    by_state Aborting = refl
    by_state Prepared = refl

-- how long a body is
pub body_size : (r : LogRecord) (lsn : ℕ) → Fits r → (9 ≤ length (body r lsn)) × (length (body r lsn) ≤ LARGEST_BODY)
body_size (Update u) lsn fits =
    let a = image_size u.before fits.before in
    let b = image_size u.after fits.after in
    let c = length-append (image u.before) (image u.after) in
    (omega (arith, a, b, c), omega (arith, a, b, c))
body_size (Compensation u) lsn fits =
    let a = image_size u.image fits.image in
    (omega (arith, a), omega (arith, a))
body_size (CheckpointEnd begin transactions dirty) lsn fits =
    let a = table_length entry 21 (λ e. entry_length e) transactions in
    let b = table_length dirty_page 12 (λ d. refl) dirty in
    let c = length-append (table entry transactions) (table dirty_page dirty) in
    let d = fits.transactions_fit.few in
    let e = fits.dirty_fit.few in
    (omega (arith, a, b, c, d, e), omega (arith, a, b, c, d, e))
body_size r lsn fits = (omega arith, omega arith)

-- a frame at the front is read
pub frame_length : (r : LogRecord) (lsn : ℕ) (rest : List ℕ) → Fits r → length_of (frame r lsn ++ rest) ≡ length (body r lsn)
frame_length r lsn rest fits =
    ap length_of (append_assoc (to_be_bytes w32 (length (body r lsn))) (body r lsn) rest)
    ∙ ap (from_be_bytes w32) (take_at (to_be_bytes w32 (length (body r lsn))) (body r lsn ++ rest) 4 refl)
    ∙ wide32.again (length (body r lsn)) (omega (arith, (body_size r lsn fits).1))

frame_body : (r : LogRecord) (lsn : ℕ) (rest : List ℕ) → drop 4 (frame r lsn ++ rest) ≡ body r lsn ++ rest
frame_body r lsn rest = ap (drop 4) (append_assoc (to_be_bytes w32 (length (body r lsn))) (body r lsn) rest) ∙ drop_at (to_be_bytes w32 (length (body r lsn))) (body r lsn ++ rest) 4 refl

pub right_body : (r : LogRecord) (lsn : ℕ) (rest : List ℕ) → Fits r → body_of (frame r lsn ++ rest) ≡ body r lsn
right_body r lsn rest fits =
    ap₂ (λ (n : ℕ) (x : List ℕ). take n x) (frame_length r lsn rest fits) (frame_body r lsn rest) ∙ take_at (body r lsn) rest (length (body r lsn)) refl

frame_spells : (r : LogRecord) (lsn : ℕ) (rest : List ℕ) → Fits r → lsn < 2 ^ 64 → frame_at (frame r lsn ++ rest) ≡ Some (r, lsn)
frame_spells r lsn rest fits lt =
    ap body_at (right_body r lsn rest fits) ∙ body_again r lsn fits lt

pub frame_rest : (r : LogRecord) (lsn : ℕ) (rest : List ℕ) → drop (4 + length (body r lsn)) (frame r lsn ++ rest) ≡ rest
frame_rest r lsn rest = drop_at (frame r lsn) rest (4 + length (body r lsn)) (omega (arith, length-append (to_be_bytes w32 (length (body r lsn))) (body r lsn)))

pub frame_next : (r : LogRecord) (lsn offset : ℕ) (rest : List ℕ) → Fits r → lsn < 2 ^ 64 → next_at lsn offset (frame r lsn ++ rest) ≡ Ok (Some (r, 4 + length (body r lsn)))
unfolding next_at
frame_next r lsn offset rest fits lt =
    let bytes = frame r lsn ++ rest in
    let size = body_size r lsn fits in
    let n : length_of bytes ≡ length (body r lsn) = frame_length r lsn rest fits in
    let all : length bytes ≡ 4 + length (body r lsn) + length rest = length-append (frame r lsn) rest ∙ omega (arith, length-append (to_be_bytes w32 (length (body r lsn))) (body r lsn)) in
    let a : ltb (length bytes) 4 ≡ false = le-ltb _ _ (omega (arith, all)) in
    let b : ltb (length_of bytes) 9 ≡ false = le-ltb _ _ (omega (arith, n, size.0)) in
    let c : ltb LARGEST_BODY (length_of bytes) ≡ false = le-ltb _ _ (omega (arith, n, size.1)) in
    let d : ltb (length bytes) (4 + length_of bytes) ≡ false = le-ltb _ _ (omega (arith, n, all)) in
    let e : frame_if_right lsn offset (4 + length_of bytes) (frame_at bytes) ≡ Ok (Some (r, 4 + length (body r lsn))) =
    ap₂ (λ k f. frame_if_right lsn offset (4 + k) f) n (frame_spells r lsn rest fits lt) ∙ rw (eq-eqb lsn lsn refl) refl in
    rw (a, b, c, d) e

-- ---- the end

pub none_torn : (lsn offset : ℕ) (bytes : List ℕ) → next_at lsn offset bytes ≡ Ok None → IsTorn bytes
unfolding next_at
none_torn lsn offset bytes e =
    elim (chosen (ltb (length bytes) 4) _ _ _ e) [
      | inl p ↦ inl (ltb-true _ _ p.0)
      | inr p ↦
          elim (chosen (ltb (length_of bytes) 9 || ltb LARGEST_BODY (length_of bytes)) _ _ _ p.1) [
            | inl q ↦ absurd cc
            | inr q ↦
                elim (chosen (ltb (length bytes) (4 + length_of bytes)) _ _ _ q.1) [
                  | inl w ↦
                      (let bounds = or_parts (ltb (length_of bytes) 9) (ltb LARGEST_BODY (length_of bytes)) q.0 in
                      inr (ltb-false _ _ p.0, ltb-false _ _ bounds.0, ltb-false _ _ bounds.1, ltb-true _ _ w.0))
                  | inr w ↦ absurd (never_none lsn offset (4 + length_of bytes) (frame_at bytes) w.1)
                ]
          ]
    ]
  where
    never_none : (lsn offset size : ℕ) (f : Option (LogRecord × ℕ)) → frame_if_right lsn offset size f ≡ Ok None → ⊥
    never_none lsn offset size None e = cc
    never_none lsn offset size (Some x) e = elim (chosen (eqb x.1 lsn) _ _ _ e) [ inl p ↦ absurd cc | inr p ↦ absurd cc ]

pub torn_none : (lsn offset : ℕ) (bytes : List ℕ) → IsTorn bytes → next_at lsn offset bytes ≡ Ok None
unfolding next_at
torn_none lsn offset bytes (inl h) = rw (lt-ltb _ _ h) refl
torn_none lsn offset bytes (inr h) = rw (le-ltb _ _ h.0, le-ltb _ _ h.1, le-ltb _ _ h.2, lt-ltb _ _ h.3) refl

-- ---- all frames

pub record Spelled (lsn : ℕ) (bytes : List ℕ) (records : List LogRecord) (torn : ℕ) : Type 0 where
  pub tail : List ℕ
  pub text : bytes ≡ spellings lsn records ++ tail
  pub torn_tail : IsTorn tail
  pub torn_count : length tail ≡ torn
  pub each : AllByRecursion Fits records
  pub few : length records ≤ length bytes

by_next : (limit lsn offset : ℕ) (bytes : List ℕ) (x : List LogRecord × ℕ) → AreBytes bytes → length bytes ≤ suc limit
    → ((size : ℕ) (z : List LogRecord × ℕ) → length (drop size bytes) ≤ limit → frames_at limit (lsn + 1) (offset + size) (drop size bytes) ≡ Ok z → Spelled (lsn + 1) (drop size bytes) z.0 z.1)
    → (o : Option (LogRecord × ℕ)) → next_at lsn offset bytes ≡ Ok o → frame_then bytes (λ size. frames_at limit (lsn + 1) (offset + size) (drop size bytes)) o ≡ Ok x → Spelled lsn bytes x.0 x.1
by_next limit lsn offset bytes x fits short others_take None n e =
    subst (λ (y : List LogRecord × ℕ). Spelled lsn bytes y.0 y.1) (ok_is ([], length bytes) x e) (record { tail = bytes; text = refl; torn_tail = none_torn lsn offset bytes n; torn_count = refl; each = tt; few = omega arith })
by_next limit lsn offset bytes x fits short others_take (Some y) n e =
    let found = next_is lsn offset bytes y.0 y.1 n in
    let one = found_frame lsn bytes y.0 y.1 fits found in
    let b = bind_ok (frames_at limit (lsn + 1) (offset + y.1) (drop y.1 bytes)) (λ z. Ok (y.0 ∷ z.0, z.1)) x e in
    let less : length (drop y.1 bytes) + 13 ≤ length bytes = omega (arith, length-drop y.1 bytes, found.size_is, found.whole, found.low) in
    let others = others_take y.1 b.0 (omega (arith, less, short)) b.1 in
    let text : bytes ≡ spellings lsn (y.0 ∷ b.0.0) ++ others.tail = one.0 ∙ ap (λ (t : List ℕ). frame y.0 lsn ++ t) others.text ∙ sym (append_assoc (frame y.0 lsn) (spellings (lsn + 1) b.0.0) others.tail) in
    subst (λ (w : List LogRecord × ℕ). Spelled lsn bytes w.0 w.1) (ok_is (y.0 ∷ b.0.0, b.0.1) x b.2)
    (record { tail = others.tail; text = text; torn_tail = others.torn_tail; torn_count = others.torn_count; each = (one.1, others.each); few = omega (arith, less, others.few) })

pub frames_take : (limit lsn offset : ℕ) (bytes : List ℕ) (x : List LogRecord × ℕ) → AreBytes bytes → length bytes ≤ limit → frames_at limit lsn offset bytes ≡ Ok x → Spelled lsn bytes x.0 x.1
unfolding frames_at
frames_take zero lsn offset bytes x fits short e =
    subst (λ (y : List LogRecord × ℕ). Spelled lsn bytes y.0 y.1) (ok_is ([], length bytes) x e) (record { tail = bytes; text = refl; torn_tail = inl (omega (arith, short)); torn_count = refl; each = tt; few = omega arith })
frames_take (suc limit) lsn offset bytes x fits short e =
    let a = bind_ok (next_at lsn offset bytes) (frame_then bytes (λ size. frames_at limit (lsn + 1) (offset + size) (drop size bytes))) x e in
    by_next limit lsn offset bytes x fits short (λ size z le f. frames_take limit (lsn + 1) (offset + size) (drop size bytes) z (AreBytes-drop size bytes fits) le f) a.0 a.1 a.2

one_more : (r : LogRecord) (rs : List LogRecord) (read : Result (List LogRecord × ℕ) Fault) → (with_front rs read >>= λ z. Ok (r ∷ z.0, z.1)) ≡ with_front (r ∷ rs) read
one_more r rs (Ok x) = refl
one_more r rs (Err e) = refl

-- whole frames at the front are read, and then what is read after them
pub frames_on : (limit lsn offset : ℕ) (records : List LogRecord) (rest : List ℕ) → length records ≤ limit → AllByRecursion Fits records → lsn + length records ≤ 2 ^ 64
    → frames_at limit lsn offset (spellings lsn records ++ rest) ≡ with_front records (frames_at (limit - length records) (lsn + length records) (offset + length (spellings lsn records)) rest)
unfolding frames_at
frames_on limit lsn offset [] rest le each few =
    let a : limit ≡ limit - 0 = omega arith in
    let b : lsn ≡ lsn + 0 = omega arith in
    let c : offset ≡ offset + 0 = omega arith in
    sym (nothing_in_front (frames_at limit lsn offset rest))
    ∙ ap (λ k. with_front [] (frames_at k lsn offset rest)) a
    ∙ ap (λ n. with_front [] (frames_at (limit - 0) n offset rest)) b
    ∙ ap (λ o. with_front [] (frames_at (limit - 0) (lsn + 0) o rest)) c
frames_on zero lsn offset (r ∷ rs) rest le each few = absurd (omega (arith, le))
frames_on (suc limit) lsn offset (r ∷ rs) rest le each few =
    let behind = spellings (lsn + 1) rs ++ rest in
    let size = 4 + length (body r lsn) in
    let last = lsn + 1 + length rs in
    let end = offset + size + length (spellings (lsn + 1) rs) in
    let others : frames_at limit (lsn + 1) (offset + size) (drop size (frame r lsn ++ behind)) ≡ with_front rs (frames_at (limit - length rs) last end rest) =
    ap (frames_at limit (lsn + 1) (offset + size)) (frame_rest r lsn behind) ∙ frames_on limit (lsn + 1) (offset + size) rs rest (omega (arith, le)) each.1 (omega (arith, few)) in
    let a : limit - length rs ≡ suc limit - length (r ∷ rs) = omega arith in
    let b : last ≡ lsn + length (r ∷ rs) = omega arith in
    let c : end ≡ offset + length (spellings lsn (r ∷ rs)) = omega (arith, length-append (frame r lsn) (spellings (lsn + 1) rs), length-append (to_be_bytes w32 (length (body r lsn))) (body r lsn)) in
    ap (frames_at (suc limit) lsn offset) (append_assoc (frame r lsn) (spellings (lsn + 1) rs) rest)
    ∙ ap (λ n. n >>= frame_then (frame r lsn ++ behind) (λ k. frames_at limit (lsn + 1) (offset + k) (drop k (frame r lsn ++ behind)))) (frame_next r lsn offset behind each.0 (omega (arith, few)))
    ∙ ap (λ n. n >>= λ z. Ok (r ∷ z.0, z.1)) others
    ∙ one_more r rs (frames_at (limit - length rs) last end rest)
    ∙ ap (λ k. with_front (r ∷ rs) (frames_at k last end rest)) a
    ∙ ap (λ n. with_front (r ∷ rs) (frames_at (suc limit - length (r ∷ rs)) n end rest)) b
    ∙ ap (λ o. with_front (r ∷ rs) (frames_at (suc limit - length (r ∷ rs)) (lsn + length (r ∷ rs)) o rest)) c

-- ---- the log

spellings_long : (lsn : ℕ) (records : List LogRecord) → length records ≤ length (spellings lsn records)
spellings_long lsn [] = omega arith
spellings_long lsn (r ∷ rs) = omega (arith, spellings_long (lsn + 1) rs, length-append (frame r lsn) (spellings (lsn + 1) rs), length-append (to_be_bytes w32 (length (body r lsn))) (body r lsn))

-- frames that were read, as a log
records_read : (begins : LogStart) (bytes : List ℕ) (header : Header bytes begins) (read : List LogRecord × ℕ) → AreBytes bytes → length bytes < 2 ^ 63 → frames_behind begins bytes ≡ Ok read
    → Reads bytes (as_log begins read).0 read.1
records_read begins bytes header read fits short e =
    let behind = drop (header_bytes begins) bytes in
    let first = lsn_before begins + 1 in
    let all = frames_take (length bytes) first (header_bytes begins) behind read (AreBytes-drop (header_bytes begins) bytes fits) (omega (arith, length-drop (header_bytes begins) bytes)) e in
    let log = (as_log begins read).0 in
    record {
      tail = all.tail;
      text = header.front ∙ ap (λ (t : List ℕ). header_of begins ++ t) all.text ∙ sym (append_assoc (header_of begins) (spellings first read.0) all.tail);
      torn_tail = all.torn_tail;
      torn_count = all.torn_count;
      starts = header.fits;
      each = all.each;
      few = omega (arith, all.few, length-drop (header_bytes begins) bytes, short, size_of_log log, start_small begins header.fits);
    }

pub log_takes : (bytes : List ℕ) (x : LogContent × ℕ) → AreBytes bytes → length bytes < 2 ^ 63 → log_at bytes ≡ Ok x → Reads bytes x.0 x.1
unfolding log_at
log_takes bytes x fits short e = by (start_at bytes) refl e
  where
    by : (o : Option LogStart) → start_at bytes ≡ o → log_from bytes o ≡ Ok x → Reads bytes x.0 x.1
    by None is h = absurd cc
    by (Some begins) is h =
        let read = bind_ok (frames_behind begins bytes) (λ y. Ok (as_log begins y)) x h in
        subst (λ (y : LogContent × ℕ). Reads bytes y.0 y.1) (ok_is (as_log begins read.0) x read.2) (records_read begins bytes (header_taken bytes begins fits is) read.0 fits short read.1)

-- a header, frames, and what follows them
pub record Begins (text : List ℕ) (begins : LogStart) (records : List LogRecord) (tail : List ℕ) : Type 0 where
  pub starts : FitsStart begins
  pub text_is : text ≡ header_of begins ++ (spellings (lsn_before begins + 1) records ++ tail)
  pub each : AllByRecursion Fits records
  pub few : lsn_before begins + 1 + length records ≤ 2 ^ 64

-- the LSN and the offset of a frame after them
abbrev pub lsn_behind : LogStart → List LogRecord → ℕ
lsn_behind begins records = lsn_before begins + 1 + length records

abbrev pub offset_behind : LogStart → List LogRecord → ℕ
offset_behind begins records = header_bytes begins + length (spellings (lsn_before begins + 1) records)

fewer : (text : List ℕ) (begins : LogStart) (records : List LogRecord) (tail : List ℕ) → Begins text begins records tail → length records < length text
fewer text begins records tail b =
    let first = lsn_before begins + 1 in
    omega (arith, spellings_long first records, header_room begins text (spellings first records ++ tail) b.text_is, some_header begins, length-append (spellings first records) tail)
  where
    some_header : (start : LogStart) → 0 < header_bytes start
    some_header Version1 = omega arith
    some_header (Version2 base) = omega arith

read_behind : (text : List ℕ) (begins : LogStart) (records : List LogRecord) (tail : List ℕ) → Begins text begins records tail
    → with_front records (frames_at (length text - length records) (lsn_behind begins records) (offset_behind begins records) tail) ≡ frames_behind begins text
read_behind text begins records tail b =
    let first = lsn_before begins + 1 in
    let front = header_bytes begins in
    let rest : drop front text ≡ spellings first records ++ tail = ap (drop front) b.text_is ∙ header_dropped begins (spellings first records ++ tail) in
    sym (ap (frames_at (length text) first front) rest ∙ frames_on (length text) first front records tail (omega (arith, fewer text begins records tail b)) b.each b.few)

log_begun : (text : List ℕ) (begins : LogStart) (records : List LogRecord) (tail : List ℕ) → Begins text begins records tail → log_at text ≡ (frames_behind begins text >>= λ y. Ok (as_log begins y))
unfolding log_at
log_begun text begins records tail b = ap (log_from text) (ap start_at b.text_is ∙ start_again begins (spellings (lsn_before begins + 1) records ++ tail) b.starts)

-- the log ends if at most a torn tail follows
pub log_ends : (text : List ℕ) (begins : LogStart) (records : List LogRecord) (tail : List ℕ) → Begins text begins records tail → next_at (lsn_behind begins records) (offset_behind begins records) tail ≡ Ok None
    → log_at text ≡ Ok (record { begins = begins; records = records }, length tail)
log_ends text begins records tail b none =
    log_begun text begins records tail b
    ∙ ap (λ read. read >>= λ y. Ok (as_log begins y))
    (ends records (length text) (length records) (lsn_behind begins records) (offset_behind begins records) tail (frames_behind begins text) (fewer text begins records tail b) none (read_behind text begins records tail b))

-- what is wrong after whole frames is what is wrong with the log
pub log_fails : (text : List ℕ) (begins : LogStart) (records : List LogRecord) (tail : List ℕ) (e : Fault) → Begins text begins records tail → Fails e (next_at (lsn_behind begins records) (offset_behind begins records) tail)
    → Fails e (log_at text)
log_fails text begins records tail e b wrong =
    fails_read e begins (frames_behind begins text) (log_at text) (log_begun text begins records tail b)
    (fails e records (length text) (length records) (lsn_behind begins records) (offset_behind begins records) tail (frames_behind begins text) (fewer text begins records tail b) wrong (read_behind text begins records tail b))
  where
    fails_read : (e : Fault) (begins : LogStart) (read : Result (List LogRecord × ℕ) Fault) (log : Result (LogContent × ℕ) Fault) → log ≡ (read >>= λ y. Ok (as_log begins y)) → Fails e read → Fails e log
    fails_read NoResource begins read log is h = tt
    fails_read e begins read log is h = is ∙ ap (λ r. r >>= λ y. Ok (as_log begins y)) h

pub log_again : (bytes : List ℕ) (log : LogContent) (torn : ℕ) → Reads bytes log torn → log_at bytes ≡ Ok (log, torn)
log_again bytes log torn reads =
    let first = lsn_before log.begins + 1 in
    log_ends bytes log.begins log.records reads.tail (record {
      starts = reads.starts;
      text_is = reads.text ∙ append_assoc (header_of log.begins) (spellings first log.records) reads.tail;
      each = reads.each;
      few = omega (arith, reads.few, size_of_log log);
    }) (torn_none (lsn_behind log.begins log.records) (offset_behind log.begins log.records) reads.tail reads.torn_tail)
    ∙ ap (λ n. Ok (log, n)) reads.torn_count

pub one_reading : OneReading
one_reading bytes first second t u a b =
    let e : ◌≡◌ {A = LogContent × ℕ} (first, t) (second, u) = ok_is (first, t) (second, u) (sym (log_again bytes first t a) ∙ log_again bytes second u b) in
    (ap (λ x. x.0) e, ap (λ x. x.1) e)

pub is_found : {X : Type 0} (view : X → LogContent × ℕ) (bytes : List ℕ) (r : Result X Fault) → AreBytes bytes → length bytes < 2 ^ 63 → Gives view r (log_at bytes) → IfOk r (λ x. Reads bytes (view x).0 (view x).1)
is_found view bytes (Ok x) fits short given = log_takes bytes (view x) fits short given
is_found view bytes (Err e) fits short given = tt

-- ---- faults

err_is : {B : Type 0} (d e : Fault) → ◌≡◌ {A = Result B Fault} (Err d) (Err e) → d ≡ e
err_is d e h = cc

bind_err : {A B : Type 0} (r : Result A Fault) (f : A → Result B Fault) (e : Fault) → (r >>= f) ≡ Err e → (r ≡ Err e) ⊎ ((x : A) × (r ≡ Ok x) × (f x ≡ Err e))
bind_err (Ok x) f e h = inr (x, refl, h)
bind_err {B = B} (Err d) f e h = inl (ap (λ (k : Fault). Err k) (err_is {B = B} d e h))

none_some : (x : LogRecord × ℕ) → ◌≡◌ {A = Option (LogRecord × ℕ)} None (Some x) → ⊥
none_some x p = cc

judged_fault : (lsn offset : ℕ) (bytes : List ℕ) (e : Fault) → AreBytes bytes → IsWhole bytes → (f : Option (LogRecord × ℕ)) → frame_at bytes ≡ f → frame_if_right lsn offset (4 + length_of bytes) f ≡ Err e → HasFault e lsn offset bytes
judged_fault lsn offset bytes e fits whole None is h =
    subst (λ d. HasFault d lsn offset bytes) (err_is {B = Option (LogRecord × ℕ)} (BadRecord offset) e h)
    (refl, whole, λ r n fit lt same. none_some (r, n) (sym is ∙ ap body_at same ∙ body_again r n fit lt))
judged_fault lsn offset bytes e fits whole (Some x) is h =
    elim (chosen (eqb x.1 lsn) _ _ _ h) [
      | inl p ↦ absurd cc
      | inr p ↦
          (let inner = body_takes (body_of bytes) x.0 x.1 (AreBytes-take (length_of bytes) (drop 4 bytes) (AreBytes-drop 4 bytes fits)) is in
          subst (λ d. HasFault d lsn offset bytes) (err_is {B = Option (LogRecord × ℕ)} (BadLsn offset) e p.1) (refl, whole, x.0, x.1, inner.1, inner.2, inner.0, eqb-false _ _ p.0))
    ]

pub next_fault : (lsn offset : ℕ) (bytes : List ℕ) (e : Fault) → AreBytes bytes → next_at lsn offset bytes ≡ Err e → HasFault e lsn offset bytes
unfolding next_at
next_fault lsn offset bytes e fits h =
    elim (chosen (ltb (length bytes) 4) _ _ _ h) [
      | inl p ↦ absurd cc
      | inr p ↦
          elim (chosen (ltb (length_of bytes) 9 || ltb LARGEST_BODY (length_of bytes)) _ _ _ p.1) [
            | inl q ↦
                (let bad : (length_of bytes < 9) ⊎ (LARGEST_BODY < length_of bytes) = elim (or_cases (ltb (length_of bytes) 9) (ltb LARGEST_BODY (length_of bytes)) q.0) [ inl a ↦ inl (ltb-true _ _ a) | inr b ↦ inr (ltb-true _ _ b) ] in
                subst (λ d. HasFault d lsn offset bytes) (err_is {B = Option (LogRecord × ℕ)} (BadLength offset) e q.1) (refl, ltb-false _ _ p.0, bad))
            | inr q ↦
                elim (chosen (ltb (length bytes) (4 + length_of bytes)) _ _ _ q.1) [
                  | inl w ↦ absurd cc
                  | inr w ↦
                      (let bounds = or_parts (ltb (length_of bytes) 9) (ltb LARGEST_BODY (length_of bytes)) q.0 in
                      judged_fault lsn offset bytes e fits (ltb-false _ _ bounds.0, ltb-false _ _ bounds.1, ltb-false _ _ w.0) (frame_at bytes) refl w.1)
                ]
          ]
    ]

fault_next : (limit lsn offset : ℕ) (bytes : List ℕ) (e : Fault) → AreBytes bytes → lsn + length bytes < 2 ^ 64
    → ((size : ℕ) → lsn + 1 + length (drop size bytes) < 2 ^ 64 → frames_at limit (lsn + 1) (offset + size) (drop size bytes) ≡ Err e → FaultBehind (lsn + 1) (offset + size) (drop size bytes) e)
    → (o : Option (LogRecord × ℕ)) → next_at lsn offset bytes ≡ Ok o → frame_then bytes (λ size. frames_at limit (lsn + 1) (offset + size) (drop size bytes)) o ≡ Err e → FaultBehind lsn offset bytes e
fault_next limit lsn offset bytes e fits room others None n h = absurd cc
fault_next limit lsn offset bytes e fits room others (Some y) n h =
    let found = next_is lsn offset bytes y.0 y.1 n in
    let one = found_frame lsn bytes y.0 y.1 fits found in
    elim (bind_err (frames_at limit (lsn + 1) (offset + y.1) (drop y.1 bytes)) (λ z. Ok (y.0 ∷ z.0, z.1)) e h) [
      | inr p ↦ absurd cc
      | inl p ↦
          (let behind = others y.1 (omega (arith, room, length-drop y.1 bytes, found.size_is, found.whole)) p in
          let size : y.1 ≡ length (frame y.0 lsn) = omega (arith, ap length one.0, length-append (frame y.0 lsn) (drop y.1 bytes), length-drop y.1 bytes, found.size_is, found.whole) in
          let place : (offset + y.1) + length (spellings (lsn + 1) behind.records) ≡ offset + length (spellings lsn (y.0 ∷ behind.records)) = omega (arith, size, length-append (frame y.0 lsn) (spellings (lsn + 1) behind.records)) in
          let number : lsn + 1 + length behind.records ≡ lsn + length (y.0 ∷ behind.records) = omega arith in
          record {
            records = y.0 ∷ behind.records;
            rest = behind.rest;
            text = one.0 ∙ ap (λ (t : List ℕ). frame y.0 lsn ++ t) behind.text ∙ sym (append_assoc (frame y.0 lsn) (spellings (lsn + 1) behind.records) behind.rest);
            each = (one.1, behind.each);
            few = omega (arith, number, behind.few);
            fault = subst (λ k. HasFault e k (offset + length (spellings lsn (y.0 ∷ behind.records))) behind.rest) number (subst (λ k. HasFault e (lsn + 1 + length behind.records) k behind.rest) place behind.fault);
          })
    ]

frames_fault : (limit lsn offset : ℕ) (bytes : List ℕ) (e : Fault) → AreBytes bytes → lsn + length bytes < 2 ^ 64 → frames_at limit lsn offset bytes ≡ Err e → FaultBehind lsn offset bytes e
unfolding frames_at
frames_fault zero lsn offset bytes e fits room h = absurd cc
frames_fault (suc limit) lsn offset bytes e fits room h =
    elim (bind_err (next_at lsn offset bytes) (frame_then bytes (λ size. frames_at limit (lsn + 1) (offset + size) (drop size bytes))) e h) [
      | inl p ↦ (let here = next_fault lsn offset bytes e fits p in
          record { records = []; rest = bytes; text = refl; each = tt; few = omega (arith, room); fault = subst (λ n. HasFault e n (offset + 0) bytes) (omega arith) (subst (λ o. HasFault e lsn o bytes) (omega arith) here) })
      | inr p ↦ fault_next limit lsn offset bytes e fits room (λ size more f. frames_fault limit (lsn + 1) (offset + size) (drop size bytes) e (AreBytes-drop size bytes fits) more f) p.0 p.1 p.2
    ]

log_fault : (bytes : List ℕ) (e : Fault) → AreBytes bytes → length bytes < 2 ^ 63 → log_at bytes ≡ Err e → HasFaultBehind bytes e ⊎ ((start_at bytes ≡ None) × (BadLogHeader ≡ e))
unfolding log_at
log_fault bytes e fits short h = by (start_at bytes) refl h
  where
    by : (o : Option LogStart) → start_at bytes ≡ o → log_from bytes o ≡ Err e → HasFaultBehind bytes e ⊎ ((start_at bytes ≡ None) × (BadLogHeader ≡ e))
    by None is f = inr (is, err_is {B = LogContent × ℕ} BadLogHeader e f)
    by (Some begins) is f =
        let header = header_taken bytes begins fits is in
        let front = header_bytes begins in
        let room : lsn_before begins + 1 + length (drop front bytes) < 2 ^ 64 = omega (arith, short, start_small begins header.fits, header_room begins bytes (drop front bytes) header.front) in
        elim (bind_err (frames_behind begins bytes) (λ y. Ok (as_log begins y)) e f) [
          | inl q ↦
              inl (record {
                begins = begins;
                starts = header.fits;
                front = header.front;
                behind = frames_fault (length bytes) (lsn_before begins + 1) front (drop front bytes) e (AreBytes-drop front bytes fits) room q;
              })
          | inr q ↦ absurd cc
        ]

cause : (bytes : List ℕ) (e : Fault) → AreBytes bytes → length bytes < 2 ^ 63 → Fails e (log_at bytes) → Cause bytes e
cause bytes NoResource fits short h = tt
cause bytes BadLogHeader fits short h = elim (log_fault bytes BadLogHeader fits short h) [ inl p ↦ absurd p.behind.fault | inr p ↦ no_start bytes p.0 ]
cause bytes e fits short h = elim (log_fault bytes e fits short h) [ inl p ↦ p | inr p ↦ absurd cc ]

pub is_cause : {X : Type 0} (view : X → LogContent × ℕ) (bytes : List ℕ) (r : Result X Fault) → AreBytes bytes → length bytes < 2 ^ 63 → Gives view r (log_at bytes) → IfErr r (λ e. Cause bytes e)
is_cause view bytes (Ok x) fits short given = tt
is_cause view bytes (Err e) fits short given = cause bytes e fits short given
