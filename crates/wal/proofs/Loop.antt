-- Reading frames one after the other, as a loop does.
use Rattle.std.proofs.Common.{◌≡◌, ℕ, suc, ◌-◌, ◌+◌, ◌≤◌, ◌<◌, ◌⊎◌, inl, inr, Bool, true, false, ◌||◌, cond, eqb, ltb, List, [], ◌++◌, length, drop, Option, Some, None, Result, Ok, Err, refl, sym, ap, ap₂, ◌∙◌, arith, eqb-true}
use Rattle.std.specs.Prelude.{is_some, option_map, unwrap_or}
use Rattle.std.proofs.lemmas.Bool.{ltb-false, or_parts}
use Rattle.std.proofs.lemmas.List.{append-nil}
use Rattle.page.specs.declared.fault.Fault.{Fault}
use Rattle.page.specs.declared.fault.Fault.TheVariants.{NoResource, BadLsn}
use Rattle.log_laws.specs.Records.{LogRecord, CheckpointBegin}
use Rattle.wal.specs.Frames.{length_of, frame_at, frame_if_right, next_at, frames_at, ◌>>=◌, record_of, Fails}
use Rattle.wal.specs.declared.sizes.TheConstants.{LARGEST_BODY}

pub chosen : {A : Type 0} (b : Bool) (x y z : A) → cond b x y ≡ z → ((b ≡ true) × (x ≡ z)) ⊎ ((b ≡ false) × (y ≡ z))
chosen true x y z e = inl (refl, e)
chosen false x y z e = inr (refl, e)

-- what is in an option that is not empty
pub unwrapped : {A B : Type 0} (other : A) (o : Option (A × B)) → is_some o ≡ true → ◌≡◌ {A = Option A} (Some (unwrap_or (option_map (λ x. x.0) o) other)) (option_map (λ x. x.0) o)
unwrapped other None e = absurd cc
unwrapped other (Some x) e = refl

-- a whole frame with the right LSN is at the front
pub record Found (lsn : ℕ) (bytes : List ℕ) (r : LogRecord) (size : ℕ) : Type 0 where
  pub size_is : size ≡ 4 + length_of bytes
  pub whole : 4 + length_of bytes ≤ length bytes
  pub low : 9 ≤ length_of bytes
  pub high : length_of bytes ≤ LARGEST_BODY
  pub spelled : frame_at bytes ≡ Some (r, lsn)

judged_is : (lsn offset size : ℕ) (f : Option (LogRecord × ℕ)) (x : LogRecord × ℕ) → frame_if_right lsn offset size f ≡ Ok (Some x) → (f ≡ Some (x.0, lsn)) × (x.1 ≡ size)
judged_is lsn offset size None x e = absurd cc
judged_is lsn offset size (Some y) x e =
    elim (chosen (eqb y.1 lsn) (Ok (Some (y.0, size))) (Err (BadLsn offset)) (Ok (Some x)) e) [
      | inl p ↦
          (let q : ◌≡◌ {A = LogRecord × ℕ} (y.0, size) x = cc in
          (ap₂ (λ a b. Some (a, b)) (ap (λ w. w.0) q) (eqb-true y.1 lsn p.0), sym (ap (λ w. w.1) q)))
      | inr p ↦ absurd cc
    ]

pub next_is : (lsn offset : ℕ) (bytes : List ℕ) (r : LogRecord) (size : ℕ) → next_at lsn offset bytes ≡ Ok (Some (r, size)) → Found lsn bytes r size
unfolding next_at
next_is lsn offset bytes r size e =
    elim (chosen (ltb (length bytes) 4) _ _ _ e) [
      | inl p ↦ absurd cc
      | inr p ↦
          elim (chosen (ltb (length_of bytes) 9 || ltb LARGEST_BODY (length_of bytes)) _ _ _ p.1) [
            | inl q ↦ absurd cc
            | inr q ↦
                elim (chosen (ltb (length bytes) (4 + length_of bytes)) _ _ _ q.1) [
                  | inl w ↦ absurd cc
                  | inr w ↦
                      (let bounds = or_parts (ltb (length_of bytes) 9) (ltb LARGEST_BODY (length_of bytes)) q.0 in
                      let found = judged_is lsn offset (4 + length_of bytes) (frame_at bytes) (r, size) w.1 in
                      record {
                        size_is = found.1;
                        whole = ltb-false _ _ w.0;
                        low = ltb-false _ _ bounds.0;
                        high = ltb-false _ _ bounds.1;
                        spelled = found.0;
                      })
                ]
          ]
    ]

-- what was read before, and what is still read
abbrev pub with_front : List LogRecord → Result (List LogRecord × ℕ) Fault → Result (List LogRecord × ℕ) Fault
with_front front read = read >>= λ x. Ok (front ++ x.0, x.1)

pub fails : (e : Fault) (front : List LogRecord) (limit i lsn offset : ℕ) (bytes : List ℕ) (total : Result (List LogRecord × ℕ) Fault) → i < limit → Fails e (next_at lsn offset bytes)
    → with_front front (frames_at (limit - i) lsn offset bytes) ≡ total → Fails e total
unfolding frames_at
fails NoResource front limit i lsn offset bytes total lt h so_far = tt
fails e front limit i lsn offset bytes total lt h so_far =
    let k : limit - i ≡ suc (limit - (i + 1)) = omega arith in
    let one : with_front front (frames_at (limit - i) lsn offset bytes) ≡ Err e = rw (k, h) refl in
    sym so_far ∙ one

pub ends : (front : List LogRecord) (limit i lsn offset : ℕ) (bytes : List ℕ) (total : Result (List LogRecord × ℕ) Fault) → i < limit → next_at lsn offset bytes ≡ Ok None
    → with_front front (frames_at (limit - i) lsn offset bytes) ≡ total → total ≡ Ok (front, length bytes)
unfolding frames_at
ends front limit i lsn offset bytes total lt h so_far =
    let k : limit - i ≡ suc (limit - (i + 1)) = omega arith in
    let one : with_front front (frames_at (limit - i) lsn offset bytes) ≡ Ok (front, length bytes) = rw (k, h) (ap (λ (rs : List LogRecord). Ok (rs, length bytes)) (append-nil front)) in
    sym so_far ∙ one

pub nothing_in_front : (read : Result (List LogRecord × ℕ) Fault) → with_front [] read ≡ read
nothing_in_front (Ok x) = refl
nothing_in_front (Err e) = refl

pub record_read : (bytes : List ℕ) (offset lsn : ℕ) (r : LogRecord) → frame_at (drop offset bytes) ≡ Some (r, lsn) → record_of bytes offset ≡ r
unfolding record_of
record_read bytes offset lsn r e = ap (λ o. unwrap_or (option_map (λ x. x.0) o) CheckpointBegin) e
