-- A record that is read is seen at a glance.
use Rattle.std.proofs.Common.{◌≡◌, ℕ, Bool, true, false, cond, eqb, eqb-true, List, [], ◌∷◌, length, Option, Some, None, refl, sym, ap, ◌∙◌, rules}
use Rattle.std.specs.Prelude.{option_map, is_some}
use Rattle.std.specs.Int.{w32, w64}
use Rattle.std.proofs.lemmas.Option.{same_Some}
use Rattle.wal.specs.declared.glance.Glance.{Glance}
use Rattle.wal.specs.declared.glance.Glance.TheVariants as seen
use Rattle.log_laws.specs.Records.{PlainRecord, LogRecord, Commit, Abort, End, Prepare, CheckpointBegin}
use Rattle.wal.specs.Reading.{◌>>=◌, number_at, slot_at, image_at, plain_at, transactions_at, dirties_at, update_at, compensation_at, plain_record_at, checkpoint_at, fields_at, body_at}
use Rattle.wal.specs.Frames.{IsBody}
use Rattle.wal.specs.Glances.{glance_of, update_glance, compensation_glance, plain_glance, fields_glance, body_glance}
use Rattle.wal.proofs.Fields.{bind_some, guard_ended}

update_seen : (bytes : List ℕ) (x : LogRecord × List ℕ) → update_at bytes ≡ Some x → update_glance bytes ≡ Some (glance_of x.0)
unfolding update_at update_glance
update_seen bytes x e =
    let a = bind_some (plain_at bytes) _ x e in
    let b = bind_some (number_at w32 a.0.1) _ x a.2 in
    let c = bind_some (slot_at b.0.1) _ x b.2 in
    let d = bind_some (image_at c.0.1) _ x c.2 in
    let f = bind_some (image_at d.0.1) _ x d.2 in
    let is = same_Some _ x f.2 in
    rw (a.1, b.1, c.1) (ap (λ (y : LogRecord × List ℕ). Some (glance_of y.0)) is)

compensation_seen : (bytes : List ℕ) (x : LogRecord × List ℕ) → compensation_at bytes ≡ Some x → compensation_glance bytes ≡ Some (glance_of x.0)
unfolding compensation_at compensation_glance
compensation_seen bytes x e =
    let a = bind_some (plain_at bytes) _ x e in
    let b = bind_some (number_at w32 a.0.1) _ x a.2 in
    let c = bind_some (slot_at b.0.1) _ x b.2 in
    let d = bind_some (number_at w64 c.0.1) _ x c.2 in
    let f = bind_some (image_at d.0.1) _ x d.2 in
    let is = same_Some _ x f.2 in
    rw (a.1, b.1, c.1, d.1) (ap (λ (y : LogRecord × List ℕ). Some (glance_of y.0)) is)

-- a record that holds only its transaction and the previous record
plain_seen : (make : PlainRecord → LogRecord) (see : ℕ → Glance) (bytes : List ℕ) (x : LogRecord × List ℕ) → ((own : PlainRecord) → see own.tx ≡ glance_of (make own))
    → (plain_at bytes >>= λ own. Some (make own.0, own.1)) ≡ Some x → (plain_at bytes >>= λ own. Some (see own.0.tx)) ≡ Some (glance_of x.0)
plain_seen make see bytes x seen e =
    let a = bind_some (plain_at bytes) _ x e in
    let is = same_Some _ x a.2 in
    rw a.1 (ap Some (seen a.0.0) ∙ ap (λ (y : LogRecord × List ℕ). Some (glance_of y.0)) is)

pub checkpoint_seen : (bytes : List ℕ) (x : LogRecord × List ℕ) → checkpoint_at bytes ≡ Some x → Some seen.Checkpoint ≡ Some (glance_of x.0)
unfolding checkpoint_at
checkpoint_seen bytes x e =
    let a = bind_some (number_at w64 bytes) _ x e in
    let b = bind_some (transactions_at a.0.1) _ x a.2 in
    let c = bind_some (dirties_at b.0.1) _ x b.2 in
    let is = same_Some _ x c.2 in
    ap (λ (y : LogRecord × List ℕ). Some (glance_of y.0)) is

-- by the kind
either : {A B : Type 0} (b : Bool) (p q : Option A) (s t : Option B) (x : A) (y : B) → (p ≡ Some x → s ≡ Some y) → (q ≡ Some x → t ≡ Some y) → cond b p q ≡ Some x → cond b s t ≡ Some y
either true p q s t x y f g e = f e
either false p q s t x y f g e = g e

fields_seen : (kind : ℕ) (bytes : List ℕ) (x : LogRecord × List ℕ) → fields_at kind bytes ≡ Some x → fields_glance kind bytes ≡ Some (glance_of x.0)
unfolding fields_at fields_glance plain_record_at plain_glance
fields_seen kind bytes x e =
    either (eqb kind 1) _ _ _ _ x (glance_of x.0) (update_seen bytes x)
    (either (eqb kind 2) _ _ _ _ x (glance_of x.0) (compensation_seen bytes x)
    (either (eqb kind 3) _ _ _ _ x (glance_of x.0) (plain_seen Commit seen.Commit bytes x (λ own. refl))
    (either (eqb kind 4) _ _ _ _ x (glance_of x.0) (plain_seen Abort seen.Abort bytes x (λ own. refl))
    (either (eqb kind 5) _ _ _ _ x (glance_of x.0) (plain_seen End seen.End bytes x (λ own. refl))
    (λ last. others (eqb kind 6) (eqb kind 7) (eqb kind 8) only last)))))
    e
  where
    only : eqb kind 8 ≡ true → (eqb kind 6 ≡ false) × (eqb kind 7 ≡ false)
    only is = rw (eqb-true kind 8 is) (refl, refl)

    others : (b c d : Bool) → (d ≡ true → (b ≡ false) × (c ≡ false)) → cond b (Some (CheckpointBegin, bytes)) (cond c (checkpoint_at bytes) (cond d (plain_record_at Prepare bytes) None)) ≡ Some x
        → cond d (plain_glance seen.Prepare bytes) (Some seen.Checkpoint) ≡ Some (glance_of x.0)
    others true c false alone e = ap (λ (y : LogRecord × List ℕ). Some (glance_of y.0)) (same_Some _ x e)
    others true c true alone e = absurd (let not = (alone refl).0 in cc)
    others false true false alone e = checkpoint_seen bytes x e
    others false true true alone e = absurd (let not = (alone refl).1 in cc)
    others false false true alone e = plain_seen Prepare seen.Prepare bytes x (λ own. refl) e
    others false false false alone e = absurd cc

pub body_seen : (bytes : List ℕ) (x : LogRecord × ℕ) → body_at bytes ≡ Some x → body_glance bytes ≡ Some (glance_of x.0)
unfolding body_at body_glance
body_seen [] x e = absurd cc
body_seen (kind ∷ bytes) x e =
    let a = bind_some (number_at w64 bytes) _ x e in
    let b = bind_some (fields_at kind a.0.1) _ x a.2 in
    let g = guard_ended (eqb (length b.0.1) 0) (b.0.0, a.0.0) x b.2 in
    rw a.1 (fields_seen kind a.0.1 b.0 b.1 ∙ ap (λ (y : LogRecord × ℕ). Some (glance_of y.0)) g.1)

some_glance : (bytes : List ℕ) → is_some (body_at bytes) ≡ true → body_glance bytes ≡ option_map glance_of (option_map (λ x. x.0) (body_at bytes))
some_glance bytes some = by (body_at bytes) refl
  where
    by : (o : Option (LogRecord × ℕ)) → body_at bytes ≡ o → body_glance bytes ≡ option_map glance_of (option_map (λ x. x.0) (body_at bytes))
    by None is = absurd (none (sym (ap is_some is) ∙ some))
      where
        none : false ≡ true → ⊥
        none e = cc
    by (Some x) is = body_seen bytes x is ∙ sym (ap (λ o. option_map glance_of (option_map (λ (y : LogRecord × ℕ). y.0) o)) is)

-- a body at a glance is its record at a glance
pub glance_is : (bytes : List ℕ) → IsBody bytes → body_glance bytes ≡ option_map glance_of (option_map (λ x. x.0) (body_at bytes))
unfolding body_at body_glance
glance_is [] is = refl
glance_is (kind ∷ bytes) is = some_glance (kind ∷ bytes) (is.spelled (search rules))
