-- The frame at the front, by its size and its glance.
use Rattle.std.proofs.Common.{◌≡◌, ◌≢◌, ℕ, List, Option, Some, None, Result, Ok, Err, refl, sym, ap, ◌∙◌, eq-eqb, ne_eqb}
use Rattle.std.proofs.lemmas.Option.{same_Some}
use Rattle.page.specs.declared.fault.Fault.{Fault}
use Rattle.page.specs.declared.fault.Fault.TheVariants.{NoResource, BadRecord, BadLsn}
use Rattle.log_laws.specs.Records.{LogRecord}
use Rattle.wal.specs.declared.glance.Glance.{Glance}
use Rattle.wal.specs.declared.glance.Glance.TheVariants as seen
use Rattle.wal.specs.Reading.{checkpoint_at}
use Rattle.wal.specs.Frames.{frame_if_right, size_in, Fails}
use Rattle.wal.specs.Glances.{glance_of, glanced, seen_in}
use Rattle.wal.proofs.Glances.{checkpoint_seen}

-- THE END OF A CHECKPOINT at a glance
pub checkpoint_some : (bytes : List ℕ) (x : LogRecord × List ℕ) → Some x ≡ checkpoint_at bytes → Some (seen.Checkpoint, x.1) ≡ glanced (checkpoint_at bytes)
checkpoint_some bytes x e =
    let is = same_Some seen.Checkpoint (glance_of x.0) (checkpoint_seen bytes x (sym e)) in
    ap (λ g. Some (g, x.1)) is ∙ ap glanced e

-- A BODY by its glance and its LSN
pub seen_of_none : (lsn offset size : ℕ) (body : Option (LogRecord × ℕ)) → glanced body ≡ None → seen_in (frame_if_right lsn offset size body) ≡ Err (BadRecord offset)
seen_of_none lsn offset size None e = refl
seen_of_none lsn offset size (Some x) e = absurd cc

pub seen_of_right : (lsn offset size own : ℕ) (glance : Glance) (body : Option (LogRecord × ℕ)) → glanced body ≡ Some (glance, own) → own ≡ lsn
    → seen_in (frame_if_right lsn offset size body) ≡ Ok (Some (size, glance))
seen_of_right lsn offset size own glance None e is = absurd cc
seen_of_right lsn offset size own glance (Some x) e is =
    let same = same_Some (glance_of x.0, x.1) (glance, own) e in
    rw (eq-eqb x.1 lsn (ap (λ y. y.1) same ∙ is)) (ap (λ (y : Glance × ℕ). Ok (Some (size, y.0))) same)

pub seen_of_other : (lsn offset size own : ℕ) (glance : Glance) (body : Option (LogRecord × ℕ)) → glanced body ≡ Some (glance, own) → own ≢ lsn
    → seen_in (frame_if_right lsn offset size body) ≡ Err (BadLsn offset)
seen_of_other lsn offset size own glance None e other = absurd cc
seen_of_other lsn offset size own glance (Some x) e other =
    let same = same_Some (glance_of x.0, x.1) (glance, own) e in
    rw (ne_eqb x.1 lsn (λ is. other (sym (ap (λ y. y.1) same) ∙ is))) refl

-- WHAT WAS SEEN, by its size
pub size_of_frame : (next : Result (Option (LogRecord × ℕ)) Fault) (size : ℕ) (glance : Glance) → seen_in next ≡ Ok (Some (size, glance)) → size_in next ≡ Ok (Some size)
size_of_frame (Err e) size glance h = absurd cc
size_of_frame (Ok None) size glance h = absurd cc
size_of_frame (Ok (Some x)) size glance h = (let same : ◌≡◌ {A = ℕ × Glance} (x.1, glance_of x.0) (size, glance) = cc in ap (λ (y : ℕ × Glance). Ok (Some y.0)) same)

pub size_of_no_frame : (next : Result (Option (LogRecord × ℕ)) Fault) → seen_in next ≡ Ok None → size_in next ≡ Ok None
size_of_no_frame (Err e) h = absurd cc
size_of_no_frame (Ok None) h = refl
size_of_no_frame (Ok (Some x)) h = absurd cc

pub size_of_fault : (next : Result (Option (LogRecord × ℕ)) Fault) (e : Fault) → seen_in next ≡ Err e → size_in next ≡ Err e
size_of_fault (Err f) e h = (let same : f ≡ e = cc in ap Err same)
size_of_fault (Ok x) e h = absurd cc

-- WHAT WAS SIZED
pub sized : (next : Result (Option (LogRecord × ℕ)) Fault) (size : ℕ) → size_in next ≡ Ok (Some size) → (r : LogRecord) × (next ≡ Ok (Some (r, size)))
sized (Err e) size h = absurd cc
sized (Ok None) size h = absurd cc
sized (Ok (Some x)) size h = (let same : x.1 ≡ size = cc in (x.0, ap (λ (n : ℕ). Ok (Some (x.0, n))) same))

pub unsized : (next : Result (Option (LogRecord × ℕ)) Fault) → size_in next ≡ Ok None → next ≡ Ok None
unsized (Err e) h = absurd cc
unsized (Ok None) h = refl
unsized (Ok (Some x)) h = absurd cc

pub faulty : (next : Result (Option (LogRecord × ℕ)) Fault) (e : Fault) → size_in next ≡ Err e → next ≡ Err e
faulty (Err f) e h = (let same : f ≡ e = cc in ap Err same)
faulty (Ok x) e h = absurd cc

pub fails_with : (next : Result (Option (LogRecord × ℕ)) Fault) (e : Fault) → size_in next ≡ Err e → Fails e next
fails_with next NoResource h = tt
fails_with next e h = faulty next e h

-- what has no size is not a frame
pub no_frame_none : (next : Result (Option (LogRecord × ℕ)) Fault) (r : LogRecord) (size : ℕ) → size_in next ≡ Ok None → next ≡ Ok (Some (r, size)) → ⊥
no_frame_none next r size none e = (let both : ◌≡◌ {A = Result (Option ℕ) Fault} (Ok None) (Ok (Some size)) = sym none ∙ ap size_in e in absurd cc)

pub no_frame_fault : (next : Result (Option (LogRecord × ℕ)) Fault) (r : LogRecord) (size : ℕ) (f : Fault) → size_in next ≡ Err f → next ≡ Ok (Some (r, size)) → ⊥
no_frame_fault next r size f wrong e = (let both : ◌≡◌ {A = Result (Option ℕ) Fault} (Err f) (Ok (Some size)) = sym wrong ∙ ap size_in e in absurd cc)
