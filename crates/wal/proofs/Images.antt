-- The image that is read without the rest of the record is the one that the record put into its cell.
use Rattle.std.proofs.Common.{◌≡◌, ℕ, false, eqb, List, length, ◌≤◌, Option, Some, None, Bor, refl, sym, subst, rules}
use Rattle.std.specs.Prelude.{option_map, IfSome}
use Rattle.page.specs.Image.{FitsSlot}
use Rattle.page.specs.declared.profile.TheConstants.{VALUE_BYTES}
use Rattle.log_laws.specs.Records.{LogRecord, Update, Compensation}
use Rattle.log_laws.specs.Meaning.{image_of, image_in}
use Rattle.wal.specs.Spelling.{Fits}
use Rattle.wal.specs.Reading.{plain_record_at, checkpoint_at, fields_at}

-- a record of another kind than an update and a CLR puts none
pub others_put : (kind : ℕ) (bytes : List ℕ) → eqb kind 1 ≡ false → eqb kind 2 ≡ false → image_in (option_map (λ x. x.0) (fields_at kind bytes)) ≡ None
unfolding fields_at plain_record_at checkpoint_at
others_put kind bytes no_update no_compensation = search rules

-- an image that is put fits a slot
short_put : (r : LogRecord) → Fits r → FitsSlot (image_of r)
short_put (Update u) fits = fits.after
short_put (Compensation c) fits = fits.image
short_put _ fits = tt

pub short_read : (read : Option (LogRecord × ℕ)) (image : Option (Bor (List ℕ))) → ((r : LogRecord) (lsn : ℕ) → read ≡ Some (r, lsn) → Fits r)
    → option_map (λ s. s.now) image ≡ image_in (option_map (λ x. x.0) read) → IfSome image (λ s. length s.now ≤ VALUE_BYTES)
short_read read None fits e = tt
short_read None (Some s) fits e = absurd cc
short_read (Some x) (Some s) fits e = subst FitsSlot (sym e) (short_put x.0 (fits x.0 x.1 refl))
