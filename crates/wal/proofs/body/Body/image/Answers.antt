use Rattle.std.proofs.Common.{sym, ap, ◌∙◌, rules}
use Rattle.log_laws.specs.Meaning.{image_in}
use Rattle.wal.specs.Reading.{body_at}
use Rattle.wal.proofs.Images.{short_read}
use Rattle.wal.proofs.Places.{no_body}
use Rattle.wal.proofs.body.Body.image.Goals as goal

pub returns-then-is_empty : goal.returns-then-is_empty
returns-then-is_empty c = ap image_in (sym (no_body c.self.inside.bytes.now (search rules)) ∙ c.self.view_is)

pub value_of-requires : goal.value_of-requires
value_of-requires c = short_read (body_at c.self.inside.bytes.now) c.body_image.result c.self.invariant.fits c.body_image.ensures
