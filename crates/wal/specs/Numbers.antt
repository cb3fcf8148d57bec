-- The numbers of the formats, as FORMATS.md has them: those of logs. The code and all other definitions use the constants, so that this is the
-- only definition here that another profile replaces (own).
use Rattle.std.specs.Prelude.{◌≡◌}
use Rattle.wal.specs.declared.sizes.TheConstants.{HEADER_BYTES, BASED_HEADER_BYTES, LARGEST_BASE, ABSENT, ENTRY_BYTES, DIRTY_BYTES, SMALLEST_BODY, PLAIN_BODY, LARGEST_BODY}

pub record AreLogNumbers : Type 0 where
  pub header : HEADER_BYTES ≡ 8
  pub based_header : BASED_HEADER_BYTES ≡ 16
  pub largest_base : LARGEST_BASE ≡ 9223372036854775807
  pub absent : ABSENT ≡ 255
  pub entry : ENTRY_BYTES ≡ 21
  pub dirty_page : DIRTY_BYTES ≡ 12
  pub smallest_body : SMALLEST_BODY ≡ 9
  pub plain_body : PLAIN_BODY ≡ 21
  pub largest_body : LARGEST_BODY ≡ 70681
