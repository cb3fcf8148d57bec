-- The numbers of the formats, as FORMATS.md has them: those of pages and stores, and the magics. The code and all other definitions use the
-- constants, so that this is the only definition that another profile replaces (own).
use Rattle.std.specs.Prelude.{◌≡◌, [], ◌∷◌}
use Rattle.page.specs.declared.profile.TheConstants.{PAGES, SLOTS, PAGE_BYTES, VALUE_BYTES, TRANSACTIONS, STORE_MAGIC, LOG_MAGIC, BASED_LOG_MAGIC}
use Rattle.page.specs.declared.sizes.TheConstants.{PAGE_HEADER_BYTES, CELLS_AT, STORE_HEADER_BYTES}

pub record AreNumbers : Type 0 where
  pub pages : PAGES ≡ 4096
  pub slots : SLOTS ≡ 16
  pub page_bytes : PAGE_BYTES ≡ 1024
  pub value_bytes : VALUE_BYTES ≡ 48
  pub transactions : TRANSACTIONS ≡ 1024
  pub page_header : PAGE_HEADER_BYTES ≡ 16
  pub cells : CELLS_AT ≡ 80
  pub store_header : STORE_HEADER_BYTES ≡ 24
  -- the bytes of "ARIESPG1", "ARIESLG1" and "ARIESLG2"
  pub store_magic : STORE_MAGIC ≡ 65 ∷ 82 ∷ 73 ∷ 69 ∷ 83 ∷ 80 ∷ 71 ∷ 49 ∷ []
  pub log_magic : LOG_MAGIC ≡ 65 ∷ 82 ∷ 73 ∷ 69 ∷ 83 ∷ 76 ∷ 71 ∷ 49 ∷ []
  pub based_log_magic : BASED_LOG_MAGIC ≡ 65 ∷ 82 ∷ 73 ∷ 69 ∷ 83 ∷ 76 ∷ 71 ∷ 50 ∷ []
