-- What the numbers of a profile have to keep (own).
use Rattle.std.specs.Prelude.{◌+◌, ◌*◌, ◌<◌, ◌≤◌, ◌^◌}
use Rattle.page.specs.declared.profile.TheConstants.{PAGES, SLOTS, PAGE_BYTES, VALUE_BYTES, TRANSACTIONS}
use Rattle.page.specs.declared.sizes.TheConstants.{CELLS_AT, STORE_HEADER_BYTES}

pub record IsProfile : Type 0 where
  -- a page has room for its cells, each as long as it may be
  pub cells_fit : CELLS_AT + SLOTS * VALUE_BYTES ≤ PAGE_BYTES
  -- an offset of the directory has 16 bits
  pub offsets_fit : PAGE_BYTES ≤ 2 ^ 16
  -- a slot has 8 bits
  pub slots_fit : SLOTS ≤ 2 ^ 8
  -- a page's number has 32 bits
  pub pages_fit : PAGES < 2 ^ 32
  -- the count of a checkpoint's transactions has 32 bits
  pub counts_fit : TRANSACTIONS < 2 ^ 32
  -- an offset in a store has 63 bits
  pub store_fits : STORE_HEADER_BYTES + PAGE_BYTES * PAGES < 2 ^ 63
