-- The arrays that a `Journal` owns (own).
use Rattle.std.specs.Prelude.{◌≡◌, ◌≤◌, ◌<◌, ◌+◌, length, take}
use Rattle.page.specs.declared.profile.TheConstants.{TRANSACTIONS}
use Rattle.journal.specs.declared.owned.Journal.TheInside.{Inside}
use Rattle.journal.specs.JournalState.{JournalState}

-- its entries that are in use, and its frames
abbrev pub seen : Inside → JournalState
seen a = record {
  head = a.head;
  transactions = take a.head.transactions a.transactions.items;
  pages = a.pages.items;
  pending = take a.head.pending a.pending.items;
  frames = take a.length a.buffer.items;
  taken = a.taken;
  room = a.reserved;
}

-- what is in use is there
pub record IsWithin (a : Inside) : Type 0 where
  pub table : length a.transactions.items ≡ TRANSACTIONS
  pub transactions : a.head.transactions ≤ TRANSACTIONS
  pub some : 0 < length a.pending.items
  pub pending : a.head.pending ≤ length a.pending.items
  pub buffer : a.length + a.reserved ≤ length a.buffer.items
