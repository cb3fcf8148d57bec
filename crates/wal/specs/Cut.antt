-- CUT. What an interrupted restart may leave (own).
use Rattle.std.specs.Prelude.{◌≡◌, ◌≤◌, ◌<◌, ℕ, List, ◌++◌, length, All, slice_index_or}
use Rattle.page.specs.declared.page.Page.{Page}
use Rattle.page.specs.Store.{StoreContent, AreNumbered}
use Rattle.log_laws.specs.Records.{LogContent, history}
use Rattle.log_laws.specs.Meaning.{BasePages}
use Rattle.log_laws.specs.Tail.{with_tail}
use Rattle.wal.specs.Reads.{log_text, Reads}
use Rattle.log_laws.specs.Pages.{PageLaw}
use Rattle.log_laws.specs.Store.{Lawful}
use Rattle.log_laws.specs.Theorems.{GoesOn}

-- CUT (own). What an interrupted restart of (L, S) may leave: the bytes of the log L and a prefix of the bytes of its tail, whose whole
-- records make the log L'; and a store of the same count and master whose pages keep the page law over L', none of them older than in S.
pub record Cut (base : BasePages) (log : LogContent) (store : StoreContent) (bytes : List ℕ) (left : StoreContent) : Type 0 where
  pub written : List ℕ
  pub missing : List ℕ
  pub begins : bytes ≡ log_text log ++ written
  pub ends : log_text (with_tail log) ≡ bytes ++ missing
  pub whole : LogContent
  pub torn : ℕ
  pub reads : Reads bytes whole torn
  pub master : left.master ≡ store.master
  pub count : length left.pages ≡ length store.pages
  pub pages : All (PageLaw base (history whole)) left.pages
  pub not_older : (i : ℕ) (d : Page) → i < length store.pages → (slice_index_or store.pages i d).lsn ≤ (slice_index_or left.pages i d).lsn

-- For a log that was read and its store: the whole records of a cut and its store are lawful, and a restart continues from them to the same
-- log and the same store.
abbrev pub CutsSettle : Type 0
CutsSettle = (base : BasePages) (log : LogContent) (store : StoreContent) (text : List ℕ) (torn : ℕ) (bytes : List ℕ) (left : StoreContent)
    → Reads text log torn → AreNumbered store.pages → AreNumbered left.pages
    → Lawful base log store → (c : Cut base log store bytes left) → GoesOn base log store c.whole left

-- So a restart may be interrupted again and again: a cut of what a restart continues to from a cut is a cut of the first log and store.
abbrev pub CutsCompose : Type 0
CutsCompose = (base : BasePages) (log : LogContent) (store : StoreContent) (text : List ℕ) (torn : ℕ) (bytes : List ℕ) (left : StoreContent)
    → Reads text log torn → AreNumbered store.pages → AreNumbered left.pages → Lawful base log store → (c : Cut base log store bytes left)
    → (later : List ℕ) (later_left : StoreContent) → Cut base c.whole left later later_left → Cut base log store later later_left
