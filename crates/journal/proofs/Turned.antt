-- What a commit, an abort, an end or a prepare does to a journal.
use Rattle.std.proofs.Common.{◌≡◌, ◌<◌, ◌+◌, ◌*◌, ◌^◌, ◌-◌, ℕ, true, List, length, take, map, get_or, refl, arith}
use Rattle.log_laws.specs.Records.{PlainRecord}
use Rattle.log_laws.specs.Meaning.{BasePages}
use Rattle.wal.specs.Spelling.{Fits}
use Rattle.journal.specs.declared.entries.Head.{Head}
use Rattle.journal.specs.declared.entries.TransactionEntry.{TransactionEntry}
use Rattle.journal.specs.declared.entries.PageEntry.{PageEntry}
use Rattle.journal.specs.declared.entries.PendingEntry.{PendingEntry}
use Rattle.journal.specs.declared.refusal.Refusal.{Refusal}
use Rattle.journal.specs.declared.refusal.Refusal.TheVariants.{StillPending, BadArrays, UnknownTransaction, Forbidden, NoFrameRoom, LogFull}
use Rattle.journal.specs.declared.turns.Turn.{Turn}
use Rattle.journal.specs.declared.turns.Turn.TheVariants.{Commit, Abort, End, Prepare}
use Rattle.journal.specs.Runs.{Run, appended}
use Rattle.journal.specs.Arrays.{bound_of, state_of, kept_of, page_state_of, NoneBy, LeavesOthers, OwesLess}
use Rattle.journal.specs.Writing.{HasKind}
use Rattle.journal.specs.State.{IsJournal, plain_by}
use Rattle.journal.specs.Refusals.{allows, EntryRefused, IsNotRoom, LacksLsns}
use Rattle.journal.specs.TurnsTaken.{turn_record, kind_of, need_of, is_owed, left_after, IsTaken, TurnRefused, OwnTurnRefused, HoldsUp}
use Rattle.journal.proofs.Refused.{entry_refused, end_refused, prepare_refused}
use Rattle.journal.proofs.Journals.{no_entry, no_update, committed, aborted, ended, prepared, left_owes, aborted_owes, turned_others, no_pending, still}
use Rattle.journal.proofs.Canceled.{others_kept}

pub has_kind : (t : Turn) (p : PlainRecord) → HasKind (turn_record t p) (kind_of t) p
has_kind Commit p = (refl, refl)
has_kind Abort p = (refl, refl)
has_kind End p = (refl, refl)
has_kind Prepare p = (refl, refl)

-- the frame of each takes as many bytes, so a buffer of that size has room
pub room_refused : (t : Turn) (run : Run) (tx : ℕ) (head : Head) (room : ℕ) → room < 25 → TurnRefused t run tx head room (NoFrameRoom 25)
room_refused Commit run tx head room short = (refl, short)
room_refused Abort run tx head room short = (refl, short)
room_refused End run tx head room short = (refl, short)
room_refused Prepare run tx head room short = (refl, short)

-- a prepare alone may lack LSNs
pub lsns_refused : (t : Turn) (run : Run) (tx : ℕ) (head : Head) (room : ℕ) → t ≡ Prepare → LacksLsns head 1 → TurnRefused t run tx head room LogFull
lsns_refused Commit run tx head room is full = absurd (cc)
lsns_refused Abort run tx head room is full = absurd (cc)
lsns_refused End run tx head room is full = absurd (cc)
lsns_refused Prepare run tx head room is full = full

-- a journal that owns its arrays never lacks room
pub own_turn : (t : Turn) (run : Run) (tx : ℕ) (head : Head) (room : ℕ) (e : Refusal) → IsNotRoom e → TurnRefused t run tx head room e → OwnTurnRefused t run tx head e
own_turn Commit run tx head room UnknownTransaction enough r = r
own_turn Commit run tx head room (Forbidden state) enough r = r
own_turn Commit run tx head room (NoFrameRoom wanted) enough r = absurd enough
own_turn Commit run tx head room e enough r = absurd r
own_turn Abort run tx head room UnknownTransaction enough r = r
own_turn Abort run tx head room (Forbidden state) enough r = r
own_turn Abort run tx head room (NoFrameRoom wanted) enough r = absurd enough
own_turn Abort run tx head room e enough r = absurd r
own_turn End run tx head room UnknownTransaction enough r = r
own_turn End run tx head room (Forbidden state) enough r = r
own_turn End run tx head room StillPending enough r = r
own_turn End run tx head room (NoFrameRoom wanted) enough r = absurd enough
own_turn End run tx head room e enough r = absurd r
own_turn Prepare run tx head room UnknownTransaction enough r = r
own_turn Prepare run tx head room (Forbidden state) enough r = r
own_turn Prepare run tx head room LogFull enough r = r
own_turn Prepare run tx head room (NoFrameRoom wanted) enough r = absurd enough
own_turn Prepare run tx head room e enough r = absurd r

module _ (base : BasePages) (run : Run) (head : Head) (ts : List TransactionEntry) (pages : List PageEntry) (ps : List PendingEntry) (h : IsJournal base run head ts pages ps) (tx : ℕ) where
  abbrev es : List TransactionEntry
  es = take head.transactions ts

  abbrev xs : List PendingEntry
  xs = take head.pending ps

  pub turn_refused : (t : Turn) (room : ℕ) (e : Refusal) → EntryRefused (need_of t) (kept_of es xs) tx e → TurnRefused t run tx head room e
  turn_refused Commit room e r = entry_refused base run head.last head.next _ (map page_state_of pages) h.holds (need_of Commit) tx 25 room e r
  turn_refused Abort room e r = entry_refused base run head.last head.next _ (map page_state_of pages) h.holds (need_of Abort) tx 25 room e r
  turn_refused End room e r = end_refused base run head.last head.next _ (map page_state_of pages) h.holds tx room e r
  turn_refused Prepare room e r = prepare_refused base run head.last head.next _ (map page_state_of pages) h.holds tx head room e r

  module _ (place : ℕ) (within : place < length es) (found : (get_or es place no_entry).tx ≡ tx) where
    abbrev own : TransactionEntry
    own = get_or es place no_entry

    pub held_up : (t : Turn) (room : ℕ) (e : Refusal) → HoldsUp t head own ps tx e → TurnRefused t run tx head room e
    held_up Commit room StillPending r = absurd (let f : Commit ≡ End = r.0 in cc)
    held_up Abort room StillPending r = absurd (let f : Abort ≡ End = r.0 in cc)
    held_up End room StillPending r = still base run head ts pages ps h tx place within found (bound_of own head.pending) refl r.1.0 r.1.1 (r.1.2 no_update) r.1.3
    held_up Prepare room StillPending r = absurd (let f : Prepare ≡ End = r.0 in cc)
    held_up t room BadArrays r = absurd (let room = h.arrays.pending_room in omega (arith, r, room))
    held_up t room e r = absurd r

    module _ (lsn : ℕ) (is : lsn ≡ head.last + 1) (small : lsn < 2 ^ 64) (now : List TransactionEntry) (size : length now ≡ length ts) where
      pub turned : (t : Turn) → allows (need_of t) (state_of own.state) ≡ true → (t ≡ Prepare → head.last + 1 + 2 * head.transactions + head.pending < 2 ^ 64)
          → (t ≡ End → NoneBy tx (take (bound_of own head.pending) ps)) → IsTaken t head.transactions place lsn ts now → Fits (turn_record t (record { tx = tx; prev = own.last }))
          → IsJournal base (appended run (turn_record t (plain_by run tx))) (record { last = lsn; written = head.written; transactions = left_after t head.transactions; pending = head.pending; next = head.next }) now pages ps
      turned Commit allowed enough none taken fits = committed base run head ts pages ps h tx place within found lsn is small now (head.transactions - 1) refl taken size allowed fits
      turned Abort allowed enough none taken fits = aborted base run head ts pages ps h tx place within found lsn is small now (taken no_entry) allowed fits
      turned End allowed enough none taken fits =
          ended base run head ts pages ps h tx place within found lsn is small now (head.transactions - 1) refl taken size allowed
          (no_pending base run head ts pages ps h tx place within found (bound_of own head.pending) refl (none refl)) fits
      turned Prepare allowed enough none taken fits = prepared base run head ts pages ps h tx place within found lsn is small now (enough refl) (taken no_entry) allowed fits

      pub turned_owes : (t : Turn) → is_owed t ≡ true → allows (need_of t) (state_of own.state) ≡ true → IsTaken t head.transactions place lsn ts now → OwesLess es xs (take (left_after t head.transactions) now) xs
      turned_owes Commit owed allowed taken = left_owes base run head ts pages ps h tx place within found lsn is small now (head.transactions - 1) refl taken size
      turned_owes Abort owed allowed taken = aborted_owes base run head ts pages ps h tx place within found lsn is small now (taken no_entry) allowed
      turned_owes End owed allowed taken = left_owes base run head ts pages ps h tx place within found lsn is small now (head.transactions - 1) refl taken size
      turned_owes Prepare owed allowed taken = absurd (cc)

    pub others_stay : (lsn : ℕ) (now : List TransactionEntry) (t : Turn) → IsTaken t head.transactions place lsn ts now → LeavesOthers tx es xs (take (left_after t head.transactions) now) xs
    others_stay lsn now Commit taken = others_kept base run head ts pages ps h tx place within found now (head.transactions - 1) refl taken
    others_stay lsn now Abort taken = turned_others base run head ts pages ps h tx place within found 1 lsn now (taken no_entry)
    others_stay lsn now End taken = others_kept base run head ts pages ps h tx place within found now (head.transactions - 1) refl taken
    others_stay lsn now Prepare taken = turned_others base run head ts pages ps h tx place within found 2 lsn now (taken no_entry)
