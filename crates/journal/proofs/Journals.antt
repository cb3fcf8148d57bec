-- What each operation makes of a journal in its arrays.
use Rattle.std.proofs.Common.{◌≡◌, ◌≢◌, ◌<◌, ◌≤◌, ◌+◌, ◌-◌, ◌*◌, ◌^◌, ℕ, suc, true, false, cond, List, [], ◌∷◌, ◌++◌, length, get_or, set, take, drop, map, min, Option, Some, None, refl, sym, ap, subst, ◌∙◌, inl, inr, arith, eqb, eq-eqb, ne_eqb, eqb-true, length-append}
use Rattle.std.specs.Prelude.{◌⊎◌, All, is_some}
use Rattle.std.specs.List.{remove}
use Rattle.std.proofs.lemmas.Bool.{cases_lt, cases_Bool}
use Rattle.std.proofs.lemmas.List.{get_or-take, get_or-drop, get_or_default, length-set, length-take-le, take_more_set, length-map, length-drop, map-set}
use Rattle.std.proofs.lemmas.List.Elements.{All-weaker, All-push, All-drop}
use Rattle.page.specs.Image.{Image as Content}
use Rattle.page.specs.declared.page.Page.{Page}
use Rattle.log_laws.proofs.Pages.{slot_held}
use Rattle.page.specs.declared.profile.TheConstants.{TRANSACTIONS}
use Rattle.page.specs.declared.profile.TheConstants.{SLOTS}
use Rattle.log_laws.specs.Records.{CompensationRecord, Update, Compensation, Commit, Abort, End, Prepare}
use Rattle.log_laws.specs.Meaning.{BasePages, pending, replay, last_of, last_on}
use Rattle.wal.specs.Spelling.{Fits}
use Rattle.journal.specs.declared.table.Need.TheVariants.{Working, NotAborting, NotPrepared}
use Rattle.journal.specs.declared.image.Image.{Image}
use Rattle.journal.specs.declared.entries.Head.{Head}
use Rattle.journal.specs.declared.entries.TransactionEntry.{TransactionEntry}
use Rattle.journal.specs.declared.entries.PendingEntry.{PendingEntry}
use Rattle.journal.specs.declared.entries.PageEntry.{PageEntry}
use Rattle.journal.specs.Runs.{Run, appended, reported, count_of, log_of}
use Rattle.journal.specs.Refusals.{allows}
use Rattle.journal.specs.Transactions.{Pending, Transaction, AreTransactions, IsFreeFor, IsNewest}
use Rattle.journal.specs.PageStates.{PageState, ArePageStates, changed, written}
use Rattle.journal.specs.PageStates.{IsCurrent}
use Rattle.journal.specs.Arrays.{bound_of, image_of, page_of, page_state_of, state_of, update_of, kept_of, LeavesOthers, pending_of, is_live, NoneBy, IsTable, AreUsed, AreArrays, weight, owed, OwesLess, IsRoomMade, updated, undone, in_state, without_owner}
use Rattle.journal.specs.State.{Agrees, IsJournal, update_by, IsUndo, plain_by}
use Rattle.journal.proofs.Tables.{standing, kept_at, kept_push, table_push}
use Rattle.journal.proofs.Stacks.{pending_none, pending_push, pending_push_other, undone_other, undone_count, length_left}
use Rattle.journal.proofs.Owed.{owed_push, owed_set, owed_some, owed_bound, weight_some, left_less, own_count}
use Rattle.journal.proofs.Used.{take_set, apart, was, turns, turned_used, updates_used, updates_changes, newest_one, undoes_changes, undoes_used, gone_used, gone_kept, left_used, left_kept}
use Rattle.journal.proofs.Refused.{is_working, not_aborting, not_prepared, still_pending, pending_cell}
use Rattle.journal.specs.Transactions.{lsn_in}
use Rattle.journal.specs.Rollbacks.{newest_of, CanUndo}
use Rattle.std.specs.Prelude.{reverse}
use lib.ListN.{length-reverse}
use Rattle.journal.proofs.Transactions.{newest_compensates, none_by_hops, none_pending, stack_push}
use Rattle.journal.proofs.Begun.{standing_begins}
use Rattle.journal.proofs.Held.{held_at}
use Rattle.journal.proofs.Runs.{run_based, run_lawful}
use Rattle.journal.proofs.PageStates.{pages_told}
use Rattle.journal.proofs.Appending.{stands_told}
use Rattle.journal.proofs.Operating.{aborts, prepares, commits, ends, updates, undoes}

abbrev pub no_entry : TransactionEntry
no_entry = record { last = 0; undo_next = 0; below = 0; tx = 0; state = 0 }

abbrev pub no_update : PendingEntry
no_update = record { lsn = 0; prev = 0; tx = 0; page = 0; slot = 0; before = record { length = 0; bytes = [] } }

abbrev pub no_page : PageEntry
no_page = record { page = record { lsn = 0; number = 0; slots = [] }; rec_lsn = 0; writers = [] }

-- states, and how many records they still need
not_yet : (n : ℕ) → allows NotAborting (state_of n) ≡ true → weight n ≡ 2
not_yet n a =
    elim (cases_Bool (eqb n 1)) [
      | inl e ↦ (let one : n ≡ 1 = eqb-true n 1 e in let no : allows NotAborting (state_of 1) ≡ true = subst (λ k. allows NotAborting (state_of k) ≡ true) one a in absurd (cc))
      | inr e ↦ rw e refl
    ]

works : (n : ℕ) → allows Working (state_of n) ≡ true → weight n ≡ 2
works n a =
    elim (cases_Bool (eqb n 1)) [
      | inl e ↦ (let one : n ≡ 1 = eqb-true n 1 e in let no : allows Working (state_of 1) ≡ true = subst (λ k. allows Working (state_of k) ≡ true) one a in absurd (cc))
      | inr e ↦ rw e refl
    ]

-- the same is kept
pub stands_same : (base : BasePages) (run : Run) (last next : ℕ) (kept after : ℕ → Option Transaction) (pages : List PageState) → ((t : ℕ) → after t ≡ kept t) → Agrees base run last next kept pages → Agrees base run last next after pages
stands_same base run last next kept after pages same h =
    record {
      runs = h.runs;
      last_is = h.last_is;
      transactions = record {
        each = λ t x e. h.transactions.each t x (sym (same t) ∙ e);
        others = λ t e begun. h.transactions.others t (sym (same t) ∙ e) begun;
        fresh = λ t le. (same t ∙ (h.transactions.fresh t le).0, (h.transactions.fresh t le).1);
      };
      pages_are = h.pages_are;
    }

module _ (base : BasePages) (run : Run) (head : Head) (ts : List TransactionEntry) (pages : List PageEntry) (ps : List PendingEntry) (h : IsJournal base run head ts pages ps) where
  abbrev es : List TransactionEntry
  es = take head.transactions ts

  abbrev xs : List PendingEntry
  xs = take head.pending ps

  abbrev kept : ℕ → Option Transaction
  kept = kept_of es xs

  size : length es ≡ head.transactions
  size = length-take-le head.transactions ts h.arrays.room

  long : length xs ≡ head.pending
  long = length-take-le head.pending ps h.arrays.pending_room

  -- what is needed is at most this
  bound : owed es xs ≤ 2 * head.transactions + head.pending
  bound = (let b = owed_bound es xs h.arrays.used.table.rising in omega (arith, b, size, long))

  low : (t : ℕ) (x : Transaction) → kept t ≡ Some x → t < head.next
  low t x e =
      elim (cases_lt t head.next) [
        | inl l ↦ l
        | inr le ↦ absurd (let none : kept t ≡ None = (h.holds.transactions.fresh t le).0 in cc)
      ]

  -- WHAT A CELL HOLDS
  pub value_is : (page slot : ℕ) → page < length pages → slot < SLOTS → (image : Content) → ((d : PageState) → image ≡ get_or (get_or (map page_state_of pages) page d).page.slots slot None) → image ≡ replay base (log_of run) page slot
  value_is page slot room low_slot image value =
      let blank : PageState = record { page = record { number = 0; lsn = 0; slots = [] }; writers = []; rec_lsn = None } in
      let held = h.holds.pages_are.each page blank (omega (arith, room, length-map pages page_state_of)) in
      value blank ∙ ap (λ (p : Page). get_or p.slots slot None) held.image ∙ slot_held (replay base (log_of run)) page slot low_slot

  -- A TRANSACTION BEGINS
  pub begins : (head.transactions < length ts) → (head.transactions < TRANSACTIONS) → head.last + 2 + 2 * head.transactions + head.pending < 2 ^ 64 → IsJournal base run (record { last = head.last; written = head.written; transactions = head.transactions + 1; pending = head.pending; next = head.next + 1 })
      (set ts head.transactions (record { last = 0; undo_next = 0; below = 0; tx = head.next; state = 0 })) pages ps
  begins room few enough =
      let e : TransactionEntry = record { last = 0; undo_next = 0; below = 0; tx = head.next; state = 0 } in
      let at : take (head.transactions + 1) (set ts head.transactions e) ≡ es ++ e ∷ [] = take_more_set ts head.transactions e room in
      let below : All (λ (f : TransactionEntry). f.tx < e.tx) es =
      λ k d l. low (get_or es k d).tx (standing (get_or es k d) xs) (kept_at es xs k d (get_or es k d).tx h.arrays.used.table.rising l refl) in
      let none : pending_of head.next xs ≡ [] = pending_none head.next xs (λ k d l z. (let less : (get_or xs k d).tx < head.next = h.arrays.used.known k d l in omega (arith, less, z))) in
      let stand : AreTransactions (log_of run) (head.next + 1) (kept_of (es ++ e ∷ []) xs) =
      standing_begins (log_of run) head.next kept (kept_of (es ++ e ∷ []) xs) (standing e xs) refl none (kept_push es xs e below) h.holds.transactions in
      record {
        holds = subst (λ z. Agrees base run head.last (head.next + 1) (kept_of z xs) (map page_state_of pages)) (sym at)
            (record { runs = h.holds.runs; last_is = h.holds.last_is; transactions = stand; pages_are = h.holds.pages_are });
        arrays = record {
          room = omega (arith, room, length-set ts head.transactions e);
          few = omega (arith, few);
          pending_room = h.arrays.pending_room;
          some = omega arith;
          used = subst (λ z. AreUsed (head.next + 1) z xs) (sym at)
              (record {
                table = table_push es e h.arrays.some below h.arrays.used.table;
                known = All-weaker (λ (p : PendingEntry). p.tx < head.next) (λ (p : PendingEntry). p.tx < head.next + 1) (λ p l. omega (arith, l)) xs h.arrays.used.known;
                below = begun_below e refl;
              });
        };
        reserve = (let a = ap (λ z. owed z xs) at in let b = owed_push es e xs in let w = ap (λ (ps : List Pending). length ps) none in omega (arith, a, b, w, bound, enough));
      }
    where
      begun_below : (e : TransactionEntry) → e.tx ≡ head.next → All (λ (f : TransactionEntry). NoneBy f.tx (drop f.below xs)) (es ++ e ∷ [])
      begun_below e is =
          All-push (λ (f : TransactionEntry). NoneBy f.tx (drop f.below xs)) es e h.arrays.used.below
          (All-drop (λ (p : PendingEntry). p.tx ≢ e.tx) e.below xs (λ k d l z. (let less : (get_or xs k d).tx < head.next = h.arrays.used.known k d l in omega (arith, less, z, is))))

  pub begun : (head.transactions < length ts) → is_some (kept_of (take (head.transactions + 1) (set ts head.transactions (record { last = 0; undo_next = 0; below = 0; tx = head.next; state = 0 }))) xs head.next) ≡ true
  begun room =
      let e : TransactionEntry = record { last = 0; undo_next = 0; below = 0; tx = head.next; state = 0 } in
      let at : take (head.transactions + 1) (set ts head.transactions e) ≡ es ++ e ∷ [] = take_more_set ts head.transactions e room in
      let below : All (λ (f : TransactionEntry). f.tx < e.tx) es =
      λ k d l. low (get_or es k d).tx (standing (get_or es k d) xs) (kept_at es xs k d (get_or es k d).tx h.arrays.used.table.rising l refl) in
      let own : eqb e.tx e.tx ≡ true = eq-eqb e.tx e.tx refl in
      let new : kept_of (es ++ e ∷ []) xs head.next ≡ Some (standing e xs) = kept_push es xs e below head.next ∙ rw own refl in
      ap (λ z. is_some (kept_of z xs head.next)) at ∙ ap (λ (o : Option Transaction). is_some o) new

  pub begins_others : (head.transactions < length ts) → LeavesOthers head.next es xs (take (head.transactions + 1) (set ts head.transactions (record { last = 0; undo_next = 0; below = 0; tx = head.next; state = 0 }))) xs
  begins_others room t other =
      let e : TransactionEntry = record { last = 0; undo_next = 0; below = 0; tx = head.next; state = 0 } in
      let at : take (head.transactions + 1) (set ts head.transactions e) ≡ es ++ e ∷ [] = take_more_set ts head.transactions e room in
      let below : All (λ (f : TransactionEntry). f.tx < e.tx) es =
      λ k d l. low (get_or es k d).tx (standing (get_or es k d) xs) (kept_at es xs k d (get_or es k d).tx h.arrays.used.table.rising l refl) in
      let off : eqb e.tx t ≡ false = ne_eqb e.tx t (λ z. other (sym z)) in
      ap (λ z. kept_of z xs t) at ∙ kept_push es xs e below t ∙ rw off refl

  -- WHAT IS KNOWN OF A PAGE
  pub page_lsn : (page : ℕ) (d : PageEntry) → page < length pages → (page < count_of run) × ((get_or pages page d).page.lsn ≡ last_on base page (log_of run))
  page_lsn page d room =
      let blank : PageState = record { page = record { number = 0; lsn = 0; slots = [] }; writers = []; rec_lsn = None } in
      let held = h.holds.pages_are.each page blank (omega (arith, room, length-map pages page_state_of)) in
      let at : get_or (map page_state_of pages) page blank ≡ page_state_of (get_or pages page d) = held_at pages page d blank room in (
        omega (arith, room, length-map pages page_state_of, h.holds.pages_are.count),
        ap (λ (p : PageState). p.page.lsn) (sym at) ∙ ap (λ (p : Page). p.lsn) held.image,
      )

  -- its image is the newest one
  pub is_current : (number : ℕ) (page : Page) → number < length pages → page ≡ page_of (get_or pages number no_page).page → IsCurrent base run number page
  is_current number page room is =
      let blank : PageState = record { page = record { number = 0; lsn = 0; slots = [] }; writers = []; rec_lsn = None } in
      let held = h.holds.pages_are.each number blank (omega (arith, room, length-map pages page_state_of)) in
      let at : get_or (map page_state_of pages) number blank ≡ page_state_of (get_or pages number no_page) = held_at pages number no_page blank room in
      record {
        there = omega (arith, room, length-map pages page_state_of, h.holds.pages_are.count);
        is = is ∙ ap (λ (p : PageState). p.page) (sym at) ∙ held.image;
      }

  pub told_is : (page lsn : ℕ) (e : PageEntry) → page < length pages → lsn ≤ (get_or pages page no_page).page.lsn → page_state_of e ≡ written (page_state_of (get_or pages page no_page)) lsn
      → IsJournal base (reported run page lsn) head ts (set pages page e) ps
  told_is page lsn e room le is =
      let blank : PageState = record { page = record { number = 0; lsn = 0; slots = [] }; writers = []; rec_lsn = None } in
      let held : PageState = get_or (map page_state_of pages) page blank in
      let at : held ≡ page_state_of (get_or pages page no_page) = held_at pages page no_page blank room in
      let within : page < length (map page_state_of pages) = omega (arith, room, length-map pages page_state_of) in
      let own : held ≡ get_or (map page_state_of pages) page held = get_or_default (map page_state_of pages) page blank held within in
      let all : map page_state_of (set pages page e) ≡ set (map page_state_of pages) page (written held lsn) = map-set page_state_of pages page e ∙ ap (λ (p : PageState). set (map page_state_of pages) page p) (is ∙ ap (λ (p : PageState). written p lsn) (sym at)) in
      let low_enough : lsn ≤ held.page.lsn = subst (λ (p : PageState). lsn ≤ p.page.lsn) (sym at) le in
      record {
        holds = stands_told base run head.last head.next kept (map page_state_of pages) (map page_state_of (set pages page e)) page lsn
            (subst (ArePageStates base (reported run page lsn)) (sym all) (pages_told base run page lsn (map page_state_of pages) held (run_based base run h.holds.runs) within own low_enough h.holds.pages_are)) h.holds;
        arrays = h.arrays;
        reserve = h.reserve;
      }

  -- ONE TRANSACTION, at its place
  module _ (tx place : ℕ) (within : place < length es) (found : (get_or es place no_entry).tx ≡ tx) where
    abbrev own : TransactionEntry
    own = get_or es place no_entry

    abbrev x : Transaction
    x = standing own xs

    under : place < head.transactions
    under = omega (arith, within, size)

    its_some : 0 < tx
    its_some = (let low_is : 0 < own.tx = h.arrays.used.table.some place no_entry within in omega (arith, low_is, found))

    pub kept_is : kept tx ≡ Some x
    kept_is = was head.next es xs h.arrays.used place no_entry within tx found

    pub its_number : tx < head.next
    its_number = low tx x kept_is

    same_place : get_or ts place no_entry ≡ own
    same_place = sym (get_or-take head.transactions ts place no_entry under)

    put : (f : TransactionEntry → TransactionEntry) (now : List TransactionEntry) → now ≡ set ts place (f (get_or ts place no_entry)) → take head.transactions now ≡ set es place (f own)
    put f now e = ap (take head.transactions) e ∙ take_set head.transactions ts place (f (get_or ts place no_entry)) under ∙ ap (λ y. set es place (f y)) same_place

    pub owes : 1 ≤ owed es xs
    owes = (let w = weight_some own.state in let o = owed_some es place no_entry xs within in omega (arith, w, o))

    -- it has not finished, and is not prepared
    pub can_undo : allows NotPrepared (state_of own.state) ≡ true → CanUndo run tx
    can_undo allowed =
        let its = h.holds.transactions.each tx x kept_is in
        (its.unfinished, λ z. not_prepared (state_of own.state) allowed (its.state ∙ z))

    pub pending_few : length (pending tx (log_of run)) ≤ head.pending
    pending_few =
        let size : length (pending tx (log_of run)) ≡ length (pending_of own.tx xs) = ap length (h.holds.transactions.each tx x kept_is).stack ∙ length-reverse (map lsn_in (pending_of own.tx xs)) ∙ length-map (pending_of own.tx xs) lsn_in in
        omega (arith, size, own_count own.tx xs, long)

    pub none_newest : x.pending ≡ [] → newest_of (pending tx (log_of run)) ≡ 0
    none_newest none = ap newest_of (none_pending (log_of run) tx x none (h.holds.transactions.each tx x kept_is))

    turned_owes : (state lsn : ℕ) → owed (set es place (in_state own state lsn)) xs + weight own.state ≡ owed es xs + weight state
    turned_owes state lsn = (let o = owed_set es xs xs place no_entry (in_state own state lsn) within (λ k l n. refl) in omega (arith, o))

    put_size : (e : TransactionEntry) (now : List TransactionEntry) → now ≡ set ts place e → head.transactions ≤ length now
    put_size e now is = (let n : length now ≡ length (set ts place e) = ap length is in omega (arith, n, length-set ts place e, h.arrays.room))

    pub turned_others : (state lsn : ℕ) (now : List TransactionEntry) → now ≡ set ts place (in_state (get_or ts place no_entry) state lsn) → LeavesOthers tx es xs (take head.transactions now) xs
    turned_others state lsn now e t other =
        let off : eqb tx t ≡ false = ne_eqb tx t (λ z. other (sym z)) in
        ap (λ z. kept_of z xs t) (put (λ f. in_state f state lsn) now e) ∙ (turns head.next es xs h.arrays.used place no_entry within tx found state lsn).others t off

    module _ (lsn : ℕ) (is : lsn ≡ head.last + 1) (small : lsn < 2 ^ 64) (now : List TransactionEntry) where
      -- IT CHANGES ITS STATE
      pub aborted_owes : now ≡ set ts place (in_state (get_or ts place no_entry) 1 lsn) → allows NotAborting (state_of own.state) ≡ true → OwesLess es xs (take head.transactions now) xs
      aborted_owes e allowed = (let a = ap (λ z. owed z xs) (put (λ f. in_state f 1 lsn) now e) in let o = turned_owes 1 lsn in let w = not_yet own.state allowed in omega (arith, a, o, w))

      pub aborted : now ≡ set ts place (in_state (get_or ts place no_entry) 1 lsn) → allows NotAborting (state_of own.state) ≡ true → Fits (Abort (record { tx = tx; prev = own.last }))
          → IsJournal base (appended run (Abort (plain_by run tx))) (record { last = lsn; written = head.written; transactions = head.transactions; pending = head.pending; next = head.next }) now pages ps
      aborted e allowed fits =
          let at = put (λ f. in_state f 1 lsn) now e in
          let c = turns head.next es xs h.arrays.used place no_entry within tx found 1 lsn in
          record {
            holds = subst (λ z. Agrees base (appended run (Abort (plain_by run tx))) lsn head.next (kept_of z xs) (map page_state_of pages)) (sym at)
                (aborts base run head.last head.next kept (map page_state_of pages) h.holds lsn is small tx x kept_is (kept_of (set es place (in_state own 1 lsn)) xs) (not_aborting (state_of own.state) allowed) c fits);
            arrays = record {
              room = put_size _ now e;
              few = h.arrays.few;
              pending_room = h.arrays.pending_room;
              some = h.arrays.some;
              used = subst (λ z. AreUsed head.next z xs) (sym at) (turned_used head.next es xs h.arrays.used place no_entry within tx found 1 lsn);
            };
            reserve = (let o = aborted_owes e allowed in omega (arith, o, is, h.reserve));
          }

      pub prepared : head.last + 1 + 2 * head.transactions + head.pending < 2 ^ 64 → now ≡ set ts place (in_state (get_or ts place no_entry) 2 lsn) → allows Working (state_of own.state) ≡ true → Fits (Prepare (record { tx = tx; prev = own.last }))
          → IsJournal base (appended run (Prepare (plain_by run tx))) (record { last = lsn; written = head.written; transactions = head.transactions; pending = head.pending; next = head.next }) now pages ps
      prepared enough e allowed fits =
          let at = put (λ f. in_state f 2 lsn) now e in
          let c = turns head.next es xs h.arrays.used place no_entry within tx found 2 lsn in
          record {
            holds = subst (λ z. Agrees base (appended run (Prepare (plain_by run tx))) lsn head.next (kept_of z xs) (map page_state_of pages)) (sym at)
                (prepares base run head.last head.next kept (map page_state_of pages) h.holds lsn is small tx x kept_is (kept_of (set es place (in_state own 2 lsn)) xs) (is_working (state_of own.state) allowed) c fits);
            arrays = record {
              room = put_size _ now e;
              few = h.arrays.few;
              pending_room = h.arrays.pending_room;
              some = h.arrays.some;
              used = subst (λ z. AreUsed head.next z xs) (sym at) (turned_used head.next es xs h.arrays.used place no_entry within tx found 2 lsn);
            };
            reserve = (let a = ap (λ z. owed z xs) at in let o = turned_owes 2 lsn in let w = weight_some own.state in let v = works own.state allowed in omega (arith, a, o, w, v, is, bound, enough));
          }

      -- IT FINISHES
      module _ (count : ℕ) (less : count ≡ head.transactions - 1) (at : take count now ≡ remove es place) (room : length now ≡ length ts) where
        left : AreArrays (record { last = lsn; written = head.written; transactions = count; pending = head.pending; next = head.next }) now ps
        left =
            record {
              room = omega (arith, less, room, h.arrays.room);
              few = omega (arith, less, h.arrays.few);
              pending_room = h.arrays.pending_room;
              some = h.arrays.some;
              used = subst (λ z. AreUsed head.next z xs) (sym at) (gone_used head.next es xs h.arrays.used place no_entry within tx found);
            }

        pub left_owes : OwesLess es xs (take count now) xs
        left_owes = left_less es (take count now) xs place within at

        left_reserve : lsn + owed (take count now) xs < 2 ^ 64
        left_reserve = (let o = left_owes in omega (arith, o, is, h.reserve))

        follows : (t : ℕ) → kept_of (remove es place) xs t ≡ cond (eqb tx t) None (kept t)
        follows t = gone_kept head.next es xs h.arrays.used place no_entry within tx found t

        pub committed : allows NotAborting (state_of own.state) ≡ true → Fits (Commit (record { tx = tx; prev = own.last }))
            → IsJournal base (appended run (Commit (plain_by run tx))) (record { last = lsn; written = head.written; transactions = count; pending = head.pending; next = head.next }) now pages ps
        committed allowed fits =
            record {
              holds = subst (λ z. Agrees base (appended run (Commit (plain_by run tx))) lsn head.next (kept_of z xs) (map page_state_of pages)) (sym at)
                  (commits base run head.last head.next kept (map page_state_of pages) h.holds lsn is small tx x kept_is (kept_of (remove es place) xs) (not_aborting (state_of own.state) allowed) follows fits);
              arrays = left;
              reserve = left_reserve;
            }

        pub ended : allows NotPrepared (state_of own.state) ≡ true → x.pending ≡ [] → Fits (End (record { tx = tx; prev = own.last }))
            → IsJournal base (appended run (End (plain_by run tx))) (record { last = lsn; written = head.written; transactions = count; pending = head.pending; next = head.next }) now pages ps
        ended allowed none fits =
            record {
              holds = subst (λ z. Agrees base (appended run (End (plain_by run tx))) lsn head.next (kept_of z xs) (map page_state_of pages)) (sym at)
                  (ends base run head.last head.next kept (map page_state_of pages) h.holds lsn is small tx x kept_is (kept_of (remove es place) xs) (not_prepared (state_of own.state) allowed) none follows fits);
              arrays = left;
              reserve = left_reserve;
            }

    -- THE NEWEST PENDING UPDATE is below its place
    module _ (top : ℕ) where
      behind : (from : ℕ) → from ≤ own.below → ((k : ℕ) → top < k → k < from → k < length xs → (get_or xs k no_update).tx ≢ tx) → from ≡ min own.below head.pending → NoneBy tx (drop (suc top) xs)
      behind from le above is k d l =
          let room : suc top + k < length xs = omega (arith, l, length-drop (suc top) xs) in
          let at : get_or (drop (suc top) xs) k d ≡ get_or xs (suc top + k) d = get_or-drop (suc top) xs k d in
          let there : get_or xs (suc top + k) d ≡ get_or xs (suc top + k) no_update = get_or_default xs (suc top + k) d no_update room in
          let other : (get_or xs (suc top + k) no_update).tx ≢ tx =
          elim (cases_lt (suc top + k) from) [
            | inl lt ↦ above (suc top + k) (omega arith) lt room
            | inr ge ↦
                (let far : own.below ≤ suc top + k = omega (arith, ge, is, room, long) in
                let rest : suc top + k - own.below < length (drop own.below xs) = omega (arith, room, length-drop own.below xs, far) in
                let none = h.arrays.used.below place no_entry within (suc top + k - own.below) no_update rest in
                let moved : get_or (drop own.below xs) (suc top + k - own.below) no_update ≡ get_or xs (suc top + k) no_update = get_or-drop own.below xs (suc top + k - own.below) no_update ∙ ap (λ n. get_or xs n no_update) (omega (arith, far)) in
                λ z. none (ap (λ (p : PendingEntry). p.tx) moved ∙ z ∙ sym found))
          ] in
          λ z. other (ap (λ (p : PendingEntry). p.tx) (sym there) ∙ ap (λ (p : PendingEntry). p.tx) (sym at) ∙ z)

    nothing : (from : ℕ) → ((k : ℕ) → k < from → k < length xs → (get_or xs k no_update).tx ≢ tx) → from ≡ min own.below head.pending → NoneBy tx xs
    nothing from above is k d l =
        let there : get_or xs k d ≡ get_or xs k no_update = get_or_default xs k d no_update l in
        let other : (get_or xs k no_update).tx ≢ tx =
        elim (cases_lt k from) [
          | inl lt ↦ above k lt l
          | inr ge ↦
              (let far : own.below ≤ k = omega (arith, ge, is, l, long) in
              let rest : k - own.below < length (drop own.below xs) = omega (arith, l, length-drop own.below xs, far) in
              let none = h.arrays.used.below place no_entry within (k - own.below) no_update rest in
              let moved : get_or (drop own.below xs) (k - own.below) no_update ≡ get_or xs k no_update = get_or-drop own.below xs (k - own.below) no_update ∙ ap (λ n. get_or xs n no_update) (omega (arith, far)) in
              λ z. none (ap (λ (p : PendingEntry). p.tx) moved ∙ z ∙ sym found))
        ] in
        λ z. other (ap (λ (p : PendingEntry). p.tx) (sym there) ∙ z)

    pub none_left : (from : ℕ) → ((k : ℕ) → k < from → k < length xs → (get_or xs k no_update).tx ≢ tx) → from ≡ min own.below head.pending → x.pending ≡ []
    none_left from above is = subst (λ n. pending_of n xs ≡ []) (sym found) (pending_none tx xs (nothing from above is))

    -- UPDATES before a place
    module _ (from : ℕ) (from_is : from ≡ bound_of own head.pending) where
      bounded : (from ≡ 0) × (x.pending ≡ []) ⊎ (from ≡ min own.below head.pending)
      bounded =
          elim (cases_Bool (eqb own.undo_next 0)) [
            | inl e ↦ inl (from_is ∙ rw e, none_by_hops base (log_of run) (run_lawful base run h.holds.runs) tx x (h.holds.transactions.each tx x kept_is) (eqb-true own.undo_next 0 e))
            | inr e ↦ inr (from_is ∙ rw e)
          ]

      from_in : from ≤ head.pending
      from_in =
          elim bounded [
            | inl e ↦ omega (arith, e.0)
            | inr e ↦ omega (arith, e)
          ]

      from_size : length (take from ps) ≡ from
      from_size = length-take-le from ps (omega (arith, from_in, h.arrays.pending_room))

      same_update : (k : ℕ) → k < from → get_or (take from ps) k no_update ≡ get_or xs k no_update
      same_update k l = get_or-take from ps k no_update l ∙ sym (get_or-take head.pending ps k no_update (omega (arith, l, from_in)))

      pub no_pending : NoneBy tx (take from ps) → x.pending ≡ []
      no_pending none =
          elim bounded [
            | inl e ↦ e.1
            | inr e ↦ none_left from (λ k l room z. none k no_update (omega (arith, l, from_size)) (ap (λ (p : PendingEntry). p.tx) (same_update k l) ∙ z)) e
          ]

      module _ (top : ℕ) (top_in : top < length (take from ps)) (its : (get_or (take from ps) top no_update).tx ≡ tx)
          (above : (k : ℕ) (d : PendingEntry) → top < k → k < length (take from ps) → (get_or (take from ps) k d).tx ≢ tx) where
        abbrev update : PendingEntry
        update = get_or ps top no_update

        top_below : top < from
        top_below = omega (arith, top_in, from_size)

        from_below : from ≡ min own.below head.pending
        from_below =
            elim bounded [
              | inl e ↦ absurd (omega (arith, e.0, top_below))
              | inr e ↦ e
            ]

        top_within : top < length xs
        top_within = omega (arith, top_below, from_in, long)

        update_is : get_or xs top no_update ≡ update
        update_is = get_or-take head.pending ps top no_update (omega (arith, top_below, from_in))

        its_own : (get_or xs top no_update).tx ≡ tx
        its_own = ap (λ (p : PendingEntry). p.tx) (sym (same_update top top_below)) ∙ its

        none_behind : NoneBy tx (drop (suc top) xs)
        none_behind = behind top from (omega (arith, from_below)) (λ k l lt room z. above k no_update l (omega (arith, lt, from_size)) (ap (λ (p : PendingEntry). p.tx) (same_update k lt) ∙ z)) from_below

        newest_update : IsNewest x.pending (Some (update_of update))
        newest_update =
            subst (λ (p : PendingEntry). IsNewest x.pending (Some (update_of p))) update_is
            (newest_one head.next es xs h.arrays.used place no_entry within tx found top no_update top_within its_own none_behind)

        pub still : pending tx (log_of run) ≢ []
        still = still_pending base run head.last head.next kept (map page_state_of pages) h.holds tx x kept_is (update_of update) newest_update

        pub newest_is : newest_of (pending tx (log_of run)) ≡ update.lsn
        newest_is =
            ap newest_of ((h.holds.transactions.each tx x kept_is).stack ∙ ap (λ (zs : List Pending). reverse (map lsn_in zs)) newest_update ∙ stack_push (take (length x.pending - 1) x.pending) (update_of update))

        pub its_cell : (update.page < length pages) × (update.slot < SLOTS)
        its_cell =
            (let cell = pending_cell base run head.last head.next kept (map page_state_of pages) h.holds tx x kept_is (update_of update) newest_update in
            (omega (arith, cell.0, length-map pages page_state_of), cell.1))

        abbrev clr : ℕ → CompensationRecord
        clr prev = record { tx = tx; prev = prev; page = update.page; slot = update.slot; undo_next = update.prev; image = image_of update.before }

        pub undo_record : IsUndo run tx (Compensation (clr (last_of tx (log_of run))))
        undo_record =
            (let below : List Pending = take (length x.pending - 1) x.pending in
            record {
              clr = clr (last_of tx (log_of run));
              is = refl;
              own = refl;
              prev = refl;
              undoes = newest_compensates (log_of run) tx x below (update_of update) (clr (last_of tx (log_of run))) newest_update refl refl refl refl refl (h.holds.transactions.each tx x kept_is);
            })

        pub its_last : own.last ≡ last_of tx (log_of run)
        its_last = (h.holds.transactions.each tx x kept_is).last

        module _ (lsn : ℕ) (is : lsn ≡ head.last + 1) (small : lsn < 2 ^ 64) (now : List TransactionEntry) (gone : List PendingEntry) (held : List PageEntry) where
          pub undone_owes : now ≡ set ts place (undone (get_or ts place no_entry) lsn update.prev top) → gone ≡ set ps top (without_owner update) → OwesLess es xs (take head.transactions now) (take head.pending gone)
          undone_owes e left_is =
              let at = put (λ f. undone f lsn update.prev top) now e in
              let rest : take head.pending gone ≡ set xs top (without_owner (get_or xs top no_update)) =
              ap (take head.pending) left_is ∙ take_set head.pending ps top (without_owner update) (omega (arith, top_below, from_in)) ∙ ap (λ (p : PendingEntry). set xs top (without_owner p)) (sym update_is) in
              let fewer : List PendingEntry = set xs top (without_owner (get_or xs top no_update)) in
              let e' : TransactionEntry = undone own lsn update.prev top in
              let a = ap (λ z. owed z (take head.pending gone)) at in
              let b = ap (λ z. owed (set es place e') z) rest in
              let o = owed_set es xs fewer place no_entry e' within (λ k l n. undone_other tx xs top no_update top_within its_own none_behind (get_or es k no_entry).tx (h.arrays.used.table.some k no_entry l) (λ z. apart es h.arrays.used.table.rising k place no_entry l within n (sym z ∙ sym found))) in
              let less : length (pending_of own.tx fewer) + 1 ≡ length (pending_of own.tx xs) = subst (λ t. length (pending_of t fewer) + 1 ≡ length (pending_of t xs)) (sym found) (undone_count tx xs top no_update top_within its_own none_behind its_some) in
              omega (arith, a, b, o, less)

          pub undone_others : now ≡ set ts place (undone (get_or ts place no_entry) lsn update.prev top) → gone ≡ set ps top (without_owner update) → LeavesOthers tx es xs (take head.transactions now) (take head.pending gone)
          undone_others e left_is t other =
              let at = put (λ f. undone f lsn update.prev top) now e in
              let rest : take head.pending gone ≡ set xs top (without_owner (get_or xs top no_update)) =
              ap (take head.pending) left_is ∙ take_set head.pending ps top (without_owner update) (omega (arith, top_below, from_in)) ∙ ap (λ (p : PendingEntry). set xs top (without_owner p)) (sym update_is) in
              let off : eqb tx t ≡ false = ne_eqb tx t (λ z. other (sym z)) in
              ap (λ z. kept_of z (take head.pending gone) t) at ∙ ap (λ z. kept_of (set es place (undone own lsn update.prev top)) z t) rest
              ∙ (undoes_changes head.next es xs h.arrays.used place no_entry within tx found top no_update top_within its_own none_behind lsn update.prev).others t off

          pub undone_is : now ≡ set ts place (undone (get_or ts place no_entry) lsn update.prev top) → gone ≡ set ps top (without_owner update)
              → ((d : PageState) → map page_state_of held ≡ set (map page_state_of pages) update.page (changed (get_or (map page_state_of pages) update.page d) tx update.slot (image_of update.before) lsn))
              → allows NotPrepared (state_of own.state) ≡ true → Fits (Compensation (clr own.last))
              → IsJournal base (appended run (Compensation (clr (last_of tx (log_of run))))) (record { last = lsn; written = head.written; transactions = head.transactions; pending = head.pending; next = head.next }) now held gone
          undone_is e left_is held_is allowed fits =
              let at = put (λ f. undone f lsn update.prev top) now e in
              let rest : take head.pending gone ≡ set xs top (without_owner (get_or xs top no_update)) =
              ap (take head.pending) left_is ∙ take_set head.pending ps top (without_owner update) (omega (arith, top_below, from_in)) ∙ ap (λ (p : PendingEntry). set xs top (without_owner p)) (sym update_is) in
              let c = undoes_changes head.next es xs h.arrays.used place no_entry within tx found top no_update top_within its_own none_behind lsn update.prev in
              let used = undoes_used head.next es xs h.arrays.used place no_entry within tx found top no_update top_within its_own none_behind lsn update.prev h.arrays.some in
              let room : update.page < length (map page_state_of pages) = omega (arith, its_cell.0, length-map pages page_state_of) in
              let after : ℕ → Option Transaction = kept_of (set es place (undone own lsn update.prev top)) (set xs top (without_owner (get_or xs top no_update))) in
              let u = undoes base run head.last head.next kept (map page_state_of pages) h.holds lsn is small tx x kept_is after update.page update.slot room its_cell.1 (map page_state_of held) (image_of update.before) held_is
              (update_of update) refl refl refl (not_prepared (state_of own.state) allowed) newest_update c fits in
              let stand : Agrees base (appended run (Compensation (clr (last_of tx (log_of run))))) lsn head.next after (map page_state_of held) =
              subst (λ r. Agrees base (appended run r) lsn head.next after (map page_state_of held)) (u.3 ∙ ap (λ n. Compensation (clr n)) its_last) u.2 in
              record {
                holds = subst (λ z. Agrees base (appended run (Compensation (clr (last_of tx (log_of run))))) lsn head.next (kept_of z (take head.pending gone)) (map page_state_of held)) (sym at)
                    (subst (λ z. Agrees base (appended run (Compensation (clr (last_of tx (log_of run))))) lsn head.next (kept_of (set es place (undone own lsn update.prev top)) z) (map page_state_of held)) (sym rest) stand);
                arrays = record {
                  room = put_size _ now e;
                  few = h.arrays.few;
                  pending_room = (let n : length gone ≡ length (set ps top (without_owner update)) = ap length left_is in omega (arith, n, length-set ps top (without_owner update), h.arrays.pending_room));
                  some = h.arrays.some;
                  used = subst (λ z. AreUsed head.next z (take head.pending gone)) (sym at) (subst (λ z. AreUsed head.next (set es place (undone own lsn update.prev top)) z) (sym rest) used);
                };
                reserve = (let o = undone_owes e left_is in omega (arith, o, is, h.reserve));
              }

    -- AN UPDATE becomes the newest one
    module _ (top : ℕ) (more : List PendingEntry) (top_in : top < length ps) (size_more : length more ≡ length ps) (made : IsRoomMade es head.pending top ps more) where
      abbrev ys : List PendingEntry
      ys = take top more

      ys_size : length ys ≡ top
      ys_size = length-take-le top more (omega (arith, top_in, size_more))

      same_front : (top ≡ head.pending) × (more ≡ ps) → ys ≡ xs
      same_front m = ap (take top) m.1 ∙ ap (λ n. take n ps) m.0

      ys_used : AreUsed head.next es ys
      ys_used =
          elim made [
            | inl m ↦ subst (AreUsed head.next es) (sym (same_front m)) h.arrays.used
            | inr m ↦ subst (AreUsed head.next es) (sym m.1) (left_used head.next es xs h.arrays.used m.0)
          ]

      pub ys_kept : (t : ℕ) → kept_of es ys t ≡ kept t
      ys_kept t =
          elim made [
            | inl m ↦ ap (λ z. kept_of es z t) (same_front m)
            | inr m ↦ ap (λ z. kept_of es z t) m.1 ∙ left_kept head.next es xs h.arrays.used m.0 t
          ]

      few_ys : length ys ≤ head.pending
      few_ys =
          elim made [
            | inl m ↦ omega (arith, m.0, ys_size)
            | inr m ↦
                (let size : length xs ≡ head.pending = length-take-le head.pending ps h.arrays.pending_room in
                omega (arith, size, ap length m.1, length_left (is_live es) m.0 xs))
          ]

      ys_stands : Agrees base run head.last head.next (kept_of es ys) (map page_state_of pages)
      ys_stands = stands_same base run head.last head.next kept (kept_of es ys) (map page_state_of pages) ys_kept h.holds

      module _ (lsn : ℕ) (is : lsn ≡ head.last + 1) (small : lsn < 2 ^ 64) (page slot : ℕ) (before after : Image) (now : List TransactionEntry) (gone : List PendingEntry) (held : List PageEntry) where
        abbrev entry : PendingEntry
        entry = record { lsn = lsn; prev = own.last; tx = tx; page = page; slot = slot; before = before }

        pub updated_others : now ≡ set ts place (updated (get_or ts place no_entry) lsn (top + 1)) → gone ≡ set more top entry → LeavesOthers tx es xs (take head.transactions now) (take (top + 1) gone)
        updated_others e gone_is t other =
            let at : take head.transactions now ≡ set es place (updated own lsn (length ys + 1)) = put (λ f. updated f lsn (top + 1)) now e ∙ ap (λ n. set es place (updated own lsn (n + 1))) (sym ys_size) in
            let rest : take (top + 1) gone ≡ ys ++ entry ∷ [] = ap (take (top + 1)) gone_is ∙ take_more_set more top entry (omega (arith, top_in, size_more)) in
            let off : eqb tx t ≡ false = ne_eqb tx t (λ z. other (sym z)) in
            ap (λ z. kept_of z (take (top + 1) gone) t) at ∙ ap (λ z. kept_of (set es place (updated own lsn (length ys + 1))) z t) rest
            ∙ (updates_changes head.next es ys ys_used place no_entry within tx found entry refl its_number).others t off
            ∙ ys_kept t

        pub updated_is : head.last + 2 + 2 * head.transactions + head.pending < 2 ^ 64 → now ≡ set ts place (updated (get_or ts place no_entry) lsn (top + 1)) → gone ≡ set more top entry
            → ((d : PageState) → map page_state_of held ≡ set (map page_state_of pages) page (changed (get_or (map page_state_of pages) page d) tx slot (image_of after) lsn))
            → page < length pages → slot < SLOTS
            → ((d : PageState) → image_of before ≡ get_or (get_or (map page_state_of pages) page d).page.slots slot None)
            → ((zs : List PendingEntry) (d : PageState) → IsTable es → IsFreeFor (kept_of es zs) (get_or (get_or (map page_state_of pages) page d).writers slot None) tx)
            → allows Working (state_of own.state) ≡ true
            → Fits (Update (record { tx = tx; prev = own.last; page = page; slot = slot; before = image_of before; after = image_of after }))
            → IsJournal base (appended run (update_by base run tx page slot (image_of after))) (record { last = lsn; written = head.written; transactions = head.transactions; pending = top + 1; next = head.next }) now held gone
        updated_is enough e gone_is held_is page_in low_slot value free allowed fits =
            let at : take head.transactions now ≡ set es place (updated own lsn (top + 1)) = put (λ f. updated f lsn (top + 1)) now e in
            let at' : take head.transactions now ≡ set es place (updated own lsn (length ys + 1)) = at ∙ ap (λ n. set es place (updated own lsn (n + 1))) (sym ys_size) in
            let room_more : top < length more = omega (arith, top_in, size_more) in
            let rest : take (top + 1) gone ≡ ys ++ entry ∷ [] = ap (take (top + 1)) gone_is ∙ take_more_set more top entry room_more in
            let c = updates_changes head.next es ys ys_used place no_entry within tx found entry refl its_number in
            let used = updates_used head.next es ys ys_used place no_entry within tx found entry refl its_number in
            let room : page < length (map page_state_of pages) = omega (arith, page_in, length-map pages page_state_of) in
            let kept_now : ℕ → Option Transaction = kept_of (set es place (updated own lsn (length ys + 1))) (ys ++ entry ∷ []) in
            let found_it : kept_of es ys tx ≡ Some (standing own ys) = was head.next es ys ys_used place no_entry within tx found in
            let run' : Run = appended run (update_by base run tx page slot (image_of after)) in
            let stand : Agrees base run' lsn head.next kept_now (map page_state_of held) =
            updates base run head.last head.next (kept_of es ys) (map page_state_of pages) ys_stands lsn is small tx (standing own ys) found_it kept_now page slot room low_slot (map page_state_of held) (image_of after) held_is
            (image_of before) (is_working (state_of own.state) allowed) value (λ d. free ys d h.arrays.used.table) c fits in
            record {
              holds = subst (λ z. Agrees base run' lsn head.next (kept_of z (take (top + 1) gone)) (map page_state_of held)) (sym at')
                  (subst (λ z. Agrees base run' lsn head.next (kept_of (set es place (updated own lsn (length ys + 1))) z) (map page_state_of held)) (sym rest) stand);
              arrays = record {
                room = put_size _ now e;
                few = h.arrays.few;
                pending_room = (let n : length gone ≡ length (set more top entry) = ap length gone_is in omega (arith, n, length-set more top entry, room_more));
                some = h.arrays.some;
                used = subst (λ z. AreUsed head.next z (take (top + 1) gone)) (sym at') (subst (λ z. AreUsed head.next (set es place (updated own lsn (length ys + 1))) z) (sym rest) used);
              };
              reserve =
                  (let zs : List PendingEntry = ys ++ entry ∷ [] in
                  let e' : TransactionEntry = updated own lsn (length ys + 1) in
                  let a = ap (λ z. owed z (take (top + 1) gone)) at' in
                  let b = ap (λ z. owed (set es place e') z) rest in
                  let o = owed_set es ys zs place no_entry e' within (λ k l n. pending_push_other (get_or es k no_entry).tx ys entry (λ z. apart es h.arrays.used.table.rising k place no_entry l within n (sym z ∙ sym found))) in
                  let one = pending_push own.tx ys entry (sym found) in
                  let more_one = ap (λ (ps : List Pending). length ps) one ∙ length-append (pending_of own.tx ys) (update_of entry ∷ []) in
                  let bound' = owed_bound es ys h.arrays.used.table.rising in
                  omega (arith, a, b, o, more_one, is, bound', few_ys, size, enough));
            }
