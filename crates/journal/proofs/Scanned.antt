-- The arrays while a journal is opened over a log with records, after one more record.
use Rattle.std.proofs.Common.{◌≡◌, ◌≢◌, ◌<◌, ◌≤◌, ◌+◌, ◌-◌, ◌⊎◌, not, map, ℕ, suc, true, false, cond, List, [], ◌∷◌, ◌++◌, length, get_or, set, take, drop, min, max, Option, Some, None, refl, sym, ap, subst, ◌∙◌, inl, inr, arith, eqb, eq-eqb, eqb-true}
use Rattle.std.specs.Prelude.{All, Result, Ok, Err, IfOk, IfErr}
use Rattle.std.specs.List.{insert, remove}
use Rattle.std.proofs.lemmas.Bool.{cases_Bool, cases_lt, both_ways, false_from_ne_true, or_left, or_right, and_from}
use Rattle.std.proofs.lemmas.List.{get_or-take, get_or-drop, length-take-le, length-drop, length-map, take_more_set, take_all}
use lib.ListN.{length-reverse}
use Rattle.std.proofs.lemmas.List.Edits.{get_or-insert_at}
use Rattle.std.proofs.lemmas.List.Elements.{All-weaker, All-push, All-set}
use Rattle.page.specs.declared.profile.TheConstants.{TRANSACTIONS}
use Rattle.log_laws.specs.Records.{start, UpdateRecord, CompensationRecord, PlainRecord, LogRecord, Update, Compensation, Commit, End, History, ◌▸◌, last_lsn}
use Rattle.log_laws.specs.Meaning.{BasePages, is_of, has, finished, is_unfinished, pending}
use Rattle.log_laws.specs.Laws.{Obeys}
use Rattle.journal.specs.declared.entries.TransactionEntry.{TransactionEntry}
use Rattle.journal.specs.declared.entries.PendingEntry.{PendingEntry}
use Rattle.journal.specs.Transactions.{Pending, Transaction, lsn_in, IsTransaction, AreTransactions, HasEntry, HasUpdated, HasUndone, HasChangedState, Noted, next_after}
use Rattle.journal.specs.Arrays.{state_of, update_of, kept_of, pending_of, AllLive, NoneBy, IsTable, AreUsed, IsRoomMade, IsNoRoom, updated, undone, in_state, without_owner}
use Rattle.journal.specs.declared.refusal.Refusal.{Refusal}
use Rattle.journal.specs.declared.refusal.Refusal.TheVariants.{NoPendingRoom, BadArrays}
use Rattle.journal.specs.Opened.{pending_count}
use Rattle.journal.specs.Scan.{IsScan, fresh, IsEntered, IsLeft, IsKeptOf, NoteRefused}
use Rattle.journal.proofs.Tables.{standing, kept_nil, kept_at, kept_none, kept_insert, table_insert, All-insert, All-remove}
use Rattle.journal.proofs.Stacks.{pending_none}
use Rattle.journal.proofs.Used.{take_set, turns, turned_used, updates_used, updates_changes, undoes_changes, undoes_used, gone_used, gone_kept, All-left, left_used, left_kept, none_behind}
use Rattle.journal.proofs.Changed.{noted}
use Rattle.journal.proofs.Begun.{begun}
use Rattle.journal.proofs.Transactions.{none_pending}
use Rattle.journal.proofs.Counted.{summed, live_total, sum_one_more}
use Rattle.journal.proofs.Continued.{logged_update, logged_undo, logged_commit, logged_end, logged_checkpoint, none_stands}

abbrev pub no_entry : TransactionEntry
no_entry = record { last = 0; undo_next = 0; below = 0; tx = 0; state = 0 }

abbrev pub no_update : PendingEntry
no_update = record { lsn = 0; prev = 0; tx = 0; page = 0; slot = 0; before = record { length = 0; bytes = [] } }

-- of a transaction that has a record, or of transaction 0
abbrev pub IsLogged : History → PendingEntry → Type 0
IsLogged log p = (p.tx ≡ 0) ⊎ (has (is_of p.tx) log ≡ true)

-- of one that has a record
abbrev pub IsRecorded : History → TransactionEntry → Type 0
IsRecorded log e = has (is_of e.tx) log ≡ true

pub recorded_more : (log : History) (r : LogRecord) (es : List TransactionEntry) → All (IsRecorded log) es → All (IsRecorded (log ▸ r)) es
recorded_more log r es h = All-weaker (IsRecorded log) (IsRecorded (log ▸ r)) (λ e some. or_right (is_of e.tx r) (has (is_of e.tx) log) some) es h

pub logged_more : (log : History) (r : LogRecord) (ps : List PendingEntry) → All (IsLogged log) ps → All (IsLogged (log ▸ r)) ps
logged_more log r ps h = All-weaker (IsLogged log) (IsLogged (log ▸ r)) (λ p e. elim e [ inl z ↦ inl z | inr some ↦ inr (or_right (is_of p.tx r) (has (is_of p.tx) log) some) ]) ps h

raised_used : (next n : ℕ) (es : List TransactionEntry) (ps : List PendingEntry) → next ≤ n → AreUsed next es ps → AreUsed n es ps
raised_used next n es ps le h =
    record { table = h.table; known = All-weaker (λ (p : PendingEntry). p.tx < next) (λ (p : PendingEntry). p.tx < n) (λ p l. omega (arith, l, le)) ps h.known; below = h.below }

module _ (base : BasePages) (log : History) (lsn next : ℕ) (ts : List TransactionEntry) (n : ℕ) (ps : List PendingEntry) (m : ℕ) (at : last_lsn log + 1 ≡ lsn) (h : IsScan log next ts n ps m) where
  abbrev es : List TransactionEntry
  es = take n ts

  abbrev xs : List PendingEntry
  xs = take m ps

  abbrev kept : ℕ → Option Transaction
  kept = kept_of es xs

  -- IT FINISHES
  module _ (tx : ℕ) (now : List TransactionEntry) (k : ℕ) (left : IsLeft tx es (take k now)) where
    left_used_is : AreUsed (max next (tx + 1)) (take k now) xs
    left_used_is =
        elim left [
          | inl s ↦ subst (λ z. AreUsed (max next (tx + 1)) z xs) (sym s.0) (raised_used next (max next (tx + 1)) es xs (omega arith) h.used)
          | inr s ↦ subst (λ z. AreUsed (max next (tx + 1)) z xs) (sym s.3) (raised_used next (max next (tx + 1)) (remove es s.0) xs (omega arith) (gone_used next es xs h.used s.0 no_entry s.1 tx (s.2 no_entry)))
        ]

    left_gone : (t : ℕ) → kept_of (take k now) xs t ≡ cond (eqb tx t) None (kept t)
    left_gone t =
        elim left [
          | inl s ↦ ap (λ z. kept_of z xs t) s.0 ∙ absent t (kept_none es xs tx s.1)
          | inr s ↦ ap (λ z. kept_of z xs t) s.3 ∙ gone_kept next es xs h.used s.0 no_entry s.1 tx (s.2 no_entry) t
        ]
      where
        absent : (u : ℕ) → kept tx ≡ None → kept u ≡ cond (eqb tx u) None (kept u)
        absent u none =
            elim (cases_Bool (eqb tx u)) [
              | inl i ↦ rw i (ap kept (sym (eqb-true tx u i)) ∙ none)
              | inr i ↦ rw i refl
            ]

    left_recorded : All (IsRecorded log) (take k now)
    left_recorded = elim left [ inl s ↦ subst (All (IsRecorded log)) (sym s.0) h.recorded | inr s ↦ subst (All (IsRecorded log)) (sym s.3) (All-remove (IsRecorded log) es s.0 h.recorded) ]

    pub scan_finishes : (r : LogRecord) → k ≤ TRANSACTIONS → AreTransactions (log ▸ r) (max next (tx + 1)) (kept_of (take k now) xs) → IsScan (log ▸ r) (max next (tx + 1)) now k ps m
    scan_finishes r few holds = record { few = few; some = omega arith; standing = holds; used = left_used_is; recorded = recorded_more log r (take k now) left_recorded; logged = logged_more log r xs h.logged }

  pub scan_commits : (p : PlainRecord) (now : List TransactionEntry) (k : ℕ) → k ≤ n → IsLeft p.tx es (take k now) → IsScan (log ▸ Commit p) (next_after next (Commit p)) now k ps m
  scan_commits p now k le left = scan_finishes p.tx now k left (Commit p) (omega (arith, le, h.few)) (logged_commit base log lsn next kept (kept_of (take k now) xs) at h.standing p (left_gone p.tx now k left))

  pub scan_ends : (p : PlainRecord) (now : List TransactionEntry) (k : ℕ) → k ≤ n → IsLeft p.tx es (take k now) → IsScan (log ▸ End p) (next_after next (End p)) now k ps m
  scan_ends p now k le left = scan_finishes p.tx now k left (End p) (omega (arith, le, h.few)) (logged_end base log lsn next kept (kept_of (take k now) xs) at h.standing p (left_gone p.tx now k left))

  pub scan_same : (r : LogRecord) → ((t : ℕ) → is_of t r ≡ false) → next ≤ next_after next r → IsScan (log ▸ r) (next_after next r) ts n ps m
  scan_same r none le =
      record {
        few = h.few;
        some = omega (arith, h.some, le);
        standing = logged_checkpoint base log lsn next kept kept at h.standing r none;
        used = raised_used next (next_after next r) es xs le h.used;
        recorded = recorded_more log r es h.recorded;
        logged = logged_more log r xs h.logged;
      }

  -- IT IS INSERTED, and continues
  module _ (tx : ℕ) (some : 0 < tx) (open_still : finished tx log ≡ false) (before : List TransactionEntry) (k : ℕ) (few : k ≤ TRANSACTIONS) (place : ℕ) (place_in : place < k) (room : k ≤ length before) (entered : IsEntered tx es (take k before) place) where
    abbrev above : ℕ
    above = max next (tx + 1)

    abbrev fs : List TransactionEntry
    fs = take k before

    abbrev own : TransactionEntry
    own = get_or fs place no_entry

    stranger : All (λ (e : TransactionEntry). e.tx ≢ tx) es → NoneBy tx xs
    stranger none i d l z =
        let gone : kept tx ≡ None = kept_none es xs tx none in
        let unused : has (is_of tx) log ≡ false = false_from_ne_true (has (is_of tx) log) (λ u. both_ways (finished tx log) open_still (h.standing.others tx gone u)) in
        elim (h.logged i d l) [
          | inl zero ↦ omega (arith, zero, z, some)
          | inr it ↦ both_ways (has (is_of tx) log) unused (subst (λ t. has (is_of t) log ≡ true) z it)
        ]

    fs_used : AreUsed above fs xs
    fs_used =
        elim entered [
          | inl s ↦ subst (λ z. AreUsed above z xs) (sym s.0) (raised_used next above es xs (omega arith) h.used)
          | inr s ↦
              subst (λ z. AreUsed above z xs) (sym s.2)
              (record {
                table = table_insert es place (fresh tx) s.1 some s.3 s.4 h.used.table;
                known = All-weaker (λ (p : PendingEntry). p.tx < next) (λ (p : PendingEntry). p.tx < above) (λ p l. omega (arith, l)) xs h.used.known;
                below = All-insert (λ (e : TransactionEntry). NoneBy e.tx (drop e.below xs)) es place (fresh tx) (stranger s.0) h.used.below;
              })
        ]

    -- each has a record, after one of this transaction
    fs_recorded : (r : LogRecord) → is_of tx r ≡ true → All (IsRecorded (log ▸ r)) fs
    fs_recorded r of =
        elim entered [
          | inl s ↦ subst (All (IsRecorded (log ▸ r))) (sym s.0) (recorded_more log r es h.recorded)
          | inr s ↦ subst (All (IsRecorded (log ▸ r))) (sym s.2) (All-insert (IsRecorded (log ▸ r)) es place (fresh tx) (or_left (is_of tx r) (has (is_of tx) log) of) (recorded_more log r es h.recorded))
        ]

    put_recorded : (r : LogRecord) (e : TransactionEntry) → e.tx ≡ tx → is_of tx r ≡ true → All (IsRecorded (log ▸ r)) (set fs place e)
    put_recorded r e e_is of = All-set (IsRecorded (log ▸ r)) fs place e (ap (λ t. has (is_of t) (log ▸ r)) e_is ∙ or_left (is_of tx r) (has (is_of tx) log) of) (fs_recorded r of)

    there : place < length fs
    there = omega (arith, place_in, length-take-le k before room)

    its : own.tx ≡ tx
    its =
        elim entered [
          | inl s ↦ ap (λ (z : List TransactionEntry). (get_or z place no_entry).tx) s.0 ∙ s.2 no_entry
          | inr s ↦ ap (λ (z : List TransactionEntry). (get_or z place no_entry).tx) s.2 ∙ ap (λ (e : TransactionEntry). e.tx) (get_or-insert_at es place (fresh tx) no_entry s.1)
        ]

    has_entry : HasEntry kept (kept_of fs xs) tx
    has_entry =
        elim entered [
          | inl s ↦
              (let x : Transaction = standing (get_or es place no_entry) xs in
              let was : kept tx ≡ Some x = kept_at es xs place no_entry tx h.used.table.rising s.1 (s.2 no_entry) in
              record { first = x; was = inl was; is = ap (λ z. kept_of z xs tx) s.0 ∙ was; others = λ t e. ap (λ z. kept_of z xs t) s.0 })
          | inr s ↦
              (let e : eqb tx tx ≡ true = eq-eqb tx tx refl in
              let new : (t : ℕ) → kept_of (insert es place (fresh tx)) xs t ≡ cond (eqb tx t) (Some (standing (fresh tx) xs)) (kept t) = kept_insert es xs place (fresh tx) s.1 s.0 in
              record {
                first = standing (fresh tx) xs;
                was = inr (kept_none es xs tx s.0, (refl, pending_none tx xs (stranger s.0)));
                is = ap (λ z. kept_of z xs tx) s.2 ∙ new tx ∙ rw e refl;
                others = λ t off. ap (λ z. kept_of z xs t) s.2 ∙ new t ∙ rw off refl;
              })
        ]

    put : (f : TransactionEntry → TransactionEntry) (now : List TransactionEntry) → now ≡ set before place (f (get_or before place no_entry)) → take k now ≡ set fs place (f own)
    put f now e = ap (take k) e ∙ take_set k before place (f (get_or before place no_entry)) place_in ∙ ap (λ y. set fs place (f y)) (sym (get_or-take k before place no_entry place_in))

    module _ (now : List TransactionEntry) where
      -- an abort and a prepare
      pub turned_noted : (state : ℕ) → Noted kept (kept_of (set fs place (in_state own state lsn)) xs) tx (HasChangedState (state_of state) lsn)
      turned_noted state = noted kept (kept_of fs xs) (kept_of (set fs place (in_state own state lsn)) xs) tx (HasChangedState (state_of state) lsn) has_entry (turns above fs xs fs_used place no_entry there tx its state lsn)

      pub scan_turns : (r : LogRecord) (state : ℕ) → is_of tx r ≡ true → now ≡ set before place (in_state (get_or before place no_entry) state lsn) → AreTransactions (log ▸ r) above (kept_of (set fs place (in_state own state lsn)) xs) → IsScan (log ▸ r) above now k ps m
      scan_turns r state of e holds =
          (let is = put (λ f. in_state f state lsn) now e in
          record {
            few = few;
            some = omega arith;
            standing = subst (λ z. AreTransactions (log ▸ r) above (kept_of z xs)) (sym is) holds;
            used = subst (λ z. AreUsed above z xs) (sym is) (turned_used above fs xs fs_used place no_entry there tx its state lsn);
            recorded = subst (All (IsRecorded (log ▸ r))) (sym is) (put_recorded r (in_state own state lsn) its of);
            logged = logged_more log r xs h.logged;
          })

      -- a CLR
      module _ (from : ℕ) (from_is : from ≡ min own.below m) (held : m ≤ length ps) (top : ℕ) (top_in : top < length (take from ps)) (top_its : (get_or (take from ps) top no_update).tx ≡ tx)
          (higher : (i : ℕ) (d : PendingEntry) → top < i → i < length (take from ps) → (get_or (take from ps) i d).tx ≢ tx) where
        long : length xs ≡ m
        long = length-take-le m ps held

        from_size : length (take from ps) ≡ from
        from_size = length-take-le from ps (omega (arith, from_is, held))

        same : (i : ℕ) → i < from → get_or (take from ps) i no_update ≡ get_or xs i no_update
        same i l = get_or-take from ps i no_update l ∙ sym (get_or-take m ps i no_update (omega (arith, l, from_is)))

        top_from : top < from
        top_from = omega (arith, top_in, from_size)

        none_later : NoneBy tx (drop (suc top) xs)
        none_later =
            none_behind above fs xs fs_used place no_entry there tx its from top no_update (omega (arith, from_is, long))
            (λ i l lt z. higher i no_update l (omega (arith, lt, from_size)) (ap (λ (p : PendingEntry). p.tx) (same i lt) ∙ z))

        pub scan_undoes : (c : CompensationRecord) (gone : List PendingEntry) → c.tx ≡ tx → Obeys base log (Compensation c) → now ≡ set before place (undone (get_or before place no_entry) lsn c.undo_next top) → gone ≡ set ps top (without_owner (get_or ps top no_update))
            → IsScan (log ▸ Compensation c) (next_after next (Compensation c)) now k gone m
        scan_undoes c gone c_is obeys e left =
            (let is = put (λ f. undone f lsn c.undo_next top) now e in
            let within : top < length xs = omega (arith, top_from, from_is, long) in
            let own_update : (get_or xs top no_update).tx ≡ tx = ap (λ (p : PendingEntry). p.tx) (sym (same top top_from)) ∙ top_its in
            let changes = undoes_changes above fs xs fs_used place no_entry there tx its top no_update within own_update none_later lsn c.undo_next in
            let used = undoes_used above fs xs fs_used place no_entry there tx its top no_update within own_update none_later lsn c.undo_next (omega arith) in
            let rest : take m gone ≡ set xs top (without_owner (get_or xs top no_update)) =
            ap (take m) left ∙ take_set m ps top (without_owner (get_or ps top no_update)) (omega (arith, top_from, from_is))
            ∙ ap (λ (p : PendingEntry). set xs top (without_owner p)) (sym (get_or-take m ps top no_update (omega (arith, top_from, from_is)))) in
            let after : ℕ → Option Transaction = kept_of (set fs place (undone own lsn c.undo_next top)) (set xs top (without_owner (get_or xs top no_update))) in
            let n' : Noted kept after c.tx (HasUndone lsn c.undo_next) = subst (λ t. Noted kept after t (HasUndone lsn c.undo_next)) (sym c_is) (noted kept (kept_of fs xs) after tx (HasUndone lsn c.undo_next) has_entry changes) in
            let holds : AreTransactions (log ▸ Compensation c) (next_after next (Compensation c)) after = logged_undo base log lsn next kept after at h.standing c obeys n' in
            let same_next : above ≡ next_after next (Compensation c) = ap (λ t. max next (t + 1)) (sym c_is) in
            record {
              few = few;
              some = omega arith;
              standing = subst (λ z. AreTransactions (log ▸ Compensation c) (next_after next (Compensation c)) (kept_of z (take m gone))) (sym is)
                  (subst (λ z. AreTransactions (log ▸ Compensation c) (next_after next (Compensation c)) (kept_of (set fs place (undone own lsn c.undo_next top)) z)) (sym rest) holds);
              used = subst (λ z. AreUsed (next_after next (Compensation c)) z (take m gone)) (sym is)
                  (subst (λ z. AreUsed (next_after next (Compensation c)) (set fs place (undone own lsn c.undo_next top)) z) (sym rest)
                  (subst (λ w. AreUsed w (set fs place (undone own lsn c.undo_next top)) (set xs top (without_owner (get_or xs top no_update)))) same_next used));
              recorded = subst (All (IsRecorded (log ▸ Compensation c))) (sym is) (put_recorded (Compensation c) (undone own lsn c.undo_next top) its (eq-eqb c.tx tx c_is));
              logged = subst (All (IsLogged (log ▸ Compensation c))) (sym rest)
                  (All-set (IsLogged (log ▸ Compensation c)) xs top (without_owner (get_or xs top no_update)) (inl refl) (logged_more log (Compensation c) xs h.logged));
            })

      -- an update
      module _ (top : ℕ) (more : List PendingEntry) (top_in : top < length ps) (size_more : length more ≡ length ps) (made : IsRoomMade fs m top ps more) where
        abbrev ys : List PendingEntry
        ys = take top more

        ys_size : length ys ≡ top
        ys_size = length-take-le top more (omega (arith, top_in, size_more))

        front : (top ≡ m) × (more ≡ ps) → ys ≡ xs
        front s = ap (take top) s.1 ∙ ap (λ i. take i ps) s.0

        ys_used : AreUsed above fs ys
        ys_used = elim made [ inl s ↦ subst (AreUsed above fs) (sym (front s)) fs_used | inr s ↦ subst (AreUsed above fs) (sym s.1) (left_used above fs xs fs_used s.0) ]

        ys_kept : (t : ℕ) → kept_of fs ys t ≡ kept_of fs xs t
        ys_kept t = elim made [ inl s ↦ ap (λ z. kept_of fs z t) (front s) | inr s ↦ ap (λ z. kept_of fs z t) s.1 ∙ left_kept above fs xs fs_used s.0 t ]

        ys_logged : All (IsLogged log) ys
        ys_logged = elim made [ inl s ↦ subst (All (IsLogged log)) (sym (front s)) h.logged | inr s ↦ subst (All (IsLogged log)) (sym s.1) (All-left (IsLogged log) xs h.logged fs s.0) ]

        ys_entry : HasEntry kept (kept_of fs ys) tx
        ys_entry = record { first = has_entry.first; was = has_entry.was; is = ys_kept tx ∙ has_entry.is; others = λ t e. ys_kept t ∙ has_entry.others t e }

        pub scan_updates : (u : UpdateRecord) (p : PendingEntry) (gone : List PendingEntry) → IsKeptOf p lsn u → u.tx ≡ tx → Obeys base log (Update u) → now ≡ set before place (updated (get_or before place no_entry) p.lsn (top + 1)) → gone ≡ set more top p
            → IsScan (log ▸ Update u) (next_after next (Update u)) now k gone (top + 1)
        scan_updates u p gone keeps u_is obeys e left =
            (let is : take k now ≡ set fs place (updated own p.lsn (length ys + 1)) = put (λ f. updated f p.lsn (top + 1)) now e ∙ ap (λ i. set fs place (updated own p.lsn (i + 1))) (sym ys_size) in
            let rest : take (top + 1) gone ≡ ys ++ p ∷ [] = ap (take (top + 1)) left ∙ take_more_set more top p (omega (arith, top_in, size_more)) in
            let by : p.tx ≡ tx = keeps.tx ∙ u_is in
            let changes = updates_changes above fs ys ys_used place no_entry there tx its p by (omega arith) in
            let used = updates_used above fs ys ys_used place no_entry there tx its p by (omega arith) in
            let after : ℕ → Option Transaction = kept_of (set fs place (updated own p.lsn (length ys + 1))) (ys ++ p ∷ []) in
            let what : Pending = record { lsn = lsn; prev = u.prev; page = u.page; slot = u.slot; before = u.before } in
            let what_is : update_of p ≡ what =
            ap (λ i. record { lsn = i; prev = p.prev; page = p.page; slot = p.slot; before = (update_of p).before }) keeps.lsn_is
            ∙ ap (λ i. record { lsn = lsn; prev = i; page = p.page; slot = p.slot; before = (update_of p).before }) keeps.prev
            ∙ ap (λ i. record { lsn = lsn; prev = u.prev; page = i; slot = p.slot; before = (update_of p).before }) keeps.page
            ∙ ap (λ i. record { lsn = lsn; prev = u.prev; page = u.page; slot = i; before = (update_of p).before }) keeps.slot
            ∙ ap (λ i. record { lsn = lsn; prev = u.prev; page = u.page; slot = u.slot; before = i }) keeps.before in
            let n' : Noted kept after u.tx (HasUpdated what) =
            subst (λ t. Noted kept after t (HasUpdated what)) (sym u_is)
            (subst (λ w. Noted kept after tx (HasUpdated w)) what_is (noted kept (kept_of fs ys) after tx (HasUpdated (update_of p)) ys_entry changes)) in
            let holds : AreTransactions (log ▸ Update u) (next_after next (Update u)) after = logged_update base log lsn next kept after at h.standing u obeys n' in
            let same_next : above ≡ next_after next (Update u) = ap (λ t. max next (t + 1)) (sym u_is) in
            let own_logged : IsLogged (log ▸ Update u) p = inr (or_left (eqb u.tx p.tx) (has (is_of p.tx) log) (eq-eqb u.tx p.tx (sym keeps.tx))) in
            record {
              few = few;
              some = omega arith;
              standing = subst (λ z. AreTransactions (log ▸ Update u) (next_after next (Update u)) (kept_of z (take (top + 1) gone))) (sym is)
                  (subst (λ z. AreTransactions (log ▸ Update u) (next_after next (Update u)) (kept_of (set fs place (updated own p.lsn (length ys + 1))) z)) (sym rest) holds);
              used = subst (λ z. AreUsed (next_after next (Update u)) z (take (top + 1) gone)) (sym is)
                  (subst (λ z. AreUsed (next_after next (Update u)) (set fs place (updated own p.lsn (length ys + 1))) z) (sym rest)
                  (subst (λ w. AreUsed w (set fs place (updated own p.lsn (length ys + 1))) (ys ++ p ∷ [])) same_next used));
              recorded = subst (All (IsRecorded (log ▸ Update u))) (sym is) (put_recorded (Update u) (updated own p.lsn (length ys + 1)) its (eq-eqb u.tx tx u_is));
              logged = subst (All (IsLogged (log ▸ Update u))) (sym rest) (All-push (IsLogged (log ▸ Update u)) ys p (logged_more log (Update u) ys ys_logged) own_logged);
            })

    pub fs_table : IsTable fs
    fs_table = fs_used.table

    -- WHAT IS REFUSED
    first_is : IsTransaction log tx has_entry.first
    first_is =
        elim has_entry.was [
          | inl e ↦ h.standing.each tx has_entry.first e
          | inr p ↦ begun tx log has_entry.first p.1.0 p.1.1 (false_from_ne_true (has (is_of tx) log) (λ u. both_ways (finished tx log) open_still (h.standing.others tx p.0 u)))
        ]

    fs_at : (i : ℕ) (d : TransactionEntry) → i < length fs → kept_of fs xs (get_or fs i d).tx ≡ Some (standing (get_or fs i d) xs)
    fs_at i d l = kept_at fs xs i d (get_or fs i d).tx fs_used.table.rising l refl

    -- what stands in each entry is what the log says
    fs_is : (i : ℕ) (d : TransactionEntry) → i < length fs → IsTransaction log (get_or fs i d).tx (standing (get_or fs i d) xs)
    fs_is i d l =
        let e : TransactionEntry = get_or fs i d in
        elim (cases_Bool (eqb tx e.tx)) [
          | inl on ↦
              (let same : tx ≡ e.tx = eqb-true tx e.tx on in
              let at : kept_of fs xs tx ≡ Some (standing e xs) = ap (kept_of fs xs) same ∙ fs_at i d l in
              let one : has_entry.first ≡ standing e xs = (let two = has_entry.is in cc) in
              subst (λ t. IsTransaction log t (standing e xs)) same (subst (IsTransaction log tx) one first_is))
          | inr off ↦ h.standing.each e.tx (standing e xs) (sym (has_entry.others e.tx off) ∙ fs_at i d l)
        ]

    pending_size : (e : TransactionEntry) → IsTransaction log e.tx (standing e xs) → length (pending e.tx log) ≡ length (pending_of e.tx xs)
    pending_size e is = ap length is.stack ∙ length-reverse (map lsn_in (pending_of e.tx xs)) ∙ length-map (pending_of e.tx xs) lsn_in

    -- each entry of a full array is of a pending update, and there is one more
    pub no_room : (u : UpdateRecord) → u.tx ≡ tx → m ≡ length ps → AllLive fs ps → length ps < pending_count (log ▸ Update u)
    no_room u u_is full live =
        let whole : xs ≡ ps = take_all m ps (omega (arith, full)) in
        let of : is_of tx (Update u) ≡ true = eq-eqb u.tx tx u_is in
        let going : All (λ (e : TransactionEntry). is_unfinished e.tx (log ▸ Update u) ≡ true) fs =
        λ i d l.
        and_from (has (is_of (get_or fs i d).tx) (log ▸ Update u)) (not (finished (get_or fs i d).tx (log ▸ Update u))) (fs_recorded (Update u) of i d l) (ap not (fs_is i d l).unfinished) in
        let all = live_total fs xs fs_used.table.rising (subst (AllLive fs) (sym whole) live) in
        let more =
        sum_one_more (λ (e : TransactionEntry). length (pending_of e.tx xs)) (λ (e : TransactionEntry). length (pending e.tx (log ▸ Update u))) fs place no_entry there
        (let on : eqb u.tx own.tx ≡ true = eq-eqb u.tx own.tx (u_is ∙ sym its) in let size = pending_size own (fs_is place no_entry there) in rw on (omega (arith, size)))
        (λ i d l.
        let size = pending_size (get_or fs i d) (fs_is i d l) in
        elim (cases_Bool (eqb u.tx (get_or fs i d).tx)) [
          | inl on ↦ rw on (omega (arith, size))
          | inr off ↦ rw off (omega (arith, size))
        ]) in
        let top = summed (log ▸ Update u) fs fs_used.table.rising going in
        let size = ap length whole in
        omega (arith, all, more, top, size)

    pub room_refused : (u : UpdateRecord) (room : ℕ) → u.tx ≡ tx → m ≤ length ps → (e : Refusal) → IsNoRoom fs m ps e → NoteRefused (log ▸ Update u) room (length ps) e
    room_refused u room u_is held NoPendingRoom r = no_room u u_is r.0 (r.1 fs_used.table)
    room_refused u room u_is held BadArrays r = absurd (omega (arith, held, r))
    room_refused u room u_is held e r = absurd r

    -- where none of its updates stands below its place, none is pending
    pub nothing_left : (from : ℕ) → from ≡ min own.below m → m ≤ length ps → NoneBy tx (take from ps) → pending tx log ≡ []
    nothing_left from from_is held none =
        let long : length xs ≡ m = length-take-le m ps held in
        let empty : NoneBy tx xs =
        λ k d l.
        elim (cases_lt k from) [
          | inl low ↦
              (let at : get_or (take from ps) k d ≡ get_or xs k d = get_or-take from ps k d low ∙ sym (get_or-take m ps k d (omega (arith, l, long))) in
              let room : k < length (take from ps) = omega (arith, low, length-take-le from ps (omega (arith, from_is, held))) in
              λ z. none k d room (ap (λ (p : PendingEntry). p.tx) at ∙ z))
          | inr ge ↦
              (let far : own.below ≤ k = omega (arith, ge, from_is, l, long) in
              let rest : k - own.below < length (drop own.below xs) = omega (arith, l, length-drop own.below xs, far) in
              let back : own.below + (k - own.below) ≡ k = omega (arith, far) in
              let moved : get_or (drop own.below xs) (k - own.below) d ≡ get_or xs k d = get_or-drop own.below xs (k - own.below) d ∙ ap (λ n. get_or xs n d) back in
              λ z. fs_used.below place no_entry there (k - own.below) d rest (ap (λ (p : PendingEntry). p.tx) moved ∙ z ∙ sym its))
        ] in
        ap (λ t. pending t log) (sym its)
        ∙ none_pending log own.tx (standing own xs) (subst (λ t. pending_of t xs ≡ []) (sym its) (pending_none tx xs empty)) (fs_is place no_entry there)

-- before the first record
pub scan_none : (base : ℕ) (ts : List TransactionEntry) (ps : List PendingEntry) → IsScan (start base) 1 ts 0 ps 0
scan_none base ts ps =
    record {
      few = omega arith;
      some = omega arith;
      standing = none_stands base (kept_of [] []) (λ t. kept_nil [] t);
      used = record {
        table = record { rising = tt; some = λ k d l. absurd (omega (arith, l)) };
        known = λ k d l. absurd (omega (arith, l));
        below = λ k d l. absurd (omega (arith, l));
      };
      recorded = λ k d l. absurd (omega (arith, l));
      logged = λ k d l. absurd (omega (arith, l));
    }

pub on_ok_at : {T E : Type 0} {P Q : T → Type 0} (r : Result T E) → ((x : T) → P x → Q x) → IfOk r P → IfOk r Q
on_ok_at (Ok x) f h = f x h
on_ok_at (Err e) f h = tt

pub on_err_at : {T E : Type 0} {P Q : E → Type 0} (r : Result T E) → ((e : E) → P e → Q e) → IfErr r P → IfErr r Q
on_err_at (Ok x) f h = tt
on_err_at (Err e) f h = f e h
