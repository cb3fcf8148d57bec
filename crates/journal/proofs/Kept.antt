-- A journal that owns its arrays, after an operation on them.
use Rattle.std.proofs.Common.{◌≡◌, ◌≤◌, ◌+◌, ◌*◌, ◌-◌, ℕ, List, [], ◌∷◌, ◌++◌, length, take, drop, map, refl, sym, ap, ap₂, subst, ◌∙◌, arith, append_assoc, append-nil, length-append}
use Rattle.wal.specs.Headers.{header_of}
use Rattle.std.proofs.lemmas.List.{take-append-drop, take_at, length-take-le, length-drop, drop-append-le, drop_all}
use Rattle.log_laws.specs.Records.{TableEntry, LogRecord, CheckpointBegin, CheckpointEnd, history, last_lsn, lsn_before}
use Rattle.log_laws.specs.Meaning.{BasePages}
use Rattle.wal.specs.Reads.{spellings}
use Rattle.wal.specs.Spelling.{frame}
use Rattle.log_laws.proofs.Histories.{size_of_log}
use Rattle.page.specs.declared.profile.TheConstants.{TRANSACTIONS}
use Rattle.journal.specs.declared.framing.TheConstants.{LONGEST_UNDO}
use Rattle.journal.specs.declared.entries.Head.{Head}
use Rattle.journal.specs.declared.entries.TransactionEntry.{TransactionEntry}
use Rattle.journal.specs.declared.entries.PendingEntry.{PendingEntry}
use Rattle.journal.specs.declared.entries.PageEntry.{PageEntry}
use Rattle.journal.specs.declared.owned.Journal.TheInside.{Inside}
use Rattle.journal.specs.Runs.{Run, opened, appended, reported, log_before, content_of, log_of}
use Rattle.journal.specs.Arrays.{kept_of, page_state_of, AreUsed, owed, OwesLess}
use Rattle.journal.specs.State.{Agrees, IsJournal}
use Rattle.journal.specs.Writing.{Begins, IsWritten}
use Rattle.journal.specs.Taken.{checkpoint_text, run_taken}
use Rattle.journal.specs.JournalState.{JournalState, frames_after, Keeps, TakesCheckpoint, FramesAreLog}
use Rattle.journal.specs.Owned.{seen, IsWithin}
use Rattle.journal.proofs.Files.{spellings_append}
use Rattle.journal.proofs.Runs.{log_is}
use Rattle.journal.proofs.Owed.{owed_bound}

begins_same : (run : Run) → (content_of run).begins ≡ (log_before run).begins
begins_same (opened log store) = refl
begins_same (appended run r) = begins_same run
begins_same (reported run page page_lsn) = begins_same run

base_before : (run : Run) → lsn_before (content_of run).begins ≤ last_lsn (history (log_before run))
base_before run =
    let s = size_of_log (log_before run) in
    let b : lsn_before (content_of run).begins ≡ lsn_before (log_before run).begins = ap lsn_before (begins_same run) in
    omega (arith, s, b)

-- the frame of one record more comes after those that there are
pub frames_more : (run : Run) (r : LogRecord) (last taken : ℕ) (frames : List ℕ) → last ≡ last_lsn (log_of run) → last_lsn (history (log_before run)) ≤ taken → taken ≤ last
    → frames ≡ frames_after taken (content_of run) → frames ++ frame r (last + 1) ≡ frames_after taken (content_of (appended run r))
frames_more run r last taken frames is opened_is within are =
    let rs : List LogRecord = (content_of run).records in
    let b : ℕ = lsn_before (content_of run).begins in
    let size : last ≡ b + length rs = is ∙ ap last_lsn (sym (log_is run)) ∙ size_of_log (content_of run) in
    let low : b ≤ taken = (let l = base_before run in omega (arith, l, opened_is)) in
    let front : List LogRecord = drop (taken - b) rs in
    let parted : drop (taken - b) (rs ++ r ∷ []) ≡ front ++ r ∷ [] = drop-append-le (taken - b) rs (r ∷ []) (omega (arith, size, within, low)) in
    let long : length front ≡ length rs - (taken - b) = length-drop (taken - b) rs in
    let at : taken + 1 + length front ≡ last + 1 = omega (arith, long, size, within, low) in
    sym
    (ap (spellings (taken + 1)) parted
    ∙ spellings_append (taken + 1) front (r ∷ [])
    ∙ ap₂ (λ (xs : List ℕ) (n : ℕ). xs ++ spellings n (r ∷ [])) (sym are) at
    ∙ ap (λ (xs : List ℕ). frames ++ xs) (append-nil (frame r (last + 1))))

-- a text that was written after the bytes that are filled
pub after_filled : (filled size : ℕ) (buffer before out rest text : List ℕ) → filled ≤ length buffer → Begins text before out → size ≡ length text
    → take (filled + size) (take filled buffer ++ (out ++ rest)) ≡ take filled buffer ++ text
after_filled filled size buffer before out rest text room is size_is =
    let front : List ℕ = take filled buffer in
    let left : List ℕ = drop (length text) before ++ rest in
    let long : filled + size ≡ length (front ++ text) = omega (arith, length-take-le filled buffer room, size_is, length-append front text) in
    ap (λ o. take (filled + size) (front ++ (o ++ rest))) is
    ∙ ap (λ o. take (filled + size) (front ++ o)) (append_assoc text (drop (length text) before) rest)
    ∙ ap (take (filled + size)) (sym (append_assoc front text left))
    ∙ take_at (front ++ text) left (filled + size) (sym long)

-- no frame comes after the last record
pub frames_none : (run : Run) (last : ℕ) → last ≡ last_lsn (log_of run) → [] ≡ frames_after last (content_of run)
frames_none run last is =
    let rs : List LogRecord = (content_of run).records in
    let b : ℕ = lsn_before (content_of run).begins in
    let size : last ≡ b + length rs = is ∙ ap last_lsn (sym (log_is run)) ∙ size_of_log (content_of run) in
    ap (spellings (last + 1)) (sym (drop_all (last - b) rs (omega (arith, size))))

-- a journal over arrays is one that owns them, where its frames are those after the LSN up to which they were taken
pub keeps : (base : BasePages) (run : Run) (head : Head) (ts : List TransactionEntry) (pages : List PageEntry) (ps : List PendingEntry) (frames : List ℕ) (taken room : ℕ)
    → IsJournal base run head ts pages ps → last_lsn (history (log_before run)) ≤ taken → taken ≤ head.last → frames ≡ frames_after taken (content_of run)
    → LONGEST_UNDO * (owed (take head.transactions ts) (take head.pending ps) + 1) ≤ room
    → Keeps base run (record { head = head; transactions = take head.transactions ts; pages = pages; pending = take head.pending ps; frames = frames; taken = taken; room = room })
keeps base run head ts pages ps frames taken room h opened_is within are enough =
    record { agrees = h.holds; used = h.arrays.used; some = h.arrays.some; lsns = h.reserve; enough = enough; opened = opened_is; within = within; frames_are = are }

module _ (base : BasePages) (run : Run) (a : Inside) (w : IsWithin a) (k : Keeps base run (seen a)) where
  -- its arrays are those of a journal
  pub journal_of : IsJournal base run a.head a.transactions.items a.pages.items a.pending.items
  journal_of =
      record {
        holds = k.agrees;
        arrays = record {
          room = omega (arith, w.table, w.transactions);
          few = w.transactions;
          pending_room = w.pending;
          some = k.some;
          used = k.used;
        };
        reserve = k.lsns;
      }

  filled : a.length ≤ length a.buffer.items
  filled = omega (arith, w.buffer)

  module _ (head : Head) (ts ts_now : List TransactionEntry) (pages pages_now : List PageEntry) (ps ps_now : List PendingEntry) (buffer before out rest buffer_now : List ℕ) (size reserved : ℕ)
      (ts_is : ts_now ≡ ts) (pages_is : pages_now ≡ pages) (ps_is : ps_now ≡ ps) (now_is : buffer_now ≡ take a.length buffer ++ (out ++ rest)) (buffer_is : take a.length buffer ≡ take a.length a.buffer.items) (room : a.length ≤ length buffer) where
    abbrev state : List TransactionEntry → List PageEntry → List PendingEntry → List ℕ → JournalState
    state xs ys zs bytes = record { head = head; transactions = take head.transactions xs; pages = ys; pending = take head.pending zs; frames = take (a.length + size) bytes; taken = a.taken; room = reserved }

    -- this text was appended
    keeps_text : (then : Run) (text : List ℕ) → last_lsn (history (log_before then)) ≡ last_lsn (history (log_before run)) → IsJournal base then head ts pages ps → Begins text before out → size ≡ length text
        → a.head.last ≤ head.last → take a.length a.buffer.items ++ text ≡ frames_after a.taken (content_of then) → LONGEST_UNDO * (owed (take head.transactions ts) (take head.pending ps) + 1) ≤ reserved
        → Keeps base then (state ts_now pages_now ps_now buffer_now)
    keeps_text then text same h written size_is last frames enough =
        subst (λ xs. Keeps base then (state xs pages_now ps_now buffer_now)) (sym ts_is)
        (subst (λ ys. Keeps base then (state ts ys ps_now buffer_now)) (sym pages_is)
        (subst (λ zs. Keeps base then (state ts pages zs buffer_now)) (sym ps_is)
        (subst (λ bytes. Keeps base then (state ts pages ps bytes)) (sym now_is)
        (record {
          agrees = h.holds;
          used = h.arrays.used;
          some = h.arrays.some;
          lsns = h.reserve;
          enough = enough;
          opened = omega (arith, same, k.opened);
          within = omega (arith, last, k.within);
          frames_are = after_filled a.length size buffer before out rest text room written size_is ∙ ap (λ (xs : List ℕ). xs ++ text) buffer_is ∙ frames;
        }))))

    -- one record was appended
    pub keeps_more : (r : LogRecord) → IsJournal base (appended run r) head ts pages ps → IsWritten r (a.head.last + 1) before out size
        → head.last ≡ a.head.last + 1 → LONGEST_UNDO * (owed (take head.transactions ts) (take head.pending ps) + 1) ≤ reserved
        → Keeps base (appended run r) (state ts_now pages_now ps_now buffer_now)
    keeps_more r h written last enough =
        keeps_text (appended run r) (frame r (a.head.last + 1)) refl h written.holds written.size_is (omega (arith, last))
        (frames_more run r a.head.last a.taken (take a.length a.buffer.items) k.agrees.last_is k.opened k.within k.frames_are) enough

    -- and the begin and the end of a checkpoint
    pub keeps_checkpoint : (entries : List TableEntry) (dirty : List (ℕ × ℕ)) → IsJournal base (run_taken run (a.head.last + 1) entries dirty) head ts pages ps
        → Begins (checkpoint_text (a.head.last + 1) entries dirty) before out → size ≡ length (checkpoint_text (a.head.last + 1) entries dirty)
        → head.last ≡ a.head.last + 2 → LONGEST_UNDO * (owed (take head.transactions ts) (take head.pending ps) + 1) ≤ reserved
        → Keeps base (run_taken run (a.head.last + 1) entries dirty) (state ts_now pages_now ps_now buffer_now)
    keeps_checkpoint entries dirty h written size_is last enough =
        let begun : Run = appended run CheckpointBegin in
        let first : List ℕ = frame CheckpointBegin (a.head.last + 1) in
        let end : LogRecord = CheckpointEnd (a.head.last + 1) entries dirty in
        let one = frames_more run CheckpointBegin a.head.last a.taken (take a.length a.buffer.items) k.agrees.last_is k.opened k.within k.frames_are in
        let last_is : a.head.last + 1 ≡ last_lsn (log_of begun) = (let l = k.agrees.last_is in omega (arith, l)) in
        let two = frames_more begun end (a.head.last + 1) a.taken (take a.length a.buffer.items ++ first) last_is k.opened (omega (arith, k.within)) one in
        keeps_text (run_taken run (a.head.last + 1) entries dirty) (checkpoint_text (a.head.last + 1) entries dirty) refl h written size_is (omega (arith, last))
        (sym (append_assoc (take a.length a.buffer.items) first (frame end (a.head.last + 1 + 1))) ∙ two) enough

-- less is owed, by one record at least, which takes this much room
pub enough_left : (es fs : List TransactionEntry) (xs ys : List PendingEntry) (size room left : ℕ) → OwesLess es xs fs ys → LONGEST_UNDO * (owed es xs + 1) ≤ room → size ≤ LONGEST_UNDO → left ≡ room - size
    → LONGEST_UNDO * (owed fs ys + 1) ≤ left
enough_left es fs xs ys size room left less enough small is = omega (arith, less, enough, small, is)

-- room for all that may be owed
pub enough_room : (next n m : ℕ) (ts : List TransactionEntry) (ps : List PendingEntry) (count : ℕ) (room : ℕ) → AreUsed next (take n ts) (take m ps) → n ≤ TRANSACTIONS → n ≤ length ts → m ≤ length ps → length ps ≡ count
    → room ≡ LONGEST_UNDO * (2 * TRANSACTIONS + 1 + count) → LONGEST_UNDO * (owed (take n ts) (take m ps) + 1) ≤ room
enough_room next n m ts ps count room used few in_table in_pending is room_is =
    let b = owed_bound (take n ts) (take m ps) used.table.rising in
    omega (arith, b, length-take-le n ts in_table, length-take-le m ps in_pending, few, in_pending, is, room_is)

pub takes_from : (before same after : JournalState) → before ≡ same → TakesCheckpoint before after → TakesCheckpoint same after
takes_from before same after e h = subst (λ v. TakesCheckpoint v after) e h

-- the array of pending updates may be longer
pub grown : (base : BasePages) (run : Run) (head : Head) (ts : List TransactionEntry) (pages : List PageEntry) (ps qs : List PendingEntry)
    → take head.pending qs ≡ take head.pending ps → length ps ≤ length qs → IsJournal base run head ts pages ps → IsJournal base run head ts pages qs
grown base run head ts pages ps qs same room h =
    record {
      holds = subst (λ z. Agrees base run head.last head.next (kept_of (take head.transactions ts) z) (map page_state_of pages)) (sym same) h.holds;
      arrays = record {
        room = h.arrays.room;
        few = h.arrays.few;
        pending_room = omega (arith, room, h.arrays.pending_room);
        some = h.arrays.some;
        used = subst (λ z. AreUsed head.next (take head.transactions ts) z) (sym same) h.arrays.used;
      };
      reserve = (let e = ap (λ z. owed (take head.transactions ts) z) same in omega (arith, e, h.reserve));
    }

pub less_enough : (es fs : List TransactionEntry) (xs ys : List PendingEntry) (room : ℕ) → OwesLess es xs fs ys → LONGEST_UNDO * (owed es xs + 1) ≤ room → LONGEST_UNDO * (owed fs ys + 1) ≤ room
less_enough es fs xs ys room less enough = omega (arith, less, enough)

-- the same where the arrays are given in other words
pub keeps_now : (base : BasePages) (run : Run) (head : Head) (ts ts_now : List TransactionEntry) (pages pages_now : List PageEntry) (ps ps_now : List PendingEntry) (frames : List ℕ) (taken room : ℕ)
    → ts_now ≡ ts → pages_now ≡ pages → ps_now ≡ ps
    → Keeps base run (record { head = head; transactions = take head.transactions ts; pages = pages; pending = take head.pending ps; frames = frames; taken = taken; room = room })
    → Keeps base run (record { head = head; transactions = take head.transactions ts_now; pages = pages_now; pending = take head.pending ps_now; frames = frames; taken = taken; room = room })
keeps_now base run head ts ts_now pages pages_now ps ps_now frames taken room ts_is pages_is ps_is k =
    let state : List TransactionEntry → List PageEntry → List PendingEntry → JournalState = λ xs ys zs. record { head = head; transactions = take head.transactions xs; pages = ys; pending = take head.pending zs; frames = frames; taken = taken; room = room } in
    subst (λ xs. Keeps base run (state xs pages_now ps_now)) (sym ts_is) (subst (λ ys. Keeps base run (state ts ys ps_now)) (sym pages_is) (subst (λ zs. Keeps base run (state ts pages zs)) (sym ps_is) k))

pub frames_are_log : FramesAreLog
frames_are_log base run j k =
    let rs : List LogRecord = (content_of run).records in
    let b : ℕ = lsn_before (content_of run).begins in
    let n : ℕ = j.taken - b in
    let last : j.head.last ≡ b + length rs = k.agrees.last_is ∙ ap last_lsn (sym (log_is run)) ∙ size_of_log (content_of run) in
    let low : b ≤ j.taken = (let l = base_before run in omega (arith, l, k.opened)) in
    let front : List LogRecord = take n rs in
    let size : length front ≡ n = length-take-le n rs (omega (arith, last, k.within, low)) in
    let at : b + 1 + length front ≡ j.taken + 1 = omega (arith, size, low) in
    let parted : spellings (b + 1) front ++ j.frames ≡ spellings (b + 1) rs =
    ap (λ (xs : List ℕ). spellings (b + 1) front ++ xs) k.frames_are
    ∙ ap (λ (m : ℕ). spellings (b + 1) front ++ spellings m (drop n rs)) (sym at)
    ∙ sym (spellings_append (b + 1) front (drop n rs)) ∙ ap (spellings (b + 1)) (take-append-drop n rs) in
    append_assoc (header_of (content_of run).begins) (spellings (b + 1) front) j.frames ∙ ap (λ (xs : List ℕ). header_of (content_of run).begins ++ xs) parted
