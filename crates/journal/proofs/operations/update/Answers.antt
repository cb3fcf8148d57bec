use Rattle.std.proofs.Common.{◌≡◌, true, map, ◌<◌, ◌+◌, ◌*◌, ◌^◌, ℕ, None, List, length, get_or, set, take, sym, ap, subst, ◌∙◌, arith, length-append, refl, ◌≤◌}
use Rattle.std.proofs.lemmas.Result.{err_from_is_err_and}
use Rattle.page.specs.Image.{Image as Content}
use Rattle.log_laws.specs.Records.{LogRecord, Update}
use Rattle.log_laws.specs.Meaning.{last_of, replay}
use Rattle.wal.specs.Spelling.{Fits, frame, image}
use Rattle.journal.specs.declared.entries.TransactionEntry.{TransactionEntry}
use Rattle.journal.specs.declared.entries.PendingEntry.{PendingEntry}
use Rattle.journal.specs.declared.entries.PageEntry.{PageEntry}
use Rattle.journal.specs.declared.table.Need.TheVariants.{Working}
use Rattle.journal.specs.declared.refusal.Refusal.{Refusal}
use Rattle.journal.specs.declared.refusal.Refusal.TheVariants.{NoPendingRoom, BadArrays}
use Rattle.journal.specs.declared.image.Image.{Image}
use Rattle.journal.specs.declared.entries.Head.{Head}
use Rattle.journal.specs.Refusals.{allows, IsNotRoom, EntryRefused, CellRefused, UpdateRefused}
use Rattle.journal.specs.Runs.{Run, log_of}
use Rattle.journal.specs.Transactions.{IsFreeFor}
use Rattle.journal.specs.Arrays.{state_of, kept_of, page_state_of, image_of, IsTable, IsRoomMade, IsNoRoom}
use Rattle.journal.specs.Writing.{IsWritten}
use Rattle.journal.specs.State.{update_by}
use Rattle.journal.proofs.Refused.{update_refused, cell_refused}
use Rattle.journal.proofs.Journals.{no_entry, kept_is, updated_is, updated_others, value_is}
use Rattle.journal.proofs.operations.update.Goals as goal

pub returns-in_err-place : goal.returns-in_err-place
returns-in_err-place c =
    let exit = err_from_is_err_and c.from_residual-in_err-place.result c.from_residual-in_err-place.ensures.1 in
    let ts : List TransactionEntry = c.args.transactions.now in
    let e : take c.in_ok-count.count ts ≡ take c.args.head.now.transactions ts = ap (λ n. take n ts) c.in_ok-count.ensures.ok in
    rw exit.1 (record {
      ok = tt;
      enough = λ _. rw exit.2 c.in_err-place.ensures.kind;
      count = refl;
      rest = record { written = refl; next = refl };
      same = record { head = refl; transactions = refl; pages = refl; pending = refl; out = refl };
      refused = rw exit.2 (λ base run h.
          let xs = take c.args.head.now.pending c.args.pending.now in
          let table = subst IsTable (sym e) h.arrays.used.table in
          update_refused base run c.args.head.now.last c.args.head.now.next _ (map page_state_of c.args.pages.now) h.holds c.args.tx c.args.page c.args.slot c.args.after.now _ (length c.args.out.now) c.args.head.now ts c.args.pending.now c.in_err-place.field-0.0
          (subst (λ (zs : List TransactionEntry). EntryRefused Working (kept_of zs xs) c.args.tx c.in_err-place.field-0.0) e (c.in_err-place.ensures.err xs table)));
    })

pub returns-in_err-before : goal.returns-in_err-before
returns-in_err-before c =
    let exit = err_from_is_err_and c.from_residual-in_err-before.result c.from_residual-in_err-before.ensures.1 in
    let ts : List TransactionEntry = c.args.transactions.now in
    let e : take c.in_ok-count.count ts ≡ take c.args.head.now.transactions ts = ap (λ n. take n ts) c.in_ok-count.ensures.ok in
    rw exit.1 (record {
      ok = tt;
      enough = λ _. rw exit.2 c.in_err-before.ensures.kind;
      count = refl;
      rest = record { written = refl; next = refl };
      same = record { head = refl; transactions = refl; pages = refl; pending = refl; out = refl };
      refused = rw exit.2 (λ base run h.
          let xs = take c.args.head.now.pending c.args.pending.now in
          let table = subst IsTable (sym e) h.arrays.used.table in
          cell_refused base run c.args.head.now.last c.args.head.now.next _ (map page_state_of c.args.pages.now) h.holds c.args.tx c.args.page c.args.slot c.args.after.now _ (length c.args.out.now) c.args.head.now ts c.args.pending.now c.in_err-before.field-0.0
          (subst (λ (zs : List TransactionEntry). CellRefused (map page_state_of c.args.pages.now) (kept_of zs xs) c.args.tx c.args.page c.args.slot c.in_err-before.field-0.0) e (c.in_err-before.ensures.err xs table)));
    })

pub returns-in_err-room_for : goal.returns-in_err-room_for
returns-in_err-room_for c =
    let exit = err_from_is_err_and c.from_residual-in_err-room_for.result c.from_residual-in_err-room_for.ensures.1 in
    let ts : List TransactionEntry = c.args.transactions.now in
    let short = c.in_err-room_for.ensures.short in
    rw exit.1 (record {
      ok = tt;
      enough = λ h. absurd (omega (arith, h, c.in_err-room_for.ensures.short, c.update_size.ensures.short));
      count = refl;
      rest = record { written = refl; next = refl };
      same = record { head = refl; transactions = refl; pages = refl; pending = refl; out = refl };
      refused = rw exit.2 (λ base run h.
          let before : image_of c.in_ok-before.before.now ≡ replay base (log_of run) c.args.page c.args.slot = value_is base run c.args.head.now ts c.args.pages.now c.args.pending.now h c.args.page c.args.slot c.in_ok-before.ensures.page c.in_ok-before.ensures.slot (image_of c.in_ok-before.before.now) c.in_ok-before.ensures.value in
          let same : length (image (image_of c.in_ok-before.before.now)) ≡ length (image (replay base (log_of run) c.args.page c.args.slot)) = ap (λ b. length (image b)) before in
          let size : c.update_size.result ≡ length (frame (update_by base run c.args.tx c.args.page c.args.slot (image_of c.args.after.now)) (c.args.head.now.last + 1)) =
          omega (arith, c.update_size.ensures.size, same, length-append (image (replay base (log_of run) c.args.page c.args.slot)) (image (image_of c.args.after.now))) in
          subst (UpdateRefused run c.args.tx c.args.page c.args.slot c.args.after.now (length (frame (update_by base run c.args.tx c.args.page c.args.slot (image_of c.args.after.now)) (c.args.head.now.last + 1))) (length c.args.out.now) c.args.head.now ts c.args.pending.now)
          (sym c.in_err-room_for.ensures.err) (size, omega (arith, short, size)));
    })

-- an array of pending updates without room for one more
not_frame_room : (es : List TransactionEntry) (count : ℕ) (ps : List PendingEntry) (e : Refusal) → IsNoRoom es count ps e → IsNotRoom e
not_frame_room es count ps NoPendingRoom h = tt
not_frame_room es count ps BadArrays h = tt
not_frame_room es count ps e h = absurd h

full_refused : (run : Run) (tx page slot : ℕ) (after : Image) (size room : ℕ) (head : Head) (ts : List TransactionEntry) (ps : List PendingEntry) (e : Refusal)
    → IsTable (take head.transactions ts) → head.pending ≤ length ps → IsNoRoom (take head.transactions ts) head.pending ps e → UpdateRefused run tx page slot after size room head ts ps e
full_refused run tx page slot after size room head ts ps NoPendingRoom table within h = (h.0, h.1 table)
full_refused run tx page slot after size room head ts ps BadArrays table within h = absurd (omega (arith, h, within))
full_refused run tx page slot after size room head ts ps e table within h = absurd h

pub returns-in_err-top : goal.returns-in_err-top
returns-in_err-top c =
    let exit = err_from_is_err_and c.from_residual-in_err-top.result c.from_residual-in_err-top.ensures.1 in
    let ts : List TransactionEntry = c.args.transactions.now in
    let ps : List PendingEntry = c.args.pending.now in
    let e : take c.in_ok-count.count ts ≡ take c.args.head.now.transactions ts = ap (λ n. take n ts) c.in_ok-count.ensures.ok in
    let cause : IsNoRoom (take c.args.head.now.transactions ts) c.args.head.now.pending ps c.in_err-top.field-0.0 =
    subst (λ (zs : List TransactionEntry). IsNoRoom zs c.args.head.now.pending ps c.in_err-top.field-0.0) e c.in_err-top.ensures.causes in
    rw exit.1 (record {
      ok = tt;
      enough = λ _. rw exit.2 (not_frame_room _ _ _ c.in_err-top.field-0.0 cause);
      count = refl;
      rest = record { written = refl; next = refl };
      same = record { head = refl; transactions = refl; pages = refl; pending = c.in_err-top.ensures.err; out = refl };
      refused = rw exit.2 (λ base run h.
          full_refused run c.args.tx c.args.page c.args.slot c.args.after.now _ (length c.args.out.now) c.args.head.now ts ps c.in_err-top.field-0.0 h.arrays.used.table h.arrays.pending_room cause);
    })

pub returns-clause-ok : goal.returns-clause-ok
returns-clause-ok c =
    let head : Head = c.args.head.now in
    let ts : List TransactionEntry = c.args.transactions.now in
    let ps : List PendingEntry = c.args.pending.now in
    let pages : List PageEntry = c.args.pages.now in
    let tx : ℕ = c.args.tx in
    let place : ℕ = c.in_ok-place.place in
    let top : ℕ = c.in_ok-top.top in
    let room : List PendingEntry = c.room_for_one.new.pending in
    let lsn : ℕ = c.in_ok-lsn.lsn in
    let before : Image = c.in_ok-before.before.now in
    let es : List TransactionEntry = take head.transactions ts in
    let e : take c.in_ok-count.count ts ≡ es = ap (λ n. take n ts) c.in_ok-count.ensures.ok in
    let within : place < length es = subst (λ (xs : List TransactionEntry). place < length xs) e c.in_ok-place.ensures.within in
    let found : (get_or es place no_entry).tx ≡ tx = subst (λ (xs : List TransactionEntry). (get_or xs place no_entry).tx ≡ tx) e (c.in_ok-place.ensures.found no_entry) in
    let prev : (get_or (take c.in_ok-count.count ts) place no_entry).last ≡ (get_or es place no_entry).last = ap (λ (xs : List TransactionEntry). (get_or xs place no_entry).last) e in
    let made : IsTable es → IsRoomMade es head.pending top ps room =
    λ table. subst (λ (zs : List TransactionEntry). IsRoomMade zs head.pending top ps room) e (c.in_ok-top.ensures.kept (subst IsTable (sym e) table)) in
    let pushed = c.note_update.ensures.pending ∙ ap (λ k. set room top (record { lsn = lsn; prev = k; tx = tx; page = c.args.page; slot = c.args.slot; before = before })) prev in
    let enough = subst (λ n. head.last + 2 + 2 * n + head.pending < 2 ^ 64) c.in_ok-count.ensures.ok c.in_ok-reserve.ensures.ok in
    let allowed = subst (λ (xs : List TransactionEntry). allows Working (state_of (get_or xs place no_entry).state) ≡ true) e (c.in_ok-place.ensures.allowed no_entry) in
    let record_of : ℕ → Content → LogRecord = λ k b. Update (record { tx = tx; prev = k; page = c.args.page; slot = c.args.slot; before = b; after = image_of c.args.after.now }) in
    let fits = subst (λ k. Fits (record_of k (image_of before))) prev c.put_update-size.ensures.fits in
    record {
      journal = λ base run h.
          updated_is base run head ts pages ps h tx place within found top room c.in_ok-top.ensures.within c.room_for_one.auto.pending (made h.arrays.used.table)
          lsn c.in_ok-lsn.ensures.ok c.in_ok-lsn.ensures.few c.args.page c.args.slot before c.args.after.now c.note_update.new.transactions c.note_update.new.pending c.change_cell.new.pages enough
          (c.note_update.ensures.transaction no_entry) pushed c.change_cell.ensures c.in_ok-before.ensures.page c.in_ok-before.ensures.slot c.in_ok-before.ensures.value
          (λ zs d t. subst (λ (xs : List TransactionEntry). IsFreeFor (kept_of xs zs) (get_or (get_or (map page_state_of pages) c.args.page d).writers c.args.slot None) tx) e (c.in_ok-before.ensures.free zs d (subst IsTable (sym e) h.arrays.used.table)))
          allowed fits;
      written = λ base run h.
          let last : (get_or (take c.in_ok-count.count ts) place no_entry).last ≡ last_of tx (log_of run) =
          prev ∙ (h.holds.transactions.each tx _ (kept_is base run head ts pages ps h tx place within found)).last in
          let was : image_of before ≡ replay base (log_of run) c.args.page c.args.slot = value_is base run head ts pages ps h c.args.page c.args.slot c.in_ok-before.ensures.page c.in_ok-before.ensures.slot (image_of before) c.in_ok-before.ensures.value in
          let one = subst (λ k. IsWritten (record_of k (image_of before)) lsn c.args.out.now c.put_update-size.new.out c.put_update-size.result) last c.put_update-size.ensures.written in
          let two = subst (λ b. IsWritten (record_of (last_of tx (log_of run)) b) lsn c.args.out.now c.put_update-size.new.out c.put_update-size.result) was one in
          subst (λ k. IsWritten (record_of (last_of tx (log_of run)) (replay base (log_of run) c.args.page c.args.slot)) k c.args.out.now c.put_update-size.new.out c.put_update-size.result) c.in_ok-lsn.ensures.ok two;
      others = λ base run h.
          updated_others base run head ts pages ps h tx place within found top room c.in_ok-top.ensures.within c.room_for_one.auto.pending (made h.arrays.used.table)
          lsn c.in_ok-lsn.ensures.ok c.in_ok-lsn.ensures.few c.args.page c.args.slot before c.args.after.now c.note_update.new.transactions c.note_update.new.pending c.change_cell.new.pages
          (c.note_update.ensures.transaction no_entry) pushed;
      lsn = c.in_ok-lsn.ensures.ok;
      pending = omega (arith, c.in_ok-top.ensures.within, c.room_for_one.auto.pending);
      fits = omega (arith, c.in_ok-room_for.ensures, c.put_update-size.ensures.written.size_is, c.update_size.ensures.size, length-append (image (image_of before)) (image (image_of c.args.after.now)));
      short = omega (arith, c.update_size.ensures.short, c.put_update-size.ensures.written.size_is, c.update_size.ensures.size, length-append (image (image_of before)) (image (image_of c.args.after.now)));
    }
