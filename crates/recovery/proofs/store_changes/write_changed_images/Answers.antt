use Rattle.std.proofs.Common.{◌≡◌, ◌+◌, ◌*◌, ◌-◌, ◌/◌, List, ℕ, length, take, drop, subst, ◌∙◌, arith, length-append, length-drop, length-take}
use Rattle.std.proofs.KnownBytes.{Keeps-trans}
use Rattle.std.specs.Io.KnownBytes.{Appends}
use Rattle.device.specs.Transfer.{TookBeginning}
use Rattle.device.proofs.Reach.{grows_on}
use Rattle.page.specs.declared.profile.TheConstants.{PAGE_BYTES}
use Rattle.page.specs.File.{store_text}
use Rattle.page.specs.declared.fault.Fault.TheVariants.{ReadStore, WriteStore}
use Rattle.passes.proofs.Reached.{still_told}
use Rattle.recovery.specs.StoreChanges.{images_from}
use Rattle.recovery.proofs.ByPieces.{ok_is_no_fault}
use Rattle.recovery.proofs.InPlace.{on_err}
use Rattle.recovery.proofs.Rewritten.{none_began, piece_more, piece_begun}
use Rattle.recovery.proofs.store_changes.write_changed_images.Goals as goal

pub returns-in_err-read_changed-clause-part : goal.returns-in_err-read_changed-clause-part
returns-in_err-read_changed-clause-part g c = on_err c.from_residual.result (λ before shown is fits s.
    let inv = c.loop-first.invariant in
    piece_begun (g.S.Sink.taken c.args.out.now) (g.S.Sink.taken c.loop-first.out) (g.S.Sink.taken c.loop-first.out) c.loop-first.first 0 shown (inv.taken before shown is fits s) (c.len-count.result - c.loop-first.first) (length c.args.changes.now)
    (omega (arith, inv.count_is, inv.within)) (none_began (g.S.Sink.taken c.loop-first.out) (images_from c.loop-first.first 0 shown)))

pub returns-in_err-write_bytes-clause-part : goal.returns-in_err-write_bytes-clause-part
returns-in_err-write_bytes-clause-part g c = on_err c.from_residual-in_err-write_bytes.result (λ before shown is fits s.
    let inv = c.loop-first.invariant in
    let first = c.loop-first.first in
    let images = c.min-images.result in
    let piece : List ℕ = c.read_changed.new.images in
    let size : length (take (PAGE_BYTES * images) c.loop-first.room) ≡ PAGE_BYTES * images = omega (arith, length-take (PAGE_BYTES * images) c.loop-first.room, inv.room, c.min-images.ensures) in
    let count : length piece / PAGE_BYTES ≡ images = omega (arith, size, c.read_changed.auto.images) in
    let still = still_told (g.R.Reread.text c.args.store.now) (g.R.Reread.text c.loop-first.store) (store_text before) inv.same is in
    let same : piece ≡ images_from first (length piece / PAGE_BYTES) shown = c.in_ok-read_changed.ensures.shown before shown still fits s in
    piece_begun (g.S.Sink.taken c.args.out.now) (g.S.Sink.taken c.loop-first.out) (g.S.Sink.taken c.write_bytes.new.sink) first (length piece / PAGE_BYTES) shown (inv.taken before shown is fits s) (c.len-count.result - (first + images)) (length c.args.changes.now)
    (omega (arith, count, inv.count_is, inv.within, c.min-images.ensures)) (subst (TookBeginning (g.S.Sink.taken c.loop-first.out) (g.S.Sink.taken c.write_bytes.new.sink)) same c.in_err-write_bytes.ensures.beginning))

pub loop-first-preserved : goal.loop-first-preserved
loop-first-preserved g c =
    let inv = c.loop-first.invariant in
    let first = c.loop-first.first in
    let images = c.min-images.result in
    let piece : List ℕ = c.read_changed.new.images in
    let size : length (take (PAGE_BYTES * images) c.loop-first.room) ≡ PAGE_BYTES * images = omega (arith, length-take (PAGE_BYTES * images) c.loop-first.room, inv.room, c.min-images.ensures) in
    let count : length piece / PAGE_BYTES ≡ images = omega (arith, size, c.read_changed.auto.images) in
    record {
      room = omega (arith, length-append piece (drop (PAGE_BYTES * images) c.loop-first.room), length-drop (PAGE_BYTES * images) c.loop-first.room, c.read_changed.auto.images, size, c.min-images.ensures, inv.room);
      count_is = inv.count_is;
      within = omega (arith, c.min-images.ensures, inv.within);
      grows = grows_on (g.R.Reread.text c.args.store.now) (g.R.Reread.text c.loop-first.store) _ _ _ inv.same inv.grows c.in_ok-read_changed.ensures.grows;
      same = Keeps-trans (g.R.Reread.text c.args.store.now) (g.R.Reread.text c.loop-first.store) (g.R.Reread.text c.read_changed.new.store) inv.same c.in_ok-read_changed.ensures.same;
      taken = λ before shown is fits s.
          let still = still_told (g.R.Reread.text c.args.store.now) (g.R.Reread.text c.loop-first.store) (store_text before) inv.same is in
          let same : piece ≡ images_from first (length piece / PAGE_BYTES) shown = c.in_ok-read_changed.ensures.shown before shown still fits s in
          let took = subst (Appends (g.S.Sink.taken c.loop-first.out) (g.S.Sink.taken c.write_bytes.new.sink)) same c.in_ok-write_bytes.ensures.all in
          let more = piece_more (g.S.Sink.taken c.args.out.now) (g.S.Sink.taken c.loop-first.out) (g.S.Sink.taken c.write_bytes.new.sink) first (length piece / PAGE_BYTES) shown (inv.taken before shown is fits s) took in
          subst (λ n. Appends (g.S.Sink.taken c.args.out.now) (g.S.Sink.taken c.write_bytes.new.sink) (images_from 0 (first + n) shown)) count more;
      unflushed = Keeps-trans (g.S.Sink.flushed c.args.out.now) (g.S.Sink.flushed c.loop-first.out) (g.S.Sink.flushed c.write_bytes.new.sink) inv.unflushed c.in_ok-write_bytes.ensures.unflushed;
      store_source = c.in_ok-read_changed.ensures.cause.innocent (ok_is_no_fault _ ReadStore) ∙ inv.store_source;
      store_sink = c.in_ok-write_bytes.ensures.cause.innocent (ok_is_no_fault _ WriteStore) ∙ inv.store_sink;
    }
