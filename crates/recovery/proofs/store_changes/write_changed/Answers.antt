use Rattle.std.proofs.Common.{◌++◌, List, ℕ, length, sym, subst, ◌∙◌, arith, ap, take_all}
use Rattle.std.proofs.KnownBytes.{Appends-trans, Appends-kept, Keeps-trans}
use Rattle.std.specs.Io.KnownBytes.{Appends}
use Rattle.page.specs.File.{store_header}
use Rattle.device.specs.Transfer.{TookBeginning}
use Rattle.recovery.proofs.InPlace.{on_err}
use Rattle.recovery.proofs.Taken.{begins_longer, flushes_since}
use Rattle.recovery.proofs.Delivered.{behind_front}
use Rattle.recovery.specs.StoreChanges.{images_from}
use Rattle.recovery.proofs.Rewritten.{rewritten_text}
use Rattle.recovery.proofs.store_changes.write_changed.Goals as goal

pub returns-in_err-write_bytes-clause-part : goal.returns-in_err-write_bytes-clause-part
returns-in_err-write_bytes-clause-part g c = on_err c.from_residual.result (λ before shown is fits s.
    let images = images_from 0 (length c.args.changes.now) shown in
    let text = rewritten_text c.args.changes.now before.pages shown c.args.master c.store_header-header.result s (c.store_header-header.ensures.text ∙ ap (λ n. store_header n c.args.master) c.len.ensures) in
    subst (TookBeginning (g.S.Sink.taken c.args.out.now) (g.S.Sink.taken c.write_bytes.new.sink)) text (begins_longer _ _ c.store_header-header.result images c.in_err-write_bytes.ensures.beginning))

pub returns-in_err-write_changed_images-clause-part : goal.returns-in_err-write_changed_images-clause-part
returns-in_err-write_changed_images-clause-part g c = on_err c.from_residual-in_err-write_changed_images.result (λ before shown is fits s.
    let images = images_from 0 (length c.args.changes.now) shown in
    let text = rewritten_text c.args.changes.now before.pages shown c.args.master c.store_header-header.result s (c.store_header-header.ensures.text ∙ ap (λ n. store_header n c.args.master) c.len.ensures) in
    subst (TookBeginning (g.S.Sink.taken c.args.out.now) (g.S.Sink.taken c.write_changed_images.new.out)) text
    (behind_front _ _ _ c.store_header-header.result images c.in_ok-write_bytes.ensures.all (c.in_err-write_changed_images.ensures.part before shown is fits s)))

pub returns-in-Ok-clause-all : goal.returns-in-Ok-clause-all
returns-in-Ok-clause-all g c = λ before shown is fits s.
    let images = images_from 0 (length c.args.changes.now) shown in
    let text = rewritten_text c.args.changes.now before.pages shown c.args.master c.store_header-header.result s (c.store_header-header.ensures.text ∙ ap (λ n. store_header n c.args.master) c.len.ensures) in
    record {
      out =
          subst (Appends (g.S.Sink.taken c.args.out.now) (g.S.Sink.taken c.flush.new.self)) text
          (Appends-kept _ _ _ (c.store_header-header.result ++ images) (Appends-trans _ _ _ c.store_header-header.result images c.in_ok-write_bytes.ensures.all (c.in_ok-write_changed_images.ensures.all before shown is fits s)) c.flush.ensures.bytes);
      flushed = flushes_since _ _ _ _ (Keeps-trans _ _ _ c.in_ok-write_bytes.ensures.unflushed c.in_ok-write_changed_images.ensures.unflushed) c.in-Ok.ensures.all;
    }

pub returns-in-Err-clause-part : goal.returns-in-Err-clause-part
returns-in-Err-clause-part g c = λ before shown is fits s.
    let images = images_from 0 (length c.args.changes.now) shown in
    let text = rewritten_text c.args.changes.now before.pages shown c.args.master c.store_header-header.result s (c.store_header-header.ensures.text ∙ ap (λ n. store_header n c.args.master) c.len.ensures) in
    let all : List ℕ = c.store_header-header.result ++ images in
    subst (TookBeginning (g.S.Sink.taken c.args.out.now) (g.S.Sink.taken c.flush.new.self)) text (
      length all,
      omega arith,
      subst (Appends (g.S.Sink.taken c.args.out.now) (g.S.Sink.taken c.flush.new.self)) (sym (take_all (length all) all (omega arith)))
          (Appends-kept _ _ _ all (Appends-trans _ _ _ c.store_header-header.result images c.in_ok-write_bytes.ensures.all (c.in_ok-write_changed_images.ensures.all before shown is fits s)) c.flush.ensures.bytes),
    )
