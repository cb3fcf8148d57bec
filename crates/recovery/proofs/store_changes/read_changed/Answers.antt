use Rattle.std.proofs.Common.{◌≡◌, ◌/◌, ◌∙◌, Result, Ok, Err, ap, subst, sym, inl, refl}
use Rattle.std.specs.Prelude.{IfErr, IsOk}
use Rattle.std.proofs.lemmas.Result.{err_from_is_err_and, on_ok_weaker}
use Rattle.page.specs.declared.profile.TheConstants.{PAGE_BYTES}
use Rattle.page.specs.File.{store_text}
use Rattle.recovery.specs.StoreChanges.{images_from}
use Rattle.recovery.proofs.Rewritten.{piece_held, piece_read, piece_written}
use Rattle.recovery.proofs.store_changes.read_changed.Goals as goal

pub returns-in_err-reread_images-clause-fault : goal.returns-in_err-reread_images-clause-fault
returns-in_err-reread_images-clause-fault g c =
    let exit = err_from_is_err_and c.from_residual.result c.from_residual.ensures.1 in
    rw (exit.1, exit.2) (λ before shown is fits s. inl (c.in_err-reread_images.ensures.fault (store_text before) is (piece_held before c.args.changes.now shown c.args.first c.args.images.now fits s c.requires.whole c.requires.within)))

pub returns-clause-shown : goal.returns-clause-shown
returns-clause-shown g c = on_ok_weaker c.change_images.result (λ changed before shown is fits s.
    piece_written before c.args.changes.now shown c.args.first c.args.images.now fits s c.requires.whole c.requires.within c.reread_images.new.images c.change_images.new.images (c.in_ok-reread_images.ensures.read (store_text before) is) changed
    ∙ ap (λ n. images_from c.args.first (n / PAGE_BYTES) shown) (sym (c.change_images.auto.images ∙ c.reread_images.auto.images))) c.change_images.ensures.changed

-- what an error means
if_err : {T E : Type 0} {P : E → Type 0} (r : Result T E) → ((e : E) → r ≡ Err e → P e) → IfErr r P
if_err (Ok x) f = tt
if_err (Err e) f = f e refl

pub returns-clause-fault : goal.returns-clause-fault
returns-clause-fault g c = if_err c.change_images.result (λ e was before shown is fits s.
    let read = piece_read before c.args.changes.now shown c.args.first c.args.images.now fits s c.requires.whole c.requires.within c.reread_images.new.images (c.in_ok-reread_images.ensures.read (store_text before) is) in
    let fine = subst (λ r. IsOk r) was (c.change_images.ensures.only _ read) in
    absurd (cc fine))
