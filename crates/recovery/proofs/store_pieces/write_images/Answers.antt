use Rattle.std.proofs.Common.{◌≡◌, ◌*◌, List, ◌++◌, length, drop, sym, ap, ap₂, ◌∙◌, subst, arith, append_assoc, length-append, length-drop, take-append-drop, get_or}
use Rattle.std.specs.List.{flat_map}
use Rattle.std.proofs.lemmas.Grind.{flat_map-append}
use Rattle.std.proofs.lemmas.Result.{err_from_is_err_and}
use Rattle.std.specs.Io.KnownBytes.{Appends}
use Rattle.std.proofs.KnownBytes.{Appends-trans, Keeps-trans}
use Rattle.page.specs.declared.page.Page.{Page}
use Rattle.page.specs.Image.{page_text}
use Rattle.page.proofs.Files.{length-page_text, length-pieces}
use Rattle.recovery.proofs.Taken.{begins_longer}
use Rattle.recovery.proofs.Delivered.{behind_front}
use Rattle.recovery.proofs.store_pieces.write_images.Goals as goal
use Rattle.page.specs.declared.profile.TheConstants.{PAGE_BYTES}

pub returns-in_err-write_all-clause-beginning : goal.returns-in_err-write_all-clause-beginning
returns-in_err-write_all-clause-beginning g c =
    let exit = err_from_is_err_and c.from_residual.result c.from_residual.ensures.1 in
    let (done, split, taken) = c.loop-rest.invariant.3 in
    let piece : List Page = c.split_at.result.0.now in
    let behind : List Page = c.split_at.result.1.now in
    let images = c.encode_pages_into.new.images in
    let rest_is : c.loop-rest.rest.now ≡ piece ++ behind =
    sym (ap₂ (λ (a b : List Page). a ++ b) c.split_at.ensures.front c.split_at.ensures.back ∙ take-append-drop c.min.result c.loop-rest.rest.now) in
    let whole : flat_map page_text c.args.pages.now ≡ (flat_map page_text done ++ images) ++ flat_map page_text behind =
    ap (flat_map page_text) (split ∙ ap (λ l. done ++ l) rest_is) ∙ flat_map-append page_text done (piece ++ behind)
    ∙ ap (λ l. flat_map page_text done ++ l) (flat_map-append page_text piece behind ∙ ap (λ l. l ++ flat_map page_text behind) (sym c.encode_pages_into.ensures.text))
    ∙ sym (append_assoc (flat_map page_text done) images (flat_map page_text behind)) in
    rw (exit.1, whole)
    (begins_longer _ _ (flat_map page_text done ++ images) (flat_map page_text behind) (behind_front _ _ _ (flat_map page_text done) images taken c.in_err-write_all.ensures.beginning))

pub loop-rest-preserved : goal.loop-rest-preserved
loop-rest-preserved g c =
    let (done, split, taken) = c.loop-rest.invariant.3 in
    let piece : List Page = c.split_at.result.0.now in
    let behind : List Page = c.split_at.result.1.now in
    let images = c.encode_pages_into.new.images in
    let rest_is : c.loop-rest.rest.now ≡ piece ++ behind =
    sym (ap₂ (λ (a b : List Page). a ++ b) c.split_at.ensures.front c.split_at.ensures.back ∙ take-append-drop c.min.result c.loop-rest.rest.now) in
    let images_len : length images ≡ PAGE_BYTES * length piece =
    ap length c.encode_pages_into.ensures.text ∙ length-pieces page_text PAGE_BYTES piece (λ k d lt. length-page_text (get_or piece k d) (c.encode_pages_into.ensures.fits k d lt)) in (
      c.in_ok-write_all.ensures.cause ∙ c.loop-rest.invariant.0,
      Keeps-trans _ _ _ c.loop-rest.invariant.1 c.in_ok-write_all.ensures.unflushed,
      omega (arith, c.loop-rest.invariant.2, length-append images (drop (PAGE_BYTES * length piece) c.loop-rest.room), length-drop (PAGE_BYTES * length piece) c.loop-rest.room, c.split_at.ensures.front_len, c.min.ensures, images_len),
      (
        done ++ piece,
        split ∙ ap (λ l. done ++ l) rest_is ∙ sym (append_assoc done piece behind),
        subst (Appends (g.S.Sink.taken c.args.sink.now) (g.S.Sink.taken c.write_all.new.sink)) (ap (λ l. flat_map page_text done ++ l) c.encode_pages_into.ensures.text ∙ sym (flat_map-append page_text done piece))
            (Appends-trans _ _ _ (flat_map page_text done) images taken c.in_ok-write_all.ensures.all),
      ),
    )
