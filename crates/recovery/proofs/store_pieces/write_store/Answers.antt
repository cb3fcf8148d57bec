use Rattle.std.proofs.Common.{◌≡◌, List, ◌++◌, length, ℕ, Result, Ok, Err, sym, ap, ap₂, ◌∙◌, subst, arith, rules, take_all}
use Rattle.std.specs.List.{flat_map}
use Rattle.std.specs.Prelude.{OnErr}
use Rattle.std.proofs.lemmas.Result.{err_from_is_err_and, on_ok_weaker}
use Rattle.std.specs.Io.KnownBytes.{Appends}
use Rattle.std.proofs.KnownBytes.{Appends-trans, Appends-kept, Keeps-trans}
use Rattle.device.specs.Transfer.{TookBeginning}
use Rattle.page.specs.declared.page.Page.{Page}
use Rattle.page.specs.Image.{page_text}
use Rattle.page.specs.Store.{StoreContent}
use Rattle.page.specs.File.{store_header, store_text}
use Rattle.recovery.proofs.Taken.{begins_longer, flushes_since}
use Rattle.recovery.proofs.Delivered.{behind_front}
use Rattle.recovery.proofs.store_pieces.write_store.Goals as goal

on_err : {T E : Type 0} (r : Result T E) {P : Type 0} → P → OnErr r P
on_err (Ok x) p = tt
on_err (Err e) p = p

pub returns-in_err-write_all-clause-beginning : goal.returns-in_err-write_all-clause-beginning
returns-in_err-write_all-clause-beginning g c =
    let header : c.store_header.result ≡ store_header (length c.args.store.now.pages) c.args.store.now.master = search rules in
    let exit = err_from_is_err_and c.from_residual.result c.from_residual.ensures.1 in
    let images = flat_map page_text c.args.store.now.pages in
    let text : c.store_header.result ++ images ≡ store_text c.args.store.now = ap (λ h. h ++ images) header in
    rw exit.1
    (subst (TookBeginning (g.S.Sink.taken c.args.sink.now) (g.S.Sink.taken c.write_all.new.sink)) text (begins_longer _ _ c.store_header.result images c.in_err-write_all.ensures.beginning))

pub returns-in_err-write_images-clause-beginning : goal.returns-in_err-write_images-clause-beginning
returns-in_err-write_images-clause-beginning g c =
    let header : c.store_header.result ≡ store_header (length c.args.store.now.pages) c.args.store.now.master = search rules in
    let exit = err_from_is_err_and c.from_residual-in_err-write_images.result c.from_residual-in_err-write_images.ensures.1 in
    let stored : c.deref.result.now ≡ c.args.store.now.pages = c.deref.ensures.value ∙ ap (λ (s : StoreContent). s.pages) c.store.view_is in
    let text : c.store_header.result ++ flat_map page_text c.deref.result.now ≡ store_text c.args.store.now =
    ap₂ (λ h (pages : List Page). h ++ flat_map page_text pages) header stored in
    rw exit.1
    (subst (TookBeginning (g.S.Sink.taken c.args.sink.now) (g.S.Sink.taken c.write_images.new.sink)) text
    (behind_front _ _ _ c.store_header.result (flat_map page_text c.deref.result.now) c.in_ok-write_all.ensures.all c.in_err-write_images.ensures.beginning))

pub returns-clause-all : goal.returns-clause-all
returns-clause-all g c =
    let header : c.store_header.result ≡ store_header (length c.args.store.now.pages) c.args.store.now.master = search rules in
    let stored : c.deref.result.now ≡ c.args.store.now.pages = c.deref.ensures.value ∙ ap (λ (s : StoreContent). s.pages) c.store.view_is in
    let images = flat_map page_text c.deref.result.now in
    let text : c.store_header.result ++ images ≡ store_text c.args.store.now =
    ap₂ (λ h (pages : List Page). h ++ flat_map page_text pages) header stored in
    on_ok_weaker c.flush.result
    (λ flushed. record {
      out =
          subst (Appends (g.S.Sink.taken c.args.sink.now) (g.S.Sink.taken c.flush.new.self)) text
          (Appends-kept _ _ _ (c.store_header.result ++ images) (Appends-trans _ _ _ c.store_header.result images c.in_ok-write_all.ensures.all c.in_ok-write_images.ensures.all) c.flush.ensures.bytes);
      flushed = flushes_since _ _ _ _ (Keeps-trans _ _ _ c.in_ok-write_all.ensures.unflushed c.in_ok-write_images.ensures.unflushed) flushed;
    })
    c.flush.ensures.all

pub returns-clause-beginning : goal.returns-clause-beginning
returns-clause-beginning g c =
    let header : c.store_header.result ≡ store_header (length c.args.store.now.pages) c.args.store.now.master = search rules in
    let stored : c.deref.result.now ≡ c.args.store.now.pages = c.deref.ensures.value ∙ ap (λ (s : StoreContent). s.pages) c.store.view_is in
    let images = flat_map page_text c.deref.result.now in
    let text : c.store_header.result ++ images ≡ store_text c.args.store.now =
    ap₂ (λ h (pages : List Page). h ++ flat_map page_text pages) header stored in
    let all : List ℕ = c.store_header.result ++ images in
    on_err c.flush.result
    (subst (TookBeginning (g.S.Sink.taken c.args.sink.now) (g.S.Sink.taken c.flush.new.self)) text (
      length all,
      omega arith,
      subst (Appends (g.S.Sink.taken c.args.sink.now) (g.S.Sink.taken c.flush.new.self)) (sym (take_all (length all) all (omega arith)))
          (Appends-kept _ _ _ all (Appends-trans _ _ _ c.store_header.result images c.in_ok-write_all.ensures.all c.in_ok-write_images.ensures.all) c.flush.ensures.bytes),
    ))
