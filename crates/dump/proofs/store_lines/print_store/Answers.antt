use Rattle.std.proofs.Common.{ℕ, List, ◌≡◌, ◌≤◌, ◌++◌, ◌∙◌, ap, inr, length, subst, sym, take, take_all, arith}
use Rattle.std.proofs.KnownBytes.{Appends-kept, Appends-trans}
use Rattle.std.proofs.lemmas.Result.{err_from_is_err_and}
use Rattle.std.specs.Io.KnownBytes.{Appends, Keeps}
use Rattle.std.specs.List.{flat_map}
use Rattle.page.specs.declared.page.Page.{Page}
use Rattle.dump.specs.StoreLines.{BeginsStore, page_if_asked, store_line}
use Rattle.dump.proofs.Memory.{if_memory_weaker}
use Rattle.dump.proofs.store_lines.print_store.Goals as goal

pub returns-in_err-print_page-clause-so_far : goal.returns-in_err-print_page-clause-so_far
returns-in_err-print_page-clause-so_far g c =
    let store = c.args.store.now in
    let lines = λ (count : ℕ). flat_map (page_if_asked c.args.style c.args.asked) (take count store.pages) in
    let exit = err_from_is_err_and c.from_residual-in_err-print_page.result c.from_residual-in_err-print_page.ensures.1 in
    let line : c.deref.result.now ≡ store_line c.args.style store =
    c.deref.ensures.value ∙ c.in_ok-put_store.ensures ∙ ap (λ (l : List ℕ). l ++ store_line c.args.style store) c.new-line.ensures.items in
    let out : Appends (g.W.Write.contents c.args.out.now) (g.W.Write.contents c.loop-page.out) (store_line c.args.style store ++ lines c.loop-page.page-index) =
    subst (λ (l : List ℕ). Appends (g.W.Write.contents c.args.out.now) (g.W.Write.contents c.loop-page.out) (l ++ lines c.loop-page.page-index)) line
    (Appends-trans _ _ _ _ _ c.in_ok-write_all.ensures.bytes c.loop-page.invariant) in
    let so_far : Keeps (g.W.Write.contents c.loop-page.out) (g.W.Write.contents c.print_page.new.out)
    → BeginsStore c.args.style c.args.asked store (g.W.Write.contents c.args.out.now) (g.W.Write.contents c.print_page.new.out) =
    λ kept. inr (c.loop-page.page-index, Appends-kept _ _ _ (store_line c.args.style store ++ lines c.loop-page.page-index) out kept) in
    rw (exit.1, exit.2) (if_memory_weaker _ _ _ so_far c.in_err-print_page.ensures.kept)

pub returns-clause-printed : goal.returns-clause-printed
returns-clause-printed g c =
    let store = c.args.store.now in
    let line : c.deref.result.now ≡ store_line c.args.style store =
    c.deref.ensures.value ∙ c.in_ok-put_store.ensures ∙ ap (λ (l : List ℕ). l ++ store_line c.args.style store) c.new-line.ensures.items in
    let past : length store.pages ≤ c.loop-page.page-index = subst (λ (pages : List Page). length pages ≤ c.loop-page.page-index) (c.deref-page-items.ensures.value ∙ ap (λ s. s.pages) c.store.view_is) c.loop-page-test.false in
    let all : take c.loop-page.page-index store.pages ≡ store.pages = take_all c.loop-page.page-index store.pages past in
    subst (λ (pages : List Page). Appends (g.W.Write.contents c.args.out.now) (g.W.Write.contents c.loop-page.out) (store_line c.args.style store ++ flat_map (page_if_asked c.args.style c.args.asked) pages)) all
    (subst (λ (l : List ℕ). Appends (g.W.Write.contents c.args.out.now) (g.W.Write.contents c.loop-page.out) (l ++ flat_map (page_if_asked c.args.style c.args.asked) (take c.loop-page.page-index store.pages))) line
    (Appends-trans _ _ _ _ _ c.in_ok-write_all.ensures.bytes c.loop-page.invariant))
