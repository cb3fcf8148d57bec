use Rattle.std.proofs.Common.{◌≡◌, ◌<◌, ◌≤◌, ℕ, List, [], Option, Some, length, get_or, sym, ap, ap₂, subst, ◌∙◌, refl, arith}
use Rattle.std.specs.Prelude.{All, ◌↔◌}
use Rattle.std.proofs.lemmas.Bool.{iff_false}
use Rattle.std.proofs.lemmas.Option.{slice_get-get_or}
use Rattle.std.proofs.lemmas.List.{take_all, get_or_default}
use Rattle.std.proofs.lemmas.List.Elements.{All-more}
use Rattle.page.specs.declared.page.Page.{Page}
use Rattle.log_laws.specs.Records.{History, LogContent, history, last_lsn, first, base_lsn}
use Rattle.log_laws.specs.Redo.{rec_lsn_of}
use Rattle.audit.specs.Pages.{page_lsn}
use Rattle.audit.specs.Dirty.{first_missing, KeepsMissing, IsRecLsnInRange, IsCovered}
use Rattle.audit.specs.FirstFault.{KeepsDirty}
use Rattle.audit.proofs.Missing.{covered_law, law_covered}
use Rattle.audit.proofs.dirty.check_dirty.Goals as goal

-- what is kept for the page at its place
kept : (pages : List Page) (log : History) (ms : List ℕ) (i n x : ℕ) (page : Page) → page ≡ get_or pages i page → i < length pages → page.number ≡ i → KeepsMissing pages log ms → n ≡ get_or ms i x → x ≡ n → n ≡ first_missing page.number page.lsn log
kept pages log ms i n x page is lt number keeps at xn =
    let blank : Page = record { number = 0; lsn = 0; slots = [] } in
    let lsn : page_lsn pages i ≡ page.lsn = ap (λ (p : Page). p.lsn) (get_or_default pages i blank page lt ∙ sym is) in
    let room : i < length ms = (let z = keeps.size_is in omega (arith, z)) in
    at ∙ get_or_default ms i x 0 room ∙ keeps.each i lt ∙ ap₂ (λ q k. first_missing q k log) (sym number) lsn

decided : (log : LogContent) (base m n : ℕ) (page : Page) (dirty : List (ℕ × ℕ)) (o : Option ℕ) → base ≡ base_lsn (history log) → base_lsn (history log) ≤ m → m ≤ last_lsn (history log) → o ≡ rec_lsn_of page.number dirty → n ≡ first_missing page.number page.lsn (first m (history log))
    → (IsRecLsnInRange base o m × IsCovered o n) ↔ KeepsDirty (history log) m dirty page
decided log base m n page dirty o is from le e f = (
  λ h. covered_law log m page.number page.lsn (rec_lsn_of page.number dirty) from le (subst (λ b. IsRecLsnInRange b (rec_lsn_of page.number dirty) m) is (subst (λ z. IsRecLsnInRange base z m) e h.0)) (subst (λ z. IsCovered (rec_lsn_of page.number dirty) z) f (subst (λ z. IsCovered z n) e h.1)),
  λ law. let h = law_covered log m page.number page.lsn (rec_lsn_of page.number dirty) from le law in
      (subst (λ z. IsRecLsnInRange base z m) (sym e) (subst (λ b. IsRecLsnInRange b (rec_lsn_of page.number dirty) m) (sym is) h.0), subst (λ z. IsCovered z n) (sym e) (subst (λ z. IsCovered (rec_lsn_of page.number dirty) z) (sym f) h.1)),
)

pub returns-then-not-is_covered-clause-err : goal.returns-then-not-is_covered-clause-err
returns-then-not-is_covered-clause-err c =
    let i = c.loop-number.number in
    let page = c.index-pages-number.result in
    let log : History = first c.args.master (history c.args.log.now) in
    let number = ap (λ (p : Page). p.number) c.index-pages-number.is ∙ c.requires.numbered.at_place i page (omega arith) in
    let n = kept c.args.pages.now log c.in_ok-missing.missing.items i c.index-in-loop-number.result.now c.index-in-loop-number.result.now page c.index-pages-number.is (omega arith) number c.in_ok-missing.ensures.ok c.index-in-loop-number.ensures refl in
    let d = decided c.args.log.now c.base.result c.args.master c.index-in-loop-number.result.now page c.args.dirty.now c.index.result.now c.base.ensures.is c.requires.from c.requires.to (c.index.ensures ∙ c.in_ok-listed.ensures.each i c.index.result.now (omega arith) ∙ ap (λ k. rec_lsn_of k c.args.dirty.now) (sym number)) n in
    record {
      place = i;
      page = page;
      there = slice_get-get_or c.args.pages.now i page (omega arith) ∙ ap (λ (p : Page). Some p) (sym c.index-pages-number.is);
      before = c.loop-number.invariant;
      fault = refl;
      broken = λ law. iff_false c.is_covered.ensures c.if-not-is_covered.true (d.1 law);
    }

pub loop-number-preserved : goal.loop-number-preserved
loop-number-preserved c =
    let i = c.loop-number.number in
    let page = c.index-pages-number.result in
    let log : History = first c.args.master (history c.args.log.now) in
    let number = ap (λ (p : Page). p.number) c.index-pages-number.is ∙ c.requires.numbered.at_place i page (omega arith) in
    let n = kept c.args.pages.now log c.in_ok-missing.missing.items i c.index-in-loop-number.result.now c.index-in-loop-number.result.now page c.index-pages-number.is (omega arith) number c.in_ok-missing.ensures.ok c.index-in-loop-number.ensures refl in
    let d = decided c.args.log.now c.base.result c.args.master c.index-in-loop-number.result.now page c.args.dirty.now c.index.result.now c.base.ensures.is c.requires.from c.requires.to (c.index.ensures ∙ c.in_ok-listed.ensures.each i c.index.result.now (omega arith) ∙ ap (λ k. rec_lsn_of k c.args.dirty.now) (sym number)) n in
    All-more (KeepsDirty (history c.args.log.now) c.args.master c.args.dirty.now) c.args.pages.now i page (omega arith) c.loop-number.invariant
    (subst (KeepsDirty (history c.args.log.now) c.args.master c.args.dirty.now) c.index-pages-number.is (d.0 (c.is_covered.ensures.0 c.if-not-is_covered.false)))

pub returns-clause-ok : goal.returns-clause-ok
returns-clause-ok c = subst (λ (ps : List Page). All (KeepsDirty (history c.args.log.now) c.args.master c.args.dirty.now) ps) (take_all c.loop-number.number c.args.pages.now c.loop-number-test.false) c.loop-number.invariant
