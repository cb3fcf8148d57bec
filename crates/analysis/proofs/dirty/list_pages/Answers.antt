use Rattle.std.proofs.Common.{◌≡◌, ◌≤◌, ◌⊎◌, suc, inl, inr, sym, ap, subst, ◌∙◌, arith, max}
use Rattle.log_laws.specs.Records.{history, last_lsn, base_lsn}
use Rattle.log_laws.specs.Redo.{rec_lsn_of}
use Rattle.analysis.specs.Tables.{redo_lsn_of, AreAllListed, ServesRedo}
use Rattle.analysis.proofs.Scanned.{at_first}
use Rattle.analysis.proofs.NoFurther.{serves}
use Rattle.analysis.proofs.dirty.list_pages.Goals as goal

pub returns-then-redo_lsn-upto-clause-pages : goal.returns-then-redo_lsn-upto-clause-pages
returns-then-redo_lsn-upto-clause-pages c = λ transactions pages base same rising.
    let log = history c.args.log.now in
    let from : c.max.result ≡ max c.args.master (base_lsn log) = c.max.ensures ∙ ap (max c.args.master) c.base.ensures.is in
    let found = c.scan_pages.new.dirty.entries in
    let begins : c.redo_lsn_of-redo_lsn.result ≡ redo_lsn_of (suc (base_lsn log)) found = c.redo_lsn_of-redo_lsn.ensures ∙ ap (λ n. redo_lsn_of n found) (omega (arith, c.base-first.ensures.is)) in
    let stopped : (last_lsn log ≤ c.in_ok-upto.upto) ⊎ (AreAllListed c.args.count found × (1 ≤ redo_lsn_of (suc (base_lsn log)) found) × (redo_lsn_of (suc (base_lsn log)) found ≤ c.in_ok-upto.upto)) =
    elim c.in_ok-upto.ensures.whole [
      | inl le ↦ inl le
      | inr some ↦ inr (subst (λ n. AreAllListed n found) (let is : c.args.count ≡ some.0 = cc in sym is) some.2, omega (arith, begins, c.if-redo_lsn-ge1.true), omega (arith, begins, c.if-redo_lsn-upto.true))
    ] in
    subst (ServesRedo c.args.log.now c.args.master c.args.count found) (sym begins)
    (serves c.args.log.now c.args.master c.in_ok-upto.upto c.args.count transactions pages found base (omega (arith, from, c.in_ok-upto.ensures.from)) rising
    (λ p. c.in_ok-upto.ensures.pages p c.args.master (rec_lsn_of p pages) (omega (arith, from)) (same p ∙ at_first p c.args.master c.max.result (rec_lsn_of p pages) log (omega (arith, from)) from))
    stopped)

pub returns-clause-pages : goal.returns-clause-pages
returns-clause-pages c = λ transactions pages base same rising.
    let log = history c.args.log.now in
    let from : c.max.result ≡ max c.args.master (base_lsn log) = c.max.ensures ∙ ap (max c.args.master) c.base.ensures.is in
    let found = c.scan_pages-2.new.dirty.entries in
    let begins : c.redo_lsn_of.result ≡ redo_lsn_of (suc (base_lsn log)) found = c.redo_lsn_of.ensures ∙ ap (λ n. redo_lsn_of n found) (omega (arith, c.base-first.ensures.is)) in
    let to_the_end : last_lsn log ≤ c.in_ok-scan_pages.field-0 =
    elim c.in_ok-scan_pages.ensures.whole [
      | inl le ↦ le
      | inr some ↦ absurd (let none = some.1 in cc)
    ] in
    subst (ServesRedo c.args.log.now c.args.master c.args.count found) (sym begins)
    (serves c.args.log.now c.args.master c.in_ok-scan_pages.field-0 c.args.count transactions pages found base (omega (arith, from, c.in_ok-upto.ensures.from, c.in_ok-scan_pages.ensures.from)) rising
    (λ p. c.in_ok-scan_pages.ensures.pages p c.args.master (rec_lsn_of p pages) (omega (arith, from, c.in_ok-upto.ensures.from))
    (c.in_ok-upto.ensures.pages p c.args.master (rec_lsn_of p pages) (omega (arith, from)) (same p ∙ at_first p c.args.master c.max.result (rec_lsn_of p pages) log (omega (arith, from)) from)))
    (inl to_the_end))
