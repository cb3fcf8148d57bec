use Rattle.std.proofs.Common.{◌≡◌, ◌∙◌, arith, rules, subst, sym, length, true, false}
use Rattle.page.specs.Pieces.{AreRead}
use Rattle.page.proofs.Piecewise.{read_stays, left_first, read_more, read_bad}
use Rattle.page.proofs.pieces.take_pages.Goals as goal

pub returns-then-bad-clause-read : goal.returns-then-bad-clause-read
returns-then-bad-clause-read c = λ before whole r.
    read_stays before _ _ _ true (λ e. absurd (cc e)) (subst (λ b. AreRead before c.args.count c.args.pages.now.items b) c.if-bad.true r)

pub returns-then-len-count-clause-read : goal.returns-then-len-count-clause-read
returns-then-len-count-clause-read c = λ before whole r.
    read_stays before _ _ _ false (λ e. omega (arith, c.if-len-count.true, c.len.ensures, c.args.pages.now.ok.0)) (subst (λ b. AreRead before c.args.count c.args.pages.now.items b) c.if-bad.false r)

pub loop-rest-init : goal.loop-rest-init
loop-rest-init c = (
  c.requires.room,
  λ before whole r.
      left_first before _ _ _ whole (omega (arith, c.if-len-count.false, c.len.ensures, c.args.pages.now.ok.0)) r,
)

pub returns-in_default-clause-read : goal.returns-in_default-clause-read
returns-in_default-clause-read c = λ before whole r.
    let old = subst (λ b. AreRead before c.args.count c.args.pages.now.items b) c.if-bad.false r in
    let l = c.loop-rest.invariant.1 before whole old in
    let here : c.len-in-loop-rest-2.result ≡ length c.loop-rest.pages.items = omega (arith, c.len-in-loop-rest-2.ensures, c.loop-rest.pages.ok.0) in
    read_bad _ _ _ _ _ l (omega (arith, here, c.len-in-loop-rest-2.ensures, c.len-in-loop-rest.ensures, c.loop-rest-test.true)) (omega (arith, c.if-rest-ge-PAGE_BYTES.true)) c.split_at.ensures.front
    (λ page s n. c.in_default.not-Some _ (c.page_at.ensures.only page s (n ∙ sym here)))

pub loop-rest-preserved : goal.loop-rest-preserved
loop-rest-preserved c = (
  omega (arith, c.loop-rest.invariant.0, c.push.ensures.capacity),
  λ before whole r.
      let l = c.loop-rest.invariant.1 before whole r in
      let here : c.len-in-loop-rest-2.result ≡ length c.loop-rest.pages.items = omega (arith, c.len-in-loop-rest-2.ensures, c.loop-rest.pages.ok.0) in
      read_more _ _ _ _ _ _ _ _ l (omega (arith, here, c.len-in-loop-rest-2.ensures, c.len-in-loop-rest.ensures, c.loop-rest-test.true)) (omega (arith, c.if-rest-ge-PAGE_BYTES.true)) c.split_at.ensures.front c.split_at.ensures.back
      c.in-Some.ensures.found.0 (c.in-Some.ensures.found.1 ∙ here) (search rules),
)
