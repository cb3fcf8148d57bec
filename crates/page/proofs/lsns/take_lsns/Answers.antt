use Rattle.std.proofs.Common.{◌≡◌, ◌∙◌, arith, rules, subst, refl, sym, length, true, false}
use Rattle.page.specs.Lsns.{LsnsAreRead}
use Rattle.page.proofs.PageLsns.{lsns_stay, lsns_first, lsns_more, lsns_bad}
use Rattle.page.proofs.lsns.take_lsns.Goals as goal

pub returns-then-bad-clause-read : goal.returns-then-bad-clause-read
returns-then-bad-clause-read c = λ before whole r.
    lsns_stay before _ _ _ true (λ e. absurd (cc e)) (subst (λ b. LsnsAreRead before c.args.count c.args.lsns.now.items b) c.if-bad.true r)

pub returns-then-len-count-clause-read : goal.returns-then-len-count-clause-read
returns-then-len-count-clause-read c = λ before whole r.
    lsns_stay before _ _ _ false (λ e. omega (arith, c.if-len-count.true, c.len.ensures, c.args.lsns.now.ok.0)) (subst (λ b. LsnsAreRead before c.args.count c.args.lsns.now.items b) c.if-bad.false r)

pub loop-rest-init : goal.loop-rest-init
loop-rest-init c = (
  c.requires.room,
  λ before whole r.
      lsns_first before _ _ _ whole (omega (arith, c.if-len-count.false, c.len.ensures, c.args.lsns.now.ok.0)) r,
)

pub returns-in_default-lsn_at-clause-read : goal.returns-in_default-lsn_at-clause-read
returns-in_default-lsn_at-clause-read c = λ before whole r.
    let old = subst (λ b. LsnsAreRead before c.args.count c.args.lsns.now.items b) c.if-bad.false r in
    let l = c.loop-rest.invariant.1 before whole old in
    let here : c.len-in-loop-rest-2.result ≡ length c.loop-rest.lsns.items = omega (arith, c.len-in-loop-rest-2.ensures, c.loop-rest.lsns.ok.0) in
    lsns_bad _ _ _ _ _ l (omega (arith, here, c.len-in-loop-rest-2.ensures, c.len-in-loop-rest.ensures, c.loop-rest-test.true)) (omega (arith, c.in-Some.ensures.cases.2)) c.in-Some.ensures.cases.0
    (λ page s n. c.in_default-lsn_at.not-Some _ (c.lsn_at.ensures.only page.lsn (page, s, n ∙ sym here, refl)))

pub loop-rest-preserved : goal.loop-rest-preserved
loop-rest-preserved c = (
  omega (arith, c.loop-rest.invariant.0, c.push.ensures.capacity),
  λ before whole r.
      let l = c.loop-rest.invariant.1 before whole r in
      let here : c.len-in-loop-rest-2.result ≡ length c.loop-rest.lsns.items = omega (arith, c.len-in-loop-rest-2.ensures, c.loop-rest.lsns.ok.0) in
      let found = c.in-Some-lsn_at.ensures.found in
      lsns_more _ _ _ _ _ _ _ _ found.0 l (omega (arith, here, c.len-in-loop-rest-2.ensures, c.len-in-loop-rest.ensures, c.loop-rest-test.true)) (omega (arith, c.in-Some.ensures.cases.2)) c.in-Some.ensures.cases.0 c.in-Some.ensures.cases.1
      found.1 (found.2 ∙ here) found.3 (search rules),
)
