use Rattle.std.proofs.Common.{arith, subst, sym, ap, length, refl, ◌∙◌}
use Rattle.page.specs.Store.{StoreContent}
use Rattle.page.specs.File.{SpellsStore}
use Rattle.page.specs.declared.fault.Fault.TheVariants.{BadStoreHeader, StoreSize, BadPage}
use Rattle.page.proofs.Causes.{no_fault_of_a_store}
use Rattle.page.proofs.Once.{one_store, store_of}
use Rattle.page.specs.Lsns.{lsns_of}
use Rattle.page.proofs.PageLsns.{lsns_wrong_size, lsns_bad_page, lsns_store}
use Rattle.page.proofs.lsns.LsnReader.finish.Goals as goal

pub returns-then-count-eq0-clause-only : goal.returns-then-count-eq0-clause-only
returns-then-count-eq0-clause-only c = λ store s.
    let spells = subst (λ t. SpellsStore t store) (sym c.self.view_is) s in
    let e = no_fault_of_a_store c.self.inside.came.bytes store spells BadStoreHeader (c.self.invariant.0.2.none c.if-refused.false c.if-count-eq0.true) in
    absurd (cc e)

pub returns-then-size-count-clause-only : goal.returns-then-size-count-clause-only
returns-then-size-count-clause-only c = λ store s.
    let spells = subst (λ t. SpellsStore t store) (sym c.self.view_is) s in
    let wrong = lsns_wrong_size c.self.inside.came.bytes _ _ _ _ _ _ c.self.invariant.0 (omega (arith, c.if-count-eq0.false)) c.if-size-count.true in
    let e = no_fault_of_a_store c.self.inside.came.bytes store spells StoreSize wrong in
    absurd (cc e)

pub returns-then-bad-clause-only : goal.returns-then-bad-clause-only
returns-then-bad-clause-only c = λ store s.
    let spells = subst (λ t. SpellsStore t store) (sym c.self.view_is) s in
    let bad = lsns_bad_page c.self.inside.came.bytes _ _ _ _ _ _ c.self.invariant.0 (omega (arith, c.if-count-eq0.false)) c.if-size-count.false c.if-bad.true in
    let e = no_fault_of_a_store c.self.inside.came.bytes store spells (BadPage (length c.self.inside.lsns.items)) bad in
    absurd (cc e)

pub returns-clause-found : goal.returns-clause-found
returns-clause-found c =
    let held = c.self.invariant.0 in
    let is = lsns_store c.self.inside.came.bytes _ _ _ _ _ _ held (omega (arith, c.if-count-eq0.false)) c.if-size-count.false c.if-bad.false in
    let store = store_of c.self.inside.master held.0 in
    (store, subst (λ t. SpellsStore t store) c.self.view_is is, record { master = refl; lsns = held.1 })

pub returns-clause-only : goal.returns-clause-only
returns-clause-only c = λ store s.
    let held = c.self.invariant.0 in
    let spells = subst (λ t. SpellsStore t store) (sym c.self.view_is) s in
    let is = lsns_store c.self.inside.came.bytes _ _ _ _ _ _ held (omega (arith, c.if-count-eq0.false)) c.if-size-count.false c.if-bad.false in
    let same = one_store c.self.inside.came.bytes (store_of c.self.inside.master held.0) store is spells in
    record { master = ap (λ (x : StoreContent). x.master) same; lsns = held.1 ∙ ap (λ (x : StoreContent). lsns_of x.pages) same }
