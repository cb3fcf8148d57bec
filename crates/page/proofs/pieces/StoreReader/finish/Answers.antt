use Rattle.std.proofs.Common.{arith, subst, sym, length}
use Rattle.page.specs.File.{SpellsStore}
use Rattle.page.specs.declared.fault.Fault.TheVariants.{BadStoreHeader, StoreSize, BadPage}
use Rattle.page.proofs.Causes.{no_fault_of_a_store}
use Rattle.page.proofs.Once.{one_store, store_of}
use Rattle.page.proofs.Piecewise.{is_wrong_size, is_bad_page, is_store}
use Rattle.page.proofs.pieces.StoreReader.finish.Goals as goal

pub returns-then-count-eq0-clause-only : goal.returns-then-count-eq0-clause-only
returns-then-count-eq0-clause-only c = λ store s.
    let spells = subst (λ t. SpellsStore t store) (sym c.self.view_is) s in
    let e = no_fault_of_a_store c.self.inside.came.bytes store spells BadStoreHeader (c.self.invariant.0.none c.if-refused.false c.if-count-eq0.true) in
    absurd (cc e)

pub returns-then-size-count-clause-only : goal.returns-then-size-count-clause-only
returns-then-size-count-clause-only c = λ store s.
    let spells = subst (λ t. SpellsStore t store) (sym c.self.view_is) s in
    let wrong = is_wrong_size c.self.inside.came.bytes _ _ _ _ _ _ c.self.invariant.0 (omega (arith, c.if-count-eq0.false)) c.if-size-count.true in
    let e = no_fault_of_a_store c.self.inside.came.bytes store spells StoreSize wrong in
    absurd (cc e)

pub returns-then-bad-clause-only : goal.returns-then-bad-clause-only
returns-then-bad-clause-only c = λ store s.
    let spells = subst (λ t. SpellsStore t store) (sym c.self.view_is) s in
    let bad = is_bad_page c.self.inside.came.bytes _ _ _ _ _ _ c.self.invariant.0 (omega (arith, c.if-count-eq0.false)) c.if-size-count.false c.if-bad.true in
    let e = no_fault_of_a_store c.self.inside.came.bytes store spells (BadPage (length c.self.inside.pages.items)) bad in
    absurd (cc e)

pub returns-clause-found : goal.returns-clause-found
returns-clause-found c =
    let is = is_store c.self.inside.came.bytes _ _ _ _ _ _ c.self.invariant.0 (omega (arith, c.if-count-eq0.false)) c.if-size-count.false c.if-bad.false in
    subst (λ t. SpellsStore t (store_of c.self.inside.master c.self.inside.pages.items)) c.self.view_is is

pub returns-clause-only : goal.returns-clause-only
returns-clause-only c = λ store s.
    let spells = subst (λ t. SpellsStore t store) (sym c.self.view_is) s in
    let is = is_store c.self.inside.came.bytes _ _ _ _ _ _ c.self.invariant.0 (omega (arith, c.if-count-eq0.false)) c.if-size-count.false c.if-bad.false in
    one_store c.self.inside.came.bytes (store_of c.self.inside.master c.self.inside.pages.items) store is spells
