use Rattle.std.proofs.Common.{List, sym, subst, arith}
use Rattle.std.proofs.lemmas.Bool.{iff_false}
use Rattle.wal.specs.Content.{shown}
use Rattle.log_laws.specs.Tail.{tx_of}
use Rattle.audit.specs.Standings.{standing_in}
use Rattle.audit.specs.declared.cell.Cell.{Cell}
use Rattle.audit.specs.Cells.{KeepsCells, cell_in}
use Rattle.audit.proofs.Noting.{at_transaction}
use Rattle.audit.proofs.Passing.{wrong_end_or_clr}
use Rattle.audit.proofs.records.check_record.Goals as goal

pub returns-then-not-keeps_chain-clause-err : goal.returns-then-not-keeps_chain-clause-err
returns-then-not-keeps_chain-clause-err c = λ base so_far at begins lawful tells.
    let s = at_transaction c.args.audit_state.now.links.items so_far (tx_of (shown c.args.view.now)) (standing_in c.args.audit_state.now.standings) c.args.standing tells.stands c.requires.standing in
    (omega arith, c.names_pages.ensures.0 c.if-not-names_pages.false, iff_false (c.keeps_chain.ensures base so_far _ lawful begins at s) c.if-not-keeps_chain.true)

pub returns-then-not-keeps_finish-clause-err : goal.returns-then-not-keeps_finish-clause-err
returns-then-not-keeps_finish-clause-err c = λ base so_far at begins lawful tells.
    let s = at_transaction c.args.audit_state.now.links.items so_far (tx_of (shown c.args.view.now)) (standing_in c.args.audit_state.now.standings) c.args.standing tells.stands c.requires.standing in
    (omega arith, c.names_pages.ensures.0 c.if-not-names_pages.false, (c.keeps_chain.ensures base so_far _ lawful begins at s).0 c.if-not-keeps_chain.false, iff_false (c.keeps_finish.ensures so_far _ s) c.if-not-keeps_finish.true)

pub returns-then-not-keeps_compensation-clause-err : goal.returns-then-not-keeps_compensation-clause-err
returns-then-not-keeps_compensation-clause-err c = λ base so_far at begins lawful tells.
    let s = at_transaction c.args.audit_state.now.links.items so_far (tx_of (shown c.args.view.now)) (standing_in c.args.audit_state.now.standings) c.args.standing tells.stands c.requires.standing in
    wrong_end_or_clr base c.args.count so_far (shown c.args.view.now) c.args.lsn c.wrong_compensation.result c.wrong_compensation.ensures (omega arith) (c.names_pages.ensures.0 c.if-not-names_pages.false) ((c.keeps_chain.ensures base so_far _ lawful begins at s).0 c.if-not-keeps_chain.false) ((c.keeps_finish.ensures so_far _ s).0 c.if-not-keeps_finish.false)
    (iff_false (c.keeps_compensation.ensures so_far _ begins tells.links s ((c.keeps_finish.ensures so_far _ s).0 c.if-not-keeps_finish.false)) c.if-not-keeps_compensation.true)

pub returns-then-not-keeps_strictness-clause-err : goal.returns-then-not-keeps_strictness-clause-err
returns-then-not-keeps_strictness-clause-err c = λ base so_far at begins lawful tells.
    let s = at_transaction c.args.audit_state.now.links.items so_far (tx_of (shown c.args.view.now)) (standing_in c.args.audit_state.now.standings) c.args.standing tells.stands c.requires.standing in
    let named = c.names_pages.ensures.0 c.if-not-names_pages.false in
    let cells = subst (λ (xs : List Cell). KeepsCells c.args.count (cell_in base so_far) xs) (sym c.deref.ensures.value) tells.cells in
    (omega arith, named, (c.keeps_chain.ensures base so_far _ lawful begins at s).0 c.if-not-keeps_chain.false, (c.keeps_finish.ensures so_far _ s).0 c.if-not-keeps_finish.false, (c.keeps_compensation.ensures so_far _ begins tells.links s ((c.keeps_finish.ensures so_far _ s).0 c.if-not-keeps_finish.false)).0 c.if-not-keeps_compensation.false, iff_false (c.keeps_strictness.ensures base so_far _ c.args.count lawful tells.stands cells named c.requires.fits) c.if-not-keeps_strictness.true)

pub returns-then-not-keeps_before-clause-err : goal.returns-then-not-keeps_before-clause-err
returns-then-not-keeps_before-clause-err c = λ base so_far at begins lawful tells.
    let s = at_transaction c.args.audit_state.now.links.items so_far (tx_of (shown c.args.view.now)) (standing_in c.args.audit_state.now.standings) c.args.standing tells.stands c.requires.standing in
    let named = c.names_pages.ensures.0 c.if-not-names_pages.false in
    let cells = subst (λ (xs : List Cell). KeepsCells c.args.count (cell_in base so_far) xs) (sym c.deref.ensures.value) tells.cells in
    let cells' = subst (λ (xs : List Cell). KeepsCells c.args.count (cell_in base so_far) xs) (sym c.deref-2.ensures.value) tells.cells in
    (omega arith, named, (c.keeps_chain.ensures base so_far _ lawful begins at s).0 c.if-not-keeps_chain.false, (c.keeps_finish.ensures so_far _ s).0 c.if-not-keeps_finish.false, (c.keeps_compensation.ensures so_far _ begins tells.links s ((c.keeps_finish.ensures so_far _ s).0 c.if-not-keeps_finish.false)).0 c.if-not-keeps_compensation.false, (c.keeps_strictness.ensures base so_far _ c.args.count lawful tells.stands cells named c.requires.fits).0 c.if-not-keeps_strictness.false, iff_false (c.keeps_before.ensures base so_far c.args.count cells' named c.requires.fits) c.if-not-keeps_before.true)

pub returns-clause-ok : goal.returns-clause-ok
returns-clause-ok c = λ base so_far at begins lawful tells.
    let s = at_transaction c.args.audit_state.now.links.items so_far (tx_of (shown c.args.view.now)) (standing_in c.args.audit_state.now.standings) c.args.standing tells.stands c.requires.standing in
    let named = c.names_pages.ensures.0 c.if-not-names_pages.false in
    let cells = subst (λ (xs : List Cell). KeepsCells c.args.count (cell_in base so_far) xs) (sym c.deref.ensures.value) tells.cells in
    let cells' = subst (λ (xs : List Cell). KeepsCells c.args.count (cell_in base so_far) xs) (sym c.deref-2.ensures.value) tells.cells in
    record {
      chain = (c.keeps_chain.ensures base so_far _ lawful begins at s).0 c.if-not-keeps_chain.false;
      finish = (c.keeps_finish.ensures so_far _ s).0 c.if-not-keeps_finish.false;
      compensation = (c.keeps_compensation.ensures so_far _ begins tells.links s ((c.keeps_finish.ensures so_far _ s).0 c.if-not-keeps_finish.false)).0 c.if-not-keeps_compensation.false;
      strict = (c.keeps_strictness.ensures base so_far _ c.args.count lawful tells.stands cells named c.requires.fits).0 c.if-not-keeps_strictness.false;
      before = (c.keeps_before.ensures base so_far c.args.count cells' named c.requires.fits).0 c.if-not-keeps_before.false;
    }
