use Rattle.std.proofs.Common.{◌≡◌, true, false, eqb, refl, eq-eqb, ne_eqb}
use Rattle.journal.proofs.Held.{entry_changed}
use Rattle.journal.proofs.entries.PageEntry.change.Goals as goal

pub returns-then-self-eq0 : goal.returns-then-self-eq0
returns-then-self-eq0 c =
    let zero : eqb c.args.self.now.rec_lsn 0 ≡ true = eq-eqb c.args.self.now.rec_lsn 0 c.if-self-eq0.true in
    entry_changed c.args.self.now c.args.tx c.args.slot c.args.lsn c.args.image.now c.requires.tx c.requires.lsn c.args.lsn (rw zero refl)

pub returns-else-self-eq0 : goal.returns-else-self-eq0
returns-else-self-eq0 c =
    let some : eqb c.args.self.now.rec_lsn 0 ≡ false = ne_eqb c.args.self.now.rec_lsn 0 c.if-self-eq0.false in
    entry_changed c.args.self.now c.args.tx c.args.slot c.args.lsn c.args.image.now c.requires.tx c.requires.lsn c.args.self.now.rec_lsn (rw some refl)
