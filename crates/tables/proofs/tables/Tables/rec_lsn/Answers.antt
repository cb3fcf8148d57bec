use Rattle.std.proofs.Common.{sym, ap, ◌∙◌}
use Rattle.log_laws.specs.Redo.{rec_lsn_of}
use Rattle.tables.specs.Tables.{TablesContent}
use Rattle.tables.proofs.Lookups.{rec_lsn_of-lookup}
use Rattle.tables.proofs.tables.Tables.rec_lsn.Goals as goal

pub returns-in-Some : goal.returns-in-Some
returns-in-Some c = c.in-Some.ensures.value ∙ sym (rec_lsn_of-lookup c.args.page c.self.inside.dirty.entries) ∙ ap (λ (tables : TablesContent). rec_lsn_of c.args.page tables.dirty) c.self.view_is

pub returns-in-None : goal.returns-in-None
returns-in-None c = c.in-None.ensures.value ∙ sym (rec_lsn_of-lookup c.args.page c.self.inside.dirty.entries) ∙ ap (λ (tables : TablesContent). rec_lsn_of c.args.page tables.dirty) c.self.view_is
