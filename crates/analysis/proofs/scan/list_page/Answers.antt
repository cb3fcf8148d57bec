use Rattle.std.proofs.Common.{sym, ap, ◌∙◌}
use Rattle.std.specs.Prelude.{is_some}
use Rattle.tables.proofs.Lookups.{rec_lsn_of-lookup}
use Rattle.analysis.proofs.Maps.{listed_stays, unlisted_begins}
use Rattle.analysis.proofs.scan.list_page.Goals as goal

pub returns-in_ok-insert-clause-ok : goal.returns-in_ok-insert-clause-ok
returns-in_ok-insert-clause-ok c = λ p. unlisted_begins p c.args.page c.args.lsn c.args.dirty.now.entries c.insert.new.self.entries (sym c.contains_key.ensures ∙ c.if-not-contains_key.true) (c.in_ok-insert.ensures.updates.0 p)

pub returns-else-not-contains_key-clause-ok : goal.returns-else-not-contains_key-clause-ok
returns-else-not-contains_key-clause-ok c = λ p. listed_stays p c.args.page c.args.lsn c.args.dirty.now.entries (ap is_some (rec_lsn_of-lookup c.args.page c.args.dirty.now.entries) ∙ sym c.contains_key.ensures ∙ c.if-not-contains_key.false)
