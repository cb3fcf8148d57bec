use Rattle.std.proofs.Common.{◌≡◌, sym, subst}
use Rattle.log_laws.specs.Records.{start, base_lsn, history}
use Rattle.redo.specs.Inputs.{InputContent}
use Rattle.redo.specs.Parts.{redo_page_in, image_at, resolved}
use Rattle.redo.proofs.part.begin_page.Goals as goal

pub returns : goal.returns
returns c =
    subst (λ (i : InputContent). resolved i c.begin_in.result ≡ redo_page_in i (start (base_lsn (history i.log))) (image_at i.images c.args.number)) c.input.view_is ((c.begin_in.ensures c.input.inside.tables.now (sym c.rec_lsn.ensures)).begun c.input.inside.log.now)
