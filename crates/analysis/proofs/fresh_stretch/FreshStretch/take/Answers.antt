use Rattle.std.proofs.Common.{◌≡◌, ◌+◌, None, sym, ap, ◌∙◌, subst, arith}
use Rattle.log_laws.specs.Records.{last_lsn}
use Rattle.analysis.specs.Fresh.{FoundStretch}
use Rattle.analysis.specs.Steps.{entry_after}
use Rattle.analysis.specs.Stretch.{Describes}
use Rattle.analysis.specs.Tables.{entry_at}
use Rattle.analysis.proofs.Scanned.{entry_glanced}
use Rattle.analysis.proofs.Numbers.{none_noted}
use Rattle.analysis.proofs.Stretches.{none_behind, none_joined}
use Rattle.analysis.proofs.Fresh.{first_more}
use Rattle.analysis.proofs.fresh_stretch.FreshStretch.take.Goals as goal

pub returns-clause-goes_on : goal.returns-clause-goes_on
returns-clause-goes_on c = λ log r is fits at found.
    let next : last_lsn log + 1 ≡ c.args.lsn + 1 = omega (arith, at) in
    let same = ap (λ (s : FoundStretch). s.stretch) c.self.view_is in
    record {
      describes = c.in_ok-note.ensures.describes log r is next (subst (Describes log) (sym same) found.describes);
      first_is =
          first_more log r _ c.args.lsn _ at (ap (λ (s : FoundStretch). s.first_change) c.self.view_is ∙ found.first_is) (c.first_change_after-self-inside.ensures r is);
    }

pub returns-clause-no_transaction_0 : goal.returns-clause-no_transaction_0
returns-clause-no_transaction_0 c = λ none.
    let (r, is, fits) = c.requires.seen in
    let lsn = c.args.lsn + 1 in
    let before = none_behind 0 c.self.inside.stretch (ap (λ (s : FoundStretch). entry_at 0 s.stretch.entries) c.self.view_is ∙ none) in
    none_joined 0 _ _ (entry_glanced lsn 0 r c.args.glance _ _ is (c.in_ok-note.ensures.entries 0 None) ∙ ap (entry_after lsn r 0) before ∙ none_noted lsn r fits)
