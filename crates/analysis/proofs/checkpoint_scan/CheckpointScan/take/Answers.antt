use Rattle.std.proofs.Common.{◌≡◌, ◌+◌, ne_eqb, [], ◌∷◌, sym, ◌∙◌, refl, subst}
use Rattle.log_laws.specs.Records.{start, ◌▸◌, record_at}
use Rattle.log_laws.specs.Checkpoint.{is_begin}
use Rattle.wal.specs.Content.{shown}
use Rattle.analysis.specs.Passing.{HasSeen}
use Rattle.analysis.proofs.Seen.{some_both, stays_found, begin_here, begin_elsewhere, begun_now, met_now}
use Rattle.analysis.proofs.checkpoint_scan.CheckpointScan.take.Goals.{then-lsn-self, else-lsn-self}
use Rattle.analysis.proofs.checkpoint_scan.CheckpointScan.take.Goals as goal

pub returns-then-is_some-clause-seen : goal.returns-then-is_some-clause-seen
returns-then-is_some-clause-seen c = λ m log at seen.
    let r = shown c.args.view.now in
    subst (HasSeen m (log ▸ r)) c.self.view_is
    (stays_found m log (r ∷ []) _ (some_both c.self.inside.found ∙ (sym c.is_some.ensures ∙ c.if-is_some.true)) (subst (HasSeen m log) (sym c.self.view_is) seen))

pub returns-then-not-self-clause-seen : goal.returns-then-not-self-clause-seen
returns-then-not-self-clause-seen c = λ m log at seen.
    let r = shown c.args.view.now in
    let begins : c.if-lsn-self.self ≡ is_begin (record_at (start c.args.lsn ▸ r) c.self.inside.master) =
    elim c.if-lsn-self.branch [
      | then-lsn-self w ↦ w.self-is ∙ w.is_begin-self-inside.ensures ∙ sym (begin_here c.self.inside.master c.args.lsn r w.if-lsn-self.true)
      | else-lsn-self w ↦ w.self-is ∙ ne_eqb (c.args.lsn + 1) c.self.inside.master w.if-lsn-self.false ∙ sym (begin_elsewhere c.self.inside.master c.args.lsn r w.if-lsn-self.false)
    ] in
    begun_now m c.args.lsn log r _ _ at (some_both c.self.inside.found ∙ (sym c.is_some.ensures ∙ c.if-is_some.false)) refl (subst (HasSeen m log) (sym c.self.view_is) seen)
    c.if-not-self.true refl begins

pub returns-clause-seen : goal.returns-clause-seen
returns-clause-seen c = λ m log at seen.
    met_now m c.args.lsn log (shown c.args.view.now) _ _ at (some_both c.self.inside.found ∙ (sym c.is_some.ensures ∙ c.if-is_some.false)) refl
    (subst (HasSeen m log) (sym c.self.view_is) seen) c.in_ok-self-inside.field-0 c.if-not-self.false refl refl c.in_ok-self-inside.ensures.some c.in_ok-self-inside.ensures.none
