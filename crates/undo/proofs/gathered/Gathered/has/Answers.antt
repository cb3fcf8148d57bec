use Rattle.std.proofs.Common.{◌≡◌, ◌+◌, map, refl, sym, ap, ◌∙◌, arith}
use Rattle.std.proofs.lemmas.Bool.{false≢true}
use Rattle.wal.specs.Content.{content}
use Rattle.log_laws.specs.Records.{history, last_lsn, base_lsn}
use Rattle.undo.proofs.Chains.{gathered_last, gathered_base}
use Rattle.undo.proofs.gathered.Gathered.has.Goals.{then-lsn-self-via-then-lsn-self, then-lsn-self-via-else-lsn-self+then-last-lsn}
use Rattle.undo.proofs.gathered.Gathered.has.Goals as goal

pub returns-then-lsn-self : goal.returns-then-lsn-self
returns-then-lsn-self c =
    let base : base_lsn (history c.args.self.now) ≡ c.self.inside.base = sym (ap (λ l. base_lsn (history l)) c.self.view_is) ∙ gathered_base c.self.inside.base c.self.inside.count c.self.inside.places.entries (map content c.self.inside.records.items) in
    let last : last_lsn (history c.args.self.now) ≡ c.self.inside.base + c.self.inside.count =
    sym (ap (λ l. last_lsn (history l)) c.self.view_is) ∙ gathered_last c.self.inside.base c.self.inside.count c.self.inside.places.entries (map content c.self.inside.records.items) in (
      λ is. absurd (false≢true is),
      λ within. elim c.then-lsn-self.branch [
        | then-lsn-self-via-then-lsn-self w ↦ absurd (omega (arith, base, within.0, w.if-lsn-self.true))
        | then-lsn-self-via-else-lsn-self+then-last-lsn w ↦ absurd (omega (arith, last, within.1, w.if-last-lsn.true))
      ],
    )

pub returns : goal.returns
returns c =
    let base : base_lsn (history c.args.self.now) ≡ c.self.inside.base = sym (ap (λ l. base_lsn (history l)) c.self.view_is) ∙ gathered_base c.self.inside.base c.self.inside.count c.self.inside.places.entries (map content c.self.inside.records.items) in
    let last : last_lsn (history c.args.self.now) ≡ c.self.inside.base + c.self.inside.count =
    sym (ap (λ l. last_lsn (history l)) c.self.view_is) ∙ gathered_last c.self.inside.base c.self.inside.count c.self.inside.places.entries (map content c.self.inside.records.items) in
    (λ is. (omega (arith, base, c.if-lsn-self.false), omega (arith, last, c.if-last-lsn.false)), λ within. refl)
