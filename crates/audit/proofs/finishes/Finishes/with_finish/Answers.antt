use Rattle.std.proofs.Common.{Some, w16, refl, sym, ap, ap₂, ◌∙◌}
use Rattle.std.specs.Int.{bit_at}
use Rattle.std.proofs.lemmas.Nat.Bits.{bit_at_set_same, bit_at_set_other, bit_at_clear_same, bit_at_clear_other}
use Rattle.audit.specs.Finishes.{finish_by}
use Rattle.audit.proofs.FinishBits.{noted_by}
use Rattle.audit.proofs.finishes.Finishes.with_finish.Goals as goal

pub returns-in-Committed : goal.returns-in-Committed
returns-in-Committed c =
    noted_by c.args.self _ c.args.place c.args.finish
    (ap₂ finish_by (bit_at_clear_same w16 _ _ c.requires) (bit_at_set_same w16 _ _ c.requires) ∙ sym (ap Some c.in-Committed.is))
    (λ p lt ne. (bit_at_clear_other w16 _ _ c.requires p lt ne, bit_at_set_other w16 _ _ c.requires p ne))

pub returns-in-Ended : goal.returns-in-Ended
returns-in-Ended c =
    noted_by c.args.self _ c.args.place c.args.finish
    (ap (λ e. finish_by e (bit_at c.args.self.committed c.args.place)) (bit_at_set_same w16 _ _ c.requires) ∙ sym (ap Some c.in-Ended.is))
    (λ p lt ne. (bit_at_set_other w16 _ _ c.requires p ne, refl))
