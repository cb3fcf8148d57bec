use Rattle.std.proofs.Common.{ap, arith, inl, inr}
use Rattle.aries_c.specs.declared.fault.Fault.{Fault}
use Rattle.aries_c.proofs.log_writing.aries_write_checkpoint_end.Goals as goal

pub returns-in-Err-clause-not_writable : goal.returns-in-Err-clause-not_writable
returns-in-Err-clause-not_writable c = λ e.
    elim c.in-Err.ensures.err [
      | inl memory ↦ absurd (omega (arith, e, ap (λ (f : Fault). f.number) memory))
      | inr refused ↦ refused.1
    ]
