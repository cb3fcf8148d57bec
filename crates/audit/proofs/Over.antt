-- The first fault over a base store.
use Rattle.std.proofs.Common.{◌≡◌, refl, ◌∙◌, sym}
use Rattle.std.specs.Prelude.{Result, IfErr, ⊤}
use Rattle.page.specs.declared.fault.Fault.{Fault}
use Rattle.page.specs.declared.fault.Fault.TheVariants.{NoResource, BadBase}
use Rattle.page.specs.Store.{StoreContent}
use Rattle.log_laws.specs.Records.{LogContent}
use Rattle.log_laws.specs.Pages.{base_pages}
use Rattle.audit.specs.FirstFault.{FirstFault}
use Rattle.audit.specs.Base.{IsBaseOf, LawfulOver, FirstFaultOver, OneFirstFaultOver, NoFaultOfTheLawfulOver}
use Rattle.audit.proofs.Kept.{lawful_kept, fault_kept}
use Rattle.audit.proofs.OneFault.{one_first_fault}

pub over_kept : (log : LogContent) (store base : StoreContent) (r : Result ⊤ Fault) → LawfulOver log store base → IfErr r (FirstFault (base_pages base.pages) log store) → IfErr r (λ e. e ≡ NoResource)
over_kept log store base r lawful f = lawful_kept (base_pages base.pages) log store r lawful.lawful f

-- a fault is that of the base store, or of a law
data Which (log : LogContent) (store base : StoreContent) (e : Fault) : Type 0 where
  TheBase : e ≡ BadBase → (IsBaseOf log store base → ⊥) → Which log store base e
  ALaw : IsBaseOf log store base → FirstFault (base_pages base.pages) log store e → Which log store base e

which : (log : LogContent) (store base : StoreContent) (e : Fault) → FirstFaultOver log store base e → Which log store base e
which log store base BadBase f = TheBase refl f
which log store base e f = ALaw f.0 f.1

pub one_first_fault_over : OneFirstFaultOver
one_first_fault_over log store base d e some other x y = both (which log store base d x) (which log store base e y)
  where
    both : Which log store base d → Which log store base e → d ≡ e
    both (TheBase p n) (TheBase q m) = p ∙ sym q
    both (TheBase p n) (ALaw q f) = absurd (n q)
    both (ALaw p f) (TheBase q m) = absurd (m p)
    both (ALaw p f) (ALaw q g) = one_first_fault (base_pages base.pages) log store d e some other f g

pub fault_kept_over : NoFaultOfTheLawfulOver
fault_kept_over log store base lawful e f = by (which log store base e f)
  where
    by : Which log store base e → e ≡ NoResource
    by (TheBase p n) = absurd (n lawful.is_base)
    by (ALaw p g) = fault_kept (base_pages base.pages) log store lawful.lawful e g
