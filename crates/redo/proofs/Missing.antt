-- Redo has at most one error, and none if it succeeds.
use Rattle.std.proofs.Common.{◌≡◌, ◌<◌, ℕ, refl, ap, arith}
use Rattle.page.specs.declared.fault.Fault.TheVariants.{NoResource, BadWorkers, NoSuchPage}
use Rattle.log_laws.specs.Records.{LogContent}
use Rattle.redo.specs.Redone.{IsFirstMissing, OneRedoFault, NoFaultOfRedo}

not_earlier : (log : LogContent) (count redo_lsn a b : ℕ) → IsFirstMissing log count redo_lsn a → IsFirstMissing log count redo_lsn b → a < b → ⊥
not_earlier log count redo_lsn a b x y lt = x.beyond (y.before a x.entry x.looked_at lt x.there)

pub one_missing : (log : LogContent) (count redo_lsn a b : ℕ) → IsFirstMissing log count redo_lsn a → IsFirstMissing log count redo_lsn b → a ≡ b
one_missing log count redo_lsn a b x y = omega (arith, not_earlier log count redo_lsn a b x y, not_earlier log count redo_lsn b a y x)

pub one_redo_fault : OneRedoFault
one_redo_fault log count redo_lsn workers NoResource e some other x y = absurd (some refl)
one_redo_fault log count redo_lsn workers BadWorkers NoResource some other x y = absurd (other refl)
one_redo_fault log count redo_lsn workers BadWorkers BadWorkers some other x y = refl
one_redo_fault log count redo_lsn workers BadWorkers (NoSuchPage b) some other x y = absurd (x y.0)
one_redo_fault log count redo_lsn workers BadWorkers _ some other x y = absurd y
one_redo_fault log count redo_lsn workers (NoSuchPage a) NoResource some other x y = absurd (other refl)
one_redo_fault log count redo_lsn workers (NoSuchPage a) BadWorkers some other x y = absurd (y x.0)
one_redo_fault log count redo_lsn workers (NoSuchPage a) (NoSuchPage b) some other x y = ap (λ n. NoSuchPage n) (one_missing log count redo_lsn a b x.1 y.1)
one_redo_fault log count redo_lsn workers (NoSuchPage a) _ some other x y = absurd y
one_redo_fault log count redo_lsn workers _ e some other x y = absurd x

pub no_fault_of_redo : NoFaultOfRedo
no_fault_of_redo log count redo_lsn workers fit exist NoResource x = refl
no_fault_of_redo log count redo_lsn workers fit exist BadWorkers x = absurd (x fit)
no_fault_of_redo log count redo_lsn workers fit exist (NoSuchPage a) x = absurd (x.1.beyond (exist a x.1.entry x.1.looked_at x.1.there))
no_fault_of_redo log count redo_lsn workers fit exist _ x = absurd x
