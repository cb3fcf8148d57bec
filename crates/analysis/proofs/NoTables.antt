-- A log has tables after an LSN, or one error.
use Rattle.std.proofs.Common.{◌≡◌, Some, None, refl, sym, ◌∙◌}
use Rattle.page.specs.declared.fault.Fault.TheVariants.{NoResource, BadMaster}
use Rattle.analysis.specs.Tables.{OneBaseFault, NoFaultOfTables}

pub one_base_fault : OneBaseFault
one_base_fault log m NoResource e some other a b = absurd (some refl)
one_base_fault log m BadMaster NoResource some other a b = absurd (other refl)
one_base_fault log m BadMaster BadMaster some other a b = refl
one_base_fault log m BadMaster _ some other a b = absurd b
one_base_fault log m _ e some other a b = absurd a

pub no_fault_of_tables : NoFaultOfTables
no_fault_of_tables log m tables are NoResource none = refl
no_fault_of_tables log m tables are BadMaster none = absurd (let e : None ≡ Some (are.transactions, are.dirty) = sym none ∙ are.base in cc)
no_fault_of_tables log m tables are _ none = absurd none
