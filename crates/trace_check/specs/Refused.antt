-- The fault of a check whose core does not follow.
use Rattle.std.specs.Prelude.{List}
use Rattle.qbf_core.specs.Qbf.{Qbf}
use Rattle.qbf_core.specs.Rules.{Side}
use Rattle.trace_items.specs.Inferences.{Inference}
use Rattle.qrp_rules.specs.declared.rules.Rules.{Rules}
use Rattle.core_walk.specs.Faulty.{IsFirstFaultyStep}
use Rattle.trace_check.specs.declared.fault.CheckFault.{CheckFault}
use Rattle.trace_check.specs.declared.fault.CheckFault.TheVariants.{C1, C2, C3, C4, C5, C6}

-- the fault names the first step of the core that does not follow, or a failed allocation
abbrev pub IsCoreRefusal : Rules → Side → Qbf → List Inference → CheckFault → Type 0
IsCoreRefusal rules side f steps (C1 v) = ⊥
IsCoreRefusal rules side f steps (C2 v) = ⊥
IsCoreRefusal rules side f steps (C3 v) = ⊥
IsCoreRefusal rules side f steps C4 = ⊥
IsCoreRefusal rules side f steps C5 = Unit {0}
IsCoreRefusal rules side f steps (C6 number fault) = IsFirstFaultyStep rules side f steps number fault
