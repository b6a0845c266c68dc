-- The rule if two parents are resolved as they stand: a set is a reduct of their resolvent, and nothing is reduced before.
use Rattle.std.specs.Prelude.{List}
use Rattle.qbf_core.specs.Literal.{Literal}
use Rattle.qbf_core.specs.Blocks.{Block}
use Rattle.qbf_core.specs.Rules.{Side, IsReducible}
use Rattle.qrp_rules.specs.declared.rules.Rules.{Rules}
use Rattle.qrp_rules.specs.declared.fault.RuleFault.{RuleFault}
use Rattle.qrp_rules.specs.Conditions.{Condition, resolution_conditions}

-- a and b clash in one variable, which may be resolved on, and `to` is a reduct of their resolvent
abbrev pub unreduced_conditions : Rules → Side → List Block → List Literal → List Literal → List Literal → List (Condition RuleFault)
unreduced_conditions rules side blocks a b to =
    resolution_conditions rules side blocks a b to (λ whole l. IsReducible side blocks whole l)
