-- A step that follows from parents as they stand follows if they may be reduced.
use Rattle.qrp_rules.proofs.Cited.{common_steps, arith, ◌≡◌, List, Option, None, rules, Literal, Block, Side, Rules}
use Rattle.qrp_rules.proofs.Cited.{RuleFault, Condition, AllHold, IsFaultOf, resolvent_conditions}
use Rattle.qrp_rules.specs.Unreduced.{unreduced_conditions}
use Rattle.qrp_rules.proofs.FirstFailures.{no_fault}

-- parents as they stand may be left unreduced
pub reduced_too : (rules : Rules) (side : Side) (blocks : List Block) (a b to : List Literal)
    → AllHold (unreduced_conditions rules side blocks a b to) → AllHold (resolvent_conditions rules side blocks a b to)
reduced_too rules side blocks a b to (some, (one, (pivot, (within, (each, last))))) = grind (arith, common_steps)

-- if all conditions hold, no fault is returned
answers_nothing : (conditions : List (Condition RuleFault)) (answer : Option RuleFault) → AllHold conditions → IsFaultOf conditions answer
    → answer ≡ None
answers_nothing conditions answer all is = search (rules, no_fault)

pub answers_as_before : (rules : Rules) (side : Side) (blocks : List Block) (a b to : List Literal) (answer : Option RuleFault)
    → IsFaultOf (resolvent_conditions rules side blocks a b to) answer → AllHold (unreduced_conditions rules side blocks a b to)
    → answer ≡ None
answers_as_before rules side blocks a b to answer is all = search (rules, answers_nothing, reduced_too)
