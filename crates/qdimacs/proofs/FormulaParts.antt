-- The formula that its parts make, and the state that clauses in the buffered bytes lead to.
use Rattle.qdimacs.proofs.Cited.{arith, common_steps, leads_none, leads_more, leads_further, ◌≡◌, Bool, false, Option, None, Result, Ok}
use Rattle.qdimacs.proofs.Cited.{Quantifier, Literal, Token, pairs, Ends, blocks_of-pairs, is_end, Goes, FormulaFault, Parts, formula_of}
use Rattle.qdimacs.proofs.Cited.{heading, state_at, row_to, IsMade, State, Whole, between_row, row}
use Rattle.qdimacs.specs.declared.states.State as states

-- after the last clause the end makes the formula
pub made_whole : (p : Parts) → IsMade p → (set : Option Quantifier) (mark : Result Bool FormulaFault)
    (first : Result (Option Literal) FormulaFault) → None ≡ set → Ok false ≡ mark
    → between_row (heading p) (pairs p.prefix) p.clauses.whole set mark first ≡ Ends tt (Whole (formula_of p))
made_whole p m set mark first none ends = grind (arith, common_steps, blocks_of-pairs)

-- a token that is not End leads on
pub leads_on : (state : State) (p : Parts) (next : states.State) (t : Token) → is_end t ≡ false → row state t ≡ row_to p next
    → row state t ≡ Goes (state_at p next)
leads_on state p next t open_ e = grind (arith, common_steps)

-- one buffered number more
pub ruleset numbers_lead_on = (leads_on, leads_none, leads_more, leads_further)
