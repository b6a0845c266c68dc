-- The clauses that an encoder puts are of bound variables.
use Rattle.gate_clauses.proofs.Cited.{rules, ◌≡◌, ℕ, List, [], ◌∷◌, ◌++◌, inl, refl, sym, subst, map, AllByRecursion}
use Rattle.gate_clauses.proofs.Cited.{Literal, positive, negative, negated, ◌∈◌, Quantifier, Exists, pairs}
use Rattle.gate_clauses.proofs.Cited.{Gate, And, Or, Xor, Ite, inputs_of, clauses_of}
use Rattle.qbf_gates.specs.declared.kind.GateKind.{GateKind}
use Rattle.qbf_gates.specs.declared.kind.GateKind.TheVariants.{Choice, Conjunction, Difference, Disjunction}
use Rattle.qbf_gates.specs.Kept.{gate_of}
use Rattle.qbf_core.proofs.Cited.{AreBound, Block, IsBound, variables, IsPrefix, ◌≤◌, length}
use Rattle.qbf_core.proofs.Bound.{all_in, in_all, bound_in, in_bound}
use Rattle.qbf_core.proofs.Members.{append_left, append_right}
use Rattle.qbf_core.specs.Qbf.{IsWellFormed}
use Rattle.gate_clauses.specs.Begun.{greatest}
use Rattle.gate_clauses.proofs.Greatest.{all_up_to}

-- ---- more variables

still : (old new : List Block) (q : Quantifier) (v : ℕ) → pairs new ≡ pairs old ++ (q, v) ∷ [] → (w : ℕ) → IsBound old w → IsBound new w
still old new q v pushed w bound =
    let found = bound_in (pairs old) w bound in
    in_bound (pairs new) found.0 w
    (subst (λ (ps : List (Quantifier × ℕ)). (found.0, w) ∈ ps) (sym pushed)
    (append_left (pairs old) ((q, v) ∷ []) (found.0, w) found.1))

newly : (old new : List Block) (q : Quantifier) (v : ℕ) → pairs new ≡ pairs old ++ (q, v) ∷ [] → IsBound new v
newly old new q v pushed =
    in_bound (pairs new) q v
    (subst (λ (ps : List (Quantifier × ℕ)). (q, v) ∈ ps) (sym pushed) (append_right (pairs old) ((q, v) ∷ []) (q, v) (inl refl)))

all_still : (old new : List Block) (q : Quantifier) (v : ℕ) → pairs new ≡ pairs old ++ (q, v) ∷ [] → (lits : List Literal)
    → AreBound old lits → AreBound new lits
all_still old new q v pushed lits bound = in_all (λ l. IsBound new l.var) lits
    (λ l h. still old new q v pushed l.var (all_in (λ m. IsBound old m.var) lits bound l h))

pub bound_further : (old new : List Block) (q : Quantifier) (v : ℕ) (clauses : List (List Literal)) → pairs new ≡ pairs old ++ (q, v) ∷ []
    → AllByRecursion (AreBound old) clauses → AllByRecursion (AreBound new) clauses
bound_further old new q v clauses pushed bound =
    in_all (AreBound new) clauses (λ c h. all_still old new q v pushed c (all_in (AreBound old) clauses bound c h))

-- ---- the clauses of a gate

module _ (bs : List Block) where
  each_negated : (lits : List Literal) → AreBound bs lits → AreBound bs (map negated lits)
  each_negated [] bound = tt
  each_negated (l ∷ lits) bound = (bound.0, each_negated lits bound.1)

  each_two : (one : Literal) (lits : List Literal) → IsBound bs one.var → AreBound bs lits
      → AllByRecursion (AreBound bs) (map (λ l. one ∷ l ∷ []) lits)
  each_two one [] own bound = tt
  each_two one (l ∷ lits) own bound = ((own, (bound.0, tt)), each_two one lits own bound.1)

  each_two_negated : (one : Literal) (lits : List Literal) → IsBound bs one.var → AreBound bs lits
      → AllByRecursion (AreBound bs) (map (λ l. one ∷ negated l ∷ []) lits)
  each_two_negated one [] own bound = tt
  each_two_negated one (l ∷ lits) own bound = ((own, (bound.0, tt)), each_two_negated one lits own bound.1)

  pub gate_bound : (v : ℕ) (g : Gate) → IsBound bs v → AreBound bs (inputs_of g) → AllByRecursion (AreBound bs) (clauses_of v g)
  gate_bound v (And ls) own bound = ((own, each_negated ls bound), each_two (negative v) ls own bound)
  gate_bound v (Or ls) own bound = ((own, bound), each_two_negated (positive v) ls own bound)
  gate_bound v (Xor a b) own bound = search rules
  gate_bound v (Ite a b c) own bound = search rules

  pub both_bound : (some more : List (List Literal)) → AllByRecursion (AreBound bs) some → AllByRecursion (AreBound bs) more
      → AllByRecursion (AreBound bs) (some ++ more)
  both_bound [] more one other = other
  both_bound (c ∷ some) more one other = (one.0, both_bound some more one.1 other)

pub bound_gate : (old new : List Block) (v : ℕ) (g : Gate) (clauses put : List (List Literal)) → pairs new ≡ pairs old ++ (Exists, v) ∷ []
    → put ≡ clauses ++ clauses_of v g → AllByRecursion (AreBound old) clauses → AreBound old (inputs_of g)
    → AllByRecursion (AreBound new) put
bound_gate old new v g clauses put pushed is bound known =
    subst (λ (cs : List (List Literal)). AllByRecursion (AreBound new) cs) (sym is)
    (both_bound new clauses (clauses_of v g) (bound_further old new Exists v clauses pushed bound)
    (gate_bound new v g (newly old new Exists v pushed) (all_still old new Exists v pushed (inputs_of g) known)))

-- the inputs of a gate as they are kept
pub inputs_kept : (kind : GateKind) (ls : List Literal) → inputs_of (gate_of kind ls) ≡ ls
inputs_kept Conjunction ls = refl
inputs_kept Disjunction ls = refl
inputs_kept Difference [] = refl
inputs_kept Difference (a ∷ []) = refl
inputs_kept Difference (a ∷ b ∷ []) = refl
inputs_kept Difference (a ∷ b ∷ c ∷ ls) = refl
inputs_kept Choice [] = refl
inputs_kept Choice (a ∷ []) = refl
inputs_kept Choice (a ∷ b ∷ []) = refl
inputs_kept Choice (a ∷ b ∷ c ∷ []) = refl
inputs_kept Choice (a ∷ b ∷ c ∷ d ∷ ls) = refl

-- ---- the whole formula

pub finished : (bs : List Block) (clauses put : List (List Literal)) (output : Literal) (top : ℕ) → IsPrefix bs
    → put ≡ clauses ++ (output ∷ []) ∷ [] → AllByRecursion (AreBound bs) clauses → IsBound bs output.var → length put ≤ 2147483647
    → top ≡ greatest (variables (pairs bs)) → top ≤ 2147483647
    → IsWellFormed (record { max_var = top; blocks = bs; clauses = put })
finished bs clauses put output top prefix is bound own few greatest_is within = record {
  prefix = prefix;
  numbers = within;
  top = all_up_to (variables (pairs bs)) top greatest_is;
  closed = subst (λ (cs : List (List Literal)). AllByRecursion (AreBound bs) cs) (sym is)
      (both_bound bs clauses ((output ∷ []) ∷ []) bound ((own, tt), tt));
  count = few;
}
