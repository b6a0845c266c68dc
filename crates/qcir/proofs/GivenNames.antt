-- The names that a text gives are words, each given once, and not too many.
use Rattle.std.proofs.Common.{arith, ◌≡◌, ℕ, ◌+◌, ◌<◌, ◌≤◌, List, [], ◌∷◌, ◌++◌, length, nat_lt, refl, sym, subst, ◌∙◌, inl, inr, Ok, Err, Result}
use Rattle.std.specs.Prelude.{bytes_eq}
use Rattle.std.specs.Cmp.Lexicographic.{nat_list_eq_equiv}
use Rattle.std.specs.List.{AllByRecursion, IsDistinct, list_any}
use Rattle.std.proofs.lemmas.Bool.{cases_Bool}
use Rattle.std.proofs.lemmas.Bool.Decides.{nat_tests}
use Rattle.std.proofs.lemmas.Map.Keys.{IsDistinct-push}
use Rattle.qbf_core.specs.declared.quantifier.Quantifier.{Quantifier}
use Rattle.qbf_core.specs.Blocks.{blocks_of}
use Rattle.qbf_core.specs.Literal.{Literal}
use Rattle.qbf_gates.specs.declared.kind.GateKind.{GateKind}
use Rattle.qbf_gates.specs.Kept.{fits, gate_of}
use Rattle.qbf_tokens.proofs.CanonicalTokens.{all_appended}
use Rattle.qcir_tokens.proofs.Runs.{IsWord}
use Rattle.qcir.specs.declared.fault.QuestionFault.{QuestionFault}
use Rattle.qcir.specs.Names.{Name, literal_named, with_name}
use Rattle.qcir.specs.Reading.{InGates, InPrefix, PartsSoFar, Question, State, bound, gate, result_at, with_gate, with_output}
use Rattle.qcir.proofs.MoreParts.{name_last, one_longer}
use Rattle.qcir.proofs.ReadStatements.{bind_refused}
use Rattle.qcir.proofs.Statements.{GateOf, IsStated, LeadAll, Leads, OutputOf, SetOf, Statement, all_named, bind_all}
use Rattle.qcir.proofs.WrittenTokens.{HasNames, lines_named}

pub record AreGiven (names : List Name) : Type 0 where
  pub words : AllByRecursion IsWord names
  pub distinct : IsDistinct bytes_eq names
  pub few : length names ≤ 2147483647

-- the names so far
abbrev names_of : State → List Name
names_of (InPrefix b) = b.names
names_of (InGates b negative w) = b.names

-- ---- one name more

one_more : (names more : List Name) (w : Name) → AreGiven names → IsWord w → with_name names w ≡ Ok more → AreGiven more
one_more names more w are is given =
    elim (cases_Bool (nat_lt (length names) 2147483647)) [
      | inl few ↦ elim (cases_Bool (list_any (bytes_eq w) names)) [
        | inl there ↦ (let e = rw (few, there) at given in absurd cc)
        | inr fresh ↦ (let less : length names < 2147483647 = grind (arith, nat_tests) in
            let longer = one_longer names more w given in
            let last = name_last names more w given in record {
              words = subst (λ (ns : List Name). AllByRecursion IsWord ns) (sym last) (all_appended IsWord names (w ∷ []) are.words (is, tt));
              distinct = subst (λ (ns : List Name). IsDistinct bytes_eq ns) (sym last)
                  (IsDistinct-push nat_list_eq_equiv names w are.distinct fresh);
              few = omega (arith, less, longer);
            })
      ]
      | inr full ↦ (let e = rw full at given in absurd cc)
    ]

one_bound : (q : Quantifier) (b c : PartsSoFar) (w : Name) (r : Result (List Name) QuestionFault) → with_name b.names w ≡ r → AreGiven b.names
    → IsWord w → bound q b r ≡ Ok c → AreGiven c.names
one_bound q b c w (Err f) given are is made = absurd cc
one_bound q b c w (Ok names) given are is made =
    let parts : PartsSoFar = record b { names = names; pairs = b.pairs ++ (q, length b.names + 1) ∷ [] } in
    let e : parts ≡ c = cc in subst (λ (d : PartsSoFar). AreGiven d.names) e (one_more b.names names w are is given)

set_bound : (q : Quantifier) (ws : List Name) (r : Result PartsSoFar QuestionFault) (c : PartsSoFar) → AllByRecursion IsWord ws
    → ((b : PartsSoFar) → r ≡ Ok b → AreGiven b.names) → bind_all q r ws ≡ Ok c → AreGiven c.names
set_bound q [] r c named are is = are c is
set_bound q (w ∷ ws) (Err f) c named are is = let e = sym (bind_refused q f ws) ∙ is in absurd cc
set_bound q (w ∷ ws) (Ok b) c named are is =
    set_bound q ws (bound q b (with_name b.names w)) c named.1
    (λ d. one_bound q b d w (with_name b.names w) refl (are b refl) named.0) is

with_made : (b : PartsSoFar) (w : Name) (kind : GateKind) (ls : List Literal) (r : Result (List Name) QuestionFault) (c : PartsSoFar)
    → with_name b.names w ≡ r → with_gate b kind ls r ≡ Ok c → AreGiven b.names → IsWord w → AreGiven c.names
with_made b w kind ls (Err f) c given made are is = absurd cc
with_made b w kind ls (Ok names) c given made are is =
    let parts : PartsSoFar = record b { names = names; gates = b.gates ++ (length b.names + 1, gate_of kind ls) ∷ [] } in
    let e : parts ≡ c = cc in subst (λ (d : PartsSoFar). AreGiven d.names) e (one_more b.names names w are is given)

gate_made : (b : PartsSoFar) (w : Name) (kind : GateKind) (r : Result (List Literal) QuestionFault) (c : PartsSoFar) → gate b w kind r ≡ Ok c
    → AreGiven b.names → IsWord w → AreGiven c.names
gate_made b w kind (Err f) c made are is = absurd cc
gate_made b w kind (Ok ls) c made are is =
    elim (cases_Bool (fits kind (length ls))) [
      | inl e ↦ (let fit = rw e at made in with_made b w kind ls (with_name b.names w) c refl fit are is)
      | inr e ↦ (let none = rw e at made in absurd cc)
    ]

-- ---- statements

same_names : (s t : State) → s ≡ t → AreGiven (names_of s) → AreGiven (names_of t)
same_names s t is are = subst (λ (r : State). AreGiven (names_of r)) is are

one_statement : (s : State) (st : Statement) (t : State) → HasNames st → Leads s st t → AreGiven (names_of s) → AreGiven (names_of t)
one_statement (InPrefix b) (SetOf q []) t named leads are = absurd named
one_statement (InPrefix b) (SetOf q (w ∷ ws)) t named leads are =
    same_names (InPrefix leads.0) t leads.2
    (set_bound q (w ∷ ws) (Ok b) leads.0 named
    (λ d e. let same : b ≡ d = cc in subst (λ (p : PartsSoFar). AreGiven p.names) same are) leads.1)
one_statement (InPrefix b) (OutputOf negative w) t named leads are = same_names (InGates b negative w) t leads are
one_statement (InPrefix b) (GateOf w kind ms) t named leads are = absurd leads
one_statement (InGates b negative v) (SetOf q ws) t named leads are = absurd leads
one_statement (InGates b negative v) (OutputOf n w) t named leads are = absurd leads
one_statement (InGates b negative v) (GateOf w kind ms) t named leads are =
    same_names (InGates leads.0 negative v) t leads.2 (gate_made b w kind (all_named b.names ms) leads.0 leads.1 are named.0)

all_statements : (sts : List Statement) (s t : State) → AllByRecursion HasNames sts → LeadAll s sts t → AreGiven (names_of s)
    → AreGiven (names_of t)
all_statements [] s t named lead are = same_names s t lead are
all_statements (st ∷ sts) s t named lead are =
    all_statements sts lead.0 t named.1 lead.2 (one_statement s st lead.0 named.0 lead.1 are)

-- ---- the whole

with_literal : (b : PartsSoFar) (r : Result Literal QuestionFault) (q : Question) → with_output b r ≡ Ok q → AreGiven b.names → AreGiven q.names
with_literal b (Err f) q is are = absurd cc
with_literal b (Ok l) q is are =
    let whole : Question = record { names = b.names; formula = record { blocks = blocks_of b.pairs; gates = b.gates; output = l } } in
    let e : whole ≡ q = cc in subst (λ (p : Question). AreGiven p.names) e are

at_last : (t : State) (q : Question) → result_at t ≡ Ok q → AreGiven (names_of t) → AreGiven q.names
at_last (InPrefix b) q is are = absurd cc
at_last (InGates b negative w) q is are = with_literal b (literal_named b.names negative w) q is are

no_names : AreGiven []
unfolding IsDistinct
no_names = record { words = tt; distinct = tt; few = omega arith }

pub names_given : (bytes : List ℕ) (q : Question) → IsStated bytes q → AreGiven q.names
names_given bytes q is =
    at_last is.last q is.result
    (all_statements is.statements (InPrefix (record { names = []; pairs = []; gates = [] })) is.last
    (lines_named is.lines is.statements is.said) is.lead no_names)
