-- The statements of a text that was read are those of the formula of gates.
use Rattle.std.proofs.Common.{arith, ◌≡◌, ◌≢◌, ℕ, ◌+◌, Bool, true, List, [], ◌∷◌, ◌++◌, length, map, refl, sym, ap, subst, ◌∙◌, inl, inr}
use Rattle.std.proofs.Common.{append_assoc, append-nil, length-append, Ok, Err, Result}
use Rattle.std.specs.List.{AllByRecursion, range_with_len}
use Rattle.std.proofs.lemmas.Bool.{cases_Bool, false≢true}
use Rattle.std.proofs.lemmas.Bool.Decides.{eqb_tells}
use Rattle.qbf_core.specs.declared.quantifier.Quantifier.{Quantifier}
use Rattle.qbf_core.specs.Literal.{Literal}
use Rattle.qbf_core.specs.Blocks.{Block, blocks_of, pairs, pairs_of_block}
use Rattle.qbf_gates.specs.declared.kind.GateKind.{GateKind}
use Rattle.qbf_gates.specs.declared.kind.GateKind.TheVariants.{Choice, Conjunction, Difference, Disjunction}
use Rattle.qbf_gates.specs.Gates.{Gate}
use Rattle.qbf_gates.specs.Kept.{fits, gate_of}
use Rattle.qcir.specs.declared.fault.QuestionFault.{QuestionFault}
use Rattle.qcir.specs.declared.fault.QuestionFault.TheVariants.{Q9}
use Rattle.qcir.specs.Names.{Name, Question, literal_named, with_name}
use Rattle.qcir.specs.Reading.{AtPrefix, InGates, InPrefix, PartsSoFar, State, bound, gate, result_at, with_gate, with_output}
use Rattle.qcir.specs.Texts.{name_of}
use Rattle.qcir.proofs.MoreParts.{name_last, one_longer}
use Rattle.qcir.proofs.NamesByNumbers.{last_is, literal_has, literals_have}
use Rattle.qcir.proofs.ReadStatements.{bind_refused}
use Rattle.qcir.proofs.Statements.{GateOf, LeadAll, OutputOf, SetOf, Statement, all_named, bind_all, block, by_name, gate_of_name, kind_of_gate}
use Rattle.qcir.proofs.Statements.{set_of, statements_of}
use Rattle.qcir.proofs.WrittenParts.{inputs_kept}
use Rattle.qcir.proofs.WrittenTokens.{HasNames}

-- ---- a set

-- what a set adds
record IsOneSet (b : PartsSoFar) (q : Quantifier) (ws : List Name) (c : PartsSoFar) : Type 0 where
  names : c.names ≡ b.names ++ ws
  pairs_are : c.pairs ≡ b.pairs ++ pairs_of_block (block q (range_with_len (length b.names + 1) (length ws)))
  gates_kept : c.gates ≡ b.gates

set_next : (q : Quantifier) (w : Name) (ws : List Name) (b c : PartsSoFar) (r : Result (List Name) QuestionFault) → with_name b.names w ≡ r
    → bind_all q (bound q b r) ws ≡ Ok c → ((d : PartsSoFar) → bind_all q (Ok d) ws ≡ Ok c → IsOneSet d q ws c) → IsOneSet b q (w ∷ ws) c
set_next q w ws b c (Err f) given is further = let e = sym (bind_refused q f ws) ∙ is in absurd cc
set_next q w ws b c (Ok names) given is further =
    let new : Quantifier × ℕ = (q, length b.names + 1) in
    let d : PartsSoFar = record b { names = names; pairs = b.pairs ++ new ∷ [] } in
    let rest = further d is in
    let longer = one_longer b.names names w given in record {
      names = rest.names ∙ (ap (λ (ns : List Name). ns ++ ws) (name_last b.names names w given) ∙ append_assoc b.names (w ∷ []) ws);
      pairs_are = rest.pairs_are
          ∙ (ap (λ (n : ℕ). (b.pairs ++ new ∷ []) ++ pairs_of_block (block q (range_with_len (n + 1) (length ws)))) longer
          ∙ append_assoc b.pairs (new ∷ []) (pairs_of_block (block q (range_with_len (length b.names + 1 + 1) (length ws)))));
      gates_kept = rest.gates_kept;
    }

one_set : (q : Quantifier) (ws : List Name) (b c : PartsSoFar) → bind_all q (Ok b) ws ≡ Ok c → IsOneSet b q ws c
one_set q [] b c is =
    let same : b ≡ c = cc is in
    subst (λ (d : PartsSoFar). IsOneSet b q [] d) same
    (record { names = sym (append-nil b.names); pairs_are = sym (append-nil b.pairs); gates_kept = refl })
one_set q (w ∷ ws) b c is = set_next q w ws b c (with_name b.names w) refl is (λ d more. one_set q ws d c more)

-- the names of a set by their numbers
names_back : (front ws more : List Name) → map (name_of (front ++ (ws ++ more))) (range_with_len (length front + 1) (length ws)) ≡ ws
names_back front [] more = refl
names_back front (w ∷ ws) more =
    let F : List Name → ℕ → List Name = λ ns n. map (name_of ns) (range_with_len (n + 1) (length ws)) in
    let all = front ++ (w ∷ (ws ++ more)) in
    let rest : F all (length front + 1) ≡ ws =
    ap (λ (ns : List Name). F ns (length front + 1)) (sym (append_assoc front (w ∷ []) (ws ++ more)))
    ∙ (ap (F ((front ++ w ∷ []) ++ (ws ++ more))) (sym (length-append front (w ∷ []))) ∙ names_back (front ++ w ∷ []) ws more) in
    ap (λ (n : Name). n ∷ F all (length front + 1)) (last_is front (ws ++ more) w) ∙ ap (λ (ns : List Name). w ∷ ns) rest

-- ---- sets up to the output

record PrefixSaid (b : PartsSoFar) (sts : List Statement) (t : State) : Type 0 where
  parts : PartsSoFar
  more : List Name
  sets : List Block
  negative : Bool
  output : Name
  rest : List Statement
  names : parts.names ≡ b.names ++ more
  pairs_are : parts.pairs ≡ b.pairs ++ pairs sets
  gates_kept : parts.gates ≡ b.gates
  filled : AllByRecursion (λ s. s.vars ≢ []) sets
  same : (further : List Name) → sts ≡ map (set_of (parts.names ++ further)) sets ++ OutputOf negative output ∷ rest
  lead : LeadAll (InGates parts negative output) rest t

-- a set in front of others
set_before : (b c : PartsSoFar) (k : Quantifier) (w : Name) (ws : List Name) (sts : List Statement) (t : State) → IsOneSet b k (w ∷ ws) c
    → PrefixSaid c sts t → PrefixSaid b (SetOf k (w ∷ ws) ∷ sts) t
set_before b c k w ws sts t one rest =
    let this = block k (range_with_len (length b.names + 1) (length (w ∷ ws))) in
    let names : rest.parts.names ≡ b.names ++ ((w ∷ ws) ++ rest.more) =
    rest.names ∙ (ap (λ (ns : List Name). ns ++ rest.more) one.names ∙ append_assoc b.names (w ∷ ws) rest.more) in record {
      parts = rest.parts;
      more = (w ∷ ws) ++ rest.more;
      sets = this ∷ rest.sets;
      negative = rest.negative;
      output = rest.output;
      rest = rest.rest;
      names = names;
      pairs_are = rest.pairs_are
          ∙ (ap (λ (ps : List (Quantifier × ℕ)). ps ++ pairs rest.sets) one.pairs_are ∙ append_assoc b.pairs (pairs_of_block this) (pairs rest.sets));
      gates_kept = rest.gates_kept ∙ one.gates_kept;
      filled = ((λ none. absurd (cc none)), rest.filled);
      same = λ further.
          let all : rest.parts.names ++ further ≡ b.names ++ ((w ∷ ws) ++ (rest.more ++ further)) =
          ap (λ (ns : List Name). ns ++ further) names
          ∙ (append_assoc b.names ((w ∷ ws) ++ rest.more) further
          ∙ ap (λ (ns : List Name). b.names ++ ns) (append_assoc (w ∷ ws) rest.more further)) in
          let back : map (name_of (rest.parts.names ++ further)) this.vars ≡ w ∷ ws =
          ap (λ (ns : List Name). map (name_of ns) this.vars) all ∙ names_back b.names (w ∷ ws) (rest.more ++ further) in
          ap (λ (us : List Name). SetOf k us ∷ sts) (sym back)
          ∙ ap (λ (us : List Statement). set_of (rest.parts.names ++ further) this ∷ us) (rest.same further);
      lead = rest.lead;
    }

prefix_said : (sts : List Statement) (b : PartsSoFar) (t : State) (q : Question) → AllByRecursion HasNames sts → LeadAll (InPrefix b) sts t
    → result_at t ≡ Ok q → PrefixSaid b sts t
prefix_said [] b t q named lead is = let e : Err Q9 ≡ Ok q = ap result_at lead ∙ is in absurd cc
prefix_said (SetOf k [] ∷ sts) b t q named lead is = absurd named.0
prefix_said (SetOf k (w ∷ ws) ∷ sts) b t q named lead is =
    let c = lead.1.0 in
    set_before b c k w ws sts t (one_set k (w ∷ ws) b c lead.1.1)
    (prefix_said sts c t q named.1 (subst (λ (s : State). LeadAll s sts t) (sym lead.1.2) lead.2) is)
prefix_said (OutputOf n w ∷ sts) b t q named lead is = record {
  parts = b;
  more = [];
  sets = [];
  negative = n;
  output = w;
  rest = sts;
  names = sym (append-nil b.names);
  pairs_are = sym (append-nil b.pairs);
  gates_kept = refl;
  filled = tt;
  same = λ further. refl;
  lead = subst (λ (s : State). LeadAll s sts t) (sym lead.1) lead.2;
}
prefix_said (GateOf w kind ms ∷ sts) b t q named lead is = absurd lead.1

-- ---- the gates

kind_kept : (kind : GateKind) (ls : List Literal) → fits kind (length ls) ≡ true → kind_of_gate (gate_of kind ls) ≡ kind
kind_kept Conjunction ls is = refl
kind_kept Disjunction ls is = refl
kind_kept Difference (a ∷ b ∷ []) is = refl
kind_kept Difference [] is = absurd cc
kind_kept Difference (a ∷ []) is = absurd cc
kind_kept Difference (a ∷ b ∷ c ∷ ls) is =
    elim (eqb_tells (length (a ∷ b ∷ c ∷ ls)) 2) [ inl h ↦ absurd (omega (arith, h.1)) | inr h ↦ absurd (false≢true (sym h.0 ∙ is)) ]
kind_kept Choice (a ∷ b ∷ c ∷ []) is = refl
kind_kept Choice [] is = absurd cc
kind_kept Choice (a ∷ []) is = absurd cc
kind_kept Choice (a ∷ b ∷ []) is = absurd cc
kind_kept Choice (a ∷ b ∷ c ∷ d ∷ ls) is =
    elim (eqb_tells (length (a ∷ b ∷ c ∷ d ∷ ls)) 3) [ inl h ↦ absurd (omega (arith, h.1)) | inr h ↦ absurd (false≢true (sym h.0 ∙ is)) ]

-- what a gate adds
record IsOneGate (b : PartsSoFar) (w : Name) (kind : GateKind) (ms : List (Bool × Name)) (c : PartsSoFar) : Type 0 where
  ls : List Literal
  listed : all_named b.names ms ≡ Ok ls
  fit : fits kind (length ls) ≡ true
  names : c.names ≡ b.names ++ w ∷ []
  pairs_kept : c.pairs ≡ b.pairs
  gates : c.gates ≡ b.gates ++ (length b.names + 1, gate_of kind ls) ∷ []

gate_named : (b : PartsSoFar) (w : Name) (kind : GateKind) (ms : List (Bool × Name)) (ls : List Literal) (r : Result (List Name) QuestionFault)
    (c : PartsSoFar) → all_named b.names ms ≡ Ok ls → fits kind (length ls) ≡ true → with_name b.names w ≡ r → with_gate b kind ls r ≡ Ok c
    → IsOneGate b w kind ms c
gate_named b w kind ms ls (Err f) c listed fit given is = absurd cc
gate_named b w kind ms ls (Ok names) c listed fit given is =
    let made : PartsSoFar = record b { names = names; gates = b.gates ++ (length b.names + 1, gate_of kind ls) ∷ [] } in
    let e : made ≡ c = cc in
    subst (λ (d : PartsSoFar). IsOneGate b w kind ms d) e (record {
      ls = ls;
      listed = listed;
      fit = fit;
      names = name_last b.names names w given;
      pairs_kept = refl;
      gates = refl;
    })

one_gate : (b : PartsSoFar) (w : Name) (kind : GateKind) (ms : List (Bool × Name)) (r : Result (List Literal) QuestionFault) (c : PartsSoFar)
    → all_named b.names ms ≡ r → gate b w kind r ≡ Ok c → IsOneGate b w kind ms c
one_gate b w kind ms (Err f) c listed is = absurd cc
one_gate b w kind ms (Ok ls) c listed is =
    elim (cases_Bool (fits kind (length ls))) [
      | inl e ↦ (let made = rw e at is in gate_named b w kind ms ls (with_name b.names w) c listed e refl made)
      | inr e ↦ (let none = rw e at is in absurd cc)
    ]

-- gates that were read after these parts
record Continues (b : PartsSoFar) (n : Bool) (v : Name) (sts : List Statement) (t : State) : Type 0 where
  parts : PartsSoFar
  more : List Name
  gates : List (ℕ × Gate)
  state : t ≡ InGates parts n v
  pairs_kept : parts.pairs ≡ b.pairs
  names : parts.names ≡ b.names ++ more
  given : parts.gates ≡ b.gates ++ gates
  same : sts ≡ map (gate_of_name parts.names) gates

same_gate : (b : PartsSoFar) (w : Name) (kind : GateKind) (ms : List (Bool × Name)) (c : PartsSoFar) (names more : List Name)
    (one : IsOneGate b w kind ms c) → names ≡ c.names ++ more
    → GateOf w kind ms ≡ gate_of_name names (length b.names + 1, gate_of kind one.ls)
same_gate b w kind ms c names more one is =
    let all : names ≡ b.names ++ w ∷ more = is ∙ (ap (λ (ns : List Name). ns ++ more) one.names ∙ append_assoc b.names (w ∷ []) more) in
    let name : name_of names (length b.names + 1) ≡ w = ap (λ (ns : List Name). name_of ns (length b.names + 1)) all ∙ last_is b.names more w in
    let inputs : map (by_name names) one.ls ≡ ms =
    ap (λ (ns : List Name). map (by_name ns) one.ls) all ∙ literals_have ms b.names (w ∷ more) one.ls one.listed in
    rw (kind_kept kind one.ls one.fit, inputs_kept kind one.ls, name, inputs) refl

gates_same : (sts : List Statement) (b : PartsSoFar) (n : Bool) (v : Name) (t : State) → LeadAll (InGates b n v) sts t → Continues b n v sts t
gates_same [] b n v t lead = record {
  parts = b;
  more = [];
  gates = [];
  state = sym lead;
  pairs_kept = refl;
  names = sym (append-nil b.names);
  given = sym (append-nil b.gates);
  same = refl;
}
gates_same (SetOf q ws ∷ sts) b n v t lead = absurd lead.1
gates_same (OutputOf m w ∷ sts) b n v t lead = absurd lead.1
gates_same (GateOf w kind ms ∷ sts) b n v t lead =
    let c = lead.1.0 in
    let one = one_gate b w kind ms (all_named b.names ms) c refl lead.1.1 in
    let rest = gates_same sts c n v t (subst (λ (s : State). LeadAll s sts t) (sym lead.1.2) lead.2) in
    let this : ℕ × Gate = (length b.names + 1, gate_of kind one.ls) in
    record {
      parts = rest.parts;
      more = w ∷ rest.more;
      gates = this ∷ rest.gates;
      state = rest.state;
      pairs_kept = rest.pairs_kept ∙ one.pairs_kept;
      names = rest.names ∙ (ap (λ (ns : List Name). ns ++ rest.more) one.names ∙ append_assoc b.names (w ∷ []) rest.more);
      given = rest.given ∙ (ap (λ (gs : List (ℕ × Gate)). gs ++ rest.gates) one.gates ∙ append_assoc b.gates (this ∷ []) rest.gates);
      same = ap (λ (st : Statement). st ∷ sts) (same_gate b w kind ms c rest.parts.names rest.more one rest.names)
          ∙ ap (λ (us : List Statement). gate_of_name rest.parts.names this ∷ us) rest.same;
    }

-- ---- the whole

-- the statements are those of the formula, by its sets
pub record AreOf (sts : List Statement) (q : Question) : Type 0 where
  pub sets : List Block
  pub filled : AllByRecursion (λ s. s.vars ≢ []) sets
  pub blocks : q.formula.blocks ≡ blocks_of (pairs sets)
  pub same : sts ≡ statements_of sets q

parts_are : (sts : List Statement) (t : State) (front : PrefixSaid (record { names = []; pairs = []; gates = [] }) sts t)
    (rest : Continues front.parts front.negative front.output front.rest t) (l : Literal)
    → literal_named rest.parts.names front.negative front.output ≡ Ok l
    → AreOf sts (record { names = rest.parts.names; formula = record { blocks = blocks_of rest.parts.pairs; gates = rest.parts.gates; output = l } })
parts_are sts t front rest l named =
    let names = rest.parts.names in
    let out : by_name names l ≡ (front.negative, front.output) =
    ap (λ (ns : List Name). by_name ns l) (sym (append-nil names)) ∙ literal_has front.output names [] front.negative l named in
    let given : rest.parts.gates ≡ rest.gates = rest.given ∙ ap (λ (gs : List (ℕ × Gate)). gs ++ rest.gates) front.gates_kept in record {
      sets = front.sets;
      filled = front.filled;
      blocks = ap blocks_of (rest.pairs_kept ∙ front.pairs_are);
      same = front.same rest.more
          ∙ (ap (λ (ns : List Name). map (set_of ns) front.sets ++ OutputOf front.negative front.output ∷ front.rest) (sym rest.names)
          ∙ (ap (λ (m : Bool × Name). map (set_of names) front.sets ++ OutputOf m.0 m.1 ∷ front.rest) (sym out)
          ∙ (ap (λ (us : List Statement). map (set_of names) front.sets ++ OutputOf l.negative (name_of names l.var) ∷ us) rest.same
          ∙ ap (λ (gs : List (ℕ × Gate)). map (set_of names) front.sets ++ OutputOf l.negative (name_of names l.var) ∷ map (gate_of_name names) gs) (sym given))));
    }

ends_so : (sts : List Statement) (t : State) (q : Question) (front : PrefixSaid (record { names = []; pairs = []; gates = [] }) sts t)
    (rest : Continues front.parts front.negative front.output front.rest t) (r : Result Literal QuestionFault)
    → literal_named rest.parts.names front.negative front.output ≡ r → with_output rest.parts r ≡ Ok q → AreOf sts q
ends_so sts t q front rest (Err f) named made = absurd cc
ends_so sts t q front rest (Ok l) named made =
    let whole : Question =
    record { names = rest.parts.names; formula = record { blocks = blocks_of rest.parts.pairs; gates = rest.parts.gates; output = l } } in
    let e : whole ≡ q = cc made in subst (AreOf sts) e (parts_are sts t front rest l named)

pub statements_are : (sts : List Statement) (t : State) (q : Question) → AllByRecursion HasNames sts → LeadAll AtPrefix sts t → result_at t ≡ Ok q
    → AreOf sts q
statements_are sts t q named lead is =
    let front = prefix_said sts (record { names = []; pairs = []; gates = [] }) t q named lead is in
    let rest = gates_same front.rest front.parts front.negative front.output t front.lead in
    ends_so sts t q front rest (literal_named rest.parts.names front.negative front.output) refl (sym (ap result_at rest.state) ∙ is)
