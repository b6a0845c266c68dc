-- The statements of a formula of gates whose names are in order lead to it.
use Rattle.std.proofs.Common.{arith, ◌≡◌, ℕ, ◌+◌, ◌<◌, ◌≤◌, Bool, true, List, [], ◌∷◌, ◌++◌, length, map, refl, sym, ap, subst, ◌∙◌}
use Rattle.std.proofs.Common.{append_assoc, append-nil, length-append, nat_lt, Ok, Result}
use Rattle.std.specs.Prelude.{bytes_eq}
use Rattle.std.specs.List.{AllByRecursion, IsDistinct, range_with_len}
use Rattle.std.proofs.lemmas.Bool.Decides.{nat_tests}
use Rattle.qbf_core.specs.declared.quantifier.Quantifier.{Quantifier}
use Rattle.qbf_core.specs.Literal.{Literal}
use Rattle.qbf_core.specs.Blocks.{Block, blocks_of, pairs, pairs_of_block, variables}
use Rattle.qbf_gates.specs.Gates.{Gate, And, Or, Xor, Ite, gate_names, inputs_of}
use Rattle.qbf_gates.specs.Kept.{fits, gate_of}
use Rattle.qcir.specs.declared.fault.QuestionFault.{QuestionFault}
use Rattle.qcir.specs.Names.{Name, Question, literal_named, with_name}
use Rattle.qcir.specs.Reading.{AtPrefix, InGates, InPrefix, PartsSoFar, State, and_literal, bound, gate, result_at, with_gate, with_output}
use Rattle.qcir.specs.Texts.{name_of}
use Rattle.qcir.proofs.NamesByNumbers.{front_names, last_is, literal_back, new_name}
use Rattle.qcir.proofs.Numbers.{IsUpTo}
use Rattle.qcir.proofs.Statements.{LeadAll, OutputOf, Statement, all_named, bind_all, bind_next, block, by_name, gate_of_name, kind_of_gate, set_of}
use Rattle.qcir.proofs.Statements.{statements_of}

-- an input is of a name before the number n
abbrev AreBelow : ℕ → List Literal → Type 0
AreBelow n ls = AllByRecursion (λ l. (1 ≤ l.var) × (l.var < n)) ls

module _ (names : List Name) (few : length names ≤ 2147483647) (distinct : IsDistinct bytes_eq names) where
  -- ---- the next name

  -- these are the numbers of the names that are still to be given
  record Stands (b : PartsSoFar) (vs : List ℕ) : Type 0 where
    pub more : List Name
    pub names_are : names ≡ b.names ++ more
    pub left : vs ≡ range_with_len (length b.names + 1) (length more)

  given_next : (ns more : List Name) (w : Name) → names ≡ ns ++ w ∷ more → with_name ns w ≡ Ok (ns ++ w ∷ [])
  given_next ns more w is =
      let longer : length names ≡ length ns + length (w ∷ more) = ap length is ∙ length-append ns (w ∷ more) in
      let less : length ns < 2147483647 = omega (arith, longer, few) in
      let e : nat_lt (length ns) 2147483647 ≡ true = grind (arith, nat_tests) in
      let fresh = new_name ns more w (subst (λ (all : List Name). IsDistinct bytes_eq all) is distinct) in
      rw (e, fresh) refl

  -- the name of the next number can be given
  record HasNext (b : PartsSoFar) (v : ℕ) (vs : List ℕ) : Type 0 where
    pub w : Name
    pub number : v ≡ length b.names + 1
    pub name : name_of names v ≡ w
    pub given : with_name b.names w ≡ Ok (b.names ++ w ∷ [])
    pub further : (c : PartsSoFar) → c.names ≡ b.names ++ w ∷ [] → Stands c vs

  next_of : (b : PartsSoFar) (v : ℕ) (vs : List ℕ) (more : List Name) → names ≡ b.names ++ more
      → v ∷ vs ≡ range_with_len (length b.names + 1) (length more) → HasNext b v vs
  next_of b v vs [] is left = absurd (cc left)
  next_of b v vs (w ∷ more) is left =
      let number : v ≡ length b.names + 1 = cc left in
      let rest : vs ≡ range_with_len (length b.names + 1 + 1) (length more) = cc left in record {
        w = w;
        number = number;
        name = ap (name_of names) number ∙ (ap (λ (ns : List Name). name_of ns (length b.names + 1)) is ∙ last_is b.names more w);
        given = given_next b.names more w is;
        further = λ c same. record {
          more = more;
          names_are = is ∙ (sym (append_assoc b.names (w ∷ []) more) ∙ ap (λ (ns : List Name). ns ++ more) (sym same));
          left = rest ∙ ap (λ (n : ℕ). range_with_len (n + 1) (length more)) (sym (ap length same ∙ length-append b.names (w ∷ [])));
        };
      }

  -- ---- sets

  -- the variables of a set are bound, and others are left
  record SetBound (b : PartsSoFar) (q : Quantifier) (vs us : List ℕ) : Type 0 where
    pub c : PartsSoFar
    pub is : bind_all q (Ok b) (map (name_of names) vs) ≡ Ok c
    pub pairs_are : c.pairs ≡ b.pairs ++ pairs_of_block (block q vs)
    pub gates_kept : c.gates ≡ b.gates
    pub stands : Stands c us

  set_binds : (q : Quantifier) (vs us : List ℕ) (b : PartsSoFar) → Stands b (vs ++ us) → SetBound b q vs us
  set_binds q [] us b stands = record { c = b; is = refl; pairs_are = sym (append-nil b.pairs); gates_kept = refl; stands = stands }
  set_binds q (v ∷ vs) us b stands =
      let next = next_of b v (vs ++ us) stands.more stands.names_are stands.left in
      let new : Quantifier × ℕ = (q, length b.names + 1) in
      let d : PartsSoFar = record b { names = b.names ++ next.w ∷ []; pairs = b.pairs ++ new ∷ [] } in
      let one : bind_next q (Ok b) (name_of names v) ≡ Ok d =
      ap (λ (w : Name). bound q b (with_name b.names w)) next.name ∙ ap (bound q b) next.given in
      let rest = set_binds q vs us d (next.further d refl) in record {
        c = rest.c;
        is = ap (λ (r : Result PartsSoFar QuestionFault). bind_all q r (map (name_of names) vs)) one ∙ rest.is;
        pairs_are = rest.pairs_are
            ∙ (append_assoc b.pairs (new ∷ []) (pairs_of_block (block q vs))
            ∙ ap (λ (n : ℕ). b.pairs ++ (q, n) ∷ pairs_of_block (block q vs)) (sym next.number));
        gates_kept = rest.gates_kept;
        stands = rest.stands;
      }

  set_first : (q : Quantifier) (vs : List ℕ) (ps : List (Quantifier × ℕ)) → variables (pairs_of_block (block q vs) ++ ps) ≡ vs ++ variables ps
  set_first q [] ps = refl
  set_first q (v ∷ vs) ps = ap (λ (us : List ℕ). v ∷ us) (set_first q vs ps)

  record SetsBound (b : PartsSoFar) (sets : List Block) (us : List ℕ) : Type 0 where
    pub c : PartsSoFar
    pub lead : LeadAll (InPrefix b) (map (set_of names) sets) (InPrefix c)
    pub pairs_are : c.pairs ≡ b.pairs ++ pairs sets
    pub gates_kept : c.gates ≡ b.gates
    pub stands : Stands c us

  sets_bind : (sets : List Block) (us : List ℕ) (b : PartsSoFar) → Stands b (variables (pairs sets) ++ us) → SetsBound b sets us
  sets_bind [] us b stands = record { c = b; lead = refl; pairs_are = sym (append-nil b.pairs); gates_kept = refl; stands = stands }
  sets_bind (s ∷ sets) us b stands =
      let apart = ap (λ (vs : List ℕ). vs ++ us) (set_first s.quantifier s.vars (pairs sets)) ∙ append_assoc s.vars (variables (pairs sets)) us in
      let one = set_binds s.quantifier s.vars (variables (pairs sets) ++ us) b (subst (Stands b) apart stands) in
      let rest = sets_bind sets us one.c one.stands in record {
        c = rest.c;
        lead = (InPrefix one.c, (one.c, one.is, refl), rest.lead);
        pairs_are = rest.pairs_are
            ∙ (ap (λ (ps : List (Quantifier × ℕ)). ps ++ pairs sets) one.pairs_are ∙ append_assoc b.pairs (pairs_of_block s) (pairs sets));
        gates_kept = rest.gates_kept ∙ one.gates_kept;
        stands = rest.stands;
      }

  -- ---- gates

  gate_fits : (g : Gate) → fits (kind_of_gate g) (length (inputs_of g)) ≡ true
  gate_fits (And ls) = refl
  gate_fits (Or ls) = refl
  gate_fits (Xor a b) = refl
  gate_fits (Ite a b c) = refl

  gate_back : (g : Gate) → gate_of (kind_of_gate g) (inputs_of g) ≡ g
  gate_back (And ls) = refl
  gate_back (Or ls) = refl
  gate_back (Xor a b) = refl
  gate_back (Ite a b c) = refl

  inputs_named : (ns more : List Name) (ls : List Literal) → names ≡ ns ++ more → AreBelow (length ns + 1) ls
      → all_named ns (map (by_name names) ls) ≡ Ok ls
  inputs_named ns more [] is below = refl
  inputs_named ns more (l ∷ ls) is below =
      let front = front_names ns more (subst (λ (all : List Name). IsDistinct bytes_eq all) is distinct) in
      let range : IsUpTo (length ns) l.var = (below.0.0, omega (arith, below.0.1)) in
      let one : literal_named ns l.negative (name_of names l.var) ≡ Ok l =
      ap (λ (all : List Name). literal_named ns l.negative (name_of all l.var)) is ∙ literal_back ns more l front range in
      ap (λ (r : Result Literal QuestionFault). and_literal r (all_named ns (map (by_name names) ls))) one
      ∙ ap (and_literal (Ok l)) (inputs_named ns more ls is below.1)

  record GatesGiven (b : PartsSoFar) (n : Bool) (w : Name) (gates : List (ℕ × Gate)) : Type 0 where
    pub c : PartsSoFar
    pub lead : LeadAll (InGates b n w) (map (gate_of_name names) gates) (InGates c n w)
    pub names_are : c.names ≡ names
    pub pairs_kept : c.pairs ≡ b.pairs
    pub gates_are : c.gates ≡ b.gates ++ gates

  all_given : (b : PartsSoFar) (more : List Name) → names ≡ b.names ++ more → [] ≡ range_with_len (length b.names + 1) (length more)
      → b.names ≡ names
  all_given b [] is none = sym (is ∙ append-nil b.names)
  all_given b (m ∷ more) is none = absurd (cc none)

  gates_given : (gates : List (ℕ × Gate)) (b : PartsSoFar) (n : Bool) (w : Name) → Stands b (gate_names gates)
      → AllByRecursion (λ g. AreBelow g.0 (inputs_of g.1)) gates → GatesGiven b n w gates
  gates_given [] b n w stands below = record {
    c = b;
    lead = refl;
    names_are = all_given b stands.more stands.names_are stands.left;
    pairs_kept = refl;
    gates_are = sym (append-nil b.gates);
  }
  gates_given (g ∷ gates) b n w stands below =
      let next = next_of b g.0 (gate_names gates) stands.more stands.names_are stands.left in
      let kind = kind_of_gate g.1 in
      let ls = inputs_of g.1 in
      let new : ℕ × Gate = (length b.names + 1, gate_of kind ls) in
      let d : PartsSoFar = record b { names = b.names ++ next.w ∷ []; gates = b.gates ++ new ∷ [] } in
      let these = subst (λ (m : ℕ). AreBelow m ls) next.number below.0 in
      let fit = gate_fits g.1 in
      let made : gate b (name_of names g.0) kind (Ok ls) ≡ Ok d =
      rw fit (ap (λ (v : Name). with_gate b kind ls (with_name b.names v)) next.name ∙ ap (with_gate b kind ls) next.given) in
      let is = ap (gate b (name_of names g.0) kind) (inputs_named b.names stands.more ls stands.names_are these) ∙ made in
      let rest = gates_given gates d n w (next.further d refl) below.1 in
      let same : new ≡ g =
      ap (λ (m : ℕ). (m, gate_of kind ls)) (sym next.number) ∙ ap (λ (h : Gate). (g.0, h)) (gate_back g.1) in record {
        c = rest.c;
        lead = (InGates d n w, (d, is, refl), rest.lead);
        names_are = rest.names_are;
        pairs_kept = rest.pairs_kept;
        gates_are = rest.gates_are
            ∙ (append_assoc b.gates (new ∷ []) gates ∙ ap (λ (h : ℕ × Gate). b.gates ++ h ∷ gates) same);
      }

-- ---- the whole

lead_then : (s t u : State) (xs ys : List Statement) → LeadAll s xs t → LeadAll t ys u → LeadAll s (xs ++ ys) u
lead_then s t u [] ys first rest = subst (λ (r : State). LeadAll r ys u) (sym first) rest
lead_then s t u (x ∷ xs) ys first rest = (first.0, first.1, lead_then first.0 t u xs ys first.2 rest)

-- statements that lead to a formula
pub record Reach (sts : List Statement) (q : Question) : Type 0 where
  pub last : State
  pub lead : LeadAll AtPrefix sts last
  pub result : result_at last ≡ Ok q

pub statements_lead : (sets : List Block) (q : Question) → length q.names ≤ 2147483647 → IsDistinct bytes_eq q.names
    → q.formula.blocks ≡ blocks_of (pairs sets)
    → variables (pairs sets) ++ gate_names q.formula.gates ≡ range_with_len 1 (length q.names)
    → AllByRecursion (λ g. AreBelow g.0 (inputs_of g.1)) q.formula.gates → IsUpTo (length q.names) q.formula.output.var
    → Reach (statements_of sets q) q
statements_lead sets q few distinct blocks numbered order range =
    let names = q.names in
    let out = q.formula.output in
    let start : PartsSoFar = record { names = []; pairs = []; gates = [] } in
    let bound_sets = sets_bind names few distinct sets (gate_names q.formula.gates) start (record { more = names; names_are = refl; left = numbered }) in
    let b = bound_sets.c in
    let w = name_of names out.var in
    let given = gates_given names few distinct q.formula.gates b out.negative w bound_sets.stands order in
    let c = given.c in
    let pairs_are : c.pairs ≡ pairs sets = given.pairs_kept ∙ bound_sets.pairs_are in
    let gates_are : c.gates ≡ q.formula.gates =
    given.gates_are ∙ ap (λ (gs : List (ℕ × Gate)). gs ++ q.formula.gates) bound_sets.gates_kept in
    let named : literal_named c.names out.negative w ≡ Ok out =
    ap (λ (ns : List Name). literal_named ns out.negative w) given.names_are
    ∙ (ap (λ (all : List Name). literal_named names out.negative (name_of all out.var)) (sym (append-nil names))
    ∙ literal_back names [] out distinct range) in
    record {
      last = InGates c out.negative w;
      lead = lead_then AtPrefix (InPrefix b) (InGates c out.negative w) (map (set_of names) sets)
          (OutputOf out.negative w ∷ map (gate_of_name names) q.formula.gates) bound_sets.lead (InGates b out.negative w, refl, given.lead);
      result = ap (with_output c) named
          ∙ (ap (λ (ns : List Name). Ok (record { names = ns; formula = record { blocks = blocks_of c.pairs; gates = c.gates; output = out } })) given.names_are
          ∙ (ap (λ (bs : List Block). Ok (record { names = names; formula = record { blocks = bs; gates = c.gates; output = out } }))
          (ap blocks_of pairs_are ∙ sym blocks)
          ∙ ap (λ (gs : List (ℕ × Gate)). Ok (record { names = names; formula = record { blocks = q.formula.blocks; gates = gs; output = out } }))
          gates_are));
    }
