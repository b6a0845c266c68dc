use Rattle.std.proofs.Common.{◌≡◌, ◌++◌, ◌∙◌, [], List, ap}
use Rattle.qbf_core.specs.Blocks.{pairs}
use Rattle.qbf_core.specs.Literal.{Literal}
use Rattle.gate_clauses.specs.Begun.{Begun}
use Rattle.gate_clauses.specs.Encoding.{gate_clauses, gate_pairs}
use Rattle.gate_clauses.proofs.Accepted.{output_known}
use Rattle.gate_clauses.proofs.Steps.{finished, joined}
use Rattle.gate_clauses.proofs.whole.formula_in_clauses.Goals as goal

pub returns-clause-made : goal.returns-clause-made
returns-clause-made c =
    let q = c.args.formula.now in
    let made = c.in_ok-encoder.encoder in
    let gates = c.gates-gates.ensures in
    let blocks : c.prefix.result.now ≡ q.blocks = c.prefix.ensures ∙ gates.blocks in
    let pushed : pairs made.blocks ≡ pairs q.blocks ++ gate_pairs q.gates =
    joined made.blocks c.bind_all.new.encoder.blocks c.new-encoder.result.blocks c.prefix.result.now q.blocks c.gates-gates.result.now.gates q.gates
    (ap (λ (b : Begun). b.blocks) c.new-encoder.ensures) c.in_ok-bind_all.ensures.bound c.in_ok-encoder.ensures.bound blocks gates.gates in
    let none : c.bind_all.new.encoder.clauses ≡ [] = c.in_ok-bind_all.ensures.clauses ∙ ap (λ (b : Begun). b.clauses) c.new-encoder.ensures in
    let put : made.clauses ≡ gate_clauses q.gates =
    c.in_ok-encoder.ensures.put
    ∙ (ap (λ (cs : List (List Literal)). cs ++ gate_clauses c.gates-gates.result.now.gates) none ∙ ap gate_clauses gates.gates) in
    let is = rw c.output.ensures at c.finish.ensures.formula in
    finished c.finish.result q made.blocks made.clauses pushed put c.finish.ensures.prefix is

pub returns-clause-unknown : goal.returns-clause-unknown
returns-clause-unknown c = λ is sound.
    let q = c.args.formula.now in
    let made = c.in_ok-encoder.encoder in
    let gates = c.gates-gates.ensures in
    let pushed : pairs made.blocks ≡ pairs q.blocks ++ gate_pairs q.gates =
    joined made.blocks c.bind_all.new.encoder.blocks c.new-encoder.result.blocks c.prefix.result.now q.blocks c.gates-gates.result.now.gates q.gates
    (ap (λ (b : Begun). b.blocks) c.new-encoder.ensures) c.in_ok-bind_all.ensures.bound c.in_ok-encoder.ensures.bound
    (c.prefix.ensures ∙ gates.blocks) gates.gates in
    c.finish.ensures.unknown is (rw c.output.ensures (output_known made.blocks q pushed sound))
