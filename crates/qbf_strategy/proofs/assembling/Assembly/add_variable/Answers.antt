use Rattle.std.proofs.Common.{rules, ◌≡◌, ◌∙◌, ℕ, Some, length, slice_get, subst, sym}
use Rattle.qbf_core.specs.Blocks.{pairs}
use Rattle.qbf_strategy.proofs.AssembledCircuit.{has_chain, input_assembled, input_there, on_ok, output_assembled, output_too_long}
use Rattle.qbf_strategy.proofs.assembling.Assembly.add_variable.Goals as goal

pub returns-then-is_quantifier-clause-assembled : goal.returns-then-is_quantifier-clause-assembled
returns-then-is_quantifier-clause-assembled c =
    let count : c.len.result ≡ length c.args.self.now.known.items = search rules in
    let at = subst (λ (n : ℕ). slice_get (pairs c.args.task.now.prefix.now) n
    ≡ Some c.pair-quantifier.result) count c.pair-quantifier.ensures in
    on_ok c.add_output.result
    (λ adds. output_assembled _ _ _ _ _ c.args.self.now _ c.args.entries.now c.pair-quantifier.result.0 c.pair-quantifier.result.1
    c.requires.entries c.requires.assembled at (sym c.is_quantifier.ensures ∙ c.if-is_quantifier.true) adds)
    c.add_output.ensures.adds

pub returns-in_ok-add_input-clause-assembled : goal.returns-in_ok-add_input-clause-assembled
returns-in_ok-add_input-clause-assembled c =
    let count : c.len.result ≡ length c.args.self.now.known.items = search rules in
    let at = subst (λ (n : ℕ). slice_get (pairs c.args.task.now.prefix.now) n
    ≡ Some c.pair-quantifier.result) count c.pair-quantifier.ensures in
    input_assembled _ _ _ _ _ c.args.self.now _ c.pair-quantifier.result.0 c.pair-quantifier.result.1 c.requires.entries.distinct
    c.requires.assembled at (sym c.is_quantifier.ensures ∙ c.if-is_quantifier.false) c.in_ok-add_input.ensures

pub add_output-requires-clause-chain : goal.add_output-requires-clause-chain
add_output-requires-clause-chain c =
    let count : c.len.result ≡ length c.args.self.now.known.items = search rules in
    let at = subst (λ (n : ℕ). slice_get (pairs c.args.task.now.prefix.now) n
    ≡ Some c.pair-quantifier.result) count c.pair-quantifier.ensures in
    λ last here. has_chain _ _ _ _ c.args.task.now.plain c.args.self.now c.args.entries.now c.pair-quantifier.result.0 c.pair-quantifier.result.1 last
    c.requires.entries at here

pub add_input-requires-clause-number : goal.add_input-requires-clause-number
add_input-requires-clause-number c =
    let count : c.len.result ≡ length c.args.self.now.known.items = search rules in
    let at = subst (λ (n : ℕ). slice_get (pairs c.args.task.now.prefix.now) n
    ≡ Some c.pair-quantifier.result) count c.pair-quantifier.ensures in
    input_there _ _ _ _ _ c.args.self.now c.pair-quantifier.result.0 c.pair-quantifier.result.1 c.requires.assembled at
    (sym c.is_quantifier.ensures ∙ c.if-is_quantifier.false) c.requires.inputs

pub returns-then-is_quantifier-clause-long : goal.returns-then-is_quantifier-clause-long
returns-then-is_quantifier-clause-long c =
    let count : c.len.result ≡ length c.args.self.now.known.items = search rules in
    let at = subst (λ (n : ℕ). slice_get (pairs c.args.task.now.prefix.now) n
    ≡ Some c.pair-quantifier.result) count c.pair-quantifier.ensures in
    λ is plain. output_too_long _ _ _ _ _ c.args.self.now c.args.entries.now c.pair-quantifier.result.0 c.pair-quantifier.result.1
    c.requires.entries c.requires.assembled at plain (c.add_output.ensures.long is plain)
