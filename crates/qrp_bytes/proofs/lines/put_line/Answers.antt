use Rattle.std.proofs.Common.{inr}
use Rattle.qrp_bytes.proofs.EncodedLines.{fault_of_gates, fault_of_proof, gates_line, proof_line, result_found, truth_line}
use Rattle.qrp_bytes.proofs.lines.put_line.Goals as goal

pub returns-in-Some-clause-encoded : goal.returns-in-Some-clause-encoded
returns-in-Some-clause-encoded g c = λ outcome is.
    rw (← truth_line outcome c.args.verdict.now c.in-Some.truth is c.in-Some.ensures.encoded) c.put_verdict.ensures

pub returns-in-Some-decode_gates-clause-encoded : goal.returns-in-Some-decode_gates-clause-encoded
returns-in-Some-decode_gates-clause-encoded g c = λ outcome is.
    rw (← gates_line outcome c.args.verdict.now c.in-Some-decode_gates.refusal is c.in-Some-decode_gates.ensures.encoded.1) c.put_gate_refusal.ensures

pub returns-in-Some-decode_gates-clause-none : goal.returns-in-Some-decode_gates-clause-none
returns-in-Some-decode_gates-clause-none g c = λ none.
    let found = c.in-Some-decode_gates.ensures.encoded in
    absurd (none (inr (fault_of_gates c.args.verdict.now c.in-Some-decode_gates.refusal found.0 found.1)))

pub returns-in-Some-decode_refusal-clause-encoded : goal.returns-in-Some-decode_refusal-clause-encoded
returns-in-Some-decode_refusal-clause-encoded g c = λ outcome is.
    let found = c.in-Some-decode_refusal.ensures.encoded in
    rw (← proof_line outcome c.args.verdict.now c.in-Some-decode_refusal.refusal is found.0 found.1) c.put_refusal.ensures

pub returns-in-Some-decode_refusal-clause-none : goal.returns-in-Some-decode_refusal-clause-none
returns-in-Some-decode_refusal-clause-none g c = λ none.
    let found = c.in-Some-decode_refusal.ensures.encoded in
    absurd (none (inr (fault_of_proof c.args.verdict.now c.in-Some-decode_refusal.refusal found.0 found.1)))

pub returns-in-None-clause-encoded : goal.returns-in-None-clause-encoded
returns-in-None-clause-encoded g c = λ outcome is.
    absurd (result_found outcome c.args.verdict.now is (λ b same. c.in_default.not-Some b (c.decode_truth.ensures.all b same))
    (λ r of same. c.in_default-decode_gates.not-Some r (c.decode_gates.ensures.all r of same))
    (λ r of same. cc (c.in-None.is, c.decode_refusal.ensures.all r of same)))
