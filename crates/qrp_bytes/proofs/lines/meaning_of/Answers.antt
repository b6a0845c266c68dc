use Rattle.qrp_bytes.proofs.EncodedLines.{fault_found, fault_of_gates, fault_of_proof}
use Rattle.qrp_bytes.proofs.lines.meaning_of.Goals as goal

pub returns-in-Some-clause-none : goal.returns-in-Some-clause-none
returns-in-Some-clause-none c = λ none. absurd (none (fault_of_gates c.args.verdict.now c.in-Some.refusal c.in-Some.ensures.encoded.0 c.in-Some.ensures.encoded.1))

pub returns-in-Some-decode_refusal-clause-none : goal.returns-in-Some-decode_refusal-clause-none
returns-in-Some-decode_refusal-clause-none c = λ none.
    let found = c.in-Some-decode_refusal.ensures.encoded in
    absurd (none (fault_of_proof c.args.verdict.now c.in-Some-decode_refusal.refusal found.0 found.1))

pub returns-in-None-clause-gates : goal.returns-in-None-clause-gates
returns-in-None-clause-gates c = λ e named is.
    absurd (fault_found e c.args.verdict.now named is (λ r of same. c.in_default.not-Some r (c.decode_gates.ensures.all r of same))
    (λ r of same. cc (c.in-None.is, c.decode_refusal.ensures.all r of same)))
