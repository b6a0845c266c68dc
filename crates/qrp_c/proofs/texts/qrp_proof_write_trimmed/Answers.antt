use Rattle.qrp_c.proofs.Trimmed.{trimmed_given}
use Rattle.qrp_c.proofs.texts.qrp_proof_write_trimmed.Goals as goal

pub returns-in-Some-clause-written : goal.returns-in-Some-clause-written
returns-in-Some-clause-written c =
    let text = c.trimmed_text-text in
    let given = trimmed_given (record { any_pivot = c.args.any_pivot }) c.deref.result.now.formula c.deref.result.now.trace.steps c.args.sat _ _ _ _ text.result text.ensures.text text.ensures.truth text.ensures.refused
    (rw c.encode_truth.ensures at c.give_text.ensures.made) c.give_text.ensures.refused in
    rw c.in-Some.ensures.taken (rw c.deref.ensures at given)
