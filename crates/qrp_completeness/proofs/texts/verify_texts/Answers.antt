use Rattle.std.proofs.Common.{arith}
use Rattle.qrp_completeness.proofs.Traces.{verified_or_memory}
use Rattle.qrp_completeness.proofs.texts.verify_texts.Goals as goal

pub returns-clause-complete : goal.returns-clause-complete
returns-clause-complete c = λ f o has is e.
    verified_or_memory c.args.rules c.args.formula.now c.args.trace.now c.new-formula_source.result c.new-trace_source.result c.verify.result
    f o has c.new-formula_source.ensures.made c.new-trace_source.ensures.made is e c.verify.ensures.headline
    (λ device. let less = (c.verify.ensures.formula_failed (omega arith)).0 device in omega (arith, less))
    (λ device. let less = (c.verify.ensures.trace_failed (omega arith)).0 device in omega (arith, less))
