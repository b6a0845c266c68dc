use Rattle.qrp_completeness.proofs.Traces.{small_results_have_traces, small_formulas_are_verified}
use Rattle.qrp_completeness.proofs.Small.{few_variables_are_small}
use Rattle.qrp_completeness.proofs.laws.each_small_formula_has_a_trace.Goals as goal

pub returns : goal.returns
returns c = record { trace = small_results_have_traces; verified = small_formulas_are_verified; small = few_variables_are_small }
