use Rattle.std.proofs.Common.{rules, Err}
use Rattle.std.proofs.lemmas.Result.{err_from_is_err_and}
use Rattle.qrp_check.specs.Checked.{IsCheckedOf, call_of}
use Rattle.qrp_check.specs.declared.verdict.Fault.TheVariants as fault
use Rattle.qrp_check.proofs.MarkedTruth.{verified_of, trace_read}
use Rattle.qrp_check.proofs.VerdictsOfBytes.{refused_of}
use Rattle.qrp_check.proofs.verifying.find_truth_of.Goals as goal

pub returns-in_err-whole : goal.returns-in_err-whole
returns-in_err-whole g c =
    let p = err_from_is_err_and c.from_residual.result c.from_residual.ensures.1 in
    let checked : IsCheckedOf c.args.rules c.args.formula.now (call_of g.B.Source c.args.trace.now c.read_compact.new.source)
    (Err (fault.Trace c.in_err-whole.field-0.0.0 c.in_err-whole.field-0.0.1)) = search rules in
    (Err p.0, (rw p.2 checked, rw p.2 (λ is. absurd is)), p.1)

pub returns-in_err-check_marked : goal.returns-in_err-check_marked
returns-in_err-check_marked g c =
    let p = err_from_is_err_and c.from_residual-in_err-check_marked.result c.from_residual-in_err-check_marked.ensures.1 in
    let checked = refused_of c.args.rules (call_of g.B.Source c.args.trace.now c.read_compact.new.source) c.args.formula.now c.in_ok-whole.whole
    (Err p.0) c.in_err-check_marked.field-0.0 (cc p.2) c.in_ok-whole.ensures.exact c.in_ok-whole.ensures.devices.works
    (rw (c.sets.ensures, c.result.ensures.value) at c.in_err-check_marked.ensures.refused) in (
      Err p.0,
      (
        checked,
        λ is. trace_read c.in_ok-whole.whole (g.B.Source.remaining c.args.trace.now)
            (g.B.Source.remaining c.read_compact.new.source) c.in_ok-whole.ensures.stops,
      ),
      p.1,
    )

pub returns : goal.returns
returns g c =
    let is_result = c.result.ensures.value in
    let w = verified_of c.args.rules (call_of g.B.Source c.args.trace.now c.read_compact.new.source) c.args.formula.now c.in_ok-whole.whole
    c.in_ok-check_marked.field-0 c.in_ok-whole.ensures.exact c.in_ok-whole.ensures.devices.works
    (rw (c.sets.ensures, is_result) at c.in_ok-check_marked.ensures.proves) c.in_ok-check_marked.ensures.core
    (rw is_result at c.in_ok-check_marked.ensures.truth) in
    rw (c.is_sat.ensures, c.result-2.ensures.value) (
      w.0,
      (
        w.1,
        λ is. trace_read c.in_ok-whole.whole (g.B.Source.remaining c.args.trace.now)
            (g.B.Source.remaining c.read_compact.new.source) c.in_ok-whole.ensures.stops,
      ),
      w.2,
    )
