use Rattle.std.proofs.Common.{◌≡◌, ap, refl, sym, subst, ℕ, List, Err, IfSome}
use Rattle.qrp_check.specs.Checked.{call_of}
use Rattle.gate_verify.specs.declared.fault.Unverified.{Unverified}
use Rattle.gate_verify.specs.declared.fault.Unverified.TheVariants as fault
use Rattle.gate_verify.proofs.Told.{unread}
use Rattle.gate_strategy.specs.declared.fault.GateStrategyFault.TheVariants.{Check}
use Rattle.gate_strategy.proofs.StrategyOfBytes.{from_source, refused}
use Rattle.qrp_gates.proofs.running.run_strategy.Goals as goal

pub returns-in-Ok : goal.returns-in-Ok
returns-in-Ok g c =
    let question = call_of g.F.Source c.args.sources.now.formula c.read_bytes.new.source in
    let trace = call_of g.T.Source c.args.sources.now.trace c.find_gate_strategy-found.new.trace in
    let found = c.find_gate_strategy-found.result in
    let gave : IfSome question.bytes (λ bytes. c.deref.result.now ≡ bytes) =
    subst (λ (t : List ℕ). IfSome question.bytes (λ bytes. t ≡ bytes)) (sym c.deref.ensures.value) c.in-Ok.ensures.bytes in (
      found,
      from_source c.args.wanted.0 c.deref.result.now question trace gave c.in-Ok.ensures.works found c.find_gate_strategy-found.ensures.verdict,
      c.send_strategy.ensures,
    )

pub returns-in-Err : goal.returns-in-Err
returns-in-Err g c =
    let question = call_of g.F.Source c.args.sources.now.formula c.read_bytes.new.source in
    let trace = call_of g.T.Source c.args.sources.now.trace c.args.sources.now.trace in
    let e : Unverified = fault.Question c.in-Err.fault 0 in (
      Err (Check e),
      refused c.args.wanted.0 question trace e
          (unread question c.in-Err.fault c.in-Err.ensures.fault (λ is small. c.in-Err.ensures.failed (ap Err is) small)
          (λ is. c.in-Err.ensures.kept (ap Err is))) refl refl,
      (c.send_refusal.ensures, refl),
    )
