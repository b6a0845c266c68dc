use Rattle.qrp_rules.proofs.Cited.{refl, subst, sym, ◌∙◌, false≢true, TakesOut}
use Rattle.std.specs.Prelude.{IsOk}
use Rattle.written_steps.proofs.Cited.{Has}
use Rattle.written_steps.proofs.WrittenSteps.{put_one}
use Rattle.written_steps.proofs.written_resolvent.put_left_out.Goals as goal

pub returns-clause-put : goal.returns-clause-put
returns-clause-put c =
    put_one c.args.seen.now c.put.new.self c.args.lit
    (λ l. TakesOut c.args.reducible l.var)
    (IsOk c.put.result) c.put.ensures
    (λ h. false≢true (sym c.if-contains-2.false ∙ c.contains-2.ensures.1 (subst (Has c.args.seen.now) (sym c.negated.ensures) h)))
    (rw c.var-2.ensures at c.if-not-has.ensures.0 refl)

pub returns-in_err-put-clause-put : goal.returns-in_err-put-clause-put
returns-in_err-put-clause-put c =
    put_one c.args.seen.now c.put.new.self c.args.lit
    (λ l. TakesOut c.args.reducible l.var)
    (IsOk c.put.result) c.put.ensures
    (λ h. false≢true (sym c.if-contains-2.false ∙ c.contains-2.ensures.1 (subst (Has c.args.seen.now) (sym c.negated.ensures) h)))
    (rw c.var-2.ensures at c.if-not-has.ensures.0 refl)
