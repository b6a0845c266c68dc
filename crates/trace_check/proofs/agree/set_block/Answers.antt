use Rattle.trace_check.proofs.Cited.{◌+◌, ◌∷◌, [], ℕ, List, take, drop, subst, sym, take_all, Quantifier, Passes, FailsIn}
use Rattle.trace_check.proofs.SetsAgree.{passes_more, fails_more, under, under_next, under_rest}
use Rattle.trace_check.proofs.agree.set_block.Goals as goal

pub returns-in-Err-clause-err : goal.returns-in-Err-clause-err
returns-in-Err-clause-err c =
    let q : Quantifier = c.args.quantifier in
    let vs : List ℕ = c.args.vars.now in
    let i : ℕ = c.loop-var.var-index in
    let v : ℕ = c.var-item.result in
    let fails = fails_more c.args.prefix.now c.args.highest c.loop-var.reached (under q (take i vs)) ((q, v) ∷ [])
    (under q (drop (i + 1) vs)) c.in-Err.fault c.loop-var.invariant c.in-Err.ensures.err in
    subst (λ ps. FailsIn c.args.prefix.now c.args.highest ps c.in-Err.fault)
    (under_rest q vs i v c.loop-var-test.true c.var-item.is) fails

pub loop-var-preserved : goal.loop-var-preserved
loop-var-preserved c =
    let q : Quantifier = c.args.quantifier in
    let vs : List ℕ = c.args.vars.now in
    let i : ℕ = c.loop-var.var-index in
    let v : ℕ = c.var-item.result in
    subst (λ ps. Passes c.args.prefix.now c.args.highest ps c.in-Ok.block) (sym (under_next q vs i v c.loop-var-test.true c.var-item.is))
    (passes_more c.args.prefix.now c.args.highest c.loop-var.reached c.in-Ok.block (under q (take i vs)) ((q, v) ∷ []) c.loop-var.invariant
    c.in-Ok.ensures.ok)

pub returns-clause-ok : goal.returns-clause-ok
returns-clause-ok c =
    let q : Quantifier = c.args.quantifier in
    let vs : List ℕ = c.args.vars.now in
    subst (λ ws. Passes c.args.prefix.now c.args.highest (under q ws) c.loop-var.reached)
    (take_all c.loop-var.var-index vs c.loop-var-test.false) c.loop-var.invariant
