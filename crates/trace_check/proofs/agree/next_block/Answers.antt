use Rattle.trace_check.proofs.Cited.{rules, common_steps, refl, sym, arith}
use Rattle.qrp_rules.proofs.Reducing.{binds_block}
use Rattle.trace_check.proofs.SetsAgree.{passes_one, fails_unbound, fails_other, fails_early}
use Rattle.trace_check.proofs.agree.next_block.Goals as goal

pub returns-then-not-is_bound-clause-err : goal.returns-then-not-is_bound-clause-err
returns-then-not-is_bound-clause-err c = search (rules, fails_unbound, c.args.highest, c.args.quantifier, c.if-not-is_bound.ensures)

pub returns-then-not-is_bound_by-clause-err : goal.returns-then-not-is_bound_by-clause-err
returns-then-not-is_bound_by-clause-err c =
    search (rules, fails_other, c.args.highest, c.args.quantifier, c.if-not-is_bound.ensures, c.if-not-is_bound_by.ensures.1)

pub returns-then-block-highest-clause-err : goal.returns-then-block-highest-clause-err
returns-then-block-highest-clause-err c =
    fails_early c.args.prefix.now c.args.highest c.in-Some.block c.args.quantifier c.args.var (c.if-not-is_bound_by.ensures.0 refl)
    (sym c.in-Some.ensures) c.if-block-highest.true

pub returns-else-block-highest-clause-ok : goal.returns-else-block-highest-clause-ok
returns-else-block-highest-clause-ok c =
    passes_one c.args.prefix.now c.args.highest c.in-Some.block c.args.quantifier c.args.var (c.if-not-is_bound_by.ensures.0 refl)
    (sym c.in-Some.ensures) c.if-block-highest.false

pub returns-in-None-clause-err : goal.returns-in-None-clause-err
returns-in-None-clause-err c = λ before rest passed. grind (arith, common_steps, binds_block)
