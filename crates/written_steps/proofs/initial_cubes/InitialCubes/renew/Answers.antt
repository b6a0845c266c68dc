use Rattle.qrp_rules.proofs.Cited.{◌≡◌, ◌+◌, ◌-◌, ◌<◌, ℕ, arith, subst, sym, Literal}
use Rattle.written_steps.proofs.Cited.{Has, IsMet}
use Rattle.written_steps.proofs.WatchedClauses.{seen_met}
use Rattle.written_steps.proofs.initial_cubes.InitialCubes.renew.Goals as goal

pub loop-position-preserved : goal.loop-position-preserved
loop-position-preserved c =
    let is_next : c.loop-position.position ≡ (c.loop-position.position - 1) + 1 = (let h : 0 < c.loop-position.position = c.loop-position-test.true in omega arith) in
    record {
      within = c.in_ok-move_clauses.ensures.len;
      met = λ i. c.in_ok-move_clauses.ensures.met c.if-not-branch.false i
          (subst (λ (n : ℕ). IsMet n c.args.formula.now c.args.cube.seen.now c.loop-position.self.lists.items i) is_next
          (c.loop-position.invariant.met i));
    }

pub loop-position-preserved-then-contains : goal.loop-position-preserved-then-contains
loop-position-preserved-then-contains c =
    let is_next : c.loop-position.position ≡ (c.loop-position.position - 1) + 1 = (let h : 0 < c.loop-position.position = c.loop-position-test.true in omega arith) in
    let last = c.literal.ensures in
    record {
      within = omega (arith, c.loop-position.invariant.within);
      met = λ i. seen_met (c.loop-position.position - 1) c.args.formula.now c.args.cube.seen.now c.loop-position.self.lists.items last.0 last.1
          (subst (λ (l : Literal). Has c.args.cube.seen.now l) (sym last.2) (c.contains.ensures.0 c.if-contains.true)) i
          (subst (λ (n : ℕ). IsMet n c.args.formula.now c.args.cube.seen.now c.loop-position.self.lists.items i) is_next
          (c.loop-position.invariant.met i));
    }
