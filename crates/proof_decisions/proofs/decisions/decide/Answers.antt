use Rattle.trace_check.proofs.Cited.{◌↔◌, ◌∙◌, [], Block, Inference, List, Literal, ap, subst}
use Rattle.lists.specs.Lists.{Growing}
use Rattle.qbf_core.specs.Rules.{IsReducible}
use Rattle.qrp_rules.specs.Walks.{TakesOut}
use Rattle.proof_decisions.specs.Removing.{AddsUnlessIdle, HasJust, RemovesAll}
use Rattle.proof_decisions.proofs.MadeDecisions.{decision_made}
use Rattle.proof_decisions.proofs.RemovedLiterals.{on_ok}
use Rattle.proof_decisions.proofs.decisions.decide.Goals as goal

pub returns : goal.returns
returns g c =
    let steps : List Inference = g.T.KeptSteps.steps c.args.proof.trace.now in
    let lits : List Literal = c.in_ok-lits.lits.now in
    let keeps : List Literal = c.keep.new.kept.unfinished in
    let removes : List Literal = c.remove_all.new.removed.unfinished in
    let means : (l : Literal) → TakesOut c.reducible_in-own.result l.var ↔ IsReducible g.S.Side.side c.args.proof.formula.now.blocks lits l =
    subst (λ (bs : List Block). (l : Literal) → TakesOut c.reducible_in-own.result l.var ↔ IsReducible g.S.Side.side bs lits l)
    c.prefix.ensures.value (c.reducible_in-own.ensures g.S.Side.side (c.REDUCED.ensures ∙ g.met.S.Side.reduces)) in
    let just : HasJust keeps c.set_all.new.seen =
    subst (λ ls. HasJust ls c.set_all.new.seen) c.unfinished.ensures c.in_ok-set_all.ensures in
    let removed_all : RemovesAll g.S.Side.side c.args.proof.formula.now.blocks c.set_all.new.seen c.remove_all.new.seen [] removes
    c.in_ok-origin.origin =
    subst (λ (bs : List Block). RemovesAll g.S.Side.side bs c.set_all.new.seen c.remove_all.new.seen [] removes c.in_ok-origin.origin)
    c.prefix-2.ensures.value
    (subst (λ (x : Growing Literal). RemovesAll g.S.Side.side c.prefix-2.result.now c.set_all.new.seen c.remove_all.new.seen x.unfinished removes
    c.in_ok-origin.origin) c.begin.ensures c.in_ok-remove_all.ensures.removes) in
    on_ok c.close_unless_idle.result
    (λ closed.
    record {
      keeps = keeps;
      removes = removes;
      adds =
          subst (λ (ks : List (List Literal)). AddsUnlessIdle ks c.args.walk.now.decisions.removed.whole keeps removes
          c.close_unless_idle.new.decisions.kept.whole c.close_unless_idle.new.decisions.removed.whole) c.keep.ensures.whole
          (subst (λ (rs : List (List Literal)). AddsUnlessIdle c.keep.new.kept.whole rs keeps removes
          c.close_unless_idle.new.decisions.kept.whole c.close_unless_idle.new.decisions.removed.whole)
          (c.remove_all.ensures.whole ∙ ap (λ (x : Growing Literal). x.whole) c.begin.ensures) closed);
      decision = decision_made g.S.Side.side c.args.proof.formula.now c.prefix.ensures.sound steps c.requires.derives c.args.position c.requires.core
          c.reducible_in-own.result lits keeps removes c.set_all.new.seen c.remove_all.new.seen c.in_ok-origin.origin c.in_ok-lits.ensures means
          c.in_ok-keep.ensures.left just c.in_ok-origin.ensures removed_all;
    })
    c.close_unless_idle.ensures
