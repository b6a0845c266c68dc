use Rattle.qrp_rules.proofs.Cited.{◌∙◌, List, Literal, ◌∈◌, StandsAfter, subst, Quantifier}
use Rattle.written_steps.proofs.PartsFollow.{resolves_whole}
use Rattle.written_steps.proofs.parts.Part.for_resolvent.Goals as goal

pub returns-clause-whole : goal.returns-clause-whole
returns-clause-whole g c = rw c.deref.ensures.value
    (resolves_whole g.S.Side.side c.args.prefix.now c.args.self.now.reach c.args.self.now.lits.items c.args.other.now c.args.to.now
    (c.lacks_reducible.ensures c.if-not-lacks_reducible.false)
    (subst (λ (q : Quantifier). (l : Literal) → l ∈ c.args.other.now → StandsAfter c.args.prefix.now q c.args.self.now.reach l.var → ⊥)
    (c.REDUCED.ensures ∙ g.met.S.Side.reduces) (c.surely_has_vars_of.ensures c.if-not-surely_has_vars_of.false)))
