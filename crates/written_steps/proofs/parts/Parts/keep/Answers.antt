use Rattle.qrp_rules.proofs.Cited.{◌≡◌, List, inl, inr, sym, subst, ◌∈◌, reduced_quantifier}
use Rattle.qbf_core.proofs.Members.{in_push}
use Rattle.written_steps.specs.Parts.{IsPart}
use Rattle.written_steps.specs.declared.parts.Part.{Part}
use Rattle.written_steps.proofs.parts.Parts.keep.Goals as goal

pub returns : goal.returns
returns g c = λ part h.
    let Is : Part → Type 0 = λ p. (p.number ≡ c.args.step.number)
    × IsPart c.args.prefix.now (reduced_quantifier g.S.Side.side) p.reach c.args.step.from.now p.lits.items in
    elim (in_push c.args.self.now.parts.items c.in_ok-part.part part (subst (λ (ps : List Part). part ∈ ps) c.in_ok-push.ensures.items h)) [
      | inl k ↦ inl k
      | inr e ↦ inr (subst Is (sym e) c.in_ok-part.ensures)
    ]
