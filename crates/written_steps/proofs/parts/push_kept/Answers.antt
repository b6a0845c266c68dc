use Rattle.qrp_rules.proofs.Cited.{List, inl, inr, sym, subst, refl, Literal, ◌∈◌}
use Rattle.qbf_core.proofs.Members.{in_push, push_in}
use Rattle.written_steps.proofs.parts.push_kept.Goals as goal

pub returns-clause-within : goal.returns-clause-within
returns-clause-within c = λ l h.
    in_push c.args.part.now.items c.args.lit l (subst (λ (zs : List Literal). l ∈ zs) c.in_ok-push.ensures.items h)

pub returns-clause-kept : goal.returns-clause-kept
returns-clause-kept c = λ l h.
    subst (λ (zs : List Literal). l ∈ zs) (sym c.in_ok-push.ensures.items) (push_in c.args.part.now.items c.args.lit l (inl h))

pub returns-clause-put : goal.returns-clause-put
returns-clause-put c =
    inl (subst (λ (zs : List Literal). c.args.lit ∈ zs) (sym c.in_ok-push.ensures.items)
    (push_in c.args.part.now.items c.args.lit c.args.lit (inr refl)))
