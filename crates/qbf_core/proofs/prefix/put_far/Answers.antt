use Rattle.qbf_core.proofs.Cited.{◌≡◌, ◌∙◌, None, sym, ap, subst, arith, is_some, nat_eq, lookup, IsVariable, FitsTable}
use Rattle.lists.proofs.PushedItems.{AllByRecursion-push}
use Rattle.qbf_core.proofs.PrefixLaws.{added}
use Rattle.qbf_core.proofs.TableLaws.{beyond_added}
use Rattle.qbf_core.proofs.prefix.put_far.Goals as goal

pub returns-clause-kept : goal.returns-clause-kept
returns-clause-kept c = λ es index none.
    let out : lookup (nat_eq c.args.var) c.args.far.now.entries ≡ None =
    index c.args.var (omega (arith, c.if-reached-number.false, c.number.ensures.value)) ∙ none in
    rw (added c.args.far.now c.insert.new.self c.args.var c.args.place (sym (ap is_some out)) c.in_ok-insert.ensures.entries)
    (beyond_added c.args.reached c.args.far.now.entries es c.args.var c.args.place out none index)

pub returns-clause-within : goal.returns-clause-within
returns-clause-within c = λ es index none all.
    let out : lookup (nat_eq c.args.var) c.args.far.now.entries ≡ None =
    index c.args.var (omega (arith, c.if-reached-number.false, c.number.ensures.value)) ∙ none in
    rw (added c.args.far.now c.insert.new.self c.args.var c.args.place (sym (ap is_some out)) c.in_ok-insert.ensures.entries)
    (AllByRecursion-push FitsTable c.args.far.now.entries (c.args.var, c.args.place) all
    (subst IsVariable c.number.ensures.value (c.number.ensures.low, c.number.ensures.high), c.requires))
