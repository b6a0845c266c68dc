use Rattle.qbf_core.proofs.Cited.{◌≡◌, ◌≤◌, ◌++◌, ◌∷◌, [], ℕ, List, Option, ap, sym, ◌∙◌, subst, length}
use Rattle.qbf_core.proofs.Cited.{arith, Place, IsBeyond, IsTable, IsIndexOf}
use Rattle.qbf_core.proofs.TableLaws.{index_appended, written_back}
use Rattle.qbf_core.proofs.prefix.note_place.Goals as goal

pub returns-then-number-len-clause-noted : goal.returns-then-number-len-clause-noted
returns-then-number-len-clause-noted c = λ es none index.
    let here : c.args.var ≡ length c.args.direct.now.items =
    omega (arith, c.if-number-len.true, c.number-number.ensures.value, c.len.ensures, c.args.direct.now.ok.0) in
    rw (c.in_ok-push.ensures.items, c.new.ensures)
    (index_appended c.args.direct.now.items c.args.far.now.entries es c.args.var c.args.place here none index)

pub returns-clause-noted : goal.returns-clause-noted
returns-clause-noted c = λ es none before.
    let table : List (Option Place) = c.grow_direct.new.direct.items in
    let far : List (ℕ × Place) = c.args.far.now.entries in
    let index : IsIndexOf table far es = c.grow_direct.ensures es before in
    let value : c.deref_mut.result.now ≡ table = c.deref_mut.ensures.value in
    let same : length c.set_direct.new.direct ≡ length table = c.set_direct.auto.direct ∙ ap length value in
    let reached : length table ≡ c.len-3.result = sym (c.len-3.ensures ∙ c.grow_direct.new.direct.ok.0) in
    let whole = written_back c.grow_direct.new.direct.len c.set_direct.new.direct table c.grow_direct.new.direct.ok.0 same in
    let from_here : IsBeyond c.len-3.result far es = subst (λ (n : ℕ). IsBeyond n far es) reached index.1 in
    let beyond : IsBeyond c.len-3.result c.put_far.new.far.entries (es ++ (c.args.var, c.args.place) ∷ []) =
    c.in-Ok.ensures.kept es from_here none in
    rw whole (
      c.set_direct.ensures es (subst (λ (t : List (Option Place)). IsTable t es) (sym value) index.0) none,
      λ n long. beyond n (let far : length c.set_direct.new.direct ≤ n = long in omega (arith, far, same, reached)),
    )

pub returns-clause-within : goal.returns-clause-within
returns-clause-within c = λ es none before.
    let index = c.grow_direct.ensures es before in
    let reached : length c.grow_direct.new.direct.items ≡ c.len-3.result = sym (c.len-3.ensures ∙ c.grow_direct.new.direct.ok.0) in
    c.in-Ok.ensures.within es (subst (λ (n : ℕ). IsBeyond n c.args.far.now.entries es) reached index.1) none c.requires.within
