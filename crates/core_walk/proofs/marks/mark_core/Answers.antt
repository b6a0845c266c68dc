use Rattle.core_walk.proofs.Cited.{◌≡◌, ℕ, ◌+◌, ◌<◌, List, Bool, true, length, sym, refl, ap, ◌∙◌, subst, get_or, arith}
use Rattle.core_walk.proofs.Cited.{get_or_from_slice_get, Inference, IsMarked, at_place}
use Rattle.std.proofs.Common.{◌-◌}
use Rattle.std.proofs.lemmas.Option.{slice_get_read}
use Rattle.core_walk.proofs.Marking.{IsMarking, marking_init, marking_skip, marking_step, marking_done}
use Rattle.qbf_core.proofs.TableLaws.{written_back}
use Rattle.core_walk.proofs.marks.mark_core.Goals as goal

pub loop-i-init : goal.loop-i-init
loop-i-init g c = marking_init (g.T.KeptSteps.steps c.args.trace.now) c.args.goal c.len-count.result c.in_ok-marks.marks.items c.requires
    c.len-count.ensures.len (c.in_ok-marks.ensures.items_if_clones_equal (λ y h. h))

pub loop-i-preserved-in-Continue-branch-2 : goal.loop-i-preserved-in-Continue-branch-2
loop-i-preserved-in-Continue-branch-2 g c =
    let steps : List Inference = g.T.KeptSteps.steps c.args.trace.now in
    let is_next : c.loop-i.i ≡ (c.loop-i.i - 1) + 1 = (let h : 0 < c.loop-i.i = c.loop-i-test.true in omega arith) in
    let inside : c.loop-i.i - 1 < length steps = omega (arith, c.len-count.ensures.len) in
    let s = at_place steps (c.loop-i.i - 1) inside in
    let here : IsMarked c.loop-i.marks.items (c.loop-i.i - 1) =
    slice_get_read _ (length c.loop-i.marks.items) (c.loop-i.i - 1) true refl (omega arith)
    (subst (λ (b : Bool). b ≡ get_or c.loop-i.marks.items (c.loop-i.i - 1) b) c.if-index.true c.index.ensures) in
    let value : c.deref_mut.result.now ≡ c.loop-i.marks.items = c.deref_mut.ensures.value in
    let many : length c.mark_named.new.marks ≡ length c.loop-i.marks.items = c.mark_named.auto.marks ∙ ap length value in
    let whole = sym (written_back c.loop-i.marks.len c.mark_named.new.marks c.loop-i.marks.items c.loop-i.marks.ok.0 many) in
    subst (λ (ms : List Bool). IsMarking steps c.args.goal (c.loop-i.i - 1) ms) whole
    (marking_step _ _ c.loop-i.i (c.loop-i.i - 1) c.loop-i.marks.items c.mark_named.new.marks s.0 is_next s.1 here many
    (rw value at c.in_ok-mark_named.ensures s.0 s.1) c.loop-i.invariant)

pub loop-i-preserved : goal.loop-i-preserved
loop-i-preserved g c =
    let is_next : c.loop-i.i ≡ (c.loop-i.i - 1) + 1 = (let h : 0 < c.loop-i.i = c.loop-i-test.true in omega arith) in
    let out : IsMarked c.loop-i.marks.items (c.loop-i.i - 1) → ⊥ =
    λ h. let e = get_or_from_slice_get c.loop-i.marks.items (c.loop-i.i - 1) true c.index.result.now h in
    let f = c.index.ensures in
    let k = c.if-index.false in cc (e, f, k) in
    marking_skip _ _ c.loop-i.i (c.loop-i.i - 1) c.loop-i.marks.items is_next out c.loop-i.invariant

pub returns-clause-core : goal.returns-clause-core
returns-clause-core g c = marking_done _ _ c.loop-i.marks.items c.requires
    (subst (λ (n : ℕ). IsMarking (g.T.KeptSteps.steps c.args.trace.now) c.args.goal n c.loop-i.marks.items)
    (let z : c.loop-i.i ≡ 0 = omega (arith, c.loop-i-test.false) in z) c.loop-i.invariant)
