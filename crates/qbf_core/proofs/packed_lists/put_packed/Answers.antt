use Rattle.qbf_core.proofs.Cited.{ap, refl, ◌∙◌, ◌∷◌, ◌++◌, [], List, ℕ}
use Rattle.lists.specs.Lists.{Growing}
use Rattle.qbf_core.proofs.Packing.{fours_put, ones_put, twos_put, wider}
use Rattle.qbf_core.proofs.packed_lists.put_packed.Goals as goal

pub returns-in_ok-push-clause-put : goal.returns-in_ok-push-clause-put
returns-in_ok-push-clause-put c =
    ones_put c.args.lits.now c.requires.literals c.put_ones.result c.push.new.self c.put_ones.new.bytes
    (ap (λ (g : Growing ℕ). g.unfinished) c.in_ok-push.ensures.pushed ∙ ap (λ (bytes : List ℕ). bytes ++ 1 ∷ []) c.requires.empty)
    (wider c.args.lits.now c.largest-largest.result 127 (c.if-surely_in_one.ensures refl) c.largest-largest.ensures)
    c.put_ones.ensures.put

pub returns-in_ok-push-2-clause-put : goal.returns-in_ok-push-2-clause-put
returns-in_ok-push-2-clause-put c =
    twos_put c.args.lits.now c.requires.literals c.put_twos.result c.push-then-surely_in_two.new.self c.put_twos.new.bytes
    (ap (λ (g : Growing ℕ). g.unfinished) c.in_ok-push-2.ensures.pushed ∙ ap (λ (bytes : List ℕ). bytes ++ 2 ∷ []) c.requires.empty)
    (wider c.args.lits.now c.largest-largest.result 32767 (c.if-surely_in_two.ensures refl) c.largest-largest.ensures)
    c.put_twos.ensures.put

pub returns-in_ok-push-3-clause-put : goal.returns-in_ok-push-3-clause-put
returns-in_ok-push-3-clause-put c =
    fours_put c.args.lits.now c.requires.literals c.put_fours.result c.push-else-surely_in_two.new.self c.put_fours.new.bytes
    (ap (λ (g : Growing ℕ). g.unfinished) c.in_ok-push-3.ensures.pushed ∙ ap (λ (bytes : List ℕ). bytes ++ 4 ∷ []) c.requires.empty)
    c.put_fours.ensures.put
