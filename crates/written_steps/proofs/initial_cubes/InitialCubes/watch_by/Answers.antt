use Rattle.qrp_rules.proofs.Cited.{rules, ◌∙◌, refl, sym, subst, List}
use Rattle.written_steps.proofs.Cited.{IsWatchedBy, Watch}
use Rattle.written_steps.proofs.WatchedClauses.{added_watches, last_one, list_here, pushed_or_not, written_keeps, written_watches}
use Rattle.std.proofs.lemmas.Result.{on_ok_weaker}
use Rattle.written_steps.proofs.initial_cubes.InitialCubes.watch_by.Goals as goal

pub returns-in-Some-clause-kept : goal.returns-in-Some-clause-kept
returns-in-Some-clause-kept c =
    let at = c.in-Some.ensures in
    let here = list_here c.args.self.now.lists.items c.in-Some.position at.0 _ _ at.1 at.2 c.index_mut.ensures.value in
    written_keeps _ _ _ c.add.new.watch here.0 c.add.ensures.lit c.add.ensures.kept

pub returns-in-Some-clause-added : goal.returns-in-Some-clause-added
returns-in-Some-clause-added c =
    let at = c.in-Some.ensures in
    let here = list_here c.args.self.now.lists.items c.in-Some.position at.0 _ _ at.1 at.2 c.index_mut.ensures.value in
    on_ok_weaker c.add.result (written_watches _ _ _ c.add.new.watch _ _ here.0 (c.add.ensures.lit ∙ here.1)) c.add.ensures.added

pub returns-in_ok-push-in-None-clause-kept : goal.returns-in_ok-push-in-None-clause-kept
returns-in_ok-push-in-None-clause-kept c = search (rules, pushed_or_not)

pub returns-in_ok-push-in-None-clause-added : goal.returns-in_ok-push-in-None-clause-added
returns-in_ok-push-in-None-clause-added c =
    let new : Watch = record { lit = c.args.lit; clauses = c.push.new.self } in
    on_ok_weaker c.push_list.result
    (λ e. let both = e in subst (λ (ws : List Watch). (k : _) × IsWatchedBy ws k c.args.lit c.args.clause) (sym both)
    (added_watches _ new c.args.lit c.args.clause refl (last_one c.args.clause _ _ c.in_ok-push-in-None.ensures.items)))
    c.push_list.ensures.lists
