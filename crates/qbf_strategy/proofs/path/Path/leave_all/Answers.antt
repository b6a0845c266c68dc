use Rattle.std.proofs.Common.{rules, refl, length, ◌<◌, ◌≤◌}
use Rattle.qbf_strategy.proofs.PathValues.{fewer_left, kept_all, moved_same, moved_then, still_kept}
use Rattle.qbf_strategy.proofs.path.Path.leave_all.Goals as goal

pub loop-self-init : goal.loop-self-init
loop-self-init c = record { moved = moved_same c.args.gates.now c.args.self.now c.requires; kept = refl }

pub loop-self-preserved : goal.loop-self-preserved
loop-self-preserved c =
    let more : c.args.keep < length c.loop-self.self.turns.items = search rules in
    record {
      moved = moved_then c.args.gates.now c.loop-self.gates c.leave.new.gates c.args.self.now c.loop-self.self c.leave.new.self
          c.loop-self.invariant.moved c.in_ok-leave.ensures.moved;
      kept = still_kept c.args.keep c.args.self.now.turns.items c.loop-self.self.turns.items c.leave.new.self.turns.items more
          c.in_ok-leave.ensures.fewer c.loop-self.invariant.kept;
    }

pub leave-requires : goal.leave-requires
leave-requires c = c.loop-self.invariant.moved.below

pub returns-clause-moved : goal.returns-clause-moved
returns-clause-moved c = c.loop-self.invariant.moved

pub returns-clause-kept : goal.returns-clause-kept
returns-clause-kept c =
    let none : length c.loop-self.self.turns.items ≤ c.args.keep = search rules in
    kept_all c.args.keep c.args.self.now.turns.items c.loop-self.self.turns.items none c.loop-self.invariant.kept

pub loop-self-smaller : goal.loop-self-smaller
loop-self-smaller c =
    let more : c.args.keep < length c.loop-self.self.turns.items = search rules in
    fewer_left c.args.keep c.loop-self.self.turns.items c.leave.new.self.turns.items more c.in_ok-leave.ensures.fewer
