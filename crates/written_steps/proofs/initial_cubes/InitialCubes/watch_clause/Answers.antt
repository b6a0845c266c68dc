use Rattle.qrp_rules.proofs.Cited.{rules, in_at}
use Rattle.written_steps.proofs.WatchedClauses.{met_by}
use Rattle.written_steps.proofs.initial_cubes.InitialCubes.watch_clause.Goals as goal

pub returns-then-contains-clause-met : goal.returns-then-contains-clause-met
returns-then-contains-clause-met c = search (rules, met_by, in_at)
