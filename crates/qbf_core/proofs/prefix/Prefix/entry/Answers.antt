use Rattle.qbf_core.proofs.Cited.{rules}
use Rattle.qbf_core.proofs.PrefixLaws.{quantifier_found}
use Rattle.qbf_core.proofs.TableLaws.{slot_found}
use Rattle.qbf_core.proofs.prefix.Prefix.entry.Goals as goal

pub returns-in-Some-clause-quantifier : goal.returns-in-Some-clause-quantifier
returns-in-Some-clause-quantifier c = search (rules, quantifier_found, slot_found)
