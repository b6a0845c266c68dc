use Rattle.qbf_text.proofs.Stops.{found_token}
use Rattle.qbf_text.proofs.scanner.Place.pulled_token_after_separators.Goals as goal

pub returns-clause-found : goal.returns-clause-found
returns-clause-found c remaining = found_token (c.skip_separators.ensures.none remaining) (c.in_ok-found.ensures.found remaining)
