use Rattle.window_numbers.proofs.PassedNumbers.{begun_counted}
use Rattle.qbf_text.proofs.HandedNumbers.{taken_number}
use Rattle.qbf_text.proofs.scanner.Place.pulled_token.Goals as goal

pub returns-clause-found : goal.returns-clause-found
returns-clause-found c remaining =
    let p = c.args.self.now in
    let passes = rw (c.bytes.ensures, c.cursor.ensures) at c.in-Some.ensures in
    rw c.go_to.ensures.to (record {
      takes =
          rw (begun_counted p.begun) at (taken_number p.comments p.window _ c.in-Some.passed.next c.in-Some.passed.token passes remaining);
      no_end = passes.no_end;
    })
