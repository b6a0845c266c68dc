-- Where buffered numbers lead to.
use Rattle.qrp.proofs.Cited.{leads_none, leads_more, leads_further, arith, common_steps, ◌≡◌, ◌≤◌, ◌<◌, ℕ, suc, ◌+◌, ◌-◌, List, [], ◌∷◌}
use Rattle.qrp.proofs.Cited.{◌++◌, Option, Some, Result, Ok, Err, ap, ◌∙◌, append_assoc, length, map, Literal, IsLiteral}
use Rattle.qrp.proofs.Cited.{AllByRecursion, all_appended}
use Rattle.std.proofs.Common.{None}
use Rattle.std.specs.Prelude.{ℤ, IfOk, pos, unsigned_abs, int_lt, slice_index_or, slice_range, Bool}
use Rattle.qbf_core.specs.WrittenLiterals.{literal_of, IsWritten}
use Rattle.qbf_text.specs.TakenNumbers.{LeadsOver}
use Rattle.qbf_tokens.specs.NumberTokens.{token_of, token_at}
use Rattle.qbf_tokens.specs.declared.token.Token.TheVariants.{Number}
use Rattle.dimacs_syntax.specs.Decode.{decode_literal, decode_member}
use Rattle.qbf_core.specs.declared.quantifier.Quantifier.{Quantifier}
use Rattle.qbf_text.proofs.LeadingNumbers.{takes_further}
use Rattle.qbf_text.specs.Rows.{Goes}
use Rattle.trace_items.specs.declared.parts.Lists.{Lists}
use Rattle.trace_items.specs.declared.parts.Part.{Part}
use Rattle.qrp.specs.declared.states.State as states
use Rattle.qrp.specs.States.{completed, state_at, Arrives, Moves}
use Rattle.qrp.specs.Reading.{State, Row, row, faults, set_row, lits_row, InSet, InLits, InAnts}

module _ (first : State) (values : List ℤ) (from i : ℕ) (ns : List ℕ) (n : ℕ) (ls : List Literal) where
  -- a literal more
  pub literal_more : (l : Literal) → Ok (Some l) ≡ decode_literal faults 2147483647 (token_at values i)
      → LeadsOver row first (InLits ns n ls) values from i → LeadsOver row first (InLits ns n (ls ++ l ∷ [])) values from (i + 1)
  literal_more l says = grind (arith, common_steps, leads_more, row, lits_row)

-- a variable of a set more
pub member_more : (first : State) (values : List ℤ) (from i : ℕ) (q : Quantifier) (vs : List ℕ) (v : ℕ)
    → Ok (Some v) ≡ decode_member faults 2147483647 (token_at values i)
    → LeadsOver row first (InSet q vs) values from i → LeadsOver row first (InSet q (vs ++ v ∷ [])) values from (i + 1)
member_more first values from i q vs v says = grind (arith, common_steps, leads_more, row, set_row)

-- ---- many literals

-- a number is read as the literal that it is
said : (negative : Bool) (m : ℕ) → 1 ≤ m → m ≤ 2147483647
    → Ok (Some (record { var = m; negative = negative })) ≡ decode_literal faults 2147483647 (Number negative m)
said negative m low high = grind (arith, common_steps)

written_said : (v w : ℤ) → IsWritten 2147483647 v → v ≡ w → Ok (Some (literal_of v)) ≡ decode_literal faults 2147483647 (token_of w)
written_said v w is same = said (int_lt v (pos 0)) (unsigned_abs v) is.0 is.1 ∙ ap (λ x. decode_literal faults 2147483647 (token_of x)) same

list_leads : (xs values : List ℤ) (i : ℕ) (ns : List ℕ) (n : ℕ) (ls : List Literal) → AllByRecursion (IsWritten 2147483647) xs
    → ((k : ℕ) → k < length xs → slice_index_or xs k (pos 0) ≡ slice_index_or values (i + k) (pos 0))
    → LeadsOver row (InLits ns n ls) (InLits ns n (ls ++ map literal_of xs)) values i (i + length xs)
list_leads [] values i ns n ls all same = grind (arith, common_steps)
list_leads (x ∷ xs) values i ns n ls all same =
    let l = literal_of x in
    let here : x ≡ slice_index_or values i (pos 0) =
    let none : i + 0 ≡ i = omega arith in rw none at (same 0 (omega arith)) in
    let one = literal_more (InLits ns n ls) values i i ns n ls l (written_said x (slice_index_or values i (pos 0)) all.0 here)
    (leads_none row (InLits ns n ls) values i) in
    let more = list_leads xs values (i + 1) ns n (ls ++ l ∷ []) all.1 (λ k less.
    let place : i + suc k ≡ i + 1 + k = omega arith in rw place at (same (suc k) (omega (arith, less)))) in
    let to : i + length (x ∷ xs) ≡ i + 1 + length xs = omega arith in
    rw to (leads_further row (InLits ns n ls) (InLits ns n (ls ++ l ∷ [])) (InLits ns n (ls ++ l ∷ map literal_of xs)) values i (i + 1)
    (i + 1 + length xs) one (rw (append_assoc ls (l ∷ []) (map literal_of xs)) at more))

range_at : (values : List ℤ) (from to k : ℕ) → k < to - from
    → slice_index_or (slice_range values from to) k (pos 0) ≡ slice_index_or values (from + k) (pos 0)
range_at values from to k less = grind (arith, common_steps)

range_length : (values : List ℤ) (from to : ℕ) → to ≤ length values → length (slice_range values from to) ≡ to - from
range_length values from to within = grind (arith, common_steps)

-- literals between two places lead on
pub literals_lead : (values : List ℤ) (from to : ℕ) (ns : List ℕ) (n : ℕ) (ls : List Literal) → from ≤ to → to ≤ length values
    → AllByRecursion (IsWritten 2147483647) (slice_range values from to)
    → LeadsOver row (InLits ns n ls) (InLits ns n (ls ++ map literal_of (slice_range values from to))) values from to
literals_lead values from to ns n ls order within all =
    let len = range_length values from to within in
    let end : from + length (slice_range values from to) ≡ to = omega (arith, len, order) in
    rw end at (list_leads (slice_range values from to) values from ns n ls all
    (λ k less. range_at values from to k (omega (arith, less, len))))

-- and a zero after them too
pub list_ends : (values : List ℤ) (from end : ℕ) (ns : List ℕ) (n : ℕ) (ls : List Literal) → from ≤ end → end < length values
    → AllByRecursion (IsWritten 2147483647) (slice_range values from end) → slice_index_or values end (pos 0) ≡ pos 0
    → LeadsOver row (InLits ns n ls) (InAnts ns n (ls ++ map literal_of (slice_range values from end)) []) values from (end + 1)
list_ends values from end ns n ls order within all is =
    let last = InLits ns n (ls ++ map literal_of (slice_range values from end)) in
    leads_more row (InLits ns n ls) last (InAnts ns n (ls ++ map literal_of (slice_range values from end)) []) values from end
    (ap (λ v. row last (token_of v)) is) (literals_lead values from end ns n ls order (omega (arith, within)) all)

-- they are literals
written_literals : (xs : List ℤ) → AllByRecursion (IsWritten 2147483647) xs → AllByRecursion IsLiteral (map literal_of xs)
written_literals [] all = tt
written_literals (x ∷ xs) all = (all.0, written_literals xs all.1)

pub more_literals : (ls : List Literal) (xs : List ℤ) → AllByRecursion IsLiteral ls → AllByRecursion (IsWritten 2147483647) xs
    → AllByRecursion IsLiteral (ls ++ map literal_of xs)
more_literals ls xs all written = all_appended IsLiteral ls (map literal_of xs) all (written_literals xs written)

-- a token that completes nothing leads on
pub goes_on : (r : Row) (b : Lists) (next : states.State) → completed next ≡ None → Moves r b (Ok next) → r ≡ Goes (state_at b next)
goes_on r b next none m = grind (arith, common_steps)

-- numbers lead on, and others after them arrive, unless an allocation fails
arrives_further : (first mid : State) (b : Lists) (next : states.State) (values : List ℤ) (from i to : ℕ) (o : Option Part)
    → LeadsOver row first mid values from i → Arrives mid b next values i to o → Arrives first b next values from to o
arrives_further first mid b next values from i to None l a = leads_further row first mid (state_at b next) values from i to l a
arrives_further first mid b next values from i to (Some p) l a =
    (a.0, takes_further row first mid (state_at b next) values from i to (Some tt) l a.1)

pub arrives_in_turn : {E : Type 0} (first mid : State) (b : Lists) (next : states.State) (values : List ℤ) (from i : ℕ)
    (result : Result (ℕ × Option Part) E) → LeadsOver row first mid values from i
    → IfOk result (λ r. Arrives mid b next values i r.0 r.1) → IfOk result (λ r. Arrives first b next values from r.0 r.1)
arrives_in_turn first mid b next values from i (Ok r) l a = arrives_further first mid b next values from i r.0 r.1 l a
arrives_in_turn first mid b next values from i (Err e) l a = tt

pub ruleset numbers_lead_on = (leads_none, leads_more, leads_further)
