-- Clauses that stand whole among buffered numbers.
use Rattle.qdimacs.proofs.Cited.{arith, common_steps, leads_none, leads_more, leads_further, ◌≡◌, ◌≤◌, ◌<◌, ◌+◌, ◌-◌, ℕ, Bool, true}
use Rattle.qdimacs.proofs.Cited.{List, [], ◌∷◌, ◌++◌, length, map, drop, Some, Ok, sym, ap, ◌∙◌, append_assoc, AllByRecursion}
use Rattle.qdimacs.proofs.Cited.{Literal, Pairs, Block, pairs, IsFull, row}
use Rattle.std.specs.Prelude.{suc, nat_lt, ℤ, pos, unsigned_abs, slice_index_or, slice_range}
use Rattle.std.proofs.lemmas.Bool.{lt-ltb}
use Rattle.std.proofs.lemmas.List.{get_or-take, get_or-drop}
use Rattle.qbf_core.specs.Blocks.{AreBound}
use Rattle.qbf_core.specs.WrittenLiterals.{literal_of, IsWritten}
use Rattle.qbf_text.specs.TakenNumbers.{LeadsOver}
use Rattle.qbf_tokens.specs.NumberTokens.{token_of}
use Rattle.qbf_tokens.specs.declared.token.Token.TheVariants.{Number}
use Rattle.qdimacs.specs.Reading.{Heading, Clauses, Between, InClause, decode_bound_literal, clause_row, has_more}

module _ (h : Heading) (ps : Pairs) (cs : Clauses) (full : IsFull h.max_var ps) where
  -- a number is read as the literal that it is
  said : (negative : Bool) (m : ℕ) → 1 ≤ m → m ≤ h.max_var
      → Ok (Some (record { var = m; negative = negative })) ≡ decode_bound_literal h.max_var ps (Number negative m)
  said negative m low high = let bound = full m low high in grind (arith, common_steps)

  written_said : (v w : ℤ) → IsWritten h.max_var v → v ≡ w → Ok (Some (literal_of v)) ≡ decode_bound_literal h.max_var ps (token_of w)
  written_said v w is same = grind (arith, common_steps)

  list_leads : (xs values : List ℤ) (i : ℕ) (ls : List Literal) → AllByRecursion (IsWritten h.max_var) xs
      → ((k : ℕ) → k < length xs → slice_index_or xs k (pos 0) ≡ slice_index_or values (i + k) (pos 0))
      → LeadsOver row (InClause h ps cs ls) (InClause h ps cs (ls ++ map literal_of xs)) values i (i + length xs)
  list_leads [] values i ls all same = grind (arith, common_steps)
  list_leads (x ∷ xs) values i ls all same =
      let l = literal_of x in
      let here : x ≡ slice_index_or values i (pos 0) =
      let none : i + 0 ≡ i = omega arith in rw none at (same 0 (omega arith)) in
      let one = leads_more row (InClause h ps cs ls) (InClause h ps cs ls) (InClause h ps cs (ls ++ l ∷ [])) values i i
      (ap (λ o. clause_row h ps cs ls o) (sym (written_said x (slice_index_or values i (pos 0)) all.0 here)))
      (leads_none row (InClause h ps cs ls) values i) in
      let more = list_leads xs values (i + 1) (ls ++ l ∷ []) all.1 (λ k less.
      let place : i + suc k ≡ i + 1 + k = omega arith in rw place at (same (suc k) (omega (arith, less)))) in
      let to : i + length (x ∷ xs) ≡ i + 1 + length xs = omega arith in
      rw to (leads_further row (InClause h ps cs ls) (InClause h ps cs (ls ++ l ∷ [])) (InClause h ps cs (ls ++ l ∷ map literal_of xs))
      values i (i + 1) (i + 1 + length xs) one (rw (append_assoc ls (l ∷ []) (map literal_of xs)) at more))

  -- literals between two places lead on
  pub literals_lead : (values : List ℤ) (from to : ℕ) (ls : List Literal) → from ≤ to → to ≤ length values
      → AllByRecursion (IsWritten h.max_var) (slice_range values from to)
      → LeadsOver row (InClause h ps cs ls) (InClause h ps cs (ls ++ map literal_of (slice_range values from to))) values from to
  literals_lead values from to ls order within all =
      let len : length (slice_range values from to) ≡ to - from = grind (arith, common_steps) in
      let end : from + length (slice_range values from to) ≡ to = omega (arith, len, order) in
      rw end at (list_leads (slice_range values from to) values from ls all
      (λ k less. get_or-take (to - from) (drop from values) k (pos 0) (omega (arith, less, len)) ∙ get_or-drop from values k (pos 0)))

  -- the first literal of a clause
  begins : has_more h cs ≡ true → (negative : Bool) (m : ℕ) → 1 ≤ m → m ≤ h.max_var
      → row (Between h ps cs) (Number negative m) ≡ clause_row h ps cs [] (Ok (Some (record { var = m; negative = negative })))
  begins more negative m low high = let says = said negative m low high in grind (arith, common_steps)

  first_leads : has_more h cs ≡ true → (v w : ℤ) → IsWritten h.max_var v → v ≡ w
      → row (Between h ps cs) (token_of w) ≡ clause_row h ps cs [] (Ok (Some (literal_of v)))
  first_leads more v w is same = grind (arith, common_steps)

  clause_by : has_more h cs ≡ true → (xs values : List ℤ) (i zero : ℕ) → AllByRecursion (IsWritten h.max_var) xs
      → ((k : ℕ) → k < length xs → slice_index_or xs k (pos 0) ≡ slice_index_or values (i + k) (pos 0))
      → 1 ≤ length xs → zero ≡ i + length xs → slice_index_or values zero (pos 0) ≡ pos 0
      → LeadsOver row (Between h ps cs) (Between h ps (cs ++ map literal_of xs ∷ [])) values i (zero + 1)
  clause_by more [] values i zero all same some end is = absurd (omega (arith, some))
  clause_by more (x ∷ xs) values i zero all same some end is =
      let l = literal_of x in
      let ls = l ∷ map literal_of xs in
      let here : x ≡ slice_index_or values i (pos 0) =
      let none : i + 0 ≡ i = omega arith in rw none at (same 0 (omega arith)) in
      let one = leads_more row (Between h ps cs) (Between h ps cs) (InClause h ps cs (l ∷ [])) values i i
      (first_leads more x (slice_index_or values i (pos 0)) all.0 here) (leads_none row (Between h ps cs) values i) in
      let rest = list_leads xs values (i + 1) (l ∷ []) all.1 (λ k less.
      let place : i + suc k ≡ i + 1 + k = omega arith in rw place at (same (suc k) (omega (arith, less)))) in
      let to : i + 1 + length xs ≡ zero = omega (arith, end) in
      leads_more row (Between h ps cs) (InClause h ps cs ls) (Between h ps (cs ++ ls ∷ [])) values i zero
      (ap (λ v. row (InClause h ps cs ls) (token_of v)) is)
      (leads_further row (Between h ps cs) (InClause h ps cs (l ∷ [])) (InClause h ps cs ls) values i (i + 1) zero one (rw to at rest))

  -- a clause between two places leads on
  pub clause_leads : has_more h cs ≡ true → (values : List ℤ) (from zero : ℕ) → from < zero → zero < length values
      → AllByRecursion (IsWritten h.max_var) (slice_range values from zero) → slice_index_or values zero (pos 0) ≡ pos 0
      → LeadsOver row (Between h ps cs) (Between h ps (cs ++ map literal_of (slice_range values from zero) ∷ [])) values from (zero + 1)
  clause_leads more values from zero order within all is = grind (arith, common_steps, slice_range, clause_by, get_or-take, get_or-drop)

-- its variables are bound
pub clause_bound : (max_var : ℕ) (bs : List Block) → IsFull max_var (pairs bs) → (xs : List ℤ)
    → AllByRecursion (IsWritten max_var) xs → AreBound bs (map literal_of xs)
clause_bound max_var bs full [] all = tt
clause_bound max_var bs full (x ∷ xs) all = (full (unsigned_abs x) all.0.0 all.0.1, clause_bound max_var bs full xs all.1)

pub more_clauses : (cs : Clauses) (count : ℕ) → length cs < count → nat_lt (length cs) count ≡ true
more_clauses cs count less = lt-ltb (length cs) count less
