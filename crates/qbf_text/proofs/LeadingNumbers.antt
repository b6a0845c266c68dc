-- Numbers that lead from one state to another.
use Rattle.qbf_tokens.proofs.Cited.{◌≡◌, ℕ, ◌+◌, ◌<◌, List, refl, sym, ap, ◌∙◌, arith, Option, Some, None}
use Rattle.qbf_text.proofs.Cited.{zero, suc, subst, Result, Ok, Err, Token, Row, Goes}
use Rattle.std.specs.Prelude.{ℤ, pos, slice_index_or, IfOk}
use Rattle.qbf_tokens.specs.NumberTokens.{token_of, token_at}
use Rattle.qbf_text.specs.TakenNumbers.{LeadsBy, LeadsOver, TakesOver}

module _ {P A F : Type 0} (row : P → Token → Row P A F) where
  pub leads_none : (first : P) (values : List ℤ) (i : ℕ) → LeadsOver row first first values i i
  leads_none first values i = record { count = 0; counted = omega arith; leads = refl }

  -- one number more
  pub leads_more : (first mid next : P) (values : List ℤ) (from i : ℕ) → row mid (token_at values i) ≡ Goes next
      → LeadsOver row first mid values from i → LeadsOver row first next values from (i + 1)
  leads_more first mid next values from i e l = record {
    count = suc l.count;
    counted = omega (arith, l.counted);
    leads = (mid, l.leads, ap (λ k. row mid (token_at values k)) (sym l.counted) ∙ e);
  }

  then_by : (first mid next : P) (values : List ℤ) (from n m total : ℕ) → total ≡ n + m → LeadsBy row first mid values from n
      → LeadsBy row mid next values (from + n) m → LeadsBy row first next values from total
  then_by first mid next values from n zero total is l e =
      let same : n ≡ total = omega (arith, is) in
      subst (λ s. LeadsBy row first s values from total) e (subst (λ k. LeadsBy row first mid values from k) same l)
  then_by first mid next values from n (suc m) total is l more =
      let same : suc (n + m) ≡ total = omega (arith, is) in
      let place : from + n + m ≡ from + (n + m) = omega arith in
      subst (λ k. LeadsBy row first next values from k) same (
        more.0,
        then_by first mid more.0 values from n m (n + m) refl l more.1,
        ap (λ k. row more.0 (token_at values k)) (sym place) ∙ more.2,
      )

  -- numbers lead on, and others after them
  pub leads_further : (first mid next : P) (values : List ℤ) (from i to : ℕ) → LeadsOver row first mid values from i
      → LeadsOver row mid next values i to → LeadsOver row first next values from to
  leads_further first mid next values from i to l m = record {
    count = l.count + m.count;
    counted = omega (arith, l.counted, m.counted);
    leads = then_by first mid next values from l.count m.count (l.count + m.count) refl l.leads
        (subst (λ k. LeadsBy row mid next values k m.count) l.counted m.leads);
  }

  -- unless an allocation fails
  pub leads_in_turn : {E : Type 0} (first mid next : P) (values : List ℤ) (from i : ℕ) (result : Result ℕ E) → LeadsOver row first mid values from i
      → IfOk result (λ to. LeadsOver row mid next values i to) → IfOk result (λ to. LeadsOver row first next values from to)
  leads_in_turn first mid next values from i (Ok to) l m = leads_further first mid next values from i to l m
  leads_in_turn first mid next values from i (Err e) l m = tt

  pub takes_further : (first mid next : P) (values : List ℤ) (from i to : ℕ) (answer : Option A) → LeadsOver row first mid values from i
      → TakesOver row mid next values i to answer → TakesOver row first next values from to answer
  takes_further first mid next values from i to None l t = leads_further first mid next values from i to l t
  takes_further first mid next values from i to (Some a) l t = record {
    last = t.last;
    at = t.at;
    leads = leads_further first mid t.last values from i t.at l t.leads;
    to_is = t.to_is;
    ends = t.ends;
  }

  -- ---- a part of a list

  module _ (values list : List ℤ) (start len : ℕ)
      (same : (k : ℕ) → k < len → slice_index_or list k (pos 0) ≡ slice_index_or values (start + k) (pos 0)) where
    part_by : (first next : P) (n : ℕ) → n < len + 1 → LeadsBy row first next list 0 n → LeadsBy row first next values start n
    part_by first next zero few e = e
    part_by first next (suc n) few l =
        let here : slice_index_or list (0 + n) (pos 0) ≡ slice_index_or values (start + n) (pos 0) =
        let none : 0 + n ≡ n = omega arith in ap (λ k. slice_index_or list k (pos 0)) none ∙ same n (omega (arith, few)) in (
          l.0,
          part_by first l.0 n (omega (arith, few)) l.1,
          ap (λ v. row l.0 (token_of v)) (sym here) ∙ l.2,
        )

    part_over : (first next : P) (n : ℕ) → n < len + 1 → LeadsOver row first next list 0 n → LeadsOver row first next values start (start + n)
    part_over first next n few l = record {
      count = l.count;
      counted = omega (arith, l.counted);
      leads = part_by first next l.count (omega (arith, few, l.counted)) l.leads;
    }

    -- numbers that were taken of a part were taken of the whole
    pub part_taken : (first next : P) (n to : ℕ) (answer : Option A) → n < len + 1 → to ≡ start + n → TakesOver row first next list 0 n answer
        → TakesOver row first next values start to answer
    part_taken first next n to None few is l = subst (λ k. LeadsOver row first next values start k) (sym is) (part_over first next n few l)
    part_taken first next n to (Some a) few is t = record {
      last = t.last;
      at = start + t.at;
      leads = part_over first t.last t.at (omega (arith, few, t.to_is)) t.leads;
      to_is = omega (arith, is, t.to_is);
      ends = ap (λ v. row t.last (token_of v)) (sym (same t.at (omega (arith, few, t.to_is)))) ∙ t.ends;
    }

-- one buffered number more
pub ruleset numbers_lead_on = (leads_none, leads_more, leads_further, takes_further)
