-- Tokens that are accepted one after the other.
use Rattle.qbf_tokens.proofs.Cited.{rules, ◌≡◌, ◌≢◌, ℕ, List, [], ◌∷◌, ◌++◌, append_assoc, append-nil, refl, ap, ◌∙◌, Lined, without_lines}
use Rattle.qbf_tokens.proofs.Cited.{EndsOnce}
use Rattle.qbf_text.proofs.Cited.{◌⊎◌, inl, inr, flat_map, Token, Row, Goes, read_from}
use Rattle.std.proofs.lemmas.Grind.{flat_map-append}
use Rattle.std.proofs.lemmas.List.{map-append}
use Rattle.qbf_text.proofs.OneToken.{read-one, after}
use Rattle.qbf_tokens.specs.declared.token.Token.TheVariants as token

pub flat_map-push : {X Y : Type 0} (f : X → List Y) (xs : List X) (x : X) → flat_map f (xs ++ x ∷ []) ≡ flat_map f xs ++ f x
flat_map-push f xs x = flat_map-append f xs (x ∷ []) ∙ ap (λ k. flat_map f xs ++ k) (append-nil (f x))

-- tokens on lines, parted at a token
pub split_at : (ts : List Lined) (xs : List Token) (t : Token) (ys : List Token) → without_lines ts ≡ xs ++ t ∷ ys
    → (before : List Lined) × (line : ℕ) × (rest : List Lined) × (ts ≡ before ++ (t, line) ∷ rest) × (without_lines before ≡ xs)
split_at [] [] t ys e = absurd cc
split_at [] (x ∷ xs) t ys e = absurd cc
split_at (u ∷ ts) [] t ys e = let same : u.0 ≡ t = cc in ([], u.1, ts, (λ i. (same i, u.1) ∷ ts), refl)
split_at (u ∷ ts) (x ∷ xs) t ys e =
    let same : u.0 ≡ x = cc in
    let r = split_at ts xs t ys (cc) in
    (u ∷ r.0, r.1, r.2, ap (λ (k : List Lined). u ∷ k) r.3, (λ i. same i ∷ r.4 i))

-- ---- tokens that lead from one state to another

pub data Leads {P A F : Type 0} (row : P → Token → Row P A F) : P → List Token → P → Type 0 where
  Stays : {p : P} → Leads row p [] p
  Passes : {p next q : P} {t : Token} {ts : List Token} → row p t ≡ Goes next → Leads row next ts q → Leads row p (t ∷ ts) q

module _ {P A F : Type 0} {row : P → Token → Row P A F} where
  pub leads_then : {p q r : P} {ts us : List Token} → Leads row p ts q → Leads row q us r → Leads row p (ts ++ us) r
  leads_then Stays m = m
  leads_then (Passes e l) m = Passes e (leads_then l m)

  -- after them reading goes on from the state that they lead to
  pub leads_reads : {p q : P} {ts : List Token} → Leads row p ts q → (before : List Lined) → without_lines before ≡ ts → (rest : List Lined)
      → read_from row p (before ++ rest) ≡ read_from row q rest
  leads_reads Stays [] e rest = refl
  leads_reads Stays (t ∷ before) e rest = absurd cc
  leads_reads (Passes taken l) [] e rest = absurd cc
  leads_reads {p} (Passes {t = u} taken l) (t ∷ before) e rest =
      let same : t.0 ≡ u = cc in
      read-one row p t (before ++ rest)
      ∙ ap (λ (r : Row P A F). after row r t (before ++ rest)) (ap (row p) same ∙ taken) ∙ leads_reads l before (cc) rest

-- ---- tokens that end, each of which leads on or gives a result

once_rest : (t : Lined) (ts : List Lined) → t.0 ≢ token.End → EndsOnce (t ∷ ts) → EndsOnce ts
once_rest t ts n once = search rules

module _ {P R : Type 0} (Spells : List Token → P → Type 0) (Reads : List Lined → R → Type 0) where
  -- a token that leads on, or with which there is a result
  abbrev pub LeadsOrEnds : List Lined → Lined → List Lined → Type 0
  LeadsOrEnds before t ts =
      ((r : R) × Reads (before ++ t ∷ ts) r) ⊎ ((t.0 ≢ token.End) × (next : P) × Spells (without_lines before ++ t.0 ∷ []) next)

  pub each_leads_or_ends : ((before : List Lined) (p : P) (t : Lined) (ts : List Lined) → Spells (without_lines before) p → EndsOnce (t ∷ ts)
      → LeadsOrEnds before t ts) → (before : List Lined) (p : P) (ts : List Lined) → Spells (without_lines before) p → EndsOnce ts
      → (r : R) × Reads (before ++ ts) r
  each_leads_or_ends one before p [] s once = absurd once
  each_leads_or_ends one before p (t ∷ ts) s once = elim (one before p t ts s once) [
    | inl answer ↦ answer
    | inr on ↦ rw append_assoc at (each_leads_or_ends one (before ++ t ∷ []) on.1 ts (rw map-append on.2) (once_rest t ts on.0 once))
  ]
