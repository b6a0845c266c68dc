-- The bytes that are taken end with a token and at most one separator.
use Rattle.qbf_tokens.proofs.Cited.{common_steps, rules, ◌≡◌, ℕ, ◌+◌, ◌^◌, ◌<◌, Bool, true, false, List, [], ◌∷◌, ◌++◌, Option, Some, None}
use Rattle.qbf_tokens.proofs.Cited.{refl, sym, ap, ◌∙◌, arith, append_assoc, append-nil, ⊤, is_separator, is_end, tokens_left, IsUnbroken}
use Rattle.qbf_tokens.proofs.Cited.{IsWithinLine, EndsRun, EndsLine, Lined, kind, is_blank, is_line_end, is_comment_byte, line_number}
use Rattle.qbf_text.proofs.Cited.{IfSome, Consumes, Consumes-nil, Comments, Token, End, known_left, Row, Goes, Ends, Whole, read_from}
use Rattle.qbf_text.proofs.Cited.{Fails, Fault, IfKnown, TakesToken, PlaceSkips, SoFar, GivesNext}
use Rattle.std.proofs.KnownBytes.{Consumes-trans}
use Rattle.qbf_text.specs.declared.scanner.Place.{Place}
use Rattle.qbf_text.specs.Stopping.{BeginsAs, Skips, PlaceTakes, FindsToken, StopsAfter}
use Rattle.qbf_text.proofs.OneToken.{after, read-one}
use Rattle.qbf_text.proofs.KnownLeft.{always, took_at}
use Rattle.qbf_tokens.proofs.ByteByByte.{left_nothing, left_line_end, left_blank, left_comment, left_run, IsToken, tokens_left-counted}
use Rattle.qbf_text.specs.Rows as rows
use Rattle.qbf_tokens.specs.declared.token.Token.TheVariants as token

-- ---- known bytes

pub known_trans : (P Q R : List ℕ → List ℕ → Type 0) → ((x y z : List ℕ) → P x y → Q y z → R x z) → (a b c : Option (List ℕ))
    → IfKnown P a b → IfKnown Q b c → IfKnown R a c
known_trans P Q R h a b c k e = search rules

-- a fact of the consumed bytes before any rest holds if the bytes are known
pub known_by : (P : List ℕ → List ℕ → Type 0) (R : List ℕ → Type 0) (a b : Option (List ℕ)) (bs : List ℕ) → Consumes a b bs → IfSome b R
    → ((rest : List ℕ) → R rest → P (bs ++ rest) rest) → IfKnown P a b
known_by P R a b bs h k e = search rules

-- ---- the bytes that may follow

pub begins_more : (taken new rest : List ℕ) → BeginsAs new rest → BeginsAs (taken ++ new) (taken ++ rest)
begins_more [] new rest h = h
begins_more (b ∷ bs) new rest h = refl

pub begins_skipped : (a b c new : List ℕ) → BeginsAs (a ++ b ++ c ++ new) a
begins_skipped a b c new = search rules

ends_run : (new rest : List ℕ) → EndsRun new → BeginsAs new rest → EndsRun rest
ends_run new rest h k = search rules

ends_line : (new rest : List ℕ) → EndsLine new → BeginsAs new rest → EndsLine rest
ends_line new rest h k = search rules

-- ---- bytes with no token

pub skips_nothing : {R : Type 0} (here : List ℕ → R) (x : List ℕ) → Skips here here x x
skips_nothing here x = record { skipped = []; taken = refl; spelled = λ rest _. refl }

pub skips_more : {R : Type 0} (here mid there : List ℕ → R) (x y z : List ℕ) → Skips here mid x y → Skips mid there y z → Skips here there x z
skips_more here mid there x y z s t = record {
  skipped = s.skipped ++ t.skipped;
  taken = s.taken ∙ ap (λ l. s.skipped ++ l) t.taken ∙ sym (append_assoc s.skipped t.skipped z);
  spelled = λ rest h.
      ap here (append_assoc s.skipped t.skipped rest)
      ∙ s.spelled (t.skipped ++ rest) (rw t.taken (begins_more t.skipped z rest h))
      ∙ t.spelled rest h;
}

pub regroup : (a b c d : List ℕ) → a ++ b ++ c ++ d ≡ a ++ (b ++ c ++ d)
regroup a b c d = ap (λ l. l ++ d) (append_assoc a b c) ∙ append_assoc a (b ++ c) d

-- no token, and then one
pub takes_after : (here mid there : List ℕ → List Lined) (token : Lined) (x y z : List ℕ) → Skips here mid x y
    → TakesToken mid there token y z → TakesToken here there token x z
takes_after here mid there token x y z s t =
    let front = t.skipped ++ t.word ++ t.separator in
    let same = regroup s.skipped t.skipped t.word t.separator in
    record {
      skipped = s.skipped ++ t.skipped;
      word = t.word;
      separator = t.separator;
      line = t.line;
      taken = s.taken ∙ ap (λ l. s.skipped ++ l) t.taken ∙ sym (append_assoc s.skipped front z) ∙ ap (λ l. l ++ z) (sym same);
      nothing = s.spelled t.skipped (rw t.taken (begins_skipped t.skipped t.word t.separator z)) ∙ t.nothing;
      unbroken = t.unbroken;
      separates = t.separates;
      spelled = λ rest h.
          ap here (ap (λ l. l ++ rest) same ∙ append_assoc s.skipped front rest)
          ∙ s.spelled (front ++ rest) (rw t.taken (begins_more front z rest h))
          ∙ t.spelled rest h;
    }

-- ---- single steps

module _ (f : Comments) (begun : Bool) (n : ℕ) where
  pub skips_same : (a b : Option (List ℕ)) → Consumes a b [] → IfKnown (Skips (tokens_left f begun n) (tokens_left f begun n)) a b
  skips_same a b p = known_by _ (λ _. ⊤) a b [] p (always b) (λ rest _. skips_nothing (tokens_left f begun n) rest)

  pub skips_line_end : (b : ℕ) (t t' : Option (List ℕ)) → Consumes t t' (b ∷ []) → b ≡ 10
      → IfKnown (Skips (tokens_left f begun n) (tokens_left f false (line_number (n + 1)))) t t'
  skips_line_end b t t' p e =
      known_by _ (λ _. ⊤) t t' (b ∷ []) p (always t') (λ new _. record {
        skipped = b ∷ [];
        taken = refl;
        spelled = λ rest _. rw e (left_line_end f begun n rest ∙ tokens_left-counted f false (n + 1) (line_number (n + 1)) rest (omega arith));
      })

  pub skips_blank : (b : ℕ) (t t' : Option (List ℕ)) → Consumes t t' (b ∷ []) → is_blank b ≡ true
      → IfKnown (Skips (tokens_left f begun n) (tokens_left f begun n)) t t'
  skips_blank b t t' p e =
      known_by _ (λ _. ⊤) t t' (b ∷ []) p (always t') (λ new _. record {
        skipped = b ∷ [];
        taken = refl;
        spelled = λ rest _. left_blank f begun n b rest e;
      })

  pub skips_comment : (b : ℕ) (t t' t'' : Option (List ℕ)) → begun ≡ false → Consumes t t' (b ∷ []) → is_line_end b ≡ false
      → is_blank b ≡ false → is_comment_byte f b ≡ true
      → (s : (skipped : List ℕ) × IsWithinLine skipped × Consumes t' t'' skipped) → IfSome t'' EndsLine
      → IfKnown (Skips (tokens_left f begun n) (tokens_left f begun n)) t t''
  skips_comment b t t' t'' e p line blank comment s end =
      known_by _ EndsLine t t'' (b ∷ s.0) (Consumes-trans t t' t'' (b ∷ []) s.0 p s.2) end (λ new ends. record {
        skipped = b ∷ s.0;
        taken = refl;
        spelled = λ rest h. rw e (left_comment f n b s.0 rest blank comment (line, s.1) (ends_line new rest ends h));
      })

  -- a run that is a token
  pub takes_run : (b : ℕ) (more : List ℕ) (t t' t'' : Option (List ℕ)) → Consumes t t' (b ∷ []) → is_separator b ≡ false
      → IsToken f begun (b ∷ more) → n < 2 ^ 64
      → Consumes t' t'' more → IsUnbroken more → IfSome t'' EndsRun
      → IfKnown (TakesToken (tokens_left f begun n) (tokens_left f true n) (kind (b ∷ more), n)) t t''
  takes_run b more t t' t'' p sep token small q unbroken end =
      let same : line_number n ≡ n = omega arith in
      known_by _ EndsRun t t'' (b ∷ more) (Consumes-trans t t' t'' (b ∷ []) more p q) end (λ new ends. record {
        skipped = [];
        word = b ∷ more;
        separator = [];
        line = line_number n;
        taken = ap (λ l. l ++ new) (sym (append-nil (b ∷ more)));
        nothing = left_nothing f begun n;
        unbroken = (sep, unbroken);
        separates = tt;
        spelled = λ rest h. ap (λ l. tokens_left f begun n (l ++ rest)) (append-nil (b ∷ more)) ∙ left_run f begun n (b ∷ more) rest
            (sep, unbroken) (ends_run new rest ends h) token ∙ ap (λ m. (kind (b ∷ more), m) ∷ tokens_left f true n rest) same;
      })

-- ---- from place to place

pub known_skips : {R : Type 0} (here mid there : List ℕ → R) (a b c : Option (List ℕ)) → IfKnown (Skips here mid) a b
    → IfKnown (Skips mid there) b c → IfKnown (Skips here there) a c
known_skips here mid there a b c s t = known_trans _ _ _ (skips_more here mid there) a b c s t

pub known_takes : (here mid there : List ℕ → List Lined) (token : Lined) (a b c : Option (List ℕ)) → IfKnown (Skips here mid) a b
    → IfKnown (TakesToken mid there token) b c → IfKnown (TakesToken here there token) a c
known_takes here mid there token a b c s t = known_trans _ _ _ (takes_after here mid there token) a b c s t

pub place_skips_more : (p q r : Place) (a b c : Option (List ℕ)) → PlaceSkips p a q b → PlaceSkips q b r c → PlaceSkips p a r c
place_skips_more p q r a b c s t = grind (arith, common_steps, known_trans, skips_more)

pub place_takes_after : (p q r : Place) (a b c : Option (List ℕ)) (token : Lined) → PlaceSkips p a q b → PlaceTakes q b r c token
    → PlaceTakes p a r c token
place_takes_after p q r a b c token s t = grind (arith, common_steps, known_trans, takes_after)

-- a token after it is found
pub found_token : {p q r : Place} {a b c : Option (List ℕ)} {token : Lined} → PlaceSkips p a q b → FindsToken q b r c token
    → FindsToken p a r c token
found_token s t = grind (arith, common_steps, place_takes_after)

-- ---- token after token

module _ {P A F : Type 0} (row : P → Token → Row P A F) (first : P) where
  pub so_far_none : (here : List ℕ → List Lined) (a : Option (List ℕ)) → IfKnown (SoFar row first first here here) a a
  so_far_none here None = tt
  so_far_none here (Some x) = record { front = []; given = []; taken = refl; spelled = λ rest _. refl; leads = λ ts. refl }

  so_far_then : (state next : P) (here mid there : List ℕ → List Lined) (x y z : List ℕ) → SoFar row first state here mid x y
      → SoFar row state next mid there y z → SoFar row first next here there x z
  so_far_then state next here mid there x y z s t = record {
    front = s.front ++ t.front;
    given = s.given ++ t.given;
    taken = s.taken ∙ ap (λ l. s.front ++ l) t.taken ∙ sym (append_assoc s.front t.front z);
    spelled = λ rest h.
        ap here (append_assoc s.front t.front rest)
        ∙ s.spelled (t.front ++ rest) (rw t.taken (begins_more t.front z rest h))
        ∙ ap (λ l. s.given ++ l) (t.spelled rest h)
        ∙ sym (append_assoc s.given t.given (there rest));
    leads = λ ts. ap (read_from row first) (append_assoc s.given t.given ts) ∙ s.leads (t.given ++ ts) ∙ t.leads ts;
  }

  pub known_so_far : (state next : P) (here mid there : List ℕ → List Lined) (a b c : Option (List ℕ))
      → IfKnown (SoFar row first state here mid) a b → IfKnown (SoFar row state next mid there) b c
      → IfKnown (SoFar row first next here there) a c
  known_so_far state next here mid there a b c = known_trans _ _ _ (λ x y z. so_far_then state next here mid there x y z) a b c

  so_far_more : (state next : P) (here mid there : List ℕ → List Lined) (token : Lined) (x y z : List ℕ) → row state token.0 ≡ Goes next
      → SoFar row first state here mid x y → TakesToken mid there token y z → SoFar row first next here there x z
  so_far_more state next here mid there token x y z e s t =
      let more = t.skipped ++ t.word ++ t.separator in
      record {
        front = s.front ++ more;
        given = s.given ++ token ∷ [];
        taken = s.taken ∙ ap (λ l. s.front ++ l) t.taken ∙ sym (append_assoc s.front more z);
        spelled = λ rest h.
            ap here (append_assoc s.front more rest)
            ∙ s.spelled (more ++ rest) (rw t.taken (begins_more more z rest h))
            ∙ ap (λ l. s.given ++ l) (t.spelled rest h)
            ∙ sym (append_assoc s.given (token ∷ []) (there rest));
        leads = λ ts.
            ap (read_from row first) (append_assoc s.given (token ∷ []) ts)
            ∙ s.leads (token ∷ ts)
            ∙ read-one row state token ts
            ∙ ap (λ (r : Row P A F). after row r token ts) e;
      }

  pub so_far_goes : (state next : P) (here mid there : List ℕ → List Lined) (token : Lined) (a b c : Option (List ℕ))
      → row state token.0 ≡ Goes next
      → IfKnown (SoFar row first state here mid) a b → IfKnown (TakesToken mid there token) b c
      → IfKnown (SoFar row first next here there) a c
  so_far_goes state next here mid there token a b c e = search (rules, known_trans, so_far_more)

  stops_one : (last next : P) (answer : A) (here mid there : List ℕ → List Lined) (token : Lined) (x y z : List ℕ)
      → row last token.0 ≡ Ends answer next → is_end token.0 ≡ false
      → SoFar row first last here mid x y → TakesToken mid there token y z → StopsAfter row first next answer here there x z
  stops_one last next answer here mid there token x y z e no_end s t =
      let more = t.skipped ++ t.word ++ t.separator in
      let same = regroup s.front t.skipped t.word t.separator in
      let before = s.front ++ t.skipped in
      record {
        before = before;
        word = t.word;
        separator = t.separator;
        last = last;
        token = token.0;
        line = t.line;
        taken = s.taken ∙ ap (λ l. s.front ++ l) t.taken ∙ sym (append_assoc s.front more z) ∙ ap (λ l. l ++ z) (sym same);
        unbroken = t.unbroken;
        separates = t.separates;
        ends = e;
        no_end = no_end;
        unread =
            ap (read_from row first)
            (s.spelled t.skipped (rw t.taken (begins_skipped t.skipped t.word t.separator z)) ∙ ap (λ l. s.given ++ l) t.nothing)
            ∙ s.leads ((End, t.line) ∷ []);
        whole = λ rest h.
            ap (λ l. read_from row first (here l)) (ap (λ l. l ++ rest) same ∙ append_assoc s.front more rest)
            ∙ ap (read_from row first) (s.spelled (more ++ rest) (rw t.taken (begins_more more z rest h))
            ∙ ap (λ l. s.given ++ l) (t.spelled rest h))
            ∙ s.leads (token ∷ there rest)
            ∙ read-one row last token (there rest)
            ∙ ap (λ (r : Row P A F). after row r token (there rest)) e
            ∙ ap (λ (b : Bool). Whole answer next (rows.rest_after b token (there rest))) no_end;
      }

  pub stops_after : (last next : P) (answer : A) (here mid there : List ℕ → List Lined) (token : Lined)
      (a b c : Option (List ℕ)) → row last token.0 ≡ Ends answer next → is_end token.0 ≡ false
      → IfKnown (SoFar row first last here mid) a b → IfKnown (TakesToken mid there token) b c
      → IfKnown (StopsAfter row first next answer here there) a c
  stops_after last next answer here mid there token a b c e no_end = search (rules, known_trans, stops_one)

-- a fact of known bytes, in other words
pub if_known : {P Q : List ℕ → List ℕ → Type 0} → ((x y : List ℕ) → P x y → Q x y) → (before after : Option (List ℕ))
    → IfKnown P before after → IfKnown Q before after
if_known h before after k = search rules

module _ {P A F : Type 0} (row : P → Token → Row P A F) {fault : F} (refused : (p : P) → row p token.End ≡ Fails fault) where
  pub taken_no_end : (p next : P) (t : Token) (a : A) → row p t ≡ Ends a next → is_end t ≡ false
  taken_no_end p next t a e = search rules

  -- without the last run there is the fault of the end
  pub unread_fault : {first next : P} {a : A} {here there : List ℕ → List Lined} {old new : List ℕ}
      → (s : StopsAfter row first next a here there old new)
      → read_from row first (here s.before) ≡ Fault fault s.line
  unread_fault s = grind (arith, common_steps, read-one, after)

module _ (f : Comments) (begun : Bool) (n : ℕ) (f' : Comments) (begun' : Bool) (n' : ℕ) where
  pub next_taken : (token : Lined) (t t' : Option (List ℕ))
      → IfKnown (TakesToken (tokens_left f begun n) (tokens_left f' begun' n') token) t t' → is_end token.0 ≡ false
      → GivesNext (known_left f begun n t) (known_left f' begun' n' t') token
  next_taken token t t' h k = search rules

-- the facts after a line end
pub ruleset line_ends = (Consumes-nil, skips_line_end, took_at)
