-- The effect of one token on what is read.
use Rattle.qbf_tokens.proofs.Cited.{arith, rules, ◌≡◌, ℕ, Bool, false, List, ◌∷◌, Option, Some, None, sym, ◌∙◌, common_steps, Lined, is_end}
use Rattle.qbf_text.proofs.Cited.{IfSome, subst, Token, GivesNext, Reading, HasFailed, IsReady, Row, Goes, Ends, Fails, Read, Whole, Fault}
use Rattle.qbf_text.proofs.Cited.{reads_from}
use Rattle.qbf_tokens.specs.Lined.{Known}
use Rattle.qbf_text.specs.Reading.{IsFirst, HasEnded}
use Rattle.qbf_text.specs.Rows.{rest_after, read_from}
use Rattle.qbf_text.specs.Taking.{Leaves}

-- if the result of reading is known, it is the result of reading on
abbrev pub Leads : {R : Type 0} → Option R → Option R → Type 0
Leads None rest = Unit {0}
Leads (Some r) rest = rest ≡ Some r

pub leads_same : {R : Type 0} (whole : Option R) → Leads whole whole
leads_same whole = search rules

pub leads_then : {R : Type 0} (whole before after : Option R) → Leads whole before → before ≡ after → Leads whole after
leads_then whole before after leads same = subst (Leads whole) same leads

module _ {P A F : Type 0} (row : P → Token → Row P A F) where
  -- the result of reading on after a row
  abbrev pub after : Row P A F → Lined → List Lined → Read P A F
  after (Goes next) t ts = read_from row next ts
  after (Ends a next) t ts = Whole a next (rest_after (is_end t.0) t ts)
  after (Fails f) t ts = Fault f t.1

  pub read-one : (state : P) (t : Lined) (ts : List Lined) → read_from row state (t ∷ ts) ≡ after (row state t.0) t ts
  unfolding read_from
  read-one state t ts = search rules

  first : (b : Bool) (old new : List Lined) (t : Lined) → IsFirst b old t new → (ts : List Lined) × (old ≡ t ∷ ts) × (new ≡ rest_after b t ts)
  first b old new t h = search rules

  -- if a token was taken, its row decides
  one : (state : P) (whole : Option (Read P A F)) (old new : Known) (t : Lined) → Leads whole (reads_from row state old) → GivesNext old new
      t → IfSome whole (λ r. (ts : List Lined) × (r ≡ after (row state t.0) t ts) × (new ≡ Some (rest_after (is_end t.0) t ts)))
  one state whole old new t so_far gives = grind (arith, common_steps, first, read-one)

  pub goes : (state next : P) (whole : Option (Read P A F)) (old new : Known) (t : Lined) → Leads whole (reads_from row state old)
      → GivesNext old new t → row state t.0 ≡ Goes next → is_end t.0 ≡ false → Leads whole (reads_from row next new)
  goes state next whole old new t so_far gives e more = grind (arith, common_steps, one)

  pub ends : (state next : P) (a : A) (whole : Option (Read P A F)) (old new : Known) (t : Lined) → Leads whole (reads_from row state old)
      → GivesNext old new t → row state t.0 ≡ Ends a next → Leaves whole a next new
  ends state next a whole old new t so_far gives e = grind (arith, common_steps, one)

  pub stops : (state : P) (f : F) (whole : Option (Read P A F)) (old new : Known) (t : Lined) → Leads whole (reads_from row state old)
      → GivesNext old new t → row state t.0 ≡ Fails f → IfSome whole (λ r. r ≡ Fault f t.1)
  stops state f whole old new t so_far gives e = grind (arith, common_steps, one)

-- a scanner of the same status
pub same_status : (old new : Reading) → new.status ≡ old.status → ¬ HasFailed old → ¬ HasFailed new
same_status old new same open_ = λ failed. open_ (sym same ∙ failed)

pub ready_still : (old new : Reading) (remaining : Option (List ℕ)) → new.status ≡ old.status → IsReady old remaining
    → IsReady new remaining
ready_still old new remaining same ready = (same_status old new same ready.0, λ ended. ready.1 (sym same ∙ ended))

-- a scanner that gave a token has not failed
pub unfailed : (old new : Reading) (before after : Option (List ℕ)) → ¬ HasFailed old → (IsReady old before → IsReady new after)
    → (HasEnded old → new ≡ old) → ¬ HasFailed new
unfailed old new before after open_ ready ended = search rules
