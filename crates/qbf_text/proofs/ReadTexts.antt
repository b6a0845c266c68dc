-- A text is read as what it spells, or as the fault that stands in it.
use Rattle.qbf_tokens.proofs.Cited.{arith, rules, ◌≡◌, ℕ, Bool, List, [], ◌∷◌, Option, Some, ap, sym, ◌∙◌, common_steps, Lined}
use Rattle.qbf_tokens.proofs.Cited.{without_lines, EndsOnce, tokens}
use Rattle.qbf_text.proofs.Cited.{IfSome, Result, Ok, Err, Comments, Token, Row, Read, Whole, Fault, read_from}
use Rattle.std.proofs.Common.{option_map}
use Rattle.qbf_text.specs.WholeTexts.{Gives, ReadsAsRead, ReadsOnce}
use Rattle.qbf_tokens.proofs.TokensEndOnce.{tokens-EndsOnce}
use Rattle.qbf_text.specs.WholeTexts as whole_texts
use Rattle.qbf_text.specs.Taking as taking
use Rattle.qbf_text.specs.Taking.{Follows}
use Rattle.qbf_text.specs.declared.grammar.ReadError.{ReadError}
use Rattle.qbf_text.specs.declared.grammar.ReadError.TheVariants as error
use Rattle.qbf_text.proofs.AcceptedTokens as accepted

-- if each token leads on or gives a result, and tokens read as nothing else, they read as what is read
pub explained : {P R : Type 0} (Spells : List Token → P → Type 0) (Reads : List Lined → R → Type 0) (read : List Lined → R) (first : P)
    → Spells [] first
    → ((before : List Lined) (p : P) (t : Lined) (ts : List Lined) → Spells (without_lines before) p → EndsOnce (t ∷ ts)
    → accepted.LeadsOrEnds Spells Reads before t ts)
    → ReadsOnce Reads read → ReadsAsRead Reads read
explained Spells Reads read first begins one only ts once =
    let r = accepted.each_leads_or_ends Spells Reads one [] first ts begins once in
    rw (only ts r.0 r.1) r.1

module _ {A F : Type 0} (outside : F → Bool) (Spelled : List Token → A → Type 0) (Stands : List Lined → F → ℕ → Type 0) where
  is_read_as : (ts : List Lined) (whole result : Result A (F × ℕ)) → whole_texts.Reads Spelled Stands ts whole
      → Gives outside result (Some whole) → whole_texts.IsReadAs outside Spelled Stands ts result
  is_read_as ts whole result reads given = search rules

  -- the result of a call that gives what is read
  pub bytes_read_as : (format : Comments) (read : List Lined → Result A (F × ℕ)) → ReadsAsRead (whole_texts.Reads Spelled Stands) read
      → (remaining : Option (List ℕ)) (result : Result A (F × ℕ))
      → Gives outside result (option_map (λ bytes. read (tokens format bytes)) remaining)
      → IfSome remaining (λ bytes. whole_texts.IsReadAs outside Spelled Stands (tokens format bytes) result)
  bytes_read_as format read reads remaining result given = grind (arith, common_steps, is_read_as, tokens-EndsOnce)

-- reading by these rows from this state on gives what is read
pub record ResultsAreRead {P A F : Type 0} (row : P → Token → Row P (Unit {0}) F)
    (answer : Read P (Unit {0}) F → Result A (F × ℕ)) (first : P) (read : List Lined → Result A (F × ℕ)) : Type 0 where
  pub same : (ts : List Lined) → answer (read_from row first ts) ≡ read ts
  pub fault : (f : F) (line : ℕ) → answer (Fault f line) ≡ Err (f, line)

module _ {P A F : Type 0} {row : P → Token → Row P (Unit {0}) F} {answer : Read P (Unit {0}) F → Result A (F × ℕ)} {first : P}
    {read : List Lined → Result A (F × ℕ)} (outside : F → Bool) (is : ResultsAreRead row answer first read) (format : Comments)
    (state next : P) (here : state ≡ first) where
  same : (ts : List Lined) → read ts ≡ answer (read_from row state ts)
  same ts = sym (is.same ts) ∙ ap (λ (p : P). answer (read_from row p ts)) (sym here)

  -- the whole that was read is given
  pub whole_given : (a : A) → ((more : List Lined) → answer (Whole tt next more) ≡ Ok a) → (remaining : Option (List ℕ))
      → IfSome remaining (λ bytes. taking.ReadsKnown (read_from row state (tokens format bytes)) next (Ok tt))
      → Gives outside (Ok a) (option_map (λ bytes. read (tokens format bytes)) remaining)
  whole_given a whole remaining h = search rules

-- the facts of the last token, and those that follow from them
pub follows_then : {P A F : Type 0} (row : P → Token → Row P A F) (next : P) (open_ ended more none : Type 0) (result : Result A (ReadError F))
    → (open_ → more) → (ended → none) → Follows row next open_ ended result → Follows row next more none result
follows_then row next open_ ended more none (Ok a) f g h = (h.0, h.1, h.2, λ e. f (h.3 e), λ e. g (h.4 e))
follows_then row next open_ ended more none (Err error.Device) f g h = tt
follows_then row next open_ ended more none (Err error.Memory) f g h = tt
follows_then row next open_ ended more none (Err (error.Text fault line)) f g h = h
