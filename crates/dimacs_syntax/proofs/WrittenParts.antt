-- The parts of a canonical text, one after the other.
use Rattle.std.proofs.Common.{◌≡◌, ℕ, List, [], ◌∷◌, ◌++◌, map, refl, ap, ◌∙◌}
use Rattle.std.specs.List.{flat_map}
use Rattle.qbf_core.specs.declared.quantifier.Quantifier.{Quantifier}
use Rattle.qbf_core.specs.declared.quantifier.Quantifier.TheVariants.{All, Exists}
use Rattle.qbf_core.specs.Literal.{Literal}
use Rattle.qbf_core.specs.Blocks.{Block, letter_of}
use Rattle.qbf_tokens.specs.Canonical.{spaced_number, token_text, line_rest, line_text}
use Rattle.qbf_text.proofs.SentParts.{line_rest-map, zero_rest}
use Rattle.dimacs_syntax.specs.Spelling.{number, literal, letter, set}
use Rattle.dimacs_syntax.specs.Texts.{literal_text, closing, set_text}

pub letter_text : (q : Quantifier) → token_text (letter q) ≡ letter_of q ∷ []
letter_text All = refl
letter_text Exists = refl

-- numbers and the zero that closes them
pub closed_numbers : (ns : List ℕ) → line_rest (map number ns ++ number 0 ∷ []) ≡ flat_map spaced_number ns ++ closing
closed_numbers ns = line_rest-map number ns (number 0 ∷ []) ∙ ap (λ (k : List ℕ). flat_map spaced_number ns ++ k) (zero_rest [])

-- literals and the zero that closes them
pub closed_literals : (ls : List Literal) → line_rest (map literal ls ++ number 0 ∷ []) ≡ flat_map literal_text ls ++ closing
closed_literals ls = line_rest-map literal ls (number 0 ∷ []) ∙ ap (λ (k : List ℕ). flat_map literal_text ls ++ k) (zero_rest [])

pub set_line : (s : Block) → line_text (set s) ≡ set_text s
set_line s = ap (λ (k : List ℕ). token_text (letter s.quantifier) ++ k) (closed_numbers s.vars)
