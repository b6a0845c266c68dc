-- The grammar of QCIR-14, prenex (Jordan, Klieber, Seidl 2016): which bytes spell a formula of gates.
-- Beyond the standard, lines may be empty or have a comment anywhere after the first, and the last line needs no line end. Words of the
-- format are in small letters.
use Rattle.std.specs.Prelude.{◌≡◌, ◌≢◌, ◌⊎◌, ◌<◌, ◌≤◌, ℕ, Bool, true, false, not, List, [], ◌∷◌, ◌++◌, map, filter, length, bytes_eq, codes}
use Rattle.std.specs.Char.{is_ascii_digit}
use Rattle.std.specs.List.{AllByRecursion, IsDistinct, after_first, before_first, list_all, range_with_len, slice_split}
use Rattle.qbf_core.specs.Blocks.{Block, blocks_of, pairs}
use Rattle.qbf_gates.specs.Gates.{inputs_of, names}
use Rattle.qbf_tokens.specs.Tokens.{is_line_end}
use Rattle.qcir_tokens.specs.Tokens.{is_word_byte, runs}
use Rattle.qcir.specs.Names.{Question}
use Rattle.qcir.specs.Texts.{lines_of}

-- the first line: `#QCIR-14` or `#QCIR-G14`, and a number or nothing
abbrev pub IsHeader : List ℕ → Type 0
IsHeader line = (number : List ℕ) × (list_all is_ascii_digit number ≡ true)
    × ((runs line ≡ runs (codes "#QCIR-14 " ++ number)) ⊎ (runs line ≡ runs (codes "#QCIR-G14 " ++ number)))

-- whether a line of these runs says something: it is neither empty nor a comment
abbrev pub says_something : List (List ℕ) → Bool
says_something [] = false
says_something (r ∷ rs) = not (bytes_eq r (codes "#"))

-- The bytes spell the formula of gates: after the header the lines that say something are its lines, but for blanks.
pub record IsQuestion (bytes : List ℕ) (q : Question) : Type 0 where
  pub header : IsHeader (before_first is_line_end bytes)
  -- its sets have variables, and neighbouring ones of one quantifier are one block
  pub sets : List Block
  pub filled : AllByRecursion (λ s. s.vars ≢ []) sets
  pub blocks : q.formula.blocks ≡ blocks_of (pairs sets)
  pub said : filter says_something (map runs (slice_split is_line_end (after_first is_line_end bytes))) ≡ map runs (lines_of sets q)
  -- its names are words, each given once, and numbered in the order in which they are given
  pub words : AllByRecursion (λ w. (w ≢ []) × AllByRecursion (λ b. is_word_byte b ≡ true) w) q.names
  pub distinct : IsDistinct bytes_eq q.names
  pub few : length q.names ≤ 2147483647
  pub numbered : names q.formula ≡ range_with_len 1 (length q.names)
  -- each input of a gate is of a name that is given before the gate, and the output of any name
  pub order : AllByRecursion (λ g. AllByRecursion (λ l. (1 ≤ l.var) × (l.var < g.0)) (inputs_of g.1)) q.formula.gates
  pub output : (1 ≤ q.formula.output.var) × (q.formula.output.var ≤ length q.names)
