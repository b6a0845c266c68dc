-- The parts of a canonical text, one after the other.
use Rattle.qdimacs.proofs.Cited.{common_steps, ◌≡◌, ℕ, List, [], ◌∷◌, ◌++◌, Option, Some, ap, ◌∙◌, append_assoc, drop, slice_get, length}
use Rattle.qdimacs.proofs.Cited.{arith, ◌<◌, ◌+◌, flat_map, flat_map-append, flat_map-map, Quantifier, Literal, Block, blocks_of, Qbf}
use Rattle.qdimacs.proofs.Cited.{literal, zero_decimal, drop_at, with_pair, spaced_number, token_text, line_text, literal_text, closing, set_line}
use Rattle.qdimacs.proofs.Cited.{closed_literals, clause, header, text, opening, blocks_rest, sets_text, clauses_text, Pairs, Clauses}

-- ---- a clause

-- an empty clause
pub no_literals : (ls : List Literal) → length ls < 1 → line_text (clause ls) ≡ 48 ∷ 10 ∷ []
no_literals ls none = grind (arith, common_steps, zero_decimal)

-- a clause by its first literal
pub first_literal : (l : Literal) (ls : List Literal)
    → line_text (clause (l ∷ ls)) ≡ token_text (literal l) ++ (flat_map literal_text ls ++ closing)
first_literal l ls = ap (λ (k : List ℕ). token_text (literal l) ++ k) (closed_literals ls)

pub clauses_next : (cs : Clauses) (i : ℕ) (c : List Literal) → slice_get cs i ≡ Some c
    → clauses_text (drop i cs) ≡ line_text (clause c) ++ clauses_text (drop (i + 1) cs)
clauses_next cs i c at = ap clauses_text (drop_at cs i c at)

-- ---- a prefix

one_pair : (last : Option Quantifier) (q : Quantifier) (v : ℕ) (bs : List Block)
    → blocks_rest last (with_pair (q, v) bs) ≡ (opening last q ++ spaced_number v) ++ blocks_rest (Some q) bs
one_pair last q v bs = grind (arith, common_steps, append_assoc)

pub prefix_next : (last : Option Quantifier) (ps : Pairs) (i : ℕ) (q : Quantifier) (v : ℕ) → slice_get ps i ≡ Some (q, v)
    → blocks_rest last (blocks_of (drop i ps)) ≡ (opening last q ++ spaced_number v) ++ blocks_rest (Some q) (blocks_of (drop (i + 1) ps))
prefix_next last ps i q v at =
    ap (λ (rest : Pairs). blocks_rest last (blocks_of rest)) (drop_at ps i (q, v) at) ∙ one_pair last q v (blocks_of (drop (i + 1) ps))

-- ---- the whole

pub text_parts : (f : Qbf)
    → text f ≡ line_text (header f.max_var (length f.clauses)) ++ (sets_text f.blocks ++ clauses_text f.clauses)
text_parts f = grind (arith, common_steps, flat_map-append, flat_map-map, append_assoc, set_line)
