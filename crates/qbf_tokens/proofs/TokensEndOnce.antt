-- The tokens of a text end once.
use Rattle.qbf_tokens.proofs.Cited.{rules, ◌≡◌, ◌≢◌, ℕ, ◌+◌, Bool, true, false, List, [], ◌∷◌, ◌++◌, map, refl, ap, append_assoc, count_by}
use Rattle.qbf_tokens.proofs.Cited.{slice_split, Comments, Token, Lined, EndsOnce, is_end, is_line_end, is_comment_line, runs, kind}
use Rattle.qbf_tokens.proofs.Cited.{line_number, line_tokens, tokens_from, tokens}
use Rattle.qbf_tokens.specs.declared.token.Token.TheVariants as kinds

-- no run is End
pub kind_no_end : (run : List ℕ) → is_end (kind run) ≡ false
kind_no_end run = search rules

no_end : (t : Token) → is_end t ≡ false → t ≢ kinds.End
no_end t h e = absurd (let f : is_end t ≡ true = ap is_end e in cc)

put_before : (t : Lined) (ts : List Lined) → t.0 ≢ kinds.End → EndsOnce ts → EndsOnce (t ∷ ts)
put_before t ts n h = search rules

runs_before : (n : ℕ) (rs : List (List ℕ)) (ts : List Lined) → EndsOnce ts → EndsOnce (map (λ run. (kind run, n)) rs ++ ts)
runs_before n [] ts h = h
runs_before n (run ∷ rs) ts h = search (rules, put_before, kind, no_end, kind_no_end, (runs_before n rs ts h))

line_before : (f : Comments) (n : ℕ) (line : List ℕ) (ts : List Lined) → EndsOnce ts → EndsOnce (line_tokens f n line ++ ts)
line_before f n line ts h = by (is_comment_line f line) refl
  where
    by : (b : Bool) → is_comment_line f line ≡ b → EndsOnce (line_tokens f n line ++ ts)
    by true e = rw e h
    by false e = rw e (runs_before (line_number n) (runs line) ts h)

lines_before : (f : Comments) (n : ℕ) (lines : List (List ℕ)) (ts : List Lined) → EndsOnce ts → EndsOnce (tokens_from f n lines ++ ts)
lines_before f n [] ts h = h
lines_before f n (line ∷ lines) ts h =
    search (rules, append_assoc, line_tokens, tokens_from, line_before, (lines_before f (n + 1) lines ts h))

pub tokens-EndsOnce : (f : Comments) (bytes : List ℕ) → EndsOnce (tokens f bytes)
tokens-EndsOnce f bytes = lines_before f 1 (slice_split is_line_end bytes) ((kinds.End, line_number (1 + count_by is_line_end bytes)) ∷ []) refl
