-- The lines of a text.
use Rattle.std.proofs.Common.{◌≡◌, ℕ, zero, suc, Bool, true, false, if◌then◌else◌, List, [], ◌∷◌, ◌++◌, take, length, get_or, ◌<◌, refl, sym, ◌∙◌, ap, arith, append_assoc}
use Rattle.std.specs.Prelude.{◌==◌, All}
use Rattle.std.specs.List.{concat, Contains}
use Rattle.rvt_run.specs.Texts.{HasNoLineEnd}
use Rattle.rvt_run.specs.Answer.{IsLine}
use Rattle.rvt_run.specs.Headline.{lines_from, lines_of}

-- a line that has begun ends at the first line end
line_ends : (begun body rest : List ℕ) → HasNoLineEnd body → lines_from begun (body ++ 10 ∷ rest) ≡ (begun ++ (body ++ 10 ∷ [])) ∷ lines_from [] rest
line_ends begun [] rest none = refl
line_ends begun (b ∷ body) rest none =
    ap (λ (c : Bool). if c then (begun ++ b ∷ []) ∷ lines_from [] (body ++ 10 ∷ rest) else lines_from (begun ++ b ∷ []) (body ++ 10 ∷ rest)) none.0
    ∙ line_ends (begun ++ b ∷ []) body rest none.1
    ∙ ap (λ (l : List ℕ). l ∷ lines_from [] rest) (append_assoc begun (b ∷ []) (body ++ 10 ∷ []))

-- lines one after another are the lines of their text
pub lines_of_concat : (lines : List (List ℕ)) → All IsLine lines → lines_of (concat lines) ≡ lines
lines_of_concat [] all = refl
lines_of_concat (l ∷ ls) all = by (all 0 [] (omega arith)) (lines_of_concat ls (λ k d h. all (suc k) d (omega (arith, h))))
  where
    by : IsLine l → lines_of (concat ls) ≡ ls → lines_of (l ++ concat ls) ≡ l ∷ ls
    by line rest =
        let joined : l ++ concat ls ≡ line.body ++ 10 ∷ concat ls = ap (λ (x : List ℕ). x ++ concat ls) line.ended ∙ append_assoc line.body (10 ∷ []) (concat ls) in
        ap lines_of joined ∙ line_ends [] line.body (concat ls) line.one ∙ ap (λ (x : List ℕ). x ∷ lines_of (concat ls)) (sym line.ended) ∙ ap (λ (x : List (List ℕ)). l ∷ x) rest

-- a whole line of a first part of a text is a line of the text
pub line_of_part : (n : ℕ) (text begun line : List ℕ) → Contains (lines_from begun (take n text)) line → Contains (lines_from begun text) line
line_of_part zero text begun line among = absurd (omega (arith, among.1))
line_of_part (suc n) [] begun line among = among
line_of_part (suc n) (b ∷ text) begun line among = by (b == 10) (line_of_part n text [] line) (line_of_part n text (begun ++ b ∷ []) line) among
  where
    by : (c : Bool) → (Contains (lines_from [] (take n text)) line → Contains (lines_from [] text) line) → (Contains (lines_from (begun ++ b ∷ []) (take n text)) line → Contains (lines_from (begun ++ b ∷ []) text) line)
        → Contains (if c then (begun ++ b ∷ []) ∷ lines_from [] (take n text) else lines_from (begun ++ b ∷ []) (take n text)) line
        → Contains (if c then (begun ++ b ∷ []) ∷ lines_from [] text else lines_from (begun ++ b ∷ []) text) line
    by true ended going among = cases among.0 among.1 among.2
      where
        cases : (k : ℕ) → k < length ((begun ++ b ∷ []) ∷ lines_from [] (take n text)) → get_or ((begun ++ b ∷ []) ∷ lines_from [] (take n text)) k line ≡ line → Contains ((begun ++ b ∷ []) ∷ lines_from [] text) line
        cases zero low is = (0, omega arith, is)
        cases (suc k) low is = let later = ended (k, omega (arith, low), is) in (suc later.0, omega (arith, later.1), later.2)
    by false ended going among = going among
