-- What a refusal says, by the number of its cause and its word.
use Rattle.std.specs.Prelude.{ℕ, ◌==◌, if◌then◌else◌, List, [], ◌∷◌, ◌++◌, codes}

-- no word is the end of the file
abbrev pub unexpected : List ℕ → List ℕ
unexpected [] = codes "unexpected end of file"
unexpected (byte ∷ word) = codes "unexpected " ++ byte ∷ word

-- the causes without a word
abbrev pub plain_text : ℕ → List ℕ
plain_text cause =
    if cause == 1 then codes "bad byte" else
    if cause == 2 then codes "comment not closed" else
    if cause == 3 then codes "bad number" else
    if cause == 4 then codes "bad character constant" else
    if cause == 5 then codes "directive not in the profile" else
    if cause == 6 then codes "bad define" else
    if cause == 7 then codes "too many tokens" else
    if cause == 12 then codes "nested too deep" else
    if cause == 21 then codes "incomplete type" else
    if cause == 22 then codes "more than 4096 cells" else
    if cause == 33 then codes "wrong type" else
    if cause == 34 then codes "wrong number of arguments" else
    if cause == 35 then codes "write to const" else
    if cause == 36 then codes "address of a local on a call cycle" else
    if cause == 38 then codes "limit" else
    if cause == 39 then codes "constant expression wanted" else
    if cause == 40 then codes "not in the profile" else
    []

abbrev pub refusal_text : ℕ → List ℕ → List ℕ
refusal_text cause word =
    if cause == 11 then unexpected word else
    if cause == 13 then codes "not in the profile: " ++ word else
    if cause == 31 then codes "unknown name " ++ word else
    if cause == 32 then word ++ codes " declared twice" else
    if cause == 37 then word ++ codes " has no body" else
    plain_text cause
