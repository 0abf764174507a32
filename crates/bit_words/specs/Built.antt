-- The circuits that the operations on words build.
use Rattle.rvt_num.specs.declared.kinds.Kind.{Kind}
use Rattle.rvt_num.specs.declared.kinds.Kind.TheVariants.{Bool as BoolKind, I32}
use Rattle.rvt_num.specs.declared.operations.UnOp.{UnOp}
use Rattle.rvt_num.specs.declared.operations.UnOp.TheVariants.{Minus, Flip, IsZero}
use Rattle.rvt_num.specs.Kinds.{is_signed, width}
use Rattle.std.specs.Prelude.{◌-◌, if◌then◌else◌, slice_index_or, map, Bool, true, false, List, [], ◌∷◌, ◌++◌, length, take, drop, replicate}
use Rattle.aig_build.specs.declared.lits.Lit.{Lit}
use Rattle.aig_build.specs.Circuits.{Node, constant, opposite}
use Rattle.aig_build.specs.Built.{Made, and_built}
use Rattle.bit_words.specs.declared.cells.Cell.{Cell}
use Rattle.bit_words.specs.Words.{LitWord}
use Rattle.bit_words.specs.declared.cells.Cell.TheVariants.{Sum, And, Or, Xor, Less, Equal, Choice}

-- ---- single literals

abbrev pub negated : Made → Made
negated m = record { nodes = m.nodes; lit = opposite m.lit }

unfoldable pub or_built : List Node → Lit → Lit → Made
or_built ns a b = negated (and_built ns (opposite a) (opposite b))

unfoldable pub xor_built : List Node → Lit → Lit → Made
xor_built ns a b =
    let m = and_built ns a b in
    let n = and_built m.nodes (opposite a) (opposite b) in
    and_built n.nodes (opposite m.lit) (opposite n.lit)

-- a where `which` is true, else b
unfoldable pub choice_built : List Node → Lit → Lit → Lit → Made
choice_built ns which a b =
    let m = and_built ns which a in
    let n = and_built m.nodes (opposite which) b in
    or_built n.nodes m.lit n.lit

-- true where two of the three are
unfoldable pub majority_built : List Node → Lit → Lit → Lit → Made
majority_built ns a b c =
    let m = and_built ns a b in
    let o = or_built m.nodes a b in
    let n = and_built o.nodes c o.lit in
    or_built n.nodes m.lit n.lit

-- a bit and a carry: for three bits, those of their sum
pub record MadeSum : Type 0 where
  pub nodes : List Node
  pub sum : Lit
  pub carry : Lit

unfoldable pub full_sum_built : List Node → Lit → Lit → Lit → MadeSum
full_sum_built ns a b c =
    let x = xor_built ns a b in
    let s = xor_built x.nodes x.lit c in
    let m = and_built s.nodes a b in
    let n = and_built m.nodes x.lit c in
    let k = or_built n.nodes m.lit n.lit in
    record { nodes = k.nodes; sum = s.lit; carry = k.lit }

-- ---- lists of literals, the lowest bit first

pub record MadeBits : Type 0 where
  pub nodes : List Node
  pub bits : List Lit
  pub carry : Lit

-- the bits xs come before those of the rest
abbrev pub after_bits : List Lit → MadeBits → MadeBits
after_bits xs m = record { nodes = m.nodes; bits = xs ++ m.bits; carry = m.carry }

unfoldable pub cell_built : List Node → Cell → Lit → Lit → Lit → MadeSum
cell_built ns Sum a b c = full_sum_built ns a b c
cell_built ns And a b c = let m = and_built ns a b in record { nodes = m.nodes; sum = m.lit; carry = c }
cell_built ns Or a b c = let m = or_built ns a b in record { nodes = m.nodes; sum = m.lit; carry = c }
cell_built ns Xor a b c = let m = xor_built ns a b in record { nodes = m.nodes; sum = m.lit; carry = c }
cell_built ns Less a b c = let m = majority_built ns (opposite a) b c in record { nodes = m.nodes; sum = m.lit; carry = m.lit }
cell_built ns Equal a b c = let d = xor_built ns a b in let m = and_built d.nodes c (opposite d.lit) in record { nodes = m.nodes; sum = m.lit; carry = m.lit }
cell_built ns Choice a b c = let m = choice_built ns c a b in record { nodes = m.nodes; sum = m.lit; carry = c }

-- a cell at each place of two words of one width, from the lowest on
unfoldable pub ripple_built : List Node → Cell → Lit → List Lit → List Lit → MadeBits
ripple_built ns cell c (x ∷ xs) (y ∷ ys) =
    let s = cell_built ns cell x y c in
    after_bits (s.sum ∷ []) (ripple_built s.nodes cell s.carry xs ys)
ripple_built ns cell c _ _ = record { nodes = ns; bits = []; carry = c }

-- a word where the literal is true, else 0
abbrev pub row_built : List Node → List Lit → Lit → MadeBits
row_built ns xs y = ripple_built ns And (constant false) xs (replicate (length xs) y)

-- the sum of a row and twice a number that is one bit shorter
abbrev pub add_row_built : List Node → List Lit → List Lit → MadeBits
add_row_built ns row high =
    let sum = ripple_built ns Sum (constant false) (drop 1 row) high in
    record { nodes = sum.nodes; bits = take 1 row ++ sum.bits; carry = constant false }

-- the product of two numbers of one width, cut to that width: a row for the lowest bit of the second, and twice the product with its other bits
unfoldable pub product_built : List Node → List Lit → List Lit → MadeBits
product_built ns (x ∷ xs) (y ∷ ys) =
    let row = row_built ns (x ∷ xs) y in
    let high = product_built row.nodes (take (length xs) (x ∷ xs)) ys in
    add_row_built high.nodes row.bits high.bits
product_built ns _ _ = record { nodes = ns; bits = []; carry = constant false }

-- ---- words

pub record MadeWord : Type 0 where
  pub nodes : List Node
  pub word : LitWord

-- the bits of a cell at each place of two words of one kind
abbrev pub placed_built : List Node → Cell → Lit → LitWord → LitWord → MadeWord
placed_built ns cell c a b =
    let m = ripple_built ns cell c a.bits b.bits in
    record { nodes = m.nodes; word = record { kind = a.kind; bits = m.bits } }

abbrev pub product_word : List Node → LitWord → LitWord → MadeWord
product_word ns a b =
    let m = product_built ns a.bits b.bits in
    record { nodes = m.nodes; word = record { kind = a.kind; bits = m.bits } }

-- every bit inverted
abbrev pub flipped : LitWord → LitWord
flipped a = record { kind = a.kind; bits = map opposite a.bits }

-- the number 0
abbrev pub zero_word : Kind → LitWord
zero_word k = record { kind = k; bits = replicate (width k) (constant false) }

-- ---- comparisons

-- the carry that is left of a cell at each place
abbrev pub carried_built : List Node → Cell → Lit → List Lit → List Lit → Made
carried_built ns cell c xs ys =
    let m = ripple_built ns cell c xs ys in
    record { nodes = m.nodes; lit = m.carry }

-- the bits of a signed number with the highest one inverted, which are in the order of the numbers
abbrev pub offset_bits : List Lit → List Lit
offset_bits xs = take (length xs - 1) xs ++ opposite (slice_index_or xs (length xs - 1) (constant false)) ∷ []

abbrev pub ordered_bits : Kind → List Lit → List Lit
ordered_bits kind xs = if is_signed kind then offset_bits xs else xs

abbrev pub ordered_word : LitWord → LitWord
ordered_word a = record { kind = a.kind; bits = ordered_bits a.kind a.bits }

-- whether a is less than b, or equal to it where `equal` is true
abbrev pub order_built : List Node → Bool → LitWord → LitWord → Made
order_built ns equal a b = carried_built ns Less (constant equal) (ordered_bits a.kind a.bits) (ordered_bits b.kind b.bits)

abbrev pub equal_built : List Node → LitWord → LitWord → Made
equal_built ns a b = carried_built ns Equal (constant true) a.bits b.bits

-- 1 where the literal is true, else 0
abbrev pub truth_bits : Lit → List Lit
truth_bits x = x ∷ replicate 31 (constant false)

abbrev pub truth_word : Made → MadeWord
truth_word m = record { nodes = m.nodes; word = record { kind = I32; bits = truth_bits m.lit } }

-- ---- operations with one operand

unfoldable pub unary_built : List Node → UnOp → LitWord → MadeWord
unary_built ns Minus a = placed_built ns Sum (constant true) (zero_word a.kind) (flipped a)
unary_built ns Flip a = record { nodes = ns; word = flipped a }
unary_built ns IsZero a = truth_word (equal_built ns a (zero_word a.kind))

-- the bit above the highest one of a word: that of the sign, if there is one
abbrev pub sign_bit : LitWord → Lit
sign_bit a = if is_signed a.kind then slice_index_or a.bits (length a.bits - 1) (constant false) else constant false

-- the bits are cut to the width of the kind, or go on with the sign
abbrev pub resized : Kind → LitWord → LitWord
resized k a = record { kind = k; bits = take (width k) (a.bits ++ replicate (width k) (sign_bit a)) }

-- the word of kind `bool` that is 1 where a is not 0
abbrev pub not_zero_built : List Node → LitWord → MadeWord
not_zero_built ns a =
    let m = equal_built ns a (zero_word a.kind) in
    record { nodes = m.nodes; word = record { kind = BoolKind; bits = opposite m.lit ∷ [] } }

unfoldable pub convert_built : List Node → Kind → LitWord → MadeWord
convert_built ns BoolKind a = not_zero_built ns a
convert_built ns kind a = record { nodes = ns; word = resized kind a }
