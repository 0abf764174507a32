-- The circuits that shifts and divisions of words build.
use Rattle.std.specs.Prelude.{if◌then◌else◌, ℕ, ◌-◌, ◌*◌, map, Bool, true, false, List, [], ◌∷◌, ◌++◌, length, take, drop, replicate}
use Rattle.rvt_num.specs.declared.kinds.Kind.{Kind}
use Rattle.rvt_num.specs.declared.kinds.Kind.TheVariants.{I64, U64}
use Rattle.aig_build.specs.declared.lits.Lit.{Lit}
use Rattle.aig_build.specs.Circuits.{Node, constant, opposite}
use Rattle.aig_build.specs.Built.{Made, and_built}
use Rattle.bit_words.specs.declared.cells.Cell.TheVariants.{Sum, And as AndCell, Or as OrCell, Xor as XorCell, Equal, Choice}
use Rattle.rvt_num.specs.declared.operations.BinOp.{BinOp}
use Rattle.rvt_num.specs.declared.operations.BinOp.TheVariants.{Add, Sub, Mul, Div, Rem, Shl, Shr, And, Or, Xor, Eq, Ne, Lt, Le, Gt, Ge}
use Rattle.rvt_num.specs.Kinds.{is_signed, width}
use Rattle.bit_ops.specs.declared.traps.TrapLits.{TrapLits}
use Rattle.bit_words.specs.Built.{MadeBits, MadeWord, carried_built, equal_built, flipped, negated, order_built, placed_built, product_word, ripple_built, sign_bit, truth_word, xor_built, zero_word}
use Rattle.bit_words.specs.Words.{LitWord}

-- ---- shifts

-- the bits n places up or down, with the literal in the places that come free
abbrev pub moved_bits : Bool → Lit → ℕ → List Lit → List Lit
moved_bits true fill n xs = replicate n fill ++ take (length xs - n) xs
moved_bits false fill n xs = drop n xs ++ replicate n fill

-- moved by the step for each time that the number of the count says: each bit of the count chooses, for a step that doubles
unfoldable pub shift_built : List Node → Bool → Lit → List Lit → List Lit → ℕ → MadeBits
shift_built ns up fill xs [] step = record { nodes = ns; bits = xs; carry = fill }
shift_built ns up fill xs (c ∷ cs) step =
    let m = ripple_built ns Choice c (moved_bits up fill step xs) xs in
    shift_built m.nodes up fill m.bits cs (2 * step)

-- how many low bits of a count say a number below the width of a promoted kind
abbrev pub count_places : Kind → ℕ
count_places I64 = 6
count_places U64 = 6
count_places _ = 5

-- whether one of the other bits of the count is set
abbrev pub too_far_built : List Node → ℕ → List Lit → Made
too_far_built ns low count = negated (carried_built ns Equal (constant true) (drop low count) (replicate (length count - low) (constant false)))

-- the literal in the places that come free: a shift down goes on with the sign
abbrev pub shift_fill : Bool → LitWord → Lit
shift_fill true a = constant false
shift_fill false a = sign_bit a

-- a word, and whether the operation traps
pub record MadeShift : Type 0 where
  pub nodes : List Node
  pub word : LitWord
  pub too_far : Lit

abbrev pub word_shift_built : List Node → Bool → LitWord → LitWord → MadeShift
word_shift_built ns up a b =
    let far = too_far_built ns (count_places a.kind) b.bits in
    let m = shift_built far.nodes up (shift_fill up a) a.bits (take (count_places a.kind) b.bits) 1 in
    record { nodes = m.nodes; word = record { kind = a.kind; bits = m.bits }; too_far = far.lit }

-- ---- division

-- whether the divisor was taken, and what is left
pub record MadePlace : Type 0 where
  pub nodes : List Node
  pub fits : Lit
  pub rest : List Lit

-- one place of long division: where the divisor fits into the remainder so far with the next bit, it is taken from it
unfoldable pub place_built : List Node → Lit → List Lit → List Lit → MadePlace
place_built ns x rest ds =
    let so_far = x ∷ rest in
    let less = ripple_built ns Sum (constant true) so_far (map opposite ds ++ constant true ∷ []) in
    let left = ripple_built less.nodes Choice less.carry (take (length ds) less.bits) (take (length ds) so_far) in
    record { nodes = left.nodes; fits = less.carry; rest = left.bits }

pub record MadeQuotient : Type 0 where
  pub nodes : List Node
  pub quotient : List Lit
  pub remainder : List Lit

-- long division, from the highest bit on
unfoldable pub quotient_built : List Node → List Lit → List Lit → MadeQuotient
quotient_built ns [] ds = record { nodes = ns; quotient = []; remainder = replicate (length ds) (constant false) }
quotient_built ns (x ∷ xs) ds =
    let high = quotient_built ns xs ds in
    let place = place_built high.nodes x high.remainder ds in
    record { nodes = place.nodes; quotient = place.fits ∷ high.quotient; remainder = place.rest }

-- the quotient and the remainder of the patterns of two words of one kind
pub record MadeDivision : Type 0 where
  pub nodes : List Node
  pub quotient : LitWord
  pub remainder : LitWord

abbrev pub patterns_built : List Node → LitWord → LitWord → MadeDivision
patterns_built ns a b =
    let m = quotient_built ns a.bits b.bits in
    record { nodes = m.nodes; quotient = record { kind = a.kind; bits = m.quotient }; remainder = record { kind = a.kind; bits = m.remainder } }

-- the opposite of a word where the literal is true, else the word
abbrev pub opposite_built : List Node → Lit → LitWord → MadeWord
opposite_built ns negative a =
    let m = placed_built ns Sum (constant true) (zero_word a.kind) (flipped a) in
    placed_built m.nodes Choice negative m.word a

-- the same for a word of a signed kind; a word of an unsigned kind stays
abbrev pub signed_built : List Node → Lit → LitWord → MadeWord
signed_built ns negative a = if is_signed a.kind then opposite_built ns negative a else record { nodes = ns; word = a }

-- the quotient and the remainder of the magnitudes
abbrev pub magnitudes_built : List Node → LitWord → LitWord → MadeDivision
magnitudes_built ns a b =
    let x = signed_built ns (sign_bit a) a in
    let y = signed_built x.nodes (sign_bit b) b in
    patterns_built y.nodes x.word y.word

-- the quotient is negative where the signs differ, and the remainder has the sign of the dividend
abbrev pub division_built : List Node → LitWord → LitWord → MadeDivision
division_built ns a b =
    let m = magnitudes_built ns a b in
    let differ = xor_built m.nodes (sign_bit a) (sign_bit b) in
    let q = signed_built differ.nodes differ.lit m.quotient in
    let r = signed_built q.nodes (sign_bit a) m.remainder in
    record { nodes = r.nodes; quotient = q.word; remainder = r.word }

-- ---- traps

abbrev pub no_traps : TrapLits
no_traps = record { divide = constant false; quotient = constant false; shift = constant false }

-- the least number of a signed kind
abbrev pub least_word : Kind → LitWord
least_word k = record { kind = k; bits = replicate (width k - 1) (constant false) ++ constant true ∷ [] }

-- every bit set: of a signed kind this is -1
abbrev pub ones_word : Kind → LitWord
ones_word k = record { kind = k; bits = replicate (width k) (constant true) }

-- whether the least number of a signed kind is divided by -1
abbrev pub both_built : List Node → LitWord → LitWord → Made
both_built ns a b =
    let l = equal_built ns a (least_word a.kind) in
    let m = equal_built l.nodes b (ones_word b.kind) in
    and_built m.nodes l.lit m.lit

abbrev pub overflow_built : List Node → LitWord → LitWord → Made
overflow_built ns a b = if is_signed a.kind then both_built ns a b else record { nodes = ns; lit = constant false }

-- ---- all operations

-- a word, and the literals of the traps
pub record MadeOperation : Type 0 where
  pub nodes : List Node
  pub word : LitWord
  pub traps : TrapLits

abbrev pub untrapped : MadeWord → MadeOperation
untrapped m = record { nodes = m.nodes; word = m.word; traps = no_traps }

abbrev pub shift_operation : MadeShift → MadeOperation
shift_operation m = record { nodes = m.nodes; word = m.word; traps = record { divide = constant false; quotient = constant false; shift = m.too_far } }

abbrev pub division_operation : List Node → Bool → LitWord → LitWord → MadeOperation
division_operation ns whole a b =
    let z = equal_built ns b (zero_word b.kind) in
    let o = overflow_built z.nodes a b in
    let m = division_built o.nodes a b in
    record { nodes = m.nodes; word = if whole then m.quotient else m.remainder; traps = record { divide = z.lit; quotient = o.lit; shift = constant false } }

unfoldable pub word_op_built : List Node → BinOp → LitWord → LitWord → MadeOperation
word_op_built ns Add a b = untrapped (placed_built ns Sum (constant false) a b)
word_op_built ns Sub a b = untrapped (placed_built ns Sum (constant true) a (flipped b))
word_op_built ns Mul a b = untrapped (product_word ns a b)
word_op_built ns Div a b = division_operation ns true a b
word_op_built ns Rem a b = division_operation ns false a b
word_op_built ns Shl a b = shift_operation (word_shift_built ns true a b)
word_op_built ns Shr a b = shift_operation (word_shift_built ns false a b)
word_op_built ns And a b = untrapped (placed_built ns AndCell (constant false) a b)
word_op_built ns Or a b = untrapped (placed_built ns OrCell (constant false) a b)
word_op_built ns Xor a b = untrapped (placed_built ns XorCell (constant false) a b)
word_op_built ns Eq a b = untrapped (truth_word (equal_built ns a b))
word_op_built ns Ne a b = untrapped (truth_word (negated (equal_built ns a b)))
word_op_built ns Lt a b = untrapped (truth_word (order_built ns false a b))
word_op_built ns Le a b = untrapped (truth_word (order_built ns true a b))
word_op_built ns Gt a b = untrapped (truth_word (order_built ns false b a))
word_op_built ns Ge a b = untrapped (truth_word (order_built ns true b a))
