-- The words of conversions.
use Rattle.std.proofs.Common.{◌≡◌, ◌≢◌, ℕ, zero, suc, ◌+◌, ◌-◌, ◌*◌, ◌<◌, ◌≤◌, ◌^◌, ◌%◌, ℤ, pos, negsuc, Bool, true, false, not, cond, List, [], ◌∷◌, ◌++◌, length, take, get_or, replicate, refl, sym, ap, ◌∙◌, arith, subst, length-append}
use Rattle.std.proofs.lemmas.Int.{ints}
use Rattle.std.proofs.lemmas.List.{take-map, length-replicate}
use Rattle.std.proofs.Math.Nat.{pow-suc}
use Rattle.std.proofs.Math.Pow.{pow_pos}
use Rattle.aig_build.specs.declared.lits.Lit.{Lit}
use Rattle.aig_build.specs.Circuits.{Node, IsCircuit, constant, lit_value}
use Rattle.aig_build.proofs.Gates.{constant_value}
use Rattle.rvt_num.specs.declared.kinds.Kind.{Kind}
use Rattle.rvt_num.specs.declared.kinds.Kind.TheVariants.{Bool as BoolKind, I8, U8, I16, U16, I32, U32, I64, U64}
use Rattle.rvt_num.specs.Kinds.{width, is_signed}
use Rattle.rvt_num.specs.Operations.{converted, int_eq, truth}
use Rattle.rvt_num.specs.Wrapping.{pattern_of, reading, signed_reading, truth_of}
use Rattle.rvt_num.proofs.Patterns.{pattern_is}
use Rattle.rvt_num.proofs.Readings.{signed_reading_low, signed_reading_high}
use Rattle.bit_words.specs.Built.{convert_built, resized, sign_bit}
use Rattle.bit_words.specs.Words.{LitWord, word_number, AreThere, values, bit_number, number_of_bits}
use Rattle.bit_words.proofs.Arithmetic.{below_power}
use Rattle.bit_words.proofs.LessValues.{value-at, some_width}
use Rattle.bit_words.proofs.Multiplication.{AreThere-take, AreThere-replicate, front_number, values-replicate}
use Rattle.bit_words.proofs.Numbers.{wrap_is}
use Rattle.bit_words.proofs.PlacedValues.{IsWord}
use Rattle.bit_words.proofs.RippleCarry.{AreThere-at}
use Rattle.bit_words.proofs.SignedOrder.{top_split, front_length, double_power}
use Rattle.bit_words.proofs.WordValues.{values_length, some_nodes}

-- ---- numbers of longer lists of bits
pub number_append : (xs ys : List Bool) → number_of_bits (xs ++ ys) ≡ number_of_bits xs + 2 ^ length xs * number_of_bits ys
number_append [] ys = omega arith
number_append (b ∷ xs) ys = omega (arith, number_append xs ys, double_power (length xs) (number_of_bits ys))

pub number_zeros : (k : ℕ) → number_of_bits (replicate k false) ≡ 0
number_zeros zero = refl
number_zeros (suc k) = omega (arith, number_zeros k)

number_ones : (k : ℕ) → number_of_bits (replicate k true) + 1 ≡ 2 ^ k
number_ones zero = omega arith
number_ones (suc k) = omega (arith, number_ones k, pow-suc 2 k)

-- the bit that a word of the kind goes on with
abbrev pub fill_bit : Kind → List Bool → Bool
fill_bit kind bs = cond (is_signed kind) (get_or bs (length bs - 1) false) false

extended_plain : (k : ℕ) (bs : List Bool) → number_of_bits (bs ++ replicate k false) % 2 ^ k ≡ pattern_of k (pos (number_of_bits bs))
extended_plain k bs =
    let none : 2 ^ length bs * number_of_bits (replicate k false) ≡ 0 = ap (λ n. 2 ^ length bs * n) (number_zeros k) ∙ omega arith in
    ap (λ n. n % 2 ^ k) (number_append bs (replicate k false) ∙ omega arith)

-- x below the half, with ones above it: the pattern of the negative number
ones_above : (k w n m : ℕ) → n < 2 ^ w → m + 1 ≡ 2 ^ k → (n + 2 ^ w * m) % 2 ^ k ≡ pattern_of k (negsuc (2 ^ w - 1 - n))
ones_above k w n m small e =
    let p = pow_pos k in
    let whole : 2 ^ w * m + 2 ^ w ≡ 2 ^ w * 2 ^ k = (let f : 2 ^ w * (m + 1) ≡ 2 ^ w * m + 2 ^ w = grind arith in sym f ∙ ap (λ x. 2 ^ w * x) e) in
    sym (pattern_is k (negsuc (2 ^ w - 1 - n)) (2 ^ w) (n + 2 ^ w * m) (omega (arith, ints)))

extended_signed : (k n : ℕ) (bs : List Bool) (t : Bool) → length bs ≡ suc n → get_or bs n false ≡ t → number_of_bits (bs ++ replicate k t) % 2 ^ k ≡ pattern_of k (signed_reading (suc n) (number_of_bits bs))
extended_signed k n bs false e f =
    let front : number_of_bits (take n bs) < 2 ^ n = subst (λ j. number_of_bits (take n bs) < 2 ^ j) (front_length n bs e) (below_power (take n bs)) in
    let split = top_split n bs e ∙ ap (λ t. number_of_bits (take n bs) + 2 ^ n * bit_number t) f in
    let half : 2 ^ (suc n - 1) ≡ 2 ^ n = ap (λ j. 2 ^ j) (omega arith) in
    extended_plain k bs ∙ ap (pattern_of k) (sym (signed_reading_low (suc n) (number_of_bits bs) (omega arith)))
extended_signed k n bs true e f =
    let split = top_split n bs e ∙ ap (λ t. number_of_bits (take n bs) + 2 ^ n * bit_number t) f in
    let half : 2 ^ (suc n - 1) ≡ 2 ^ n = ap (λ j. 2 ^ j) (omega arith) in
    let small : number_of_bits bs < 2 ^ suc n = subst (λ j. number_of_bits bs < 2 ^ j) e (below_power bs) in
    ap (λ x. x % 2 ^ k) (number_append bs (replicate k true) ∙ ap (λ j. number_of_bits bs + 2 ^ j * number_of_bits (replicate k true)) e)
    ∙ ones_above k (suc n) (number_of_bits bs) (number_of_bits (replicate k true)) small (number_ones k)
    ∙ ap (pattern_of k) (sym (signed_reading_high (suc n) (number_of_bits bs) (omega arith)))

signed_kind : (k n : ℕ) (bs : List Bool) → length bs ≡ suc n → number_of_bits (bs ++ replicate k (get_or bs (length bs - 1) false)) % 2 ^ k ≡ pattern_of k (signed_reading (suc n) (number_of_bits bs))
signed_kind k n bs e =
    let at : length bs - 1 ≡ n = omega arith in
    ap (λ j. number_of_bits (bs ++ replicate k (get_or bs j false)) % 2 ^ k) at ∙ extended_signed k n bs _ e refl

extended : (kind : Kind) (k : ℕ) (bs : List Bool) → length bs ≡ width kind → number_of_bits (bs ++ replicate k (fill_bit kind bs)) % 2 ^ k ≡ pattern_of k (reading kind (number_of_bits bs))
extended BoolKind k bs e = extended_plain k bs
extended I8 k bs e = signed_kind k 7 bs e
extended U8 k bs e = extended_plain k bs
extended I16 k bs e = signed_kind k 15 bs e
extended U16 k bs e = extended_plain k bs
extended I32 k bs e = signed_kind k 31 bs e
extended U32 k bs e = extended_plain k bs
extended I64 k bs e = signed_kind k 63 bs e
extended U64 k bs e = extended_plain k bs

-- ---- the literals
pub AreThere-append : (nodes : List Node) (xs ys : List Lit) → AreThere nodes xs → AreThere nodes ys → AreThere nodes (xs ++ ys)
AreThere-append nodes [] ys t u = u
AreThere-append nodes (x ∷ xs) ys t u = (t.0, AreThere-append nodes xs ys t.1 u)

pub values-append : (nodes : List Node) (inputs : List Bool) (xs ys : List Lit) → values nodes inputs (xs ++ ys) ≡ values nodes inputs xs ++ values nodes inputs ys
values-append nodes inputs [] ys = refl
values-append nodes inputs (x ∷ xs) ys = ap (λ bs. lit_value nodes inputs x ∷ bs) (values-append nodes inputs xs ys)

sign_there : (nodes : List Node) (s : Bool) (xs : List Lit) → IsCircuit nodes → 0 < length xs → AreThere nodes xs → (cond s (get_or xs (length xs - 1) (constant false)) (constant false)).node < length nodes
sign_there nodes true xs h some t = AreThere-at nodes xs (length xs - 1) (constant false) t (omega arith)
sign_there nodes false xs h some t = some_nodes nodes h

some_bits : (nodes : List Node) (a : LitWord) → IsWord nodes a → 0 < length a.bits
some_bits nodes a p = let w = some_width a.kind in let e = p.wide in omega arith

pub AreThere-resized : (nodes : List Node) (kind : Kind) (a : LitWord) → IsCircuit nodes → IsWord nodes a → AreThere nodes (resized kind a).bits
AreThere-resized nodes kind a h p =
    AreThere-take nodes (width kind) _ (AreThere-append nodes a.bits _ p.there (AreThere-replicate nodes (width kind) (sign_bit a) (sign_there nodes (is_signed a.kind) a.bits h (some_bits nodes a p) p.there)))

sign_value : (nodes : List Node) (inputs : List Bool) (s : Bool) (xs : List Lit) → IsCircuit nodes → 0 < length xs
    → lit_value nodes inputs (cond s (get_or xs (length xs - 1) (constant false)) (constant false)) ≡ cond s (get_or (values nodes inputs xs) (length (values nodes inputs xs) - 1) false) false
sign_value nodes inputs true xs h some =
    value-at nodes inputs xs (length xs - 1) (constant false) (omega arith)
    ∙ ap (λ n. get_or (values nodes inputs xs) (n - 1) false) (sym (values_length nodes inputs xs))
sign_value nodes inputs false xs h some = constant_value nodes (constant false) inputs h refl

pub resized_is : (nodes : List Node) (kind : Kind) (a r : LitWord) → IsCircuit nodes → IsWord nodes a → kind ≢ BoolKind → r ≡ resized kind a → (inputs : List Bool)
    → word_number nodes inputs r ≡ converted kind (word_number nodes inputs a)
resized_is nodes kind a r h p other e inputs =
    let k = width kind in
    let bs = values nodes inputs a.bits in
    let all = a.bits ++ replicate k (sign_bit a) in
    let long : k ≤ length (values nodes inputs all) =
    (let f = values_length nodes inputs all in let g = length-append a.bits (replicate k (sign_bit a)) in let l = length-replicate k (sign_bit a) in omega arith) in
    ap (word_number nodes inputs) e
    ∙ (λ i. record { kind = kind; value = reading kind (number_of_bits (sym (take-map (lit_value nodes inputs) k all) i)) })
    ∙ (λ i. record { kind = kind; value = reading kind (front_number k (values nodes inputs all) long i) })
    ∙ (λ i. record { kind = kind; value = reading kind (number_of_bits (values-append nodes inputs a.bits (replicate k (sign_bit a)) i) % 2 ^ k) })
    ∙ (λ i. record { kind = kind; value = reading kind (number_of_bits (bs ++ values-replicate nodes inputs k (sign_bit a) i) % 2 ^ k) })
    ∙ (λ i. record { kind = kind; value = reading kind (number_of_bits (bs ++ replicate k (sign_value nodes inputs (is_signed a.kind) a.bits h (some_bits nodes a p) i)) % 2 ^ k) })
    ∙ (λ i. record { kind = kind; value = reading kind (extended a.kind k bs (values_length nodes inputs a.bits ∙ p.wide) i) })
    ∙ (λ i. record { kind = kind; value = sym (wrap_is kind (reading a.kind (number_of_bits bs)) other) i })

-- ---- conversion to `bool`
bool_read : (t : Bool) → reading BoolKind (bit_number t + 2 * 0) ≡ truth t
bool_read true = refl
bool_read false = refl

truth_of_is : (z : ℤ) → truth (not (int_eq z (pos 0))) ≡ truth_of z
truth_of_is (pos zero) = refl
truth_of_is (pos (suc n)) = let f : int_eq (pos (suc n)) (pos 0) ≡ false = grind (arith, ints) in ap (λ t. truth (not t)) f
truth_of_is (negsuc n) = refl

pub not_zero_is : (new : List Node) (inputs : List Bool) (lit : Lit) (z : ℤ) → lit_value new inputs lit ≡ not (int_eq z (pos 0)) → word_number new inputs (record { kind = BoolKind; bits = lit ∷ [] }) ≡ record { kind = BoolKind; value = truth_of z }
not_zero_is new inputs lit z e =
    (λ i. record { kind = BoolKind; value = reading BoolKind (bit_number (e i) + 2 * 0) }) ∙ (λ i. record { kind = BoolKind; value = bool_read (not (int_eq z (pos 0))) i }) ∙ (λ i. record { kind = BoolKind; value = truth_of_is z i })

-- ---- what is built
pub convert_other : (nodes : List Node) (kind : Kind) (a : LitWord) → kind ≢ BoolKind → convert_built nodes kind a ≡ record { nodes = nodes; word = resized kind a }
unfolding convert_built
convert_other nodes BoolKind a n = absurd (n refl)
convert_other nodes I8 a n = refl
convert_other nodes U8 a n = refl
convert_other nodes I16 a n = refl
convert_other nodes U16 a n = refl
convert_other nodes I32 a n = refl
convert_other nodes U32 a n = refl
convert_other nodes I64 a n = refl
convert_other nodes U64 a n = refl
