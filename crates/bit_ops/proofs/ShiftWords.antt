-- The words that shifts build have the values of the operations.
use Rattle.std.proofs.Common.{◌≡◌, ℕ, suc, ◌+◌, ◌-◌, ◌*◌, ◌/◌, ◌<◌, ◌≤◌, ◌^◌, ◌%◌, pos, negsuc, ◌*ℤ◌, Bool, true, false, not, ◌||◌, cond, List, [], ◌∷◌, length, map, take, drop, get_or, replicate, refl, sym, ap, ◌∙◌, arith, subst, nat_lt, nat_eq, ⊎_elim, unsigned_abs, length-take}
use Rattle.std.specs.Prelude.{int_lt, int_le}
use Rattle.std.specs.Int.{int_shr}
use Rattle.std.proofs.lemmas.Bool.{cases_lt}
use Rattle.std.proofs.lemmas.Bool.Decides.{nat_tests}
use Rattle.std.proofs.lemmas.Int.{ints}
use Rattle.std.proofs.lemmas.List.{take-map, length-drop, length-replicate}
use Rattle.std.proofs.lemmas.Nat.{mul-mod_second}
use Rattle.std.proofs.Math.Nat.{mod-eq_of_lt, mod-lt, mul_comm, div-eq_of_lt, div-le_self, div-add-mod', pow-suc}
use Rattle.std.proofs.Math.Pow.{pow_pos}
use Rattle.aig_build.specs.declared.lits.Lit.{Lit}
use Rattle.aig_build.specs.Built.{Made}
use Rattle.aig_build.specs.Circuits.{Node, IsCircuit, Grows, constant, lit_value}
use Rattle.aig_build.proofs.Gates.{constant_value}
use Rattle.rvt_num.specs.declared.kinds.Kind.{Kind}
use Rattle.rvt_num.specs.declared.kinds.Kind.TheVariants.{Bool as BoolKind, I8, U8, I16, U16, I32, U32, I64, U64}
use Rattle.rvt_num.specs.declared.operations.BinOp.TheVariants.{Shl, Shr}
use Rattle.rvt_num.specs.Kinds.{width, is_signed, promoted_kind}
use Rattle.rvt_num.specs.Operations.{number_of, shifts_too_far}
use Rattle.rvt_num.specs.Wrapping.{reading, signed_reading, wrap}
use Rattle.rvt_num.proofs.Patterns.{pattern-mul}
use Rattle.rvt_num.proofs.Readings.{signed_reading_low, signed_reading_high, pattern_of_reading, promoted_is_no_bool}
use Rattle.bit_words.specs.declared.cells.Cell.TheVariants.{Equal}
use Rattle.bit_words.specs.Built.{MadeBits, carried_built, sign_bit}
use Rattle.bit_words.specs.Words.{LitWord, AreThere, values, word_number, bit_number, number_of_bits}
use Rattle.bit_words.proofs.Arithmetic.{below_power}
use Rattle.bit_words.proofs.Computing.{lit_value-opposite}
use Rattle.bit_words.proofs.ConvertValues.{fill_bit}
use Rattle.bit_words.proofs.EqualValues.{carried_reads, equal_bits}
use Rattle.bit_words.proofs.LessValues.{value-at, some_width, zeros}
use Rattle.bit_words.proofs.Multiplication.{AreThere-take, AreThere-replicate, front_number}
use Rattle.bit_words.proofs.Numbers.{wrap_is}
use Rattle.bit_words.proofs.PlacedValues.{IsWord, pattern, pattern_small, flipped_number}
use Rattle.bit_words.proofs.RippleCarry.{AreThere-at, AreThere-later, values-later, ripple_carry}
use Rattle.bit_words.proofs.SignedOrder.{top_split, front_length}
use Rattle.bit_words.proofs.WordValues.{values_length, some_nodes}
use Rattle.bit_ops.specs.Built.{count_places, shift_built, shift_fill, too_far_built}
use Rattle.bit_ops.specs.Shifting.{shift_op}
use Rattle.bit_ops.proofs.ShiftDown.{number_drop, shift_down, turned, values-drop}
use Rattle.bit_ops.proofs.ShiftValues.{shift_up}
use Rattle.bit_ops.proofs.ShiftingSteps.{AreThere-drop}

-- ---- the count
far_plain : (n w : ℕ) → not (nat_lt n w) ≡ (int_lt (pos n) (pos 0) || int_le (pos w) (pos n))
far_plain n w = grind (arith, ints, nat_tests)

far_signed : (k n w : ℕ) → w ≤ 2 ^ (k - 1) → not (nat_lt n w) ≡ (int_lt (signed_reading k n) (pos 0) || int_le (pos w) (signed_reading k n))
far_signed k n w h = ⊎_elim
    (λ l. far_plain n w ∙ ap (λ z. int_lt z (pos 0) || int_le (pos w) z) (sym (signed_reading_low k n l)))
    (λ l. (let e : nat_lt n w ≡ false = grind (arith, nat_tests) in ap not e) ∙ ap (λ z. int_lt z (pos 0) || int_le (pos w) z) (sym (signed_reading_high k n l)))
    (cases_lt n (2 ^ (k - 1)))

-- a count is negative or not below w exactly where its pattern isn't below w
pub far_reading : (kind : Kind) (n w : ℕ) → w ≤ 64 → not (nat_lt n w) ≡ (int_lt (reading kind n) (pos 0) || int_le (pos w) (reading kind n))
far_reading BoolKind n w h = far_plain n w
far_reading I8 n w h = far_signed 8 n w (omega arith)
far_reading U8 n w h = far_plain n w
far_reading I16 n w h = far_signed 16 n w (omega arith)
far_reading U16 n w h = far_plain n w
far_reading I32 n w h = far_signed 32 n w (omega arith)
far_reading U32 n w h = far_plain n w
far_reading I64 n w h = far_signed 64 n w (omega arith)
far_reading U64 n w h = far_plain n w

near_signed : (k n : ℕ) → n < 2 ^ (k - 1) → unsigned_abs (signed_reading k n) ≡ n
near_signed k n h = ap unsigned_abs (signed_reading_low k n h)

pub near_reading : (kind : Kind) (n : ℕ) → n < 64 → unsigned_abs (reading kind n) ≡ n
near_reading BoolKind n h = refl
near_reading I8 n h = near_signed 8 n (omega arith)
near_reading U8 n h = refl
near_reading I16 n h = near_signed 16 n (omega arith)
near_reading U16 n h = refl
near_reading I32 n h = near_signed 32 n (omega arith)
near_reading U32 n h = refl
near_reading I64 n h = near_signed 64 n (omega arith)
near_reading U64 n h = refl

pub places_width : (kind : Kind) → promoted_kind kind ≡ kind → 2 ^ count_places kind ≡ width kind
places_width BoolKind p = absurd (let q : I32 ≡ BoolKind = p in cc)
places_width I8 p = absurd (let q : I32 ≡ I8 = p in cc)
places_width U8 p = absurd (let q : I32 ≡ U8 = p in cc)
places_width I16 p = absurd (let q : I32 ≡ I16 = p in cc)
places_width U16 p = absurd (let q : I32 ≡ U16 = p in cc)
places_width I32 p = refl
places_width U32 p = refl
places_width I64 p = refl
places_width U64 p = refl

pub width_most : (kind : Kind) → width kind ≤ 64
width_most BoolKind = omega arith
width_most I8 = omega arith
width_most U8 = omega arith
width_most I16 = omega arith
width_most U16 = omega arith
width_most I32 = omega arith
width_most U32 = omega arith
width_most I64 = omega arith
width_most U64 = omega arith

pub places_there : (kind : Kind) → promoted_kind kind ≡ kind → 6 ≤ width kind
places_there BoolKind p = absurd (let q : I32 ≡ BoolKind = p in cc)
places_there I8 p = omega arith
places_there U8 p = omega arith
places_there I16 p = omega arith
places_there U16 p = omega arith
places_there I32 p = omega arith
places_there U32 p = omega arith
places_there I64 p = omega arith
places_there U64 p = omega arith

pub places_few : (kind : Kind) → count_places kind ≤ 6
places_few BoolKind = omega arith
places_few I8 = omega arith
places_few U8 = omega arith
places_few I16 = omega arith
places_few U16 = omega arith
places_few I32 = omega arith
places_few U32 = omega arith
places_few I64 = omega arith
places_few U64 = omega arith

far_bits : (n p : ℕ) → 0 < p → nat_eq (n / p) 0 ≡ nat_lt n p
far_bits n p h = ⊎_elim
    (λ l. let e : n / p ≡ 0 = div-eq_of_lt l in grind (arith, nat_tests))
    (λ l.
    let split = div-add-mod' n p in
    let small = mod-lt n h in
    let some : n / p ≡ 0 → ⊥ = λ e. (let none : n / p * p ≡ 0 * p = ap (λ q. q * p) e in omega arith) in
    grind (arith, nat_tests))
    (cases_lt n p)

pub far_value : (old new : List Node) (low : ℕ) (lit : Lit) (count : List Lit) → IsCircuit old → AreThere old count → too_far_built old low count ≡ record { nodes = new; lit = lit } → (inputs : List Bool)
    → lit_value new inputs lit ≡ not (nat_lt (number_of_bits (values old inputs count)) (2 ^ low))
far_value old new low lit count h p e inputs =
    let high = drop low count in
    let none = replicate (length count - low) (constant false) in
    let m = carried_built old Equal (constant true) high none in
    let wide : length high ≡ length none = length-drop low count ∙ sym (length-replicate (length count - low) (constant false)) in
    sym (ap (λ (t : Made). lit_value t.nodes inputs t.lit) e)
    ∙ lit_value-opposite m.nodes inputs m.lit
    ∙ ap not (carried_reads Equal old m.nodes (constant true) m.lit high none h (some_nodes old h) (AreThere-drop old low count p) (AreThere-replicate old (length count - low) (constant false) (some_nodes old h)) wide refl inputs
    ∙ ap (λ c. ripple_carry Equal c (values old inputs high) (values old inputs none)) (constant_value old (constant true) inputs h refl)
    ∙ equal_bits (values old inputs high) (values old inputs none) (values_length old inputs high ∙ wide ∙ sym (values_length old inputs none))
    ∙ (λ i. nat_eq ((ap number_of_bits (values-drop old inputs low count) ∙ number_drop low (values old inputs count)) i) (zeros old inputs (length count - low) h i))
    ∙ far_bits (number_of_bits (values old inputs count)) (2 ^ low) (pow_pos low))

-- ---- shifts of numbers
shifted_up : (kind : Kind) (m n : ℕ) → promoted_kind kind ≡ kind → m < 2 ^ width kind → reading kind (2 ^ n * m % 2 ^ width kind) ≡ wrap kind (reading kind m *ℤ pos (2 ^ n))
shifted_up kind m n p small =
    sym (wrap_is kind _ (promoted_is_no_bool kind p) ∙ ap (reading kind) (pattern-mul (width kind) (reading kind m) (pos (2 ^ n))
    ∙ (λ i. pattern_of_reading kind m small i * (2 ^ n % 2 ^ width kind) % 2 ^ width kind) ∙ mul-mod_second m (2 ^ n) (2 ^ width kind) ∙ ap (λ k. k % 2 ^ width kind) (mul_comm m (2 ^ n))))

half : (j : ℕ) → 2 ^ (suc j - 1) ≡ 2 ^ j
half j = ap (λ k. 2 ^ k) (omega arith)

down_low : (j m r n : ℕ) → m < 2 ^ j → r ≡ m / 2 ^ n → signed_reading (suc j) r ≡ int_shr (signed_reading (suc j) m) n
down_low j m r n l e =
    let h = half j in
    let less = div-le_self m (2 ^ n) in
    signed_reading_low (suc j) r (omega arith) ∙ ap pos e ∙ sym (ap (λ z. int_shr z n) (signed_reading_low (suc j) m (omega arith)))

down_high : (j m r d n : ℕ) → 2 ^ j ≤ m → m < 2 ^ suc j → d ≡ (2 ^ suc j - 1 - m) / 2 ^ n → d + r + 1 ≡ 2 ^ suc j → signed_reading (suc j) r ≡ int_shr (signed_reading (suc j) m) n
down_high j m r d n l s e f =
    let h = half j in
    let twice = pow-suc 2 j in
    let less = div-le_self (2 ^ suc j - 1 - m) (2 ^ n) in
    let rest : 2 ^ suc j - 1 - r ≡ d = omega arith in
    signed_reading_high (suc j) r (omega arith) ∙ ap negsuc (rest ∙ e) ∙ sym (ap (λ z. int_shr z n) (signed_reading_high (suc j) m (omega arith)))

turned_none : (xs : List Bool) → turned false xs ≡ xs
turned_none [] = refl
turned_none (x ∷ xs) = ap (λ bs. x ∷ bs) (turned_none xs)

turned_all : (xs : List Bool) → turned true xs ≡ map not xs
turned_all [] = refl
turned_all (x ∷ xs) = ap (λ bs. not x ∷ bs) (turned_all xs)

all_number : (xs : List Bool) → number_of_bits (turned true xs) + number_of_bits xs + 1 ≡ 2 ^ length xs
all_number xs = ap (λ bs. number_of_bits bs + number_of_bits xs + 1) (turned_all xs) ∙ flipped_number xs

down_signed : (f : Bool) (j n : ℕ) (bs rs : List Bool) → get_or bs j false ≡ f → length bs ≡ suc j → length rs ≡ suc j → number_of_bits (turned f rs) ≡ number_of_bits (turned f bs) / 2 ^ n
    → signed_reading (suc j) (number_of_bits rs) ≡ int_shr (signed_reading (suc j) (number_of_bits bs)) n
down_signed false j n bs rs t e f d =
    let split = top_split j bs e ∙ ap (λ b. number_of_bits (take j bs) + 2 ^ j * bit_number b) t in
    let front : number_of_bits (take j bs) < 2 ^ j = subst (λ k. number_of_bits (take j bs) < 2 ^ k) (front_length j bs e) (below_power (take j bs)) in
    down_low j (number_of_bits bs) (number_of_bits rs) n (omega arith) (sym (ap number_of_bits (turned_none rs)) ∙ d ∙ ap (λ xs. number_of_bits xs / 2 ^ n) (turned_none bs))
down_signed true j n bs rs t e f d =
    let split = top_split j bs e ∙ ap (λ b. number_of_bits (take j bs) + 2 ^ j * bit_number b) t in
    let small : number_of_bits bs < 2 ^ suc j = subst (λ k. number_of_bits bs < 2 ^ k) e (below_power bs) in
    let all : number_of_bits (turned true bs) + number_of_bits bs + 1 ≡ 2 ^ suc j = all_number bs ∙ ap (λ k. 2 ^ k) e in
    let rest : number_of_bits (turned true bs) ≡ 2 ^ suc j - 1 - number_of_bits bs = omega arith in
    down_high j (number_of_bits bs) (number_of_bits rs) (number_of_bits (turned true rs)) n (omega arith) small (d ∙ ap (λ k. k / 2 ^ n) rest) (all_number rs ∙ ap (λ k. 2 ^ k) f)

down_plain : (n : ℕ) (bs rs : List Bool) → number_of_bits (turned false rs) ≡ number_of_bits (turned false bs) / 2 ^ n → number_of_bits rs ≡ number_of_bits bs / 2 ^ n
down_plain n bs rs d = sym (ap number_of_bits (turned_none rs)) ∙ d ∙ ap (λ xs. number_of_bits xs / 2 ^ n) (turned_none bs)

signed_kind : (j n : ℕ) (bs rs : List Bool) → length bs ≡ suc j → length rs ≡ suc j → number_of_bits (turned (get_or bs (length bs - 1) false) rs) ≡ number_of_bits (turned (get_or bs (length bs - 1) false) bs) / 2 ^ n
    → signed_reading (suc j) (number_of_bits rs) ≡ int_shr (signed_reading (suc j) (number_of_bits bs)) n
signed_kind j n bs rs e f d =
    let at : length bs - 1 ≡ j = omega arith in
    down_signed (get_or bs (length bs - 1) false) j n bs rs (ap (λ k. get_or bs k false) (sym at)) e f d

down_reading : (kind : Kind) (n : ℕ) (bs rs : List Bool) → length bs ≡ width kind → length rs ≡ width kind → number_of_bits (turned (fill_bit kind bs) rs) ≡ number_of_bits (turned (fill_bit kind bs) bs) / 2 ^ n
    → reading kind (number_of_bits rs) ≡ int_shr (reading kind (number_of_bits bs)) n
down_reading BoolKind n bs rs e f d = ap pos (down_plain n bs rs d)
down_reading I8 n bs rs e f d = signed_kind 7 n bs rs e f d
down_reading U8 n bs rs e f d = ap pos (down_plain n bs rs d)
down_reading I16 n bs rs e f d = signed_kind 15 n bs rs e f d
down_reading U16 n bs rs e f d = ap pos (down_plain n bs rs d)
down_reading I32 n bs rs e f d = signed_kind 31 n bs rs e f d
down_reading U32 n bs rs e f d = ap pos (down_plain n bs rs d)
down_reading I64 n bs rs e f d = signed_kind 63 n bs rs e f d
down_reading U64 n bs rs e f d = ap pos (down_plain n bs rs d)

pub wrap_reading : (kind : Kind) (n : ℕ) → promoted_kind kind ≡ kind → n < 2 ^ width kind → reading kind n ≡ wrap kind (reading kind n)
wrap_reading kind n p small = sym (wrap_is kind (reading kind n) (promoted_is_no_bool kind p) ∙ ap (reading kind) (pattern_of_reading kind n small))

-- ---- the literal of the sign
sign_there_if : (nodes : List Node) (s : Bool) (xs : List Lit) → IsCircuit nodes → 0 < length xs → AreThere nodes xs → (cond s (get_or xs (length xs - 1) (constant false)) (constant false)).node < length nodes
sign_there_if nodes true xs h some t = AreThere-at nodes xs (length xs - 1) (constant false) t (omega arith)
sign_there_if nodes false xs h some t = some_nodes nodes h

pub sign_there : (nodes : List Node) (a : LitWord) → IsCircuit nodes → IsWord nodes a → (sign_bit a).node < length nodes
sign_there nodes a h p = sign_there_if nodes (is_signed a.kind) a.bits h (let w = some_width a.kind in let e = p.wide in omega arith) p.there

sign_value_if : (nodes : List Node) (inputs : List Bool) (s : Bool) (xs : List Lit) → IsCircuit nodes → 0 < length xs
    → lit_value nodes inputs (cond s (get_or xs (length xs - 1) (constant false)) (constant false)) ≡ cond s (get_or (values nodes inputs xs) (length (values nodes inputs xs) - 1) false) false
sign_value_if nodes inputs true xs h some =
    value-at nodes inputs xs (length xs - 1) (constant false) (omega arith) ∙ ap (λ n. get_or (values nodes inputs xs) (n - 1) false) (sym (values_length nodes inputs xs))
sign_value_if nodes inputs false xs h some = constant_value nodes (constant false) inputs h refl

pub sign_value : (nodes : List Node) (inputs : List Bool) (a : LitWord) → IsCircuit nodes → IsWord nodes a → lit_value nodes inputs (sign_bit a) ≡ fill_bit a.kind (values nodes inputs a.bits)
sign_value nodes inputs a h p = sign_value_if nodes inputs (is_signed a.kind) a.bits h (let w = some_width a.kind in let e = p.wide in omega arith)

pub fill_there : (nodes : List Node) (up : Bool) (a : LitWord) → IsCircuit nodes → IsWord nodes a → (shift_fill up a).node < length nodes
fill_there nodes true a h p = some_nodes nodes h
fill_there nodes false a h p = sign_there nodes a h p

-- ---- words
pub far_is : (old : List Node) (a b : LitWord) → promoted_kind a.kind ≡ a.kind → (inputs : List Bool)
    → not (nat_lt (pattern old inputs b) (2 ^ count_places a.kind)) ≡ shifts_too_far (word_number old inputs a) (word_number old inputs b)
far_is old a b pa inputs = ap (λ w. not (nat_lt (pattern old inputs b) w)) (places_width a.kind pa) ∙ far_reading b.kind (pattern old inputs b) (width a.kind) (width_most a.kind)

near_test : (n p : ℕ) (t : Bool) → not (nat_lt n p) ≡ t → t ≡ false → n < p
near_test n p t e f = let g : not (nat_lt n p) ≡ false = e ∙ f in grind (arith, nat_tests)

module _ (old mid new : List Node) (a b : LitWord) (rs : List Lit) (hm : IsCircuit mid) (g : Grows old mid) (p : IsWord old a) (q : IsWord old b) (pa : promoted_kind a.kind ≡ a.kind) (pb : promoted_kind b.kind ≡ b.kind)
    (wide : length rs ≡ length a.bits) (inputs : List Bool) where
  abbrev k : ℕ
  k = count_places a.kind

  abbrev n : ℕ
  n = pattern old inputs b

  module _ (near : shifts_too_far (word_number old inputs a) (word_number old inputs b) ≡ false) where
    near_is : n < 2 ^ k
    near_is = near_test n (2 ^ k) (shifts_too_far (word_number old inputs a) (word_number old inputs b)) (far_is old a b pa inputs) near

    count_is : unsigned_abs (word_number old inputs b).value ≡ n
    count_is = near_reading b.kind n (let w = places_width a.kind pa in let m = width_most a.kind in let l = near_is in omega arith)

    l : k ≤ length b.bits
    l = let six = places_there b.kind pb in let few = places_few a.kind in let w = q.wide in omega arith

    fit : length (take k b.bits) ≡ k
    fit = let less = l in simp length-take (omega arith)

    few : number_of_bits (values mid inputs (take k b.bits)) ≡ n
    few =
        ap number_of_bits (values-later old mid inputs (take k b.bits) g (AreThere-take old k b.bits q.there) ∙ sym (take-map (lit_value old inputs) k b.bits))
        ∙ front_number k (values old inputs b.bits) (let e = values_length old inputs b.bits in let less = l in omega arith)
        ∙ mod-eq_of_lt near_is

    shift_up_is : shift_built mid true (constant false) a.bits (take k b.bits) 1 ≡ record { nodes = new; bits = rs; carry = constant false }
        → word_number new inputs (record { kind = a.kind; bits = rs }) ≡ number_of Shl (word_number old inputs a) (word_number old inputs b)
    shift_up_is e =
        let m = pattern old inputs a in
        let once : (x : ℕ) → 1 * x ≡ x = λ x. omega arith in
        let powers : 2 ^ length (take k b.bits) ≡ width a.kind = ap (λ j. 2 ^ j) fit ∙ places_width a.kind pa in
        let within : 1 * 2 ^ length (take k b.bits) ≤ width a.kind = (let o = once (2 ^ length (take k b.bits)) in omega arith) in
        let number : number_of_bits (values new inputs rs) ≡ 2 ^ n * m % 2 ^ width a.kind =
        sym (ap (λ (t : MadeBits). number_of_bits (values t.nodes inputs t.bits)) e)
        ∙ shift_up mid inputs a.bits (take k b.bits) 1 (width a.kind) hm (AreThere-later old mid a.bits g p.there) (AreThere-later old mid (take k b.bits) g (AreThere-take old k b.bits q.there)) p.wide within
        ∙ (λ i. 2 ^ (once (number_of_bits (values mid inputs (take k b.bits))) ∙ few) i * number_of_bits (values-later old mid inputs a.bits g p.there i) % 2 ^ width a.kind) in
        (λ i. record { kind = a.kind; value = reading a.kind (number i) })
        ∙ (λ i. record { kind = a.kind; value = shifted_up a.kind m n pa (pattern_small old inputs a p) i })
        ∙ (λ i. record { kind = a.kind; value = wrap a.kind (reading a.kind m *ℤ pos (2 ^ sym count_is i)) })

    shift_down_is : shift_built mid false (sign_bit a) a.bits (take k b.bits) 1 ≡ record { nodes = new; bits = rs; carry = sign_bit a }
        → word_number new inputs (record { kind = a.kind; bits = rs }) ≡ number_of Shr (word_number old inputs a) (word_number old inputs b)
    shift_down_is e =
        let m = pattern old inputs a in
        let once : (x : ℕ) → 1 * x ≡ x = λ x. omega arith in
        let powers : 2 ^ length (take k b.bits) ≡ width a.kind = ap (λ j. 2 ^ j) fit ∙ places_width a.kind pa in
        let within : 1 * 2 ^ length (take k b.bits) ≤ length a.bits = (let o = once (2 ^ length (take k b.bits)) in let w = p.wide in omega arith) in
        let word : IsWord mid a = record { there = AreThere-later old mid a.bits g p.there; wide = p.wide } in
        let kept : values mid inputs a.bits ≡ values old inputs a.bits = values-later old mid inputs a.bits g p.there in
        let f = fill_bit a.kind (values old inputs a.bits) in
        let sign : lit_value mid inputs (sign_bit a) ≡ f = sign_value mid inputs a hm word ∙ ap (fill_bit a.kind) kept in
        let number : number_of_bits (turned f (values new inputs rs)) ≡ number_of_bits (turned f (values old inputs a.bits)) / 2 ^ n =
        sym (ap (λ (t : MadeBits). number_of_bits (turned f (values t.nodes inputs t.bits))) e)
        ∙ shift_down mid inputs (sign_bit a) f a.bits (take k b.bits) 1 hm (sign_there mid a hm word) word.there (AreThere-later old mid (take k b.bits) g (AreThere-take old k b.bits q.there)) within sign
        ∙ (λ i. number_of_bits (turned f (kept i)) / 2 ^ (once (number_of_bits (values mid inputs (take k b.bits))) ∙ few) i) in
        let long : length (values new inputs rs) ≡ width a.kind = values_length new inputs rs ∙ wide ∙ p.wide in
        let r = number_of_bits (values new inputs rs) in
        let below : r < 2 ^ width a.kind = subst (λ j. r < 2 ^ j) long (below_power (values new inputs rs)) in
        let shifted = down_reading a.kind n (values old inputs a.bits) (values new inputs rs) (values_length old inputs a.bits ∙ p.wide) long number in
        (λ i. record { kind = a.kind; value = wrap_reading a.kind r pa below i })
        ∙ (λ i. record { kind = a.kind; value = wrap a.kind (shifted i) })
        ∙ (λ i. record { kind = a.kind; value = wrap a.kind (int_shr (reading a.kind m) (sym count_is i)) })

pub shift_is : (old mid new : List Node) (up : Bool) (a b : LitWord) (rs : List Lit) → IsCircuit mid → Grows old mid → IsWord old a → IsWord old b → promoted_kind a.kind ≡ a.kind → promoted_kind b.kind ≡ b.kind → length rs ≡ length a.bits
    → shift_built mid up (shift_fill up a) a.bits (take (count_places a.kind) b.bits) 1 ≡ record { nodes = new; bits = rs; carry = shift_fill up a } → (inputs : List Bool)
    → shifts_too_far (word_number old inputs a) (word_number old inputs b) ≡ false → word_number new inputs (record { kind = a.kind; bits = rs }) ≡ number_of (shift_op up) (word_number old inputs a) (word_number old inputs b)
shift_is old mid new true a b rs hm g p q pa pb wide e inputs near = shift_up_is old mid new a b rs hm g p q pa pb wide inputs near e
shift_is old mid new false a b rs hm g p q pa pb wide e inputs near = shift_down_is old mid new a b rs hm g p q pa pb wide inputs near e
