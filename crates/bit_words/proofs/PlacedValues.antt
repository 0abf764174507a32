-- The words that have a cell at each place of two words: their numbers.
use Rattle.std.proofs.Common.{◌≡◌, ℕ, suc, ◌+◌, ◌-◌, ◌*◌, ◌<◌, ◌^◌, ◌%◌, pos, Bool, true, false, not, ◌&&◌, ◌||◌, cond, List, [], ◌∷◌, length, map, refl, sym, ap, ◌∙◌, arith, subst, bit_and, bit_or}
use Rattle.std.specs.Int.Bits.{bit_xor}
use Rattle.std.proofs.lemmas.Nat.{and_block, or_block, xor_block}
use Rattle.std.proofs.Math.Nat.{pow-suc, mod-eq_of_lt}
use Rattle.aig_build.specs.declared.lits.Lit.{Lit}
use Rattle.aig_build.specs.Circuits.{Node, IsCircuit, constant, opposite, lit_value}
use Rattle.aig_build.proofs.Gates.{constant_value}
use Rattle.rvt_num.specs.declared.kinds.Kind.{Kind}
use Rattle.rvt_num.specs.declared.operations.BinOp.TheVariants.{Add, Sub, And as AndOp, Or as OrOp, Xor as XorOp}
use Rattle.rvt_num.specs.Kinds.{width, promoted_kind}
use Rattle.rvt_num.specs.Operations.{number_of}
use Rattle.rvt_num.specs.Wrapping.{reading, pattern_of, wrap}
use Rattle.rvt_num.proofs.Readings.{pattern_of_reading, promoted_is_no_bool}
use Rattle.bit_words.specs.declared.cells.Cell.{Cell}
use Rattle.bit_words.specs.declared.cells.Cell.TheVariants.{Sum, And, Or, Xor, Choice}
use Rattle.bit_words.specs.Built.{MadeWord, placed_built, flipped}
use Rattle.bit_words.specs.Words.{LitWord, word_number, AreThere, values, bit_number, number_of_bits}
use Rattle.bit_words.proofs.Arithmetic.{below_power, ripple_length, sum_modulo}
use Rattle.bit_words.proofs.Computing.{lit_value-opposite, differ}
use Rattle.bit_words.proofs.Numbers.{subtracted, wrap_is}
use Rattle.bit_words.proofs.RippleCarry.{ripple_bits, ripple-makes}
use Rattle.bit_words.proofs.WordValues.{sum_value, values_length, some_nodes, below_width}

-- a word of this circuit, as wide as its kind
pub record IsWord (nodes : List Node) (w : LitWord) : Type 0 where
  pub there : AreThere nodes w.bits
  pub wide : length w.bits ≡ width w.kind

-- the number of the bits of a word
abbrev pub pattern : List Node → List Bool → LitWord → ℕ
pattern nodes inputs w = number_of_bits (values nodes inputs w.bits)

pub pattern_small : (nodes : List Node) (inputs : List Bool) (w : LitWord) → IsWord nodes w → pattern nodes inputs w < 2 ^ width w.kind
pattern_small nodes inputs w h = below_width nodes inputs w.bits (width w.kind) h.wide

pub placed_reads : (cell : Cell) (old new : List Node) (c : Lit) (a b r : LitWord) → IsCircuit old → c.node < length old → AreThere old a.bits → AreThere old b.bits → length a.bits ≡ length b.bits
    → placed_built old cell c a b ≡ record { nodes = new; word = r } → (inputs : List Bool)
    → word_number new inputs r ≡ record { kind = a.kind; value = reading a.kind (number_of_bits (ripple_bits cell (lit_value old inputs c) (values old inputs a.bits) (values old inputs b.bits))) }
placed_reads cell old new c a b r h t p q w e inputs =
    let makes = ripple-makes cell old c a.bits b.bits h t p q w in
    sym (ap (λ (m : MadeWord). word_number m.nodes inputs m.word) e) ∙ (λ i. record { kind = a.kind; value = reading a.kind (number_of_bits (makes.bits inputs i)) })

-- ---- every bit inverted
pub AreThere-flipped : (nodes : List Node) (xs : List Lit) → AreThere nodes xs → AreThere nodes (map opposite xs)
AreThere-flipped nodes [] t = tt
AreThere-flipped nodes (x ∷ xs) t = (t.0, AreThere-flipped nodes xs t.1)

pub values-flipped : (nodes : List Node) (inputs : List Bool) (xs : List Lit) → values nodes inputs (map opposite xs) ≡ map not (values nodes inputs xs)
values-flipped nodes inputs [] = refl
values-flipped nodes inputs (x ∷ xs) = λ i. lit_value-opposite nodes inputs x i ∷ values-flipped nodes inputs xs i

pub flipped_length : (xs : List Lit) → length (map opposite xs) ≡ length xs
flipped_length [] = refl
flipped_length (x ∷ xs) = ap suc (flipped_length xs)

pub flipped_number : (xs : List Bool) → number_of_bits (map not xs) + number_of_bits xs + 1 ≡ 2 ^ length xs
flipped_number [] = omega arith
flipped_number (false ∷ xs) = omega (arith, flipped_number xs, pow-suc 2 (length xs))
flipped_number (true ∷ xs) = omega (arith, flipped_number xs, pow-suc 2 (length xs))

not_length : (xs : List Bool) → length (map not xs) ≡ length xs
not_length [] = refl
not_length (x ∷ xs) = ap suc (not_length xs)

-- a sum with the inverted bits and 1 is a difference
pub difference_bits : (w : ℕ) (xs ys : List Bool) → length xs ≡ w → length ys ≡ w → number_of_bits (ripple_bits Sum true xs (map not ys)) ≡ (number_of_bits xs + (2 ^ w - number_of_bits ys)) % 2 ^ w
difference_bits w xs ys e f =
    let all : number_of_bits (map not ys) + number_of_bits ys + 1 ≡ 2 ^ w = flipped_number ys ∙ ap (λ n. 2 ^ n) f in
    sum_modulo true xs (map not ys) (e ∙ sym f ∙ sym (not_length ys)) ∙ ap (λ n. (number_of_bits xs + number_of_bits (map not ys) + 1) % 2 ^ n) e
    ∙ ap (λ k. k % 2 ^ w) (omega arith)

-- ---- bit by bit
low_last : (b m : ℕ) → b + 2 * m ≡ m * 2 ^ 1 + b
low_last b m = omega arith

small_bit : (b : Bool) → bit_number b < 2 ^ 1
small_bit false = omega arith
small_bit true = omega arith

and_bit : (x y : Bool) → bit_and (bit_number x) (bit_number y) ≡ bit_number (x && y)
and_bit false y = refl
and_bit true false = refl
and_bit true true = refl

or_bit : (x y : Bool) → bit_or (bit_number x) (bit_number y) ≡ bit_number (x || y)
or_bit false y = refl
or_bit true false = refl
or_bit true true = refl

xor_bit : (x y : Bool) → bit_xor (bit_number x) (bit_number y) ≡ bit_number (differ x y)
xor_bit false y = refl
xor_bit true false = refl
xor_bit true true = refl

-- the cells of an operation on bits do that operation on the numbers
block : (f : ℕ → ℕ → ℕ) (x y z : Bool) (m n k : ℕ) → ((a b r s : ℕ) → r < 2 ^ 1 → s < 2 ^ 1 → f (a * 2 ^ 1 + r) (b * 2 ^ 1 + s) ≡ f a b * 2 ^ 1 + f r s)
    → f (bit_number x) (bit_number y) ≡ bit_number z → k ≡ f m n → bit_number z + 2 * k ≡ f (bit_number x + 2 * m) (bit_number y + 2 * n)
block f x y z m n k blocks bit rest =
    low_last (bit_number z) k ∙ (λ i. rest i * 2 ^ 1 + sym bit i) ∙ sym (blocks m n (bit_number x) (bit_number y) (small_bit x) (small_bit y))
    ∙ (λ i. f (sym (low_last (bit_number x) m) i) (sym (low_last (bit_number y) n) i))

and_number : (c : Bool) (xs ys : List Bool) → length xs ≡ length ys → number_of_bits (ripple_bits And c xs ys) ≡ bit_and (number_of_bits xs) (number_of_bits ys)
and_number c [] [] e = refl
and_number c [] (y ∷ ys) e = absurd (omega arith)
and_number c (x ∷ xs) [] e = absurd (omega arith)
and_number c (x ∷ xs) (y ∷ ys) e = block bit_and x y (x && y) (number_of_bits xs) (number_of_bits ys) _ (and_block 1) (and_bit x y) (and_number c xs ys (omega arith))

or_number : (c : Bool) (xs ys : List Bool) → length xs ≡ length ys → number_of_bits (ripple_bits Or c xs ys) ≡ bit_or (number_of_bits xs) (number_of_bits ys)
or_number c [] [] e = refl
or_number c [] (y ∷ ys) e = absurd (omega arith)
or_number c (x ∷ xs) [] e = absurd (omega arith)
or_number c (x ∷ xs) (y ∷ ys) e = block bit_or x y (x || y) (number_of_bits xs) (number_of_bits ys) _ (or_block 1) (or_bit x y) (or_number c xs ys (omega arith))

xor_number : (c : Bool) (xs ys : List Bool) → length xs ≡ length ys → number_of_bits (ripple_bits Xor c xs ys) ≡ bit_xor (number_of_bits xs) (number_of_bits ys)
xor_number c [] [] e = refl
xor_number c [] (y ∷ ys) e = absurd (omega arith)
xor_number c (x ∷ xs) [] e = absurd (omega arith)
xor_number c (x ∷ xs) (y ∷ ys) e = block bit_xor x y (differ x y) (number_of_bits xs) (number_of_bits ys) _ (xor_block 1) (xor_bit x y) (xor_number c xs ys (omega arith))

pub choice_bits : (c : Bool) (xs ys : List Bool) → length xs ≡ length ys → ripple_bits Choice c xs ys ≡ cond c xs ys
choice_bits true [] [] e = refl
choice_bits false [] [] e = refl
choice_bits c [] (y ∷ ys) e = absurd (omega arith)
choice_bits c (x ∷ xs) [] e = absurd (omega arith)
choice_bits true (x ∷ xs) (y ∷ ys) e = ap (λ bs. x ∷ bs) (choice_bits true xs ys (omega arith))
choice_bits false (x ∷ xs) (y ∷ ys) e = ap (λ bs. y ∷ bs) (choice_bits false xs ys (omega arith))

-- ---- words
pub wrap_small : (kind : Kind) (n : ℕ) → promoted_kind kind ≡ kind → n < 2 ^ width kind → reading kind n ≡ wrap kind (pos n)
wrap_small kind n p small = sym (wrap_is kind (pos n) (promoted_is_no_bool kind p) ∙ ap (reading kind) (mod-eq_of_lt small))

module _ (old new : List Node) (a b r : LitWord) (h : IsCircuit old) (p : IsWord old a) (q : IsWord old b) (same : a.kind ≡ b.kind) (promoted : promoted_kind a.kind ≡ a.kind) (inputs : List Bool) where
  lengths : length a.bits ≡ length b.bits
  lengths = p.wide ∙ ap width same ∙ sym q.wide

  abbrev m : ℕ
  m = pattern old inputs a

  abbrev n : ℕ
  n = pattern old inputs b

  small : n < 2 ^ width a.kind
  small = subst (λ k. n < 2 ^ width k) (sym same) (pattern_small old inputs b q)

  pub difference_is : placed_built old Sum (constant true) a (flipped b) ≡ record { nodes = new; word = r } → word_number new inputs r ≡ number_of Sub (word_number old inputs a) (word_number old inputs b)
  difference_is e =
      placed_reads Sum old new (constant true) a (flipped b) r h (some_nodes old h) p.there (AreThere-flipped old b.bits q.there) (lengths ∙ sym (flipped_length b.bits)) e inputs
      ∙ (λ i. record { kind = a.kind; value = reading a.kind (number_of_bits (ripple_bits Sum (constant_value old (constant true) inputs h refl i) (values old inputs a.bits) (values-flipped old inputs b.bits i))) })
      ∙ (λ i. record { kind = a.kind; value = reading a.kind (difference_bits (width a.kind) (values old inputs a.bits) (values old inputs b.bits) (values_length old inputs a.bits ∙ p.wide) (values_length old inputs b.bits ∙ q.wide ∙ ap width (sym same)) i) })
      ∙ (λ i. record { kind = a.kind; value = subtracted a.kind promoted m n (pattern_small old inputs a p) small i })
      ∙ (λ i. number_of Sub (word_number old inputs a) (record { kind = same i; value = reading (same i) n }))

  pub sum_is_word : placed_built old Sum (constant false) a b ≡ record { nodes = new; word = r } → word_number new inputs r ≡ number_of Add (word_number old inputs a) (word_number old inputs b)
  sum_is_word e =
      sym (ap (λ (t : MadeWord). word_number t.nodes inputs t.word) e)
      ∙ (λ i. record { kind = a.kind; value = sum_value old inputs a.kind a.bits b.bits _ h p.there q.there p.wide (q.wide ∙ ap width (sym same)) promoted refl i })
      ∙ (λ i. number_of Add (word_number old inputs a) (record { kind = same i; value = reading (same i) n }))

  -- an operation on the bits, by what its cells do to the numbers
  bitwise_is : (cell : Cell) (f : ℕ → ℕ → ℕ) → ((c : Bool) (xs ys : List Bool) → length xs ≡ length ys → number_of_bits (ripple_bits cell c xs ys) ≡ f (number_of_bits xs) (number_of_bits ys))
      → placed_built old cell (constant false) a b ≡ record { nodes = new; word = r }
      → word_number new inputs r ≡ record { kind = a.kind; value = wrap a.kind (pos (f (pattern_of (width a.kind) (reading a.kind m)) (pattern_of (width b.kind) (reading b.kind n)))) }
  bitwise_is cell f number e =
      let xs = values old inputs a.bits in
      let ys = values old inputs b.bits in
      let c = lit_value old inputs (constant false) in
      let same_length : length xs ≡ length ys = values_length old inputs a.bits ∙ lengths ∙ sym (values_length old inputs b.bits) in
      let long : length (ripple_bits cell c xs ys) ≡ width a.kind = ripple_length cell c xs ys same_length ∙ values_length old inputs a.bits ∙ p.wide in
      let below : number_of_bits (ripple_bits cell c xs ys) < 2 ^ width a.kind = subst (λ k. number_of_bits (ripple_bits cell c xs ys) < 2 ^ k) long (below_power (ripple_bits cell c xs ys)) in
      placed_reads cell old new (constant false) a b r h (some_nodes old h) p.there q.there lengths e inputs
      ∙ (λ i. record { kind = a.kind; value = wrap_small a.kind (number_of_bits (ripple_bits cell c xs ys)) promoted below i })
      ∙ (λ i. record { kind = a.kind; value = wrap a.kind (pos (number c xs ys same_length i)) })
      ∙ (λ i. record { kind = a.kind; value = wrap a.kind (pos (f (sym (pattern_of_reading a.kind m (pattern_small old inputs a p)) i) (sym (pattern_of_reading b.kind n (pattern_small old inputs b q)) i))) })

  pub and_is : placed_built old And (constant false) a b ≡ record { nodes = new; word = r } → word_number new inputs r ≡ number_of AndOp (word_number old inputs a) (word_number old inputs b)
  and_is e = bitwise_is And bit_and and_number e

  pub or_is : placed_built old Or (constant false) a b ≡ record { nodes = new; word = r } → word_number new inputs r ≡ number_of OrOp (word_number old inputs a) (word_number old inputs b)
  or_is e = bitwise_is Or bit_or or_number e

  pub xor_is : placed_built old Xor (constant false) a b ≡ record { nodes = new; word = r } → word_number new inputs r ≡ number_of XorOp (word_number old inputs a) (word_number old inputs b)
  xor_is e = bitwise_is Xor bit_xor xor_number e

either_way : (old : List Node) (inputs : List Bool) (a b : LitWord) → a.kind ≡ b.kind → (c : Bool)
    → record { kind = a.kind; value = reading a.kind (number_of_bits (cond c (values old inputs a.bits) (values old inputs b.bits))) } ≡ cond c (word_number old inputs a) (word_number old inputs b)
either_way old inputs a b same true = refl
either_way old inputs a b same false = λ i. record { kind = same i; value = reading (same i) (number_of_bits (values old inputs b.bits)) }

-- a where the literal is true, else b
pub choice_is : (old new : List Node) (which : Lit) (a b r : LitWord) → IsCircuit old → which.node < length old → IsWord old a → IsWord old b → a.kind ≡ b.kind
    → placed_built old Choice which a b ≡ record { nodes = new; word = r } → (inputs : List Bool)
    → word_number new inputs r ≡ cond (lit_value old inputs which) (word_number old inputs a) (word_number old inputs b)
choice_is old new which a b r h t p q same e inputs =
    let lengths : length a.bits ≡ length b.bits = p.wide ∙ ap width same ∙ sym q.wide in
    placed_reads Choice old new which a b r h t p.there q.there lengths e inputs
    ∙ (λ i. record { kind = a.kind; value = reading a.kind (number_of_bits (choice_bits (lit_value old inputs which) (values old inputs a.bits) (values old inputs b.bits) (values_length old inputs a.bits ∙ lengths ∙ sym (values_length old inputs b.bits)) i)) })
    ∙ either_way old inputs a b same (lit_value old inputs which)
