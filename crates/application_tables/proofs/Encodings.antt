-- The bits with which literals of a layout stand for a value, and for an answer.
use Rattle.std.proofs.Common.{◌≡◌, ℕ, zero, suc, ◌+◌, ◌-◌, ◌/◌, ◌%◌, ◌<◌, ◌≤◌, ◌^◌, nat_lt, nat_eq, Bool, true, false, cond, if◌then◌else◌, List, [], ◌∷◌, ◌++◌, length, Option, Some, None, refl, sym, ap, ◌∙◌, subst, arith, inl, inr, true≢false, ℤ}
use Rattle.std.specs.Prelude.{map, pos, negsuc, ◌≤ℤ◌, ◌==◌, slice_get}
use Rattle.std.specs.List.{AllByRecursion}
use Rattle.std.proofs.lemmas.Bool.Decides.{nat_tests}
use Rattle.std.proofs.lemmas.Int.{ints}
use Rattle.std.proofs.Math.Nat.{mod-eq_of_lt, pow-suc}
use Rattle.aig_build.specs.declared.lits.Lit.{Lit}
use Rattle.bit_ops.specs.declared.values.SymValue.{SymValue}
use Rattle.bit_ops.specs.declared.values.SymValue.TheVariants.{Word, Pointer}
use Rattle.bit_words.specs.Words.{LitWord, bit_number, number_of_bits}
use Rattle.core_ir.specs.Calls.{Among}
use Rattle.core_ir.specs.Inputs.{IsNumber, HasShape, HaveShapes, IsFree}
use Rattle.core_ir.specs.Joint.{Node, table}
use Rattle.core_ir.specs.declared.cores.CoreObject.{CoreObject}
use Rattle.core_ir.specs.declared.cores.JointCore.{JointCore}
use Rattle.core_ir.specs.declared.units.Shape.{Shape}
use Rattle.core_ir.specs.declared.units.Shape.TheVariants as shape
use Rattle.rvt_num.proofs.Patterns.{pattern_below}
use Rattle.rvt_num.specs.Kinds.{width, IsOf}
use Rattle.rvt_num.specs.Number.{Number}
use Rattle.rvt_num.specs.Wrapping.{pattern_of, reading}
use Rattle.rvt_num.specs.declared.kinds.Kind.{Kind}
use Rattle.rvt_num.specs.declared.kinds.Kind.TheVariants.{Bool as BoolKind, I8, U8, I16, U16, I32, U32, I64, U64}
use Rattle.rvt_num.specs.declared.values.Trap.{Trap}
use Rattle.rvt_num.specs.declared.values.Trap.TheVariants as trap
use Rattle.rvt_num.specs.declared.values.Value.{Value}
use Rattle.rvt_num.specs.declared.values.Value.TheVariants.{Num, Null, At}
use Rattle.sym_values.proofs.SameBits.{long_map, map_append, append_same}
use Rattle.sym_values.specs.Valuations.{Valuation}
use Rattle.sym_values.specs.Values.{pattern_under, pointer_of, value_under, both_stand, values_under, lits_of, all_lits, IsWordOf, IsLaid, AreLaid}
use Rattle.uf_abstraction.specs.Applications.{Target, trap_lits, first_trap}
use Rattle.uf_abstraction.specs.Congruence.{AtMostOne, IsOnTarget, ArePointersOn}
use Rattle.uf_abstraction.specs.Testing.{IsSmall}
use Rattle.application_tables.specs.Lawful.{IsTargetOf}

-- ---- numbers of a kind and their patterns

abbrev signed_at : ℕ → ℕ → ℕ → ℤ
signed_at h m n = if nat_lt n h then pos n else negsuc (m - 1 - n)

below : (n h : ℕ) → n < h → nat_lt n h ≡ true
below n h low = grind (arith, low)

above : (n h : ℕ) → h ≤ n → nat_lt n h ≡ false
above n h high = grind (arith, high)

signed_pos : (h m n : ℕ) → m ≡ h + h → n < h → signed_at h m (n % m) ≡ pos n
signed_pos h m n double low =
    let whole : n % m ≡ n = mod-eq_of_lt (omega (arith, double, low)) in
    ap (signed_at h m) whole ∙ ap (λ (b : Bool). if b then pos n else negsuc (m - 1 - n)) (below n h low)

signed_negsuc : (h m n : ℕ) → m ≡ h + h → n < h → signed_at h m (m - 1 - n % m) ≡ negsuc n
signed_negsuc h m n double low =
    let whole : n % m ≡ n = mod-eq_of_lt (omega (arith, double, low)) in
    let high : h ≤ m - 1 - n = omega (arith, double, low) in
    let back : m - 1 - (m - 1 - n) ≡ n = omega (arith, double, low) in
    ap (λ (k : ℕ). signed_at h m (m - 1 - k)) whole ∙ ap (λ (b : Bool). if b then pos (m - 1 - n) else negsuc (m - 1 - (m - 1 - n))) (above (m - 1 - n) h high) ∙ ap negsuc back

unsigned_pos : (m n : ℕ) → n < m → pos (n % m) ≡ pos n
unsigned_pos m n low = ap pos (mod-eq_of_lt low)

pub read_again : (kind : Kind) (z : ℤ) → IsOf kind z → reading kind (pattern_of (width kind) z) ≡ z
read_again BoolKind (pos n) is = let high : pos n ≤ℤ pos 1 = is.high in unsigned_pos 2 n (omega (arith, ints, high))
read_again BoolKind (negsuc n) is = let low : pos 0 ≤ℤ negsuc n = is.low in absurd (omega (arith, ints, low))
read_again I8 (pos n) is = let high : pos n ≤ℤ pos 127 = is.high in signed_pos 128 256 n refl (omega (arith, ints, high))
read_again I8 (negsuc n) is = let low : negsuc 127 ≤ℤ negsuc n = is.low in signed_negsuc 128 256 n refl (omega (arith, ints, low))
read_again U8 (pos n) is = let high : pos n ≤ℤ pos 255 = is.high in unsigned_pos 256 n (omega (arith, ints, high))
read_again U8 (negsuc n) is = let low : pos 0 ≤ℤ negsuc n = is.low in absurd (omega (arith, ints, low))
read_again I16 (pos n) is = let high : pos n ≤ℤ pos 32767 = is.high in signed_pos 32768 65536 n refl (omega (arith, ints, high))
read_again I16 (negsuc n) is = let low : negsuc 32767 ≤ℤ negsuc n = is.low in signed_negsuc 32768 65536 n refl (omega (arith, ints, low))
read_again U16 (pos n) is = let high : pos n ≤ℤ pos 65535 = is.high in unsigned_pos 65536 n (omega (arith, ints, high))
read_again U16 (negsuc n) is = let low : pos 0 ≤ℤ negsuc n = is.low in absurd (omega (arith, ints, low))
read_again I32 (pos n) is = let high : pos n ≤ℤ pos 2147483647 = is.high in signed_pos 2147483648 4294967296 n refl (omega (arith, ints, high))
read_again I32 (negsuc n) is = let low : negsuc 2147483647 ≤ℤ negsuc n = is.low in signed_negsuc 2147483648 4294967296 n refl (omega (arith, ints, low))
read_again U32 (pos n) is = let high : pos n ≤ℤ pos 4294967295 = is.high in unsigned_pos 4294967296 n (omega (arith, ints, high))
read_again U32 (negsuc n) is = let low : pos 0 ≤ℤ negsuc n = is.low in absurd (omega (arith, ints, low))
read_again I64 (pos n) is = let high : pos n ≤ℤ pos 9223372036854775807 = is.high in signed_pos 9223372036854775808 18446744073709551616 n refl (omega (arith, ints, high))
read_again I64 (negsuc n) is = let low : negsuc 9223372036854775807 ≤ℤ negsuc n = is.low in signed_negsuc 9223372036854775808 18446744073709551616 n refl (omega (arith, ints, low))
read_again U64 (pos n) is = let high : pos n ≤ℤ pos 18446744073709551615 = is.high in unsigned_pos 18446744073709551616 n (omega (arith, ints, high))
read_again U64 (negsuc n) is = let low : pos 0 ≤ℤ negsuc n = is.low in absurd (omega (arith, ints, low))

-- ---- bits

abbrev pub bits_in : ℕ → ℕ → List Bool
bits_in zero n = []
bits_in (suc w) n = (n % 2 == 1) ∷ bits_in w (n / 2)

bits_long : (w n : ℕ) → length (bits_in w n) ≡ w
bits_long zero n = refl
bits_long (suc w) n = ap (λ k. suc k) (bits_long w (n / 2))

odd_by : (r : ℕ) → r < 2 → bit_number (r == 1) ≡ r
odd_by zero h = refl
odd_by (suc zero) h = refl
odd_by (suc (suc r)) h = absurd (omega (arith, h))

bits_number : (w n : ℕ) → n < 2 ^ w → number_of_bits (bits_in w n) ≡ n
bits_number zero n s = omega (arith, s)
bits_number (suc w) n s =
    let rest = bits_number w (n / 2) (omega (arith, s, pow-suc 2 w)) in
    let low = odd_by (n % 2) (omega arith) in
    omega (arith, rest, low)

-- ---- values

abbrev pub value_bits : Shape → Value → List Bool
value_bits (shape.Word k) (Num n) = bits_in (width k) (pattern_of (width k) n.value)
value_bits (shape.Word k) _ = bits_in (width k) 0
value_bits (shape.Pointer t u) (At o c) = bits_in 32 (suc o) ++ bits_in 32 c
value_bits (shape.Pointer t u) _ = bits_in 32 0 ++ bits_in 32 0

abbrev pub values_bits : List Shape → List Value → List Bool
values_bits (s ∷ ss) (z ∷ zs) = value_bits s z ++ values_bits ss zs
values_bits _ _ = []

long_both : (a b : List Bool) (m n : ℕ) → length a ≡ m → length b ≡ n → length (a ++ b) ≡ m + n
long_both [] b m n e f = omega (arith, e, f)
long_both (x ∷ a) b zero n e f = cc
long_both (x ∷ a) b (suc m) n e f = let rest = long_both a b m n (omega (arith, e)) f in omega (arith, rest)

long_lits : (xs ys : List Lit) (m n : ℕ) → length xs ≡ m → length ys ≡ n → length (xs ++ ys) ≡ m + n
long_lits [] ys m n e f = omega (arith, e, f)
long_lits (x ∷ xs) ys zero n e f = cc
long_lits (x ∷ xs) ys (suc m) n e f = let rest = long_lits xs ys m n (omega (arith, e)) f in omega (arith, rest)

abbrev wide : Shape → ℕ
wide (shape.Word k) = width k
wide (shape.Pointer t u) = 64

value_long : (s : Shape) (z : Value) → length (value_bits s z) ≡ wide s
value_long (shape.Word k) (Num n) = bits_long (width k) (pattern_of (width k) n.value)
value_long (shape.Word k) Null = bits_long (width k) 0
value_long (shape.Word k) (At o c) = bits_long (width k) 0
value_long (shape.Pointer t u) (Num n) = refl
value_long (shape.Pointer t u) Null = refl
value_long (shape.Pointer t u) (At o c) = refl

laid_long : (s : Shape) (x : SymValue) → IsLaid s x → length (lits_of x) ≡ wide s
laid_long (shape.Word k) (Word w) p = p.of_width
laid_long (shape.Word k) (Pointer o c) p = absurd p
laid_long (shape.Pointer t u) (Word w) p = absurd p
laid_long (shape.Pointer t u) (Pointer o c) p = long_lits o.bits c.bits 32 32 p.0.of_width p.1.of_width

pub values_long : (objects : List CoreObject) (free : ℕ → Type 0) (ss : List Shape) (zs : List Value) (xs : List SymValue) → HaveShapes objects free ss zs → AreLaid ss xs → length (values_bits ss zs) ≡ length (all_lits xs)
values_long objects free [] zs [] h l = refl
values_long objects free [] zs (x ∷ xs) h l = absurd l
values_long objects free (s ∷ ss) [] xs h l = absurd h
values_long objects free (s ∷ ss) (z ∷ zs) [] h l = absurd l
values_long objects free (s ∷ ss) (z ∷ zs) (x ∷ xs) h l =
    long_both (value_bits s z) (values_bits ss zs) (wide s) (length (all_lits xs)) (value_long s z) (values_long objects free ss zs xs h.1 l.1)
    ∙ sym (long_lits (lits_of x) (all_lits xs) (wide s) (length (all_lits xs)) (laid_long s x l.0) refl)

-- ---- traps

abbrev number_of : Trap → ℕ
number_of trap.Divide = 0
number_of trap.Quotient = 1
number_of trap.Shift = 2
number_of trap.Index = 3
number_of trap.Null = 4
number_of trap.Range = 5
number_of trap.Place = 6
number_of trap.NoReturn = 7

abbrev trap_at : ℕ → Trap
trap_at zero = trap.Divide
trap_at (suc zero) = trap.Quotient
trap_at (suc (suc zero)) = trap.Shift
trap_at (suc (suc (suc zero))) = trap.Index
trap_at (suc (suc (suc (suc zero)))) = trap.Null
trap_at (suc (suc (suc (suc (suc zero))))) = trap.Range
trap_at (suc (suc (suc (suc (suc (suc zero)))))) = trap.Place
trap_at (suc (suc (suc (suc (suc (suc (suc n))))))) = trap.NoReturn

trap_back : (t : Trap) → trap_at (number_of t) ≡ t
trap_back trap.Divide = refl
trap_back trap.Quotient = refl
trap_back trap.Shift = refl
trap_back trap.Index = refl
trap_back trap.Null = refl
trap_back trap.Range = refl
trap_back trap.Place = refl
trap_back trap.NoReturn = refl

abbrev same_trap : Trap → Trap → Bool
same_trap s t = nat_eq (number_of s) (number_of t)

traps_same : (s t : Trap) → same_trap s t ≡ true → s ≡ t
traps_same s t e = let n : number_of s ≡ number_of t = grind (arith, nat_tests) in sym (trap_back s) ∙ ap trap_at n ∙ trap_back t

trap_is : (t : Trap) → same_trap t t ≡ true
trap_is t = grind (arith, nat_tests)

-- the literal of the first trap of this kind is true, and no other
abbrev pub trap_bits : List Trap → Option Trap → List Bool
trap_bits [] o = []
trap_bits (s ∷ ss) None = false ∷ trap_bits ss None
trap_bits (s ∷ ss) (Some t) = cond (same_trap s t) (true ∷ trap_bits ss None) (false ∷ trap_bits ss (Some t))

abbrev pub kinds : List (Trap × Lit) → List Trap
kinds ts = map (λ (t : Trap × Lit). t.0) ts

trap_by : (b : Bool) (xs ys : List Bool) (n : ℕ) → length xs ≡ n → length ys ≡ n → length (cond b (true ∷ xs) (false ∷ ys)) ≡ suc n
trap_by true xs ys n e f = ap (λ k. suc k) e
trap_by false xs ys n e f = ap (λ k. suc k) f

pub traps_long : (ts : List (Trap × Lit)) (o : Option Trap) → length (trap_bits (kinds ts) o) ≡ length (trap_lits ts)
traps_long [] o = refl
traps_long (t ∷ ts) None = ap (λ k. suc k) (traps_long ts None)
traps_long (t ∷ ts) (Some s) = trap_by (same_trap t.0 s) _ _ (length (trap_lits ts)) (traps_long ts None) (traps_long ts (Some s))

module _ (v : Valuation) where
  cons_parts : (a b : Bool) (xs ys : List Bool) → a ∷ xs ≡ b ∷ ys → (a ≡ b) × (xs ≡ ys)
  cons_parts a b xs ys e = (cc, cc)

  all_off : (ts : List (Trap × Lit)) → map v (trap_lits ts) ≡ trap_bits (kinds ts) None → AllByRecursion (λ (t : Trap × Lit). v t.1 ≡ false) ts
  all_off [] e = tt
  all_off (t ∷ ts) e = let p = cons_parts _ _ _ _ e in (p.0, all_off ts p.1)

  pub none_first : (ts : List (Trap × Lit)) → map v (trap_lits ts) ≡ trap_bits (kinds ts) None → (first_trap v ts ≡ None) × AtMostOne v ts
  none_first [] e = (refl, tt)
  none_first (t ∷ ts) e =
      let p = cons_parts _ _ _ _ e in
      let rest = none_first ts p.1 in
      (ap (λ b. cond b (Some t.0) (first_trap v ts)) p.0 ∙ rest.0, ((λ f. absurd (true≢false (sym f ∙ p.0))), rest.1))

  first_by : (t : Trap × Lit) (ts : List (Trap × Lit)) (s : Trap) → ((map v (trap_lits ts) ≡ trap_bits (kinds ts) (Some s)) → Among s (kinds ts) → (first_trap v ts ≡ Some s) × AtMostOne v ts) → Among s (kinds (t ∷ ts)) → (b : Bool) → same_trap t.0 s ≡ b
      → v t.1 ∷ map v (trap_lits ts) ≡ cond b (true ∷ trap_bits (kinds ts) None) (false ∷ trap_bits (kinds ts) (Some s)) → (cond (v t.1) (Some t.0) (first_trap v ts) ≡ Some s) × AtMostOne v (t ∷ ts)
  first_by t ts s rest am true e f =
      let p = cons_parts _ _ _ _ f in
      (ap (λ b. cond b (Some t.0) (first_trap v ts)) p.0 ∙ ap Some (traps_same t.0 s e), ((λ g. all_off ts p.1), (none_first ts p.1).1))
  first_by t ts s rest am false e f =
      let p = cons_parts _ _ _ _ f in
      let more : Among s (kinds ts) = elim am [ inl h ↦ absurd (true≢false (sym (trap_is s) ∙ ap (λ k. same_trap k s) h ∙ e)) | inr h ↦ h ] in
      let r = rest p.1 more in
      (ap (λ b. cond b (Some t.0) (first_trap v ts)) p.0 ∙ r.0, ((λ g. absurd (true≢false (sym g ∙ p.0))), r.1))

  pub one_first : (ts : List (Trap × Lit)) (s : Trap) → map v (trap_lits ts) ≡ trap_bits (kinds ts) (Some s) → Among s (kinds ts) → (first_trap v ts ≡ Some s) × AtMostOne v ts
  one_first [] s e am = absurd am
  one_first (t ∷ ts) s e am = first_by t ts s (one_first ts s) am (same_trap t.0 s) refl e

  -- ---- what literals with these bits stand for

  number_from : (w : LitWord) (k n : ℕ) → n < 2 ^ k → map v w.bits ≡ bits_in k n → pattern_under v w ≡ n
  number_from w k n s e = ap number_of_bits e ∙ bits_number k n s

  module _ (joint : JointCore) (x : Node) (targets : List Target) (room : length (table joint) < 2 ^ 32) (small : AllByRecursion IsSmall targets) (are : (t : Target) → IsTargetOf joint x t → Among t targets) where
    abbrev Has : Shape → Value → Type 0
    Has = HasShape (table joint) (IsFree joint x)

    abbrev Have : List Shape → List Value → Type 0
    Have = HaveShapes (table joint) (IsFree joint x)

    small_at : (ts : List Target) (t : Target) → AllByRecursion IsSmall ts → Among t ts → IsSmall t
    small_at [] t h am = absurd am
    small_at (s ∷ ts) t h am = elim am [ inl e ↦ subst IsSmall (sym e) h.0 | inr r ↦ small_at ts t h.1 r ]

    in_table : (xs : List CoreObject) (n : ℕ) (y : CoreObject) → slice_get xs n ≡ Some y → n < length xs
    in_table [] n y e = cc
    in_table (z ∷ xs) zero y e = omega arith
    in_table (z ∷ xs) (suc n) y e = let rest = in_table xs n y e in omega (arith, rest)

    number_again : (k : Kind) (w : LitWord) (n : Number) → IsWordOf k w → IsNumber k n → map v w.bits ≡ bits_in (width k) (pattern_of (width k) n.value) → value_under v (Word w) ≡ Some (Num n)
    number_again k w n p q e =
        let pattern = number_from w (width k) (pattern_of (width k) n.value) (pattern_below (width k) n.value) e in
        let kind = p.of_kind ∙ sym q.of_kind in
        let worth : reading w.kind (pattern_under v w) ≡ n.value = (λ i. reading (p.of_kind i) (pattern i)) ∙ read_again k n.value q.in_range in
        λ i. Some (Num (record { kind = kind i; value = worth i }))

    pub stands : (s : Shape) (y : SymValue) (z : Value) → IsLaid s y → Has s z → map v (lits_of y) ≡ value_bits s z → value_under v y ≡ Some z
    stands (shape.Word k) (Word w) (Num n) p h e = number_again k w n p h e
    stands (shape.Word k) (Word w) Null p h e = absurd h
    stands (shape.Word k) (Word w) (At o c) p h e = absurd h
    stands (shape.Word k) (Pointer a b) z p h e = absurd p
    stands (shape.Pointer t u) (Word w) z p h e = absurd p
    stands (shape.Pointer t u) (Pointer a b) (Num n) p h e = absurd h
    stands (shape.Pointer t u) (Pointer a b) Null p h e =
        let cut = append_same (map v a.bits) (bits_in 32 0) (map v b.bits) (bits_in 32 0) (long_map v a.bits ∙ p.0.of_width) (sym (map_append v a.bits b.bits) ∙ e) in
        let first = number_from a 32 0 (omega arith) cut.0 in
        let second = number_from b 32 0 (omega arith) cut.1 in
        λ i. pointer_of (first i) (second i)
    stands (shape.Pointer t u) (Pointer a b) (At o c) p h e =
        let cut = append_same (map v a.bits) (bits_in 32 (suc o)) (map v b.bits) (bits_in 32 c) (long_map v a.bits ∙ p.0.of_width) (sym (map_append v a.bits b.bits) ∙ e) in
        let below = in_table (table joint) o h.0.object h.0.is_there in
        let its = small_at targets _ small (are (o, length h.0.object.cells, h.0.object.constant) (record { object = h.0.object; is_there = h.0.is_there; addressable = h.0.addressable; long = refl; same_constant = refl; free = h.1 })) in
        let within = h.0.in_length in
        let short = its.cells in
        let first = number_from a 32 (suc o) (omega (arith, below, room)) cut.0 in
        let second = number_from b 32 c (omega (arith, within, short)) cut.1 in
        λ i. pointer_of (first i) (second i)

    pub on_its_target : (t : ℕ) (u : Bool) (z : Value) → Has (shape.Pointer t u) z → IsOnTarget targets u (Some z)
    on_its_target t u (Num n) h = absurd h
    on_its_target t u Null h = tt
    on_its_target t u (At o c) h = record {
      cells = length h.0.object.cells;
      constant = h.0.object.constant;
      is_there = are (o, length h.0.object.cells, h.0.object.constant) (record { object = h.0.object; is_there = h.0.is_there; addressable = h.0.addressable; long = refl; same_constant = refl; free = h.1 });
      in_length = h.0.in_length;
      mutable = h.0.mutable;
    }

    pub all_stand : (ss : List Shape) (xs : List SymValue) (zs : List Value) → AreLaid ss xs → Have ss zs → map v (all_lits xs) ≡ values_bits ss zs → (values_under v xs ≡ Some zs) × ArePointersOn v targets ss xs
    all_stand [] [] [] l h e = (refl, tt)
    all_stand [] [] (z ∷ zs) l h e = absurd h
    all_stand [] (y ∷ xs) zs l h e = absurd l
    all_stand (s ∷ ss) [] zs l h e = absurd l
    all_stand (s ∷ ss) (y ∷ xs) [] l h e = absurd h
    all_stand (s ∷ ss) (y ∷ xs) (z ∷ zs) l h e =
        let cut = append_same (map v (lits_of y)) (value_bits s z) (map v (all_lits xs)) (values_bits ss zs) (long_map v (lits_of y) ∙ laid_long s y l.0 ∙ sym (value_long s z)) (sym (map_append v (lits_of y) (all_lits xs)) ∙ e) in
        let one = stands s y z l.0 h.0 cut.0 in
        let rest = all_stand ss xs zs l.1 h.1 cut.1 in
        ((λ i. both_stand (one i) (rest.0 i)), pointers_by s ss y xs z h.0 one rest.1)
      where
        pointers_by : (s : Shape) (ss : List Shape) (y : SymValue) (xs : List SymValue) (z : Value) → Has s z → value_under v y ≡ Some z → ArePointersOn v targets ss xs → ArePointersOn v targets (s ∷ ss) (y ∷ xs)
        pointers_by (shape.Word k) ss y xs z h one rest = rest
        pointers_by (shape.Pointer t u) ss y xs z h one rest = (subst (IsOnTarget targets u) (sym one) (on_its_target t u z h), rest)
