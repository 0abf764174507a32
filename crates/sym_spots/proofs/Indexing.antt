-- Where aims are after all indexes, and whether the indexes are in range.
use Rattle.std.proofs.Common.{◌≡◌, ℕ, zero, suc, ◌*◌, ◌&&◌, Bool, true, false, List, [], ◌∷◌, length, Option, Some, None, Result, Ok, Err, refl, sym, ap, ◌∙◌, subst, if◌then◌else◌}
use Rattle.std.specs.Prelude.{map, ℤ, pos, negsuc, slice_get}
use Rattle.std.proofs.lemmas.Bool.{true≢false}
use Rattle.std.proofs.lemmas.Option.{none-some, same_Some}
use Rattle.aig_build.specs.Built.{and_built}
use Rattle.aig_build.specs.Circuits.{Node, constant}
use Rattle.aig_build.specs.declared.lits.Lit.{Lit}
use Rattle.bit_ops.specs.declared.values.SymValue.{SymValue}
use Rattle.bit_ops.specs.declared.values.SymValue.TheVariants.{Word, Pointer}
use Rattle.bit_words.specs.Words.{number_of_bits}
use Rattle.core_ir.specs.Places.{Place, In_object, In_register, register, in_object, in_register, index_of, within, with_index, offset_from}
use Rattle.core_ir.specs.declared.units.Index.{Index}
use Rattle.core_ir.specs.declared.units.Shape.{Shape}
use Rattle.core_ir.specs.declared.units.Shape.TheVariants as shape
use Rattle.rvt_num.specs.Kinds.{width}
use Rattle.rvt_num.specs.Wrapping.{reading}
use Rattle.rvt_num.specs.declared.values.Trap.{Trap}
use Rattle.rvt_num.specs.declared.values.Trap.TheVariants as trap
use Rattle.rvt_num.specs.declared.values.Value.{Value}
use Rattle.rvt_num.specs.declared.values.Value.TheVariants.{Num, Null, At}
use Rattle.sym_spots.proofs.Spreads.{moved_place, Only, spread_is}
use Rattle.sym_spots.proofs.Tests.{natural, AreTests, any_lit, is_below, any_is, word_tests_are}
use Rattle.sym_spots.specs.Aims.{MadeAims, MadeTests, index_tests, spread, indexed}
use Rattle.sym_spots.specs.Spots.{any_true, AreAt}
use Rattle.sym_spots.specs.declared.aims.Aim.{Aim}
use Rattle.sym_values.proofs.Conjunctions.{conjunction}
use Rattle.sym_values.specs.Valuations.{Valuation, IsValuation}
use Rattle.sym_values.specs.Values.{pattern_under, pointer_of, value_under, both_stand, values_under, IsLaid, AreLaid}

-- ---- registers

pub record Parts (first : Option Value) (rest : Option (List Value)) (values : List Value) : Type 0 where
  pub head : Value
  pub tail : List Value
  pub are : head ∷ tail ≡ values
  pub of_head : first ≡ Some head
  pub of_tail : rest ≡ Some tail

pub parts : (a : Option Value) (b : Option (List Value)) (values : List Value) → both_stand a b ≡ Some values → Parts a b values
parts None b values e = absurd (none-some _ e)
parts (Some x) None values e = absurd (none-some _ e)
parts (Some x) (Some xs) values e = record { head = x; tail = xs; are = same_Some _ _ e; of_head = refl; of_tail = refl }

-- a register that isn't there is null
abbrev pub at_register : Valuation → Option SymValue → Option Value
at_register v None = Some Null
at_register v (Some x) = value_under v x

pub register_under : (v : Valuation) (xs : List SymValue) (values : List Value) (r : ℕ) → values_under v xs ≡ Some values → at_register v (slice_get xs r) ≡ Some (register values r)
register_under v [] values r h = subst (λ vs. Some Null ≡ Some (register vs r)) (same_Some _ _ h) refl
register_under v (a ∷ more) values zero h =
    let p = parts (value_under v a) (values_under v more) values h in
    subst (λ vs. value_under v a ≡ Some (register vs zero)) p.are p.of_head
register_under v (a ∷ more) values (suc n) h =
    let p = parts (value_under v a) (values_under v more) values h in
    subst (λ vs. at_register v (slice_get more n) ≡ Some (register vs (suc n))) p.are (register_under v more p.tail n p.of_tail)

-- words have the widths of their kinds
abbrev pub IsWide : SymValue → Type 0
IsWide (Word w) = length w.bits ≡ width w.kind
IsWide (Pointer o c) = Prim.Unit {0}

laid_wide : (s : Shape) (x : SymValue) → IsLaid s x → IsWide x
laid_wide (shape.Word k) (Word w) h = h.of_width ∙ ap width (sym h.of_kind)
laid_wide (shape.Word k) (Pointer o c) h = tt
laid_wide (shape.Pointer t u) (Word w) h = absurd h
laid_wide (shape.Pointer t u) (Pointer o c) h = tt

abbrev pub IsWideAt : Option SymValue → Type 0
IsWideAt None = Prim.Unit {0}
IsWideAt (Some x) = IsWide x

pub wide_at : (shapes : List Shape) (xs : List SymValue) (r : ℕ) → AreLaid shapes xs → IsWideAt (slice_get xs r)
wide_at [] [] r h = tt
wide_at [] (x ∷ xs) r h = absurd h
wide_at (s ∷ ss) [] r h = absurd h
wide_at (s ∷ ss) (x ∷ xs) zero h = laid_wide s x h.0
wide_at (s ∷ ss) (x ∷ xs) (suc n) h = wide_at ss xs n h.1

-- ---- one index

abbrev pub number_in : Value → Option ℕ
number_in (Num n) = natural n.value
number_in _ = None

within_is : (z : ℤ) (count : ℕ) → within z count ≡ (if is_below (natural z) count then natural z else None)
within_is (pos n) count = refl
within_is (negsuc n) count = refl

index_is : (x : Value) (count : ℕ) → index_of x count ≡ (if is_below (number_in x) count then number_in x else None)
index_is (Num n) count = within_is n.value count
index_is Null count = refl
index_is (At o c) count = refl

module _ (v : Valuation) where
  -- the tests of an index are of its number, as many as the count or none
  pub record IndexTests (ns : List Node) (x : Value) (count : ℕ) (m : MadeTests) : Type 0 where
    pub back : IsValuation m.nodes v → IsValuation ns v
    pub are : IsValuation m.nodes v → AreTests v (number_in x) m.lits
    pub any : IsValuation m.nodes v → v m.any ≡ any_lit v m.lits
    pub below : IsValuation m.nodes v → any_lit v m.lits ≡ is_below (number_in x) count

  no_pointer : (o c : ℕ) (x : Value) → pointer_of o c ≡ Some x → number_in x ≡ None
  no_pointer zero zero x e = ap number_in (sym (same_Some _ _ e))
  no_pointer zero (suc c) x e = absurd (none-some _ e)
  no_pointer (suc o) c x e = ap number_in (sym (same_Some _ _ e))

  no_tests : (ns : List Node) (x : Value) (count : ℕ) → number_in x ≡ None → IndexTests ns x count (record { nodes = ns; lits = []; any = constant false })
  no_tests ns x count e = record {
    back = λ h. h;
    are = λ h. subst (λ i. AreTests v i []) (sym e) tt;
    any = λ h. h.of_constant;
    below = λ h. ap (λ i. is_below i count) (sym e);
  }

  tests_by : (ns : List Node) (s : Option SymValue) (x : Value) (count : ℕ) → IsWideAt s → at_register v s ≡ Some x → IndexTests ns x count (index_tests ns s count)
  tests_by ns None x count w e = no_tests ns x count (ap number_in (sym (same_Some _ _ e)))
  tests_by ns (Some (Pointer o c)) x count w e = no_tests ns x count (no_pointer (pattern_under v o) (pattern_under v c) x e)
  tests_by ns (Some (Word a)) x count w e =
      let t = word_tests_are v ns a count w in
      let number : natural (reading a.kind (number_of_bits (map v a.bits))) ≡ number_in x = ap number_in (same_Some _ _ e) in
      record {
        back = t.back;
        are = λ h. subst (λ i. AreTests v i (index_tests ns (Some (Word a)) count).lits) number (t.are h);
        any = t.any;
        below = λ h. any_is v _ _ (t.are h) ∙ (λ j. is_below (number j) (t.long j));
      }

  -- ---- all indexes

  -- the place that indexes add to a place, or the trap
  abbrev pub place_from : List Value → List Index → Place → Result Place Trap
  place_from values is (In_object o c) = in_object o (offset_from values is c)
  place_from values is (In_register r) = in_register (offset_from values is r)

  abbrev stepped : List Value → List Index → ℕ → Option ℕ → Place → Result Place Trap
  stepped values is size None place = Err trap.Index
  stepped values is size (Some n) place = place_from values is (moved_place place (n * size))

  step_is : (values : List Value) (i : Index) (is : List Index) (place : Place) → place_from values (i ∷ is) place ≡ stepped values is i.size (index_of (register values i.register) i.count) place
  step_is values i is (In_object o c) = by (index_of (register values i.register) i.count)
    where
      by : (n : Option ℕ) → in_object o (with_index n i.size c (offset_from values is)) ≡ stepped values is i.size n (In_object o c)
      by None = refl
      by (Some n) = refl
  step_is values i is (In_register r) = by (index_of (register values i.register) i.count)
    where
      by : (n : Option ℕ) → in_register (with_index n i.size r (offset_from values is)) ≡ stepped values is i.size n (In_register r)
      by None = refl
      by (Some n) = refl

  abbrev pub SaysIndexed : Lit → List Aim → Place → MadeAims → Result Place Trap → Type 0
  SaysIndexed any aims from m (Ok place) = (v m.any ≡ v any) × (AreAt v aims from → AreAt v m.aims place)
  SaysIndexed any aims from m (Err t) = (v m.any ≡ false) × (t ≡ trap.Index)

  pub record IsIndexed (ns : List Node) (values : List Value) (any : Lit) (aims : List Aim) (is : List Index) (m : MadeAims) : Type 0 where
    pub back : IsValuation m.nodes v → IsValuation ns v
    pub stays : IsValuation m.nodes v → v any ≡ false → v m.any ≡ false
    pub says : IsValuation m.nodes v → (from : Place) → SaysIndexed any aims from m (place_from values is from)

  none_says : (ns : List Node) (any : Lit) (aims : List Aim) (values : List Value) (from : Place) → SaysIndexed any aims from (record { nodes = ns; aims = aims; any = any }) (place_from values [] from)
  none_says ns any aims values (In_object o c) = (refl, λ a. a)
  none_says ns any aims values (In_register r) = (refl, λ a. a)

  and_true : (a b : Bool) → b ≡ true → (a && b) ≡ a
  and_true a b e = ap (λ x. a && x) e ∙ by a
    where
      by : (a : Bool) → (a && true) ≡ a
      by true = refl
      by false = refl

  and_false : (a b : Bool) → b ≡ false → (a && b) ≡ false
  and_false a b e = ap (λ x. a && x) e ∙ by a
    where
      by : (a : Bool) → (a && false) ≡ false
      by true = refl
      by false = refl

  carry : (any all : Lit) (aims next : List Aim) (from place : Place) (m : MadeAims) (r : Result Place Trap) → v all ≡ v any → (AreAt v aims from → AreAt v next place)
      → SaysIndexed all next place m r → SaysIndexed any aims from m r
  carry any all aims next from place m (Ok p) e f h = (h.0 ∙ e, λ a. h.1 (f a))
  carry any all aims next from place m (Err t) e f h = h

  -- one index, and then the others
  says_step : (b : Bool) (d : Option ℕ) (values : List Value) (is : List Index) (size count : ℕ) (any tests all : Lit) (aims next : List Aim) (hits : Bool) (from : Place) (m : MadeAims)
      → is_below d count ≡ b → v tests ≡ is_below d count → hits ≡ is_below d count → v all ≡ (v any && v tests) → any_true v next ≡ (any_true v aims && hits)
      → ((place : Place) → Only v from aims → ((n : ℕ) → d ≡ Some n → moved_place from (n * size) ≡ place) → Only v place next)
      → (v all ≡ false → v m.any ≡ false) → ((place : Place) → SaysIndexed all next place m (place_from values is place))
      → SaysIndexed any aims from m (stepped values is size (if b then d else None) from)
  says_step false d values is size count any tests all aims next hits from m e inside hit both some only stays says = (stays (both ∙ and_false (v any) (v tests) (inside ∙ e)), refl)
  says_step true None values is size count any tests all aims next hits from m e inside hit both some only stays says = absurd (true≢false (sym e))
  says_step true (Some n) values is size count any tests all aims next hits from m e inside hit both some only stays says =
      let place = moved_place from (n * size) in
      carry any all aims next from place m (place_from values is place) (both ∙ and_true (v any) (v tests) (inside ∙ e))
      (λ at. record {
        some = some ∙ and_true (any_true v aims) hits (hit ∙ e) ∙ at.some;
        only = only place at.only (λ k q. ap (λ j. moved_place from (j * size)) (sym (same_Some n k q)));
      })
      (says place)

  pub indexed_is : (shapes : List Shape) (registers : List SymValue) (values : List Value) (ns : List Node) (aims : List Aim) (any : Lit) (is : List Index) → AreLaid shapes registers → values_under v registers ≡ Some values
      → IsIndexed ns values any aims is (indexed registers ns aims any is)
  unfolding indexed
  indexed_is shapes registers values ns aims any [] l u = record { back = λ h. h; stays = λ h e. e; says = λ h from. none_says ns any aims values from }
  indexed_is shapes registers values ns aims any (i ∷ is) l u =
      let x = register values i.register in
      let T = index_tests ns (slice_get registers i.register) i.count in
      let t = tests_by ns (slice_get registers i.register) x i.count (wide_at shapes registers i.register l) (register_under v registers values i.register u) in
      let A = and_built T.nodes any T.any in
      let a = conjunction v T.nodes any T.any in
      let M = spread i.size T.lits A.nodes [] aims in
      let s = spread_is v A.nodes i.size (number_in x) T.lits [] aims in
      let rest = indexed_is shapes registers values M.nodes M.aims A.lit is l u in
      record {
        back = λ h. t.back (a.back (s.back (rest.back h)));
        stays = λ h e. rest.stays h (a.is (s.back (rest.back h)) ∙ ap (λ b. b && v T.any) e);
        says = λ h from.
            let g = rest.back h in
            let f = s.back g in
            let k = a.back f in
            subst (SaysIndexed any aims from (indexed registers M.nodes M.aims A.lit is)) (sym (step_is values i is from ∙ ap (λ n. stepped values is i.size n from) (index_is x i.count)))
            (says_step (is_below (number_in x) i.count) (number_in x) values is i.size i.count any T.any A.lit aims M.aims (any_lit v T.lits) from (indexed registers M.nodes M.aims A.lit is)
            refl (t.any k ∙ t.below k) (t.below k) (a.is f) (s.some g) (λ place o q. s.only g (t.are k) from place o q tt) (rest.stays h) (rest.says h));
      }
