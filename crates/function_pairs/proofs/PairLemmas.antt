-- A function is the partner of its partner.
use Rattle.std.proofs.Common.{◌≡◌, ℕ, zero, suc, ◌+◌, ◌&&◌, ◌⊎◌, if◌then◌else◌, nat_eq, cond, Bool, true, false, List, [], ◌∷◌, slice_get, Option, Some, None, ap, ap₂, refl, sym, subst, ◌∙◌, arith}
use Rattle.std.specs.List.{position_from}
use Rattle.std.specs.Option.{is_some}
use Rattle.std.specs.Str.{bytes_eq}
use Rattle.std.proofs.lemmas.Bool.Decides.{Decides-eqb}
use Rattle.std.proofs.lemmas.Option.{slice_get_within}
use Rattle.std.proofs.lemmas.Slice.Eq.{bytes_eq-Decides}
use Rattle.rvt_tree.specs.declared.programs.Function.{Function}
use Rattle.rvt_tree.specs.Same.{ArePaired}
use Rattle.function_pairs.specs.Defined.{defines, defined_number}
use Rattle.function_pairs.specs.Counterparts.{new_name, old_name}
use Rattle.function_pairs.specs.FunctionPairs.{is_number, partner_of, partners_from}
use Rattle.function_pairs.specs.Laws.{PairsTurn, PairsStand, PairsAreNamed, AreListed, HaveOneFreeName}
use Rattle.function_pairs.proofs.NamedPairs.{names_of_pair}

-- ---- the element at a position

record Found {X : Type 0} (p : X → Bool) (xs : List X) (i n : ℕ) : Type 0 where
  place : ℕ
  element : X
  number : n ≡ i + place
  is_there : slice_get xs place ≡ Some element
  passes : p element ≡ true

found_or : {X : Type 0} (p : X → Bool) (x : X) (xs : List X) (i n : ℕ) (b : Bool) → p x ≡ b → (position_from p (i + 1) xs ≡ Some n → Found p xs (i + 1) n) →
    cond b (Some i) (position_from p (i + 1) xs) ≡ Some n → Found p (x ∷ xs) i n
found_or p x xs i n true e later h =
    let same : Some i ≡ Some n = h in
    let equal : i ≡ n = cc in
    let number : n ≡ i + 0 = omega (arith, equal) in
    record { place = 0; element = x; number = number; is_there = refl; passes = e }
found_or {X} p x xs i n false e later h =
    let there : Found p xs (i + 1) n = later h in
    let number : n ≡ i + suc there.place = let known : n ≡ i + 1 + there.place = there.number in omega (arith, known) in
    record { place = suc there.place; element = there.element; number = number; is_there = there.is_there; passes = there.passes }

found : {X : Type 0} (p : X → Bool) (xs : List X) (i n : ℕ) → position_from p i xs ≡ Some n → Found p xs i n
found p [] i n h = absurd (let no : None ≡ Some n = h in cc)
found p (x ∷ xs) i n h = found_or p x xs i n (p x) refl (found p xs (i + 1) n) h

left_true : (a b : Bool) → a && b ≡ true → a ≡ true
left_true true b h = refl
left_true false b h = absurd (let no : false ≡ true = h in cc)

both_true : (a b : Bool) → a && b ≡ true → b ≡ true
both_true true b h = h
both_true false b h = absurd (let no : false ≡ true = h in cc)

-- the function that has a number
record Numbered (functions : List Function) (name : List ℕ) (number : ℕ) : Type 0 where
  function : Function
  is_there : slice_get functions number ≡ Some function
  its_name : function.name ≡ name
  has_body : is_some function.body ≡ true

numbered : (functions : List Function) (name : List ℕ) (n : ℕ) → defined_number functions name ≡ Some n → Numbered functions name n
numbered functions name n h =
    let there : Found (defines name) functions 0 n = found (defines name) functions 0 n h in
    let same : there.place ≡ n = let known : n ≡ 0 + there.place = there.number in omega (arith, known) in
    record {
      function = there.element;
      is_there = subst (λ (k : ℕ). slice_get functions k ≡ Some there.element) same there.is_there;
      its_name = (bytes_eq-Decides there.element.name name).0 (both_true (is_some there.element.body) (bytes_eq there.element.name name) there.passes);
      has_body = left_true (is_some there.element.body) (bytes_eq there.element.name name) there.passes;
    }

-- ---- partners

record Tests (number g : ℕ) (first second : Option ℕ) (b : Bool) : Type 0 where
  is_first : first ≡ Some number
  passes : b ≡ true
  is_second : second ≡ Some g

tests_by : (number g n : ℕ) (second : Option ℕ) (b c : Bool) → nat_eq number n ≡ c → (if c && b then second else None) ≡ Some g → Tests number g (Some n) second b
tests_by number g n second true true e h = record { is_first = ap Some (sym ((Decides-eqb number n).0 e)); passes = refl; is_second = h }
tests_by number g n second false true e h = absurd (let no : None ≡ Some g = h in cc)
tests_by number g n second b false e h = absurd (let no : None ≡ Some g = h in cc)

tests : (number g : ℕ) (first second : Option ℕ) (b : Bool) → (if is_number number first && b then second else None) ≡ Some g → Tests number g first second b
tests number g None second b h = absurd (let no : None ≡ Some g = h in cc)
tests number g (Some n) second b h = tests_by number g n second b (nat_eq number n) refl h

module _ (there back : List ℕ → List ℕ) (own others : List Function) where
  partners_at : (rest : List Function) (start f : ℕ) (function : Function) → slice_get rest f ≡ Some function →
      slice_get (partners_from there back own others start rest) f ≡ Some (partner_of there back own others (start + f) function.name)
  partners_at [] start f function h = absurd (let no : None ≡ Some function = h in cc)
  partners_at (x ∷ rest) start zero function h =
      let same : x ≡ function = (let some : Some x ≡ Some function = h in cc) in
      let number : start ≡ start + 0 = omega arith in
      ap₂ (λ (n : ℕ) (g : Function). Some (partner_of there back own others n g.name)) number same
  partners_at (x ∷ rest) start (suc f) function h =
      let number : start + 1 + f ≡ start + suc f = omega arith in
      partners_at rest (start + 1) f function h ∙ ap (λ (n : ℕ). Some (partner_of there back own others n function.name)) number

  function_at : (rest : List Function) (start f : ℕ) (g : Option ℕ) → slice_get (partners_from there back own others start rest) f ≡ Some g → (function : Function) × (slice_get rest f ≡ Some function)
  function_at [] start f g h = absurd (let no : None ≡ Some g = h in cc)
  function_at (x ∷ rest) start zero g h = (x, refl)
  function_at (x ∷ rest) start (suc f) g h = function_at rest (start + 1) f g h

  record IsPartner (f g : ℕ) : Type 0 where
    function : Function
    is_there : slice_get own f ≡ Some function
    is_first : defined_number own function.name ≡ Some f
    turns : back (there function.name) ≡ function.name
    is_second : defined_number others (there function.name) ≡ Some g

  is_partner : (f g : ℕ) → ArePaired (partners_from there back own others 0 own) f g → IsPartner f g
  is_partner f g h = by (function_at own 0 f (Some g) h)
    where
      by : (function : Function) × (slice_get own f ≡ Some function) → IsPartner f g
      by (function, here) =
          let start : 0 + f ≡ f = omega arith in
          let some : Some (partner_of there back own others f function.name) ≡ Some (Some g) =
          sym (ap (λ (n : ℕ). Some (partner_of there back own others n function.name)) start) ∙ sym (partners_at own 0 f function here) ∙ h in
          let inside : partner_of there back own others f function.name ≡ Some g = cc in
          let told : Tests f g (defined_number own function.name) (defined_number others (there function.name)) (bytes_eq (back (there function.name)) function.name) =
          tests f g (defined_number own function.name) (defined_number others (there function.name)) (bytes_eq (back (there function.name)) function.name) inside in
          record {
            function = function;
            is_there = here;
            is_first = told.is_first;
            turns = (bytes_eq-Decides (back (there function.name)) function.name).0 told.passes;
            is_second = told.is_second;
          }

-- what makes a partner
partner_made : (there back : List ℕ → List ℕ) (own others : List Function) (f g : ℕ) (name : List ℕ) →
    defined_number own name ≡ Some f → back (there name) ≡ name → defined_number others (there name) ≡ Some g → partner_of there back own others f name ≡ Some g
partner_made there back own others f g name first turns second =
    ap (λ (number : Option ℕ). if is_number f number && bytes_eq (back (there name)) name then defined_number others (there name) else None) first
    ∙ ap (λ (b : Bool). if b && bytes_eq (back (there name)) name then defined_number others (there name) else None) ((Decides-eqb f f).1 refl)
    ∙ ap (λ (b : Bool). if b then defined_number others (there name) else None) ((bytes_eq-Decides (back (there name)) name).1 turns)
    ∙ second

turned : (there back : List ℕ → List ℕ) (own others : List Function) (f g : ℕ) → ArePaired (partners_from there back own others 0 own) f g → ArePaired (partners_from back there others own 0 others) g f
turned there back own others f g h =
    let it : IsPartner there back own others f g = is_partner there back own others f g h in
    let other : Numbered others (there it.function.name) g = numbered others (there it.function.name) g it.is_second in
    let start : 0 + g ≡ g = omega arith in
    let first : defined_number others other.function.name ≡ Some g = ap (defined_number others) other.its_name ∙ it.is_second in
    let name : back other.function.name ≡ it.function.name = ap back other.its_name ∙ it.turns in
    let turns : there (back other.function.name) ≡ other.function.name = ap there name ∙ sym other.its_name in
    let second : defined_number own (back other.function.name) ≡ Some f = ap (defined_number own) name ∙ it.is_first in
    partners_at back there others own others 0 g other.function other.is_there
    ∙ ap (λ (n : ℕ). Some (partner_of back there others own n other.function.name)) start
    ∙ ap Some (partner_made back there others own g f other.function.name first turns second)

pub pairs_turn : PairsTurn
pairs_turn lines old new f g = (turned (new_name lines) (old_name lines) old new f g, turned (old_name lines) (new_name lines) new old g f)

pub pairs_stand : PairsStand
pairs_stand lines old new f g h =
    let it : IsPartner (new_name lines) (old_name lines) old new f g = is_partner (new_name lines) (old_name lines) old new f g h in
    let other : Numbered new (new_name lines it.function.name) g = numbered new (new_name lines it.function.name) g it.is_second in
    (slice_get_within old f it.function it.is_there, slice_get_within new g other.function other.is_there)

pub pairs_are_named : PairsAreNamed
pairs_are_named lines old new f g h =
    let it : IsPartner (new_name lines) (old_name lines) old new f g = is_partner (new_name lines) (old_name lines) old new f g h in
    let own : Numbered old it.function.name f = numbered old it.function.name f it.is_first in
    let other : Numbered new (new_name lines it.function.name) g = numbered new (new_name lines it.function.name) g it.is_second in
    let same : own.function ≡ it.function = (let some : Some own.function ≡ Some it.function = sym own.is_there ∙ it.is_there in cc) in
    record {
      function = it.function;
      partner = other.function;
      in_old = it.is_there;
      in_new = other.is_there;
      old_body = subst (λ (f : Function). is_some f.body ≡ true) same own.has_body;
      new_body = other.has_body;
      names = subst (λ (b : List ℕ). AreListed lines it.function.name b ⊎ HaveOneFreeName lines it.function.name b) (sym other.its_name) (names_of_pair lines it.function.name it.turns);
    }
