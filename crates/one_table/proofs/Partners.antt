-- What the candidates of two files pair.
use Rattle.std.proofs.Common.{◌≡◌, ℕ, zero, suc, ◌+◌, ◌≤◌, List, [], ◌∷◌, ◌++◌, length, Bool, true, false, cond, nat_eq, if◌then◌else◌, slice_get, Option, Some, None, option_and_then, ◌⊎◌, inl, inr, ⊎_elim, refl, sym, ap, ◌∙◌, subst, arith}
use Rattle.std.specs.List.{position_from}
use Rattle.std.specs.Str.{bytes_eq}
use Rattle.std.proofs.lemmas.Bool.Decides.{eqb_tells}
use Rattle.std.proofs.lemmas.Slice.Eq.{bytes_eq-Decides}
use Rattle.rvt_tree.specs.declared.programs.Program.{Program}
use Rattle.rvt_tree.specs.declared.programs.Function.{Function}
use Rattle.rvt_tree.specs.Same.{ArePaired}
use Rattle.one_table.specs.Names.{function_number}
use Rattle.one_table.specs.Candidates.{is_number, partner_of, partners_from, by_number, candidates_of}
use Rattle.one_table.specs.Twins.{HaveOneName}
use Rattle.one_table.proofs.Plans.{PairsItself}

-- ---- by number

last_or_before : (list : List (Option ℕ)) (n a b : ℕ) → ArePaired (list ++ Some n ∷ []) a b → ArePaired list a b ⊎ ((a ≡ length list) × (n ≡ b))
last_or_before [] n zero b h = let same : Some (Some n) ≡ Some (Some b) = h in inr (refl, cc)
last_or_before [] n (suc a) b h = absurd (let no : None ≡ Some (Some b) = h in cc)
last_or_before (x ∷ list) n zero b h = inl h
last_or_before (x ∷ list) n (suc a) b h = moved (last_or_before list n a b h)
  where
    moved : ArePaired list a b ⊎ ((a ≡ length list) × (n ≡ b)) → ArePaired (x ∷ list) (suc a) b ⊎ ((suc a ≡ suc (length list)) × (n ≡ b))
    moved (inl before) = inl before
    moved (inr last) = inr (ap suc last.0, last.1)

one_more : (list : List (Option ℕ)) (n : ℕ) → length (list ++ Some n ∷ []) ≡ suc (length list)
one_more [] n = refl
one_more (x ∷ list) n = ap suc (one_more list n)

pub count_by_number : (count : ℕ) → length (by_number count) ≡ count
count_by_number zero = refl
count_by_number (suc n) = one_more (by_number n) n ∙ ap suc (count_by_number n)

pub pairs_itself : (count : ℕ) → PairsItself (by_number count)
pairs_itself zero a b h = absurd (let no : None ≡ Some (Some b) = h in cc)
pairs_itself (suc n) a b h =
    ⊎_elim (λ before. pairs_itself n a b before) (λ (last : (a ≡ length (by_number n)) × (n ≡ b)). last.0 ∙ count_by_number n ∙ last.1) (last_or_before (by_number n) n a b h)

-- ---- by name

-- both tests: the first number is this one, and the second is that
partner_is : (number g : ℕ) (first second : Option ℕ) → (if is_number number first then second else None) ≡ Some g → (first ≡ Some number) × (second ≡ Some g)
partner_is number g None second h = absurd (let no : None ≡ Some g = h in cc)
partner_is number g (Some n) second h = either (eqb_tells number n)
  where
    either : ((nat_eq number n ≡ true) × (number ≡ n)) ⊎ ((nat_eq number n ≡ false) × (number ≡ n → ⊥)) → (Some n ≡ Some number) × (second ≡ Some g)
    either (inl same) = (ap Some (sym same.1), sym (ap (λ b. if b then second else None) same.0) ∙ h)
    either (inr other) = absurd (let no : None ≡ Some g = sym (ap (λ b. if b then second else None) other.0) ∙ h in cc)

-- the function under this number, whose name both files number so
pub record IsPartner (old new rest : List Function) (f number g : ℕ) : Type 0 where
  pub function : Function
  pub here : slice_get rest f ≡ Some function
  pub first : function_number old function.name ≡ Some number
  pub second : function_number new function.name ≡ Some g

module _ (old new : List Function) where
  partner_named : (rest : List Function) (start f g : ℕ) → ArePaired (partners_from old new start rest) f g → IsPartner old new rest f (start + f) g
  partner_named [] start f g h = absurd (let no : None ≡ Some (Some g) = h in cc)
  partner_named (x ∷ rest) start zero g h =
      let some : ◌≡◌ {A = Option (Option ℕ)} (Some (partner_of old new start x.name)) (Some (Some g)) = h in
      let inside : partner_of old new start x.name ≡ Some g = cc in
      let both = partner_is start g (function_number old x.name) (function_number new x.name) inside in
      let same : start ≡ start + 0 = omega arith in
      record { function = x; here = refl; first = both.0 ∙ ap Some same; second = both.1 }
  partner_named (x ∷ rest) start (suc f) g h =
      let next : start + 1 + f ≡ start + suc f = omega arith in
      let there : IsPartner old new rest f (start + 1 + f) g = partner_named rest (start + 1) f g h in
      record { function = there.function; here = there.here; first = there.first ∙ ap Some next; second = there.second }

  pub named_partner : (f g : ℕ) → ArePaired (partners_from old new 0 old) f g → IsPartner old new old f f g
  named_partner f g h =
      let start : 0 + f ≡ f = omega arith in
      subst (λ n. IsPartner old new old f n g) start (partner_named old 0 f g h)

-- ---- one to one

module _ (p : Function → Bool) where
  -- here, or later
  from_here : (b : Bool) (later : Option ℕ) (start n : ℕ) → (later ≡ Some n → start + 1 ≤ n) → cond b (Some start) later ≡ Some n → start ≤ n
  from_here true later start n le h = let same : Some start ≡ Some n = h in let equal : start ≡ n = cc in omega (arith, equal)
  from_here false later start n le h = let less : start + 1 ≤ n = le h in omega (arith, less)

  beyond : (functions : List Function) (start n : ℕ) → position_from p start functions ≡ Some n → start ≤ n
  beyond [] start n h = absurd (let no : None ≡ Some n = h in cc)
  beyond (x ∷ functions) start n h = from_here (p x) (position_from p (start + 1) functions) start n (beyond functions (start + 1) n) h

abbrev named_from : ℕ → List Function → List ℕ → Option ℕ
named_from start functions name = position_from (λ (f : Function). bytes_eq f.name name) start functions

not_beyond : (functions : List Function) (start n : ℕ) (name : List ℕ) → named_from (start + 1) functions name ≡ Some n → Some start ≡ Some n → ⊥
not_beyond functions start n name h e =
    let later : start + 1 ≤ n = beyond (λ (f : Function). bytes_eq f.name name) functions (start + 1) n h in
    let same : start ≡ n = cc in
    let no : ⊥ = omega (arith, later, same) in
    no

-- two names that the function in front has, or that both have their number further on
names_at : (x : Function) (functions : List Function) (start n : ℕ) (a b : List ℕ) (c d : Bool) → bytes_eq x.name a ≡ c → bytes_eq x.name b ≡ d →
    (named_from (start + 1) functions a ≡ Some n → named_from (start + 1) functions b ≡ Some n → a ≡ b) →
    cond c (Some start) (named_from (start + 1) functions a) ≡ Some n → cond d (Some start) (named_from (start + 1) functions b) ≡ Some n → a ≡ b
names_at x functions start n a b true true e f later h k = sym ((bytes_eq-Decides x.name a).0 e) ∙ (bytes_eq-Decides x.name b).0 f
names_at x functions start n a b true false e f later h k = absurd (not_beyond functions start n b k h)
names_at x functions start n a b false true e f later h k = absurd (not_beyond functions start n a h k)
names_at x functions start n a b false false e f later h k = later h k

pub one_name : (functions : List Function) (start n : ℕ) (a b : List ℕ) → named_from start functions a ≡ Some n → named_from start functions b ≡ Some n → a ≡ b
one_name [] start n a b h k = absurd (let no : None ≡ Some n = h in cc)
one_name (x ∷ functions) start n a b h k =
    names_at x functions start n a b (bytes_eq x.name a) (bytes_eq x.name b) refl refl (one_name functions (start + 1) n a b) h k

-- no two functions have one partner
pub one_to_one : (old new : List Function) (f f' g : ℕ) → ArePaired (partners_from old new 0 old) f g → ArePaired (partners_from old new 0 old) f' g → f ≡ f'
one_to_one old new f f' g h k =
    let here : IsPartner old new old f f g = named_partner old new f g h in
    let there : IsPartner old new old f' f' g = named_partner old new f' g k in
    let name : here.function.name ≡ there.function.name = one_name new 0 g here.function.name there.function.name here.second there.second in
    let same : Some f ≡ Some f' = sym here.first ∙ ap (function_number old) name ∙ there.first in
    cc

pub have_one_name : (old new : Program) (f g : ℕ) → ArePaired (candidates_of old new).functions f g → HaveOneName old new f g
have_one_name old new f g h =
    let here : IsPartner old.functions new.functions old.functions f f g = named_partner old.functions new.functions f g h in
    ap (option_and_then (λ (function : Function). function_number new.functions function.name)) here.here ∙ here.second
