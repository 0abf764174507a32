-- The parameters of a function are what their names stand for behind them.
use Rattle.std.proofs.Common.{◌≡◌, ℕ, List, [], ◌∷◌, ◌++◌, Bool, true, false, ◌||◌, Option, Some, None, refl, ap, sym, ◌∙◌}
use Rattle.std.specs.Str.{bytes_eq}
use Rattle.std.proofs.lemmas.Slice.Eq.{bytes_eq-Decides}
use Rattle.c_syntax.specs.Syntax as s
use Rattle.c_syntax.specs.declared.bases.Word.{Word}
use Rattle.expression_typing.specs.Entities.{Binding, Entity, in_scope}
use Rattle.expression_typing.specs.Progress.{Notes, Local}
use Rattle.expression_typing.specs.Outcomes.{Outcome, Made, Broken, Cause, Checking, go_on, and_then, give}
use Rattle.rvt_tree.specs.declared.places.Place.{Place}
use Rattle.file_typing.specs.Blocks.{Block, with_binding, is_declared, unless_declared}
use Rattle.file_typing.specs.DeclaratorTypes.{ValueType}
use Rattle.file_typing.specs.FunctionDeclarators.{parameter_of, with_parameter, type_of_parameter, typed_parameter, typed_list, typed_parameters, unless_repeated}
use Rattle.file_typing.specs.FunctionNotes.{numbered}
use Rattle.file_items.specs.FunctionHeaders.{binding_in, bindings_in, list_of, with_bindings}

abbrev made_or : {A : Type 0} → A → Outcome A → A
made_or a (Made b n) = b
made_or a (Broken cause at) = a

abbrev pub is_made : {A : Type 0} → Outcome A → Bool
is_made (Made a n) = true
is_made (Broken cause at) = false

never : false ≡ true → ⊥
never e = cc

not_made : {A : Type 0} (cause : Cause) (at : Place) (a : A) (n : Notes) → Broken cause at ≡ Made a n → ⊥
not_made cause at a n e = never (ap is_made e)

-- ---- what a name stands for

abbrev pub names_of : Block → List Binding
names_of block = block.here ++ block.around

abbrev pub named : Word → Entity → Binding
named word entity = record { name = word.name; entity = entity }

-- a parameter without a name declares none; one with a name declares it, and it is a new one in the block
abbrev pub Declares : Block → Option Word → Block → Type 0
Declares before None after = after ≡ before
Declares before (Some word) after = (entity : Entity) × (is_declared before.here word.name ≡ false) × (after ≡ with_binding (named word entity) before)

module _ (before after : Block) (local : ValueType → Local) (m : Notes) where
  abbrev then_numbered : Option Word → ValueType → Checking Block
  then_numbered word type = and_then (numbered (local type)) (λ number. give (with_parameter word number (local type) before))

  by_number : (word : Option Word) (type : ValueType) (o : Outcome ℕ)
      → go_on (λ number. give (with_parameter word number (local type) before)) o ≡ Made after m
      → (number : ℕ) × (after ≡ with_parameter word number (local type) before)
  by_number word type (Made number n) e = (number, sym (ap (made_or after) e))
  by_number word type (Broken cause at) e = absurd (not_made cause at after m e)

  of_new : (word : Word) (type : ValueType) (n : Notes) (declared : Bool) → is_declared before.here word.name ≡ declared
      → go_on (λ _. then_numbered (Some word) type) (unless_declared before.here word.name word.place n) ≡ Made after m
      → Declares before (Some word) after
  of_new word type n true is e = absurd (never (ap is_made (rw is at e)))
  of_new word type n false is e =
      let found = by_number (Some word) type (numbered (local type) n) (rw is at e) in
      (_, is, found.1)

  by_name : (word : Option Word) (type : ValueType) (n : Notes)
      → go_on (λ _. then_numbered word type) (unless_repeated before word n) ≡ Made after m → Declares before word after
  by_name None type n e = (by_number None type (numbered (local type) n) e).1
  by_name (Some word) type n e = of_new word type n (is_declared before.here word.name) refl e

  by_type : (word : Option Word) (o : Outcome ValueType)
      → go_on (λ type. and_then (unless_repeated before word) (λ _. then_numbered word type)) o ≡ Made after m → Declares before word after
  by_type word (Made type n) e = by_name word type n e
  by_type word (Broken cause at) e = absurd (not_made cause at after m e)

one_declared : (with_names : Bool) (before after : Block) (p : s.Parameter) (n m : Notes) → typed_parameter with_names before p n ≡ Made after m → Declares before p.word after
one_declared with_names before after p n m e = by_type before after (parameter_of p) m p.word (type_of_parameter with_names before p n) e

-- ---- names stay what they are

same_name : (a b : List ℕ) → bytes_eq a b ≡ true → a ≡ b
same_name a b e = (bytes_eq-Decides a b).0 e

same_self : (a : List ℕ) → bytes_eq a a ≡ true
same_self a = (bytes_eq-Decides a a).1 refl

or_true : (b : Bool) → b || true ≡ true
or_true true = refl
or_true false = refl

-- a name that is declared in the block is no new one
another : (block : Block) (name other : List ℕ) → is_declared block.here name ≡ true → is_declared block.here other ≡ false → (b : Bool) → bytes_eq other name ≡ b → b ≡ false
another block name other is not true e = absurd (never (sym not ∙ ap (is_declared block.here) (same_name other name e) ∙ is))
another block name other is not false e = refl

-- the name stands for the same
abbrev pub Stays : List ℕ → Block → Block → Type 0
Stays name before after = (is_declared after.here name ≡ true) × (in_scope (names_of after) name ≡ in_scope (names_of before) name)

stays_one : (before after : Block) (name : List ℕ) (word : Option Word) → is_declared before.here name ≡ true → Declares before word after → Stays name before after
stays_one before after name None is e = rw e (is, refl)
stays_one before after name (Some word) is (entity, new, e) =
    let other : bytes_eq word.name name ≡ false = another before name word.name is new (bytes_eq word.name name) refl in
    rw (e, other) (is, refl)

abbrev then_rest : Bool → List s.Parameter → Checking Block → Checking Block
then_rest with_names rest first = and_then first (λ block. typed_list with_names block rest)

stays_by : (with_names : Bool) (before after : Block) (name : List ℕ) (p : s.Parameter) (rest : List s.Parameter) (n m : Notes)
    → is_declared before.here name ≡ true
    → ((mid : Block) (k : Notes) → is_declared mid.here name ≡ true → typed_list with_names mid rest k ≡ Made after m → in_scope (names_of after) name ≡ in_scope (names_of mid) name)
    → (o : Outcome Block) → typed_parameter with_names before p n ≡ o → go_on (λ block. typed_list with_names block rest) o ≡ Made after m
    → in_scope (names_of after) name ≡ in_scope (names_of before) name
stays_by with_names before after name p rest n m is later (Made mid k) first e =
    let one = stays_one before mid name p.word is (one_declared with_names before mid p n k first) in
    later mid k one.0 e ∙ one.1
stays_by with_names before after name p rest n m is later (Broken cause at) first e = absurd (not_made cause at after m e)

stays : (with_names : Bool) (before after : Block) (name : List ℕ) (list : List s.Parameter) (n m : Notes)
    → is_declared before.here name ≡ true → typed_list with_names before list n ≡ Made after m → in_scope (names_of after) name ≡ in_scope (names_of before) name
stays with_names before after name [] n m is e = ap (λ b. in_scope (names_of b) name) (sym (ap (made_or after) e))
stays with_names before after name (p ∷ rest) n m is e =
    stays_by with_names before after name p rest n m is (λ mid k here later. stays with_names mid after name rest k m here later) (typed_parameter with_names before p n) refl e

-- ---- the parameters once more

-- what is declared stands for what it was declared as, and so does the rest
found_one : (before mid : Block) (names : List Binding) (word : Option Word) → Declares before word mid
    → ((name : List ℕ) → is_declared mid.here name ≡ true → in_scope names name ≡ in_scope (names_of mid) name)
    → (rest : List Binding) → with_bindings (binding_in names word ++ rest) before ≡ with_bindings rest mid
found_one before mid names None e kept rest = ap (with_bindings rest) (sym e)
found_one before mid names (Some word) (entity, new, e) kept rest =
    let self : bytes_eq word.name word.name ≡ true = same_self word.name in
    let here : is_declared mid.here word.name ≡ true = rw (e, self) refl in
    let found : in_scope (names_of mid) word.name ≡ Some entity = rw (e, self) refl in
    rw (kept word.name here, found) (ap (with_bindings rest) (sym e))

redeclared_by : (with_names : Bool) (before after : Block) (p : s.Parameter) (rest : List s.Parameter) (n m : Notes)
    → ((mid : Block) (k : Notes) → typed_list with_names mid rest k ≡ Made after m → with_bindings (bindings_in (names_of after) rest) mid ≡ after)
    → (o : Outcome Block) → typed_parameter with_names before p n ≡ o → go_on (λ block. typed_list with_names block rest) o ≡ Made after m
    → with_bindings (bindings_in (names_of after) (p ∷ rest)) before ≡ after
redeclared_by with_names before after p rest n m later (Made mid k) first e =
    found_one before mid (names_of after) p.word (one_declared with_names before mid p n k first)
    (λ name is. stays with_names mid after name rest k m is e) (bindings_in (names_of after) rest)
    ∙ later mid k e
redeclared_by with_names before after p rest n m later (Broken cause at) first e = absurd (not_made cause at after m e)

redeclared_list : (with_names : Bool) (before after : Block) (list : List s.Parameter) (n m : Notes)
    → typed_list with_names before list n ≡ Made after m → with_bindings (bindings_in (names_of after) list) before ≡ after
redeclared_list with_names before after [] n m e = ap (made_or after) e
redeclared_list with_names before after (p ∷ rest) n m e =
    redeclared_by with_names before after p rest n m (λ mid k later. redeclared_list with_names mid after rest k m later) (typed_parameter with_names before p n) refl e

-- the block of the parameters, from what their names stand for in it
pub redeclared : (with_names : Bool) (before after : Block) (params : s.Parameters) (n m : Notes)
    → typed_parameters with_names before params n ≡ Made after m → with_bindings (bindings_in (names_of after) (list_of params)) before ≡ after
redeclared with_names before after s.nothing n m e = ap (made_or after) e
redeclared with_names before after s.only_void n m e = ap (made_or after) e
redeclared with_names before after (s.parameters list) n m e = redeclared_list with_names before after list n m e
