-- The cells that initializers give, among the values that wait.
use Rattle.std.proofs.Common.{◌≡◌, ℕ, zero, suc, ◌+◌, ◌-◌, List, [], ◌∷◌, ◌++◌, length, length-append, Bool, true, false, if◌then◌else◌, refl, sym, ap, ◌∙◌, arith}
use Rattle.std.proofs.lemmas.List.{length-reverse, reverse-append, reverse-reverse}
use Rattle.std.proofs.Math.Seq.{take-append-add}
use Rattle.std.proofs.Math.Dec.{leb-zero, leb-suc-zero, leb-suc-suc}
use Rattle.std.specs.Prelude.{take, drop, reverse, nat_le}
use Rattle.rvt_num.specs.declared.values.Value.{Value}
use Rattle.rvt_tree.specs.declared.programs.Program.{Program}
use Rattle.rvt_tree.specs.Syntax.{Initializer, initial_value, braces, Initializers, no_initializers, initializer}
use Rattle.c_meaning.specs.Outcomes.{State, Outcome, Done, Returning, Trapped, Cut, Deep, Doing, give, go_on, and_then}
use Rattle.c_meaning.specs.Expressions.{value_of}
use Rattle.c_meaning.specs.Statements.{initial_cells, member_cells}
use Rattle.c_meaning.specs.Runs.{stepping}
use Rattle.c_tasks.specs.Operands.{Operands, with_value, with_values, onto}
use Rattle.c_tasks.specs.Tasks.{Rest, evaluating}
use Rattle.c_tasks.proofs.Sequences.{then_alike, one_part, two_parts}
use Rattle.c_code.specs.Initializers.{least, cells_in, cells_in_members}
use Rattle.c_code.specs.declared.instructions.Instruction.TheVariants as I
use Rattle.code_laws.specs.Effects.{effect, last_values, values_from}
use Rattle.code_laws.proofs.Values.{Gives, alike_where, reversed_on}

-- ---- parts of lists

kept : (size : ℕ) (l others : List Value) → length (take size l) ≡ size → take size (l ++ others) ≡ take size l
kept zero l others h = refl
kept (suc n) [] others h = absurd (let no : ⊥ = omega (arith, h) in no)
kept (suc n) (v ∷ l) others h = ap (λ vs. v ∷ vs) (kept n l others (omega (arith, h)))

drop_none : (n : ℕ) → ◌≡◌ {A = List Value} (drop n []) []
drop_none zero = refl
drop_none (suc n) = refl

behind : (own size : ℕ) (l others : List Value) → length (take size l) ≡ size → take (size - own) (drop own (l ++ others)) ≡ drop own (take size l)
behind zero size l others h = let same : size - 0 ≡ size = omega arith in ap (λ n. take n (l ++ others)) same ∙ kept size l others h
behind (suc own) zero l others h = let none : 0 - suc own ≡ 0 = omega arith in ap (λ n. take n (drop (suc own) (l ++ others))) none
behind (suc own) (suc size) [] others h = absurd (let no : ⊥ = omega (arith, h) in no)
behind (suc own) (suc size) (v ∷ l) others h =
    let same : suc size - suc own ≡ size - own = omega arith in
    ap (λ n. take n (drop own (l ++ others))) same ∙ behind own size l others (omega (arith, h))

behind_at : (at own size : ℕ) (l others : List Value) → length (take size (drop at l)) ≡ size → take (size - own) (drop (at + own) (l ++ others)) ≡ drop own (take size (drop at l))
behind_at zero own size l others h = let same : 0 + own ≡ own = omega arith in ap (λ n. take (size - own) (drop n (l ++ others))) same ∙ behind own size l others h
behind_at (suc at) own zero [] others h =
    let none : 0 - own ≡ 0 = omega arith in ap (λ n. take n (drop (suc at + own) others)) none ∙ sym (drop_none own)
behind_at (suc at) own (suc size) [] others h = absurd (let no : ⊥ = omega (arith, h) in no)
behind_at (suc at) own size (v ∷ l) others h =
    let more : suc at + own ≡ suc (at + own) = omega arith in
    ap (λ n. take (size - own) (drop n ((v ∷ l) ++ others))) more ∙ behind_at at own size l others h

-- ---- the lesser of two numbers

one_more : (b : Bool) (x y : ℕ) → (if b then suc x else suc y) ≡ suc (if b then x else y)
one_more true x y = refl
one_more false x y = refl

least_more : (a b : ℕ) → least (suc a) (suc b) ≡ suc (least a b)
least_more a b = ap (λ t. if t then suc a else suc b) (leb-suc-suc a b) ∙ one_more (nat_le a b) a b

least_zero : (size : ℕ) → least 0 size ≡ 0
least_zero size = ap (λ t. if t then 0 else size) (leb-zero size)

least_none : (a : ℕ) → least (suc a) 0 ≡ 0
least_none a = ap (λ t. if t then suc a else 0) (leb-suc-zero a)

least_taken : (own size : ℕ) (l : List Value) → take (least own size) l ≡ take own (take size l)
least_taken zero size l = ap (λ n. take n l) (least_zero size)
least_taken (suc a) zero l = ap (λ n. take n l) (least_none a)
least_taken (suc a) (suc b) [] = ap (λ n. take n []) (least_more a b)
least_taken (suc a) (suc b) (v ∷ l) = ap (λ n. take n (v ∷ l)) (least_more a b) ∙ ap (λ vs. v ∷ vs) (least_taken a b l)

taken_length : (own size : ℕ) (l : List Value) → length l ≡ size → length (take own l) ≡ least own size
taken_length zero size l h = sym (least_zero size)
taken_length (suc a) zero [] h = sym (least_none a)
taken_length (suc a) (suc b) [] h = absurd (let no : ⊥ = omega (arith, h) in no)
taken_length (suc a) zero (v ∷ l) h = absurd (let no : ⊥ = omega (arith, h) in no)
taken_length (suc a) (suc b) (v ∷ l) h = ap suc (taken_length a b l (omega (arith, h))) ∙ sym (least_more a b)

dropped_length : (own size : ℕ) (l : List Value) → length l ≡ size → length (drop own l) ≡ size - own
dropped_length zero size l h = omega (arith, h)
dropped_length (suc own) size [] h = omega (arith, h)
dropped_length (suc own) size (v ∷ l) h = let rest = dropped_length own (size - 1) l (omega (arith, h)) in omega (arith, h, rest)

-- ---- values on top

onto_append : (first others below : List Value) → onto (first ++ others) below ≡ onto others (onto first below)
onto_append [] others below = refl
onto_append (v ∷ first) others below = onto_append first others (v ∷ below)

more_values : (vs : List Value) (slot n : ℕ) (on : Operands) → length vs ≡ n → last_values (slot + n) (with_values vs on) ≡ last_values slot on ++ vs
more_values vs slot n on e =
    let many : slot + n ≡ length (reverse vs) + slot = omega (arith, e, length-reverse vs) in
    ap (λ m. reverse (take m (onto vs on.values))) many
    ∙ ap (λ l. reverse (take (length (reverse vs) + slot) l)) (reversed_on vs on.values)
    ∙ ap reverse (take-append-add (reverse vs) on.values slot)
    ∙ reverse-append (reverse vs) (take slot on.values)
    ∙ ap (λ l. reverse (take slot on.values) ++ l) (reverse-reverse vs)

-- the values behind some of those from a place on, where others have come
after_some : (first : List Value) (at own size slot n at' slot' : ℕ) (on : Operands) → length first ≡ n → at' ≡ at + own → slot' ≡ slot + n → length (values_from slot at size on) ≡ size →
    values_from slot' at' (size - own) (with_values first on) ≡ drop own (values_from slot at size on)
after_some first at own size slot n at' slot' on number there on_top h =
    ap (λ m. take (size - own) (drop m (last_values slot' (with_values first on)))) there
    ∙ ap (λ m. take (size - own) (drop (at + own) (last_values m (with_values first on)))) on_top
    ∙ ap (λ l. take (size - own) (drop (at + own) l)) (more_values first slot n on number)
    ∙ behind_at at own size (last_values slot on) first h

-- ---- how many cells there are

gives_then : {A B : Type 0} (P : A → Type 0) (Q : B → Type 0) (o : Outcome ℕ A) (f : A → Doing ℕ B) → Gives P o → ((a : A) (s : State ℕ) → P a → Gives Q (f a s)) → Gives Q (go_on f o)
gives_then P Q (Done a s) f p h = h a s p
gives_then P Q (Returning n store x) f p h = tt
gives_then P Q (Trapped why x) f p h = tt
gives_then P Q Cut f p h = tt
gives_then P Q Deep f p h = tt

gives_any : {A : Type 0} (o : Outcome ℕ A) → Gives (λ a. Unit {0}) o
gives_any (Done a s) = tt
gives_any (Returning n store x) = tt
gives_any (Trapped why x) = tt
gives_any Cut = tt
gives_any Deep = tt

module _ (program : Program) (d : ℕ) where
  -- what the code of an initializer does
  abbrev pub padding : ℕ → ℕ → ℕ → Rest → Rest
  padding at zero slot next = next
  padding at (suc n) slot next = effect program d (I.Pad at (suc n) slot) next

  abbrev mutual
    pub filled : Initializer → ℕ → ℕ → ℕ → Rest → Rest
    filled (initial_value e) at size slot next = evaluating program d e (padding (suc at) (size - 1) (suc slot) next)
    filled (braces members) at size slot next = filled_members members at size slot next

    pub filled_members : Initializers → ℕ → ℕ → ℕ → Rest → Rest
    filled_members no_initializers at size slot next = padding at size slot next
    filled_members (initializer i own rest) at size slot next =
        filled i at (least own size) slot (filled_members rest (at + own) (size - own) (slot + cells_in i (least own size)) next)

  mutual
    pub cells_many : (init : Initializer) (size : ℕ) (zeros : List Value) → length zeros ≡ size → (s : State ℕ) → Gives (λ cells. length cells ≡ cells_in init size) (initial_cells program (stepping program d) init zeros s)
    cells_many (initial_value e) size zeros h s =
        gives_then (λ v. Unit {0}) (λ cells. length cells ≡ suc (size - 1)) (value_of program (stepping program d) e s) (λ v. give (v ∷ drop 1 zeros)) (gives_any (value_of program (stepping program d) e s))
        (λ v t p. ap suc (dropped_length 1 size zeros h))
    cells_many (braces members) size zeros h s = members_many members size zeros h s

    members_many : (members : Initializers) (size : ℕ) (zeros : List Value) → length zeros ≡ size → (s : State ℕ) → Gives (λ cells. length cells ≡ cells_in_members members size) (member_cells program (stepping program d) members zeros s)
    members_many no_initializers size zeros h s = h
    members_many (initializer i own rest) size zeros h s =
        gives_then (λ cells. length cells ≡ cells_in i (least own size)) (λ cells. length cells ≡ cells_in i (least own size) + cells_in_members rest (size - own)) (initial_cells program (stepping program d) i (take own zeros) s) _
        (cells_many i (least own size) (take own zeros) (taken_length own size zeros h) s)
        (λ first t p. gives_then (λ cells. length cells ≡ cells_in_members rest (size - own)) (λ cells. length cells ≡ cells_in i (least own size) + cells_in_members rest (size - own)) (member_cells program (stepping program d) rest (drop own zeros) t) _
        (members_many rest (size - own) (drop own zeros) (dropped_length own size zeros h) t)
        (λ others u q. omega (arith, p, q, length-append first others)))

  padded : (at n slot : ℕ) (next : Rest) (on : Operands) (s : State ℕ) → padding at n slot next on s ≡ next (with_values (values_from slot at n on) on) s
  padded at zero slot next on s = refl
  padded at (suc n) slot next on s = refl

  -- that is what the initializer means, where these zeros wait
  mutual
    pub fills : (init : Initializer) (at size slot : ℕ) (next : Rest) (on : Operands) (s : State ℕ) → length (values_from slot at size on) ≡ size →
        filled init at size slot next on s ≡ and_then (initial_cells program (stepping program d) init (values_from slot at size on)) (λ cells. next (with_values cells on)) s
    fills (initial_value e) at size slot next on s h =
        let one : suc slot ≡ slot + 1 = omega arith in
        let second : suc at ≡ at + 1 = omega arith in
        then_alike (value_of program (stepping program d) e s) _ _ (λ v t.
        padded (suc at) (size - 1) (suc slot) next (with_value v on) t
        ∙ ap (λ vs. next (with_values vs (with_value v on)) t) (after_some (v ∷ []) at 1 size slot 1 (suc at) (suc slot) on refl second one h))
        ∙ one_part (value_of program (stepping program d) e) (λ v. give (v ∷ drop 1 (values_from slot at size on))) (λ cells. next (with_values cells on)) s
    fills (braces members) at size slot next on s h = members_fill members at size slot next on s h

    members_fill : (members : Initializers) (at size slot : ℕ) (next : Rest) (on : Operands) (s : State ℕ) → length (values_from slot at size on) ≡ size →
        filled_members members at size slot next on s ≡ and_then (member_cells program (stepping program d) members (values_from slot at size on)) (λ cells. next (with_values cells on)) s
    members_fill no_initializers at size slot next on s h = padded at size slot next on s
    members_fill (initializer i own rest) at size slot next on s h =
        let zeros = values_from slot at size on in
        let n = cells_in i (least own size) in
        let taken : values_from slot at (least own size) on ≡ take own zeros = least_taken own size (drop at (last_values slot on)) in
        let number : length (take own zeros) ≡ least own size = taken_length own size zeros h in
        fills i at (least own size) slot (filled_members rest (at + own) (size - own) (slot + n) next) on s (ap length taken ∙ number)
        ∙ ap (λ zs. and_then (initial_cells program (stepping program d) i zs) (λ cells. filled_members rest (at + own) (size - own) (slot + n) next (with_values cells on)) s) taken
        ∙ alike_where (λ cells. length cells ≡ n) (initial_cells program (stepping program d) i (take own zeros) s) _ _ (cells_many i (least own size) (take own zeros) number s) (λ first t many.
        let later : values_from (slot + n) (at + own) (size - own) (with_values first on) ≡ drop own zeros = after_some first at own size slot n (at + own) (slot + n) on many refl refl h in
        members_fill rest (at + own) (size - own) (slot + n) next (with_values first on) t (ap length later ∙ dropped_length own size zeros h)
        ∙ ap (λ zs. and_then (member_cells program (stepping program d) rest zs) (λ others. next (with_values others (with_values first on))) t) later
        ∙ then_alike (member_cells program (stepping program d) rest (drop own zeros) t) _ _ (λ others u.
        ap (λ vs. next (record { values = vs; places = on.places; manner = on.manner; zeros = on.zeros }) u) (sym (onto_append first others on.values))))
        ∙ two_parts (initial_cells program (stepping program d) i (take own zeros)) (member_cells program (stepping program d) rest (drop own zeros)) (λ first others. give (first ++ others)) (λ cells. next (with_values cells on)) s
