-- Declarations that come next.
use Rattle.std.proofs.Common.{◌≡◌, ℕ, ◌+◌, Bool, true, false, cond, List, [], ◌∷◌, ◌++◌, map, if◌then◌else◌, Option, Some, None, unwrap_or, append_assoc, append-nil, refl, sym, ap, ap₂, ◌∙◌, arith}
use Rattle.std.specs.Str.{bytes_eq}
use Rattle.std.proofs.lemmas.List.{map-append}
use Rattle.std.proofs.lemmas.Slice.Eq.{bytes_eq-Decides}
use Rattle.rvt_tree.specs.declared.programs.Local.{Local}
use Rattle.rvt_tree.specs.declared.programs.Function.{Function}
use Rattle.joint_objects.specs.declared.declarations.Declared.{Declared}
use Rattle.joint_objects.specs.Locals.{Declaration, count_of, declared_after}
use Rattle.joint_objects.specs.Counts.{declared_view, declared_views, locals_declared}

-- ---- counts

count_after : (list : List Declared) (d : Declared) (name : List ℕ) → count_of name (locals_declared (list ++ d ∷ [])) ≡ count_of name (locals_declared list) + (if bytes_eq d.local.now.name name then 1 else 0)
count_after [] d name = omega arith
count_after (x ∷ list) d name = let rest : count_of name (locals_declared (list ++ d ∷ [])) ≡ count_of name (locals_declared list) + (if bytes_eq d.local.now.name name then 1 else 0) = count_after list d name in omega (arith, rest)

pub counted : (list : List Declared) (d : Declared) (name : List ℕ) (old new : Option ℕ) → new ≡ cond (bytes_eq d.local.now.name name) (Some (d.before + 1)) old →
    unwrap_or old 0 ≡ count_of name (locals_declared list) → d.before ≡ count_of d.local.now.name (locals_declared list) → unwrap_or new 0 ≡ count_of name (locals_declared (list ++ d ∷ []))
counted list d name old new is counts before = ap (λ (o : Option ℕ). unwrap_or o 0) is ∙ by (bytes_eq d.local.now.name name) refl ∙ sym (count_after list d name)
  where
    by : (b : Bool) → bytes_eq d.local.now.name name ≡ b → unwrap_or (cond b (Some (d.before + 1)) old) 0 ≡ count_of name (locals_declared list) + (if b then 1 else 0)
    by true e =
        let same : d.local.now.name ≡ name = (bytes_eq-Decides d.local.now.name name).0 e in
        let count : d.before ≡ count_of name (locals_declared list) = before ∙ ap (λ (n : List ℕ). count_of n (locals_declared list)) same in
        omega (arith, count)
    by false e = omega (arith, counts)

-- ---- lists

views_more : (list : List Declared) (d : Declared) → declared_views (list ++ d ∷ []) ≡ declared_views list ++ declared_view d ∷ []
views_more list d = map-append declared_view list (d ∷ [])

locals_more : (list : List Declared) (d : Declared) → locals_declared (list ++ d ∷ []) ≡ locals_declared list ++ d.local.now ∷ []
locals_more list d = map-append (λ (e : Declared). e.local.now) list (d ∷ [])

pub declared_step : (list : List Declared) (d : Declared) (rest : List Local) → d.before ≡ count_of d.local.now.name (locals_declared list) →
    declared_views (list ++ d ∷ []) ++ declared_after (locals_declared (list ++ d ∷ [])) rest ≡ declared_views list ++ declared_after (locals_declared list) (d.local.now ∷ rest)
declared_step list d rest before =
    let view : declared_view d ≡ record { local = d.local.now; before = count_of d.local.now.name (locals_declared list) } = ap (λ (n : ℕ). record { local = d.local.now; before = n }) before in
    ap₂ (λ (views : List Declaration) (locals : List Local). views ++ declared_after locals rest) (views_more list d) (locals_more list d)
    ∙ append_assoc (declared_views list) (declared_view d ∷ []) (declared_after (locals_declared list ++ d.local.now ∷ []) rest)
    ∙ ap (λ (v : Declaration). declared_views list ++ v ∷ declared_after (locals_declared list ++ d.local.now ∷ []) rest) view

after_both : (before first second : List Local) → declared_after before (first ++ second) ≡ declared_after before first ++ declared_after (before ++ first) second
after_both before [] second = ap (λ (b : List Local). declared_after b second) (sym (append-nil before))
after_both before (local ∷ first) second =
    ap (λ (rest : List Declaration). record { local = local; before = count_of local.name before } ∷ rest)
    (after_both (before ++ local ∷ []) first second
    ∙ ap (λ (b : List Local). declared_after (before ++ local ∷ []) first ++ declared_after b second) (append_assoc before (local ∷ []) first))

locals_after : (before locals : List Local) → map (λ (d : Declaration). d.local) (declared_after before locals) ≡ locals
locals_after before [] = refl
locals_after before (local ∷ rest) = ap (λ (xs : List Local). local ∷ xs) (locals_after (before ++ local ∷ []) rest)

locals_of_views : (list : List Declared) → locals_declared list ≡ map (λ (d : Declaration). d.local) (declared_views list)
locals_of_views [] = refl
locals_of_views (d ∷ list) = ap (λ (xs : List Local). d.local.now ∷ xs) (locals_of_views list)

-- the parameters and then the locals
pub both_declared : (first second : List Declared) (params locals : List Local) → declared_views first ≡ declared_after [] params → declared_views second ≡ declared_views first ++ declared_after (locals_declared first) locals →
    declared_views second ≡ declared_after [] (params ++ locals)
both_declared first second params locals one two =
    let known : locals_declared first ≡ params = locals_of_views first ∙ ap (map (λ (d : Declaration). d.local)) one ∙ locals_after [] params in
    two
    ∙ ap₂ (λ (views : List Declaration) (before : List Local). views ++ declared_after before locals) one known
    ∙ sym (after_both [] params locals)
