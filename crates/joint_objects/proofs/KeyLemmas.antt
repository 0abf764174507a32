-- Tables by keys have the numbers of the things that the keys name.
use Rattle.std.proofs.Common.{◌≡◌, ℕ, zero, suc, ◌+◌, Bool, true, false, ◌&&◌, is_none, List, [], ◌∷◌, map, drop, slice_get, nat_eq, if◌then◌else◌, Option, Some, None, option_map, Result, Ok, Err, IfOk, refl, sym, ap, ap₂, ◌∙◌, arith}
use Rattle.std.specs.List.{position_from}
use Rattle.std.specs.Str.{bytes_eq}
use Rattle.indexmap.specs.IndexMap.{IndexMap}
use Rattle.rvt_tree.specs.declared.programs.StructDef.{StructDef}
use Rattle.rvt_tree.specs.declared.programs.Object.{Object}
use Rattle.c_types.specs.Layout.{both_or_neither}
use Rattle.joint_objects.specs.declared.keys.Key.{Key}
use Rattle.joint_objects.specs.Indexes.{is_key, key_view, keys_view, numbered_as, AreNumbers}
use Rattle.joint_objects.specs.StructTypes.{have_one_name, struct_key, struct_keys}
use Rattle.joint_objects.specs.Globals.{is_global_of, key_unless_owned, global_key, global_keys}
use Rattle.joint_objects.specs.Names.{our_keys, their_keys}
use Rattle.joint_objects.specs.Locals.{Declaration, is_same_declaration}
use Rattle.joint_objects.specs.Counts.{declaration_key, declaration_keys}
use Rattle.joint_objects.proofs.SoughtLemmas.{position_alike}

flags_alike : (a b : Bool) → nat_eq (if a then 1 else 0) (if b then 1 else 0) ≡ both_or_neither a b
flags_alike true true = refl
flags_alike true false = refl
flags_alike false true = refl
flags_alike false false = refl

and_true : (b : Bool) → (b && true) ≡ b
and_true true = refl
and_true false = refl

-- the things that keys name are numbered as a test of them says
numbered : {S X : Type 0} (table : IndexMap Key ℕ S) (keys : List (Option Key)) (key_of : X → Option (List ℕ × ℕ)) (things : List X) → AreNumbers table (keys_view keys) → keys_view keys ≡ map key_of things →
    (wanted : List ℕ × ℕ) (test : X → Bool) → ((x : X) → is_key wanted (key_of x) ≡ test x) → numbered_as wanted table ≡ position_from test 0 things
numbered table keys key_of things are is wanted test same =
    are wanted ∙ ap (λ (ks : List (Option (List ℕ × ℕ))). position_from (is_key wanted) 0 ks) is ∙ position_alike key_of (is_key wanted) test same 0 things

pub structs_numbered : {S : Type 0} (table : IndexMap Key ℕ S) (keys : List (Option Key)) (structs : List StructDef) → AreNumbers table (keys_view keys) → keys_view keys ≡ struct_keys structs →
    (s : StructDef) → numbered_as (struct_key s) table ≡ position_from (have_one_name s) 0 structs
structs_numbered table keys structs are is s =
    numbered table keys (λ (t : StructDef). Some (struct_key t)) structs are is (struct_key s) (have_one_name s)
    (λ (t : StructDef). ap (λ (b : Bool). bytes_eq t.tag s.tag && b) (flags_alike t.tagged s.tagged))

global_alike : (name other : List ℕ) (owner : Option ℕ) → is_key (name, 0) (key_unless_owned owner other) ≡ (is_none owner && bytes_eq other name)
global_alike name other None = and_true (bytes_eq other name)
global_alike name other (Some owner) = refl

pub globals_numbered : {S : Type 0} (table : IndexMap Key ℕ S) (keys : List (Option Key)) (objects : List Object) → AreNumbers table (keys_view keys) → keys_view keys ≡ global_keys objects →
    (name : List ℕ) → numbered_as (name, 0) table ≡ position_from (is_global_of name) 0 objects
globals_numbered table keys objects are is name =
    numbered table keys global_key objects are is (name, 0) (is_global_of name) (λ (o : Object). global_alike name o.name o.owner)

pub ours_numbered : {S : Type 0} (table : IndexMap Key ℕ S) (keys : List (Option Key)) (pairs : List (List ℕ × List ℕ)) → AreNumbers table (keys_view keys) → keys_view keys ≡ our_keys pairs →
    (name : List ℕ) → numbered_as (name, 0) table ≡ position_from (λ names. bytes_eq names.0 name) 0 pairs
ours_numbered table keys pairs are is name =
    numbered table keys (λ (names : List ℕ × List ℕ). Some (names.0, 0)) pairs are is (name, 0) (λ names. bytes_eq names.0 name) (λ (names : List ℕ × List ℕ). and_true (bytes_eq names.0 name))

pub theirs_numbered : {S : Type 0} (table : IndexMap Key ℕ S) (keys : List (Option Key)) (pairs : List (List ℕ × List ℕ)) → AreNumbers table (keys_view keys) → keys_view keys ≡ their_keys pairs →
    (name : List ℕ) → numbered_as (name, 0) table ≡ position_from (λ names. bytes_eq names.1 name) 0 pairs
theirs_numbered table keys pairs are is name =
    numbered table keys (λ (names : List ℕ × List ℕ). Some (names.1, 0)) pairs are is (name, 0) (λ names. bytes_eq names.1 name) (λ (names : List ℕ × List ℕ). and_true (bytes_eq names.1 name))

pub declarations_numbered : {S : Type 0} (table : IndexMap Key ℕ S) (keys : List (Option Key)) (list : List Declaration) → AreNumbers table (keys_view keys) → keys_view keys ≡ declaration_keys list →
    (d : Declaration) → numbered_as (declaration_key d) table ≡ position_from (is_same_declaration d) 0 list
declarations_numbered table keys list are is d =
    numbered table keys (λ (e : Declaration). Some (declaration_key e)) list are is (declaration_key d) (is_same_declaration d) (λ (e : Declaration). refl)

-- what holds of a value, if there is one, from what is known of it
pub on_ok : {T E : Type 0} {P Q : T → Type 0} (r : Result T E) → ((value : T) → P value → Q value) → IfOk r P → IfOk r Q
on_ok (Ok value) to known = to value known
on_ok (Err e) to known = tt

-- ---- one more key in front

drop_at : {X Y : Type 0} (f : X → Y) (xs : List X) (i : ℕ) (x : X) → slice_get xs i ≡ Some x → drop i (map f xs) ≡ f x ∷ drop (suc i) (map f xs)
drop_at f [] i x h = absurd (let no : None ≡ Some x = h in cc)
drop_at f (y ∷ xs) zero x h = let same : y ≡ x = (let e : Some y ≡ Some x = h in cc) in ap (λ z. f z ∷ map f xs) same
drop_at f (y ∷ xs) (suc i) x h = drop_at f xs i x h

pub numbered_before : (keys : List (Option Key)) (i left : ℕ) (k : Option Key) (wanted : List ℕ × ℕ) → left ≡ i + 1 → slice_get keys i ≡ Some k →
    (if is_key wanted (option_map key_view k) then Some i else position_from (is_key wanted) left (drop left (keys_view keys))) ≡ position_from (is_key wanted) i (drop i (keys_view keys))
numbered_before keys i left k wanted e there =
    let next : i + 1 ≡ suc i = omega arith in
    let whole : drop i (keys_view keys) ≡ option_map key_view k ∷ drop (suc i) (keys_view keys) = drop_at (option_map key_view) keys i k there in
    ap (λ (n : ℕ). if is_key wanted (option_map key_view k) then Some i else position_from (is_key wanted) n (drop n (keys_view keys))) e
    ∙ ap (λ (n : ℕ). if is_key wanted (option_map key_view k) then Some i else position_from (is_key wanted) (i + 1) (drop n (keys_view keys))) next
    ∙ sym (ap (λ (xs : List (Option (List ℕ × ℕ))). position_from (is_key wanted) i xs) whole)
