-- The table of questions finds the first application with a name and a key, and grows at its end.
use Rattle.std.proofs.Common.{◌≡◌, Bool, true, false, ◌&&◌, cond, List, [], ◌∷◌, ◌++◌, Option, Some, None, refl, sym, ap, ◌∙◌}
use Rattle.std.specs.Cmp.Lexicographic.{pointwise}
use Rattle.std.specs.Prelude.{map, ◌==◌}
use Rattle.std.specs.List.{AllByRecursion}
use Rattle.std.specs.Map.{lookup}
use Rattle.aig_build.specs.Built.{same_lit}
use Rattle.aig_build.specs.contracts.lits.LitPartialEq.TheImpl.{eq-value as lit_eq}
use Rattle.aig_build.specs.declared.lits.Lit.{Lit}
use Rattle.core_ir.specs.Tables.{EntryName as Name, same_name}
use Rattle.indexmap.specs.IndexMap.{insert_entry}
use Rattle.uf_abstraction.specs.Applications.{LitAnswer, Application}
use Rattle.uf_abstraction.specs.Applying.{same_lits, is_same, earlier}
use Rattle.uf_abstraction.specs.Names.{meant, application_of, IsAsked}
use Rattle.uf_abstraction.specs.contracts.applications.QuestionPartialEq.TheImpl.{eq-value}
use Rattle.uf_abstraction.specs.declared.applications.Question.{Question}
use Rattle.uf_abstraction.specs.declared.applications.Reply.{Reply}
use Rattle.uf_abstraction.specs.declared.names.EntryName.{EntryName}
use Rattle.uf_abstraction.specs.declared.names.EntryName.TheVariants as name

lit_test : (x y : Lit) → lit_eq.it x y ≡ same_lit x y
lit_test x y = refl

lits_test : (xs ys : List Lit) → pointwise (λ (x : Lit) (y : Lit). lit_eq.it x y) xs ys ≡ same_lits xs ys
lits_test [] [] = refl
lits_test [] (y ∷ ys) = refl
lits_test (x ∷ xs) [] = refl
lits_test (x ∷ xs) (y ∷ ys) = λ i. lit_test x y i && lits_test xs ys i

by_name : (q r : Question) (a b : EntryName) → eq-value.it (record { name = a; lits = q.lits }) (record { name = b; lits = r.lits }) ≡ (same_name (meant a) (meant b) && same_lits q.lits.items r.lits.items)
by_name q r (name.Shared m) (name.Shared n) = ap (λ t. (m == n) && t) (lits_test q.lits.items r.lits.items)
by_name q r (name.Shared m) (name.Old n) = refl
by_name q r (name.Shared m) (name.New n) = refl
by_name q r (name.Old m) (name.Shared n) = refl
by_name q r (name.Old m) (name.Old n) = ap (λ t. (m == n) && t) (lits_test q.lits.items r.lits.items)
by_name q r (name.Old m) (name.New n) = refl
by_name q r (name.New m) (name.Shared n) = refl
by_name q r (name.New m) (name.Old n) = refl
by_name q r (name.New m) (name.New n) = ap (λ t. (m == n) && t) (lits_test q.lits.items r.lits.items)

-- questions are equal where the application of the one has the name and the literals of the other
question_test : (q : Question) (e : Question × Reply) → IsAsked e → eq-value.it q e.0 ≡ is_same (meant q.name) q.lits.items (application_of e)
question_test q e h = by_name q e.0 q.name e.0.name ∙ ap (λ ls. same_name (meant q.name) (meant e.0.name) && same_lits q.lits.items ls) h

abbrev pub answer_in : Option Reply → Option LitAnswer
answer_in None = None
answer_in (Some r) = Some r.answer

in_cond : (t : Bool) (r : Reply) (o : Option Reply) → answer_in (cond t (Some r) o) ≡ cond t (Some r.answer) (answer_in o)
in_cond true r o = refl
in_cond false r o = refl

pub found_first : (q : Question) (es : List (Question × Reply)) → AllByRecursion IsAsked es → answer_in (lookup (eq-value.it q) es) ≡ earlier (meant q.name) q.lits.items (map application_of es)
found_first q [] h = refl
found_first q (e ∷ es) h =
    in_cond (eq-value.it q e.0) e.1 (lookup (eq-value.it q) es)
    ∙ (λ i. cond (question_test q e h.0 i) (Some e.1.answer) (found_first q es h.1 i))

none_of : (t : Bool) (a : LitAnswer) (o : Option LitAnswer) → cond t (Some a) o ≡ None → (t ≡ false) × (o ≡ None)
none_of true a o e = cc
none_of false a o e = (refl, e)

pub inserted_last : (q : Question) (r : Reply) (es : List (Question × Reply)) → AllByRecursion IsAsked es → earlier (meant q.name) q.lits.items (map application_of es) ≡ None → insert_entry (λ (a : Question) (b : Question). eq-value.it a b) es q r ≡ es ++ (q, r) ∷ []
inserted_last q r [] h e = refl
inserted_last q r (x ∷ es) h e =
    let apart = none_of _ _ _ e in
    ap (λ t. cond t ((x.0, r) ∷ es) (x ∷ insert_entry (λ (a : Question) (b : Question). eq-value.it a b) es q r)) (question_test q x h.0 ∙ apart.0)
    ∙ ap (λ l. x ∷ l) (inserted_last q r es h.1 apart.1)

pub map_push : (es : List (Question × Reply)) (e : Question × Reply) → map application_of (es ++ e ∷ []) ≡ map application_of es ++ application_of e ∷ []
map_push [] e = refl
map_push (x ∷ es) e = ap (λ l. application_of x ∷ l) (map_push es e)

pub asked_push : (es : List (Question × Reply)) (e : Question × Reply) → AllByRecursion IsAsked es → IsAsked e → AllByRecursion IsAsked (es ++ e ∷ [])
asked_push [] e h p = (p, tt)
asked_push (x ∷ es) e h p = (h.0, asked_push es e h.1 p)

-- what the table finds is the earlier answer
pub sought : (m : Name) (lits others : List Lit) (inside now : List Application) (o : Option LitAnswer) → lits ≡ others → inside ≡ now → o ≡ earlier m lits inside → earlier m others now ≡ o
sought m lits others inside now o e f g = (λ i. earlier m (sym e i) (sym f i)) ∙ sym g
