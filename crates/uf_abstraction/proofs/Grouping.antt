-- Applications by their names.
use Rattle.std.proofs.Common.{◌≡◌, ℕ, zero, suc, ◌+◌, ◌<◌, ◌≤◌, Bool, true, false, cond, List, [], ◌∷◌, ◌++◌, length, take, drop, Option, Some, None, refl, sym, ap, ◌∙◌, subst, arith, true≢false, get_or}
use Rattle.std.specs.Global.{Global}
use Rattle.std.specs.List.{AllByRecursion, cons_option}
use Rattle.std.specs.Map.{lookup}
use Rattle.std.specs.Prelude.{Vec, map, filter, fold, slice_get}
use Rattle.std.proofs.lemmas.List.{take_more, at_drop_more, at_drop_all}
use Rattle.aig_build.specs.Built.{Made}
use Rattle.aig_build.specs.Circuits.{Node, Grows}
use Rattle.bit_words.proofs.RippleCarry.{AreThere-later}
use Rattle.core_ir.proofs.Keys.{name_same, name_is}
use Rattle.core_ir.specs.Tables.{EntryName as Name, same_name}
use Rattle.core_ir.specs.declared.units.Shape.{Shape}
use Rattle.sym_values.proofs.SameBits.{long_map}
use Rattle.sym_values.specs.Valuations.{Valuation}
use Rattle.sym_values.specs.Values.{all_lits, AreLaid}
use Rattle.bit_ops.specs.declared.values.SymValue.{SymValue}
use Rattle.uf_abstraction.proofs.Functions.{key_tells, answers_long}
use Rattle.uf_abstraction.specs.Applications.{LitShape, Application, answer_lits}
use Rattle.uf_abstraction.specs.Applying.{IsThere}
use Rattle.uf_abstraction.specs.Congruence.{IsLaidOut}
use Rattle.uf_abstraction.specs.Groups.{at_places, or_none, places_of, AreGroups, IsNoted}
use Rattle.uf_abstraction.specs.Names.{meant, application_of}
use Rattle.uf_abstraction.specs.Testing.{named, with_pair, with_earlier, with_answer, with_application, MadeTest, IsComparable, AreLaidOut}
use Rattle.uf_abstraction.specs.contracts.names.EntryNamePartialEq.TheImpl.{eq-value}
use Rattle.uf_abstraction.specs.declared.applications.Question.{Question}
use Rattle.uf_abstraction.specs.declared.applications.Reply.{Reply}
use Rattle.uf_abstraction.specs.declared.names.EntryName.{EntryName}
use Rattle.uf_abstraction.specs.declared.names.EntryName.TheVariants as name

name_test : (a b : EntryName) → eq-value.it a b ≡ same_name (meant a) (meant b)
name_test (name.Shared m) (name.Shared n) = refl
name_test (name.Shared m) (name.Old n) = refl
name_test (name.Shared m) (name.New n) = refl
name_test (name.Old m) (name.Shared n) = refl
name_test (name.Old m) (name.Old n) = refl
name_test (name.Old m) (name.New n) = refl
name_test (name.New m) (name.Shared n) = refl
name_test (name.New m) (name.Old n) = refl
name_test (name.New m) (name.New n) = refl

abbrev Groups : Type 0
Groups = List (EntryName × Vec ℕ Global)

pub found_places : (es : Groups) (key : EntryName) → or_none (lookup (λ (other : EntryName). eq-value.it key other) es) ≡ places_of es key
found_places es key = λ i. or_none (lookup (λ (other : EntryName). name_test key other i) es)

flipped : (m n : Name) → same_name m n ≡ false → (t : Bool) → same_name n m ≡ t → t ≡ false
flipped m n e true f = absurd (true≢false (sym (name_is m) ∙ ap (same_name m) (sym (name_same n m f)) ∙ e))
flipped m n e false f = refl

module _ (old mid new : Groups) (key : EntryName) (place : ℕ) (w : Vec ℕ Global)
    (taken : (q : EntryName) → lookup (λ (other : EntryName). eq-value.it q other) mid ≡ cond (eq-value.it key q) None (lookup (λ (other : EntryName). eq-value.it q other) old))
    (put : (q : EntryName) → lookup (λ (other : EntryName). eq-value.it q other) new ≡ cond (eq-value.it key q) (Some w) (lookup (λ (other : EntryName). eq-value.it q other) mid))
    (more : w.items ≡ places_of old key ++ place ∷ []) where
  at_name : (other : EntryName) (t : Bool) → eq-value.it key other ≡ t → places_of new other ≡ cond (same_name (meant other) (meant key)) (places_of old other ++ place ∷ []) (places_of old other)
  at_name other true e =
      let same : meant key ≡ meant other = name_same (meant key) (meant other) (sym (name_test key other) ∙ e) in
      let here : same_name (meant other) (meant key) ≡ true = ap (same_name (meant other)) same ∙ name_is (meant other) in
      let alike : places_of old key ≡ places_of old other = λ i. or_none (lookup (λ (e : EntryName). same_name (same i) (meant e)) old) in
      sym (found_places new other) ∙ ap or_none (put other ∙ ap (λ t. cond t (Some w) (lookup (λ (o : EntryName). eq-value.it other o) mid)) e) ∙ more ∙ ap (λ ps. ps ++ place ∷ []) alike
      ∙ sym (ap (λ t. cond t (places_of old other ++ place ∷ []) (places_of old other)) here)
  at_name other false e =
      let there : same_name (meant other) (meant key) ≡ false = flipped (meant key) (meant other) (sym (name_test key other) ∙ e) _ refl in
      sym (found_places new other) ∙ ap or_none (put other ∙ ap (λ t. cond t (Some w) (lookup (λ (o : EntryName). eq-value.it other o) mid)) e ∙ taken other ∙ ap (λ t. cond t None (lookup (λ (o : EntryName). eq-value.it other o) old)) e)
      ∙ found_places old other ∙ sym (ap (λ t. cond t (places_of old other ++ place ∷ []) (places_of old other)) there)

  pub noted : IsNoted key place (places_of old) (places_of new)
  noted other = at_name other (eq-value.it key other) refl

pub note_by : (old mid new : Groups) (key : EntryName) (place : ℕ) (w before : Vec ℕ Global) (o : Option (Vec ℕ Global))
    → ((q : EntryName) → lookup (λ (other : EntryName). eq-value.it q other) mid ≡ cond (eq-value.it key q) None (lookup (λ (other : EntryName). eq-value.it q other) old))
    → ((q : EntryName) → lookup (λ (other : EntryName). eq-value.it q other) new ≡ cond (eq-value.it key q) (Some w) (lookup (λ (other : EntryName). eq-value.it q other) mid))
    → w.items ≡ before.items ++ place ∷ [] → before.items ≡ or_none o → o ≡ lookup (λ (other : EntryName). eq-value.it key other) old → IsNoted key place (places_of old) (places_of new)
note_by old mid new key place w before o taken put more same found = noted old mid new key place w taken put (more ∙ ap (λ l. l ++ place ∷ []) (same ∙ ap or_none found ∙ found_places old key))

-- ---- one more application

push_by : (s : Bool) (y : Application) (xs ys zs : List Application) → xs ≡ ys ++ zs → cond s (y ∷ xs) xs ≡ cond s (y ∷ ys) ys ++ zs
push_by true y xs ys zs e = ap (λ l. y ∷ l) e
push_by false y xs ys zs e = e

filter_push : (test : Application → Bool) (xs : List Application) (x : Application) → filter test (xs ++ x ∷ []) ≡ filter test xs ++ cond (test x) (x ∷ []) []
filter_push test [] x = refl
filter_push test (y ∷ ys) x = push_by (test y) y (filter test (ys ++ x ∷ [])) (filter test ys) _ (filter_push test ys x)

-- the rest of the places, once one is found
pub at_first : (applied : List Application) (p : ℕ) (ps : List ℕ) (b : Application) → slice_get applied p ≡ Some b → at_places applied (p ∷ ps) ≡ b ∷ at_places applied ps
at_first applied p ps b e = by (slice_get applied p) e
  where
    by : (o : Option Application) → o ≡ Some b → cons_option o (at_places applied ps) ≡ b ∷ at_places applied ps
    by o f = ap (λ q. cons_option q (at_places applied ps)) f

at_by : (o : Option Application) (xs ys zs : List Application) → xs ≡ ys ++ zs → cons_option o xs ≡ cons_option o ys ++ zs
at_by None xs ys zs e = e
at_by (Some y) xs ys zs e = ap (λ l. y ∷ l) e

at_more : (applied : List Application) (ps : List ℕ) (p : ℕ) (b : Application) → slice_get applied p ≡ Some b → at_places applied (ps ++ p ∷ []) ≡ at_places applied ps ++ b ∷ []
at_more applied [] p b e = at_first applied p [] b e
at_more applied (q ∷ ps) p b e = at_by (slice_get applied q) (at_places applied (ps ++ p ∷ [])) (at_places applied ps) (b ∷ []) (at_more applied ps p b e)

within_push : (n : ℕ) (ps : List ℕ) (p : ℕ) → AllByRecursion (λ place. place < n) ps → p < n → AllByRecursion (λ place. place < n) (ps ++ p ∷ [])
within_push n [] p h k = (k, tt)
within_push n (q ∷ ps) p h k = (h.0, within_push n ps p h.1 k)

slice_less : (xs : List Application) (n : ℕ) (x : Application) → slice_get xs n ≡ Some x → n < length xs
slice_less [] n x e = cc
slice_less (y ∷ ys) zero x e = omega arith
slice_less (y ∷ ys) (suc n) x e = let rest = slice_less ys n x e in omega (arith, rest)

get_it : (xs : List Application) (n : ℕ) (x : Application) → slice_get xs n ≡ Some x → get_or xs n x ≡ x
get_it [] n x e = refl
get_it (y ∷ ys) zero x e = cc
get_it (y ∷ ys) (suc n) x e = get_it ys n x e

pub take_one : (xs : List Application) (n : ℕ) (x : Application) → slice_get xs n ≡ Some x → take (n + 1) xs ≡ take n xs ++ x ∷ []
take_one xs n x e = take_more xs n x (slice_less xs n x e) ∙ ap (λ y. take n xs ++ y ∷ []) (get_it xs n x e)

append_none : (xs : List Application) → xs ++ [] ≡ xs
append_none [] = refl
append_none (x ∷ xs) = ap (λ l. x ∷ l) (append_none xs)

module _ (applied : List Application) (place : ℕ) (old new : EntryName → List ℕ) (key : EntryName) (b : Application) (groups : AreGroups applied place old) (at : slice_get applied place ≡ Some b) (named_so : b.name ≡ meant key) (note : IsNoted key place old new) where
  within_by : (other : EntryName) (t : Bool) → AllByRecursion (λ p. p < length applied) (cond t (old other ++ place ∷ []) (old other))
  within_by other true = within_push (length applied) (old other) place (groups.within other) (slice_less applied place b at)
  within_by other false = groups.within other

  are_by : (other : EntryName) (t : Bool) → at_places applied (cond t (old other ++ place ∷ []) (old other)) ≡ named (meant other) (take place applied) ++ cond t (b ∷ []) []
  are_by other true = at_more applied (old other) place b at ∙ ap (λ l. l ++ b ∷ []) (groups.are other)
  are_by other false = groups.are other ∙ sym (append_none (named (meant other) (take place applied)))

  pub grouped : AreGroups applied (place + 1) new
  grouped = record {
    within = λ other. subst (AllByRecursion (λ p. p < length applied)) (sym (note other)) (within_by other (same_name (meant other) (meant key)));
    are = λ other.
        ap (at_places applied) (note other) ∙ are_by other (same_name (meant other) (meant key))
        ∙ ap (λ n. named (meant other) (take place applied) ++ cond (same_name (meant other) n) (b ∷ []) []) (sym named_so)
        ∙ sym (filter_push (λ (a : Application). same_name (meant other) a.name) (take place applied) b)
        ∙ ap (named (meant other)) (sym (take_one applied place b at));
  }

pub no_groups : (applied : List Application) → AreGroups applied 0 (places_of [])
no_groups applied = record { within = λ other. tt; are = λ other. refl }

-- ---- applications that can be compared

nothing_true : Valuation
nothing_true l = false

comparable : (given : Name → LitShape) (keys : Name → List Shape) (a b : Application) → IsLaidOut given keys a → IsLaidOut given keys b → a.name ≡ b.name → IsComparable a b
comparable given keys a b p q e = record {
  keys = sym (long_map nothing_true (all_lits a.key)) ∙ (key_tells nothing_true given keys a b p q e).long ∙ long_map nothing_true (all_lits b.key);
  answers = sym (long_map nothing_true (answer_lits a.answer)) ∙ answers_long nothing_true given keys a b p q e ∙ long_map nothing_true (answer_lits b.answer);
}

comparable_by : (b a : Application) (rest : List Application) (t : Bool) → (t ≡ true → IsComparable a b) → AllByRecursion (λ a. IsComparable a b) rest → AllByRecursion (λ a. IsComparable a b) (cond t (a ∷ rest) rest)
comparable_by b a rest true f h = (f refl, h)
comparable_by b a rest false f h = h

comparable_named : (given : Name → LitShape) (keys : Name → List Shape) (b : Application) → IsLaidOut given keys b → (xs : List Application) → AllByRecursion (IsLaidOut given keys) xs → AllByRecursion (λ a. IsComparable a b) (named b.name xs)
comparable_named given keys b q [] h = tt
comparable_named given keys b q (a ∷ rest) h =
    comparable_by b a (named b.name rest) (same_name b.name a.name) (λ e. comparable given keys a b h.0 q (sym (name_same b.name a.name e))) (comparable_named given keys b q rest h.1)

pub all_taken : {X : Type 0} (P : X → Type 0) (n : ℕ) (xs : List X) → AllByRecursion P xs → AllByRecursion P (take n xs)
all_taken P zero xs h = tt
all_taken P (suc n) [] h = tt
all_taken P (suc n) (x ∷ xs) h = (h.0, all_taken P n xs h.1)

pub all_got : {X : Type 0} (P : X → Type 0) (xs : List X) (n : ℕ) (x : X) → AllByRecursion P xs → slice_get xs n ≡ Some x → P x
all_got P [] n x h e = cc
all_got P (y ∷ ys) zero x h e = subst P (let same : y ≡ x = cc in same) h.0
all_got P (y ∷ ys) (suc n) x h e = all_got P ys n x h.1 e

pub comparable_earlier : (applied : List Application) (place : ℕ) (b : Application) → AreLaidOut applied → slice_get applied place ≡ Some b → AllByRecursion (λ a. IsComparable a b) (named b.name (take place applied))
comparable_earlier applied place b h e =
    comparable_named h.given h.keys b (all_got (IsLaidOut h.given h.keys) applied place b h.laid e) (take place applied) (all_taken (IsLaidOut h.given h.keys) place applied h.laid)

abbrev option_application : Option (Question × Reply) → Option Application
option_application None = None
option_application (Some y) = Some (application_of y)

pub got_mapped : (es : List (Question × Reply)) (n : ℕ) (q : Question) (r : Reply) → slice_get es n ≡ Some (q, r) → slice_get (map application_of es) n ≡ Some (application_of (q, r))
got_mapped [] n q r e = cc
got_mapped (x ∷ es) zero q r e = ap option_application e
got_mapped (x ∷ es) (suc n) q r e = got_mapped es n q r e

-- ---- what holds at a place

pub places_at : (n : ℕ) (ps : List ℕ) (at d : ℕ) → AllByRecursion (λ place. place < n) ps → at < length ps → get_or ps at d < n
places_at n [] at d h k = absurd (omega (arith, k))
places_at n (p ∷ ps) zero d h k = h.0
places_at n (p ∷ ps) (suc at) d h k = places_at n ps at d h.1 (omega (arith, k))

pub all_at_places : (P : Application → Type 0) (applied : List Application) (ps : List ℕ) (at d : ℕ) (a : Application) → AllByRecursion P (at_places applied ps) → at < length ps → slice_get applied (get_or ps at d) ≡ Some a → P a
all_at_places P applied [] at d a h k e = absurd (omega (arith, k))
all_at_places P applied (p ∷ ps) zero d a h k e = (subst (AllByRecursion P) (at_first applied p ps a e) h).0
all_at_places P applied (p ∷ ps) (suc at) d a h k e = all_at_places P applied ps at d a (rest (slice_get applied p) h) (omega (arith, k)) e
  where
    rest : (o : Option Application) → AllByRecursion P (cons_option o (at_places applied ps)) → AllByRecursion P (at_places applied ps)
    rest None g = g
    rest (Some x) g = g.1

-- one more place
pub places_step : (b : Application) (applied : List Application) (ps : List ℕ) (at d : ℕ) (now next all : Made) (a : Application) → fold (with_pair b) now (at_places applied (drop at ps)) ≡ all → at < length ps → slice_get applied (get_or ps at d) ≡ Some a
    → with_pair b now a ≡ next → fold (with_pair b) next (at_places applied (drop (at + 1) ps)) ≡ all
places_step b applied ps at d now next all a e h f g =
    ap (λ m. fold (with_pair b) m (at_places applied (drop (at + 1) ps))) (sym g)
    ∙ ap (fold (with_pair b) now) (sym (at_first applied (get_or ps at d) (drop (at + 1) ps) a f))
    ∙ sym (at_drop_more (λ l. fold (with_pair b) now (at_places applied l)) ps at d h) ∙ e

pub places_all : (b : Application) (applied : List Application) (ps : List ℕ) (at : ℕ) (now all : Made) → fold (with_pair b) now (at_places applied (drop at ps)) ≡ all → length ps ≤ at → all ≡ now
places_all b applied ps at now all e h = sym e ∙ at_drop_all (λ l. fold (with_pair b) now (at_places applied l)) ps at h

-- one more application
pub test_step : (applied : List Application) (place : ℕ) (now next all : MadeTest) (b : Application) → fold with_application now (drop place applied) ≡ all → slice_get applied place ≡ Some b → with_application now b ≡ next
    → fold with_application next (drop (place + 1) applied) ≡ all
test_step applied place now next all b e f g =
    ap (λ m. fold with_application m (drop (place + 1) applied)) (sym g ∙ ap (with_application now) (sym (get_it applied place b f)))
    ∙ sym (at_drop_more (fold with_application now) applied place b (slice_less applied place b f)) ∙ e

pub test_all : (applied : List Application) (place : ℕ) (now all : MadeTest) → fold with_application now (drop place applied) ≡ all → length applied ≤ place → all ≡ now
test_all applied place now all e h = sym e ∙ at_drop_all (fold with_application now) applied place h

-- ---- an application in place of another

pub same_got : (xs : List Application) (n : ℕ) (b c : Application) → slice_get xs n ≡ Some b → slice_get xs n ≡ Some c → c ≡ b
same_got xs n b c e f = let both : ◌≡◌ {A = Option Application} (Some c) (Some b) = sym f ∙ e in let same : c ≡ b = cc in same

pub earlier_built : (applied : List Application) (place : ℕ) (b c : Application) (ps : List ℕ) (m now : Made) → slice_get applied place ≡ Some b → slice_get applied place ≡ Some c → at_places applied ps ≡ named c.name (take place applied)
    → fold (with_pair c) m (at_places applied ps) ≡ now → with_earlier b m (take place applied) ≡ now
earlier_built applied place b c ps m now e f g h =
    let same = same_got applied place b c e f in
    (λ i. fold (with_pair (sym same i)) m (named (sym same i).name (take place applied))) ∙ ap (fold (with_pair c) m) (sym g) ∙ h

pub application_built : (applied : List Application) (place : ℕ) (b c : Application) (m mid now : Made) → slice_get applied place ≡ Some b → slice_get applied place ≡ Some c → with_earlier b m (take place applied) ≡ mid → with_answer mid c ≡ now
    → with_application (record { nodes = m.nodes; lit = m.lit; before = take place applied }) b ≡ record { nodes = now.nodes; lit = now.lit; before = take (place + 1) applied }
application_built applied place b c m mid now e f g h =
    let same = same_got applied place b c e f in
    let made = (λ i. with_answer (g i) (sym same i)) ∙ h in
    λ i. record { nodes = (made i).nodes; lit = (made i).lit; before = sym (take_one applied place b e) i }

pub got_at : (es : List (Question × Reply)) (n : ℕ) → n < length es → (b : Application) × (slice_get (map application_of es) n ≡ Some b)
got_at [] n h = absurd (omega (arith, h))
got_at (e ∷ es) zero h = (application_of e, refl)
got_at (e ∷ es) (suc n) h = got_at es n (omega (arith, h))

pub mapped_long : (es : List (Question × Reply)) → length (map application_of es) ≡ length es
mapped_long [] = refl
mapped_long (e ∷ es) = ap (λ n. suc n) (mapped_long es)

pub is_there_later : (old new : List Node) → Grows old new → (a : Application) → IsThere old a → IsThere new a
is_there_later old new g a h = record { key = AreThere-later old new _ g h.key; answer = AreThere-later old new _ g h.answer }

pub all_there_later : (old new : List Node) → Grows old new → (xs : List Application) → AllByRecursion (IsThere old) xs → AllByRecursion (IsThere new) xs
all_there_later old new g [] h = tt
all_there_later old new g (x ∷ xs) h = (is_there_later old new g x h.0, all_there_later old new g xs h.1)

pub laid_length : (ss : List Shape) (xs : List SymValue) → AreLaid ss xs → length ss ≡ length xs
laid_length [] [] h = refl
laid_length [] (x ∷ xs) h = absurd h
laid_length (s ∷ ss) [] h = absurd h
laid_length (s ∷ ss) (x ∷ xs) h = ap (λ n. suc n) (laid_length ss xs h.1)

pub one_a_shape : (applied : List Application) (place : ℕ) (b : Application) → AreLaidOut applied → slice_get applied place ≡ Some b → length b.shape.results ≡ length b.answer.results
one_a_shape applied place b h e = laid_length b.shape.results b.answer.results (all_got (IsLaidOut h.given h.keys) applied place b h.laid e).results
