-- Literals that compute functions of the assignment, through the gates that are built.
use Rattle.std.proofs.Common.{◌≡◌, ◌<◌, Bool, true, false, not, ◌&&◌, ◌||◌, List, length, refl, ap, ◌∙◌, arith, get_or}
use Rattle.aig_build.specs.declared.lits.Lit.{Lit}
use Rattle.aig_build.specs.Built.{and_built}
use Rattle.aig_build.specs.Circuits.{Node, IsCircuit, Grows, Makes, constant, opposite, negate_if, both, progress, lit_value}
use Rattle.aig_build.proofs.Gates.{and_built-makes, constant_value}
use Rattle.aig_build.proofs.Nodes.{Grows-keeps, Grows-trans, Grows-length}
use Rattle.bit_words.specs.Built.{or_built, xor_built, choice_built}

-- a function of the assignment of the inputs
abbrev pub Fun : Type 0
Fun = List Bool → Bool

-- the literal is there, and has the value of f
pub record Computes (nodes : List Node) (x : Lit) (f : Fun) : Type 0 where
  pub there : x.node < length nodes
  pub value : (inputs : List Bool) → lit_value nodes inputs x ≡ f inputs

pub out : (old new : List Node) (x : Lit) (f : Fun) → Makes old f new x → Computes new x f
out old new x f m = record { there = m.there; value = m.value }

pub itself : (nodes : List Node) (x : Lit) → x.node < length nodes → Computes nodes x (λ inputs. lit_value nodes inputs x)
itself nodes x h = record { there = h; value = λ inputs. refl }

pub later : (old new : List Node) (x : Lit) (f : Fun) → Grows old new → Computes old x f → Computes new x f
later old new x f g c = record {
  there = let p = c.there in omega (arith, Grows-length old new g);
  value = λ inputs. Grows-keeps old new g inputs x c.there ∙ c.value inputs;
}

pub is_constant : (nodes : List Node) (b : Bool) → IsCircuit nodes → 0 < length nodes → Computes nodes (constant b) (λ _. b)
is_constant nodes b h some = record { there = some; value = λ inputs. constant_value nodes (constant b) inputs h refl }

negate_if-not : (b v : Bool) → negate_if (not b) v ≡ not (negate_if b v)
negate_if-not true true = refl
negate_if-not true false = refl
negate_if-not false v = refl

pub lit_value-opposite : (nodes : List Node) (inputs : List Bool) (x : Lit) → lit_value nodes inputs (opposite x) ≡ not (lit_value nodes inputs x)
unfolding lit_value
lit_value-opposite nodes inputs x = negate_if-not x.negated (get_or (progress nodes inputs).values x.node false)

pub inverted : (nodes : List Node) (x : Lit) (f : Fun) → Computes nodes x f → Computes nodes (opposite x) (λ inputs. not (f inputs))
inverted nodes x f c = record { there = c.there; value = λ inputs. lit_value-opposite nodes inputs x ∙ ap not (c.value inputs) }

-- what a builder gives, as what comes next needs it
pub Makes-not : (old new : List Node) (x : Lit) (f : Fun) → Makes old f new x → Makes old (λ inputs. not (f inputs)) new (opposite x)
Makes-not old new x f m = record { circuit = m.circuit; grows = m.grows; there = m.there; value = (inverted new x f (out old new x f m)).value }

pub Makes-as : (old new : List Node) (x : Lit) (f g : Fun) → ((inputs : List Bool) → f inputs ≡ g inputs) → Makes old f new x → Makes old g new x
Makes-as old new x f g e m = record { circuit = m.circuit; grows = m.grows; there = m.there; value = λ inputs. m.value inputs ∙ e inputs }

pub Makes-from : (first old new : List Node) (x : Lit) (f : Fun) → Grows first old → Makes old f new x → Makes first f new x
Makes-from first old new x f g m = record { circuit = m.circuit; grows = Grows-trans first old new g m.grows; there = m.there; value = m.value }

-- ---- values of the gates
abbrev pub differ : Bool → Bool → Bool
differ false b = b
differ true b = not b

abbrev pub pick : Bool → Bool → Bool → Bool
pick false x y = y
pick true x y = x

abbrev pub majority : Bool → Bool → Bool → Bool
majority false x y = x && y
majority true x y = x || y

or_is : (x y : Bool) → not (not x && not y) ≡ (x || y)
or_is false false = refl
or_is false true = refl
or_is true y = refl

differ_is : (x y : Bool) → (not (x && y) && not (not x && not y)) ≡ differ x y
differ_is false false = refl
differ_is false true = refl
differ_is true false = refl
differ_is true true = refl

pick_is : (w x y : Bool) → ((w && x) || (not w && y)) ≡ pick w x y
pick_is false x y = refl
pick_is true false y = refl
pick_is true true y = refl

pub most_is : (x y c : Bool) → ((x && y) || (c && (x || y))) ≡ majority x y c
most_is false false false = refl
most_is false true false = refl
most_is false false true = refl
most_is false true true = refl
most_is true false false = refl
most_is true false true = refl
most_is true true c = refl

pub carry_is : (x y c : Bool) → ((x && y) || (differ x y && c)) ≡ majority x y c
carry_is false false c = refl
carry_is false true c = refl
carry_is true false false = refl
carry_is true false true = refl
carry_is true true c = refl

module _ (ns : List Node) (h : IsCircuit ns) (a b : Lit) (f g : Fun) (p : Computes ns a f) (q : Computes ns b g) where
  pub and-makes : Makes ns (λ inputs. f inputs && g inputs) (and_built ns a b).nodes (and_built ns a b).lit
  and-makes = Makes-as ns _ _ (both ns a b) _ (λ inputs i. p.value inputs i && q.value inputs i) (and_built-makes ns a b h p.there q.there)

module _ (ns : List Node) (h : IsCircuit ns) (a b : Lit) (f g : Fun) (p : Computes ns a f) (q : Computes ns b g) where
  pub or-makes : Makes ns (λ inputs. f inputs || g inputs) (or_built ns a b).nodes (or_built ns a b).lit
  unfolding or_built
  or-makes =
      Makes-as ns _ _ _ _ (λ inputs. or_is (f inputs) (g inputs))
      (Makes-not ns _ _ _ (and-makes ns h (opposite a) (opposite b) _ _ (inverted ns a f p) (inverted ns b g q)))

  pub xor-makes : Makes ns (λ inputs. differ (f inputs) (g inputs)) (xor_built ns a b).nodes (xor_built ns a b).lit
  unfolding xor_built
  xor-makes =
      let m = and-makes ns h a b f g p q in
      let n = and-makes _ m.circuit (opposite a) (opposite b) _ _ (inverted _ a f (later ns _ a f m.grows p)) (inverted _ b g (later ns _ b g m.grows q)) in
      let both_later = later _ _ _ _ n.grows (out ns _ _ _ m) in
      let r = and-makes _ n.circuit _ _ _ _ (inverted _ _ _ both_later) (inverted _ _ _ (out _ _ _ _ n)) in
      Makes-as ns _ _ _ _ (λ inputs. differ_is (f inputs) (g inputs)) (Makes-from ns _ _ _ _ (Grows-trans _ _ _ m.grows n.grows) r)

module _ (ns : List Node) (h : IsCircuit ns) (a b : Lit) (f g : Fun) (p : Computes ns a f) (q : Computes ns b g) where
  pub choice-makes : (w : Lit) (k : Fun) → Computes ns w k → Makes ns (λ inputs. pick (k inputs) (f inputs) (g inputs)) (choice_built ns w a b).nodes (choice_built ns w a b).lit
  unfolding choice_built
  choice-makes w k r =
      let m = and-makes ns h w a k f r p in
      let n = and-makes _ m.circuit (opposite w) b _ g (inverted _ w k (later ns _ w k m.grows r)) (later ns _ b g m.grows q) in
      let o = or-makes _ n.circuit _ _ _ _ (later _ _ _ _ n.grows (out _ _ _ _ m)) (out _ _ _ _ n) in
      Makes-as ns _ _ _ _ (λ inputs. pick_is (k inputs) (f inputs) (g inputs)) (Makes-from ns _ _ _ _ (Grows-trans _ _ _ m.grows n.grows) o)
