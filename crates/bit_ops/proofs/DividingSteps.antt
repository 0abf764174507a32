-- The loop over the bits of a dividend.
use Rattle.std.proofs.Common.{◌≡◌, ℕ, suc, ◌+◌, ◌-◌, ◌<◌, ◌≤◌, List, [], ◌∷◌, ◌++◌, length, drop, take, get_or, map, replicate, refl, sym, ap, ◌∙◌, arith, subst, true, false}
use Rattle.std.proofs.lemmas.List.{length-replicate}
use Rattle.std.proofs.Math.Seq.{drop-cons}
use Rattle.aig_build.specs.declared.lits.Lit.{Lit}
use Rattle.aig_build.specs.Circuits.{Node, IsCircuit, Grows, constant, opposite}
use Rattle.aig_build.proofs.Nodes.{Grows-refl, Grows-trans}
use Rattle.bit_words.specs.declared.cells.Cell.TheVariants.{Sum, Choice}
use Rattle.bit_words.specs.Built.{MadeBits, ripple_built}
use Rattle.bit_words.specs.Words.{AreThere}
use Rattle.bit_words.proofs.Multiplication.{AreThere-replicate}
use Rattle.bit_words.proofs.RippleCarry.{AreThere-later}
use Rattle.bit_words.proofs.WordValues.{some_nodes}
use Rattle.bit_ops.specs.Built.{MadePlace, MadeQuotient, place_built, quotient_built}
use Rattle.bit_ops.specs.Dividing.{IsDividing}

drop_all : (xs : List Lit) → drop (length xs) xs ≡ []
drop_all [] = refl
drop_all (x ∷ xs) = drop_all xs

pub place_from : (old mid new : List Node) (x : Lit) (rest ds less left : List Lit) (fits last : Lit)
    → ripple_built old Sum (constant true) (x ∷ rest) (map opposite ds ++ constant true ∷ []) ≡ record { nodes = mid; bits = less; carry = fits }
    → ripple_built mid Choice fits (take (length ds) less) (take (length ds) (x ∷ rest)) ≡ record { nodes = new; bits = left; carry = last }
    → place_built old x rest ds ≡ record { nodes = new; fits = fits; rest = left }
unfolding place_built
place_from old mid new x rest ds less left fits last e f =
    ap (λ (m : MadeBits). let n = ripple_built m.nodes Choice m.carry (take (length ds) m.bits) (take (length ds) (x ∷ rest)) in record { nodes = n.nodes; fits = m.carry; rest = n.bits }) e
    ∙ ap (λ (n : MadeBits). record { nodes = n.nodes; fits = fits; rest = n.bits }) f

quotient_of_none : (first : List Node) (ds : List Lit) → quotient_built first [] ds ≡ record { nodes = first; quotient = []; remainder = replicate (length ds) (constant false) }
unfolding quotient_built
quotient_of_none first ds = refl

quotient_step : (first now : List Node) (x : Lit) (ys ds quotient rest : List Lit) (place : MadePlace) → quotient_built first ys ds ≡ record { nodes = now; quotient = quotient; remainder = rest } → place_built now x rest ds ≡ place
    → quotient_built first (x ∷ ys) ds ≡ record { nodes = place.nodes; quotient = place.fits ∷ quotient; remainder = place.rest }
unfolding quotient_built
quotient_step first now x ys ds quotient rest place e f =
    ap (λ (t : MadeQuotient). let m = place_built t.nodes x t.remainder ds in record { nodes = m.nodes; quotient = m.fits ∷ t.quotient; remainder = m.rest }) e
    ∙ ap (λ (m : MadePlace). record { nodes = m.nodes; quotient = m.fits ∷ quotient; remainder = m.rest }) f

pub dividing_none : (first : List Node) (xs ds rest : List Lit) → IsCircuit first → rest ≡ replicate (length ds) (constant false) → IsDividing first first xs ds [] rest 0
dividing_none first xs ds rest h e = record {
  divides =
      let whole : length xs - 0 ≡ length xs = omega arith in
      ap (λ n. quotient_built first (drop n xs) ds) whole ∙ ap (λ ys. quotient_built first ys ds) (drop_all xs) ∙ quotient_of_none first ds
      ∙ (λ i. record { nodes = first; quotient = []; remainder = sym e i });
  grows = Grows-refl first;
  quotient_there = tt;
  rest_there = subst (AreThere first) (sym e) (AreThere-replicate first (length ds) (constant false) (some_nodes first h));
  wide = ap length e ∙ length-replicate (length ds) (constant false);
  long = refl;
}

module _ (first now : List Node) (xs ds quotient rest : List Lit) (done : ℕ) (dividing : IsDividing first now xs ds quotient rest done) where
  pub dividing_more : (d : Lit) (place : MadePlace) (longer : List Lit) → done < length xs → place_built now (get_or xs (length xs - 1 - done) d) rest ds ≡ place → Grows now place.nodes → place.fits.node < length place.nodes → AreThere place.nodes place.rest
      → length place.rest ≡ length ds → longer ≡ place.fits ∷ quotient → IsDividing first place.nodes xs ds longer place.rest (done + 1)
  dividing_more d place longer l e g t u w s =
      let at = length xs - 1 - done in
      let here : length xs - (done + 1) ≡ at = omega arith in
      let next : suc at ≡ length xs - done = omega arith in
      let within : at < length xs = omega arith in
      let one_more : length (place.fits ∷ quotient) ≡ done + 1 = (let n = dividing.long in omega arith) in
      record {
        divides =
            ap (λ n. quotient_built first (drop n xs) ds) here
            ∙ ap (λ ys. quotient_built first ys ds) (drop-cons xs at d within ∙ ap (λ n. get_or xs at d ∷ drop n xs) next)
            ∙ quotient_step first now (get_or xs at d) (drop (length xs - done) xs) ds quotient rest place dividing.divides e
            ∙ (λ i. record { nodes = place.nodes; quotient = sym s i; remainder = place.rest });
        grows = Grows-trans _ _ _ dividing.grows g;
        quotient_there = subst (AreThere place.nodes) (sym s) (t, AreThere-later _ _ quotient g dividing.quotient_there);
        rest_there = u;
        wide = w;
        long = ap length s ∙ one_more;
      }

  pub dividing_all : length xs ≤ done → quotient_built first xs ds ≡ record { nodes = now; quotient = quotient; remainder = rest }
  dividing_all l =
      let none : length xs - done ≡ 0 = omega arith in
      sym (ap (λ n. quotient_built first (drop n xs) ds) none) ∙ dividing.divides
