-- The two latest places, as one literal more is read.
use Rattle.std.proofs.Common.{◌≡◌, ℕ, ℤ, ◌<◌, ◌≤◌, ◌+◌, List, refl, ap, arith, below_more}
use Rattle.sat_search.specs.Latest.{IsLatest, place_in}

module _ (places : List ℕ) (clause : List ℤ) (i last second : ℕ) (latest : IsLatest places clause i last second) where
  -- the new place is the latest
  pub latest_newer : last < place_in places clause i → IsLatest places clause (i + 1) (place_in places clause i) last
  latest_newer newer = record {
    in_order = omega arith;
    none_later = λ k h. below_more (λ n. place_in places clause n ≤ place_in places clause i) i (λ n g. omega (arith, latest.none_later n g)) (omega arith) k h;
    has_last = λ some. (i, omega arith, refl);
    one_later = λ j k hj hk lj lk. one j k hj hk lj lk;
    has_second = λ some. let w = latest.has_last some in (w.0, i, omega (arith, w.1), omega arith, (λ e. absurd (omega (arith, w.1))), w.2, refl);
  } where
    one : (j k : ℕ) → j < i + 1 → k < i + 1 → last < place_in places clause j → last < place_in places clause k → j ≡ k
    one j k hj hk lj lk =
        let fj : j < i → place_in places clause j ≤ last = latest.none_later j in
        let fk : k < i → place_in places clause k ≤ last = latest.none_later k in
        grind arith

  -- it is the latest but one
  pub latest_second : place_in places clause i ≤ last → second < place_in places clause i → IsLatest places clause (i + 1) last (place_in places clause i)
  latest_second older newer = record {
    in_order = older;
    none_later = λ k h. below_more (λ n. place_in places clause n ≤ last) i latest.none_later older k h;
    has_last = λ some. let w = latest.has_last some in (w.0, omega (arith, w.1), w.2);
    one_later = λ j k hj hk lj lk. one j k hj hk lj lk;
    has_second = λ some. let w = latest.has_last (omega arith) in (i, w.0, omega arith, omega (arith, w.1), (λ e. absurd (omega (arith, w.1))), refl, w.2);
  } where
    one : (j k : ℕ) → j < i + 1 → k < i + 1 → place_in places clause i < place_in places clause j → place_in places clause i < place_in places clause k → j ≡ k
    one j k hj hk lj lk =
        let old : j < i → k < i → second < place_in places clause j → second < place_in places clause k → j ≡ k = latest.one_later j k in
        let nj : j ≡ i → place_in places clause j ≡ place_in places clause i = λ e. ap (place_in places clause) e in
        let nk : k ≡ i → place_in places clause k ≡ place_in places clause i = λ e. ap (place_in places clause) e in
        grind arith

  -- it is neither
  pub latest_older : place_in places clause i ≤ second → IsLatest places clause (i + 1) last second
  latest_older older = record {
    in_order = latest.in_order;
    none_later = λ k h. below_more (λ n. place_in places clause n ≤ last) i latest.none_later (omega (arith, latest.in_order)) k h;
    has_last = λ some. let w = latest.has_last some in (w.0, omega (arith, w.1), w.2);
    one_later = λ j k hj hk lj lk. one j k hj hk lj lk;
    has_second = λ some. let w = latest.has_second some in (w.0, w.1, omega (arith, w.2), omega (arith, w.3), w.4, w.5, w.6);
  } where
    one : (j k : ℕ) → j < i + 1 → k < i + 1 → second < place_in places clause j → second < place_in places clause k → j ≡ k
    one j k hj hk lj lk =
        let old : j < i → k < i → second < place_in places clause j → second < place_in places clause k → j ≡ k = latest.one_later j k in
        let nj : j ≡ i → place_in places clause j ≡ place_in places clause i = λ e. ap (place_in places clause) e in
        let nk : k ≡ i → place_in places clause k ≡ place_in places clause i = λ e. ap (place_in places clause) e in
        grind arith
