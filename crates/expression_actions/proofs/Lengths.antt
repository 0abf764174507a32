-- Lengths of lists that begin with so many members.
use Rattle.std.proofs.Common.{◌≡◌, ℕ, zero, suc}

pub too_short_1_0 : {m : ℕ} → zero ≡ suc m → ⊥
too_short_1_0 h = cc

pub too_short_2_0 : {m : ℕ} → zero ≡ suc (suc m) → ⊥
too_short_2_0 h = cc

pub too_short_2_1 : {m : ℕ} → suc zero ≡ suc (suc m) → ⊥
too_short_2_1 h = cc

pub too_short_3_0 : {m : ℕ} → zero ≡ suc (suc (suc m)) → ⊥
too_short_3_0 h = cc

pub too_short_3_1 : {m : ℕ} → suc zero ≡ suc (suc (suc m)) → ⊥
too_short_3_1 h = cc

pub too_short_3_2 : {m : ℕ} → suc (suc zero) ≡ suc (suc (suc m)) → ⊥
too_short_3_2 h = cc

pub drop_1_0 : {a m : ℕ} → suc a ≡ suc m → a ≡ m
drop_1_0 h = cc

pub drop_1_1 : {a m : ℕ} → suc a ≡ suc m → suc a ≡ suc m
drop_1_1 h = cc

pub drop_2_0 : {a m : ℕ} → suc (suc a) ≡ suc (suc m) → a ≡ m
drop_2_0 h = cc

pub drop_2_1 : {a m : ℕ} → suc (suc a) ≡ suc (suc m) → suc a ≡ suc m
drop_2_1 h = cc

pub drop_3_1 : {a m : ℕ} → suc (suc (suc a)) ≡ suc (suc (suc m)) → suc a ≡ suc m
drop_3_1 h = cc
