-- Answers of two kinds differ, and those of one kind are the same only with the same value.
use mathlib.Core.Path.{◌≡◌}
use Prim.Native.Nat.{ℕ}
use native.Mathlib.Omega.{arith}
use Rattle.std.specs.Prelude.{Result, Ok, Err}

module _ {A E : Type 0} where
  pub no_err : {a : A} {e : E} → ◌≡◌ {A = Result A E} (Ok a) (Err e) → ⊥
  no_err h =
      let z : ◌≡◌ {A = ℕ} 0 1 = cc in
      omega arith

  pub ok_ok : {a b : A} → ◌≡◌ {A = Result A E} (Ok a) (Ok b) → a ≡ b
  ok_ok h = cc

  pub err_err : {d e : E} → ◌≡◌ {A = Result A E} (Err d) (Err e) → d ≡ e
  err_err h = cc
