-- `line::find`: `index_of` is the recursion of `position_or_len`, what `position` gives.
use Rattle.std.proofs.Common.{◌≡◌, ℕ, ◌≤◌, Bool, true, false, cond, ltb, eqb, List, length, refl, ap, rules, tests, arith}
use Rattle.std.specs.Prelude.{Some, None}
use Rattle.std.proofs.lemmas.Iterator.{YieldsList-from_slice}
use Rattle.std.proofs.lemmas.Iterator.Search.{position_from_yields_List}
use Rattle.std.proofs.lemmas.List.Recursion.{is_position_or_len}
use Rattle.std.specs.List.{position_or_len}
use Rattle.std.specs.Option.{unwrap_or}
use borrow.Author.Tests.{ltb-false}
use Rattle.line.specs.Fields.{index_of}
use Rattle.line.proofs.Fields.{index_le}
use Rattle.line.proofs.find.Goals as goal

index_is : (byte : ℕ) (s : List ℕ) → index_of byte s ≡ position_or_len (λ b. eqb b byte) s
unfolding index_of
index_is byte s = is_position_or_len (index_of byte) (λ b. eqb b byte) refl (λ x xs. ap (cond (eqb x byte) 0) (omega arith)) s

or_all : (q n : ℕ) → q ≤ n → unwrap_or (cond (ltb q n) (Some q) None) n ≡ q
or_all q n h = go (ltb q n) refl
  where
    go : (t : Bool) → ltb q n ≡ t → unwrap_or (cond t (Some q) None) n ≡ q
    go true e = refl
    go false e = omega (arith, ltb-false q n e)

pub returns : goal.returns
returns c =
    let a = c.args in
    let p = position_from_yields_List (λ b. eqb b a.byte) _ _ c.position.result c.position.ensures.ran (YieldsList-from_slice a.s.now cc) (λ x b q k. search (rules, tests)) in
    rw (c.unwrap_or.ensures, p, ← index_is a.byte a.s.now) (or_all (index_of a.byte a.s.now) (length a.s.now) (index_le a.byte a.s.now))
