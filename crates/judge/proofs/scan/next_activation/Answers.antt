-- The first flag that is on, of those past the first i.
use Rattle.std.proofs.Common.{◌≡◌, ℕ, suc, ◌+◌, ◌-◌, ◌<◌, ◌≤◌, Bool, false, true, leb, ltb, refl, ◌&&◌, Some, None, List, get_or, length, take, drop, length-drop, add-one, sym, ◌∙◌, arith}
use borrow.Author.Tests.{lt-ltb, leb-true, leb-false}
use lib.Seq.{length-take-le, get_or-take, get_or-drop}
use Rattle.std.specs.List.{position}
use Rattle.declare.specs.Lists.{first_past}
use Rattle.declare.proofs.Booleans.{both}
use Rattle.declare.proofs.Positions.{not_past, not_passing}
use Rattle.judge.specs.Flags.{flag_at}
use Rattle.judge.specs.Spans.{or_past, next_past}
use Rattle.judge.proofs.Activations.{flag_at_lem}
use Rattle.judge.proofs.First.{passed, first_none, first_is, none_passes, first_passes}
use Rattle.judge.proofs.scan.next_activation.Goals as goal

module _ (row : List Bool) (i : ℕ) (low : i ≤ length row) where
  abbrev later : List Bool
  later = take (length row - i) (drop i row)

  long : length later ≡ length row - i
  long = length-take-le (length row - i) (drop i row) (omega (arith, length-drop i row))

  at : (k : ℕ) → i + k < length row → get_or later k false ≡ flag_at row (i + k + 1)
  at k l = get_or-take (length row - i) (drop i row) k false (omega arith) ∙ get_or-drop i row k false ∙ sym (flag_at_lem row (i + k))

  -- up to position i nothing passes, and from there on as the flags say
  off : (n : ℕ) → n ≤ length row → ((k : ℕ) → i + k < n → get_or later k false ≡ false) → (j : ℕ) → j < n → (ltb i (suc j) && flag_at row (suc j)) ≡ false
  off n h f j b = go (leb i j) refl
    where
      go : (t : Bool) → leb i j ≡ t → (ltb i (suc j) && flag_at row (suc j)) ≡ false
      go true e =
          let past : i ≤ j = leb-true i j e in
          let place : i + (j - i) + 1 ≡ suc j = omega arith in
          not_passing (flag_at row) i (suc j) (rw place at (sym (at (j - i) (omega arith)) ∙ f (j - i) (omega arith)))
      go false e = not_past (flag_at row) i (suc j) (omega (arith, leb-false i j e))

  found : (k : ℕ) → Some k ≡ position (λ on. on) later → i + k + 1 ≡ next_past (flag_at row) i (length row)
  unfolding next_past first_past or_past
  found k e =
      let f = first_passes (λ on. on) later false k e in
      let within : i + k < length row = omega (arith, f.0, long) in
      let here : flag_at row (suc (i + k)) ≡ true = rw add-one at (sym (at k within) ∙ f.1) in
      rw (first_is (λ j. ltb i j && flag_at row j) (i + k) (length row) within (passed _ (off (i + k) (omega arith) (λ m l. f.2 m (omega arith)))) (both (lt-ltb i (suc (i + k)) (omega arith)) here), add-one)

  missing : None ≡ position (λ on. on) later → length row + 1 ≡ next_past (flag_at row) i (length row)
  unfolding next_past first_past or_past
  missing e = rw (first_none (λ j. ltb i j && flag_at row j) (length row) (passed _ (off (length row) (omega arith) (λ m l. none_passes (λ on. on) later false e m (omega (arith, long))))))

pub returns-in-Some : goal.returns-in-Some
returns-in-Some c = found c.args.row.now c.args.i c.requires c.in-Some.k (sym c.in-Some.is ∙ c.first_on.ensures)

pub returns-in-None : goal.returns-in-None
returns-in-None c = missing c.args.row.now c.args.i c.requires (sym c.in-None.is ∙ c.first_on.ensures)
