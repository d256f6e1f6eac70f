-- A rule bound to an activation asks what the rule itself asks.
use mathlib.Core.Path.{◌≡◌, refl, sym, ap, ◌∙◌}
use mathlib.Core.Bool.{Bool, ◌&&◌, and_assoc, and_comm}
use mathlib.Core.List.{List, [], ◌∷◌, map}
use Prim.Native.Nat.{ℕ, zero, suc}
use lib.Dec.{eqb}
use lib.ListN.{take}
use Rattle.declare.specs.declared.Event.{Event}
use Rattle.declare.specs.declared.Condition.{Condition}
use Rattle.declare.specs.declared.Rule.{Rule}
use Rattle.declare.specs.Lists.{all}
use Rattle.declare.specs.Comparisons.{test_of, passes}
use Rattle.declare.specs.Conditions.{comparisons_of, tests_of, met}
use Rattle.declare.specs.Suits.{within, between, correlates, suits}
use Rattle.declare.specs.Events.{first_time, empty_slot}
use Rattle.declare.specs.Reachability.{satisfiable, has_room, can_occur}
use Rattle.condition.specs.Bound.{test_list, tests_for, bound_of, cycle_bound, suits_bound, can_suit_bound}

take_map {ℓ} : {A B : Type ℓ} (f : A → B) (n : ℕ) (xs : List A) → take n (map f xs) ≡ map f (take n xs)
take_map f zero xs = refl
take_map f (suc n) [] = refl
take_map f (suc n) (x ∷ xs) = ap (λ ys. f x ∷ ys) (take_map f n xs)

-- the tests of a condition, made once
tests_bound : (a : Event) (c : Condition) → test_list (tests_for a c) ≡ tests_of a c
unfolding tests_for tests_of comparisons_of
tests_bound a c = take_map (test_of a) c.count (c.first ∷ c.second ∷ c.third ∷ c.fourth ∷ [])

-- so the condition is met where these tests pass
pub met_bound : (c : Condition) (a e : Event) → all (passes e) (test_list (tests_for a c)) ≡ met c a e
unfolding met
met_bound c a e = ap (all (passes e)) (tests_bound a c)

-- the window may be tried before the correlation
last_two : (x y z : Bool) → (x && y && z) ≡ (x && z && y)
last_two x y z = and_assoc x y z ∙ ap (λ t. x && t) (and_comm y z) ∙ sym (and_assoc x z y)

-- the bound rule is suited exactly where the rule is
pub bound_suits : (r : Rule) (a e : Event) → suits_bound (bound_of r a) e ≡ suits r a e
unfolding suits_bound bound_of suits correlates met
bound_suits r a e =
    rw (tests_bound a r.correlation)
    (last_two (eqb e.activity r.target) (within r.window (between a.time e.time)) (met r.correlation a e))

-- and may still be suited exactly where the rule may
pub bound_can_suit : (r : Rule) (a : Event) (h : ℕ) → can_suit_bound (bound_of r a) h ≡ (has_room r.window a.time h && satisfiable (tests_of a r.correlation))
unfolding can_suit_bound bound_of
bound_can_suit r a h = rw (tests_bound a r.correlation)

-- the same of a rule about the cycle
pub bound_can_occur : (r : Rule) (es : List Event) (h : ℕ) → can_suit_bound (cycle_bound r (first_time h es)) h ≡ can_occur r es h
unfolding can_suit_bound cycle_bound can_occur
bound_can_occur r es h = rw (tests_bound empty_slot r.condition)
