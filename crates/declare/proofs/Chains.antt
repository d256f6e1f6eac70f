-- What chains over lists answer, by the definitions' tests.
use mathlib.Core.Path.{◌≡◌, refl, ap}
use mathlib.Core.Bool.{Bool, ◌&&◌, ◌||◌}
use mathlib.Core.List.{List, [], ◌∷◌, map}
use Rattle.std.specs.List.{list_all, list_any}
use Rattle.declare.specs.Lists.{all, any}

pub all_listed : {A : Type 0} (p : A → Bool) (xs : List A) → all p xs ≡ list_all p xs
unfolding all
all_listed p [] = refl
all_listed p (x ∷ xs) = ap (λ t. p x && t) (all_listed p xs)

pub any_listed : {A : Type 0} (p : A → Bool) (xs : List A) → any p xs ≡ list_any p xs
unfolding any
any_listed p [] = refl
any_listed p (x ∷ xs) = ap (λ t. p x || t) (any_listed p xs)

pub any_mapped : {A B : Type 0} (p : B → Bool) (f : A → B) (xs : List A) → any p (map f xs) ≡ list_any (λ x. p (f x)) xs
unfolding any
any_mapped p f [] = refl
any_mapped p f (x ∷ xs) = ap (λ t. p (f x) || t) (any_mapped p f xs)

pub all_mapped : {A B : Type 0} (p : B → Bool) (f : A → B) (xs : List A) → all p (map f xs) ≡ list_all (λ x. p (f x)) xs
unfolding all
all_mapped p f [] = refl
all_mapped p f (x ∷ xs) = ap (λ t. p (f x) && t) (all_mapped p f xs)
