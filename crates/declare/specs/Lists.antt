-- Tests over lists and over positions, which count from 1.
use Rattle.std.specs.Prelude.{Bool, true, false, not, cond, ◌&&◌, ◌||◌, List, [], ◌∷◌, ℕ, zero, suc, ◌+◌, min, ltb}

-- every element passes
unfoldable pub all {ℓ} : {A : Type ℓ} → (A → Bool) → List A → Bool
all p [] = true
all p (x ∷ xs) = p x && all p xs

-- some element passes
unfoldable pub any {ℓ} : {A : Type ℓ} → (A → Bool) → List A → Bool
any p [] = false
any p (x ∷ xs) = p x || any p xs

-- no position strictly between low and high passes
unfoldable pub none_between : (ℕ → Bool) → ℕ → ℕ → Bool
none_between p low zero = true
none_between p low (suc h) = none_between p low h && not (ltb low h && p h)

-- a position that was found, or else k
abbrev pub or_else : ℕ → ℕ → ℕ
or_else zero k = k
or_else (suc j) k = suc j

-- a position was found
abbrev pub found : ℕ → Bool
found zero = false
found (suc j) = true

-- the earliest of the positions 1 to n that passes, or 0
unfoldable pub first_up_to : (ℕ → Bool) → ℕ → ℕ
first_up_to p zero = 0
first_up_to p (suc n) = or_else (first_up_to p n) (cond (p (suc n)) (suc n) 0)

-- the latest of them, or 0
unfoldable pub last_up_to : (ℕ → Bool) → ℕ → ℕ
last_up_to p zero = 0
last_up_to p (suc n) = cond (p (suc n)) (suc n) (last_up_to p n)

-- of the positions past i, up to n, the first that passes, or 0
unfoldable pub first_past : (ℕ → Bool) → ℕ → ℕ → ℕ
first_past p i n = first_up_to (λ j. ltb i j && p j) n

-- of the positions 1 to n that pass, the latest up to i; failing that, the first past i; or 0
unfoldable pub nearest : (ℕ → Bool) → ℕ → ℕ → ℕ
nearest p i n = or_else (last_up_to p (min i n)) (first_past p i n)

-- ---- over the places of a list, which count from 0

-- every place below n passes
unfoldable pub all_below : (ℕ → Bool) → ℕ → Bool
all_below p zero = true
all_below p (suc n) = all_below p n && p n

abbrev pub bit : Bool → ℕ
bit true = 1
bit false = 0

-- how many places below n pass
unfoldable pub count_below : (ℕ → Bool) → ℕ → ℕ
count_below p zero = 0
count_below p (suc n) = count_below p n + bit (p n)

-- each element x at place k becomes f k x; the first place is k
unfoldable pub map_from : {A : Type 0} → (ℕ → A → A) → ℕ → List A → List A
map_from f k [] = []
map_from f k (x ∷ xs) = f k x ∷ map_from f (suc k) xs
