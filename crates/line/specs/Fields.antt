-- "One record a line, fields parted by a tab, each line ended by LF (byte 10)": parts of a list of
-- bytes, and what they are parts of.
use Rattle.std.specs.Prelude.{Bool, cond, List, [], ◌∷◌, ◌++◌, ℕ, zero, suc, ◌+◌, eqb, ltb, drop}

-- a text is a list of numbers; a file holds those below 256
unfoldable pub is_byte : ℕ → Bool
is_byte b = ltb b 256

-- the bytes that part lines, and the fields of a line
abbrev pub LF : ℕ
LF = 10

abbrev pub tab : ℕ
tab = 9

-- where the byte b stands first, or the length if it does not stand
unfoldable pub index_of : ℕ → List ℕ → ℕ
index_of b [] = 0
index_of b (x ∷ xs) = cond (eqb x b) 0 (suc (index_of b xs))

-- what stands before the first b, or all
unfoldable pub before : ℕ → List ℕ → List ℕ
before b [] = []
before b (x ∷ xs) = cond (eqb x b) [] (x ∷ before b xs)

-- what stands after the first b, or nothing
unfoldable pub following : ℕ → List ℕ → List ℕ
following b s = drop (index_of b s + 1) s

-- n fields that a tab ends, one after the other, and one that LF ends
unfoldable pub fields_from : ℕ → List ℕ → List (List ℕ)
fields_from zero part = before LF part ∷ []
fields_from (suc n) part = before tab part ∷ fields_from n (following tab part)

-- how often b stands
unfoldable pub count_of : ℕ → List ℕ → ℕ
count_of b [] = 0
count_of b (x ∷ xs) = cond (eqb x b) (suc (count_of b xs)) (count_of b xs)

-- x before the first of some parts
unfoldable pub onto : ℕ → List (List ℕ) → List (List ℕ)
onto x [] = []
onto x (p ∷ ps) = (x ∷ p) ∷ ps

-- the parts between which b stands
unfoldable pub split : ℕ → List ℕ → List (List ℕ)
split b [] = [] ∷ []
split b (x ∷ xs) = cond (eqb x b) ([] ∷ split b xs) (onto x (split b xs))

-- b before each of some parts
unfoldable pub each_after : ℕ → List (List ℕ) → List ℕ
each_after b [] = []
each_after b (p ∷ ps) = b ∷ (p ++ each_after b ps)

-- some parts with b between them
unfoldable pub joined : ℕ → List (List ℕ) → List ℕ
joined b [] = []
joined b (p ∷ ps) = p ++ each_after b ps
