-- A line: its fields, one after the other, and the checks before them.
use mathlib.Core.Bool.{Bool, true, false}
use mathlib.Core.Path.{◌≡◌, refl, sym, ◌∙◌, ap}
use mathlib.Core.List.{List, [], ◌∷◌, ◌++◌}
use Prim.Native.Nat.{ℕ, zero, suc, ◌+◌, ◌≤◌}
use native.Mathlib.Omega.{arith}
use borrow.Author.Tests.{eqb-true, eqb-false}
use lib.Dec.{ltb, eqb}
use lib.ListN.{length, get_or, take, drop}
use lib.Seq.{take-suc, take_all}
use Rattle.std.specs.Prelude.{Result, Ok, Err}
use Rattle.std.specs.Result.{IsErrAnd, MatchResult}
use Rattle.declare.specs.Refusals.{number_of}
use Rattle.number.specs.Number.{fault_number}
use Rattle.line.specs.Types.{Refusal, Fault}
use Rattle.declare.specs.Answers.{Answer, accepted, refused, answer_of, ◌>>=◌, ◌>>◌, require}
use Rattle.line.specs.Fields.{LF, tab, index_of, before, following, fields_from, split}
use Rattle.line.specs.Texts.{has_fields, line_of}
use Rattle.line.proofs.Fields.{first_field, last_field}

-- ---- a refusal that `?` passes on

pub told : {A : Type 0} (cause : Refusal) (r : Result A Refusal) → IsErrAnd r (λ passed. passed ≡ cause) → answer_of r ≡ refused (number_of cause)
unfolding answer_of
told cause (Ok a) h = absurd h
told cause (Err passed) h = rw h

-- ---- a field's fault, of which `?` makes a refusal

pub told_fault : {A : Type 0} (fault : Fault) (r : Result A Refusal) → IsErrAnd r (λ passed. number_of passed ≡ fault_number fault) → answer_of r ≡ refused (fault_number fault)
unfolding answer_of
told_fault fault (Ok a) h = absurd h
told_fault fault (Err passed) h = rw h

-- ---- an answer that goes on from another

pub chained : {A : Type 0} (r : Result (Unit {0}) Refusal) (s : Result A Refusal) (x : Answer A) → MatchResult r (λ a. answer_of s ≡ x) (λ cause. s ≡ Err cause) → answer_of s ≡ (answer_of r >> x)
unfolding answer_of ◌>>◌
chained (Ok a) s x h = h
chained (Err cause) s x h = rw h

-- ---- field by field

-- what follows the first n fields
abbrev pub part_after : ℕ → List ℕ → List ℕ
part_after zero s = s
part_after (suc n) s = following tab (part_after n s)

-- the code has passed a field: p is the part in hand, l the field's length
pub passed : (n : ℕ) (p s : List ℕ) (l : ℕ) → p ≡ part_after n s → l ≡ index_of tab p → drop (l + 1) p ≡ part_after (suc n) s
unfolding following
passed n p s l e h = rw (h, e)

-- and goes on with the field's value and what follows the field
pub field_passed : {A B : Type 0} (k : List ℕ → B → Answer A) (s : List ℕ) {next : List ℕ} (l : ℕ) {x : Answer B} {v : B} → x ≡ accepted v → l ≡ index_of tab s → next ≡ drop (l + 1) s → (x >>= k (following tab s)) ≡ k next v
unfolding following ◌>>=◌
field_passed k s l e h n = rw (e, n, h)

-- the fields of a line, of which there are n and one more
fields_from_lem : (n : ℕ) (s : List ℕ) → length (split tab (before LF s)) ≡ suc n → split tab (before LF s) ≡ fields_from n s
unfolding fields_from
fields_from_lem zero s h = last_field tab (before LF s) h
fields_from_lem (suc n) s h =
    let f = first_field LF tab s (omega arith) in
    f ∙ ap (λ (k : List (List ℕ)). before tab s ∷ k) (fields_from_lem n (following tab s) (omega (arith, rw f at h)))

-- the first n fields, each by its number
abbrev pub numbered : ℕ → List (List ℕ) → List (List ℕ)
numbered zero fields = []
numbered (suc n) fields = numbered n fields ++ (get_or fields n [] ∷ [])

numbered_take : (n : ℕ) (fields : List (List ℕ)) → n ≤ length fields → numbered n fields ≡ take n fields
numbered_take zero fields h = refl
numbered_take (suc n) fields h = rw (numbered_take n fields (omega arith)) (sym (take-suc fields n [] (omega arith)))

pub all_numbered : (n : ℕ) (fields : List (List ℕ)) → length fields ≡ n → numbered n fields ≡ fields
all_numbered n fields h = numbered_take n fields (omega arith) ∙ take_all n fields (omega arith)

-- ---- the checks before the fields

-- of a line that has n fields and one more the fields are then read one after the other
pub line_checked : {A : Type 0} (n : ℕ) (holds : List (List ℕ) → Answer A) → ((fields : List (List ℕ)) → (length fields ≡ n + 1 → ⊥) → holds fields ≡ refused 1) → (s : List ℕ) → line_of holds s ≡ (line_of (has_fields (n + 1)) s >> holds (fields_from n s))
unfolding line_of has_fields require ◌>>◌
line_checked n holds other s =
    go (ltb (index_of LF s) (length s)) (eqb (length (split tab (before LF s))) (n + 1)) refl refl
  where
    go : (t u : Bool) → ltb (index_of LF s) (length s) ≡ t → eqb (length (split tab (before LF s))) (n + 1) ≡ u → line_of holds s ≡ (line_of (has_fields (n + 1)) s >> holds (fields_from n s))
    go false u p q = rw p
    go true false p q = rw (p, q) (other _ (eqb-false _ _ q))
    go true true p q = rw (p, q) (ap holds (fields_from_lem n s (omega (arith, eqb-true (length (split tab (before LF s))) (n + 1) q))))
