-- Laws of `stored` and `place_after`: one text after another is put as the two together, and a text
-- that has room stands whole.
use mathlib.Core.Path.{◌≡◌, refl, sym, ◌∙◌}
use mathlib.Core.Bool.{Bool, true, false}
use mathlib.Core.List.{List, [], ◌∷◌, ◌++◌, append_assoc}
use Prim.Native.Nat.{ℕ, ◌+◌, ◌≤◌, ◌<◌}
use native.Mathlib.Omega.{arith}
use borrow.Author.Tests.{lt-ltb, le-ltb, ltb-true}
use lib.Dec.{ltb}
use lib.ListN.{length, set, take, drop, length-set, length-append, length-drop, take-append-drop}
use lib.Seq.{set_out, set-append_seam, take-append_seam, length-take-le}
use Rattle.buffer.specs.declared.put.Output.{Output}
use Rattle.buffer.specs.Puts.{next, place_after, stored, Puts, Put}

-- ---- the place

next_in : (room at : ℕ) → at < room → next room at ≡ at + 1
unfolding next
next_in room at h = simp (lt-ltb at room h)

next_out : (room at : ℕ) → room ≤ at → next room at ≡ at
unfolding next
next_out room at h = simp (le-ltb at room h)

place_in : (room at : ℕ) (xs : List ℕ) → at + length xs ≤ room → place_after room at xs ≡ at + length xs
unfolding place_after
place_in room at [] h = omega arith
place_in room at (b ∷ xs) h = rw (next_in room at (omega arith)) (place_in room (at + 1) xs (omega arith) ∙ omega arith)

place_out : (room at : ℕ) (xs : List ℕ) → room ≤ at → place_after room at xs ≡ at
unfolding place_after
place_out room at [] h = refl
place_out room at (b ∷ xs) h = rw (next_out room at h) (place_out room at xs h)

next_inside : (room at : ℕ) → at ≤ room → next room at ≤ room
unfolding next
next_inside room at h = go (ltb at room) refl
  where
    go : (t : Bool) → ltb at room ≡ t → next room at ≤ room
    go true e = rw e (omega (arith, ltb-true at room e))
    go false e = rw e h

place_inside : (room at : ℕ) (xs : List ℕ) → at ≤ room → place_after room at xs ≤ room
unfolding place_after
place_inside room at [] h = h
place_inside room at (b ∷ xs) h = place_inside room (next room at) xs (next_inside room at h)

place_append : (room at : ℕ) (xs ys : List ℕ) → place_after room at (xs ++ ys) ≡ place_after room (place_after room at xs) ys
unfolding place_after
place_append room at [] ys = refl
place_append room at (b ∷ xs) ys = place_append room (next room at) xs ys

-- ---- the buffer

length_stored : (l : List ℕ) (at : ℕ) (xs : List ℕ) → length (stored l at xs) ≡ length l
unfolding stored
length_stored l at [] = refl
length_stored l at (b ∷ xs) = length_stored (set l at b) (next (length l) at) xs ∙ length-set l at b

stored_out : (l : List ℕ) (at : ℕ) (xs : List ℕ) → length l ≤ at → stored l at xs ≡ l
unfolding stored
stored_out l at [] h = refl
stored_out l at (b ∷ xs) h = rw (set_out l at b h, next_out (length l) at h) (stored_out l at xs h)

stored_append : (l : List ℕ) (at : ℕ) (xs ys : List ℕ) → stored l at (xs ++ ys) ≡ stored (stored l at xs) (place_after (length l) at xs) ys
unfolding stored place_after
stored_append l at [] ys = refl
stored_append l at (b ∷ xs) ys =
    stored_append (set l at b) (next (length l) at) xs ys ∙ rw (length-set l at b)

-- behind bytes that stand already
stored_behind : (ys l xs : List ℕ) → length xs ≤ length l → stored (ys ++ l) (length ys) xs ≡ ys ++ (xs ++ drop (length xs) l)
unfolding stored
stored_behind ys l [] h = refl
stored_behind ys [] (b ∷ xs) h = absurd (omega arith)
stored_behind ys (x ∷ l) (b ∷ xs) h =
    let inside : length ys < length (ys ++ x ∷ l) = rw (length-append ys (x ∷ l)) (omega arith) in
    let one : length (ys ++ (b ∷ [])) ≡ length ys + 1 = length-append ys (b ∷ []) in
    rw (set-append_seam ys x l b, next_in (length (ys ++ x ∷ l)) (length ys) inside)
    (rw (← one, ← append_assoc ys (b ∷ []) l) (stored_behind (ys ++ (b ∷ [])) l xs (omega arith)) ∙ append_assoc ys (b ∷ []) (xs ++ drop (length xs) l))

-- at a place, with room
stored_mid : (l xs : List ℕ) (at : ℕ) → at + length xs ≤ length l → stored l at xs ≡ take at l ++ (xs ++ drop (length xs) (drop at l))
stored_mid l xs at h =
    let front : length (take at l) ≡ at = length-take-le at l (omega arith) in
    let room : length xs ≤ length (drop at l) = rw (length-drop at l) (omega arith) in
    rw (take-append-drop at l, front) at (stored_behind (take at l) (drop at l) xs room)

-- from the front, with room
stored_front : (l xs : List ℕ) → length xs ≤ length l → stored l 0 xs ≡ xs ++ drop (length xs) l
stored_front l xs h = stored_behind [] l xs h

-- ---- what a function promises

pub puts_none : (l : List ℕ) (at : ℕ) → Puts [] l at l at
unfolding stored place_after
puts_none l at = record { stores = refl; ends = refl }

pub puts_one : (l : List ℕ) (at b : ℕ) → at < length l → Puts (b ∷ []) l at (set l at b) (at + 1)
unfolding stored place_after
puts_one l at b h = record { stores = refl; ends = sym (next_in (length l) at h) }

pub puts_then : {xs ys l m n : List ℕ} {at p q : ℕ} → Puts xs l at m p → Puts ys m p n q → Puts (xs ++ ys) l at n q
puts_then {xs} {ys} {l} {m} {n} {at} {p} {q} a b =
    record {
      stores = b.stores ∙ rw (a.stores, a.ends) (sym (stored_append l at xs ys));
      ends = b.ends ∙ rw (a.stores, a.ends, length_stored l at xs) (sym (place_append (length l) at xs ys));
    }

pub puts_as : {xs ys l m : List ℕ} {at p : ℕ} → xs ≡ ys → Puts xs l at m p → Puts ys l at m p
puts_as {xs} {ys} e a = rw e at a

pub puts_length : {xs l m : List ℕ} {at p : ℕ} → Puts xs l at m p → length m ≡ length l
puts_length {xs} {l} {m} {at} a = rw a.stores (length_stored l at xs)

pub puts_mid : (l xs : List ℕ) (at : ℕ) → at + length xs ≤ length l → Puts xs l at (take at l ++ (xs ++ drop (length xs) (drop at l))) (at + length xs)
puts_mid l xs at h = record { stores = sym (stored_mid l xs at h); ends = sym (place_in (length l) at xs h) }

-- at the buffer's end nothing more is put
pub puts_full : (xs l : List ℕ) (at : ℕ) → length l ≤ at → Puts xs l at l at
puts_full xs l at h =
    record { stores = sym (stored_out l at xs h); ends = sym (place_out (length l) at xs h) }

-- a text that has room stands whole
pub puts_front : {xs l m : List ℕ} {p : ℕ} → length xs ≤ length l → Puts xs l 0 m p → (m ≡ xs ++ drop (length xs) l) × (p ≡ length xs)
puts_front {xs} {l} h a = (
  a.stores ∙ stored_front l xs h,
  a.ends ∙ place_in (length l) 0 xs (omega arith) ∙ omega arith,
)

pub puts_taken : {xs l m : List ℕ} {p : ℕ} → length xs ≤ length l → Puts xs l 0 m p → take p m ≡ xs
puts_taken {xs} {l} h a =
    let e = puts_front h a in
    rw (e.0, e.1) (take-append_seam xs (drop (length xs) l))

-- the place is never past the buffer's end
pub puts_within : {xs l m : List ℕ} {p : ℕ} → Puts xs l 0 m p → p ≤ length m
puts_within {xs} {l} a =
    let s = puts_length a in
    let e = a.ends in
    omega (arith, place_inside (length l) 0 xs (omega arith))

-- ---- the same of an output

pub put_none : (o : Output) → Put [] o o
put_none o = record { same_reference = refl; puts = puts_none _ _ }

pub put_then : {xs ys : List ℕ} {before between after : Output} → Put xs before between → Put ys between after → Put (xs ++ ys) before after
put_then a b =
    record { same_reference = b.same_reference ∙ a.same_reference; puts = puts_then a.puts b.puts }

pub put_as : {xs ys : List ℕ} {before after : Output} → xs ≡ ys → Put xs before after → Put ys before after
put_as e a = record { same_reference = a.same_reference; puts = puts_as e a.puts }

-- the lent buffer ends as what the output holds, since the output still holds it
pub put_lent : {text lent : List ℕ} {before after : Output} → Put text before after → (before.bytes.ghost_name ≡ after.bytes.ghost_name → lent ≡ after.bytes.now) → Puts text before.bytes.now before.at lent after.at
put_lent a left = rw (left (sym a.same_reference)) a.puts
