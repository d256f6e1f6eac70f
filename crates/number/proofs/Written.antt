-- Writing and reading undo each other: what is written reads back as the number, and what was read
-- is written as the same bytes.
use mathlib.Core.Path.{◌≡◌, refl, sym, ◌∙◌, ap}
use mathlib.Core.Bool.{Bool, true, false, ◌&&◌, false≢true}
use mathlib.Core.List.{List, [], ◌∷◌, ◌++◌, append-nil, append_assoc}
use Prim.Native.Nat.{ℕ, zero, suc, ◌+◌, ◌-◌, ◌*◌, ◌/◌, ◌%◌, ◌≤◌, ◌<◌}
use native.Mathlib.Omega.{arith}
use borrow.Author.Tests.{leb-true, le-leb, ltb-true, ltb-false, lt-ltb, le-ltb, eqb-true, eqb-false, ne_eqb}
use lib.Dec.{leb, ltb, eqb}
use lib.IntN.{ℤ, pos, negsuc, neg_ℤ}
use lib.Signed.{le_z}
use Rattle.std.specs.Prelude.{Ok}
use Rattle.number.specs.Number.{digit, digits, none, positive, natural_form, integer_form, dash, value_from, value_of, integer_value, in_natural_range, natural_of, in_signed_range, integer_of}
use Rattle.number.specs.Written.{digits_in, digits_of, integer_text}
use Rattle.number.proofs.Results.{no_err, ok_ok}
use Rattle.number.proofs.Digits.{and_left, and_right, digit_low, digit_high, is_digit, natural_empty, integer_empty, natural_zero, natural_digit, positive_zero, positive_digit, natural_dash, integer_dash, integer_natural}

-- ---- the digits of a number, by its size

-- steps enough are as good as more
enough : (j k n : ℕ) → n < j → n < k → digits_in j n ≡ digits_in k n
unfolding digits_in
enough zero k n h l = absurd (omega arith)
enough (suc j) zero n h l = absurd (omega arith)
enough (suc j) (suc k) n h l = go (ltb n 10) refl (λ (g : 10 ≤ n). enough j k (n / 10) (omega arith) (omega arith))
  where
    go : (t : Bool) → ltb n 10 ≡ t → (10 ≤ n → digits_in j (n / 10) ≡ digits_in k (n / 10)) → digits_in (suc j) n ≡ digits_in (suc k) n
    go true e f = simp e
    go false e f = simp (e, f (ltb-false n 10 e))

pub digits_one : (n : ℕ) → n < 10 → digits_of n ≡ (48 + n) ∷ []
unfolding digits_of digits_in
digits_one n h = simp (lt-ltb n 10 h)

pub digits_more : (n : ℕ) → 10 ≤ n → digits_of n ≡ digits_of (n / 10) ++ ((48 + n % 10) ∷ [])
unfolding digits_of digits_in
digits_more n h = simp (le-ltb n 10 h, enough n (suc (n / 10)) (n / 10) (omega arith) (omega arith))

-- ---- forms and values, with one digit more at the end

positive_parts : (b : ℕ) (bs : List ℕ) → positive (b ∷ bs) ≡ true → (eqb b 48 ≡ false) × (digit b ≡ true) × (digits bs ≡ true)
positive_parts b bs h = go (eqb b 48) refl
  where
    go : (t : Bool) → eqb b 48 ≡ t → (eqb b 48 ≡ false) × (digit b ≡ true) × (digits bs ≡ true)
    go true e = absurd (false≢true (sym (positive_zero b bs e) ∙ h))
    go false e =
        let g : (digit b && digits bs) ≡ true = sym (positive_digit b bs e) ∙ h in
        (e, and_left (digit b) (digits bs) g, and_right (digit b) (digits bs) g)

digits_snoc : (bs : List ℕ) (d : ℕ) → digits bs ≡ true → digit d ≡ true → digits (bs ++ (d ∷ [])) ≡ true
unfolding digits
digits_snoc [] d h e = rw e
digits_snoc (b ∷ bs) d h e = rw (and_left (digit b) (digits bs) h) (digits_snoc bs d (and_right (digit b) (digits bs) h) e)

positive_snoc : (bs : List ℕ) (d : ℕ) → positive bs ≡ true → digit d ≡ true → positive (bs ++ (d ∷ [])) ≡ true
unfolding positive
positive_snoc [] d h e = absurd (false≢true h)
positive_snoc (b ∷ bs) d h e =
    let p = positive_parts b bs h in
    rw (p.0, p.1) (digits_snoc bs d p.2 e)

value_snoc : (v : ℕ) (bs : List ℕ) (d : ℕ) → value_from v (bs ++ (d ∷ [])) ≡ value_from v bs * 10 + (d - 48)
unfolding value_from
value_snoc v [] d = refl
value_snoc v (b ∷ bs) d = value_snoc (v * 10 + (b - 48)) bs d

positive_natural : (bs : List ℕ) → positive bs ≡ true → natural_form bs ≡ true
unfolding positive
positive_natural [] h = absurd (false≢true h)
positive_natural (b ∷ bs) h =
    let p = positive_parts b bs h in
    rw (natural_digit b bs p.0, p.1, p.2)

-- ---- what is written is of the form, and has the value

positive_one : (n : ℕ) → 0 < n → n < 10 → positive ((48 + n) ∷ []) ≡ true
unfolding digits
positive_one n l h = rw (positive_digit (48 + n) [] (ne_eqb (48 + n) 48 (λ e. omega arith)), is_digit n h)

-- by induction on a bound of n
positive_value : (k n : ℕ) → n < k → 0 < n → (positive (digits_of n) ≡ true) × (value_of (digits_of n) ≡ n)
unfolding value_of value_from
positive_value zero n h l = absurd (omega arith)
positive_value (suc k) n h l = go (ltb n 10) refl (λ (g : 10 ≤ n). positive_value k (n / 10) (omega arith) (omega arith))
  where
    go : (t : Bool) → ltb n 10 ≡ t → (10 ≤ n → (positive (digits_of (n / 10)) ≡ true) × (value_of (digits_of (n / 10)) ≡ n / 10)) → (positive (digits_of n) ≡ true) × (value_of (digits_of n) ≡ n)
    go true e f =
        let s : n < 10 = ltb-true n 10 e in
        (rw (digits_one n s) (positive_one n l s), rw (digits_one n s) (omega arith))
    go false e f =
        let s : 10 ≤ n = ltb-false n 10 e in (
          rw (digits_more n s) (positive_snoc (digits_of (n / 10)) (48 + n % 10) (f s).0 (is_digit (n % 10) (omega arith))),
          rw (digits_more n s) (rw (value_snoc 0 (digits_of (n / 10)) (48 + n % 10), (f s).1) (omega arith)),
        )

written_positive : (n : ℕ) → 0 < n → positive (digits_of n) ≡ true
written_positive n l = (positive_value (suc n) n (omega arith) l).0

written_form : (n : ℕ) → natural_form (digits_of n) ≡ true
unfolding none
written_form zero = rw (digits_one 0 (omega arith), natural_zero 48 [] refl)
written_form (suc n) = positive_natural (digits_of (suc n)) (written_positive (suc n) (omega arith))

written_value : (n : ℕ) → value_of (digits_of n) ≡ n
unfolding digits_of digits_in value_of value_from
written_value zero = refl
written_value (suc n) = (positive_value (suc (suc n)) (suc n) (omega arith) (omega arith)).1

-- every byte of a written number is a digit
natural_digits : (bs : List ℕ) → natural_form bs ≡ true → digits bs ≡ true
unfolding digits digit none
natural_digits [] h = refl
natural_digits (b ∷ bs) h = go (eqb b 48) bs refl h
  where
    go : (t : Bool) (cs : List ℕ) → eqb b 48 ≡ t → natural_form (b ∷ cs) ≡ true → digits (b ∷ cs) ≡ true
    go true [] e k = rw (eqb-true b 48 e)
    go true (x ∷ cs) e k = absurd (false≢true (sym (natural_zero b (x ∷ cs) e) ∙ k))
    go false cs e k = sym (natural_digit b cs e) ∙ k

pub written_digits : (n : ℕ) → digits (digits_of n) ≡ true
written_digits n = natural_digits (digits_of n) (written_form n)

-- ---- reading what is written

pub read_natural : (low high n : ℕ) → low ≤ n → n ≤ high → natural_of low high (digits_of n) ≡ Ok n
unfolding natural_of in_natural_range
read_natural low high n l h = rw (written_form n, written_value n, le-leb low n l, le-leb n high h)

-- a natural number's text does not begin with `-`
no_minus : (b : ℕ) (bs : List ℕ) → natural_form (b ∷ bs) ≡ true → eqb b 45 ≡ false
no_minus b bs h = go (eqb b 45) refl
  where
    go : (t : Bool) → eqb b 45 ≡ t → t ≡ false
    go true e = absurd (false≢true (sym (natural_dash b bs e) ∙ h))
    go false e = refl

natural_integer : (bs : List ℕ) → natural_form bs ≡ true → (integer_form bs ≡ true) × (integer_value bs ≡ pos (value_of bs))
unfolding integer_value
natural_integer [] h = absurd (false≢true (sym natural_empty ∙ h))
natural_integer (b ∷ bs) h = (integer_natural b bs (no_minus b bs h) ∙ h, rw (no_minus b bs h))

pub read_integer : (z : ℤ) → integer_of (integer_text z) ≡ in_signed_range z
unfolding integer_of integer_text integer_value
read_integer (pos n) =
    let p = natural_integer (digits_of n) (written_form n) in
    rw (p.0, p.1, written_value n)
read_integer (negsuc n) = rw (integer_dash 45 (digits_of (suc n)) refl, written_positive (suc n) (omega arith), written_value (suc n))

natural_not_dash : (bs : List ℕ) → natural_form bs ≡ true → dash bs ≡ false
unfolding dash
natural_not_dash [] h = refl
natural_not_dash (b ∷ bs) h = rw (no_minus b bs h)

positive_some : (bs : List ℕ) → positive bs ≡ true → none bs ≡ false
unfolding positive none
positive_some [] h = sym h
positive_some (b ∷ bs) h = refl

-- no number is written as `-` alone
pub integer_not_dash : (z : ℤ) → dash (integer_text z) ≡ false
unfolding integer_text dash
integer_not_dash (pos n) = natural_not_dash (digits_of n) (written_form n)
integer_not_dash (negsuc n) = rw (positive_some (digits_of (suc n)) (written_positive (suc n) (omega arith)))

-- ---- writing what was read

digit_more : (v b : ℕ) → 0 < v → digit b ≡ true → digits_of (v * 10 + (b - 48)) ≡ digits_of v ++ (b ∷ [])
digit_more v b h e =
    let l : 48 ≤ b = digit_low b e in
    let u : b ≤ 57 = digit_high b e in
    let q : (v * 10 + (b - 48)) / 10 ≡ v = omega arith in
    let r : 48 + (v * 10 + (b - 48)) % 10 ≡ b = omega arith in
    digits_more (v * 10 + (b - 48)) (omega arith) ∙ rw (q, r)

digits_from : (v : ℕ) (bs : List ℕ) → 0 < v → digits bs ≡ true → digits_of (value_from v bs) ≡ digits_of v ++ bs
unfolding value_from digits
digits_from v [] h e = sym (append-nil (digits_of v))
digits_from v (b ∷ bs) h e =
    digits_from (v * 10 + (b - 48)) bs (omega arith) (and_right (digit b) (digits bs) e)
    ∙ rw (digit_more v b h (and_left (digit b) (digits bs) e)) (append_assoc (digits_of v) (b ∷ []) bs)

value_grows : (v : ℕ) (bs : List ℕ) → v ≤ value_from v bs
unfolding value_from
value_grows v [] = omega arith
value_grows v (b ∷ bs) = omega (arith, value_grows (v * 10 + (b - 48)) bs)

-- of a non-zero digit and digits
positive_back : (bs : List ℕ) → positive bs ≡ true → (digits_of (value_of bs) ≡ bs) × (0 < value_of bs)
unfolding positive value_of value_from
positive_back [] h = absurd (false≢true h)
positive_back (b ∷ bs) h =
    let p = positive_parts b bs h in
    let l : 48 ≤ b = digit_low b p.1 in
    let u : b ≤ 57 = digit_high b p.1 in
    let d : b ≡ 48 → ⊥ = eqb-false b 48 p.0 in
    let z : 0 < 0 * 10 + (b - 48) = omega arith in
    let r : 48 + (0 * 10 + (b - 48)) ≡ b = omega arith in (
      digits_from (0 * 10 + (b - 48)) bs z p.2 ∙ rw (digits_one (0 * 10 + (b - 48)) (omega arith), r),
      omega (arith, value_grows (0 * 10 + (b - 48)) bs),
    )

natural_back : (bs : List ℕ) → natural_form bs ≡ true → digits_of (value_of bs) ≡ bs
unfolding none value_of value_from
natural_back [] h = absurd (false≢true (sym natural_empty ∙ h))
natural_back (b ∷ bs) h = go (eqb b 48) bs refl h
  where
    go : (t : Bool) (cs : List ℕ) → eqb b 48 ≡ t → natural_form (b ∷ cs) ≡ true → digits_of (value_of (b ∷ cs)) ≡ b ∷ cs
    go true [] e k = rw (eqb-true b 48 e) (digits_one 0 (omega arith))
    go true (x ∷ cs) e k = absurd (false≢true (sym (natural_zero b (x ∷ cs) e) ∙ k))
    go false cs e k = (positive_back (b ∷ cs) (positive_digit b cs e ∙ sym (natural_digit b cs e) ∙ k)).0

minus_text : (v : ℕ) → 0 < v → integer_text (neg_ℤ (pos v)) ≡ 45 ∷ digits_of v
unfolding integer_text
minus_text zero h = absurd (omega arith)
minus_text (suc v) h = refl

integer_back : (bs : List ℕ) → integer_form bs ≡ true → integer_text (integer_value bs) ≡ bs
unfolding integer_text integer_value
integer_back [] h = absurd (false≢true (sym integer_empty ∙ h))
integer_back (b ∷ bs) h = go (eqb b 45) refl
  where
    go : (t : Bool) → eqb b 45 ≡ t → integer_text (integer_value (b ∷ bs)) ≡ b ∷ bs
    go true e =
        let p = positive_back bs (sym (integer_dash b bs e) ∙ h) in
        rw (eqb-true b 45 e) (minus_text (value_of bs) p.1 ∙ ap (λ (k : List ℕ). 45 ∷ k) p.0)
    go false e = rw e (natural_back (b ∷ bs) (sym (integer_natural b bs e) ∙ h))

-- ---- the same of the answers

-- a number that was read: it is written as the bytes, and is in its range
pub record NaturalRead (least most : ℕ) (bs : List ℕ) (v : ℕ) : Type 0 where
  pub text : digits_of v ≡ bs
  pub low : least ≤ v
  pub high : v ≤ most

pub natural_read : (least most : ℕ) (bs : List ℕ) (v : ℕ) → natural_of least most bs ≡ Ok v → NaturalRead least most bs v
unfolding natural_of in_natural_range
natural_read least most bs v h = go (natural_form bs) (leb least (value_of bs)) (leb (value_of bs) most) refl refl refl
  where
    go : (s t u : Bool) → natural_form bs ≡ s → leb least (value_of bs) ≡ t → leb (value_of bs) most ≡ u → NaturalRead least most bs v
    go false t u p q w = absurd (no_err (sym (rw p at h)))
    go true false u p q w = absurd (no_err (sym (rw (p, q) at h)))
    go true true false p q w = absurd (no_err (sym (rw (p, q, w) at h)))
    go true true true p q w =
        let e : value_of bs ≡ v = ok_ok (rw (p, q, w) at h) in
        record {
          text = rw (← e) (natural_back bs p);
          low = rw (← e) (leb-true least (value_of bs) q);
          high = rw (← e) (leb-true (value_of bs) most w);
        }

in_range_lem : (y z : ℤ) → in_signed_range y ≡ Ok z → y ≡ z
unfolding in_signed_range
in_range_lem y z h = go (le_z (negsuc 2147483647) y && le_z y (pos 2147483647)) refl
  where
    go : (t : Bool) → (le_z (negsuc 2147483647) y && le_z y (pos 2147483647)) ≡ t → y ≡ z
    go true p = ok_ok (rw p at h)
    go false p = absurd (no_err (sym (rw p at h)))

pub record IntegerRead (bs : List ℕ) (z : ℤ) : Type 0 where
  pub text : integer_text z ≡ bs
  pub range : in_signed_range z ≡ Ok z

pub integer_read : (bs : List ℕ) (z : ℤ) → integer_of bs ≡ Ok z → IntegerRead bs z
unfolding integer_of
integer_read bs z h = go (integer_form bs) refl
  where
    go : (t : Bool) → integer_form bs ≡ t → IntegerRead bs z
    go false p = absurd (no_err (sym (rw p at h)))
    go true p =
        let g : in_signed_range (integer_value bs) ≡ Ok z = rw p at h in
        let e : integer_value bs ≡ z = in_range_lem (integer_value bs) z g in
        record {
          text = rw (← e) (integer_back bs p);
          range = rw e at g;
        }
