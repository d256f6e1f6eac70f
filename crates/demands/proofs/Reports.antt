-- The lines of a run's report: which there are, and that they stand in order. A line has a rank, by
-- its rule and its position, the total past all positions; one after another the ranks rise.
use mathlib.Core.Path.{◌≡◌, refl, ap}
use mathlib.Core.Logic.{◌⊎◌, inl, inr}
use mathlib.Core.Bool.{Bool, true, false}
use mathlib.Core.List.{List, [], ◌∷◌, ◌++◌}
use Prim.Native.Nat.{ℕ, zero, suc, ◌+◌, ◌*◌, ◌≤◌, ◌<◌, zero-le}
use native.Mathlib.Omega.{arith}
use borrow.Author.Tests.{leb-true, leb-false}
use lib.Dec.{leb}
use lib.ListN.{length}
use Rattle.declare.specs.declared.Standing.{Standing}
use Rattle.declare.specs.declared.Standing.TheVariants.{Idle, Open, Fulfilled, Violated}
use Rattle.run.specs.declared.Run.{Run}
use Rattle.run.specs.Records.{standing_at, totals_in}
use Rattle.printing.specs.Lines.{PrintedLine, activation_line, total_line, refused_line}
use Rattle.printing.specs.Report.{position_lines, lines_up_to, event_lines, activation_lines, total_of, rule_lines, report_lines}
use Rattle.demands.proofs.Places.{At, here, at_left, at_right, Past, at_either, at_below, at_none, at_single}

-- ---- which lines there are

-- of the lines of 1 to n, those of one of them
record LineUpTo (f : ℕ → List PrintedLine) (n : ℕ) (l : PrintedLine) : Type 0 where
  number : ℕ
  low : 1 ≤ number
  high : number ≤ n
  place : ℕ
  stands : At (f number) place l

module _ (f : ℕ → List PrintedLine) (l : PrintedLine) where
  up_to_at : (n p : ℕ) → At (lines_up_to f n) p l → LineUpTo f n l
  unfolding lines_up_to
  up_to_at zero p a = absurd (at_none a)
  up_to_at (suc n) p a = go (at_either (lines_up_to f n) a) (up_to_at n p)
    where
      go : At (lines_up_to f n) p l ⊎ Past (lines_up_to f n) (f (suc n)) p l → (At (lines_up_to f n) p l → LineUpTo f n l) → LineUpTo f (suc n) l
      go (inl b) next = let w = next b in record { number = w.number; low = w.low; high = (let h = w.high in omega arith); place = w.place; stands = w.stands }
      go (inr b) next = record { number = suc n; low = omega arith; high = omega arith; place = b.after; stands = b.stands }

  at_up_to : (n i q : ℕ) → 1 ≤ i → i ≤ n → At (f i) q l → (p : ℕ) × At (lines_up_to f n) p l
  unfolding lines_up_to
  at_up_to zero i q a b c = absurd (omega arith)
  at_up_to (suc n) i q a b c = go (leb i n) refl (at_up_to n i q a)
    where
      go : (t : Bool) → leb i n ≡ t → (i ≤ n → At (f i) q l → (p : ℕ) × At (lines_up_to f n) p l) → (p : ℕ) × At (lines_up_to f n ++ f (suc n)) p l
      go true e next = let d = next (leb-true i n e) c in (d.0, at_left (f (suc n)) d.1)
      go false e next =
          let last : i ≡ suc n = omega (arith, leb-false i n e) in
          (length (lines_up_to f n) + q, at_right (lines_up_to f n) (rw last at c))

position_at : (k i : ℕ) (s : Standing) (q : ℕ) (l : PrintedLine) → At (position_lines k i s) q l → position_lines k i s ≡ l ∷ []
unfolding position_lines
position_at k i Idle q l a = absurd (at_none a)
position_at k i Open q l a = ap (λ x. x ∷ []) (at_single a)
position_at k i (Fulfilled j) q l a = ap (λ x. x ∷ []) (at_single a)
position_at k i (Violated j) q l a = ap (λ x. x ∷ []) (at_single a)

-- the line of a position under rule k, or its total
pub record PositionLine (r : Run) (k : ℕ) (l : PrintedLine) : Type 0 where
  pub position : ℕ
  pub high : position ≤ r.count
  pub line : position_lines k position (standing_at r k position) ≡ l ∷ []

pub record RunLine (r : Run) (l : PrintedLine) : Type 0 where
  pub rule : ℕ
  pub low : 1 ≤ rule
  pub high : rule ≤ r.table.count
  pub line : PositionLine r rule l ⊎ (total_of rule (totals_in r rule) ≡ l)

module _ (r : Run) (l : PrintedLine) where
  -- position 0, or one of the events
  position_line : (k p : ℕ) → At (activation_lines k (standing_at r k) r.count) p l → PositionLine r k l
  unfolding activation_lines event_lines
  position_line k p a = go (at_either (position_lines k 0 (standing_at r k 0)) a)
    where
      go : At (position_lines k 0 (standing_at r k 0)) p l ⊎ Past (position_lines k 0 (standing_at r k 0)) (lines_up_to (λ i. position_lines k i (standing_at r k i)) r.count) p l → PositionLine r k l
      go (inl b) = record { position = 0; high = zero-le; line = position_at k 0 (standing_at r k 0) p l b }
      go (inr b) =
          let w = up_to_at (λ i. position_lines k i (standing_at r k i)) l r.count b.after b.stands in
          record { position = w.number; high = w.high; line = position_at k w.number _ w.place l w.stands }

  line_position : (k : ℕ) → PositionLine r k l → (q : ℕ) × At (activation_lines k (standing_at r k) r.count) q l
  unfolding activation_lines event_lines
  line_position k w = go w.position w.high (rw w.line here)
    where
      go : (i : ℕ) → i ≤ r.count → At (position_lines k i (standing_at r k i)) 0 l → (q : ℕ) × At (position_lines k 0 (standing_at r k 0) ++ lines_up_to (λ i. position_lines k i (standing_at r k i)) r.count) q l
      go zero b a = (0, at_left _ a)
      go (suc i) b a =
          let d = at_up_to (λ i. position_lines k i (standing_at r k i)) l r.count (suc i) 0 (omega arith) b a in
          (_, at_right (position_lines k 0 (standing_at r k 0)) d.1)

  rule_line_lem : (k p : ℕ) → At (rule_lines k (standing_at r k) r.count) p l → PositionLine r k l ⊎ (total_of k (totals_in r k) ≡ l)
  unfolding rule_lines
  rule_line_lem k p a = go (at_either (activation_lines k (standing_at r k) r.count) a)
    where
      go : At (activation_lines k (standing_at r k) r.count) p l ⊎ Past (activation_lines k (standing_at r k) r.count) (total_of k (totals_in r k) ∷ []) p l → PositionLine r k l ⊎ (total_of k (totals_in r k) ≡ l)
      go (inl b) = inl (position_line k p b)
      go (inr b) = inr (at_single b.stands)

  pub report_line : (p : ℕ) → At (report_lines r) p l → RunLine r l
  unfolding report_lines
  report_line p a =
      let w = up_to_at (λ k. rule_lines k (standing_at r k) r.count) l r.table.count p a in
      record { rule = w.number; low = w.low; high = w.high; line = rule_line_lem w.number w.place w.stands }

  line_rule : (k : ℕ) → PositionLine r k l ⊎ (total_of k (totals_in r k) ≡ l) → (q : ℕ) × At (rule_lines k (standing_at r k) r.count) q l
  unfolding rule_lines
  line_rule k (inl w) = let d = line_position k w in (d.0, at_left _ d.1)
  line_rule k (inr e) = (_, at_right {p = 0} (activation_lines k (standing_at r k) r.count) (rw e here))

  pub line_report : RunLine r l → (p : ℕ) × At (report_lines r) p l
  unfolding report_lines
  line_report w =
      let d = line_rule w.rule w.line in
      at_up_to (λ k. rule_lines k (standing_at r k) r.count) l r.table.count w.rule d.0 w.low w.high d.1

-- ---- in which order

abbrev pub rank : PrintedLine → ℕ
rank (activation_line k i letter j) = k * 1000 + i
rank (total_line k a f v) = k * 1000 + 999
rank (refused_line word n line) = 0

-- the ranks are from low to below high, and rise
pub record Rising (low high : ℕ) (ls : List PrintedLine) : Type 0 where
  pub bounds : (p : ℕ) (l : PrintedLine) → At ls p l → (low ≤ rank l) × (rank l < high)
  pub order : (p q : ℕ) (l m : PrintedLine) → p < q → At ls p l → At ls q m → rank l < rank m

rising_none : (a b : ℕ) → Rising a b []
rising_none a b = record { bounds = λ p l x. absurd (at_none x); order = λ p q l m h x y. absurd (at_none x) }

rising_one : (a b : ℕ) (l : PrintedLine) → a ≤ rank l → rank l < b → Rising a b (l ∷ [])
rising_one a b l h i = record { bounds = bounds; order = λ p q x y g u v. absurd (let w = at_below v in omega arith) }
  where
    bounds : (p : ℕ) (x : PrintedLine) → At (l ∷ []) p x → (a ≤ rank x) × (rank x < b)
    bounds p x u = rw (← at_single u) (h, i)

rising_append : {a b c : ℕ} (xs ys : List PrintedLine) → a ≤ b → b ≤ c → Rising a b xs → Rising b c ys → Rising a c (xs ++ ys)
rising_append {a} {b} {c} xs ys f g x y =
    record {
      bounds = λ p l u. bounds p l (at_either xs u);
      order = λ p q l m h u v. order p q l m h (at_either xs u) (at_either xs v);
    }
  where
    bounds : (p : ℕ) (l : PrintedLine) → At xs p l ⊎ Past xs ys p l → (a ≤ rank l) × (rank l < c)
    bounds p l (inl u) = let w = x.bounds p l u in (omega arith, omega arith)
    bounds p l (inr u) = let w = y.bounds u.after l u.stands in (omega arith, omega arith)

    order : (p q : ℕ) (l m : PrintedLine) → p < q → At xs p l ⊎ Past xs ys p l → At xs q m ⊎ Past xs ys q m → rank l < rank m
    order p q l m h (inl u) (inl v) = x.order p q l m h u v
    order p q l m h (inl u) (inr v) =
        let d = (x.bounds p l u).1 in
        let e = (y.bounds v.after m v.stands).0 in
        omega arith
    order p q l m h (inr u) (inl v) =
        let d = u.place in
        let e = at_below v in
        absurd (omega arith)
    order p q l m h (inr u) (inr v) =
        let d = u.place in
        let e = v.place in
        y.order u.after v.after l m (omega arith) u.stands v.stands

rising_up_to : (f : ℕ → List PrintedLine) (g : ℕ → ℕ) → ((i : ℕ) → g i ≤ g (suc i)) → (n : ℕ) → ((i : ℕ) → 1 ≤ i → i ≤ n → Rising (g i) (g (suc i)) (f i)) → Rising (g 1) (g (suc n)) (lines_up_to f n)
unfolding lines_up_to
rising_up_to f g up zero h = rising_none _ _
rising_up_to f g up (suc n) h =
    rising_append (lines_up_to f n) (f (suc n)) (steps n) (up (suc n)) (rising_up_to f g up n (λ i a b. h i a (omega arith))) (h (suc n) (omega arith) (omega arith))
  where
    steps : (m : ℕ) → g 1 ≤ g (suc m)
    steps zero = omega arith
    steps (suc m) = let a = steps m in let b = up (suc m) in omega arith

rising_position : (k i : ℕ) (s : Standing) → Rising (k * 1000 + i) (k * 1000 + suc i) (position_lines k i s)
unfolding position_lines
rising_position k i Idle = rising_none _ _
rising_position k i Open = rising_one _ _ _ (omega arith) (omega arith)
rising_position k i (Fulfilled j) = rising_one _ _ _ (omega arith) (omega arith)
rising_position k i (Violated j) = rising_one _ _ _ (omega arith) (omega arith)

wider : {a b c d : ℕ} {ls : List PrintedLine} → c ≤ a → b ≤ d → Rising a b ls → Rising c d ls
wider f g x = record { bounds = λ p l u. (let w = x.bounds p l u in (omega arith, omega arith)); order = x.order }

pub report_rises : (r : Run) → r.count ≤ 256 → Rising 1000 (suc r.table.count * 1000) (report_lines r)
unfolding report_lines
report_rises r few = rising_up_to _ (λ k. k * 1000) (λ k. omega arith) r.table.count (λ k a b. rule k)
  where
    positions : (k : ℕ) → Rising (k * 1000 + 0) (k * 1000 + suc r.count) (activation_lines k (standing_at r k) r.count)
    positions k =
        unfold activation_lines event_lines in
        rising_append _ _ (omega arith) (omega arith) (rising_position k 0 (standing_at r k 0)) (rising_up_to _ (λ i. k * 1000 + i) (λ i. omega arith) r.count (λ i a b. rising_position k i (standing_at r k i)))

    rule : (k : ℕ) → Rising (k * 1000) (suc k * 1000) (rule_lines k (standing_at r k) r.count)
    rule k =
        unfold rule_lines total_of in
        wider (omega arith) (omega arith) (rising_append _ _ (omega arith) (omega arith) (positions k) (rising_one (k * 1000 + suc r.count) (k * 1000 + 1000) _ (omega arith) (omega arith)))
