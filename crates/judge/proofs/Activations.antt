-- What the flags say of the activations.
use mathlib.Core.Path.{◌≡◌, sym, ◌∙◌, ap}
use mathlib.Core.Bool.{Bool, true, false}
use mathlib.Core.List.{List}
use Prim.Native.Nat.{ℕ, ◌+◌, ◌-◌, ◌<◌, ◌≤◌}
use native.Mathlib.Omega.{arith}
use lib.Dec.{eqb}
use lib.ListN.{length, get_or, set, replicate}
use lib.Seq.{get_or-set_same, get_or-set_other}
use native.Mathlib.Decide.{ℕ_discrete}
use Rattle.declare.proofs.Lists.{replicated}
use Rattle.declare.specs.declared.Event.{Event}
use Rattle.declare.specs.declared.Rule.{Rule}
use Rattle.declare.specs.Events.{no_event}
use Rattle.declare.specs.Conditions.{met}
use Rattle.declare.specs.Overall.{is_overall}
use Rattle.declare.specs.Suits.{occurs, is_activation}
use Rattle.judge.specs.declared.columns.Columns.{Columns}
use Rattle.judge.specs.Flags.{flag_at, Flags}
use Rattle.judge.specs.Ready.{Ready}

-- a flag by its place
pub flag_at_lem : (row : List Bool) (q : ℕ) → flag_at row (q + 1) ≡ get_or row q false
unfolding flag_at
flag_at_lem row q =
    let z : q + 1 - 1 ≡ q = omega arith in
    ap (λ (k : ℕ). get_or row k false) z

-- under a rule about the cycle no event is an activation; under another, an event of its activity is
-- one if it meets the condition
of_cycle : (r : Rule) (e : Event) → is_overall r.code ≡ true → is_activation r e ≡ false
unfolding is_activation
of_cycle r e o = rw o

pub of_activity : (r : Rule) (e : Event) → is_overall r.code ≡ false → eqb e.activity r.activation ≡ true → met r.condition e e ≡ is_activation r e
unfolding is_activation occurs
of_activity r e o h = rw (o, h)

pub other_activity : (r : Rule) (e : Event) → is_overall r.code ≡ false → eqb e.activity r.activation ≡ false → is_activation r e ≡ false
unfolding is_activation occurs
other_activity r e o h = rw (o, h)

-- ---- the loop over the events

-- the first p events have their flags, the others none
pub record FlagsTo (flags : List Bool) (r : Rule) (es : List Event) (p : ℕ) : Type 0 where
  pub done : (i : ℕ) → i < p → get_or flags i false ≡ is_activation r (get_or es i no_event)
  pub rest : (i : ℕ) → p ≤ i → get_or flags i false ≡ false

pub flags_none : (n : ℕ) (r : Rule) (es : List Event) → FlagsTo (replicate n false) r es 0
flags_none n r es = record { done = λ i l. absurd (omega arith); rest = λ i _. replicated n i false }

pub flags_again : {flags : List Bool} {r : Rule} {es : List Event} {p : ℕ} {v : Bool} → FlagsTo flags r es p → p < length flags → v ≡ is_activation r (get_or es p no_event) → FlagsTo (set flags p v) r es (p + 1)
flags_again {flags} {r} {es} {p} {v} f low e = record { done = λ i l. go i l (ℕ_discrete i p); rest = λ i l. get_or-set_other flags p i v false (omega arith) ∙ f.rest i (omega arith) }
  where
    go : (i : ℕ) → i < p + 1 → Dec (i ≡ p) → get_or (set flags p v) i false ≡ is_activation r (get_or es i no_event)
    go i l (yes m) = rw m (get_or-set_same flags p v false low ∙ e)
    go i l (no m) = get_or-set_other flags p i v false m ∙ f.done i (omega arith)

pub flags_kept : {flags : List Bool} {r : Rule} {es : List Event} {p : ℕ} → FlagsTo flags r es p → is_activation r (get_or es p no_event) ≡ false → FlagsTo flags r es (p + 1)
flags_kept {flags} {r} {es} {p} f e = record { done = λ i l. go i l (ℕ_discrete i p); rest = λ i l. f.rest i (omega arith) }
  where
    go : (i : ℕ) → i < p + 1 → Dec (i ≡ p) → get_or flags i false ≡ is_activation r (get_or es i no_event)
    go i l (yes m) = rw m (f.rest p (omega arith) ∙ sym e)
    go i l (no m) = f.done i (omega arith)

pub flags_all : {flags : List Bool} {r : Rule} {es : List Event} {p : ℕ} → FlagsTo flags r es p → length es ≤ p → Flags flags r es
flags_all f l = record { at = λ i b. f.done i (omega arith) }

-- a rule about the cycle has none
pub flags_of_cycle : (n : ℕ) (r : Rule) (es : List Event) → is_overall r.code ≡ true → Flags (replicate n false) r es
flags_of_cycle n r es o = record { at = λ i _. replicated n i false ∙ sym (of_cycle r (get_or es i no_event) o) }

-- the flag of a place tells whether its event is an activation
pub flag_tells : {c : Columns} {es : List Event} {row : List Bool} {r : Rule} {p : ℕ} → Ready c es row r p → is_activation r (get_or es p no_event) ≡ get_or row p false
flag_tells {p = p} ready = sym (ready.flags.at p ready.low)
