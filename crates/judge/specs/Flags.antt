-- Which events are activations of a rule, at the places of the events.
use Rattle.std.specs.Prelude.{◌≡◌, Bool, false, List, ℕ, ◌-◌, ◌<◌, length, get_or}
use Rattle.declare.specs.declared.Event.{Event}
use Rattle.declare.specs.declared.Rule.{Rule}
use Rattle.declare.specs.Events.{no_event}
use Rattle.declare.specs.Suits.{is_activation}

-- the flag of position j in a row of them
unfoldable pub flag_at : List Bool → ℕ → Bool
flag_at row j = get_or row (j - 1) false

-- a flag for each event
pub record Flags (flags : List Bool) (rule : Rule) (events : List Event) : Type 0 where
  pub at : (p : ℕ) → p < length events → get_or flags p false ≡ is_activation rule (get_or events p no_event)
