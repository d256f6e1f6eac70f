-- The reader's turns: the checks of an event below those above it.
use mathlib.Core.Path.{◌≡◌, ap, ◌∙◌}
use mathlib.Core.List.{List, [], ◌∷◌, ◌++◌}
use Prim.Native.Nat.{◌≤◌, ◌<◌}
use borrow.Author.Tests.{leb-true, le-leb, lt-leb, ltb-true, lt-ltb, le-ltb}
use lib.ListN.{length}
use Rattle.declare.specs.Limits.{most_events}
use Rattle.declare.specs.Events.{last_from, last_time}
use Rattle.declare.specs.Answers.{Answer, accepted, refused, ◌>>◌, require}
use Rattle.declare.proofs.Answers.{of_of, through, required}
use Rattle.declare.proofs.Extension.{last_parts}
use Rattle.cycle_text.specs.Types.{Event}
use Rattle.cycle_text.specs.Cycle.{in_order}
use Rattle.cycle_text.specs.Reads.{below}

module _ (above : List Event) (e : Event) where
  pub falls : e.time < last_time above → in_order above e ≡ refused 7
  unfolding ◌>>◌ require in_order
  falls l = rw (lt-leb (last_time above) e.time l)

  module _ (l : last_time above ≤ e.time) where
    pub full : most_events ≤ length above → in_order above e ≡ refused 8
    unfolding ◌>>◌ require in_order
    full m = rw (le-leb (last_time above) e.time l, le-ltb (length above) most_events m)

    pub in_order_lem : length above < most_events → in_order above e ≡ accepted e
    unfolding ◌>>◌ require in_order
    in_order_lem m = rw (le-leb (last_time above) e.time l, lt-ltb (length above) most_events m)

  pub last_taken : last_time (above ++ (e ∷ [])) ≡ e.time
  unfolding last_time last_from
  last_taken = last_parts 0 above (e ∷ [])

-- an event that was passed: its line gave it, and it may stand below those above it
pub record Passed (above : List Event) (answer : Answer Event) (e : Event) : Type 0 where
  pub line : answer ≡ accepted e
  pub order : last_time above ≤ e.time
  pub room : length above < most_events

pub passed_lem : (above : List Event) (answer : Answer Event) (e : Event) → below above answer ≡ accepted e → Passed above answer e
unfolding below in_order
passed_lem above answer e h =
    let t = through _ _ e h in
    let o = required _ 7 _ e t.rest in
    let l = required _ 8 _ e o.1 in
    let k : t.value ≡ e = of_of l.1 in
    record {
      line = t.first ∙ ap accepted k;
      order = leb-true (last_time above) e.time (rw k at o.0);
      room = ltb-true (length above) most_events l.0;
    }
