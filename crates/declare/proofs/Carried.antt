-- A decided standing is carried over, any other is not; only idle is idle, and not decided.
use mathlib.Core.Path.{◌≡◌, refl}
use mathlib.Core.Bool.{true, false, true≢false, false≢true}
use Rattle.declare.specs.Types.{Standing, Idle, Open, Fulfilled, Violated}
use Rattle.declare.specs.Standings.{is_idle, is_decided}
use Rattle.declare.specs.Steps.{carried}

pub carried_decided : (s t : Standing) → is_decided s ≡ true → carried s t ≡ s
unfolding carried
carried_decided Idle t h = absurd (false≢true h)
carried_decided Open t h = absurd (false≢true h)
carried_decided (Fulfilled j) t h = refl
carried_decided (Violated j) t h = refl

pub carried_other : (s t : Standing) → is_decided s ≡ false → carried s t ≡ t
unfolding carried
carried_other Idle t h = refl
carried_other Open t h = refl
carried_other (Fulfilled j) t h = absurd (true≢false h)
carried_other (Violated j) t h = absurd (true≢false h)

pub only_idle : (s : Standing) → is_idle s ≡ true → s ≡ Idle
only_idle Idle h = refl
only_idle Open h = absurd (false≢true h)
only_idle (Fulfilled j) h = absurd (false≢true h)
only_idle (Violated j) h = absurd (false≢true h)

pub decided_active : (s : Standing) → is_decided s ≡ true → is_idle s ≡ false
decided_active Idle d = absurd (false≢true d)
decided_active Open d = refl
decided_active (Fulfilled j) d = refl
decided_active (Violated j) d = refl
