-- The columns show the events passed so far; the stores of a turn change no earlier place.
use Rattle.std.proofs.Common.{◌≡◌, length, get_or, length-set, refl, rules, arith, to_z, of_z, w64}
use Rattle.declare.specs.Events.{no_event}
use Rattle.judge.proofs.ByColumn.{shows_none, shows_again}
use Rattle.judge.proofs.columns.columns_of.Goals as goal

pub loop-q-init : goal.loop-q-init
loop-q-init c = (search rules, search rules, search rules, shows_none _ _)

pub loop-q-preserved : goal.loop-q-preserved
unfolding no_event
loop-q-preserved c =
    let l = c.loop-q in
    let es = c.args.events.now in
    let w = c.as_number.result in
    let x = c.as_number-in-loop-q.result in
    let y = c.as_number-in-loop-q-2.result in
    let z = c.as_number-in-loop-q-3.result in
    let w_kept : to_z w64 (of_z w64 w) ≡ w = search rules in
    let x-kept : to_z w64 (of_z w64 x) ≡ x = search rules in
    let y_kept : to_z w64 (of_z w64 y) ≡ y = search rules in
    let z-kept : to_z w64 (of_z w64 z) ≡ z = search rules in (
      simp length-set l.invariant.0,
      simp length-set l.invariant.1,
      simp length-set l.invariant.2,
      rw (w_kept, x-kept, y_kept, z-kept)
          (shows_again l.times l.activities l.numbers es l.q (get_or es l.q no_event) w x y z l.invariant.0 l.invariant.1 l.invariant.2 (omega arith) refl
          c.as_number.ensures c.as_number-in-loop-q.ensures c.as_number-in-loop-q-2.ensures c.as_number-in-loop-q-3.ensures l.invariant.3),
    )

pub returns : goal.returns
returns c =
    let l = c.loop-q in
    let e : l.q ≡ length c.args.events.now = omega arith in
    rw (← e) l.invariant.3
