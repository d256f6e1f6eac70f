-- The first n bytes have room; either these are all, or the buffer is then full.
use mathlib.Core.Path.{◌≡◌, refl}
use mathlib.Core.Bool.{Bool, true, false}
use mathlib.Core.List.{List}
use Prim.Native.Nat.{ℕ, ◌+◌, ◌-◌, ◌≤◌, ◌<◌, min}
use native.Mathlib.Omega.{arith}
use borrow.Author.Tests.{ltb-true, ltb-false}
use borrow.Rule.Slice.PartMut.{put_mid}
use lib.Dec.{ltb}
use lib.ListN.{length, take, drop, take-append-drop}
use lib.Seq.{take_all, length-take-le}
use Rattle.buffer.specs.Puts.{Puts}
use Rattle.buffer.proofs.Puts.{puts_mid, puts_then, puts_as, puts_full, puts_length}
use Rattle.buffer.proofs.put.Output.put_bytes.Goals as goal

-- the others have no room
rest : (bytes l m : List ℕ) (at n : ℕ) → n ≡ min (length bytes) (length l - at) → at < length l → Puts (take n bytes) l at m (at + n) → Puts bytes l at m (at + n)
rest bytes l m at n e h p = go (ltb n (length bytes)) refl
  where
    go : (t : Bool) → ltb n (length bytes) ≡ t → Puts bytes l at m (at + n)
    go false s = puts_as (take_all n bytes (ltb-false n (length bytes) s)) p
    go true s =
        let k : length m ≡ length l = puts_length p in
        let full : length m ≤ at + n = omega (arith, ltb-true n (length bytes) s) in
        puts_as (take-append-drop n bytes) (puts_then p (puts_full (drop n bytes) m (at + n) full))

put : (bytes l : List ℕ) (at n : ℕ) → n ≡ min (length bytes) (length l - at) → at < length l → Puts bytes l at (put_mid at n l (take n bytes)) (at + n)
put bytes l at n e h =
    let few : length (take n bytes) ≡ n = length-take-le n bytes (omega arith) in
    rest bytes l _ at n e h (rw few at (puts_mid l (take n bytes) at (rw few (omega arith))))

pub returns-then-self : goal.returns-then-self
returns-then-self c =
    let n = c.min-n.result in
    let at = c.args.self.now.at in
    let e : at + n - at ≡ n = omega arith in
    record {
      same_reference = refl;
      puts = rw (c.copy_from_slice.ensures.after, e) (put c.args.bytes.now c.args.self.now.bytes.now at n c.min-n.ensures c.if-self.true);
    }

pub returns-else-self : goal.returns-else-self
returns-else-self c = record { same_reference = refl; puts = puts_full _ _ _ c.if-self.false }
