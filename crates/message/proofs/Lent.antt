-- The key of an end as it is lent: the part of the key store from the end's number on. Assumes nothing.
use mathlib.Core.Path.{◌≡◌}
use mathlib.Core.List.{List}
use Prim.Native.Nat.{ℕ, ◌+◌, ◌-◌, ◌*◌}
use native.Mathlib.Omega.{arith}
use lib.ListN.{take, drop}
use Rattle.message.specs.Keys.{key_length, key_at}

pub key_lent : (keys : List ℕ) (i : ℕ)
    → take (key_length * i + key_length - key_length * i) (drop (key_length * i) keys) ≡ key_at keys i
key_lent keys i = let long : key_length * i + key_length - key_length * i ≡ key_length = omega arith in rw long
