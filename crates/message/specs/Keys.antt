-- The key store of an end (document 01, question 21): a key for each end that it talks to, one after another; and the
-- keys of a rehearsal.
use Rattle.std.specs.Prelude.{ℕ, zero, suc, ◌-◌, ◌*◌, List, [], ◌∷◌, ◌++◌, replicate}
use Rattle.lists.specs.Bytes.{part}

-- the bytes of a key
abbrev pub key_length : ℕ
key_length = 32

-- the key of the end with a number
abbrev pub key_at : List ℕ → ℕ → List ℕ
key_at keys i = part key_length (key_length * i) keys

-- the keys of the first n ends, one after another
unfoldable pub joined : (ℕ → List ℕ) → ℕ → List ℕ
joined key zero = []
joined key (suc n) = joined key n ++ key n

-- the key of controller c and switch s in a rehearsal (document 01, "Rehearsal program"): the bytes c, s and zeros
abbrev pub key_of : ℕ → ℕ → List ℕ
key_of c s = c ∷ s ∷ replicate (key_length - 2) 0
