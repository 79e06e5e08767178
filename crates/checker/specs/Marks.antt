-- Marks as numbers made: the change at a place has the number after it. Assumes nothing.
use Rattle.std.specs.Prelude.{ℕ, zero, suc, ◌-◌, Bool, false, ◌&&◌, List, [], ◌∷◌, get_or, replicate, set}
use Rattle.answer.specs.Ask.{pick}
use Rattle.lists.specs.Counts.{passing}
use Rattle.protocol.specs.Orders.{up_to}
use Rattle.checker.specs.Layout.{no_change, on_at}
use Rattle.checker.specs.declared.AgreedChange.{AgreedChange}

-- whether a number is marked
abbrev pub marked : List Bool → ℕ → Bool
marked marks k = get_or marks (k - 1) false

-- the marked numbers up to one, the highest first
abbrev pub made_in : List Bool → ℕ → List ℕ
made_in marks n = passing (marked marks) (up_to n)

-- the marked numbers of so many places from one on, the lowest first
unfoldable pub rising_from : List Bool → ℕ → ℕ → List ℕ
rising_from marks i zero = []
rising_from marks i (suc n) = pick (get_or marks i false) (suc i ∷ rising_from marks (suc i) n) (rising_from marks (suc i) n)

abbrev pub rising_in : List Bool → ℕ → List ℕ
rising_in marks n = rising_from marks 0 n

-- for inner functions: the ports of all lengths at a switch, once the marked ones of the first changes are made
unfoldable pub ports_in : List AgreedChange → List Bool → ℕ → ℕ → ℕ → List ℕ
ports_in laid marks s address zero = replicate 33 0
ports_in laid marks s address (suc i) =
    let before = ports_in laid marks s address i in
    pick (get_or marks i false && on_at laid i s address)
    (set before (get_or laid i no_change).length (get_or laid i no_change).port) before
