-- Every row beside the marked edges holds. All but one are computed from the ends' definitions.
use mathlib.Core.Path.{refl}
use mathlib.Core.List.{◌++◌}
use native.Mathlib.Omega.{arith}
use lib.Count.{ones}
use Rattle.answer.specs.Ask.{reply}
use Rattle.lists.specs.Arrays.{pad, every_tail, every}
use Rattle.lists.specs.Bytes.{field, num}
use Rattle.lists.specs.Kinds.{among, kinds}
use Rattle.flow.specs.Tables.{table_ok}
use Rattle.playbook.specs.Books.{keys_on, last_count, count_last}
use Rattle.playbook.specs.Reading.{read_from}
use Rattle.switch.specs.Slots.{agreeing}
use Rattle.switch.specs.Shares.{take_share}
use Rattle.edges.specs.Asking.{Open, InRange}
use Rattle.edges.specs.Table.{Hold}
use Rattle.edges.specs.Beside.{setups, traps, ports, orders, beside}
use Rattle.edges.proofs.Shares.{share_15}
use Rattle.edges.proofs.Theorem.{joined}

setups_hold : (o : Open) → Hold o setups
unfolding reply
setups_hold o = (refl, (refl, (refl, (refl, tt))))

traps_hold : (o : Open) → Hold o traps
unfolding reply take_share agreeing pad ones among
traps_hold o = (refl, (refl, (refl, (refl, (refl, (refl, tt))))))

ports_hold : (o : Open) → Hold o ports
unfolding read_from reply table_ok pad every_tail every num field among kinds keys_on last_count count_last
ports_hold o = (refl, (refl, tt))

orders_hold : (o : Open) → InRange o → Hold o (orders o)
unfolding read_from reply table_ok
orders_hold o h = (share_15 o h 0 o.prefix 33 (omega arith) h.prefix refl, (refl, (refl, (refl, (refl, tt)))))

pub beside_hold : (o : Open) → InRange o → Hold o (beside o)
beside_hold o h =
    joined o setups (traps ++ ports ++ orders o) (setups_hold o)
    (joined o traps (ports ++ orders o) (traps_hold o) (joined o ports (orders o) (ports_hold o) (orders_hold o h)))
