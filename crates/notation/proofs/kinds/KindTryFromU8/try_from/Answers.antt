-- `try_from` meets its contract: a byte that is none of nine is no kind's.
use Rattle.std.proofs.Common.{refl}
use borrow.Author.Tests.{ne_eqb}
use Rattle.notation.specs.Kinds.{record_size, of_kind}
use Rattle.notation.proofs.kinds.KindTryFromU8.try_from.Goals as goal

pub returns-in_default : goal.returns-in_default
unfolding record_size of_kind
returns-in_default c = let k = c.args.byte in
    let none = c.in_default.in_default-own.rest in (
      refl,
      rw (
        ne_eqb k 17 none.0.0.0.0.0.0.0.0.1,
        ne_eqb k 18 none.0.0.0.0.0.0.0.1,
        ne_eqb k 19 none.0.0.0.0.0.0.1,
        ne_eqb k 33 none.0.0.0.0.0.1,
        ne_eqb k 34 none.0.0.0.0.1,
        ne_eqb k 35 none.0.0.0.1,
        ne_eqb k 36 none.0.0.1,
        ne_eqb k 37 none.0.1,
        ne_eqb k 38 none.1,
      ),
    )
