-- What holds by the variant of a `Result`.
use Rattle.std.proofs.Common.{Result, Ok, Err, OnErr}

-- what holds in any case holds on `Err`
pub OnErr-always : {T E : Type 0} (r : Result T E) (P : Type 0) → P → OnErr r P
OnErr-always (Ok x) P p = tt
OnErr-always (Err y) P p = p
